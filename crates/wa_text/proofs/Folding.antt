-- A text, line by line.
use Rattle.std.proofs.Common.{◌≡◌, ℕ, ◌+◌, ◌<◌, ◌≤◌, ◌==◌, ◌&&◌, nat_le, nat_lt, Bool, true, false, if◌then◌else◌, List}
use Rattle.std.proofs.Common.{[], ◌∷◌, ◌++◌, length, Option, Some, None, Result, Ok, Err, refl, ap, ◌∙◌, subst}
use Rattle.std.proofs.Common.{length-append, arith}
use Rattle.wa_ops.specs.Rows.{row_named}
use Rattle.wa_ops.specs.declared.modules.Import.{Import}
use Rattle.wa_ops.specs.declared.modules.Module.{Module}
use Rattle.wa_ops.specs.declared.op.Op.{Op}
use Rattle.wa_decode.specs.CodeReading.{opened}
use Rattle.hk_lines.specs.Cut.{behind, whole, cut}
use Rattle.wa_text.specs.declared.draft.Body.{Body}
use Rattle.wa_text.specs.declared.draft.Draft.{Draft}
use Rattle.wa_text.specs.declared.draft.Part.{Part}
use Rattle.wa_text.specs.declared.draft.Part.TheVariants as part
use Rattle.wa_text.specs.declared.draft.Turn.{Turn}
use Rattle.wa_text.specs.declared.draft.Turn.TheVariants as turn
use Rattle.wa_text.specs.declared.fault.AsmRule.{AsmRule}
use Rattle.wa_text.specs.declared.text_line.TextLine.{TextLine}
use Rattle.wa_text.specs.declared.text_line.TextLine.TheVariants as line
use Rattle.wa_text.specs.Draft.{Step, Turned, goes, ends, wrong, first_draft, is_imported, imported, is_closed}
use Rattle.wa_text.specs.Draft.{is_empty, rank, in_part, body_step, import_step, import_named, plain_step, call_step}
use Rattle.wa_text.specs.Draft.{step}
use Rattle.wa_text.specs.Lines.{shown, text_read}
use Rattle.wa_text.specs.Meaning.{breaks, unended, read_step, line_step, after_step, meaning_from, meaning}

-- ---- a line adds one import at most

abbrev pub IfGoes : (Draft → Type 0) → Step → Type 0
IfGoes P (goes draft) = P draft
IfGoes P (ends m) = Unit {0}
IfGoes P (wrong rule) = Unit {0}

-- a draft with which the text goes on has the property
pub record Keeps (P : Draft → Type 0) (did : Step) : Type 0 where
  pub kept : IfGoes P did

on : {P : Draft → Type 0} {draft : Draft} → P draft → Keeps P (goes draft)
on p = record { kept = p }

off : {P : Draft → Type 0} {rule : AsmRule} → Keeps P (wrong rule)
off = record { kept = tt }

out : {P : Draft → Type 0} {m : Module} → Keeps P (ends m)
out = record { kept = tt }

either : {P : Draft → Type 0} (test : Bool) {one other : Step} → Keeps P one → Keeps P other →
    Keeps P (if test then one else other)
either true h g = h
either false h g = g

in_body : {P : Draft → Type 0} (found : Option Body) {f : Body → Step} → ((body : Body) → Keeps P (f body)) →
    Keeps P (body_step found f)
in_body None h = off
in_body (Some body) h = h body

-- there is one import more at most
abbrev OneMore : Draft → Draft → Type 0
OneMore before draft = length draft.module.imports ≤ length before.module.imports + 1

of_row : (draft : Draft) (name : List ℕ) (row : Option ℕ) → Keeps (OneMore draft) (import_step draft name row)
of_row draft name None = off
of_row draft name (Some row) =
    let new : Import = imported name (length draft.module.imports) in
    let grown : length (draft.module.imports ++ new ∷ []) ≤ length draft.module.imports + 1 =
    omega (arith, length-append draft.module.imports (new ∷ [])) in
    either (is_imported name draft.module.imports) off (on grown)

of_op : (draft : Draft) (body : Body) (op : Op) (behind : Option (List Bool)) →
    Keeps (OneMore draft) (plain_step draft body op behind)
of_op draft body op None = off
of_op draft body op (Some regions) = on (omega arith)

of_call : (draft : Draft) (body : Body) (found : Option ℕ) → Keeps (OneMore draft) (call_step draft body found)
of_call draft body None = off
of_call draft body (Some index) = on (omega arith)

in_part_keeps : {P : Draft → Type 0} (draft : Draft) (most : Part) {did : Step} → Keeps P did →
    Keeps P (in_part draft most did)
in_part_keeps draft most h = either (nat_le (rank draft.part) (rank most)) h off

step_imports : (draft : Draft) (l : TextLine) → Keeps (OneMore draft) (step draft l)
unfolding step
step_imports draft (line.Import name) = in_part_keeps draft part.Imports (of_row draft name (row_named name))
step_imports draft (line.Memory min) = in_part_keeps draft part.Imports (on (omega arith))
step_imports draft (line.Global mutable value) = in_part_keeps draft part.Globals (on (omega arith))
step_imports draft (line.Data offset bytes) = in_part_keeps draft part.Data (on (omega arith))
step_imports draft line.Hook = either (is_closed draft.body && length draft.module.codes == 0) (on (omega arith)) off
step_imports draft line.Cbak = either (is_closed draft.body && length draft.module.codes == 1) (on (omega arith)) off
step_imports draft (line.Local kind) = in_body draft.body (λ body. either (is_empty body.ops) (on (omega arith)) off)
step_imports draft (line.Plain op) = in_body draft.body (λ body. of_op draft body op (opened op body.regions))
step_imports draft (line.Call name) =
    in_body draft.body (λ body. of_call draft body (import_named draft.module.imports name))
step_imports draft line.Close = in_body draft.body (λ body. either (is_empty body.regions) (on (omega arith)) off)
step_imports draft line.Done = either (is_closed draft.body && nat_lt 0 (length draft.module.codes)) out off

of_read : (draft : Draft) (read : Result TextLine AsmRule) → Keeps (OneMore draft) (read_step draft read)
of_read draft (Ok l) = step_imports draft l
of_read draft (Err rule) = off

line_imports : (draft : Draft) (bytes : List ℕ) → Keeps (OneMore draft) (line_step draft bytes)
line_imports draft [] = on (omega arith)
line_imports draft (byte ∷ bytes) = either (byte == 35) (on (omega arith)) (of_read draft (text_read (byte ∷ bytes)))

-- ---- the lines so far

-- What the lines that are left give is what the text means. Each line so far took a byte at least, and added an import
-- at most.
pub record Folds (text : List ℕ) (draft : Draft) (number : ℕ) (rest : List ℕ) : Type 0 where
  pub same : meaning text ≡ meaning_from draft number (cut rest)
  pub bytes : number + length rest ≤ length text + 1
  pub imports : length draft.module.imports < number

pub begins : (text : List ℕ) → Folds text first_draft 1 text
begins text = record { same = refl; bytes = omega arith; imports = omega arith }

-- what the text means, by its next line
next_line : (text : List ℕ) (draft : Draft) (number : ℕ) (rest line more : List ℕ) (did : Step) →
    Folds text draft number rest
    → cut rest ≡ whole line (cut more) → line_step draft (shown line) ≡ did
    → meaning text ≡ after_step number did (λ next. meaning_from next (number + 1) (cut more))
next_line text draft number rest line more did f c s =
    f.same
    ∙ ap (meaning_from draft number) c
    ∙ ap (λ d. after_step number d (λ next. meaning_from next (number + 1) (cut more))) s

pub goes_on : (text : List ℕ) (draft next : Draft) (number : ℕ) (rest line more : List ℕ) → Folds text draft number rest
    → cut rest ≡ whole line (cut more) → length more < length rest → (t : Turn) → t ≡ turn.Goes
    → Turned t next (line_step draft (shown line)) → Folds text next (number + 1) more
goes_on text draft next number rest line more f c shorter t is h =
    let s : line_step draft (shown line) ≡ goes next = subst (λ t. Turned t next (line_step draft (shown line))) is h in
    let grown : length next.module.imports ≤ length draft.module.imports + 1 =
    (subst (Keeps (OneMore draft)) s (line_imports draft (shown line))).kept in
    record {
      same = next_line text draft number rest line more (goes next) f c s;
      bytes = omega (arith, f.bytes, shorter);
      imports = omega (arith, f.imports, grown);
    }

-- ---- the bytes behind the last line feed

-- what the text means, by its last line, which has no line feed
last_line : (text : List ℕ) (draft : Draft) (number : ℕ) (rest : List ℕ) (did : Step) → Folds text draft number rest
    → cut rest ≡ behind rest → 0 < length rest → line_step draft (shown rest) ≡ did
    → meaning text ≡ after_step number did (λ next. unended (number + 1))
last_line text draft number [] did f c some s = absurd (omega (arith, some))
last_line text draft number (byte ∷ bytes) did f c some s =
    f.same ∙ ap (meaning_from draft number) c ∙ ap (λ d. after_step number d (λ next. unended (number + 1))) s

pub last_goes : (text : List ℕ) (draft next : Draft) (number : ℕ) (rest : List ℕ) → Folds text draft number rest
    → cut rest ≡ behind rest → 0 < length rest → (t : Turn) → t ≡ turn.Goes
    → Turned t next (line_step draft (shown rest)) → meaning text ≡ unended (number + 1)
last_goes text draft next number rest f c some t is h =
    last_line text draft number rest (goes next) f c some
    (subst (λ t. Turned t next (line_step draft (shown rest))) is h)

pub last_breaks : (text : List ℕ) (draft next : Draft) (rule : AsmRule) (number : ℕ) (rest : List ℕ) →
    Folds text draft number rest
    → cut rest ≡ behind rest → 0 < length rest → (t : Turn) → t ≡ turn.Wrong rule
    → Turned t next (line_step draft (shown rest)) → meaning text ≡ breaks number rule
last_breaks text draft next rule number rest f c some t is h =
    last_line text draft number rest (wrong rule) f c some
    (subst (λ t. Turned t next (line_step draft (shown rest))) is h)

-- bytes that are some
pub some_bytes : (rest : List ℕ) → false ≡ (length rest == 0) → 0 < length rest
some_bytes [] e = absurd cc
some_bytes (byte ∷ rest) e = omega arith
