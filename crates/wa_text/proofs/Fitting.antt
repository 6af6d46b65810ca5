-- The module that a text means fits.
use Rattle.std.proofs.Common.{◌≡◌, ℕ, suc, ◌+◌, ◌<◌, ◌≤◌, ◌==◌, Bool, true, false, if◌then◌else◌, List, [], ◌∷◌, length}
use Rattle.std.proofs.Common.{Result, Ok, Err, subst, arith}
use Rattle.wa_ops.specs.declared.modules.Module.{Module}
use Rattle.wa_encode.specs.Fitting.{Fits}
use Rattle.wa_encode.proofs.ModuleSpelled.{encoded_spells}
use Rattle.hk_lines.specs.Cut.{Cut, behind, whole, onto, cut}
use Rattle.wa_text.specs.declared.draft.Draft.{Draft}
use Rattle.wa_text.specs.declared.fault.AsmRule.{AsmRule}
use Rattle.wa_text.specs.declared.text_line.TextLine.{TextLine}
use Rattle.wa_text.specs.Draft as drafts
use Rattle.wa_text.specs.Draft.{Step, goes, ends, wrong, step}
use Rattle.wa_text.specs.Fitting.{AssembledFits, AssembledSpells}
use Rattle.wa_text.specs.Lines.{text_read, shown}
use Rattle.wa_text.specs.Meaning.{Meaning, means, unended, read_step, line_step, after_step, meaning_from}
use Rattle.wa_text.proofs.FittingLines.{Right, text_right, shown_size}
use Rattle.wa_text.proofs.FittingDrafts.{Sized, first_sized, later, Leads, refused, either, step_leads}

-- ---- lines

read_leads : (n c : ℕ) (draft : Draft) (read : Result TextLine AsmRule) → Sized n draft → 1 ≤ c → n + c ≤ 2097152 →
    Right c read → Leads (n + c) (read_step draft read)
read_leads n c draft (Ok l) h some most r = step_leads n c draft l h some most r.right
read_leads n c draft (Err rule) h some most r = refused

line_leads : (n c : ℕ) (draft : Draft) (bytes : List ℕ) → Sized n draft → length bytes < c → n + c ≤ 2097152 →
    Leads (n + c) (line_step draft bytes)
line_leads n c draft [] h long most = record { leads = later n c draft h }
line_leads n c draft (byte ∷ bytes) h long most =
    either (byte == 35) (record { leads = later n c draft h })
    (read_leads n c draft (text_read (byte ∷ bytes)) h (omega (arith, long)) most
    (text_right c (byte ∷ bytes) long (omega (arith, most))))

after_fits : {n : ℕ} (number : ℕ) (did : Step) (next : Draft → Meaning) (m : Module) → Leads n did →
    ((draft : Draft) → Sized n draft → next draft ≡ means m → Fits m) → after_step number did next ≡ means m → Fits m
after_fits number (goes draft) next m h g e = g draft h.leads e
after_fits number (ends found) next m h g e = let same : found ≡ m = cc e in subst Fits same h.leads
after_fits number (wrong rule) next m h g e = absurd (cc e)

-- the bytes of what was cut, and at most one more
abbrev cut_size : Cut → ℕ
cut_size (behind bytes) = length bytes + 1
cut_size (whole line more) = length line + 1 + cut_size more

cut_sized : (bytes : List ℕ) → cut_size (cut bytes) ≤ length bytes + 1
cut_sized [] = omega arith
cut_sized (byte ∷ bytes) = split (byte == 10) (cut bytes) (cut_sized bytes)
  where
    grown : (c : Cut) → cut_size (onto byte c) ≡ suc (cut_size c)
    grown (behind more) = omega arith
    grown (whole first more) = omega arith

    split : (t : Bool) (c : Cut) → cut_size c ≤ length bytes + 1 →
        cut_size (if t then whole [] c else onto byte c) ≤ length (byte ∷ bytes) + 1
    split true c h = omega (arith, h)
    split false c h = omega (arith, h, grown c)

lines_fit : (n number : ℕ) (draft : Draft) (c : Cut) (m : Module) → Sized n draft → n + cut_size c ≤ 2097152 →
    meaning_from draft number c ≡ means m → Fits m
lines_fit n number draft (whole first more) m h most e =
    after_fits number (line_step draft (shown first)) (λ next. meaning_from next (number + 1) more) m
    (line_leads n (length first + 1) draft (shown first) h (omega (arith, shown_size first)) (omega (arith, most)))
    (λ next g f. lines_fit (n + (length first + 1)) (number + 1) next more m g (omega (arith, most)) f)
    e
lines_fit n number draft (behind []) m h most e = absurd (cc e)
lines_fit n number draft (behind (byte ∷ bytes)) m h most e =
    after_fits number (line_step draft (shown (byte ∷ bytes))) (λ next. unended (number + 1)) m
    (line_leads n (length (byte ∷ bytes) + 1) draft (shown (byte ∷ bytes)) h (omega (arith, shown_size (byte ∷ bytes)))
    (omega (arith, most)))
    (λ next g f. absurd (cc f))
    e

pub assembled_fits : AssembledFits
assembled_fits text m few e =
    lines_fit 0 1 drafts.first_draft (cut text) m first_sized (omega (arith, few, cut_sized text)) e

pub assembled_spells : AssembledSpells
assembled_spells text m few e = encoded_spells m (assembled_fits text m few e)
