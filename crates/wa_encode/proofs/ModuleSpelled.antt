-- The bytes of a module that fits spell it.
use Rattle.std.proofs.Common.{◌≡◌, ℕ, zero, suc, ◌+◌, ◌<◌, ◌≤◌, inr, false, ◌==◌, List, [], ◌∷◌, ◌++◌, length}
use Rattle.std.proofs.Common.{option_map, Option, Some, None, MatchOption, refl, sym, ◌∙◌, subst, arith}
use Rattle.std.proofs.lemmas.Bool.{eq-eqb}
use Rattle.std.proofs.lemmas.Bool.Decides.{nat_tests}
use Rattle.wa_ops.specs.Soundness.{Each}
use Rattle.wa_ops.specs.declared.modules.Module.{Module}
use Rattle.wa_decode.specs.Grammar.{IsUnsigned, SpellsAll, SpellsVector}
use Rattle.wa_decode.specs.Modules.{SpellsFuncType, SpellsLimits, SpellsTable, SpellsImport, SpellsGlobal, SpellsExport}
use Rattle.wa_decode.specs.Modules.{SpellsElement, SpellsCode, SpellsSegment, SpellsStart, Section, SpellsSection}
use Rattle.wa_decode.specs.Modules.{IsOrdered, body_of, Part, HasParts, header}
use Rattle.wa_encode.specs.Fitting.{IsWord, IsWordIfThere, FitsItem, FitsLimits, FitsCode, FitsExport, FitsElement}
use Rattle.wa_encode.specs.Fitting.{FitsBody, FitsSegment, Fits, EncodedSpells}
use Rattle.wa_encode.specs.Modules.{func_type, limits, table, import, global, export, element, code, segment, filled}
use Rattle.wa_encode.specs.Modules.{contents, section, sections}
use Rattle.wa_encode.specs.Numbers.{number}
use Rattle.wa_encode.specs.Vectors.{text}
use Rattle.wa_encode.proofs.Items.{front_word, back_word, tail_word, word_spelled, Item, vector_spelled, text_spelled}
use Rattle.wa_encode.proofs.Items.{each_fits, number_item, func_type_item, limits_item, table_item, import_item}
use Rattle.wa_encode.proofs.Items.{global_item, export_item, element_item, code_item, segment_item}

-- ---- the sections with these contents

abbrev put_section : ℕ → Option (List ℕ) → List Section → List Section
put_section id None others = others
put_section id (Some inside) others = record { id = id; body = inside } ∷ others

abbrev listed : ℕ → List (Option (List ℕ)) → List Section
listed id [] = []
listed id (inside ∷ others) = put_section id inside (listed (suc id) others)

one_spelled : (id : ℕ) (inside : Option (List ℕ)) (others : List Section) (bytes : List ℕ) →
    IsWord (length (section id inside)) → SpellsAll SpellsSection others bytes
    → SpellsAll SpellsSection (put_section id inside others) (section id inside ++ bytes)
one_spelled id None others bytes l h = h
one_spelled id (Some inside) others bytes l h =
    (id ∷ text inside, bytes, (text inside, text_spelled inside (tail_word id (text inside) l), refl), h, refl)

sections_spelled : (id : ℕ) (bodies : List (Option (List ℕ))) → IsWord (length (sections id bodies)) →
    SpellsAll SpellsSection (listed id bodies) (sections id bodies)
sections_spelled id [] l = refl
sections_spelled id (inside ∷ others) l =
    let front = section id inside in
    let back = sections (suc id) others in
    one_spelled id inside (listed (suc id) others) back (front_word front back l)
    (sections_spelled (suc id) others (back_word front back l))

one_ordered : (last id : ℕ) (inside : Option (List ℕ)) (others : List Section) → last < id → id ≤ 11 →
    ((before : ℕ) → before < suc id → IsOrdered before others) → IsOrdered last (put_section id inside others)
one_ordered last id None others above few h = h last (omega arith)
one_ordered last id (Some inside) others above few h = inr (above, few, h id (omega arith))

ordered : (last id : ℕ) (bodies : List (Option (List ℕ))) → last < id → id + length bodies ≤ 12 →
    IsOrdered last (listed id bodies)
ordered last id [] above few = tt
ordered last id (inside ∷ others) above few =
    one_ordered last id inside (listed (suc id) others) above (omega arith)
    (λ before less. ordered before (suc id) others less (omega arith))

-- ---- a section by its id

abbrev at : List (Option (List ℕ)) → ℕ → Option (List ℕ)
at [] k = None
at (inside ∷ others) zero = inside
at (inside ∷ others) (suc k) = at others k

other_id : (wanted id : ℕ) (inside : Option (List ℕ)) (others : List Section) → wanted < id →
    body_of wanted (put_section id inside others) ≡ body_of wanted others
other_id wanted id None others less = refl
other_id wanted id (Some inside) others less = let t : (id == wanted) ≡ false = grind (arith, nat_tests) in rw t refl

later_id : (wanted id : ℕ) (inside : Option (List ℕ)) (others : List Section) → id < wanted →
    body_of wanted (put_section id inside others) ≡ body_of wanted others
later_id wanted id None others less = refl
later_id wanted id (Some inside) others less = let t : (id == wanted) ≡ false = grind (arith, nat_tests) in rw t refl

absent : (wanted id : ℕ) (bodies : List (Option (List ℕ))) → wanted < id → body_of wanted (listed id bodies) ≡ None
absent wanted id [] less = refl
absent wanted id (inside ∷ others) less =
    other_id wanted id inside (listed (suc id) others) less ∙ absent wanted (suc id) others (omega arith)

first : (id : ℕ) (inside : Option (List ℕ)) (others : List Section) → body_of id others ≡ None →
    body_of id (put_section id inside others) ≡ inside
first id None others none = none
first id (Some inside) others none = rw (eq-eqb id id refl) refl

found : (k wanted id : ℕ) (bodies : List (Option (List ℕ))) → wanted ≡ id + k →
    body_of wanted (listed id bodies) ≡ at bodies k
found k wanted id [] e = refl
found zero wanted id (inside ∷ others) e =
    let p : wanted ≡ id = omega arith in
    let P : ℕ → Type 0 = λ n. body_of n (put_section id inside (listed (suc id) others)) ≡ inside in
    subst P (sym p) (first id inside (listed (suc id) others) (absent id (suc id) others (omega arith)))
found (suc k) wanted id (inside ∷ others) e =
    later_id wanted id inside (listed (suc id) others) (omega arith) ∙ found k wanted (suc id) others (omega arith)

-- ---- each section's contents are short

abbrev IsShort : Option (List ℕ) → Type 0
IsShort None = Unit {0}
IsShort (Some inside) = IsWord (length inside)

one_short : (id : ℕ) (inside : Option (List ℕ)) → IsWord (length (section id inside)) → IsShort inside
one_short id None l = tt
one_short id (Some inside) l = back_word (number (length inside)) inside (tail_word id (text inside) l)

short : (k id : ℕ) (bodies : List (Option (List ℕ))) → IsWord (length (sections id bodies)) → IsShort (at bodies k)
short k id [] l = tt
short zero id (inside ∷ others) l = one_short id inside (front_word (section id inside) (sections (suc id) others) l)
short (suc k) id (inside ∷ others) l =
    short k (suc id) others (back_word (section id inside) (sections (suc id) others) l)

-- ---- parts

filled_part : {A : Type 0} (spell : A → List ℕ) (Spelling : A → List ℕ → Type 0) (Fitting : A → Type 0) →
    Item spell Spelling Fitting
    → (xs : List A) → Each Fitting xs → IsShort (filled spell xs) →
    MatchOption (filled spell xs) (xs ≡ []) (λ inside. SpellsVector Spelling xs inside)
filled_part spell Spelling Fitting i [] e l = refl
filled_part spell Spelling Fitting i (x ∷ xs) e l = vector_spelled spell Spelling Fitting i (x ∷ xs) e l

start_part : (start : Option ℕ) → IsWordIfThere start →
    MatchOption (option_map number start) (start ≡ None) (λ inside. SpellsStart start inside)
start_part None h = refl
start_part (Some index) h = word_spelled index h

-- what a module's sections have in them is what its section of this id has in it
placed : {A : Type 0} (Spelling : A → List ℕ → Type 0) (empty x : A) (k wanted : ℕ) (bodies : List (Option (List ℕ))) →
    wanted ≡ 1 + k
    → MatchOption (at bodies k) (x ≡ empty) (λ inside. Spelling x inside) →
    Part wanted Spelling empty x (listed 1 bodies)
placed Spelling empty x k wanted bodies e h =
    let P : Option (List ℕ) → Type 0 = λ o. MatchOption o (x ≡ empty) (λ inside. Spelling x inside) in
    subst P (sym (found k wanted 1 bodies e)) h

vector_part : {A : Type 0} (spell : A → List ℕ) (Spelling : A → List ℕ → Type 0) (Fitting : A → Type 0) →
    Item spell Spelling Fitting
    → (xs : List A) → Each Fitting xs → (k wanted : ℕ) (bodies : List (Option (List ℕ))) → wanted ≡ 1 + k →
    IsWord (length (sections 1 bodies)) → at bodies k ≡ filled spell xs
    → Part wanted (SpellsVector Spelling) [] xs (listed 1 bodies)
vector_part {A} spell Spelling Fitting i xs e k wanted bodies p l here =
    let P : Option (List ℕ) → Type 0 = λ o. MatchOption o (xs ≡ []) (λ inside. SpellsVector Spelling xs inside) in
    let fits : IsShort (filled spell xs) = subst IsShort here (short k 1 bodies l) in
    placed (SpellsVector Spelling) [] xs k wanted bodies p
    (subst P (sym here) (filled_part spell Spelling Fitting i xs e fits))

module_parts : (m : Module) → Fits m → IsWord (length (sections 1 (contents m))) → HasParts m (listed 1 (contents m))
module_parts m h l = record {
  types =
      vector_part func_type SpellsFuncType (λ t. Unit {0}) func_type_item m.types (each_fits m.types) 0 1 (contents m)
      refl l refl;
  imports =
      vector_part import SpellsImport (λ i. FitsItem i.item) import_item m.imports h.imports 1 2 (contents m) refl l
      refl;
  functions =
      vector_part number (IsUnsigned 32) IsWord number_item m.functions h.functions 2 3 (contents m) refl l refl;
  tables = vector_part table SpellsTable FitsLimits table_item m.tables h.tables 3 4 (contents m) refl l refl;
  memories = vector_part limits SpellsLimits FitsLimits limits_item m.memories h.memories 4 5 (contents m) refl l refl;
  globals =
      vector_part global SpellsGlobal (λ g. FitsCode g.init) global_item m.globals h.globals 5 6 (contents m) refl l
      refl;
  exports = vector_part export SpellsExport FitsExport export_item m.exports h.exports 6 7 (contents m) refl l refl;
  start = placed SpellsStart None m.start 7 8 (contents m) refl (start_part m.start h.start);
  elements =
      vector_part element SpellsElement FitsElement element_item m.elements h.elements 8 9 (contents m) refl l refl;
  codes = vector_part code SpellsCode FitsBody code_item m.codes h.codes 9 10 (contents m) refl l refl;
  segments =
      vector_part segment SpellsSegment FitsSegment segment_item m.segments h.segments 10 11 (contents m) refl l refl;
  paired = h.paired;
}

pub encoded_spells : EncodedSpells
encoded_spells m h =
    let l : IsWord (length (sections 1 (contents m))) = back_word header (sections 1 (contents m)) h.size in
    record {
      sections = listed 1 (contents m);
      behind = sections 1 (contents m);
      spelled = sections_spelled 1 (contents m) l;
      whole = refl;
      ordered = ordered 0 1 (contents m) (omega arith) (omega arith);
      parts = module_parts m h l;
    }
