-- Modules are read as they are spelled.
use Rattle.std.proofs.Common.{◌≡◌, ℕ, zero, suc, ◌≤◌, ◌⊎◌, inl, inr, Bool, true, false, nat_lt, nat_le, ◌==◌, ◌&&◌}
use Rattle.std.proofs.Common.{if◌then◌else◌, List, [], ◌∷◌, ◌++◌, length, Option, Some, None, MatchOption, Result, Ok}
use Rattle.std.proofs.Common.{Err, IfOk, take, drop, refl, sym, ap, ap₂, ◌∙◌, subst, arith}
use Rattle.std.proofs.lemmas.Option.{same_Some as some_is}
use Rattle.std.proofs.lemmas.Bool.{and_parts as both_true}
use Rattle.std.proofs.lemmas.Bool.{eq-eqb, eqb-true, ltb-true, lt-ltb, leb-true, le-leb}
use Rattle.std.proofs.lemmas.Bool.Decides.{nat_tests}
use Rattle.wa_ops.specs.declared.modules.Module.{Module}
use Rattle.wa_decode.specs.Grammar.{IsUnsigned, SpellsAll, SpellsVector}
use Rattle.wa_decode.specs.ModuleReading.{func_type_at, limits_at, table_type_at, import_at, global_at, export_at}
use Rattle.wa_decode.specs.ModuleReading.{element_at, code_at, segment_at, start_at, section, section_at, sections_at}
use Rattle.wa_decode.specs.ModuleReading.{highest_at, part_of, part_at, parts_at, behind, module_at}
use Rattle.wa_decode.specs.Modules.{SpellsFuncType, SpellsLimits, SpellsTable, SpellsImport, SpellsGlobal, SpellsExport}
use Rattle.wa_decode.specs.Modules.{SpellsElement, SpellsCode, SpellsSegment, SpellsStart, Section, SpellsSection}
use Rattle.wa_decode.specs.Modules.{IsOrdered, body_of, Part, HasParts, header, Spells, OneModule}
use Rattle.wa_decode.specs.Reading.{◌>>=◌, Gives, unsigned_at, bytes_at, vector_at}
use Rattle.wa_decode.specs.declared.fault.DecodeFault.{DecodeFault}
use Rattle.wa_decode.specs.declared.fault.DecodeFault.TheVariants.{Malformed, NoMemory}
use lib.Dec.{eqb}
use lib.Pointwise.{pointwise}
use Rattle.wa_decode.proofs.ExpressionReaders.{items_long}
use Rattle.wa_decode.proofs.NumberReaders.{unsigned_reader, bytes_reader, vector_reader, whole_forth, whole_back}
use Rattle.wa_decode.proofs.PartReaders.{func_type_reader, limits_reader, table_type_reader, import_reader}
use Rattle.wa_decode.proofs.PartReaders.{global_reader, export_reader, element_reader, code_reader, segment_reader}
use Rattle.wa_decode.proofs.PartReaders.{start_reader}
use Rattle.wa_decode.proofs.Readers.{Reader, bind_some, guard_some, choice_some, some_both}

-- ---- sections

section_forth : (s : Section) (front rest : List ℕ) → SpellsSection s front →
    section_at (front ++ rest) ≡ Some (s, rest)
unfolding section_at
section_forth s front rest h = ap (λ bs. section_at (bs ++ rest)) h.2 ∙ rw (bytes_reader.forth s.body h.0 rest h.1) refl

section_back : (bytes : List ℕ) (s : Section) (rest : List ℕ) → section_at bytes ≡ Some (s, rest) →
    (front : List ℕ) × SpellsSection s front × (bytes ≡ front ++ rest)
unfolding section_at
section_back [] s rest e = absurd cc
section_back (id ∷ bytes) s rest e =
    let f = bind_some (bytes_at bytes) (λ b. Some (section id b.0, b.1)) (s, rest) e in
    let p = some_both (section id f.0.0, f.0.1) (s, rest) f.2 in
    let b = bytes_reader.back bytes f.0.0 f.0.1 f.1 in
    let P : Section → Type 0 = λ x. (front : List ℕ) × SpellsSection x front × (id ∷ bytes ≡ front ++ rest) in
    subst P p.0 (id ∷ b.0, (b.0, b.1, refl), ap (λ xs. id ∷ xs) (b.2 ∙ ap (λ xs. b.0 ++ xs) p.1))

pub section_reader : Reader SpellsSection section_at
section_reader = record { forth = section_forth; back = section_back }

pub no_section : (s : Section) → SpellsSection s [] → ⊥
no_section s h = absurd cc (h.2)

sections_forth : (ss : List Section) (n : ℕ) (front : List ℕ) → length ss ≤ n → SpellsAll SpellsSection ss front →
    sections_at n front ≡ Some ss
unfolding sections_at
sections_forth [] n front l h = ap (sections_at n) h
sections_forth (s ∷ ss) zero front l h = absurd (omega arith)
sections_forth (s ∷ ss) (suc n) front l h =
    let e : front ≡ s.id ∷ (h.2.0 ++ h.1) = h.4 ∙ ap (λ bs. bs ++ h.1) h.2.2 in
    let f : section_at (s.id ∷ (h.2.0 ++ h.1)) ≡ Some (s, h.1) =
    section_forth s (s.id ∷ h.2.0) h.1 (h.2.0, h.2.1, refl) in
    ap (sections_at (suc n)) e ∙ rw (f, sections_forth ss n h.1 (omega (arith, l)) h.3) refl

sections_back : (n : ℕ) (bytes : List ℕ) (ss : List Section) → sections_at n bytes ≡ Some ss →
    SpellsAll SpellsSection ss bytes
unfolding sections_at
sections_back n [] ss e =
    let P : List Section → Type 0 = λ xs. SpellsAll SpellsSection xs [] in
    let p : [] ≡ ss = cc (e) in subst P p refl
sections_back zero (b ∷ bs) ss e = absurd cc
sections_back (suc n) (b ∷ bs) ss e =
    let f = bind_some (section_at (b ∷ bs)) (λ s. sections_at n s.1 >>= λ xs. Some (s.0 ∷ xs)) ss e in
    let g = bind_some (sections_at n f.0.1) (λ xs. Some (f.0.0 ∷ xs)) ss f.2 in
    let a = section_back (b ∷ bs) f.0.0 f.0.1 f.1 in
    let r = sections_back n f.0.1 g.0 g.1 in
    let P : List Section → Type 0 = λ xs. SpellsAll SpellsSection xs (b ∷ bs) in
    let p : f.0.0 ∷ g.0 ≡ ss = cc (g.2) in
    subst P p (a.0, f.0.1, a.1, r, a.2)

-- ---- their order

highest_forth : (ss : List Section) (last : ℕ) → IsOrdered last ss → (high : ℕ) × (highest_at last ss ≡ Some high)
unfolding highest_at
highest_forth [] last o = (last, refl)
highest_forth (s ∷ ss) last (inl h) =
    let r = highest_forth ss last h.2 in
    let n : bytes_at s.body ≡ Some (h.1.2.0, h.1.1) =
    ap bytes_at h.1.4 ∙ bytes_reader.forth h.1.2.0 h.1.0 h.1.1 h.1.2.1 in
    (r.0, rw (eq-eqb s.id 0 h.0, n, r.1) refl)
highest_forth (s ∷ ss) last (inr h) =
    let r = highest_forth ss s.id h.2 in
    let z : (s.id == 0) ≡ false = grind (arith, nat_tests, h.0) in
    (r.0, rw (z, lt-ltb last s.id h.0, le-leb s.id 11 h.1, r.1) refl)

highest_back : (ss : List Section) (last high : ℕ) → highest_at last ss ≡ Some high → IsOrdered last ss
unfolding highest_at
highest_back [] last high e = tt
highest_back (s ∷ ss) last high e =
    split (choice_some (s.id == 0) (bytes_at s.body >>= λ name. highest_at last ss)
    (if nat_lt last s.id && nat_le s.id 11 then highest_at s.id ss else None) high e) (highest_back ss last high)
    (highest_back ss s.id high)
  where
    split : (((s.id == 0) ≡ true) × ((bytes_at s.body >>= λ name. highest_at last ss) ≡ Some high))
        ⊎ (((s.id == 0) ≡ false)
        × ((if nat_lt last s.id && nat_le s.id 11 then highest_at s.id ss else None) ≡ Some high))
        → (highest_at last ss ≡ Some high → IsOrdered last ss) → (highest_at s.id ss ≡ Some high → IsOrdered s.id ss) →
        IsOrdered last (s ∷ ss)
    split (inl h) same next =
        let f = bind_some (bytes_at s.body) (λ name. highest_at last ss) high h.1 in
        let b = bytes_reader.back s.body f.0.0 f.0.1 f.1 in
        inl (eqb-true s.id 0 h.0, (b.0, f.0.1, (f.0.0, b.1), tt, b.2), same f.2)
    split (inr h) same next =
        let g = guard_some (nat_lt last s.id && nat_le s.id 11) (highest_at s.id ss) high h.1 in
        let t = both_true (nat_lt last s.id) (nat_le s.id 11) g.0 in
        inr (ltb-true last s.id t.0, leb-true s.id 11 t.1, next g.1)

-- ---- parts

part_forth : {A : Type 0} (Spelling : A → List ℕ → Type 0) (read : List ℕ → Option (A × List ℕ)) →
    Reader Spelling read → (empty x : A) (body : Option (List ℕ)) → MatchOption body (x ≡ empty) (λ b. Spelling x b) →
    part_of read empty body ≡ Some x
part_forth {A} Spelling read r empty x None h = ap Some (sym h)
part_forth Spelling read r empty x (Some body) h = whole_forth Spelling read r x body h

part_back : {A : Type 0} (Spelling : A → List ℕ → Type 0) (read : List ℕ → Option (A × List ℕ)) → Reader Spelling read →
    (empty x : A) (body : Option (List ℕ)) → part_of read empty body ≡ Some x →
    MatchOption body (x ≡ empty) (λ b. Spelling x b)
part_back Spelling read r empty x None e = let p : empty ≡ x = cc in sym p
part_back Spelling read r empty x (Some body) e = whole_back Spelling read r body x e

-- how a part is read, both ways
pub record PartReader {A : Type 0} (Spelling : A → List ℕ → Type 0) (read : List ℕ → Option (A × List ℕ)) (id : ℕ)
    (empty : A) : Type 0 where
  pub gives : (x : A) (sections : List Section) → Part id Spelling empty x sections →
      part_at id read empty sections ≡ Some x
  pub spelled : (x : A) (sections : List Section) → part_at id read empty sections ≡ Some x →
      Part id Spelling empty x sections

part_reader : {A : Type 0} (Spelling : A → List ℕ → Type 0) (read : List ℕ → Option (A × List ℕ)) →
    Reader Spelling read → (id : ℕ) (empty : A) → PartReader Spelling read id empty
unfolding part_at
part_reader Spelling read r id empty = record {
  gives = λ x sections h. part_forth Spelling read r empty x (body_of id sections) h;
  spelled = λ x sections e. part_back Spelling read r empty x (body_of id sections) e;
}

list_part : {A : Type 0} (Spelling : A → List ℕ → Type 0) (read : List ℕ → Option (A × List ℕ)) → Reader Spelling read →
    (id : ℕ) → PartReader (SpellsVector Spelling) (vector_at read) id []
list_part Spelling read r id =
    part_reader (SpellsVector Spelling) (vector_at read) (vector_reader Spelling read r) id []

types_part : PartReader (SpellsVector SpellsFuncType) (vector_at func_type_at) 1 []
types_part = list_part SpellsFuncType func_type_at func_type_reader 1

imports_part : PartReader (SpellsVector SpellsImport) (vector_at import_at) 2 []
imports_part = list_part SpellsImport import_at import_reader 2

functions_part : PartReader (SpellsVector (IsUnsigned 32)) (vector_at (unsigned_at 32)) 3 []
functions_part = list_part (IsUnsigned 32) (unsigned_at 32) (unsigned_reader 32) 3

tables_part : PartReader (SpellsVector SpellsTable) (vector_at table_type_at) 4 []
tables_part = list_part SpellsTable table_type_at table_type_reader 4

memories_part : PartReader (SpellsVector SpellsLimits) (vector_at limits_at) 5 []
memories_part = list_part SpellsLimits limits_at limits_reader 5

globals_part : PartReader (SpellsVector SpellsGlobal) (vector_at global_at) 6 []
globals_part = list_part SpellsGlobal global_at global_reader 6

exports_part : PartReader (SpellsVector SpellsExport) (vector_at export_at) 7 []
exports_part = list_part SpellsExport export_at export_reader 7

start_part : PartReader SpellsStart start_at 8 None
start_part = part_reader SpellsStart start_at start_reader 8 None

elements_part : PartReader (SpellsVector SpellsElement) (vector_at element_at) 9 []
elements_part = list_part SpellsElement element_at element_reader 9

codes_part : PartReader (SpellsVector SpellsCode) (vector_at code_at) 10 []
codes_part = list_part SpellsCode code_at code_reader 10

segments_part : PartReader (SpellsVector SpellsSegment) (vector_at segment_at) 11 []
segments_part = list_part SpellsSegment segment_at segment_reader 11

pub parts_forth : (m : Module) (ss : List Section) → HasParts m ss → parts_at ss ≡ Some m
unfolding parts_at
parts_forth m ss h =
    rw (
      types_part.gives m.types ss h.types,
      imports_part.gives m.imports ss h.imports,
      functions_part.gives m.functions ss h.functions,
      tables_part.gives m.tables ss h.tables,
      memories_part.gives m.memories ss h.memories,
      globals_part.gives m.globals ss h.globals,
      exports_part.gives m.exports ss h.exports,
      start_part.gives m.start ss h.start,
      elements_part.gives m.elements ss h.elements,
      codes_part.gives m.codes ss h.codes,
      segments_part.gives m.segments ss h.segments,
      eq-eqb (length m.codes) (length m.functions) h.paired,
    ) refl

pub parts_back : (ss : List Section) (m : Module) → parts_at ss ≡ Some m → HasParts m ss
unfolding parts_at
parts_back ss m e =
    let types = bind_some (part_at 1 (vector_at func_type_at) [] ss) _ m e in
    let imports = bind_some (part_at 2 (vector_at import_at) [] ss) _ m types.2 in
    let functions = bind_some (part_at 3 (vector_at (unsigned_at 32)) [] ss) _ m imports.2 in
    let tables = bind_some (part_at 4 (vector_at table_type_at) [] ss) _ m functions.2 in
    let memories = bind_some (part_at 5 (vector_at limits_at) [] ss) _ m tables.2 in
    let globals = bind_some (part_at 6 (vector_at global_at) [] ss) _ m memories.2 in
    let exports = bind_some (part_at 7 (vector_at export_at) [] ss) _ m globals.2 in
    let start = bind_some (part_at 8 start_at None ss) _ m exports.2 in
    let elements = bind_some (part_at 9 (vector_at element_at) [] ss) _ m start.2 in
    let codes = bind_some (part_at 10 (vector_at code_at) [] ss) _ m elements.2 in
    let segments = bind_some (part_at 11 (vector_at segment_at) [] ss) _ m codes.2 in
    let whole : Module = record {
      types = types.0;
      imports = imports.0;
      functions = functions.0;
      tables = tables.0;
      memories = memories.0;
      globals = globals.0;
      exports = exports.0;
      start = start.0;
      elements = elements.0;
      codes = codes.0;
      segments = segments.0;
    } in
    let g = guard_some (length codes.0 == length functions.0) (Some whole) m segments.2 in
    let p : whole ≡ m = some_is whole m g.1 in
    let P : Module → Type 0 = λ x. HasParts x ss in
    subst P p (record {
      types = types_part.spelled types.0 ss types.1;
      imports = imports_part.spelled imports.0 ss imports.1;
      functions = functions_part.spelled functions.0 ss functions.1;
      tables = tables_part.spelled tables.0 ss tables.1;
      memories = memories_part.spelled memories.0 ss memories.1;
      globals = globals_part.spelled globals.0 ss globals.1;
      exports = exports_part.spelled exports.0 ss exports.1;
      start = start_part.spelled start.0 ss start.1;
      elements = elements_part.spelled elements.0 ss elements.1;
      codes = codes_part.spelled codes.0 ss codes.1;
      segments = segments_part.spelled segments.0 ss segments.1;
      paired = eqb-true (length codes.0) (length functions.0) g.0;
    })

-- ---- modules

behind_back : (front bytes rest : List ℕ) → behind front bytes ≡ Some rest → bytes ≡ front ++ rest
unfolding behind
behind_back [] bytes rest e = cc
behind_back (x ∷ xs) [] rest e = absurd cc
behind_back (x ∷ xs) (b ∷ bs) rest e =
    let g = guard_some (b == x) (behind xs bs) rest e in
    ap₂ (λ (n : ℕ) (ns : List ℕ). n ∷ ns) (eqb-true b x g.0) (behind_back xs bs rest g.1)

pub module_forth : (m : Module) (bytes : List ℕ) → Spells m bytes → module_at bytes ≡ Some m
unfolding module_at behind
module_forth m bytes h =
    let ss : sections_at (length h.behind) h.behind ≡ Some h.sections =
    sections_forth h.sections (length h.behind) h.behind
    (items_long SpellsSection no_section h.sections h.behind h.spelled) h.spelled in
    let high = highest_forth h.sections 0 h.ordered in
    ap module_at h.whole ∙ rw (ss, high.1, parts_forth m h.sections h.parts) refl

pub module_back : (bytes : List ℕ) (m : Module) → module_at bytes ≡ Some m → Spells m bytes
unfolding module_at
module_back bytes m e =
    let rest = bind_some (behind header bytes) _ m e in
    let ss = bind_some (sections_at (length rest.0) rest.0) _ m rest.2 in
    let high = bind_some (highest_at 0 ss.0) _ m ss.2 in
    record {
      sections = ss.0;
      behind = rest.0;
      spelled = sections_back (length rest.0) rest.0 ss.0 ss.1;
      whole = behind_back header bytes rest.0 rest.1;
      ordered = highest_back ss.0 0 high.0 high.1;
      parts = parts_back ss.0 m high.2;
    }

pub one_module : OneModule
one_module bytes a b h k = let e : Some a ≡ Some b = sym (module_forth a bytes h) ∙ module_forth b bytes k in cc

-- ---- what the code answers

pub found_of : (bytes : List ℕ) (result : Result Module DecodeFault) → Gives (λ m. m) result (module_at bytes) →
    IfOk result (λ m. Spells m bytes)
found_of bytes (Ok m) h = module_back bytes m h
found_of bytes (Err fault) h = tt

pub malformed_of : (bytes : List ℕ) (result : Result Module DecodeFault) → Gives (λ m. m) result (module_at bytes) →
    result ≡ Err Malformed → (m : Module) → Spells m bytes → ⊥
malformed_of bytes (Err Malformed) h e m s = let p : Some m ≡ None = sym (module_forth m bytes s) ∙ h in absurd cc
malformed_of bytes (Err NoMemory) h e m s = absurd cc
malformed_of bytes (Ok m) h e n s = absurd cc

-- the prefix that the code strips
pub behind_stripped : (front bytes : List ℕ) → pointwise eqb (take (length front) bytes) front ≡ true →
    behind front bytes ≡ Some (drop (length front) bytes)
unfolding behind
behind_stripped [] bytes e = refl
behind_stripped (x ∷ xs) [] e = absurd cc
behind_stripped (x ∷ xs) (b ∷ bs) e =
    let t = both_true (eqb b x) (pointwise eqb (take (length xs) bs) xs) e in rw (t.0) (behind_stripped xs bs t.1)

pub behind_missing : (front bytes : List ℕ) → pointwise eqb (take (length front) bytes) front ≡ false →
    behind front bytes ≡ None
unfolding behind
behind_missing [] bytes e = absurd cc
behind_missing (x ∷ xs) [] e = refl
behind_missing (x ∷ xs) (b ∷ bs) e = split (eqb b x) refl e (behind_missing xs bs)
  where
    split : (t : Bool) → eqb b x ≡ t → (t && pointwise eqb (take (length xs) bs) xs) ≡ false →
        (pointwise eqb (take (length xs) bs) xs ≡ false → behind xs bs ≡ None) →
        (if b == x then behind xs bs else None) ≡ None
    split true p f deeper = rw p (deeper f)
    split false p f deeper = rw p refl
