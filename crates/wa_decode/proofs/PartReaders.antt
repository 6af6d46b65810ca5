-- The parts of modules are read as they are spelled.
use Rattle.std.proofs.Common.{◌≡◌, ℕ, Bool, true, false, nat_le, ◌==◌, if◌then◌else◌, List, [], ◌∷◌, ◌++◌, Option, Some}
use Rattle.std.proofs.Common.{None, refl, ap, ◌∙◌, subst}
use Rattle.std.proofs.lemmas.Bool.{leb-true, le-leb}
use Rattle.wa_ops.specs.declared.modules.ImportItem.{ImportItem}
use Rattle.wa_ops.specs.declared.modules.ImportItem.TheVariants.{Function, Table, Memory, Global}
use Rattle.wa_ops.specs.declared.modules.Limits.{Limits}
use Rattle.wa_decode.specs.CodeReading.{value_type_at, expression_at}
use Rattle.wa_decode.specs.Grammar.{IsUnsigned, Then, SpellsVector, SpellsBytes}
use Rattle.wa_decode.specs.Instructions.{SpellsValueType, SpellsExpression}
use Rattle.wa_decode.specs.ModuleReading.{func_type, func_type_at, from_min, between, limits_at, table_type_at}
use Rattle.wa_decode.specs.ModuleReading.{mutable_at, global_type_at, global_item, item_at, import, import_at, global}
use Rattle.wa_decode.specs.ModuleReading.{global_at, kind_at, export, export_at, element, element_at, locals_at, code}
use Rattle.wa_decode.specs.ModuleReading.{body_at, code_at, segment, segment_at, start_at}
use Rattle.wa_decode.specs.Modules.{SpellsFuncType, SpellsRange, SpellsLimits, SpellsTable, mutable_byte}
use Rattle.wa_decode.specs.Modules.{SpellsGlobalType, SpellsItem, SpellsImport, SpellsGlobal, SpellsKind, SpellsExport}
use Rattle.wa_decode.specs.Modules.{SpellsElement, SpellsLocals, SpellsCode, SpellsSegment, SpellsStart}
use Rattle.wa_decode.specs.Reading.{made_at, both_at, unsigned_at, bytes_at, vector_at}
use Rattle.wa_decode.proofs.CodeReaders.{value_type_reader}
use Rattle.wa_decode.proofs.ExpressionReaders.{expression_reader}
use Rattle.wa_decode.proofs.NumberReaders.{unsigned_reader, bytes_reader, vector_reader, sized_reader}
use Rattle.wa_decode.proofs.Readers.{Reader, bind_some, guard_some, some_both, made, both, tagged, never, when, bare}
use Rattle.wa_decode.proofs.Readers.{mapped}

-- ---- types

kinds_reader : Reader (SpellsVector SpellsValueType) (vector_at value_type_at)
kinds_reader = vector_reader SpellsValueType value_type_at value_type_reader

pub func_type_reader : Reader SpellsFuncType func_type_at
unfolding func_type_at
func_type_reader =
    let kinds =
    both (SpellsVector SpellsValueType) (vector_at value_type_at) (SpellsVector SpellsValueType)
    (vector_at value_type_at) kinds_reader kinds_reader in
    let types =
    made (λ p. Then (SpellsVector SpellsValueType p.0) (SpellsVector SpellsValueType p.1))
    (both_at (vector_at value_type_at) (vector_at value_type_at)) kinds func_type (λ t. (t.parameters, t.results))
    (λ a. refl) (λ t. refl) in
    tagged 0x60 (λ t. Then (SpellsVector SpellsValueType t.parameters) (SpellsVector SpellsValueType t.results))
    (made_at func_type (both_at (vector_at value_type_at) (vector_at value_type_at))) types

pair_reader : Reader (λ p. Then (IsUnsigned 32 p.0) (IsUnsigned 32 p.1)) (both_at (unsigned_at 32) (unsigned_at 32))
pair_reader =
    both (IsUnsigned 32) (unsigned_at 32) (IsUnsigned 32) (unsigned_at 32) (unsigned_reader 32) (unsigned_reader 32)

limits_forth : (min : ℕ) (max : Option ℕ) (front rest : List ℕ) → SpellsRange min max front →
    limits_at (front ++ rest) ≡ Some (record { min = min; max = max }, rest)
unfolding limits_at
limits_forth min None front rest h =
    ap (λ bs. limits_at (bs ++ rest)) h.2 ∙ rw ((unsigned_reader 32).forth min h.0 rest h.1) refl
limits_forth min (Some max) front rest h =
    ap (λ bs. limits_at (bs ++ rest)) h.2 ∙ rw (pair_reader.forth (min, max) h.0 rest h.1) refl

limits_back : (bytes : List ℕ) (l : Limits) (rest : List ℕ) → limits_at bytes ≡ Some (l, rest) →
    (front : List ℕ) × SpellsLimits l front × (bytes ≡ front ++ rest)
unfolding limits_at
limits_back [] l rest e = absurd cc
limits_back (b ∷ bs) l rest e =
    (when {Spelling = SpellsLimits} 0x00 b bs (made_at from_min (unsigned_at 32) bs)
    (if b == 0x01 then made_at between (both_at (unsigned_at 32) (unsigned_at 32)) bs else None)
    (mapped SpellsLimits (IsUnsigned 32) (unsigned_at 32) (unsigned_reader 32) from_min 0x00 bs
    (λ a front h. (front, h, refl)))
    (when {Spelling = SpellsLimits} 0x01 b bs (made_at between (both_at (unsigned_at 32) (unsigned_at 32)) bs) None
    (mapped SpellsLimits (λ p. Then (IsUnsigned 32 p.0) (IsUnsigned 32 p.1)) (both_at (unsigned_at 32) (unsigned_at 32))
    pair_reader between 0x01 bs (λ a front h. (front, h, refl)))
    (never b bs))).gives l rest e

pub limits_reader : Reader SpellsLimits limits_at
limits_reader = record { forth = λ l front rest h. limits_forth l.min l.max front rest h; back = limits_back }

pub table_type_reader : Reader SpellsTable table_type_at
unfolding table_type_at
table_type_reader = tagged 0x70 SpellsLimits limits_at limits_reader

abbrev pub IsMutable : Bool → List ℕ → Type 0
IsMutable mutable bytes = bytes ≡ mutable_byte mutable ∷ []

mutable_forth : (mutable : Bool) (front rest : List ℕ) → IsMutable mutable front →
    mutable_at (front ++ rest) ≡ Some (mutable, rest)
unfolding mutable_at
mutable_forth false front rest h = ap (λ bs. mutable_at (bs ++ rest)) h
mutable_forth true front rest h = ap (λ bs. mutable_at (bs ++ rest)) h

mutable_back : (bytes : List ℕ) (mutable : Bool) (rest : List ℕ) → mutable_at bytes ≡ Some (mutable, rest) →
    (front : List ℕ) × IsMutable mutable front × (bytes ≡ front ++ rest)
unfolding mutable_at
mutable_back [] mutable rest e = absurd cc
mutable_back (b ∷ bs) mutable rest e =
    (when {Spelling = IsMutable} 0x00 b bs (Some (false, bs)) (if b == 0x01 then Some (true, bs) else None)
    (bare IsMutable false 0x00 bs refl)
    (when {Spelling = IsMutable} 0x01 b bs (Some (true, bs)) None (bare IsMutable true 0x01 bs refl)
    (never b bs))).gives mutable rest e

pub mutable_reader : Reader IsMutable mutable_at
mutable_reader = record { forth = mutable_forth; back = mutable_back }

pub global_type_reader : Reader (λ g. SpellsGlobalType g.0 g.1) global_type_at
unfolding global_type_at
global_type_reader = both SpellsValueType value_type_at IsMutable mutable_at value_type_reader mutable_reader

-- ---- what the sections have in them

item_forth : (item : ImportItem) (front rest : List ℕ) → SpellsItem item front →
    item_at (front ++ rest) ≡ Some (item, rest)
unfolding item_at
item_forth (Function index) front rest h =
    ap (λ bs. item_at (bs ++ rest)) h.2 ∙ rw ((unsigned_reader 32).forth index h.0 rest h.1) refl
item_forth (Table l) front rest h =
    ap (λ bs. item_at (bs ++ rest)) h.2 ∙ rw (table_type_reader.forth l h.0 rest h.1) refl
item_forth (Memory l) front rest h = ap (λ bs. item_at (bs ++ rest)) h.2 ∙ rw (limits_reader.forth l h.0 rest h.1) refl
item_forth (Global kind mutable) front rest h =
    ap (λ bs. item_at (bs ++ rest)) h.2 ∙ rw (global_type_reader.forth (kind, mutable) h.0 rest h.1) refl

item_back : (bytes : List ℕ) (item : ImportItem) (rest : List ℕ) → item_at bytes ≡ Some (item, rest) →
    (front : List ℕ) × SpellsItem item front × (bytes ≡ front ++ rest)
unfolding item_at
item_back [] item rest e = absurd cc
item_back (b ∷ bs) item rest e =
    (when {Spelling = SpellsItem} 0x00 b bs _ _ (mapped SpellsItem (IsUnsigned 32) (unsigned_at 32) (unsigned_reader 32)
    Function 0x00 bs (λ a front h. (front, h, refl)))
    (when {Spelling = SpellsItem} 0x01 b bs _ _
    (mapped SpellsItem SpellsTable table_type_at table_type_reader Table 0x01 bs (λ a front h. (front, h, refl)))
    (when {Spelling = SpellsItem} 0x02 b bs _ _
    (mapped SpellsItem SpellsLimits limits_at limits_reader Memory 0x02 bs (λ a front h. (front, h, refl)))
    (when {Spelling = SpellsItem} 0x03 b bs _ _ (mapped SpellsItem (λ g. SpellsGlobalType g.0 g.1) global_type_at
    global_type_reader global_item 0x03 bs (λ a front h. (front, h, refl)))
    (never b bs))))).gives item rest e

pub item_reader : Reader SpellsItem item_at
item_reader = record { forth = item_forth; back = item_back }

pub import_reader : Reader SpellsImport import_at
unfolding import_at
import_reader =
    let named = both SpellsBytes bytes_at SpellsItem item_at bytes_reader item_reader in
    let parts =
    both SpellsBytes bytes_at (λ p. Then (SpellsBytes p.0) (SpellsItem p.1)) (both_at bytes_at item_at) bytes_reader
    named in
    made (λ p. Then (SpellsBytes p.0) (Then (SpellsBytes p.1.0) (SpellsItem p.1.1)))
    (both_at bytes_at (both_at bytes_at item_at)) parts import (λ i. (i.module, (i.name, i.item))) (λ a. refl)
    (λ i. refl)

pub global_reader : Reader SpellsGlobal global_at
unfolding global_at
global_reader =
    let parts =
    both (λ g. SpellsGlobalType g.0 g.1) global_type_at SpellsExpression expression_at global_type_reader
    expression_reader in
    made (λ p. Then (SpellsGlobalType p.0.0 p.0.1) (SpellsExpression p.1)) (both_at global_type_at expression_at) parts
    global (λ g. ((g.kind, g.mutable), g.init)) (λ a. refl) (λ g. refl)

kind_forth : (kind : ℕ) (front rest : List ℕ) → SpellsKind kind front → kind_at (front ++ rest) ≡ Some (kind, rest)
unfolding kind_at
kind_forth kind front rest h = ap (λ bs. kind_at (bs ++ rest)) h.1 ∙ rw (le-leb kind 3 h.0) refl

kind_back : (bytes : List ℕ) (kind : ℕ) (rest : List ℕ) → kind_at bytes ≡ Some (kind, rest) →
    (front : List ℕ) × SpellsKind kind front × (bytes ≡ front ++ rest)
unfolding kind_at
kind_back [] kind rest e = absurd cc
kind_back (b ∷ bs) kind rest e =
    let g = guard_some (nat_le b 3) (Some (b, bs)) (kind, rest) e in
    let s = some_both (b, bs) (kind, rest) g.1 in
    let P : ℕ → Type 0 = λ n. (front : List ℕ) × SpellsKind n front × (b ∷ bs ≡ front ++ rest) in
    subst P s.0 (b ∷ [], (leb-true b 3 g.0, refl), ap (λ xs. b ∷ xs) s.1)

pub kind_reader : Reader SpellsKind kind_at
kind_reader = record { forth = kind_forth; back = kind_back }

pub export_reader : Reader SpellsExport export_at
unfolding export_at
export_reader =
    let named = both SpellsKind kind_at (IsUnsigned 32) (unsigned_at 32) kind_reader (unsigned_reader 32) in
    let parts =
    both SpellsBytes bytes_at (λ p. Then (SpellsKind p.0) (IsUnsigned 32 p.1)) (both_at kind_at (unsigned_at 32))
    bytes_reader named in
    made (λ p. Then (SpellsBytes p.0) (Then (SpellsKind p.1.0) (IsUnsigned 32 p.1.1)))
    (both_at bytes_at (both_at kind_at (unsigned_at 32))) parts export (λ e. (e.name, (e.kind, e.index))) (λ a. refl)
    (λ e. refl)

indexes_reader : Reader (SpellsVector (IsUnsigned 32)) (vector_at (unsigned_at 32))
indexes_reader = vector_reader (IsUnsigned 32) (unsigned_at 32) (unsigned_reader 32)

pub element_reader : Reader SpellsElement element_at
unfolding element_at
element_reader =
    let placed =
    both SpellsExpression expression_at (SpellsVector (IsUnsigned 32)) (vector_at (unsigned_at 32)) expression_reader
    indexes_reader in
    let parts =
    both (IsUnsigned 32) (unsigned_at 32) (λ p. Then (SpellsExpression p.0) (SpellsVector (IsUnsigned 32) p.1))
    (both_at expression_at (vector_at (unsigned_at 32))) (unsigned_reader 32) placed in
    made (λ p. Then (IsUnsigned 32 p.0) (Then (SpellsExpression p.1.0) (SpellsVector (IsUnsigned 32) p.1.1)))
    (both_at (unsigned_at 32) (both_at expression_at (vector_at (unsigned_at 32)))) parts element
    (λ e. (e.table, (e.offset, e.functions))) (λ a. refl) (λ e. refl)

pub locals_reader : Reader SpellsLocals locals_at
unfolding locals_at
locals_reader =
    both (IsUnsigned 32) (unsigned_at 32) SpellsValueType value_type_at (unsigned_reader 32) value_type_reader

body_reader : Reader (λ c. Then (SpellsVector SpellsLocals c.locals) (SpellsExpression c.ops)) body_at
unfolding body_at
body_reader =
    let parts =
    both (SpellsVector SpellsLocals) (vector_at locals_at) SpellsExpression expression_at
    (vector_reader SpellsLocals locals_at locals_reader) expression_reader in
    made (λ p. Then (SpellsVector SpellsLocals p.0) (SpellsExpression p.1))
    (both_at (vector_at locals_at) expression_at) parts code (λ c. (c.locals, c.ops)) (λ a. refl) (λ c. refl)

pub code_reader : Reader SpellsCode code_at
unfolding code_at
code_reader = sized_reader (λ c. Then (SpellsVector SpellsLocals c.locals) (SpellsExpression c.ops)) body_at body_reader

pub segment_reader : Reader SpellsSegment segment_at
unfolding segment_at
segment_reader =
    let placed = both SpellsExpression expression_at SpellsBytes bytes_at expression_reader bytes_reader in
    let parts =
    both (IsUnsigned 32) (unsigned_at 32) (λ p. Then (SpellsExpression p.0) (SpellsBytes p.1))
    (both_at expression_at bytes_at) (unsigned_reader 32) placed in
    made (λ p. Then (IsUnsigned 32 p.0) (Then (SpellsExpression p.1.0) (SpellsBytes p.1.1)))
    (both_at (unsigned_at 32) (both_at expression_at bytes_at)) parts segment (λ s. (s.memory, (s.offset, s.bytes)))
    (λ a. refl) (λ s. refl)

start_forth : (start : Option ℕ) (front rest : List ℕ) → SpellsStart start front →
    start_at (front ++ rest) ≡ Some (start, rest)
unfolding start_at
start_forth None front rest h = absurd h
start_forth (Some index) front rest h = rw ((unsigned_reader 32).forth index front rest h) refl

start_back : (bytes : List ℕ) (start : Option ℕ) (rest : List ℕ) → start_at bytes ≡ Some (start, rest) →
    (front : List ℕ) × SpellsStart start front × (bytes ≡ front ++ rest)
unfolding start_at
start_back bytes start rest e =
    let f = bind_some (unsigned_at 32 bytes) (λ a. Some (Some a.0, a.1)) (start, rest) e in
    let s = some_both (Some f.0.0, f.0.1) (start, rest) f.2 in
    let g = (unsigned_reader 32).back bytes f.0.0 f.0.1 f.1 in
    let P : Option ℕ → Type 0 = λ o. SpellsStart o g.0 in
    (g.0, subst P s.0 g.1, g.2 ∙ ap (λ bs. g.0 ++ bs) s.1)

pub start_reader : Reader SpellsStart start_at
start_reader = record { forth = start_forth; back = start_back }
