-- The table of ends, made from the last instruction to the first.
use Rattle.std.proofs.Common.{◌≡◌, ℕ, zero, suc, ◌+◌, ◌<◌, ◌≤◌, List, [], ◌∷◌, length, drop, get_or, Some, refl, sym}
use Rattle.std.proofs.Common.{ap, ap₂, ◌∙◌, subst, add-one, drop-cons, arith}
use Rattle.std.proofs.Math.ListN.{drop_of_length-le}
use Rattle.wa_ops.specs.declared.op.Op.{Op}
use Rattle.wa_ops.specs.Ends.{BehindBySize, behind, ends_of, first_place, others, entry, open_before}
use Rattle.wa_ops.specs.Sequences.{Sequence, done, plain, block, loop, if_then, if_else, Nesting, nesting, opens_block}
use Rattle.wa_ops.specs.Sequences.{opens_loop, opens_if, turns, closes, stands, Reads, IsNested, Open, nothing, to_end}
use Rattle.wa_ops.specs.Sequences.{to_else, broken, put_by, parse, whole}
use Rattle.wa_ops.proofs.Parsing.{found_tree}

-- the places of the ends that are open in code that begins at this place, the innermost first
abbrev pub places : Open → ℕ → List ℕ
places nothing at = []
places (to_end code around) at = behind code at ∷ places around (behind code at + 1)
places (to_else code around) at = behind code at ∷ others (places around (behind code at + 1))
places broken at = []

-- the entries of its instructions
abbrev pub entries : Open → ℕ → List ℕ
entries nothing at = []
entries (to_end code around) at = ends_of code at (0 ∷ entries around (behind code at + 1))
entries (to_else code around) at =
    ends_of code at (first_place (places around (behind code at + 1)) ∷ entries around (behind code at + 1))
entries broken at = []

abbrev pub IsUnbroken : Open → Type 0
IsUnbroken broken = ⊥
IsUnbroken found = Unit {0}

-- one instruction more
pub record Marked (n : Nesting) (place : ℕ) (behind_it in_front : Open) : Type 0 where
  pub table : entry n (places behind_it (place + 1)) ∷ entries behind_it (place + 1) ≡ entries in_front place
  pub pending : open_before n place (places behind_it (place + 1)) ≡ places in_front place

region_marked : (n : Nesting) (op : Op) (place : ℕ) (found : Open) → IsUnbroken (put_by n op found) →
    Marked n place found (put_by n op found)
region_marked (opens_block result) op place (to_end body (to_end code around)) u = record {
  table = refl;
  pending = refl;
}
region_marked (opens_block result) op place (to_end body (to_else code around)) u = record {
  table = refl;
  pending = refl;
}
region_marked (opens_block result) op place (to_end body nothing) u = absurd u
region_marked (opens_block result) op place (to_end body broken) u = absurd u
region_marked (opens_block result) op place (to_else body around) u = absurd u
region_marked (opens_block result) op place nothing u = absurd u
region_marked (opens_block result) op place broken u = absurd u
region_marked (opens_loop result) op place (to_end body (to_end code around)) u = record {
  table = refl;
  pending = refl;
}
region_marked (opens_loop result) op place (to_end body (to_else code around)) u = record {
  table = refl;
  pending = refl;
}
region_marked (opens_loop result) op place (to_end body nothing) u = absurd u
region_marked (opens_loop result) op place (to_end body broken) u = absurd u
region_marked (opens_loop result) op place (to_else body around) u = absurd u
region_marked (opens_loop result) op place nothing u = absurd u
region_marked (opens_loop result) op place broken u = absurd u
region_marked (opens_if result) op place (to_end body (to_end code around)) u = record { table = refl; pending = refl }
region_marked (opens_if result) op place (to_end body (to_else code around)) u = record { table = refl; pending = refl }
region_marked (opens_if result) op place (to_end body nothing) u = absurd u
region_marked (opens_if result) op place (to_end body broken) u = absurd u
region_marked (opens_if result) op place (to_else first (to_end second (to_end code around))) u = record {
  table = refl;
  pending = refl;
}
region_marked (opens_if result) op place (to_else first (to_end second (to_else code around))) u = record {
  table = refl;
  pending = refl;
}
region_marked (opens_if result) op place (to_else first (to_end second nothing)) u = absurd u
region_marked (opens_if result) op place (to_else first (to_end second broken)) u = absurd u
region_marked (opens_if result) op place (to_else first (to_else second around)) u = absurd u
region_marked (opens_if result) op place (to_else first nothing) u = absurd u
region_marked (opens_if result) op place (to_else first broken) u = absurd u
region_marked (opens_if result) op place nothing u = absurd u
region_marked (opens_if result) op place broken u = absurd u
region_marked turns op place (to_end second around) u = record { table = refl; pending = refl }
region_marked turns op place (to_else code around) u = absurd u
region_marked turns op place nothing u = absurd u
region_marked turns op place broken u = absurd u
region_marked closes op place (to_end code around) u = record { table = refl; pending = refl }
region_marked closes op place (to_else code around) u = record { table = refl; pending = refl }
region_marked closes op place nothing u = record { table = refl; pending = refl }
region_marked closes op place broken u = absurd u
region_marked stands op place (to_end code around) u = record { table = refl; pending = refl }
region_marked stands op place (to_else code around) u = record { table = refl; pending = refl }
region_marked stands op place nothing u = absurd u
region_marked stands op place broken u = absurd u

-- nested code is unbroken from each place on
put_broken : (n : Nesting) (op : Op) → put_by n op broken ≡ broken
put_broken (opens_block result) op = refl
put_broken (opens_loop result) op = refl
put_broken (opens_if result) op = refl
put_broken turns op = refl
put_broken closes op = refl
put_broken stands op = refl

behind_unbroken : (n : Nesting) (op : Op) (found : Open) → IsUnbroken (put_by n op found) → IsUnbroken found
behind_unbroken n op nothing u = tt
behind_unbroken n op (to_end code around) u = tt
behind_unbroken n op (to_else code around) u = tt
behind_unbroken n op broken u = subst IsUnbroken (put_broken n op) u

pub drop_unbroken : (place : ℕ) (ops : List Op) → IsUnbroken (parse ops) → IsUnbroken (parse (drop place ops))
drop_unbroken zero ops u = u
drop_unbroken (suc n) [] u = u
drop_unbroken (suc n) (op ∷ ops) u = drop_unbroken n ops (behind_unbroken (nesting op) op (parse ops) u)

whole_is : (found : Open) (code : Sequence) → whole found ≡ Some code → found ≡ to_end code nothing
whole_is (to_end tree nothing) code e = let p : tree ≡ code = cc in ap (λ c. to_end c nothing) p
whole_is (to_end tree (to_end c o)) code e = absurd cc
whole_is (to_end tree (to_else c o)) code e = absurd cc
whole_is (to_end tree broken) code e = absurd cc
whole_is (to_else c o) code e = absurd cc
whole_is nothing code e = absurd cc
whole_is broken code e = absurd cc

pub parsed : (ops : List Op) (code : Sequence) → Reads ops code → parse ops ≡ to_end code nothing
parsed ops code r = whole_is (parse ops) code (found_tree ops code r)

-- ---- what the loop keeps

-- the instructions from this place on have their entries, and these ends are open
pub record Marking (ops : List Op) (place : ℕ) (ends open_ends : List ℕ) : Type 0 where
  pub table : ends ≡ entries (parse (drop place ops)) place
  pub pending : open_ends ≡ places (parse (drop place ops)) place

-- the place behind the last
pub none_marked : (ops : List Op) (place : ℕ) → length ops ≤ place → Marking ops place [] []
none_marked ops place l =
    let e : drop place ops ≡ [] = drop_of_length-le ops l in
    let P : List Op → Type 0 = λ os. ([] ≡ entries (parse os) place) × ([] ≡ places (parse os) place) in
    let both = subst P (sym e) (refl, refl) in
    record { table = both.0; pending = both.1 }

-- a turn of the loop
pub one_more : (ops : List Op) (place : ℕ) (op : Op) (ends open_ends : List ℕ) → IsUnbroken (parse ops) →
    place < length ops → op ≡ get_or ops place op → Marking ops (place + 1) ends open_ends
    → Marking ops place (entry (nesting op) open_ends ∷ ends) (open_before (nesting op) place open_ends)
one_more ops place op ends open_ends u l is m =
    let e : drop place ops ≡ op ∷ drop (place + 1) ops =
    rw add-one (drop-cons ops place op l ∙ ap (λ o. o ∷ drop (suc place) ops) (sym is)) in
    let P : List Op → Type 0 = λ os. IsUnbroken (parse os) in
    let found : Open = parse (drop (place + 1) ops) in
    let r = region_marked (nesting op) op place found (subst P e (drop_unbroken place ops u)) in
    let Q : List Op → Type 0 =
    λ os.
    (entry (nesting op) open_ends ∷ ends ≡ entries (parse os) place)
    × (open_before (nesting op) place open_ends ≡ places (parse os) place) in
    let table : entry (nesting op) open_ends ∷ ends
    ≡ entry (nesting op) (places found (place + 1)) ∷ entries found (place + 1) =
    ap₂ (λ (a : List ℕ) (b : List ℕ). entry (nesting op) a ∷ b) m.pending m.table in
    let both = subst Q (sym e) (table ∙ r.table, ap (open_before (nesting op) place) m.pending ∙ r.pending) in
    record { table = both.0; pending = both.1 }

-- nested code is unbroken
pub nested_unbroken : (ops : List Op) → IsNested ops → IsUnbroken (parse ops)
nested_unbroken ops h = subst IsUnbroken (sym (parsed ops h.0 h.1)) tt

-- the table of all instructions
pub all_marked : (ops : List Op) (place : ℕ) (ends open_ends : List ℕ) (code : Sequence) → place ≡ 0 →
    Marking ops place ends open_ends → Reads ops code → ends ≡ ends_of code 0 (0 ∷ [])
all_marked ops place ends open_ends code z m r =
    let P : ℕ → Type 0 = λ n. ends ≡ entries (parse (drop n ops)) n in
    subst P z m.table ∙ ap (λ (o : Open). entries o 0) (parsed ops code r)

-- ---- places

pub behind_by_size : BehindBySize
behind_by_size done at = omega arith
behind_by_size (plain op rest) at = omega (arith, behind_by_size rest (at + 1))
behind_by_size (block result body rest) at =
    omega (arith, behind_by_size body (at + 1), behind_by_size rest (behind body (at + 1) + 1))
behind_by_size (loop result body rest) at =
    omega (arith, behind_by_size body (at + 1), behind_by_size rest (behind body (at + 1) + 1))
behind_by_size (if_then result body rest) at =
    omega (arith, behind_by_size body (at + 1), behind_by_size rest (behind body (at + 1) + 1))
behind_by_size (if_else result first second rest) at =
    omega (
      arith,
      behind_by_size first (at + 1),
      behind_by_size second (behind first (at + 1) + 1),
      behind_by_size rest (behind second (behind first (at + 1) + 1) + 1),
    )
