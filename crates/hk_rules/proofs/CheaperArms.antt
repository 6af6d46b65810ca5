-- The table of what is spared, made from the last instruction to the first.
use Rattle.std.proofs.Common.{◌≡◌, ℕ, zero, suc, ◌+◌, ◌<◌, ◌≤◌, List, [], ◌∷◌, length, drop, get_or, true, false, refl}
use Rattle.std.proofs.Common.{sym, ap, ap₂, ◌∙◌, subst, add-one, drop-cons, arith}
use Rattle.std.proofs.Math.ListN.{drop_of_length-le}
use Rattle.wa_ops.specs.declared.op.Op.{Op}
use Rattle.wa_ops.specs.Bound.{cost}
use Rattle.wa_ops.specs.Sequences.{Sequence, Nesting, nesting, opens_block, opens_loop, opens_if, turns, closes, stands}
use Rattle.wa_ops.specs.Sequences.{Reads, IsNested, Open, nothing, to_end, to_else, broken, put_by, parse}
use Rattle.wa_ops.proofs.Marking.{IsUnbroken, drop_unbroken, nested_unbroken, parsed}
use Rattle.hk_rules.specs.Sparing.{arms_before, load, saving, spared}
use Rattle.hk_rules.specs.declared.sparing.OpenArm.{OpenArm}

-- the arms that are open in code, the innermost first
abbrev pub arms_of : Open → List OpenArm
arms_of nothing = []
arms_of (to_end code around) = record { is_first = false; cost = cost 1 code } ∷ arms_of around
arms_of (to_else code around) = record { is_first = true; cost = cost 1 code } ∷ arms_of around
arms_of broken = []

-- the entries of its instructions
abbrev pub entries : Open → List ℕ
entries nothing = []
entries (to_end code around) = spared code (0 ∷ entries around)
entries (to_else code around) = spared code (0 ∷ entries around)
entries broken = []

-- one instruction more
pub record Spared (n : Nesting) (behind_it in_front : Open) : Type 0 where
  pub table : saving n (arms_of behind_it) ∷ entries behind_it ≡ entries in_front
  pub pending : arms_before n (arms_of behind_it) ≡ arms_of in_front
  pub light : load (arms_of in_front) ≤ load (arms_of behind_it) + 1

spared_more : (n : Nesting) (op : Op) (found : Open) → IsUnbroken (put_by n op found) →
    Spared n found (put_by n op found)
spared_more (opens_block result) op (to_end body (to_end code around)) u = record {
  table = refl;
  pending = refl;
  light = omega arith;
}
spared_more (opens_block result) op (to_end body (to_else code around)) u = record {
  table = refl;
  pending = refl;
  light = omega arith;
}
spared_more (opens_block result) op (to_end body nothing) u = absurd u
spared_more (opens_block result) op (to_end body broken) u = absurd u
spared_more (opens_block result) op (to_else body around) u = absurd u
spared_more (opens_block result) op (nothing) u = absurd u
spared_more (opens_block result) op (broken) u = absurd u
spared_more (opens_loop result) op (to_end body (to_end code around)) u = record {
  table = refl;
  pending = refl;
  light = omega arith;
}
spared_more (opens_loop result) op (to_end body (to_else code around)) u = record {
  table = refl;
  pending = refl;
  light = omega arith;
}
spared_more (opens_loop result) op (to_end body nothing) u = absurd u
spared_more (opens_loop result) op (to_end body broken) u = absurd u
spared_more (opens_loop result) op (to_else body around) u = absurd u
spared_more (opens_loop result) op (nothing) u = absurd u
spared_more (opens_loop result) op (broken) u = absurd u
spared_more (opens_if result) op (to_end body (to_end code around)) u = record {
  table = refl;
  pending = refl;
  light = omega arith;
}
spared_more (opens_if result) op (to_end body (to_else code around)) u = record {
  table = refl;
  pending = refl;
  light = omega arith;
}
spared_more (opens_if result) op (to_end body nothing) u = absurd u
spared_more (opens_if result) op (to_end body broken) u = absurd u
spared_more (opens_if result) op (to_else first (to_end second (to_end code around))) u = record {
  table = refl;
  pending = refl;
  light = omega arith;
}
spared_more (opens_if result) op (to_else first (to_end second (to_else code around))) u = record {
  table = refl;
  pending = refl;
  light = omega arith;
}
spared_more (opens_if result) op (to_else first (to_end second nothing)) u = absurd u
spared_more (opens_if result) op (to_else first (to_end second broken)) u = absurd u
spared_more (opens_if result) op (to_else first (to_else second around)) u = absurd u
spared_more (opens_if result) op (to_else first nothing) u = absurd u
spared_more (opens_if result) op (to_else first broken) u = absurd u
spared_more (opens_if result) op (nothing) u = absurd u
spared_more (opens_if result) op (broken) u = absurd u
spared_more (turns) op (to_end second around) u = record { table = refl; pending = refl; light = omega arith }
spared_more (turns) op (to_else code around) u = absurd u
spared_more (turns) op (nothing) u = absurd u
spared_more (turns) op (broken) u = absurd u
spared_more (closes) op (to_end code around) u = record { table = refl; pending = refl; light = omega arith }
spared_more (closes) op (to_else code around) u = record { table = refl; pending = refl; light = omega arith }
spared_more (closes) op (nothing) u = record { table = refl; pending = refl; light = omega arith }
spared_more (closes) op (broken) u = absurd u
spared_more (stands) op (to_end code around) u = record { table = refl; pending = refl; light = omega arith }
spared_more (stands) op (to_else code around) u = record { table = refl; pending = refl; light = omega arith }
spared_more (stands) op (nothing) u = absurd u
spared_more (stands) op (broken) u = absurd u

-- ---- what the loop keeps

-- the instructions from this place on have their entries, and these arms are open
pub record Sparing (ops : List Op) (place : ℕ) (found : List ℕ) (arms : List OpenArm) : Type 0 where
  pub table : found ≡ entries (parse (drop place ops))
  pub pending : arms ≡ arms_of (parse (drop place ops))
  pub light : load arms + place ≤ length ops

-- the place behind the last
pub none_spared : (ops : List Op) (place : ℕ) → length ops ≤ place → place ≤ length ops → Sparing ops place [] []
none_spared ops place past within =
    let e : drop place ops ≡ [] = drop_of_length-le ops past in
    let P : List Op → Type 0 = λ os. ([] ≡ entries (parse os)) × ([] ≡ arms_of (parse os)) in
    let both = subst P (sym e) (refl, refl) in
    record { table = both.0; pending = both.1; light = omega (arith, within) }

-- a turn of the loop
pub one_more : (ops : List Op) (place : ℕ) (op : Op) (found : List ℕ) (arms : List OpenArm) → IsUnbroken (parse ops) →
    place < length ops → op ≡ get_or ops place op → Sparing ops (place + 1) found arms
    → Sparing ops place (saving (nesting op) arms ∷ found) (arms_before (nesting op) arms)
one_more ops place op found arms u l is m =
    let e : drop place ops ≡ op ∷ drop (place + 1) ops =
    rw add-one (drop-cons ops place op l ∙ ap (λ o. o ∷ drop (suc place) ops) (sym is)) in
    let P : List Op → Type 0 = λ os. IsUnbroken (parse os) in
    let rest : Open = parse (drop (place + 1) ops) in
    let r : Spared (nesting op) rest (put_by (nesting op) op rest) =
    spared_more (nesting op) op rest (subst P e (drop_unbroken place ops u)) in
    let Q : List Op → Type 0 =
    λ os.
    (saving (nesting op) arms ∷ found ≡ entries (parse os)) × (arms_before (nesting op) arms ≡ arms_of (parse os)) in
    let table : saving (nesting op) arms ∷ found ≡ saving (nesting op) (arms_of rest) ∷ entries rest =
    ap₂ (λ (a : List OpenArm) (b : List ℕ). saving (nesting op) a ∷ b) m.pending m.table in
    let both = subst Q (sym e) (table ∙ r.table, ap (arms_before (nesting op)) m.pending ∙ r.pending) in
    let before : load (arms_before (nesting op) arms) ≡ load (arms_of (put_by (nesting op) op rest)) =
    ap load (ap (arms_before (nesting op)) m.pending ∙ r.pending) in
    record { table = both.0; pending = both.1; light = omega (arith, m.light, r.light, before, ap load m.pending) }

-- the table of all instructions
pub all_spared : (ops : List Op) (place : ℕ) (found : List ℕ) (arms : List OpenArm) (body : Sequence) → place ≡ 0 →
    Sparing ops place found arms → Reads ops body → found ≡ spared body (0 ∷ [])
all_spared ops place found arms body z m r =
    let P : ℕ → Type 0 = λ n. found ≡ entries (parse (drop n ops)) in
    subst P z m.table ∙ ap entries (parsed ops body r)
