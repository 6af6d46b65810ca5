-- All instructions, by what each does.
use Rattle.std.proofs.Common.{◌≡◌, ◌<◌, ◌≤◌, ℕ, ℤ, zero, suc, List, [], ◌∷◌, Option, Some, None, length, get_or}
use Rattle.std.proofs.Common.{slice_get, slice_index_or, sym, ◌∙◌, subst, refl, ap, arith, length-drop}
use Rattle.std.proofs.lemmas.Option.{slice_get-get_or, slice_get_read}
use Rattle.wa_ops.specs.declared.op.Op.{Op}
use Rattle.wa_ops.specs.declared.op.Op.TheVariants as op
use Rattle.wa_ops.specs.declared.call_no.CallNo.{CallNo}
use Rattle.wa_ops.specs.declared.op.ValueType.{ValueType}
use Rattle.wa_ops.specs.Sequences.{Sequence, done, plain, block, loop, if_then, if_else, nesting, stands, flat}
use Rattle.wa_ops.specs.Soundness.{Each}
use Rattle.wa_machine.specs.Machine.{Value, Region, Configuration, World, HostMeaning, act, step}
use Rattle.wa_run.specs.Flat.{Standing}
use Rattle.wa_run.specs.Acts.{IsNoFault, IsPlain, Meets, Acts}
use Rattle.wa_run.specs.Calls.{CanGo, Goes}
use Rattle.wa_run.specs.Running.{Is, Follows, Turns, CanTurn, IsArm, Chooses}
use Rattle.wa_run.specs.declared.running.Running.{Running}
use Rattle.wa_run.specs.declared.running.Stop.{Stop}
use Rattle.wa_run.specs.declared.store.Store.{Store}
use Rattle.wa_run.proofs.Following.{unticked, Top, top_of, BeforePlain, before_plain}

pub acts_as : (S : Type 0) (found instruction : Op) (old new : Store) → found ≡ instruction →
    Acts S instruction old new → Acts S found old new
acts_as S found instruction old new e acts = subst (λ o. Acts S o old new) (sym e) acts

pub nop_acts : (S : Type 0) (store : Store) → Acts S op.Nop store store
nop_acts S store world region around operands c h s = record {
  operands = operands;
  after = c;
  step_is = refl;
  holds = h;
  guards = refl;
  host = refl;
}

pub constant32_as : (S : Type 0) (found : Op) (n m : ℤ) (old new : Store) → found ≡ op.I32Const m → n ≡ m →
    Acts S (op.I32Const n) old new → Acts S found old new
constant32_as S found n m old new e same acts =
    acts_as S found (op.I32Const m) old new e (subst (λ k. Acts S (op.I32Const k) old new) same acts)

pub constant64_as : (S : Type 0) (found : Op) (n m : ℤ) (old new : Store) → found ≡ op.I64Const m → n ≡ m →
    Acts S (op.I64Const n) old new → Acts S found old new
constant64_as S found n m old new e same acts =
    acts_as S found (op.I64Const m) old new e (subst (λ k. Acts S (op.I64Const k) old new) same acts)

-- ---- a plain instruction of a run

pub plain_stands : (instruction : Op) → IsPlain instruction → nesting instruction ≡ stands
plain_stands (op.Block r) p = absurd p
plain_stands (op.Loop r) p = absurd p
plain_stands (op.If r) p = absurd p
plain_stands op.Else p = absurd p
plain_stands op.End p = absurd p
plain_stands instruction p = refl

pub plain_meets : (S : Type 0) (instruction : Op) (old : Running) → IsPlain instruction → CanTurn S instruction old →
    Meets S instruction old.store
plain_meets S instruction old p m =
    let b : BeforePlain m.world m.c m.ops m.ends old instruction m.is.region m.is.around =
    before_plain m.world m.c m.ops m.ends old instruction m.is (plain_stands instruction p) m.here in
    let region : Region = record m.is.region { rest = b.rest } in
    record {
      world = m.world;
      region = region;
      around = m.is.around;
      operands = m.is.region.operands;
      c = m.c;
      holds = m.is.holds;
      sound =
          unticked (suc m.c.count) (act m.world instruction region m.is.around m.is.region.operands m.c)
          (subst IsNoFault b.step_is m.sound);
    }

-- ---- any instruction of a run

pub flat_long : (code : Sequence) (after : List Op) → length after ≤ length (flat code after)
flat_long done after = omega arith
flat_long (plain instruction rest) after = omega (arith, flat_long rest after)
flat_long (block r body rest) after = omega (arith, flat_long body (op.End ∷ flat rest after), flat_long rest after)
flat_long (loop r body rest) after = omega (arith, flat_long body (op.End ∷ flat rest after), flat_long rest after)
flat_long (if_then r body rest) after = omega (arith, flat_long body (op.End ∷ flat rest after), flat_long rest after)
flat_long (if_else r one other rest) after =
    omega (
      arith,
      flat_long one (op.Else ∷ flat other (op.End ∷ flat rest after)),
      flat_long other (op.End ∷ flat rest after),
      flat_long rest after,
    )

-- the run stands at an instruction
pub at_within : {S : Type 0} (ops : List Op) (ends : List ℕ) (c : Configuration S) (old : Running) → Is ops ends c old →
    old.at < length ops
at_within ops ends c old i =
    let t : Top ops ends i.region i.around old.at old.labels.items =
    top_of ops ends i.region i.around old.at old.labels.items i.marks in
    let d : Standing ops ends i.region.rest old.at = t.marks.standing in
    omega (arith, ap length d.stands.ops_are, flat_long i.region.rest (d.marker ∷ d.more), length-drop old.at ops)

pub go_within : (S : Type 0) (ops : List Op) (ends : List ℕ) (calls : List CallNo) (old : Running) →
    CanGo S ops ends calls old → old.at < length ops
go_within S ops ends calls old m = at_within ops ends m.c old m.is

pub each_at : {A : Type 0} (P : A → Type 0) (xs : List A) (place : ℕ) (x : A) → Each P xs →
    slice_get xs place ≡ Some x → P x
each_at P [] place x p e = absurd cc
each_at P (first ∷ xs) zero x p e = let same : first ≡ x = cc in subst P same p.0
each_at P (first ∷ xs) (suc place) x p e = each_at P xs place x p.1 e

pub can_turn : (S : Type 0) (ops : List Op) (ends : List ℕ) (calls : List CallNo) (instruction : Op) (old : Running) →
    slice_get ops old.at ≡ Some instruction → CanGo S ops ends calls old → CanTurn S instruction old
can_turn S ops ends calls instruction old h m = record {
  world = m.world;
  c = m.c;
  ops = ops;
  ends = ends;
  is = m.is;
  here = h;
  sound = m.sound;
}

pub goes_entry : {S : Type 0} (meaning : HostMeaning S) (ops : List Op) (ends : List ℕ) (calls : List CallNo)
    (instruction : Op) (entry : ℕ) (old : Running) (host : S) (found : Option Stop) (new : Running) →
    slice_get ops old.at ≡ Some instruction → slice_get ends old.at ≡ Some entry →
    Turns S instruction entry old found new → Goes S meaning calls ops ends old host found new host
goes_entry meaning ops ends calls instruction entry old host found new h e turns world c w k i s =
    subst (λ after. Follows ops ends (step world c) found new after) k (turns world c ops ends i h e s)

pub goes_turn : {S : Type 0} (meaning : HostMeaning S) (ops : List Op) (ends : List ℕ) (calls : List CallNo)
    (instruction : Op) (old : Running) (host : S) (found : Option Stop) (new : Running) →
    length ends ≡ length ops → slice_get ops old.at ≡ Some instruction →
    ((entry : ℕ) → Turns S instruction entry old found new) → Goes S meaning calls ops ends old host found new host
goes_turn {S} meaning ops ends calls instruction old host found new l h turns world c w k i s =
    let within : old.at < length ends = omega (arith, at_within ops ends c old i) in
    goes_entry meaning ops ends calls instruction (get_or ends old.at 0) old host found new h
    (slice_get-get_or ends old.at 0 within) (turns (get_or ends old.at 0)) world c w k i s

pub goes_choice : {S : Type 0} (meaning : HostMeaning S) (ops : List Op) (ends : List ℕ) (calls : List CallNo)
    (carried : Option ValueType) (entry : ℕ) (other : Option ℕ) (old : Running) (host : S) (new : Running) →
    slice_get ops old.at ≡ Some (op.If carried) → slice_get ends old.at ≡ Some entry → IsArm ops ends entry other →
    Chooses S carried entry other old new → Goes S meaning calls ops ends old host None new host
goes_choice meaning ops ends calls carried entry other old host new h e arm chooses world c w k i s =
    subst (λ after. Follows ops ends (step world c) None new after) k (chooses world c ops ends i h e arm s)

-- what the machine has no step for
pub no_step : (S : Type 0) (instruction : Op) (old : Running) → nesting instruction ≡ stands →
    ((world : World S) (region : Region) (around : List Region) (operands : List Value) (c : Configuration S) →
    IsNoFault (act world instruction region around operands c) → ⊥) → CanTurn S instruction old → ⊥
no_step S instruction old n faults m =
    let b : BeforePlain m.world m.c m.ops m.ends old instruction m.is.region m.is.around =
    before_plain m.world m.c m.ops m.ends old instruction m.is n m.here in
    let region : Region = record m.is.region { rest = b.rest } in
    faults m.world region m.is.around m.is.region.operands m.c
    (unticked (suc m.c.count) (act m.world instruction region m.is.around m.is.region.operands m.c)
    (subst IsNoFault b.step_is m.sound))

pub plain_otherwise : (S : Type 0) (instruction : Op) (old : Running) →
    ((carried : Option ValueType) → instruction ≡ op.Block carried → ⊥) →
    ((carried : Option ValueType) → instruction ≡ op.Loop carried → ⊥) →
    ((carried : Option ValueType) → instruction ≡ op.If carried → ⊥) → (instruction ≡ op.Else → ⊥) →
    (instruction ≡ op.End → ⊥) → ((label : ℕ) → instruction ≡ op.Br label → ⊥) →
    ((label : ℕ) → instruction ≡ op.BrIf label → ⊥) →
    ((labels : List ℕ) (last : ℕ) → instruction ≡ op.BrTable labels last → ⊥) → (instruction ≡ op.Return → ⊥) →
    ((function : ℕ) → instruction ≡ op.Call function → ⊥) → CanTurn S instruction old → IsPlain instruction
plain_otherwise S (op.Block r) old nb nl ni ne nd br bi bt nr nc m = absurd (nb r refl)
plain_otherwise S (op.Loop r) old nb nl ni ne nd br bi bt nr nc m = absurd (nl r refl)
plain_otherwise S (op.If r) old nb nl ni ne nd br bi bt nr nc m = absurd (ni r refl)
plain_otherwise S op.Else old nb nl ni ne nd br bi bt nr nc m = absurd (ne refl)
plain_otherwise S op.End old nb nl ni ne nd br bi bt nr nc m = absurd (nd refl)
plain_otherwise S (op.Br label) old nb nl ni ne nd br bi bt nr nc m = absurd (br label refl)
plain_otherwise S (op.BrIf label) old nb nl ni ne nd br bi bt nr nc m = absurd (bi label refl)
plain_otherwise S (op.BrTable labels last) old nb nl ni ne nd br bi bt nr nc m = absurd (bt labels last refl)
plain_otherwise S op.Return old nb nl ni ne nd br bi bt nr nc m = absurd (nr refl)
plain_otherwise S (op.Call function) old nb nl ni ne nd br bi bt nr nc m = absurd (nc function refl)
plain_otherwise S (op.CallIndirect index) old nb nl ni ne nd br bi bt nr nc m =
    absurd (no_step S (op.CallIndirect index) old refl (λ world region around operands c s. s) m)
plain_otherwise S op.MemoryGrow old nb nl ni ne nd br bi bt nr nc m =
    absurd (no_step S op.MemoryGrow old refl (λ world region around operands c s. s) m)
plain_otherwise S (op.Float opcode) old nb nl ni ne nd br bi bt nr nc m =
    absurd (no_step S (op.Float opcode) old refl (λ world region around operands c s. s) m)
plain_otherwise S instruction old nb nl ni ne nd br bi bt nr nc m = tt

pub found_here : {A : Type 0} (xs : List A) (place : ℕ) (x y : A) → place < length xs → x ≡ slice_index_or xs place x →
    x ≡ y → slice_get xs place ≡ Some y
found_here xs place x y h e same = slice_get_read xs (length xs) place x refl h e ∙ ap Some same
