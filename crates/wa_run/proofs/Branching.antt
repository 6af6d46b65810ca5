-- The instruction `br`, by what a branch from the innermost region makes of the run.
use Rattle.std.proofs.Common.{◌≡◌, ◌+◌, ◌<◌, ◌≤◌, ◌==◌, ◌⊎◌, inl, inr, ℕ, zero, suc, List, [], ◌∷◌, ◌++◌, Option, Some}
use Rattle.std.proofs.Common.{None, if◌then◌else◌, length, slice_get, slice_index_or, sym, ◌∙◌, ap, subst, refl, arith}
use Rattle.wa_ops.specs.declared.op.Op.{Op}
use Rattle.wa_ops.specs.declared.op.Op.TheVariants as op
use Rattle.wa_ops.specs.declared.op.ValueType.{ValueType}
use Rattle.wa_machine.specs.Machine.{Value, word_of, Region, Configuration, World, Step, onward, with_some, with_word}
use Rattle.wa_machine.specs.Machine.{taken_result, return_with, arrive, branch, leave, label_at, ticked, step}
use Rattle.wa_run.specs.Acts.{Holds, IsNoFault}
use Rattle.wa_run.specs.Flat.{words_of, all_words, Standing, AllMark, IsRooted}
use Rattle.wa_run.specs.Guards.{passes_of}
use Rattle.wa_run.specs.Running.{Is, Follows, BeforeBranch, Branches, CanBranch, CanTurn}
use Rattle.wa_run.specs.declared.running.Running.{Running}
use Rattle.wa_run.specs.declared.running.Stop.{Stop}
use Rattle.wa_run.proofs.Plain.{FindsSome, found_some, FindsWord, found_word, Keeps}
use Rattle.wa_run.proofs.Following.{unticked, rooted_like, guards_stay, BeforePlain, before_plain}
use Rattle.wa_run.proofs.Leaving.{TakesNone, TakesOne, taken_is, ReturnsTop}
use Rattle.wa_run.proofs.Choosing.{if_is_true, if_is_false, nonzero, Taken, taken}

-- behind a plain instruction, where the innermost region goes on
pub before_branch : {S : Type 0} (world : World S) (c : Configuration S) (ops : List Op) (ends : List ℕ) (old : Running)
    (instruction : Op) (i : Is ops ends c old) →
    (b : BeforePlain world c ops ends old instruction i.region i.around) →
    BeforeBranch ops ends (record i.region { rest = b.rest }) i.around i.region.operands c old
before_branch world c ops ends old instruction i b =
    let region : Region = record i.region { rest = b.rest } in
    record {
      at = old.at + 1;
      marks = subst (λ labels. AllMark ops ends (region ∷ i.around) (old.at + 1) labels) (sym b.top.is) (
        record { standing = b.standing; labelled = b.top.marks.labelled; values = b.top.marks.values },
        b.top.outer,
      );
      rooted = rooted_like i.region region i.around refl i.rooted;
      holds = i.holds;
      guards = i.guards;
    }

pub br_follows : {S : Type 0} (label entry : ℕ) (old : Running) (found : Option Stop) (new : Running) →
    Branches S label old found new →
    (world : World S) (c : Configuration S) (ops : List Op) (ends : List ℕ) → Is ops ends c old →
    slice_get ops old.at ≡ Some (op.Br label) → slice_get ends old.at ≡ Some entry → IsNoFault (step world c) →
    Follows ops ends (step world c) found new c.host
br_follows label entry old found new branches world c ops ends i h e s =
    let b : BeforePlain world c ops ends old (op.Br label) i.region i.around =
    before_plain world c ops ends old (op.Br label) i refl h in
    let region : Region = record i.region { rest = b.rest } in
    let t : IsNoFault (branch label (region ∷ i.around) i.region.operands c) =
    unticked (suc c.count) (branch label (region ∷ i.around) i.region.operands c) (subst IsNoFault b.step_is s) in
    subst (λ s. Follows ops ends s found new c.host) (sym b.step_is)
    (branches (suc c.count) c ops ends region i.around i.region.operands
    (before_branch world c ops ends old (op.Br label) i b) t)

pub br_can : (S : Type 0) (label : ℕ) (old : Running) → CanTurn S (op.Br label) old → CanBranch S label old
br_can S label old m =
    let b : BeforePlain m.world m.c m.ops m.ends old (op.Br label) m.is.region m.is.around =
    before_plain m.world m.c m.ops m.ends old (op.Br label) m.is refl m.here in
    let region : Region = record m.is.region { rest = b.rest } in
    record {
      c = m.c;
      ops = m.ops;
      ends = m.ends;
      region = region;
      around = m.is.around;
      operands = m.is.region.operands;
      before = before_branch m.world m.c m.ops m.ends old (op.Br label) m.is b;
      sound =
          unticked (suc m.c.count) (branch label (region ∷ m.is.around) m.is.region.operands m.c)
          (subst IsNoFault b.step_is m.sound);
    }

-- ---- `br_if`

-- the words without the condition, and nothing else changed
pub record TakesCondition (condition : ℕ) (old mid : Running) : Type 0 where
  pub words : old.store.words.items ≡ condition ∷ mid.store.words.items
  pub keeps : Keeps old.store mid.store
  pub labels : mid.labels.items ≡ old.labels.items
  pub guards : mid.guards.items ≡ old.guards.items

pub before_taken : {S : Type 0} {c : Configuration S} {ops : List Op} {ends : List ℕ} {region : Region}
    {around : List Region} {operands left : List Value} (condition : ℕ) (old mid : Running) →
    TakesCondition condition old mid →
    BeforeBranch ops ends region around operands c old → ((id : ℕ) → c.guards id ≡ passes_of old.guards.items id) →
    Holds around left c.locals c.globals c.memory mid.store → BeforeBranch ops ends region around left c mid
before_taken {S} {c} {ops} {ends} {region} {around} condition old mid k before g h = record {
  at = before.at;
  marks = subst (λ labels. AllMark ops ends (region ∷ around) before.at labels) (sym k.labels) before.marks;
  rooted = before.rooted;
  holds = h;
  guards = guards_stay c.guards c.guards old mid refl k.guards g;
}

pub br_if_branches : {S : Type 0} (label entry condition : ℕ) (old mid : Running) (found : Option Stop)
    (new : Running) → TakesCondition condition old mid → (condition ≡ 0 → ⊥) → Branches S label mid found new →
    (world : World S) (c : Configuration S) (ops : List Op) (ends : List ℕ) → Is ops ends c old →
    slice_get ops old.at ≡ Some (op.BrIf label) → slice_get ends old.at ≡ Some entry → IsNoFault (step world c) →
    Follows ops ends (step world c) found new c.host
br_if_branches {S} label entry condition old mid found new k nz branches world c ops ends i h e s =
    let b : BeforePlain world c ops ends old (op.BrIf label) i.region i.around =
    before_plain world c ops ends old (op.BrIf label) i refl h in
    let region : Region = record i.region { rest = b.rest } in
    let go : ℕ → List Value → Step S =
    λ n left. if n == 0 then onward region i.around left c else branch label (region ∷ i.around) left c in
    let t : Taken i.region.operands i.around c go condition old mid =
    taken i.region.operands i.around c go condition old mid
    (unticked (suc c.count) (with_word i.region.operands go) (subst IsNoFault b.step_is s)) i.holds k.words k.keeps in
    let q : with_word i.region.operands go ≡ branch label (region ∷ i.around) t.left c =
    t.same
    ∙ if_is_false (condition == 0) (onward region i.around t.left c) (branch label (region ∷ i.around) t.left c)
    (nonzero condition nz) in
    let p : step world c ≡ ticked (suc c.count) (branch label (region ∷ i.around) t.left c) =
    b.step_is ∙ ap (ticked (suc c.count)) q in
    subst (λ s. Follows ops ends s found new c.host) (sym p)
    (branches (suc c.count) c ops ends region i.around t.left
    (before_taken condition old mid k (before_branch world c ops ends old (op.BrIf label) i b) i.guards t.holds)
    (unticked (suc c.count) (branch label (region ∷ i.around) t.left c) (subst IsNoFault p s)))

pub br_if_skips : {S : Type 0} (label entry condition : ℕ) (old new : Running) → TakesCondition condition old new →
    condition ≡ 0 → new.at ≡ old.at + 1 →
    (world : World S) (c : Configuration S) (ops : List Op) (ends : List ℕ) → Is ops ends c old →
    slice_get ops old.at ≡ Some (op.BrIf label) → slice_get ends old.at ≡ Some entry → IsNoFault (step world c) →
    Follows ops ends (step world c) None new c.host
br_if_skips {S} label entry condition old new k is_zero a world c ops ends i h e s =
    let b : BeforePlain world c ops ends old (op.BrIf label) i.region i.around =
    before_plain world c ops ends old (op.BrIf label) i refl h in
    let region : Region = record i.region { rest = b.rest } in
    let go : ℕ → List Value → Step S =
    λ n left. if n == 0 then onward region i.around left c else branch label (region ∷ i.around) left c in
    let t : Taken i.region.operands i.around c go condition old new =
    taken i.region.operands i.around c go condition old new
    (unticked (suc c.count) (with_word i.region.operands go) (subst IsNoFault b.step_is s)) i.holds k.words k.keeps in
    let q : with_word i.region.operands go ≡ onward region i.around t.left c =
    t.same
    ∙ if_is_true (condition == 0) (onward region i.around t.left c) (branch label (region ∷ i.around) t.left c)
    (ap (λ n. n == 0) is_zero) in
    let given : Region = record region { operands = t.left } in
    subst (λ s. Follows ops ends s None new c.host) (sym (b.step_is ∙ ap (ticked (suc c.count)) q)) (
      record {
        region = given;
        around = i.around;
        regions = refl;
        marks = subst (λ labels. AllMark ops ends (given ∷ i.around) new.at labels) (sym (k.labels ∙ b.top.is)) (
          record {
            standing = subst (λ at. Standing ops ends b.rest at) (sym a) b.standing;
            labelled = b.top.marks.labelled;
            values = t.holds.operands_fit;
          },
          b.top.outer,
        );
        rooted = rooted_like i.region given i.around refl i.rooted;
        holds = t.holds;
        guards = guards_stay c.guards c.guards old new refl k.guards i.guards;
      },
      refl,
    )

pub br_if_needs : (S : Type 0) (label : ℕ) (old : Running) → CanTurn S (op.BrIf label) old →
    0 < length old.store.words.items
br_if_needs S label old m =
    let b : BeforePlain m.world m.c m.ops m.ends old (op.BrIf label) m.is.region m.is.around =
    before_plain m.world m.c m.ops m.ends old (op.BrIf label) m.is refl m.here in
    let region : Region = record m.is.region { rest = b.rest } in
    let go : ℕ → List Value → Step S =
    λ n left. if n == 0 then onward region m.is.around left m.c else branch label (region ∷ m.is.around) left m.c in
    let f : FindsWord m.is.region.operands =
    found_word m.is.region.operands go
    (unticked (suc m.c.count) (with_word m.is.region.operands go) (subst IsNoFault b.step_is m.sound)) in
    omega (arith, ap length (m.is.holds.words ∙ ap (λ values. words_of values ++ all_words m.is.around) f.is))

pub br_if_can : (S : Type 0) (label condition : ℕ) (old mid : Running) → TakesCondition condition old mid →
    (condition ≡ 0 → ⊥) → CanTurn S (op.BrIf label) old → CanBranch S label mid
br_if_can S label condition old mid k nz m =
    let b : BeforePlain m.world m.c m.ops m.ends old (op.BrIf label) m.is.region m.is.around =
    before_plain m.world m.c m.ops m.ends old (op.BrIf label) m.is refl m.here in
    let region : Region = record m.is.region { rest = b.rest } in
    let go : ℕ → List Value → Step S =
    λ n left. if n == 0 then onward region m.is.around left m.c else branch label (region ∷ m.is.around) left m.c in
    let u : IsNoFault (with_word m.is.region.operands go) =
    unticked (suc m.c.count) (with_word m.is.region.operands go) (subst IsNoFault b.step_is m.sound) in
    let t : Taken m.is.region.operands m.is.around m.c go condition old mid =
    taken m.is.region.operands m.is.around m.c go condition old mid u m.is.holds k.words k.keeps in
    let q : with_word m.is.region.operands go ≡ branch label (region ∷ m.is.around) t.left m.c =
    t.same
    ∙ if_is_false (condition == 0) (onward region m.is.around t.left m.c)
    (branch label (region ∷ m.is.around) t.left m.c) (nonzero condition nz) in
    record {
      c = m.c;
      ops = m.ops;
      ends = m.ends;
      region = region;
      around = m.is.around;
      operands = t.left;
      before =
          before_taken condition old mid k (before_branch m.world m.c m.ops m.ends old (op.BrIf label) m.is b)
          m.is.guards t.holds;
      sound = subst IsNoFault q u;
    }

-- ---- `br_table`

pub label_within : (labels : List ℕ) (last index : ℕ) → index < length labels →
    slice_index_or labels index 0 ≡ label_at labels last index
label_within [] last index h = absurd (omega (arith, h))
label_within (label ∷ labels) last zero h = refl
label_within (label ∷ labels) last (suc index) h = label_within labels last index (omega (arith, h))

pub label_past : (labels : List ℕ) (last index : ℕ) → length labels ≤ index → last ≡ label_at labels last index
label_past [] last index h = refl
label_past (label ∷ labels) last zero h = absurd (omega (arith, h))
label_past (label ∷ labels) last (suc index) h = label_past labels last index (omega (arith, h))

pub br_table_needs : (S : Type 0) (labels : List ℕ) (last : ℕ) (old : Running) →
    CanTurn S (op.BrTable labels last) old → 0 < length old.store.words.items
br_table_needs S labels last old m =
    let b : BeforePlain m.world m.c m.ops m.ends old (op.BrTable labels last) m.is.region m.is.around =
    before_plain m.world m.c m.ops m.ends old (op.BrTable labels last) m.is refl m.here in
    let region : Region = record m.is.region { rest = b.rest } in
    let go : ℕ → List Value → Step S =
    λ index left. branch (label_at labels last index) (region ∷ m.is.around) left m.c in
    let f : FindsWord m.is.region.operands =
    found_word m.is.region.operands go
    (unticked (suc m.c.count) (with_word m.is.region.operands go) (subst IsNoFault b.step_is m.sound)) in
    omega (arith, ap length (m.is.holds.words ∙ ap (λ values. words_of values ++ all_words m.is.around) f.is))

pub br_table_can : (S : Type 0) (labels : List ℕ) (last label index : ℕ) (old mid : Running) →
    TakesCondition index old mid → label ≡ label_at labels last index → CanTurn S (op.BrTable labels last) old →
    CanBranch S label mid
br_table_can S labels last label index old mid k e m =
    let b : BeforePlain m.world m.c m.ops m.ends old (op.BrTable labels last) m.is.region m.is.around =
    before_plain m.world m.c m.ops m.ends old (op.BrTable labels last) m.is refl m.here in
    let region : Region = record m.is.region { rest = b.rest } in
    let go : ℕ → List Value → Step S =
    λ index left. branch (label_at labels last index) (region ∷ m.is.around) left m.c in
    let u : IsNoFault (with_word m.is.region.operands go) =
    unticked (suc m.c.count) (with_word m.is.region.operands go) (subst IsNoFault b.step_is m.sound) in
    let t : Taken m.is.region.operands m.is.around m.c go index old mid =
    taken m.is.region.operands m.is.around m.c go index old mid u m.is.holds k.words k.keeps in
    record {
      c = m.c;
      ops = m.ops;
      ends = m.ends;
      region = region;
      around = m.is.around;
      operands = t.left;
      before =
          before_taken index old mid k (before_branch m.world m.c m.ops m.ends old (op.BrTable labels last) m.is b)
          m.is.guards t.holds;
      sound = subst IsNoFault (t.same ∙ ap (λ n. branch n (region ∷ m.is.around) t.left m.c) (sym e)) u;
    }

pub br_table_branches : {S : Type 0} (labels : List ℕ) (last label entry index : ℕ) (old mid : Running)
    (found : Option Stop) (new : Running) → TakesCondition index old mid → label ≡ label_at labels last index →
    Branches S label mid found new →
    (world : World S) (c : Configuration S) (ops : List Op) (ends : List ℕ) → Is ops ends c old →
    slice_get ops old.at ≡ Some (op.BrTable labels last) → slice_get ends old.at ≡ Some entry →
    IsNoFault (step world c) →
    Follows ops ends (step world c) found new c.host
br_table_branches {S} labels last label entry index old mid found new k l branches world c ops ends i h e s =
    let b : BeforePlain world c ops ends old (op.BrTable labels last) i.region i.around =
    before_plain world c ops ends old (op.BrTable labels last) i refl h in
    let region : Region = record i.region { rest = b.rest } in
    let go : ℕ → List Value → Step S = λ index left. branch (label_at labels last index) (region ∷ i.around) left c in
    let t : Taken i.region.operands i.around c go index old mid =
    taken i.region.operands i.around c go index old mid
    (unticked (suc c.count) (with_word i.region.operands go) (subst IsNoFault b.step_is s)) i.holds k.words k.keeps in
    let p : step world c ≡ ticked (suc c.count) (branch label (region ∷ i.around) t.left c) =
    b.step_is ∙ ap (ticked (suc c.count)) (t.same ∙ ap (λ n. branch n (region ∷ i.around) t.left c) (sym l)) in
    subst (λ s. Follows ops ends s found new c.host) (sym p)
    (branches (suc c.count) c ops ends region i.around t.left
    (before_taken index old mid k (before_branch world c ops ends old (op.BrTable labels last) i b) i.guards t.holds)
    (unticked (suc c.count) (branch label (region ∷ i.around) t.left c) (subst IsNoFault p s)))

-- ---- `return`

pub taken_returns : {S : Type 0} (result : Option ValueType) (operands : List Value) (outer words : List ℕ)
    (c : Configuration S) → words ≡ words_of operands ++ outer →
    IsNoFault (with_some (taken_result result operands) (λ out. return_with out c)) →
    ReturnsTop (with_some (taken_result result operands) (λ out. return_with out c)) c words
taken_returns {S} result operands outer words c w s = at (taken_is result operands f.value f.is)
  where
    f : FindsSome (taken_result result operands)
    f = found_some (taken_result result operands) (λ out. return_with out c) s

    e : with_some (taken_result result operands) (λ out. return_with out c) ≡ return_with f.value c
    e = ap (λ x. with_some x (λ out. return_with out c)) f.is

    at : TakesNone result f.value ⊎ TakesOne result operands f.value →
        ReturnsTop (with_some (taken_result result operands) (λ out. return_with out c)) c words
    at (inl n) = absurd (subst (λ out. IsNoFault (return_with out c)) n.out_is (subst IsNoFault e s))
    at (inr o) = record {
      word = word_of o.value;
      below = words_of o.left ++ outer;
      words_are = w ∙ ap (λ values. words_of values ++ outer) o.operands_are;
      is = e ∙ ap (λ out. return_with out c) o.out_is;
    }

pub leave_returns : {S : Type 0} (region : Region) (around : List Region) (operands : List Value) (outer words : List ℕ)
    (c : Configuration S) → IsRooted (region ∷ around) → words ≡ words_of operands ++ outer →
    IsNoFault (leave (region ∷ around) operands c) → ReturnsTop (leave (region ∷ around) operands c) c words
leave_returns region [] operands outer words c r w s =
    let e : leave (region ∷ []) operands c
    ≡ with_some (taken_result region.result operands) (λ out. return_with out c) =
    ap (λ kind. arrive kind region [] operands c) r in
    subst (λ found. ReturnsTop found c words) (sym e)
    (taken_returns region.result operands outer words c w (subst IsNoFault e s))
leave_returns region (other ∷ around) operands outer words c r w s =
    leave_returns other around operands outer words c r w s

pub return_returns : {S : Type 0} (old : Running) (world : World S) (c : Configuration S) (ops : List Op)
    (ends : List ℕ) → Is ops ends c old → slice_get ops old.at ≡ Some op.Return → IsNoFault (step world c) →
    ReturnsTop (step world c) (record c { count = suc c.count }) old.store.words.items
return_returns old world c ops ends i h s =
    let b : BeforePlain world c ops ends old op.Return i.region i.around =
    before_plain world c ops ends old op.Return i refl h in
    let region : Region = record i.region { rest = b.rest } in
    let r : ReturnsTop (leave (region ∷ i.around) i.region.operands c) c old.store.words.items =
    leave_returns region i.around i.region.operands (all_words i.around) old.store.words.items c
    (rooted_like i.region region i.around refl i.rooted) i.holds.words
    (unticked (suc c.count) (leave (region ∷ i.around) i.region.operands c) (subst IsNoFault b.step_is s)) in
    record { word = r.word; below = r.below; words_are = r.words_are; is = b.step_is ∙ ap (ticked (suc c.count)) r.is }

pub return_needs : (S : Type 0) (old : Running) → CanTurn S op.Return old → 0 < length old.store.words.items
return_needs S old m =
    let r : ReturnsTop (step m.world m.c) (record m.c { count = suc m.c.count }) old.store.words.items =
    return_returns old m.world m.c m.ops m.ends m.is m.here m.sound in
    omega (arith, ap length r.words_are)
