-- The instruction `if`.
use Rattle.std.proofs.Common.{◌≡◌, ◌+◌, ◌<◌, ◌==◌, inl, inr, ℕ, suc, List, ◌∷◌, ◌++◌, Option, Some, None, Bool, true}
use Rattle.std.proofs.Common.{false, if◌then◌else◌, length, slice_get, drop, sym, ◌∙◌, ap, subst, refl, arith}
use Rattle.std.proofs.lemmas.Bool.Decides.{nat_tests}
use Rattle.wa_ops.specs.declared.op.Op.{Op}
use Rattle.wa_ops.specs.declared.op.Op.TheVariants.{If, Else, End}
use Rattle.wa_ops.specs.declared.op.ValueType.{ValueType}
use Rattle.wa_ops.specs.Sequences.{Sequence, if_then, if_else}
use Rattle.wa_ops.proofs.Places.{got_drop}
use Rattle.wa_machine.specs.Machine.{Value, word32, inner, Region, Configuration, World, Step, onward, with_word, enter}
use Rattle.wa_machine.specs.Machine.{ticked, step}
use Rattle.wa_run.specs.Acts.{Holds, IsNoFault}
use Rattle.wa_run.specs.Flat.{words_of, all_words, AllValues, Standing, IsOfKind, has_result, AllMark}
use Rattle.wa_run.specs.Running.{Is, Follows, IsArm, CanTurn}
use Rattle.wa_run.specs.declared.label.Label.{Label}
use Rattle.wa_run.specs.declared.label.Place.TheVariants as place
use Rattle.wa_run.specs.declared.running.Running.{Running}
use Rattle.wa_run.proofs.Plain.{FindsWord, found_word, Keeps, moved}
use Rattle.wa_run.proofs.Places.{SeesOneArm, SeesTwoArms, sees_if, Opens, OneArm, if_then_on, TwoArms, if_else_on}
use Rattle.wa_run.proofs.Following.{unticked, step_at, Top, top_of, rooted_like, guards_stay, enter_follows}

pub if_is_true : {A : Type 0} (b : Bool) (x y : A) → b ≡ true → (if b then x else y) ≡ x
if_is_true true x y h = refl
if_is_true false x y h = absurd cc

pub if_is_false : {A : Type 0} (b : Bool) (x y : A) → b ≡ false → (if b then x else y) ≡ y
if_is_false true x y h = absurd cc
if_is_false false x y h = refl

pub nonzero : (n : ℕ) → (n ≡ 0 → ⊥) → (n == 0) ≡ false
nonzero n h = grind (arith, nat_tests)

-- where an `end` stands there is no other arm
pub one_arm : (ops : List Op) (ends : List ℕ) (entry : ℕ) (other : Option ℕ) → IsArm ops ends entry other →
    slice_get ops entry ≡ Some End → other ≡ None
one_arm ops ends entry None a m = refl
one_arm ops ends entry (Some last) a m = let p : slice_get ops entry ≡ Some Else = a.0 in absurd cc

pub two_arms : (ops : List Op) (ends : List ℕ) (entry last : ℕ) (other : Option ℕ) → IsArm ops ends entry other →
    slice_get ops entry ≡ Some Else → slice_get ends entry ≡ Some last → other ≡ Some last
two_arms ops ends entry last None a m e = absurd (a m)
two_arms ops ends entry last (Some found) a m e = let p : slice_get ends entry ≡ Some found = a.1 in cc

-- the condition was taken from the words
pub record Taken {S : Type 0} (i_operands : List Value) (around : List Region) (c : Configuration S)
    (go : ℕ → List Value → Step S) (condition : ℕ) (old new : Running) : Type 0 where
  pub left : List Value
  pub same : with_word i_operands go ≡ go condition left
  pub holds : Holds around left c.locals c.globals c.memory new.store

pub taken : {S : Type 0} (operands : List Value) (around : List Region) (c : Configuration S)
    (go : ℕ → List Value → Step S) (condition : ℕ) (old new : Running) → IsNoFault (with_word operands go) →
    Holds around operands c.locals c.globals c.memory old.store →
    old.store.words.items ≡ condition ∷ new.store.words.items → Keeps old.store new.store →
    Taken operands around c go condition old new
taken operands around c go condition old new s h w k =
    let f : FindsWord operands = found_word operands go s in
    let before : old.store.words.items ≡ words_of operands ++ all_words around = h.words in
    let p : words_of operands ++ all_words around ≡ f.word ∷ (words_of f.left ++ all_words around) =
    ap (λ values. words_of values ++ all_words around) f.is in
    let same : f.word ≡ condition = cc in
    let v : AllValues (word32 f.word ∷ f.left) = subst AllValues f.is h.operands_fit in
    record {
      left = f.left;
      same = ap (λ values. with_word values go) f.is ∙ ap (λ n. go n f.left) same;
      holds = moved around around operands f.left c.locals c.globals c.memory old.store new.store h v.1 (cc) k;
    }

-- the label that an `if` opens, and what it leaves of the run
pub record ChoosesBy (carried : Option ValueType) (entry : ℕ) (other : Option ℕ) (condition : ℕ) (opened : Label)
    (old new : Running) : Type 0 where
  pub place : opened.place ≡ place.Inner
  pub carries : opened.carries ≡ has_result carried
  pub height : opened.height ≡ length new.store.words.items
  pub none : other ≡ None → opened.last ≡ entry
  pub some : (last : ℕ) → other ≡ Some last → opened.last ≡ last
  pub words : old.store.words.items ≡ condition ∷ new.store.words.items
  pub keeps : Keeps old.store new.store
  pub guards : new.guards.items ≡ old.guards.items

pub if_taken : {S : Type 0} (carried : Option ValueType) (entry : ℕ) (other : Option ℕ) (condition : ℕ) (opened : Label)
    (old new : Running) → ChoosesBy carried entry other condition opened old new →
    (condition ≡ 0 → ⊥) → new.at ≡ old.at + 1 → new.labels.items ≡ opened ∷ old.labels.items →
    (world : World S) (c : Configuration S) (ops : List Op) (ends : List ℕ) → Is ops ends c old →
    slice_get ops old.at ≡ Some (If carried) → slice_get ends old.at ≡ Some entry → IsArm ops ends entry other →
    IsNoFault (step world c) → Follows ops ends (step world c) None new c.host
if_taken {S} carried entry other condition opened old new b nz a l world c ops ends i h e arm s =
    elim (sees_if carried d.marker i.region.rest (drop (old.at + 1) ops) d.more
    (sym (got_drop ops old.at (If carried) h) ∙ d.stands.ops_are) d.marks_end d.tree) [ inl f ↦ one f | inr f ↦ two f ]
  where
    t : Top ops ends i.region i.around old.at old.labels.items
    t = top_of ops ends i.region i.around old.at old.labels.items i.marks

    d : Standing ops ends i.region.rest old.at
    d = t.marks.standing

    enters : (body rest : Sequence) (left : List Value) →
        step world c
        ≡ ticked (suc c.count) (enter inner carried body (record i.region { rest = rest }) i.around left c) →
        Holds i.around left c.locals c.globals c.memory new.store → Opens ops ends body rest (old.at + 1) opened.last →
        Follows ops ends (step world c) None new c.host
    enters body rest left q holds o =
        enter_follows inner carried body rest i.region i.around left opened old new world c ops ends t i.rooted i.guards
        q
        (subst (λ n. Opens ops ends body rest n opened.last) (sym a) o)
        (record {
          of_kind = subst (λ found. IsOfKind ops ends inner found) (sym b.place) tt;
          carries = b.carries;
          height = b.height ∙ ap length holds.words;
        }) holds l b.guards

    one : SeesOneArm carried i.region.rest → Follows ops ends (step world c) None new c.host
    one f =
        let x : OneArm ops ends f.body f.rest (old.at + 1) entry =
        if_then_on ops ends carried f.body f.rest old.at entry (subst (λ code. Standing ops ends code old.at) f.is d)
        e in
        let region : Region = record i.region { rest = f.rest } in
        let go : ℕ → List Value → Step S =
        λ n left. if n == 0 then onward region i.around left c else enter inner carried f.body region i.around left c in
        let p : step world c ≡ ticked (suc c.count) (with_word i.region.operands go) =
        step_at world c i.region i.around (if_then carried f.body f.rest) i.regions f.is in
        let k : Taken i.region.operands i.around c go condition old new =
        taken i.region.operands i.around c go condition old new
        (unticked (suc c.count) (with_word i.region.operands go) (subst IsNoFault p s)) i.holds b.words b.keeps in
        enters f.body f.rest k.left
        (p
        ∙ ap (ticked (suc c.count))
        (k.same
        ∙ if_is_false (condition == 0) (onward region i.around k.left c)
        (enter inner carried f.body region i.around k.left c) (nonzero condition nz)))
        k.holds (subst (λ n. Opens ops ends f.body f.rest (old.at + 1) n)
        (sym (b.none (one_arm ops ends entry other arm x.marker))) x.opens)

    two : SeesTwoArms carried i.region.rest → Follows ops ends (step world c) None new c.host
    two f =
        let x : (last : ℕ) × TwoArms ops ends f.one f.other f.rest (old.at + 1) entry last =
        if_else_on ops ends carried f.one f.other f.rest old.at entry
        (subst (λ code. Standing ops ends code old.at) f.is d) e in
        let region : Region = record i.region { rest = f.rest } in
        let go : ℕ → List Value → Step S =
        λ n left. enter inner carried (if n == 0 then f.other else f.one) region i.around left c in
        let p : step world c ≡ ticked (suc c.count) (with_word i.region.operands go) =
        step_at world c i.region i.around (if_else carried f.one f.other f.rest) i.regions f.is in
        let k : Taken i.region.operands i.around c go condition old new =
        taken i.region.operands i.around c go condition old new
        (unticked (suc c.count) (with_word i.region.operands go) (subst IsNoFault p s)) i.holds b.words b.keeps in
        let at_last : opened.last ≡ x.0 = b.some x.0 (two_arms ops ends entry x.0 other arm x.1.marker x.1.entry) in
        enters f.one f.rest k.left
        (p
        ∙ ap (ticked (suc c.count))
        (k.same
        ∙ ap (λ body. enter inner carried body region i.around k.left c)
        (if_is_false (condition == 0) f.other f.one (nonzero condition nz))))
        k.holds (subst (λ n. Opens ops ends f.one f.rest (old.at + 1) n) (sym at_last)
        (record { inside = x.1.one_stands; after = x.1.other_opens.after }))

pub if_other : {S : Type 0} (carried : Option ValueType) (entry last : ℕ) (condition : ℕ) (opened : Label)
    (old new : Running) → ChoosesBy carried entry (Some last) condition opened old new →
    condition ≡ 0 → new.at ≡ entry + 1 → new.labels.items ≡ opened ∷ old.labels.items →
    (world : World S) (c : Configuration S) (ops : List Op) (ends : List ℕ) → Is ops ends c old →
    slice_get ops old.at ≡ Some (If carried) → slice_get ends old.at ≡ Some entry → IsArm ops ends entry (Some last) →
    IsNoFault (step world c) → Follows ops ends (step world c) None new c.host
if_other {S} carried entry last condition opened old new b zero a l world c ops ends i h e arm s =
    elim (sees_if carried d.marker i.region.rest (drop (old.at + 1) ops) d.more
    (sym (got_drop ops old.at (If carried) h) ∙ d.stands.ops_are) d.marks_end d.tree) [
      | inl f ↦ absurd (one f)
      | inr f ↦ two f
    ]
  where
    t : Top ops ends i.region i.around old.at old.labels.items
    t = top_of ops ends i.region i.around old.at old.labels.items i.marks

    d : Standing ops ends i.region.rest old.at
    d = t.marks.standing

    one : SeesOneArm carried i.region.rest → ⊥
    one f =
        let x : OneArm ops ends f.body f.rest (old.at + 1) entry =
        if_then_on ops ends carried f.body f.rest old.at entry (subst (λ code. Standing ops ends code old.at) f.is d)
        e in
        let q : Some last ≡ None = one_arm ops ends entry (Some last) arm x.marker in cc

    two : SeesTwoArms carried i.region.rest → Follows ops ends (step world c) None new c.host
    two f =
        let x : (last : ℕ) × TwoArms ops ends f.one f.other f.rest (old.at + 1) entry last =
        if_else_on ops ends carried f.one f.other f.rest old.at entry
        (subst (λ code. Standing ops ends code old.at) f.is d) e in
        let region : Region = record i.region { rest = f.rest } in
        let go : ℕ → List Value → Step S =
        λ n left. enter inner carried (if n == 0 then f.other else f.one) region i.around left c in
        let p : step world c ≡ ticked (suc c.count) (with_word i.region.operands go) =
        step_at world c i.region i.around (if_else carried f.one f.other f.rest) i.regions f.is in
        let k : Taken i.region.operands i.around c go condition old new =
        taken i.region.operands i.around c go condition old new
        (unticked (suc c.count) (with_word i.region.operands go) (subst IsNoFault p s)) i.holds b.words b.keeps in
        let at_last : opened.last ≡ x.0 =
        b.some x.0 (two_arms ops ends entry x.0 (Some last) arm x.1.marker x.1.entry) in
        enter_follows inner carried f.other f.rest i.region i.around k.left opened old new world c ops ends t i.rooted
        i.guards
        (p
        ∙ ap (ticked (suc c.count))
        (k.same
        ∙ ap (λ body. enter inner carried body region i.around k.left c)
        (if_is_true (condition == 0) f.other f.one (ap (λ n. n == 0) zero))))
        (subst (λ n. Opens ops ends f.other f.rest new.at n) (sym at_last)
        (subst (λ n. Opens ops ends f.other f.rest n x.0) (sym a) x.1.other_opens))
        (record {
          of_kind = subst (λ found. IsOfKind ops ends inner found) (sym b.place) tt;
          carries = b.carries;
          height = b.height ∙ ap length k.holds.words;
        }) k.holds l b.guards

pub if_skipped : {S : Type 0} (carried : Option ValueType) (entry condition : ℕ) (old new : Running) →
    old.store.words.items ≡ condition ∷ new.store.words.items → Keeps old.store new.store →
    new.guards.items ≡ old.guards.items → condition ≡ 0 → new.at ≡ entry + 1 → new.labels.items ≡ old.labels.items →
    (world : World S) (c : Configuration S) (ops : List Op) (ends : List ℕ) → Is ops ends c old →
    slice_get ops old.at ≡ Some (If carried) → slice_get ends old.at ≡ Some entry → IsArm ops ends entry None →
    IsNoFault (step world c) → Follows ops ends (step world c) None new c.host
if_skipped {S} carried entry condition old new w keeps g zero a l world c ops ends i h e arm s =
    elim (sees_if carried d.marker i.region.rest (drop (old.at + 1) ops) d.more
    (sym (got_drop ops old.at (If carried) h) ∙ d.stands.ops_are) d.marks_end d.tree) [
      | inl f ↦ one f
      | inr f ↦ absurd (two f)
    ]
  where
    t : Top ops ends i.region i.around old.at old.labels.items
    t = top_of ops ends i.region i.around old.at old.labels.items i.marks

    d : Standing ops ends i.region.rest old.at
    d = t.marks.standing

    two : SeesTwoArms carried i.region.rest → ⊥
    two f =
        let x : (last : ℕ) × TwoArms ops ends f.one f.other f.rest (old.at + 1) entry last =
        if_else_on ops ends carried f.one f.other f.rest old.at entry
        (subst (λ code. Standing ops ends code old.at) f.is d) e in
        arm x.1.marker

    one : SeesOneArm carried i.region.rest → Follows ops ends (step world c) None new c.host
    one f =
        let x : OneArm ops ends f.body f.rest (old.at + 1) entry =
        if_then_on ops ends carried f.body f.rest old.at entry (subst (λ code. Standing ops ends code old.at) f.is d)
        e in
        let region : Region = record i.region { rest = f.rest } in
        let go : ℕ → List Value → Step S =
        λ n left. if n == 0 then onward region i.around left c else enter inner carried f.body region i.around left c in
        let p : step world c ≡ ticked (suc c.count) (with_word i.region.operands go) =
        step_at world c i.region i.around (if_then carried f.body f.rest) i.regions f.is in
        let k : Taken i.region.operands i.around c go condition old new =
        taken i.region.operands i.around c go condition old new
        (unticked (suc c.count) (with_word i.region.operands go) (subst IsNoFault p s)) i.holds w keeps in
        let left : Region = record region { operands = k.left } in
        subst (λ found. Follows ops ends found None new c.host)
        (sym (p
        ∙ ap (ticked (suc c.count))
        (k.same
        ∙ if_is_true (condition == 0) (onward region i.around k.left c)
        (enter inner carried f.body region i.around k.left c) (ap (λ n. n == 0) zero)))) (
          record {
            region = left;
            around = i.around;
            regions = refl;
            marks = subst (λ labels. AllMark ops ends (left ∷ i.around) new.at labels) (sym (l ∙ t.is)) (
              record {
                standing = subst (λ at. Standing ops ends f.rest at) (sym a) x.opens.after;
                labelled = t.marks.labelled;
                values = k.holds.operands_fit;
              },
              t.outer,
            );
            rooted = rooted_like i.region left i.around refl i.rooted;
            holds = k.holds;
            guards = guards_stay c.guards c.guards old new refl g i.guards;
          },
          refl,
        )

-- the condition is there
pub if_needs : (S : Type 0) (carried : Option ValueType) (old : Running) → CanTurn S (If carried) old →
    0 < length old.store.words.items
if_needs S carried old m =
    elim (sees_if carried d.marker i.region.rest (drop (old.at + 1) m.ops) d.more
    (sym (got_drop m.ops old.at (If carried) m.here) ∙ d.stands.ops_are) d.marks_end d.tree) [
      | inl f ↦ one f
      | inr f ↦ two f
    ]
  where
    i : Is m.ops m.ends m.c old
    i = m.is

    t : Top m.ops m.ends i.region i.around old.at old.labels.items
    t = top_of m.ops m.ends i.region i.around old.at old.labels.items i.marks

    d : Standing m.ops m.ends i.region.rest old.at
    d = t.marks.standing

    some : FindsWord i.region.operands → 0 < length old.store.words.items
    some f = omega (arith, ap length (i.holds.words ∙ ap (λ values. words_of values ++ all_words i.around) f.is))

    one : SeesOneArm carried i.region.rest → 0 < length old.store.words.items
    one f =
        let region : Region = record i.region { rest = f.rest } in
        let go : ℕ → List Value → Step S =
        λ n left.
        if n == 0 then onward region i.around left m.c else enter inner carried f.body region i.around left m.c in
        let p : step m.world m.c ≡ ticked (suc m.c.count) (with_word i.region.operands go) =
        step_at m.world m.c i.region i.around (if_then carried f.body f.rest) i.regions f.is in
        some (found_word i.region.operands go
        (unticked (suc m.c.count) (with_word i.region.operands go) (subst IsNoFault p m.sound)))

    two : SeesTwoArms carried i.region.rest → 0 < length old.store.words.items
    two f =
        let region : Region = record i.region { rest = f.rest } in
        let go : ℕ → List Value → Step S =
        λ n left. enter inner carried (if n == 0 then f.other else f.one) region i.around left m.c in
        let p : step m.world m.c ≡ ticked (suc m.c.count) (with_word i.region.operands go) =
        step_at m.world m.c i.region i.around (if_else carried f.one f.other f.rest) i.regions f.is in
        some (found_word i.region.operands go
        (unticked (suc m.c.count) (with_word i.region.operands go) (subst IsNoFault p m.sound)))
