-- One turn of flat code against one step of the machine, for each form of instruction.
use Rattle.std.proofs.Common.{◌≡◌, ◌+◌, ℕ, suc, List, [], ◌∷◌, ◌++◌, Option, Some, None, length, slice_get, drop, sym}
use Rattle.std.proofs.Common.{◌∙◌, ap, subst, refl}
use Rattle.hk_base.specs.declared.outcome.Trap.{Trap}
use Rattle.wa_ops.specs.declared.op.Op.{Op}
use Rattle.wa_ops.specs.declared.op.Op.TheVariants.{Block, Loop}
use Rattle.wa_ops.specs.declared.op.ValueType.{ValueType}
use Rattle.wa_ops.specs.Sequences.{Sequence, plain, block, loop, nesting, stands}
use Rattle.wa_ops.proofs.Places.{got_drop}
use Rattle.wa_machine.specs.Machine.{Value, Kind, inner, turns, Region, Configuration, World, Step, next, ended, fault}
use Rattle.wa_machine.specs.Machine.{onward, act, enter, node, innermost, ticked, step}
use Rattle.wa_run.specs.Acts.{Holds, IsNoFault, GoesOn, Acts, ActsOr}
use Rattle.wa_run.specs.Flat.{words_of, all_words, Standing, IsOfKind, has_result, IsLabelled, Marks, AllMark, IsRooted}
use Rattle.wa_run.specs.Guards.{passes_of}
use Rattle.wa_run.specs.Running.{Is, Follows}
use Rattle.wa_run.specs.declared.label.Label.{Label}
use Rattle.wa_run.specs.declared.label.Place.TheVariants as place
use Rattle.wa_run.specs.declared.running.Running.{Running}
use Rattle.wa_run.specs.declared.running.Stop.TheVariants as stop
use Rattle.wa_run.proofs.Places.{SeesPlain, sees_plain, SeesBlock, sees_block, SeesLoop, sees_loop, plain_on, Opens}
use Rattle.wa_run.proofs.Places.{block_on, loop_on}

-- ---- the machine's step at the innermost region

pub unticked : {S : Type 0} (count : ℕ) (s : Step S) → IsNoFault (ticked count s) → IsNoFault s
unticked count (next c) h = h
unticked count (ended outcome c) h = h
unticked count fault h = h

pub step_at : {S : Type 0} (world : World S) (c : Configuration S) (region : Region) (around : List Region)
    (code : Sequence) → c.regions ≡ region ∷ around → region.rest ≡ code →
    step world c ≡ ticked (suc c.count) (node world code region around c)
step_at world c region around code r e =
    ap (λ regions. ticked (suc c.count) (innermost world regions c)) r
    ∙ ap (λ x. ticked (suc c.count) (node world x region around c)) e

-- ---- the innermost label

pub record Top (ops : List Op) (ends : List ℕ) (region : Region) (around : List Region) (at : ℕ)
    (labels : List Label) : Type 0 where
  pub label : Label
  pub others : List Label
  pub is : labels ≡ label ∷ others
  pub marks : Marks ops ends region at (length (all_words around)) label
  pub outer : AllMark ops ends around (label.last + 1) others

pub top_of : (ops : List Op) (ends : List ℕ) (region : Region) (around : List Region) (at : ℕ) (labels : List Label) →
    AllMark ops ends (region ∷ around) at labels → Top ops ends region around at labels
top_of ops ends region around at [] m = absurd m
top_of ops ends region around at (label ∷ others) m = record {
  label = label;
  others = others;
  is = refl;
  marks = m.0;
  outer = m.1;
}

pub rooted_like : (a b : Region) (around : List Region) → a.kind ≡ b.kind → IsRooted (a ∷ around) →
    IsRooted (b ∷ around)
rooted_like a b [] e h = sym e ∙ h
rooted_like a b (other ∷ around) e h = h

-- the guards' counts stay
pub guards_stay : (before after : ℕ → ℕ) (old new : Running) → after ≡ before → new.guards.items ≡ old.guards.items →
    ((id : ℕ) → before id ≡ passes_of old.guards.items id) →
    (id : ℕ) → after id ≡ passes_of new.guards.items id
guards_stay before after old new e g h id =
    ap (λ (counts : ℕ → ℕ). counts id) e ∙ h id ∙ ap (λ passes. passes_of passes id) (sym g)

-- ---- plain instructions

-- what stands in front of a plain instruction
pub record BeforePlain {S : Type 0} (world : World S) (c : Configuration S) (ops : List Op) (ends : List ℕ)
    (old : Running) (instruction : Op) (region : Region) (around : List Region) : Type 0 where
  pub rest : Sequence
  pub top : Top ops ends region around old.at old.labels.items
  pub standing : Standing ops ends rest (old.at + 1)
  pub step_is : step world c
      ≡ ticked (suc c.count) (act world instruction (record region { rest = rest }) around region.operands c)

pub before_plain : {S : Type 0} (world : World S) (c : Configuration S) (ops : List Op) (ends : List ℕ) (old : Running)
    (instruction : Op) (i : Is ops ends c old) → nesting instruction ≡ stands →
    slice_get ops old.at ≡ Some instruction → BeforePlain world c ops ends old instruction i.region i.around
before_plain world c ops ends old instruction i n h =
    let t : Top ops ends i.region i.around old.at old.labels.items =
    top_of ops ends i.region i.around old.at old.labels.items i.marks in
    let s : Standing ops ends i.region.rest old.at = t.marks.standing in
    let p : SeesPlain instruction i.region.rest =
    sees_plain instruction s.marker i.region.rest (drop (old.at + 1) ops) s.more
    (sym (got_drop ops old.at instruction h) ∙ s.stands.ops_are) s.marks_end n in
    record {
      rest = p.rest;
      top = t;
      standing = plain_on ops ends instruction p.rest old.at (subst (λ code. Standing ops ends code old.at) p.is s);
      step_is = step_at world c i.region i.around (plain instruction p.rest) i.regions p.is;
    }

-- the innermost region goes on behind a plain instruction
pub onward_follows : {S : Type 0} (region : Region) (around : List Region) (rest : Sequence) (operands : List Value)
    (after : Configuration S) (host : S) (old new : Running)
    (world : World S) (c : Configuration S) (ops : List Op) (ends : List ℕ) →
    Top ops ends region around old.at old.labels.items → Standing ops ends rest (old.at + 1) →
    IsRooted (region ∷ around) →
    step world c ≡ ticked (suc c.count) (onward (record region { rest = rest }) around operands after) →
    Holds around operands after.locals after.globals after.memory new.store →
    new.at ≡ old.at + 1 → new.labels.items ≡ old.labels.items →
    ((id : ℕ) → after.guards id ≡ passes_of new.guards.items id) → after.host ≡ host →
    Follows ops ends (step world c) None new host
onward_follows region around rest operands after host old new world c ops ends t d r e h a l g k =
    let given : Region = record region { rest = rest; operands = operands } in
    subst (λ found. Follows ops ends found None new host) (sym e) (
      record {
        region = given;
        around = around;
        regions = refl;
        marks = subst (λ labels. AllMark ops ends (given ∷ around) new.at labels) (sym (l ∙ t.is)) (
          record {
            standing = subst (λ at. Standing ops ends rest at) (sym a) d;
            labelled = t.marks.labelled;
            values = h.operands_fit;
          },
          t.outer,
        );
        rooted = rooted_like region given around refl r;
        holds = h;
        guards = g;
      },
      k,
    )

pub plain_follows : {S : Type 0} (instruction : Op) (entry : ℕ) (old new : Running) → nesting instruction ≡ stands →
    Acts S instruction old.store new.store →
    new.at ≡ old.at + 1 → new.labels.items ≡ old.labels.items → new.guards.items ≡ old.guards.items →
    (world : World S) (c : Configuration S) (ops : List Op) (ends : List ℕ) → Is ops ends c old →
    slice_get ops old.at ≡ Some instruction → slice_get ends old.at ≡ Some entry → IsNoFault (step world c) →
    Follows ops ends (step world c) None new c.host
plain_follows instruction entry old new n acts a l g world c ops ends i h e s =
    let b : BeforePlain world c ops ends old instruction i.region i.around =
    before_plain world c ops ends old instruction i n h in
    let region : Region = record i.region { rest = b.rest } in
    let t : IsNoFault (act world instruction region i.around i.region.operands c) =
    unticked (suc c.count) (act world instruction region i.around i.region.operands c) (subst IsNoFault b.step_is s) in
    let k : GoesOn (act world instruction region i.around i.region.operands c) region i.around c new.store =
    acts world region i.around i.region.operands c i.holds t in
    onward_follows i.region i.around b.rest k.operands k.after c.host old new world c ops ends b.top b.standing i.rooted
    (b.step_is ∙ ap (ticked (suc c.count)) k.step_is) k.holds a l
    (guards_stay c.guards k.after.guards old new k.guards g i.guards) k.host

pub trap_follows : {S : Type 0} (instruction : Op) (entry : ℕ) (cause : Trap) (old new : Running) →
    nesting instruction ≡ stands → ActsOr S instruction old.store (Some cause) new.store →
    (world : World S) (c : Configuration S) (ops : List Op) (ends : List ℕ) → Is ops ends c old →
    slice_get ops old.at ≡ Some instruction → slice_get ends old.at ≡ Some entry → IsNoFault (step world c) →
    Follows ops ends (step world c) (Some (stop.Trapped cause)) new c.host
trap_follows instruction entry cause old new n acts world c ops ends i h e s =
    let b : BeforePlain world c ops ends old instruction i.region i.around =
    before_plain world c ops ends old instruction i n h in
    let region : Region = record i.region { rest = b.rest } in
    let t : IsNoFault (act world instruction region i.around i.region.operands c) =
    unticked (suc c.count) (act world instruction region i.around i.region.operands c) (subst IsNoFault b.step_is s) in
    subst (λ found. Follows ops ends found (Some (stop.Trapped cause)) new c.host)
    (sym (b.step_is ∙ ap (ticked (suc c.count)) (acts world region i.around i.region.operands c i.holds t)))
    (refl, refl, tt)

-- ---- regions that open

pub enter_follows : {S : Type 0} (kind : Kind) (result : Option ValueType) (inside rest : Sequence) (region : Region)
    (around : List Region) (operands : List Value) (opened : Label) (old new : Running)
    (world : World S) (c : Configuration S) (ops : List Op) (ends : List ℕ) →
    Top ops ends region around old.at old.labels.items → IsRooted (region ∷ around) →
    ((id : ℕ) → c.guards id ≡ passes_of old.guards.items id) →
    step world c ≡ ticked (suc c.count) (enter kind result inside (record region { rest = rest }) around operands c) →
    Opens ops ends inside rest new.at opened.last →
    IsLabelled ops ends kind result (length (words_of operands ++ all_words around)) opened →
    Holds around operands c.locals c.globals c.memory new.store → new.labels.items ≡ opened ∷ old.labels.items →
    new.guards.items ≡ old.guards.items →
    Follows ops ends (step world c) None new c.host
enter_follows kind result inside rest region around operands opened old new world c ops ends t r q e o l h n g =
    let under : Region = record region { rest = rest; operands = operands } in
    let fresh : Region = record { kind = kind; result = result; operands = []; rest = inside } in
    subst (λ found. Follows ops ends found None new c.host) (sym e) (
      record {
        region = fresh;
        around = under ∷ around;
        regions = refl;
        marks =
            subst (λ labels. AllMark ops ends (fresh ∷ under ∷ around) new.at labels)
            (sym (n ∙ ap (λ labels. opened ∷ labels) t.is)) (
              record { standing = o.inside; labelled = l; values = tt },
              (record { standing = o.after; labelled = t.marks.labelled; values = h.operands_fit }, t.outer),
            );
        rooted = rooted_like region under around refl r;
        holds = record {
          words = h.words;
          operands_fit = tt;
          locals_are = h.locals_are;
          locals_fit = h.locals_fit;
          globals_are = h.globals_are;
          globals_fit = h.globals_fit;
          memory_is = h.memory_is;
          memory_fits = h.memory_fits;
        };
        guards = guards_stay c.guards c.guards old new refl g q;
      },
      refl,
    )

-- what a `block` and a `loop` leave of the run but for the label
pub record OnlyOpens (old new : Running) (opened : Label) : Type 0 where
  pub at : new.at ≡ old.at + 1
  pub labels : new.labels.items ≡ opened ∷ old.labels.items
  pub guards : new.guards.items ≡ old.guards.items
  pub store : new.store ≡ old.store

pub block_follows : {S : Type 0} (result : Option ValueType) (last : ℕ) (opened : Label) (old new : Running) →
    opened.place ≡ place.Inner → opened.last ≡ last → opened.carries ≡ has_result result →
    opened.height ≡ length old.store.words.items → OnlyOpens old new opened →
    (world : World S) (c : Configuration S) (ops : List Op) (ends : List ℕ) → Is ops ends c old →
    slice_get ops old.at ≡ Some (Block result) → slice_get ends old.at ≡ Some last → IsNoFault (step world c) →
    Follows ops ends (step world c) None new c.host
block_follows result last opened old new p e k b o world c ops ends i h g s =
    let t : Top ops ends i.region i.around old.at old.labels.items =
    top_of ops ends i.region i.around old.at old.labels.items i.marks in
    let d : Standing ops ends i.region.rest old.at = t.marks.standing in
    let f : SeesBlock result i.region.rest =
    sees_block result d.marker i.region.rest (drop (old.at + 1) ops) d.more
    (sym (got_drop ops old.at (Block result) h) ∙ d.stands.ops_are) d.marks_end d.tree in
    let x : Opens ops ends f.body f.rest (old.at + 1) last =
    block_on ops ends result f.body f.rest old.at last (subst (λ code. Standing ops ends code old.at) f.is d) g in
    enter_follows inner result f.body f.rest i.region i.around i.region.operands opened old new world c ops ends t
    i.rooted i.guards
    (step_at world c i.region i.around (block result f.body f.rest) i.regions f.is)
    (subst (λ n. Opens ops ends f.body f.rest new.at n) (sym e)
    (subst (λ n. Opens ops ends f.body f.rest n last) (sym o.at) x))
    (record {
      of_kind = subst (λ found. IsOfKind ops ends inner found) (sym p) tt;
      carries = k;
      height = b ∙ ap length i.holds.words;
    })
    (subst (λ store. Holds i.around i.region.operands c.locals c.globals c.memory store) (sym o.store) i.holds) o.labels
    o.guards

pub loop_follows : {S : Type 0} (result : Option ValueType) (last : ℕ) (opened : Label) (old new : Running) →
    opened.place ≡ place.Loop (old.at + 1) → opened.last ≡ last → opened.carries ≡ has_result result →
    opened.height ≡ length old.store.words.items → OnlyOpens old new opened →
    (world : World S) (c : Configuration S) (ops : List Op) (ends : List ℕ) → Is ops ends c old →
    slice_get ops old.at ≡ Some (Loop result) → slice_get ends old.at ≡ Some last → IsNoFault (step world c) →
    Follows ops ends (step world c) None new c.host
loop_follows result last opened old new p e k b o world c ops ends i h g s =
    let t : Top ops ends i.region i.around old.at old.labels.items =
    top_of ops ends i.region i.around old.at old.labels.items i.marks in
    let d : Standing ops ends i.region.rest old.at = t.marks.standing in
    let f : SeesLoop result i.region.rest =
    sees_loop result d.marker i.region.rest (drop (old.at + 1) ops) d.more
    (sym (got_drop ops old.at (Loop result) h) ∙ d.stands.ops_are) d.marks_end d.tree in
    let x : Opens ops ends f.body f.rest (old.at + 1) last =
    loop_on ops ends result f.body f.rest old.at last (subst (λ code. Standing ops ends code old.at) f.is d) g in
    enter_follows (turns f.body) result f.body f.rest i.region i.around i.region.operands opened old new world c ops
    ends t i.rooted i.guards
    (step_at world c i.region i.around (loop result f.body f.rest) i.regions f.is)
    (subst (λ n. Opens ops ends f.body f.rest new.at n) (sym e)
    (subst (λ n. Opens ops ends f.body f.rest n last) (sym o.at) x))
    (record {
      of_kind = subst (λ found. IsOfKind ops ends (turns f.body) found) (sym p) x.inside;
      carries = k;
      height = b ∙ ap length i.holds.words;
    })
    (subst (λ store. Holds i.around i.region.operands c.locals c.globals c.memory store) (sym o.store) i.holds) o.labels
    o.guards
