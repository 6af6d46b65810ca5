-- The turns that close and leave regions: `end`, `else`, the branches and `return`.
use Rattle.std.proofs.Common.{◌≡◌, ◌+◌, ◌-◌, ◌<◌, ◌≤◌, ◌⊎◌, inl, inr, ℕ, zero, suc, ℤ, List, [], ◌∷◌, ◌++◌, Option}
use Rattle.std.proofs.Common.{Some, None, Bool, true, false, if◌then◌else◌, length, slice_get, take, drop, sym, ◌∙◌, ap}
use Rattle.std.proofs.Common.{subst, refl, arith, append_assoc, length-append, length-drop}
use Rattle.std.proofs.lemmas.List.{drop_at}
use Rattle.std.specs.Int.{cast_signed, w64}
use Rattle.hk_base.specs.declared.outcome.Outcome.TheVariants.{Returned}
use Rattle.wa_ops.specs.declared.op.Op.{Op}
use Rattle.wa_ops.specs.declared.op.ValueType.{ValueType}
use Rattle.wa_ops.specs.Typing.{is_same_type}
use Rattle.wa_ops.specs.Sequences.{Sequence, done}
use Rattle.wa_ops.proofs.Places.{got_drop}
use Rattle.wa_machine.specs.Machine.{Value, type_of, word_of, Kind, body, inner, turns, Region, Configuration, World}
use Rattle.wa_machine.specs.Machine.{Step, next, ended, with_some, whole_result, taken_result, return_with, hand_on}
use Rattle.wa_machine.specs.Machine.{close, arrive, branch, ticked, step}
use Rattle.wa_run.specs.Acts.{Holds, IsNoFault}
use Rattle.wa_run.specs.Flat.{words_of, all_words, AllValues, IsMarker, Standing, IsOfKind, has_result, Marks, AllMark}
use Rattle.wa_run.specs.Flat.{IsRooted, carried_words}
use Rattle.wa_run.specs.Guards.{passes_of}
use Rattle.wa_run.specs.Running.{Is, Follows, CanTurn, BeforeBranch, CanBranch}
use Rattle.wa_run.specs.declared.label.Label.{Label}
use Rattle.wa_run.specs.declared.label.Place.{Place}
use Rattle.wa_run.specs.declared.label.Place.TheVariants as place
use Rattle.wa_run.specs.declared.running.Running.{Running}
use Rattle.wa_run.specs.declared.running.Stop.TheVariants as stop
use Rattle.wa_run.specs.declared.store.Store.{Store}
use Rattle.wa_run.proofs.Plain.{FindsSome, found_some, Keeps, moved}
use Rattle.wa_run.proofs.Places.{sees_end}
use Rattle.wa_run.proofs.Following.{unticked, step_at, Top, top_of, rooted_like, guards_stay}

pub words_append : (a b : List Value) → words_of (a ++ b) ≡ words_of a ++ words_of b
words_append [] b = refl
words_append (value ∷ a) b = ap (λ words. word_of value ∷ words) (words_append a b)

pub values_append : (a b : List Value) → AllValues a → AllValues b → AllValues (a ++ b)
values_append [] b v w = w
values_append (value ∷ a) b v w = (v.0, values_append a b v.1 w)

-- ---- results

pub whole_is : (result : Option ValueType) (operands out : List Value) → whole_result result operands ≡ Some out →
    out ≡ operands
whole_is None [] out e = cc
whole_is None (value ∷ values) out e = absurd cc
whole_is (Some kind) [] out e = absurd cc
whole_is (Some kind) (value ∷ other ∷ values) out e = absurd cc
whole_is (Some kind) (value ∷ []) out e = at (is_same_type kind (type_of value)) e
  where
    at : (b : Bool) → (if b then Some (value ∷ []) else None) ≡ Some out → out ≡ value ∷ []
    at true e = cc
    at false e = absurd cc

-- a result of one value was taken
pub record TakesOne (result : Option ValueType) (operands out : List Value) : Type 0 where
  pub value : Value
  pub left : List Value
  pub operands_are : operands ≡ value ∷ left
  pub out_is : out ≡ value ∷ []
  pub carries : has_result result ≡ true

pub record TakesNone (result : Option ValueType) (out : List Value) : Type 0 where
  pub out_is : out ≡ []
  pub carries : has_result result ≡ false

pub taken_is : (result : Option ValueType) (operands out : List Value) → taken_result result operands ≡ Some out →
    TakesNone result out ⊎ TakesOne result operands out
taken_is None operands out e = inl (record { out_is = cc; carries = refl })
taken_is (Some kind) [] out e = absurd cc
taken_is (Some kind) (value ∷ values) out e = at (is_same_type kind (type_of value)) e
  where
    at : (b : Bool) → (if b then Some (value ∷ []) else None) ≡ Some out →
        TakesNone (Some kind) out ⊎ TakesOne (Some kind) (value ∷ values) out
    at true e = inr (record { value = value; left = values; operands_are = refl; out_is = cc; carries = refl })
    at false e = absurd cc

-- ---- a region hands its result on

pub hand_on_follows : {S : Type 0} (count : ℕ) (out : List Value) (inside outer : List Region) (operands : List Value)
    (c : Configuration S) (ops : List Op) (ends : List ℕ) (old new : Running) →
    IsNoFault (hand_on out outer c) → AllMark ops ends outer new.at new.labels.items → IsRooted outer → AllValues out →
    Holds inside operands c.locals c.globals c.memory old.store → Keeps old.store new.store →
    new.store.words.items ≡ words_of out ++ all_words outer →
    ((id : ℕ) → c.guards id ≡ passes_of old.guards.items id) → new.guards.items ≡ old.guards.items →
    Follows ops ends (ticked count (hand_on out outer c)) None new c.host
hand_on_follows count out inside [] operands c ops ends old new s m r v h k w q g = absurd s
hand_on_follows count out inside (region ∷ around) operands c ops ends old new s m r v h k w q g =
    let t : Top ops ends region around new.at new.labels.items =
    top_of ops ends region around new.at new.labels.items m in
    let given : Region = record region { operands = out ++ region.operands } in
    let fits : AllValues (out ++ region.operands) = values_append out region.operands v t.marks.values in (
      record {
        region = given;
        around = around;
        regions = refl;
        marks =
            subst (λ labels. AllMark ops ends (given ∷ around) new.at labels) (sym t.is)
            (record { standing = t.marks.standing; labelled = t.marks.labelled; values = fits }, t.outer);
        rooted = rooted_like region given around refl r;
        holds =
            moved inside around operands (out ++ region.operands) c.locals c.globals c.memory old.store new.store h fits
            (w
            ∙ sym (append_assoc (words_of out) (words_of region.operands) (all_words around))
            ∙ ap (λ words. words ++ all_words around) (sym (words_append out region.operands))) k;
        guards = guards_stay c.guards c.guards old new refl g q;
      },
      refl,
    )

-- ---- `end` and `else`

pub is_body : (ops : List Op) (ends : List ℕ) (found : Place) → IsOfKind ops ends body found → found ≡ place.Body
is_body ops ends place.Body h = refl
is_body ops ends place.Inner h = absurd h
is_body ops ends (place.Loop start) h = absurd h

-- what closes hands its result on, unless it is the body
pub close_is : {S : Type 0} (ops : List Op) (ends : List ℕ) (kind : Kind) (found : Place) (out : List Value)
    (around : List Region) (c : Configuration S) → IsOfKind ops ends kind found →
    (found ≡ place.Body → ⊥) → close kind out around c ≡ hand_on out around c
close_is ops ends body found out around c h not_body = absurd (not_body (is_body ops ends found h))
close_is ops ends inner found out around c h not_body = refl
close_is ops ends (turns whole) found out around c h not_body = refl

-- what is in front of an `end` or an `else`
pub record BeforeEnd {S : Type 0} (world : World S) (c : Configuration S) (ops : List Op) (ends : List ℕ)
    (old : Running) (region : Region) (around : List Region) : Type 0 where
  pub top : Top ops ends region around old.at old.labels.items
  pub step_is : step world c ≡ ticked (suc c.count) (close region.kind region.operands around c)
  pub sound : IsNoFault (close region.kind region.operands around c)

pub before_end : {S : Type 0} (world : World S) (c : Configuration S) (ops : List Op) (ends : List ℕ) (old : Running)
    (instruction : Op) (i : Is ops ends c old) → IsMarker instruction →
    slice_get ops old.at ≡ Some instruction → IsNoFault (step world c) →
    BeforeEnd world c ops ends old i.region i.around
before_end world c ops ends old instruction i n h s =
    let t : Top ops ends i.region i.around old.at old.labels.items =
    top_of ops ends i.region i.around old.at old.labels.items i.marks in
    let d : Standing ops ends i.region.rest old.at = t.marks.standing in
    let e : (i.region.rest ≡ done) × (d.marker ≡ instruction) =
    sees_end instruction d.marker i.region.rest (drop (old.at + 1) ops) d.more
    (sym (got_drop ops old.at instruction h) ∙ d.stands.ops_are) n d.tree in
    let p : step world c
    ≡ ticked (suc c.count)
    (with_some (whole_result i.region.result i.region.operands) (λ out. close i.region.kind out i.around c)) =
    step_at world c i.region i.around done i.regions e.0 in
    let u : IsNoFault
    (with_some (whole_result i.region.result i.region.operands) (λ out. close i.region.kind out i.around c)) =
    unticked (suc c.count)
    (with_some (whole_result i.region.result i.region.operands) (λ out. close i.region.kind out i.around c))
    (subst IsNoFault p s) in
    let f : FindsSome (whole_result i.region.result i.region.operands) =
    found_some (whole_result i.region.result i.region.operands) (λ out. close i.region.kind out i.around c) u in
    let o : whole_result i.region.result i.region.operands ≡ Some i.region.operands =
    f.is ∙ ap Some (whole_is i.region.result i.region.operands f.value f.is) in
    record {
      top = t;
      step_is = p ∙ ap (λ found. ticked (suc c.count) (with_some found (λ out. close i.region.kind out i.around c))) o;
      sound = subst (λ found. IsNoFault (with_some found (λ out. close i.region.kind out i.around c))) o u;
    }

-- the roots of what is around
pub rooted_around : {S : Type 0} (region : Region) (around : List Region) (out : List Value) (c : Configuration S) →
    IsNoFault (hand_on out around c) → IsRooted (region ∷ around) → IsRooted around
rooted_around region [] out c s r = absurd s
rooted_around region (other ∷ around) out c s r = r

-- the label of the innermost region, as the run has it
pub same_label : {ops : List Op} {ends : List ℕ} {region : Region} {around : List Region} {at : ℕ} {labels : List Label}
    (t : Top ops ends region around at labels) (label : Label) (others : List Label) →
    labels ≡ label ∷ others → (t.label ≡ label) × (t.others ≡ others)
same_label t label others e = (cc (t.is), cc (t.is))

pub end_goes : {S : Type 0} (instruction : Op) (entry : ℕ) (label : Label) (old new : Running) → IsMarker instruction →
    old.labels.items ≡ label ∷ new.labels.items → (label.place ≡ place.Body → ⊥) →
    new.at ≡ label.last + 1 → new.guards.items ≡ old.guards.items → new.store ≡ old.store →
    (world : World S) (c : Configuration S) (ops : List Op) (ends : List ℕ) → Is ops ends c old →
    slice_get ops old.at ≡ Some instruction → slice_get ends old.at ≡ Some entry → IsNoFault (step world c) →
    Follows ops ends (step world c) None new c.host
end_goes instruction entry label old new n l not_body a g k world c ops ends i h e s =
    let b : BeforeEnd world c ops ends old i.region i.around = before_end world c ops ends old instruction i n h s in
    let same : (b.top.label ≡ label) × (b.top.others ≡ new.labels.items) = same_label b.top label new.labels.items l in
    let p : close i.region.kind i.region.operands i.around c ≡ hand_on i.region.operands i.around c =
    close_is ops ends i.region.kind b.top.label.place i.region.operands i.around c b.top.marks.labelled.of_kind
    (λ q. not_body (ap (λ (x : Label). x.place) (sym same.0) ∙ q)) in
    let u : IsNoFault (hand_on i.region.operands i.around c) = subst IsNoFault p b.sound in
    subst (λ found. Follows ops ends found None new c.host) (sym (b.step_is ∙ ap (ticked (suc c.count)) p))
    (hand_on_follows (suc c.count) i.region.operands i.around i.around i.region.operands c ops ends old new u
    (subst (λ at. AllMark ops ends i.around at new.labels.items) (ap (λ (x : Label). x.last + 1) same.0 ∙ sym a)
    (subst (λ labels. AllMark ops ends i.around (b.top.label.last + 1) labels) same.1 b.top.outer))
    (rooted_around i.region i.around i.region.operands c u i.rooted) i.holds.operands_fit i.holds
    (record {
      locals = ap (λ (x : Store). x.locals.items) k;
      globals = ap (λ (x : Store). x.globals.items) k;
      memory = ap (λ (x : Store). x.memory) k;
    })
    (ap (λ (x : Store). x.words.items) k ∙ i.holds.words) i.guards g)

-- a label of the body is of the body
pub body_kind : (ops : List Op) (ends : List ℕ) (kind : Kind) (found : Place) → IsOfKind ops ends kind found →
    found ≡ place.Body → kind ≡ body
body_kind ops ends body found h e = refl
body_kind ops ends inner place.Body h e = absurd h
body_kind ops ends inner place.Inner h e = absurd cc
body_kind ops ends inner (place.Loop start) h e = absurd cc
body_kind ops ends (turns whole) place.Body h e = absurd h
body_kind ops ends (turns whole) place.Inner h e = absurd cc
body_kind ops ends (turns whole) (place.Loop start) h e = absurd cc

-- the function returns the word on the top
pub record ReturnsTop {S : Type 0} (found : Step S) (c : Configuration S) (words : List ℕ) : Type 0 where
  pub word : ℕ
  pub below : List ℕ
  pub words_are : words ≡ word ∷ below
  pub is : found ≡ ended (Returned (cast_signed w64 word)) c

pub returns_top : {S : Type 0} (out left : List Value) (around : List ℕ) (c : Configuration S) (words : List ℕ) →
    words ≡ words_of (out ++ left) ++ around → IsNoFault (return_with out c) → ReturnsTop (return_with out c) c words
returns_top [] left around c words e s = absurd s
returns_top (value ∷ out) left around c words e s = record {
  word = word_of value;
  below = words_of (out ++ left) ++ around;
  words_are = e;
  is = refl;
}

pub append_nothing : {A : Type 0} (xs : List A) → xs ++ [] ≡ xs
append_nothing [] = refl
append_nothing (x ∷ xs) = ap (λ ys. x ∷ ys) (append_nothing xs)

pub end_returns_step : {S : Type 0} (instruction : Op) (label : Label) (others : List Label) (old : Running) →
    IsMarker instruction → old.labels.items ≡ label ∷ others → label.place ≡ place.Body →
    (world : World S) (c : Configuration S) (ops : List Op) (ends : List ℕ) → Is ops ends c old →
    slice_get ops old.at ≡ Some instruction → IsNoFault (step world c) →
    ReturnsTop (step world c) (record c { count = suc c.count }) old.store.words.items
end_returns_step {S} instruction label others old n l is world c ops ends i h s =
    let b : BeforeEnd world c ops ends old i.region i.around = before_end world c ops ends old instruction i n h s in
    let same : (b.top.label ≡ label) × (b.top.others ≡ others) = same_label b.top label others l in
    let k : i.region.kind ≡ body =
    body_kind ops ends i.region.kind b.top.label.place b.top.marks.labelled.of_kind
    (ap (λ (x : Label). x.place) same.0 ∙ is) in
    let p : close i.region.kind i.region.operands i.around c ≡ return_with i.region.operands c =
    ap (λ kind. close kind i.region.operands i.around c) k in
    let r : ReturnsTop (return_with i.region.operands c) c old.store.words.items =
    returns_top i.region.operands [] (all_words i.around) c old.store.words.items
    (i.holds.words ∙ ap (λ values. words_of values ++ all_words i.around) (sym (append_nothing i.region.operands)))
    (subst IsNoFault p b.sound) in
    record {
      word = r.word;
      below = r.below;
      words_are = r.words_are;
      is = b.step_is ∙ ap (ticked (suc c.count)) (p ∙ r.is);
    }

-- a turn that returns the word on the top follows such a step
pub returned_follows : {S : Type 0} (ops : List Op) (ends : List ℕ) (found : Step S) (c last : Configuration S)
    (words : List ℕ) (code : ℤ) (new : Running) → ReturnsTop found last words → last.host ≡ c.host →
    ((word : ℕ) (below : List ℕ) → words ≡ word ∷ below → code ≡ cast_signed w64 word) →
    Follows ops ends found (Some (stop.Returned code)) new c.host
returned_follows ops ends found c last words code new r h e =
    subst (λ s. Follows ops ends s (Some (stop.Returned code)) new c.host) (sym r.is)
    (ap Returned (sym (e r.word r.below r.words_are)), h, tt)

-- ---- branches

-- the region that a label names, from these open regions
pub record Target {S : Type 0} (ops : List Op) (ends : List ℕ) (label : ℕ) (region : Region) (around : List Region)
    (labels : List Label) (operands : List Value) (c : Configuration S) : Type 0 where
  pub named : Region
  pub outer : List Region
  pub at : ℕ
  pub mark : Label
  pub others : List Label
  pub dropped : drop label labels ≡ mark ∷ others
  pub same : branch label (region ∷ around) operands c ≡ arrive named.kind named outer operands c
  pub marks : Marks ops ends named at (length (all_words outer)) mark
  pub outer_marks : AllMark ops ends outer (mark.last + 1) others
  pub rooted : IsRooted (named ∷ outer)
  pub above : List ℕ
  pub below : all_words around ≡ above ++ all_words outer

pub target : {S : Type 0} (ops : List Op) (ends : List ℕ) (label : ℕ) (region : Region) (around : List Region) (at : ℕ)
    (labels : List Label) (operands : List Value) (c : Configuration S) →
    AllMark ops ends (region ∷ around) at labels → IsRooted (region ∷ around) →
    IsNoFault (branch label (region ∷ around) operands c) → Target ops ends label region around labels operands c
target ops ends zero region around at labels operands c m r s =
    let t : Top ops ends region around at labels = top_of ops ends region around at labels m in
    record {
      named = region;
      outer = around;
      at = at;
      mark = t.label;
      others = t.others;
      dropped = t.is;
      same = refl;
      marks = t.marks;
      outer_marks = t.outer;
      rooted = r;
      above = [];
      below = refl;
    }
target ops ends (suc label) region [] at labels operands c m r s = absurd s
target ops ends (suc label) region (other ∷ around) at labels operands c m r s =
    let t : Top ops ends region (other ∷ around) at labels = top_of ops ends region (other ∷ around) at labels m in
    let d : Target ops ends label other around t.others operands c =
    target ops ends label other around (t.label.last + 1) t.others operands c t.outer r s in
    record {
      named = d.named;
      outer = d.outer;
      at = d.at;
      mark = d.mark;
      others = d.others;
      dropped = ap (drop (suc label)) t.is ∙ d.dropped;
      same = d.same;
      marks = d.marks;
      outer_marks = d.outer_marks;
      rooted = d.rooted;
      above = words_of other.operands ++ d.above;
      below =
          ap (λ words. words_of other.operands ++ words) d.below
          ∙ sym (append_assoc (words_of other.operands) d.above (all_words d.outer));
    }

-- words cut to the height of what lies below
pub cut_to : (words front below : List ℕ) (height : ℕ) → words ≡ front ++ below → height ≡ length below →
    (height ≤ length words) × (drop (length words - height) words ≡ below)
cut_to words front below height e h =
    let n : length words ≡ length front + length below = ap length e ∙ length-append front below in (
      omega arith,
      ap (λ xs. drop (length words - height) xs) e ∙ drop_at front below (length words - height) (omega arith),
    )

-- a label with a loop's place is of that loop
pub record IsLoop (ops : List Op) (ends : List ℕ) (kind : Kind) (start : ℕ) : Type 0 where
  pub whole : Sequence
  pub is : kind ≡ turns whole
  pub standing : Standing ops ends whole start

pub loop_kind : (ops : List Op) (ends : List ℕ) (kind : Kind) (found : Place) (start : ℕ) →
    IsOfKind ops ends kind found → found ≡ place.Loop start → IsLoop ops ends kind start
loop_kind ops ends body place.Body start h e = absurd cc
loop_kind ops ends body place.Inner start h e = absurd h
loop_kind ops ends body (place.Loop other) start h e = absurd h
loop_kind ops ends inner place.Body start h e = absurd h
loop_kind ops ends inner place.Inner start h e = absurd cc
loop_kind ops ends inner (place.Loop other) start h e = absurd h
loop_kind ops ends (turns whole) place.Body start h e = absurd h
loop_kind ops ends (turns whole) place.Inner start h e = absurd h
loop_kind ops ends (turns whole) (place.Loop other) start h e =
    let same : other ≡ start = cc in
    record { whole = whole; is = refl; standing = subst (λ at. Standing ops ends whole at) same h }

pub inner_kind : (ops : List Op) (ends : List ℕ) (kind : Kind) (found : Place) → IsOfKind ops ends kind found →
    found ≡ place.Inner → kind ≡ inner
inner_kind ops ends inner found h e = refl
inner_kind ops ends body place.Body h e = absurd cc
inner_kind ops ends body place.Inner h e = absurd h
inner_kind ops ends body (place.Loop start) h e = absurd h
inner_kind ops ends (turns whole) place.Body h e = absurd h
inner_kind ops ends (turns whole) place.Inner h e = absurd h
inner_kind ops ends (turns whole) (place.Loop start) h e = absurd cc

-- a branch to a loop begins its body again, with no operands
pub branch_loops : {S : Type 0} (count label start : ℕ) (region : Region) (around : List Region) (operands : List Value)
    (c : Configuration S) (ops : List Op) (ends : List ℕ) (old new : Running) →
    (t : Target ops ends label region around old.labels.items operands c) → t.mark.place ≡ place.Loop start →
    new.at ≡ start → new.labels.items ≡ t.mark ∷ t.others →
    Holds around operands c.locals c.globals c.memory old.store → Keeps old.store new.store →
    new.store.words.items ≡ all_words t.outer →
    ((id : ℕ) → c.guards id ≡ passes_of old.guards.items id) → new.guards.items ≡ old.guards.items →
    Follows ops ends (ticked count (branch label (region ∷ around) operands c)) None new c.host
branch_loops count label start region around operands c ops ends old new t p a l h k w q g =
    let i : IsLoop ops ends t.named.kind start =
    loop_kind ops ends t.named.kind t.mark.place start t.marks.labelled.of_kind p in
    let again : Region = record t.named { operands = []; rest = i.whole } in
    let e : branch label (region ∷ around) operands c ≡ next (record c { regions = again ∷ t.outer }) =
    t.same ∙ ap (λ kind. arrive kind t.named t.outer operands c) i.is in
    subst (λ found. Follows ops ends (ticked count found) None new c.host) (sym e) (
      record {
        region = again;
        around = t.outer;
        regions = refl;
        marks = subst (λ labels. AllMark ops ends (again ∷ t.outer) new.at labels) (sym l) (
          record {
            standing = subst (λ at. Standing ops ends i.whole at) (sym a) i.standing;
            labelled = t.marks.labelled;
            values = tt;
          },
          t.outer_marks,
        );
        rooted = rooted_like t.named again t.outer refl t.rooted;
        holds = moved around t.outer operands [] c.locals c.globals c.memory old.store new.store h tt w k;
        guards = guards_stay c.guards c.guards old new refl g q;
      },
      refl,
    )

-- what a branch carries is its result
pub carried_is : (result : Option ValueType) (operands out : List Value) (around words : List ℕ) (carries : Bool) →
    words ≡ words_of operands ++ around → carries ≡ has_result result →
    taken_result result operands ≡ Some out → AllValues operands →
    (carried_words carries words ≡ words_of out) × AllValues out
carried_is result operands out around words carries w c e v =
    elim (taken_is result operands out e) [ inl n ↦ none n | inr o ↦ one o ]
  where
    none : TakesNone result out → (carried_words carries words ≡ words_of out) × AllValues out
    none n = (
      ap (λ b. carried_words b words) (c ∙ n.carries) ∙ ap words_of (sym n.out_is),
      subst AllValues (sym n.out_is) tt,
    )

    one : TakesOne result operands out → (carried_words carries words ≡ words_of out) × AllValues out
    one o =
        let fits : AllValues (o.value ∷ o.left) = subst AllValues o.operands_are v in
        let word_first : words ≡ word_of o.value ∷ (words_of o.left ++ around) =
        w ∙ ap (λ values. words_of values ++ around) o.operands_are in (
          ap (λ b. carried_words b words) (c ∙ o.carries) ∙ ap (take 1) word_first ∙ ap words_of (sym o.out_is),
          subst AllValues (sym o.out_is) (fits.0, tt),
        )

-- a branch to a `block` or an `if` carries its result and goes on behind its `end`
pub branch_leaves : {S : Type 0} (count label : ℕ) (region : Region) (around : List Region) (operands : List Value)
    (c : Configuration S) (ops : List Op) (ends : List ℕ) (old new : Running) →
    (t : Target ops ends label region around old.labels.items operands c) →
    IsNoFault (branch label (region ∷ around) operands c) → t.mark.place ≡ place.Inner → new.at ≡ t.mark.last + 1 →
    new.labels.items ≡ t.others →
    Holds around operands c.locals c.globals c.memory old.store → Keeps old.store new.store →
    new.store.words.items ≡ carried_words t.mark.carries old.store.words.items ++ all_words t.outer →
    ((id : ℕ) → c.guards id ≡ passes_of old.guards.items id) → new.guards.items ≡ old.guards.items →
    Follows ops ends (ticked count (branch label (region ∷ around) operands c)) None new c.host
branch_leaves count label region around operands c ops ends old new t s p a l h k w q g =
    let i : t.named.kind ≡ inner = inner_kind ops ends t.named.kind t.mark.place t.marks.labelled.of_kind p in
    let e : branch label (region ∷ around) operands c
    ≡ with_some (taken_result t.named.result operands) (λ out. hand_on out t.outer c) =
    t.same ∙ ap (λ kind. arrive kind t.named t.outer operands c) i in
    let u : IsNoFault (with_some (taken_result t.named.result operands) (λ out. hand_on out t.outer c)) =
    subst IsNoFault e s in
    let f : FindsSome (taken_result t.named.result operands) =
    found_some (taken_result t.named.result operands) (λ out. hand_on out t.outer c) u in
    let r : (carried_words t.mark.carries old.store.words.items ≡ words_of f.value) × AllValues f.value =
    carried_is t.named.result operands f.value (all_words around) old.store.words.items t.mark.carries h.words
    t.marks.labelled.carries f.is h.operands_fit in
    let d : branch label (region ∷ around) operands c ≡ hand_on f.value t.outer c =
    e ∙ ap (λ o. with_some o (λ out. hand_on out t.outer c)) f.is in
    let v : IsNoFault (hand_on f.value t.outer c) = subst IsNoFault d s in
    subst (λ found. Follows ops ends (ticked count found) None new c.host) (sym d)
    (hand_on_follows count f.value around t.outer operands c ops ends old new v
    (subst (λ labels. AllMark ops ends t.outer new.at labels) (sym l)
    (subst (λ at. AllMark ops ends t.outer at t.others) (sym a) t.outer_marks))
    (rooted_around t.named t.outer f.value c v t.rooted) r.1 h k (w ∙ ap (λ words. words ++ all_words t.outer) r.0) q g)

-- ---- what the turns need

pub needs_label : (S : Type 0) (instruction : Op) (old : Running) → CanTurn S instruction old →
    0 < length old.labels.items
needs_label S instruction old m =
    let t : Top m.ops m.ends m.is.region m.is.around old.at old.labels.items =
    top_of m.ops m.ends m.is.region m.is.around old.at old.labels.items m.is.marks in
    omega (arith, ap length t.is)

pub needs_result : (S : Type 0) (instruction : Op) (label : Label) (others : List Label) (old : Running) →
    IsMarker instruction → old.labels.items ≡ label ∷ others → label.place ≡ place.Body →
    CanTurn S instruction old → 0 < length old.store.words.items
needs_result S instruction label others old n l is m =
    let r : ReturnsTop (step m.world m.c) (record m.c { count = suc m.c.count }) old.store.words.items =
    end_returns_step instruction label others old n l is m.world m.c m.ops m.ends m.is m.here m.sound in
    omega (arith, ap length r.words_are)

-- ---- a branch, by the label as the run has it

pub record Found {S : Type 0} (ops : List Op) (ends : List ℕ) (label : ℕ) (region : Region) (around : List Region)
    (operands : List Value) (c : Configuration S) (old : Running) (named : Label) (others : List Label) : Type 0 where
  pub target : Target ops ends label region around old.labels.items operands c
  pub mark : target.mark ≡ named
  pub others_are : target.others ≡ others
  pub front : List ℕ
  pub words : old.store.words.items ≡ front ++ all_words target.outer
  pub height : named.height ≡ length (all_words target.outer)

pub found : {S : Type 0} (ops : List Op) (ends : List ℕ) (label : ℕ) (region : Region) (around : List Region)
    (operands : List Value) (c : Configuration S) (old : Running) (named : Label) (others : List Label) →
    BeforeBranch ops ends region around operands c old → IsNoFault (branch label (region ∷ around) operands c) →
    drop label old.labels.items ≡ named ∷ others →
    Found ops ends label region around operands c old named others
found ops ends label region around operands c old named others b s d =
    let t : Target ops ends label region around old.labels.items operands c =
    target ops ends label region around b.at old.labels.items operands c b.marks b.rooted s in
    let p : drop label old.labels.items ≡ t.mark ∷ t.others = t.dropped in
    let m : t.mark ≡ named = cc in
    record {
      target = t;
      mark = m;
      others_are = cc;
      front = words_of operands ++ t.above;
      words =
          b.holds.words
          ∙ ap (λ words. words_of operands ++ words) t.below
          ∙ sym (append_assoc (words_of operands) t.above (all_words t.outer));
      height = ap (λ (x : Label). x.height) (sym m) ∙ t.marks.labelled.height;
    }

pub branch_inner_follows : {S : Type 0} (label : ℕ) (named : Label) (others : List Label) (old new : Running) →
    drop label old.labels.items ≡ named ∷ others → named.place ≡ place.Inner →
    new.at ≡ named.last + 1 → new.labels.items ≡ others → Keeps old.store new.store →
    new.store.words.items
    ≡ carried_words named.carries old.store.words.items ++
    drop (length old.store.words.items - named.height) old.store.words.items → new.guards.items ≡ old.guards.items →
    (count : ℕ) (c : Configuration S) (ops : List Op) (ends : List ℕ) (region : Region) (around : List Region)
    (operands : List Value) → BeforeBranch ops ends region around operands c old →
    IsNoFault (branch label (region ∷ around) operands c) →
    Follows ops ends (ticked count (branch label (region ∷ around) operands c)) None new c.host
branch_inner_follows label named others old new d p a l k w g count c ops ends region around operands b s =
    let f : Found ops ends label region around operands c old named others =
    found ops ends label region around operands c old named others b s d in
    let cut : (named.height ≤ length old.store.words.items)
    × (drop (length old.store.words.items - named.height) old.store.words.items ≡ all_words f.target.outer) =
    cut_to old.store.words.items f.front (all_words f.target.outer) named.height f.words f.height in
    branch_leaves count label region around operands c ops ends old new f.target s
    (ap (λ (x : Label). x.place) f.mark ∙ p) (a ∙ ap (λ (x : Label). x.last + 1) (sym f.mark)) (l ∙ sym f.others_are)
    b.holds k
    (w
    ∙ ap (λ words. carried_words named.carries old.store.words.items ++ words) cut.1
    ∙ ap (λ carries. carried_words carries old.store.words.items ++ all_words f.target.outer)
    (ap (λ (x : Label). x.carries) (sym f.mark)))
    b.guards g

pub branch_loop_follows : {S : Type 0} (label start : ℕ) (named : Label) (others : List Label) (old new : Running) →
    drop label old.labels.items ≡ named ∷ others → named.place ≡ place.Loop start →
    new.at ≡ start → new.labels.items ≡ named ∷ others → Keeps old.store new.store →
    new.store.words.items ≡ drop (length old.store.words.items - named.height) old.store.words.items →
    new.guards.items ≡ old.guards.items →
    (count : ℕ) (c : Configuration S) (ops : List Op) (ends : List ℕ) (region : Region) (around : List Region)
    (operands : List Value) → BeforeBranch ops ends region around operands c old →
    IsNoFault (branch label (region ∷ around) operands c) →
    Follows ops ends (ticked count (branch label (region ∷ around) operands c)) None new c.host
branch_loop_follows label start named others old new d p a l k w g count c ops ends region around operands b s =
    let f : Found ops ends label region around operands c old named others =
    found ops ends label region around operands c old named others b s d in
    let cut : (named.height ≤ length old.store.words.items)
    × (drop (length old.store.words.items - named.height) old.store.words.items ≡ all_words f.target.outer) =
    cut_to old.store.words.items f.front (all_words f.target.outer) named.height f.words f.height in
    branch_loops count label start region around operands c ops ends old new f.target
    (ap (λ (x : Label). x.place) f.mark ∙ p) a
    (l ∙ ap (λ mark. mark ∷ others) (sym f.mark) ∙ ap (λ marks. f.target.mark ∷ marks) (sym f.others_are)) b.holds k
    (w ∙ cut.1) b.guards g

-- of a stack that is seen twice, the top is the one and what is left the other's
pub closed_by : {A : Type 0} (xs more left : List A) (a b : A) → xs ≡ a ∷ more → xs ≡ b ∷ left → xs ≡ a ∷ left
closed_by xs more left a b e f =
    let same : a ∷ more ≡ b ∷ left = sym e ∙ f in let rest : more ≡ left = cc same in e ∙ ap (λ ys. a ∷ ys) rest

pub branch_returns : {S : Type 0} (label : ℕ) (named : Label) (others : List Label) (old : Running) →
    drop label old.labels.items ≡ named ∷ others → named.place ≡ place.Body →
    (count : ℕ) (c : Configuration S) (ops : List Op) (ends : List ℕ) (region : Region) (around : List Region)
    (operands : List Value) → BeforeBranch ops ends region around operands c old →
    IsNoFault (branch label (region ∷ around) operands c) →
    ReturnsTop (ticked count (branch label (region ∷ around) operands c)) (record c { count = count })
    old.store.words.items
branch_returns {S} label named others old d p count c ops ends region around operands b s =
    let f : Found ops ends label region around operands c old named others =
    found ops ends label region around operands c old named others b s d in
    let t : Target ops ends label region around old.labels.items operands c = f.target in
    let k : t.named.kind ≡ body =
    body_kind ops ends t.named.kind t.mark.place t.marks.labelled.of_kind (ap (λ (x : Label). x.place) f.mark ∙ p) in
    let e : branch label (region ∷ around) operands c
    ≡ with_some (taken_result t.named.result operands) (λ out. return_with out c) =
    t.same ∙ ap (λ kind. arrive kind t.named t.outer operands c) k in
    let u : IsNoFault (with_some (taken_result t.named.result operands) (λ out. return_with out c)) =
    subst IsNoFault e s in
    let o : FindsSome (taken_result t.named.result operands) =
    found_some (taken_result t.named.result operands) (λ out. return_with out c) u in
    let q : branch label (region ∷ around) operands c ≡ return_with o.value c =
    e ∙ ap (λ x. with_some x (λ out. return_with out c)) o.is in
    let v : IsNoFault (return_with o.value c) = subst IsNoFault q s in
    at (taken_is t.named.result operands o.value o.is) o.value refl q v
  where
    at : {result : Option ValueType} {out : List Value} → TakesNone result out ⊎ TakesOne result operands out →
        (given : List Value) → given ≡ out → branch label (region ∷ around) operands c ≡ return_with given c →
        IsNoFault (return_with given c) →
        ReturnsTop (ticked count (branch label (region ∷ around) operands c)) (record c { count = count })
        old.store.words.items
    at (inl n) given g q v = absurd (subst (λ out. IsNoFault (return_with out c)) (g ∙ n.out_is) v)
    at (inr o) given g q v = record {
      word = word_of o.value;
      below = words_of o.left ++ all_words around;
      words_are = b.holds.words ∙ ap (λ values. words_of values ++ all_words around) o.operands_are;
      is = ap (ticked count) (q ∙ ap (λ out. return_with out c) (g ∙ o.out_is));
    }

pub branch_needs_label : (S : Type 0) (label : ℕ) (old : Running) → CanBranch S label old →
    label < length old.labels.items
branch_needs_label S label old m =
    let t : Target m.ops m.ends label m.region m.around old.labels.items m.operands m.c =
    target m.ops m.ends label m.region m.around m.before.at old.labels.items m.operands m.c m.before.marks
    m.before.rooted m.sound in
    omega (arith, length-drop label old.labels.items, ap length t.dropped)

pub branch_needs_result : (S : Type 0) (label : ℕ) (named : Label) (others : List Label) (old : Running) →
    drop label old.labels.items ≡ named ∷ others → named.place ≡ place.Body → CanBranch S label old →
    0 < length old.store.words.items
branch_needs_result S label named others old d p m =
    let r : ReturnsTop (ticked 0 (branch label (m.region ∷ m.around) m.operands m.c)) (record m.c { count = 0 })
    old.store.words.items =
    branch_returns label named others old d p 0 m.c m.ops m.ends m.region m.around m.operands m.before m.sound in
    omega (arith, ap length r.words_are)

pub branch_needs_cut : (S : Type 0) (label : ℕ) (named : Label) (others : List Label) (old : Running) →
    drop label old.labels.items ≡ named ∷ others → CanBranch S label old → named.height ≤ length old.store.words.items
branch_needs_cut S label named others old d m =
    let f : Found m.ops m.ends label m.region m.around m.operands m.c old named others =
    found m.ops m.ends label m.region m.around m.operands m.c old named others m.before m.sound d in
    (cut_to old.store.words.items f.front (all_words f.target.outer) named.height f.words f.height).0

pub branch_needs_carry : (S : Type 0) (label : ℕ) (named : Label) (others : List Label) (old : Running) →
    drop label old.labels.items ≡ named ∷ others → named.place ≡ place.Inner → CanBranch S label old →
    (if named.carries then 1 else 0) + named.height ≤ length old.store.words.items
branch_needs_carry S label named others old d p m =
    let f : Found m.ops m.ends label m.region m.around m.operands m.c old named others =
    found m.ops m.ends label m.region m.around m.operands m.c old named others m.before m.sound d in
    let t : Target m.ops m.ends label m.region m.around old.labels.items m.operands m.c = f.target in
    let i : t.named.kind ≡ inner =
    inner_kind m.ops m.ends t.named.kind t.mark.place t.marks.labelled.of_kind
    (ap (λ (x : Label). x.place) f.mark ∙ p) in
    let e : branch label (m.region ∷ m.around) m.operands m.c
    ≡ with_some (taken_result t.named.result m.operands) (λ out. hand_on out t.outer m.c) =
    t.same ∙ ap (λ kind. arrive kind t.named t.outer m.operands m.c) i in
    let o : FindsSome (taken_result t.named.result m.operands) =
    found_some (taken_result t.named.result m.operands) (λ out. hand_on out t.outer m.c) (subst IsNoFault e m.sound) in
    let carries : named.carries ≡ has_result t.named.result =
    ap (λ (x : Label). x.carries) (sym f.mark) ∙ t.marks.labelled.carries in
    let below : named.height ≤ length old.store.words.items =
    (cut_to old.store.words.items f.front (all_words t.outer) named.height f.words f.height).0 in
    let words : old.store.words.items ≡ words_of m.operands ++ all_words m.around = m.before.holds.words in
    let around : length (all_words m.around) ≡ length t.above + length (all_words t.outer) =
    ap length t.below ∙ length-append t.above (all_words t.outer) in
    let height : named.height ≡ length (all_words t.outer) = f.height in
    at (all_words t.outer) t.above (taken_is t.named.result m.operands o.value o.is) carries below words around height
  where
    at : {result : Option ValueType} {out : List Value} (outer above : List ℕ) →
        TakesNone result out ⊎ TakesOne result m.operands out → named.carries ≡ has_result result →
        named.height ≤ length old.store.words.items →
        old.store.words.items ≡ words_of m.operands ++ all_words m.around →
        length (all_words m.around) ≡ length above + length outer → named.height ≡ length outer →
        (if named.carries then 1 else 0) + named.height ≤ length old.store.words.items
    at outer above (inl n) c b w a h =
        subst (λ carries. (if carries then 1 else 0) + named.height ≤ length old.store.words.items)
        (sym (c ∙ n.carries)) (omega arith)
    at outer above (inr o) c b w a h =
        let size : length old.store.words.items ≡ length (words_of (o.value ∷ o.left) ++ all_words m.around) =
        ap length (w ∙ ap (λ values. words_of values ++ all_words m.around) o.operands_are) in
        subst (λ carries. (if carries then 1 else 0) + named.height ≤ length old.store.words.items)
        (sym (c ∙ o.carries))
        (omega (arith, size, length-append (words_of o.left) (all_words m.around)))

-- the words that a branch keeps are at most one more
pub carried_few : (carries : Bool) (words new : List ℕ) (count : ℕ) →
    new ≡ carried_words carries words ++ drop count words → length new ≤ length words + 1
carried_few carries words new count e =
    omega (
      arith,
      ap length e,
      length-append (carried_words carries words) (drop count words),
      length-drop count words,
      one carries,
    )
  where
    one : (carries : Bool) → length (carried_words carries words) ≤ 1
    one true = first words
      where
        first : (words : List ℕ) → length (take 1 words) ≤ 1
        first [] = omega arith
        first (word ∷ words) = omega arith
    one false = omega arith
