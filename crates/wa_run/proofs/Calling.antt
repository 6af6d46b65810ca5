-- The calls of imports: what they take, and what they leave of the run.
use Rattle.std.proofs.Common.{◌≡◌, ◌+◌, ◌-◌, ◌^◌, ◌<◌, ◌≤◌, ◌==◌, ℕ, zero, suc, ℤ, List, [], ◌∷◌, ◌++◌, Option, Some}
use Rattle.std.proofs.Common.{None, Bool, true, false, if◌then◌else◌, nat_lt, IsTrue, IsFalse, length, map, take, drop}
use Rattle.std.proofs.Common.{reverse, slice_get, slice_index_or, sym, ◌∙◌, ap, subst, refl, arith, append_assoc}
use Rattle.std.proofs.lemmas.Option.{slice_get_within as some_within}
use Rattle.std.proofs.lemmas.Bool.Decides.{nat_tests}
use Rattle.std.proofs.lemmas.Option.{slice_get-get_or}
use Rattle.std.proofs.lemmas.List.{take_at, drop_at, length-reverse, length-append, map-append, reverse-append}
use Rattle.std.proofs.lemmas.List.{reverse-reverse}
use Rattle.std.specs.Int.{cast_signed, cast_unsigned, w64}
use Rattle.hk_base.specs.declared.outcome.Outcome.{Outcome}
use Rattle.hk_base.specs.declared.outcome.Outcome.TheVariants.{Accepted, RolledBack, GuardViolated}
use Rattle.wa_ops.specs.Callees.{Callee, guard, accept, rollback, host_call, takes, AreArguments}
use Rattle.wa_ops.specs.Contexts.{callee_of_row, callees}
use Rattle.wa_ops.specs.Rows.{row_parameters}
use Rattle.wa_ops.specs.declared.call_no.CallNo.{CallNo}
use Rattle.wa_ops.specs.declared.op.Op.{Op}
use Rattle.wa_ops.specs.declared.op.Op.TheVariants as op
use Rattle.wa_ops.specs.declared.op.ValueType.{ValueType}
use Rattle.wa_ops.specs.declared.op.ValueType.TheVariants.{I32, I64}
use Rattle.wa_ops.specs.Sequences.{Sequence}
use Rattle.wa_num.specs.Memory.{fits}
use Rattle.wa_ops.proofs.Types.{length-callees}
use Rattle.wa_machine.specs.Law.{types_of}
use Rattle.wa_machine.specs.Machine.{Value, word32, word64, type_of, word_of, Region, Configuration, World, HostMeaning}
use Rattle.wa_machine.specs.Machine.{Step, ended, onward, with_some, with_all, text_of, counted, pass, call, act}
use Rattle.wa_machine.specs.Machine.{ticked, step}
use Rattle.wa_run.specs.Acts.{IsNoFault}
use Rattle.wa_run.specs.Calls.{AreRows, Asks, CallsIt, CanCall, CanGo, Goes, ending_of}
use Rattle.wa_run.specs.Flat.{words_of, all_words, AllValues, IsNarrow, Standing}
use Rattle.wa_run.specs.Guards.{passes_of}
use Rattle.wa_run.specs.Running.{Is, outcome_of, IsHeld, Follows}
use Rattle.wa_run.specs.declared.running.Message.{Message}
use Rattle.wa_run.specs.declared.running.Running.{Running}
use Rattle.wa_run.specs.declared.running.Stop.{Stop}
use Rattle.wa_run.specs.declared.running.Stop.TheVariants as stop
use Rattle.wa_run.proofs.Plain.{FindsSome, found_some, FindsAll, found_all, Keeps, moved}
use Rattle.wa_run.proofs.Leaving.{values_append, words_append}
use Rattle.wa_run.proofs.Choosing.{if_is_true, if_is_false}
use Rattle.wa_run.proofs.Following.{unticked, Top, guards_stay, onward_follows, BeforePlain, before_plain}
use Rattle.wa_run.proofs.Numeric.{fit_front}

-- ---- what a call takes

pub record AtCall {S : Type 0} (world : World S) (c : Configuration S) (ops : List Op) (ends : List ℕ) (old : Running)
    (callee : Callee) (region : Region) (around : List Region) : Type 0 where
  pub rest : Sequence
  pub top : Top ops ends region around old.at old.labels.items
  pub standing : Standing ops ends rest (old.at + 1)
  pub taken : List Value
  pub left : List Value
  pub words : old.store.words.items ≡ words_of taken ++ (words_of left ++ all_words around)
  pub values : AllValues (taken ++ left)
  pub types : types_of taken ≡ takes callee
  pub step_is : step world c
      ≡ ticked (suc c.count) (call world callee taken (record region { rest = rest }) around left c)

pub at_call : {S : Type 0} (callee : Callee) (function : ℕ) (old : Running) (world : World S) (c : Configuration S)
    (ops : List Op) (ends : List ℕ) (i : Is ops ends c old) →
    slice_get ops old.at ≡ Some (op.Call function) → slice_get world.context.calls function ≡ Some callee →
    IsNoFault (step world c) → AtCall world c ops ends old callee i.region i.around
at_call {S} callee function old world c ops ends i h k s =
    let b : BeforePlain world c ops ends old (op.Call function) i.region i.around =
    before_plain world c ops ends old (op.Call function) i refl h in
    let region : Region = record i.region { rest = b.rest } in
    let go : List Value → List Value → Step S = λ arguments left. call world callee arguments region i.around left c in
    let called : act world (op.Call function) region i.around i.region.operands c
    ≡ with_all (takes callee) i.region.operands go =
    ap (λ o.
    with_some o (λ found.
    with_all (takes found) i.region.operands (λ arguments left. call world found arguments region i.around left c)))
    k in
    let u : IsNoFault (with_all (takes callee) i.region.operands go) =
    unticked (suc c.count) (with_all (takes callee) i.region.operands go)
    (subst IsNoFault (b.step_is ∙ ap (ticked (suc c.count)) called) s) in
    let f : FindsAll (takes callee) i.region.operands go = found_all (takes callee) i.region.operands go u in
    record {
      rest = b.rest;
      top = b.top;
      standing = b.standing;
      taken = f.taken;
      left = f.left;
      words =
          i.holds.words
          ∙ ap (λ values. words_of values ++ all_words i.around) f.is
          ∙ ap (λ words. words ++ all_words i.around) (words_append f.taken f.left)
          ∙ append_assoc (words_of f.taken) (words_of f.left) (all_words i.around);
      values = subst AllValues f.is i.holds.operands_fit;
      types = f.types;
      step_is = b.step_is ∙ ap (ticked (suc c.count)) (called ∙ f.same);
    }

-- ---- operands by their types

pub record FrontNarrow (values : List Value) (kinds : List ValueType) : Type 0 where
  pub word : ℕ
  pub more : List Value
  pub is : values ≡ word32 word ∷ more
  pub types : types_of more ≡ kinds

pub front_narrow : (values : List Value) (kinds : List ValueType) → types_of values ≡ I32 ∷ kinds →
    FrontNarrow values kinds
front_narrow [] kinds e = let p : [] ≡ (I32 ∷ kinds) = e in absurd cc
front_narrow (word32 n ∷ more) kinds e =
    let p : (I32 ∷ types_of more) ≡ (I32 ∷ kinds) = e in record { word = n; more = more; is = refl; types = cc }
front_narrow (word64 n ∷ more) kinds e = let p : (I64 ∷ types_of more) ≡ (I32 ∷ kinds) = e in absurd cc

pub record FrontWide (values : List Value) (kinds : List ValueType) : Type 0 where
  pub word : ℕ
  pub more : List Value
  pub is : values ≡ word64 word ∷ more
  pub types : types_of more ≡ kinds

pub front_wide : (values : List Value) (kinds : List ValueType) → types_of values ≡ I64 ∷ kinds → FrontWide values kinds
front_wide [] kinds e = let p : [] ≡ (I64 ∷ kinds) = e in absurd cc
front_wide (word32 n ∷ more) kinds e = let p : (I32 ∷ types_of more) ≡ (I64 ∷ kinds) = e in absurd cc
front_wide (word64 n ∷ more) kinds e =
    let p : (I64 ∷ types_of more) ≡ (I64 ∷ kinds) = e in record { word = n; more = more; is = refl; types = cc }

pub no_values : (values : List Value) → types_of values ≡ [] → values ≡ []
no_values [] e = refl
no_values (word32 n ∷ more) e = let p : (I32 ∷ types_of more) ≡ [] = e in absurd cc
no_values (word64 n ∷ more) e = let p : (I64 ∷ types_of more) ≡ [] = e in absurd cc

-- ---- `_g`

pub record AtGuard {S : Type 0} (world : World S) (c : Configuration S) (ops : List Op) (ends : List ℕ) (old : Running)
    (region : Region) (around : List Region) : Type 0 where
  pub at : AtCall world c ops ends old guard region around
  pub limit : ℕ
  pub id : ℕ
  pub words : old.store.words.items ≡ limit ∷ id ∷ (words_of at.left ++ all_words around)
  pub limit_fits : limit < 2 ^ 32
  pub id_fits : id < 2 ^ 32
  pub left_fits : AllValues at.left
  pub step_is : step world c ≡ ticked (suc c.count) (pass id limit (record region { rest = at.rest }) around at.left c)

pub at_guard : {S : Type 0} (function : ℕ) (old : Running) (world : World S) (c : Configuration S) (ops : List Op)
    (ends : List ℕ) (i : Is ops ends c old) →
    slice_get ops old.at ≡ Some (op.Call function) → slice_get world.context.calls function ≡ Some guard →
    IsNoFault (step world c) → AtGuard world c ops ends old i.region i.around
at_guard function old world c ops ends i h k s =
    let a : AtCall world c ops ends old guard i.region i.around = at_call guard function old world c ops ends i h k s in
    let limit : FrontNarrow a.taken (I32 ∷ []) = front_narrow a.taken (I32 ∷ []) a.types in
    let id : FrontNarrow limit.more [] = front_narrow limit.more [] limit.types in
    let is : a.taken ≡ word32 limit.word ∷ word32 id.word ∷ [] =
    limit.is
    ∙ ap (λ more. word32 limit.word ∷ more) (id.is ∙ ap (λ more. word32 id.word ∷ more) (no_values id.more id.types)) in
    let fits : AllValues (word32 limit.word ∷ word32 id.word ∷ a.left) =
    subst (λ taken. AllValues (taken ++ a.left)) is a.values in
    record {
      at = a;
      limit = limit.word;
      id = id.word;
      words = a.words ∙ ap (λ taken. words_of taken ++ (words_of a.left ++ all_words i.around)) is;
      limit_fits = fits.0;
      id_fits = fits.1.0;
      left_fits = fits.1.1;
      step_is =
          a.step_is
          ∙ ap
          (λ taken. ticked (suc c.count) (call world guard taken (record i.region { rest = a.rest }) i.around a.left c))
          is;
    }

-- the two last words are of 32 bits
pub record TwoNarrow (words : List ℕ) : Type 0 where
  pub last : ℕ
  pub other : ℕ
  pub below : List ℕ
  pub are : words ≡ last ∷ other ∷ below
  pub last_fits : last < 2 ^ 32
  pub other_fits : other < 2 ^ 32

pub guard_needs : (S : Type 0) (function : ℕ) (old : Running) → CanCall S guard function old →
    TwoNarrow old.store.words.items
guard_needs S function old m =
    let g : AtGuard m.world m.c m.ops m.ends old m.is.region m.is.around =
    at_guard function old m.world m.c m.ops m.ends m.is m.here m.calls m.sound in
    record {
      last = g.limit;
      other = g.id;
      below = words_of g.at.left ++ all_words m.is.around;
      are = g.words;
      last_fits = g.limit_fits;
      other_fits = g.id_fits;
    }

pub last_narrow : (words : List ℕ) → TwoNarrow words → IsNarrow words
last_narrow words t = subst IsNarrow (sym t.are) t.last_fits

pub other_narrow : (words more : List ℕ) (word : ℕ) → TwoNarrow words → words ≡ word ∷ more → IsNarrow more
other_narrow words more word t e =
    let p : words ≡ t.last ∷ t.other ∷ t.below = t.are in
    let q : t.other ∷ t.below ≡ more = cc in
    subst IsNarrow q t.other_fits

-- what a pass of the guard leaves of the run
pub record Passes (limit id : ℕ) (below : List ℕ) (old new : Running) : Type 0 where
  pub words : old.store.words.items ≡ limit ∷ id ∷ below
  pub keeps : Keeps old.store new.store
  pub labels : new.labels.items ≡ old.labels.items
  pub guards : (other : ℕ) → passes_of new.guards.items other ≡ counted id (passes_of old.guards.items) other

-- the counts of a machine and of a run that agree do so after one pass more
pub counts_agree : (id : ℕ) (guards before after : ℕ → ℕ) → ((other : ℕ) → guards other ≡ before other) →
    ((other : ℕ) → after other ≡ counted id before other) → (other : ℕ) → counted id guards other ≡ after other
counts_agree id guards before after h e other = at (other == id) (e other)
  where
    at : (same : Bool) → after other ≡ (if same then suc (before other) else before other) →
        (if same then suc (guards other) else guards other) ≡ after other
    at true n = ap suc (h other) ∙ sym n
    at false n = h other ∙ sym n

pub guard_goes : {S : Type 0} (function limit id : ℕ) (below : List ℕ) (old new : Running) →
    Passes limit id below old new → nat_lt (passes_of old.guards.items id) limit ≡ true →
    new.store.words.items ≡ 1 ∷ below → new.at ≡ old.at + 1 →
    (world : World S) (c : Configuration S) (ops : List Op) (ends : List ℕ) → Is ops ends c old →
    slice_get ops old.at ≡ Some (op.Call function) → slice_get world.context.calls function ≡ Some guard →
    IsNoFault (step world c) →
    Follows ops ends (step world c) None new c.host
guard_goes {S} function limit id below old new p few w a world c ops ends i h k s =
    let g : AtGuard world c ops ends old i.region i.around = at_guard function old world c ops ends i h k s in
    let was : old.store.words.items ≡ limit ∷ id ∷ below = p.words in
    let is : old.store.words.items ≡ g.limit ∷ g.id ∷ (words_of g.at.left ++ all_words i.around) = g.words in
    let same_limit : g.limit ≡ limit = cc in
    let same_id : g.id ≡ id = cc in
    let same_below : below ≡ words_of g.at.left ++ all_words i.around = cc in
    let region : Region = record i.region { rest = g.at.rest } in
    let after : Configuration S = record c { guards = counted id c.guards } in
    let test : nat_lt (c.guards id) limit ≡ true = subst (λ n. nat_lt n limit ≡ true) (sym (i.guards id)) few in
    let e : step world c ≡ ticked (suc c.count) (onward region i.around (word32 1 ∷ g.at.left) after) =
    g.step_is
    ∙ ap (λ n. ticked (suc c.count) (pass n g.limit region i.around g.at.left c)) same_id
    ∙ ap (λ n. ticked (suc c.count) (pass id n region i.around g.at.left c)) same_limit
    ∙ ap (ticked (suc c.count)) (if_is_true (nat_lt (c.guards id) limit)
    (onward region i.around (word32 1 ∷ g.at.left) after) (ended (GuardViolated id limit) after) test) in
    onward_follows i.region i.around g.at.rest (word32 1 ∷ g.at.left) after c.host old new world c ops ends g.at.top
    g.at.standing i.rooted e
    (moved i.around i.around i.region.operands (word32 1 ∷ g.at.left) c.locals c.globals c.memory old.store new.store
    i.holds (omega arith, g.left_fits) (w ∙ ap (λ words. 1 ∷ words) same_below) p.keeps)
    a p.labels (counts_agree id c.guards (passes_of old.guards.items) (passes_of new.guards.items) i.guards p.guards)
    refl

pub guard_stops : {S : Type 0} (function limit id : ℕ) (below : List ℕ) (old new : Running) →
    old.store.words.items ≡ limit ∷ id ∷ below → nat_lt (passes_of old.guards.items id) limit ≡ false →
    (world : World S) (c : Configuration S) (ops : List Op) (ends : List ℕ) → Is ops ends c old →
    slice_get ops old.at ≡ Some (op.Call function) → slice_get world.context.calls function ≡ Some guard →
    IsNoFault (step world c) →
    Follows ops ends (step world c) (Some (stop.GuardViolated id limit)) new c.host
guard_stops {S} function limit id below old new was many world c ops ends i h k s =
    let g : AtGuard world c ops ends old i.region i.around = at_guard function old world c ops ends i h k s in
    let is : old.store.words.items ≡ g.limit ∷ g.id ∷ (words_of g.at.left ++ all_words i.around) = g.words in
    let same_limit : g.limit ≡ limit = cc in
    let same_id : g.id ≡ id = cc in
    let region : Region = record i.region { rest = g.at.rest } in
    let after : Configuration S = record c { guards = counted id c.guards } in
    let test : nat_lt (c.guards id) limit ≡ false = subst (λ n. nat_lt n limit ≡ false) (sym (i.guards id)) many in
    let e : step world c ≡ ticked (suc c.count) (ended (GuardViolated id limit) after) =
    g.step_is
    ∙ ap (λ n. ticked (suc c.count) (pass n g.limit region i.around g.at.left c)) same_id
    ∙ ap (λ n. ticked (suc c.count) (pass id n region i.around g.at.left c)) same_limit
    ∙ ap (ticked (suc c.count)) (if_is_false (nat_lt (c.guards id) limit)
    (onward region i.around (word32 1 ∷ g.at.left) after) (ended (GuardViolated id limit) after) test) in
    subst (λ found. Follows ops ends found (Some (stop.GuardViolated id limit)) new c.host) (sym e) (refl, refl, tt)

-- ---- `accept` and `rollback`

abbrev pub outcome_by : Bool → ℤ → List ℕ → Outcome
outcome_by true = Accepted
outcome_by false = RolledBack

abbrev pub ends_by : {S : Type 0} → Bool → ℕ → ℕ → ℕ → Region → List Region → List Value → Configuration S → Step S
ends_by accepts code size from region around left c =
    if fits c.memory from size then ended (outcome_by accepts (cast_signed w64 code) (text_of c.memory from size)) c
    else onward region around (word64 (2 ^ 64 - 1) ∷ left) c

pub ending_takes : (accepts : Bool) → takes (ending_of accepts) ≡ I64 ∷ I32 ∷ I32 ∷ []
ending_takes true = refl
ending_takes false = refl

pub ending_call : {S : Type 0} (accepts : Bool) (code size from : ℕ) (world : World S) (region : Region)
    (around : List Region) (left : List Value) (c : Configuration S) →
    call world (ending_of accepts) (word64 code ∷ word32 size ∷ word32 from ∷ []) region around left c
    ≡ ends_by accepts code size from region around left c
ending_call true code size from world region around left c = refl
ending_call false code size from world region around left c = refl

pub record AtEnding {S : Type 0} (accepts : Bool) (world : World S) (c : Configuration S) (ops : List Op)
    (ends : List ℕ) (old : Running) (region : Region) (around : List Region) : Type 0 where
  pub at : AtCall world c ops ends old (ending_of accepts) region around
  pub code : ℕ
  pub size : ℕ
  pub from : ℕ
  pub words : old.store.words.items ≡ code ∷ size ∷ from ∷ (words_of at.left ++ all_words around)
  pub size_fits : size < 2 ^ 32
  pub from_fits : from < 2 ^ 32
  pub left_fits : AllValues at.left
  pub step_is : step world c
      ≡ ticked (suc c.count) (ends_by accepts code size from (record region { rest = at.rest }) around at.left c)

pub at_ending : {S : Type 0} (accepts : Bool) (function : ℕ) (old : Running) (world : World S) (c : Configuration S)
    (ops : List Op) (ends : List ℕ) (i : Is ops ends c old) →
    slice_get ops old.at ≡ Some (op.Call function) → slice_get world.context.calls function ≡ Some (ending_of accepts) →
    IsNoFault (step world c) → AtEnding accepts world c ops ends old i.region i.around
at_ending accepts function old world c ops ends i h k s =
    let a : AtCall world c ops ends old (ending_of accepts) i.region i.around =
    at_call (ending_of accepts) function old world c ops ends i h k s in
    let code : FrontWide a.taken (I32 ∷ I32 ∷ []) =
    front_wide a.taken (I32 ∷ I32 ∷ []) (a.types ∙ ending_takes accepts) in
    let size : FrontNarrow code.more (I32 ∷ []) = front_narrow code.more (I32 ∷ []) code.types in
    let from : FrontNarrow size.more [] = front_narrow size.more [] size.types in
    let is : a.taken ≡ word64 code.word ∷ word32 size.word ∷ word32 from.word ∷ [] =
    code.is
    ∙ ap (λ more. word64 code.word ∷ more)
    (size.is
    ∙ ap (λ more. word32 size.word ∷ more)
    (from.is ∙ ap (λ more. word32 from.word ∷ more) (no_values from.more from.types))) in
    let fits : AllValues (word64 code.word ∷ word32 size.word ∷ word32 from.word ∷ a.left) =
    subst (λ taken. AllValues (taken ++ a.left)) is a.values in
    let region : Region = record i.region { rest = a.rest } in
    record {
      at = a;
      code = code.word;
      size = size.word;
      from = from.word;
      words = a.words ∙ ap (λ taken. words_of taken ++ (words_of a.left ++ all_words i.around)) is;
      size_fits = fits.1.0;
      from_fits = fits.1.1.0;
      left_fits = fits.1.1.1;
      step_is =
          a.step_is
          ∙ ap (λ taken. ticked (suc c.count) (call world (ending_of accepts) taken region i.around a.left c)) is
          ∙ ap (ticked (suc c.count))
          (ending_call accepts code.word size.word from.word world region i.around a.left c);
    }

-- a word, and two of 32 bits below it
pub record EndingWords (words : List ℕ) : Type 0 where
  pub code : ℕ
  pub more : List ℕ
  pub are : words ≡ code ∷ more
  pub narrow : TwoNarrow more

pub ending_needs : (S : Type 0) (accepts : Bool) (function : ℕ) (old : Running) →
    CanCall S (ending_of accepts) function old → EndingWords old.store.words.items
ending_needs S accepts function old m =
    let e : AtEnding accepts m.world m.c m.ops m.ends old m.is.region m.is.around =
    at_ending accepts function old m.world m.c m.ops m.ends m.is m.here m.calls m.sound in
    let below : List ℕ = words_of e.at.left ++ all_words m.is.around in
    record {
      code = e.code;
      more = e.size ∷ e.from ∷ below;
      are = e.words;
      narrow = record {
        last = e.size;
        other = e.from;
        below = below;
        are = refl;
        last_fits = e.size_fits;
        other_fits = e.from_fits;
      };
    }

pub ending_some : (words : List ℕ) → EndingWords words → 0 < length words
ending_some words e = omega (arith, ap length e.are)

pub ending_below : (words more : List ℕ) (word : ℕ) → EndingWords words → words ≡ word ∷ more → TwoNarrow more
ending_below words more word e k =
    let p : words ≡ e.code ∷ e.more = e.are in
    let q : e.more ≡ more = cc in
    subst TwoNarrow q e.narrow

pub told_outcome : (accepts : Bool) (found : Stop) (message : Message) (memory : List ℕ) →
    (IsTrue accepts → found ≡ stop.Accepted message) → (IsFalse accepts → found ≡ stop.RolledBack message) →
    outcome_by accepts message.code (text_of memory message.from message.size) ≡ outcome_of found memory
told_outcome true found message memory t f = ap (λ found. outcome_of found memory) (sym (t refl))
told_outcome false found message memory t f = ap (λ found. outcome_of found memory) (sym (f refl))

pub told_held : (accepts : Bool) (found : Stop) (message : Message) (memory : List ℕ) →
    (IsTrue accepts → found ≡ stop.Accepted message) → (IsFalse accepts → found ≡ stop.RolledBack message) →
    message.from + message.size ≤ length memory → IsHeld found memory
told_held true found message memory t f h = subst (λ s. IsHeld s memory) (sym (t refl)) h
told_held false found message memory t f h = subst (λ s. IsHeld s memory) (sym (f refl)) h

pub ending_stops : {S : Type 0} (accepts : Bool) (function code size from : ℕ) (below : List ℕ) (found : Stop)
    (message : Message) (old new : Running) → old.store.words.items ≡ code ∷ size ∷ from ∷ below →
    from + size ≤ length old.store.memory → new.store.memory ≡ old.store.memory → message.code ≡ cast_signed w64 code →
    message.from ≡ from → message.size ≡ size →
    (IsTrue accepts → found ≡ stop.Accepted message) → (IsFalse accepts → found ≡ stop.RolledBack message) →
    (world : World S) (c : Configuration S) (ops : List Op) (ends : List ℕ) → Is ops ends c old →
    slice_get ops old.at ≡ Some (op.Call function) → slice_get world.context.calls function ≡ Some (ending_of accepts) →
    IsNoFault (step world c) →
    Follows ops ends (step world c) (Some found) new c.host
ending_stops {S} accepts function code size from below found message old new was within keeps mc mf ms t f world c ops
    ends i h k s =
    let e : AtEnding accepts world c ops ends old i.region i.around =
    at_ending accepts function old world c ops ends i h k s in
    let is : old.store.words.items ≡ e.code ∷ e.size ∷ e.from ∷ (words_of e.at.left ++ all_words i.around) = e.words in
    let same_code : e.code ≡ code = cc in
    let same_size : e.size ≡ size = cc in
    let same_from : e.from ≡ from = cc in
    let region : Region = record i.region { rest = e.at.rest } in
    let inside : from + size ≤ length c.memory = subst (λ bytes. from + size ≤ length bytes) i.holds.memory_is within in
    let test : fits c.memory from size ≡ true = grind (arith, nat_tests) in
    let told : Step S = ended (outcome_by accepts (cast_signed w64 code) (text_of c.memory from size)) c in
    let p : step world c ≡ ticked (suc c.count) told =
    e.step_is ∙ ap (λ n. ticked (suc c.count) (ends_by accepts n e.size e.from region i.around e.at.left c)) same_code
    ∙ ap (λ n. ticked (suc c.count) (ends_by accepts code n e.from region i.around e.at.left c)) same_size
    ∙ ap (λ n. ticked (suc c.count) (ends_by accepts code size n region i.around e.at.left c)) same_from
    ∙ ap (ticked (suc c.count))
    (if_is_true (fits c.memory from size) told (onward region i.around (word64 (2 ^ 64 - 1) ∷ e.at.left) c) test) in
    let memory : c.memory ≡ new.store.memory = sym i.holds.memory_is ∙ sym keeps in
    subst (λ found_step. Follows ops ends found_step (Some found) new c.host) (sym p) (
      ap (λ n. outcome_by accepts n (text_of c.memory from size)) (sym mc)
          ∙ ap (λ bytes. outcome_by accepts message.code (text_of bytes from size)) memory
          ∙ ap (λ n. outcome_by accepts message.code (text_of new.store.memory n size)) (sym mf)
          ∙ ap (λ n. outcome_by accepts message.code (text_of new.store.memory message.from n)) (sym ms)
          ∙ told_outcome accepts found message new.store.memory t f,
      refl,
      told_held accepts found message new.store.memory t f
          (subst (λ bytes. message.from + message.size ≤ length bytes) (sym keeps) (omega (arith, mf, ms))),
    )

pub ending_goes : {S : Type 0} (accepts : Bool) (function code size from : ℕ) (below : List ℕ) (old new : Running) →
    old.store.words.items ≡ code ∷ size ∷ from ∷ below →
    length old.store.memory < from + size → new.store.words.items ≡ (2 ^ 64 - 1) ∷ below → Keeps old.store new.store →
    new.at ≡ old.at + 1 → new.labels.items ≡ old.labels.items → new.guards.items ≡ old.guards.items →
    (world : World S) (c : Configuration S) (ops : List Op) (ends : List ℕ) → Is ops ends c old →
    slice_get ops old.at ≡ Some (op.Call function) → slice_get world.context.calls function ≡ Some (ending_of accepts) →
    IsNoFault (step world c) →
    Follows ops ends (step world c) None new c.host
ending_goes {S} accepts function code size from below old new was outside w keeps a l g world c ops ends i h k s =
    let e : AtEnding accepts world c ops ends old i.region i.around =
    at_ending accepts function old world c ops ends i h k s in
    let is : old.store.words.items ≡ e.code ∷ e.size ∷ e.from ∷ (words_of e.at.left ++ all_words i.around) = e.words in
    let same_code : e.code ≡ code = cc in
    let same_size : e.size ≡ size = cc in
    let same_from : e.from ≡ from = cc in
    let same_below : below ≡ words_of e.at.left ++ all_words i.around = cc in
    let region : Region = record i.region { rest = e.at.rest } in
    let past : length c.memory < from + size = subst (λ bytes. length bytes < from + size) i.holds.memory_is outside in
    let test : fits c.memory from size ≡ false = grind (arith, nat_tests) in
    let told : Step S = ended (outcome_by accepts (cast_signed w64 code) (text_of c.memory from size)) c in
    let p : step world c ≡ ticked (suc c.count) (onward region i.around (word64 (2 ^ 64 - 1) ∷ e.at.left) c) =
    e.step_is ∙ ap (λ n. ticked (suc c.count) (ends_by accepts n e.size e.from region i.around e.at.left c)) same_code
    ∙ ap (λ n. ticked (suc c.count) (ends_by accepts code n e.from region i.around e.at.left c)) same_size
    ∙ ap (λ n. ticked (suc c.count) (ends_by accepts code size n region i.around e.at.left c)) same_from
    ∙ ap (ticked (suc c.count))
    (if_is_false (fits c.memory from size) told (onward region i.around (word64 (2 ^ 64 - 1) ∷ e.at.left) c) test) in
    onward_follows i.region i.around e.at.rest (word64 (2 ^ 64 - 1) ∷ e.at.left) c c.host old new world c ops ends
    e.at.top e.at.standing i.rooted p
    (moved i.around i.around i.region.operands (word64 (2 ^ 64 - 1) ∷ e.at.left) c.locals c.globals c.memory old.store
    new.store i.holds (omega arith, e.left_fits) (w ∙ ap (λ words. (2 ^ 64 - 1) ∷ words) same_below) keeps)
    a l (guards_stay c.guards c.guards old new refl g i.guards) refl

-- ---- the host's calls

pub types_long : (values : List Value) → length (types_of values) ≡ length (words_of values)
types_long [] = refl
types_long (value ∷ values) = ap suc (types_long values)

pub taken_long : (taken : List Value) (parameters : List ValueType) → types_of taken ≡ reverse parameters →
    length (words_of taken) ≡ length parameters
taken_long taken parameters e = sym (types_long taken) ∙ ap length e ∙ length-reverse parameters

pub ask_needs : (S : Type 0) (row : ℕ) (parameters : List ValueType) (function : ℕ) (old : Running) →
    CanCall S (host_call row parameters) function old → length parameters ≤ length old.store.words.items
ask_needs S row parameters function old m =
    let a : AtCall m.world m.c m.ops m.ends old (host_call row parameters) m.is.region m.is.around =
    at_call (host_call row parameters) function old m.world m.c m.ops m.ends m.is m.here m.calls m.sound in
    omega (
      arith,
      taken_long a.taken parameters a.types,
      ap length a.words,
      length-append (words_of a.taken) (words_of a.left ++ all_words m.is.around),
    )

pub words_reversed : (values : List Value) → reverse (words_of values) ≡ map word_of (reverse values)
words_reversed [] = refl
words_reversed (value ∷ values) =
    reverse-append (word_of value ∷ []) (words_of values)
    ∙ ap (λ words. words ++ word_of value ∷ []) (words_reversed values)
    ∙ sym (map-append word_of (reverse values) (value ∷ []))
    ∙ ap (map word_of) (sym (reverse-append (value ∷ []) values))

-- the arguments and the words below them, cut from the words
pub arguments_are : (taken : List Value) (below words : List ℕ) (count : ℕ) → words ≡ words_of taken ++ below →
    length (words_of taken) ≡ count → reverse (take count words) ≡ map word_of (reverse taken)
arguments_are taken below words count e l =
    ap (λ xs. reverse (take count xs)) e ∙ ap reverse (take_at (words_of taken) below count l) ∙ words_reversed taken

-- values are arguments of their types
pub arguments_fit : (values : List Value) → AllValues values → AreArguments (types_of values) (map word_of values)
arguments_fit [] v = tt
arguments_fit (word32 n ∷ values) v = (v.0, arguments_fit values v.1)
arguments_fit (word64 n ∷ values) v = arguments_fit values v.1

pub types_append : (xs ys : List Value) → types_of (xs ++ ys) ≡ types_of xs ++ types_of ys
types_append [] ys = refl
types_append (x ∷ xs) ys = ap (λ kinds. type_of x ∷ kinds) (types_append xs ys)

pub types_reversed : (values : List Value) → types_of (reverse values) ≡ reverse (types_of values)
types_reversed [] = refl
types_reversed (value ∷ values) =
    ap types_of (reverse-append (value ∷ []) values) ∙ types_append (reverse values) (value ∷ [])
    ∙ ap (λ kinds. kinds ++ type_of value ∷ []) (types_reversed values)
    ∙ sym (reverse-append (type_of value ∷ []) (types_of values))

pub values_reversed : (values : List Value) → AllValues values → AllValues (reverse values)
values_reversed [] v = tt
values_reversed (value ∷ values) v =
    subst AllValues (sym (reverse-append (value ∷ []) values))
    (values_append (reverse values) (value ∷ []) (values_reversed values v.1) (v.0, tt))

-- what a call of the host takes are arguments of its row
pub ask_fits : (S : Type 0) (row : ℕ) (parameters : List ValueType) (function : ℕ) (old : Running) →
    CanCall S (host_call row parameters) function old →
    AreArguments parameters (reverse (take (length parameters) old.store.words.items))
ask_fits S row parameters function old m =
    let a : AtCall m.world m.c m.ops m.ends old (host_call row parameters) m.is.region m.is.around =
    at_call (host_call row parameters) function old m.world m.c m.ops m.ends m.is m.here m.calls m.sound in
    let given : reverse (take (length parameters) old.store.words.items) ≡ map word_of (reverse a.taken) =
    arguments_are a.taken (words_of a.left ++ all_words m.is.around) old.store.words.items (length parameters) a.words
    (taken_long a.taken parameters a.types) in
    let kinds : types_of (reverse a.taken) ≡ parameters =
    types_reversed a.taken ∙ ap reverse a.types ∙ reverse-reverse parameters in
    subst (AreArguments parameters) (sym given)
    (subst (λ types. AreArguments types (map word_of (reverse a.taken))) kinds
    (arguments_fit (reverse a.taken) (values_reversed a.taken (fit_front a.taken a.left a.values))))

-- what a call of the host leaves of the run
pub record Answered {S : Type 0} (meaning : HostMeaning S) (row count : ℕ) (arguments : List ℕ) (word : ℕ)
    (old : Running) (before : S) (new : Running) (after : S) : Type 0 where
  pub arguments_are : arguments ≡ reverse (take count old.store.words.items)
  pub word_is : word ≡ cast_unsigned w64 (meaning.answer before row arguments old.store.memory)
  pub word_fits : word < 2 ^ 64
  pub words : new.store.words.items ≡ word ∷ drop count old.store.words.items
  pub memory : new.store.memory ≡ meaning.memory_after before row arguments old.store.memory
  pub same_length : length new.store.memory ≡ length old.store.memory
  pub state : after ≡ meaning.state_after before row arguments old.store.memory
  pub at : new.at ≡ old.at + 1
  pub labels : new.labels.items ≡ old.labels.items
  pub guards : new.guards.items ≡ old.guards.items
  pub locals : new.store.locals.items ≡ old.store.locals.items
  pub globals : new.store.globals.items ≡ old.store.globals.items

pub ask_follows : {S : Type 0} (meaning : HostMeaning S) (row function : ℕ) (parameters : List ValueType)
    (arguments : List ℕ) (word : ℕ) (old : Running) (before : S) (new : Running) (after : S) →
    Answered meaning row (length parameters) arguments word old before new after →
    (world : World S) (c : Configuration S) (ops : List Op) (ends : List ℕ) → world.host ≡ meaning → c.host ≡ before →
    Is ops ends c old → slice_get ops old.at ≡ Some (op.Call function) →
    slice_get world.context.calls function ≡ Some (host_call row parameters) → IsNoFault (step world c) →
    Follows ops ends (step world c) None new after
ask_follows {S} meaning row function parameters arguments word old before new after n world c ops ends m b i h k s =
    let a : AtCall world c ops ends old (host_call row parameters) i.region i.around =
    at_call (host_call row parameters) function old world c ops ends i h k s in
    let count : length (words_of a.taken) ≡ length parameters = taken_long a.taken parameters a.types in
    let below : List ℕ = words_of a.left ++ all_words i.around in
    let given : arguments ≡ map word_of (reverse a.taken) =
    n.arguments_are ∙ arguments_are a.taken below old.store.words.items (length parameters) a.words count in
    let left : drop (length parameters) old.store.words.items ≡ below =
    ap (drop (length parameters)) a.words ∙ drop_at (words_of a.taken) below (length parameters) count in
    let region : Region = record i.region { rest = a.rest } in
    let go : HostMeaning S → S → List ℕ → List ℕ → Step S =
    λ meaning host arguments memory.
    onward region i.around (word64 (cast_unsigned w64 (meaning.answer host row arguments memory)) ∷ a.left)
    (record c {
      memory = meaning.memory_after host row arguments memory;
      host = meaning.state_after host row arguments memory;
    }) in
    let p : step world c ≡ ticked (suc c.count) (go meaning before arguments old.store.memory) =
    a.step_is
    ∙ ap (λ x. ticked (suc c.count) (go x c.host (map word_of (reverse a.taken)) c.memory)) m
    ∙ ap (λ x. ticked (suc c.count) (go meaning x (map word_of (reverse a.taken)) c.memory)) b
    ∙ ap (λ x. ticked (suc c.count) (go meaning before x c.memory)) (sym given)
    ∙ ap (λ x. ticked (suc c.count) (go meaning before arguments x)) (sym i.holds.memory_is) in
    let memory : List ℕ = meaning.memory_after before row arguments old.store.memory in
    let answer : ℕ = cast_unsigned w64 (meaning.answer before row arguments old.store.memory) in
    let later : Configuration S = record c {
      memory = memory;
      host = meaning.state_after before row arguments old.store.memory;
    } in
    onward_follows i.region i.around a.rest (word64 answer ∷ a.left) later after old new world c ops ends a.top
    a.standing i.rooted p
    (record {
      words =
          n.words
          ∙ ap (λ x. x ∷ drop (length parameters) old.store.words.items) n.word_is
          ∙ ap (λ xs. answer ∷ xs) left;
      operands_fit = (subst (λ x. x < 2 ^ 64) n.word_is n.word_fits, values_behind a.taken a.left a.values);
      locals_are = n.locals ∙ i.holds.locals_are;
      locals_fit = i.holds.locals_fit;
      globals_are = n.globals ∙ i.holds.globals_are;
      globals_fit = i.holds.globals_fit;
      memory_is = n.memory;
      memory_fits = subst (λ size. size ≤ 1048576) (sym n.same_length) i.holds.memory_fits;
    }) n.at n.labels (guards_stay c.guards c.guards old new refl n.guards i.guards) (sym n.state)
  where
    values_behind : (xs ys : List Value) → AllValues (xs ++ ys) → AllValues ys
    values_behind [] ys v = v
    values_behind (x ∷ xs) ys v = values_behind xs ys v.1

-- ---- the function of a row

pub callees_get : (calls : List CallNo) (function : ℕ) (number : CallNo) → slice_get calls function ≡ Some number →
    slice_get (callees calls) function ≡ Some (callee_of_row (Some number.0))
callees_get [] function number e = absurd cc
callees_get (first ∷ calls) zero number e =
    let p : first ≡ number = cc in ap (λ (n : CallNo). Some (callee_of_row (Some n.0))) p
callees_get (first ∷ calls) (suc function) number e = callees_get calls function number e

pub row_within : (calls : List CallNo) (function : ℕ) (number : CallNo) → AreRows calls →
    slice_get calls function ≡ Some number → number.0 ≤ 64
row_within [] function number r e = absurd cc
row_within (first ∷ calls) zero number r e = let p : first ≡ number = cc in subst (λ (n : CallNo). n.0 ≤ 64) p r.0
row_within (first ∷ calls) (suc function) number r e = row_within calls function number r.1 e

-- the function that is called is there
pub call_within : (S : Type 0) (ops : List Op) (ends : List ℕ) (calls : List CallNo) (function : ℕ) (old : Running) →
    slice_get ops old.at ≡ Some (op.Call function) → CanGo S ops ends calls old → function < length calls
call_within S ops ends calls function old h m =
    let b : BeforePlain m.world m.c ops ends old (op.Call function) m.is.region m.is.around =
    before_plain m.world m.c ops ends old (op.Call function) m.is refl h in
    let region : Region = record m.is.region { rest = b.rest } in
    let go : Callee → Step S =
    λ callee.
    with_all (takes callee) m.is.region.operands
    (λ arguments left. call m.world callee arguments region m.is.around left m.c) in
    let f : FindsSome (slice_get m.world.context.calls function) =
    found_some (slice_get m.world.context.calls function) go (unticked (suc m.c.count)
    (with_some (slice_get m.world.context.calls function) go) (subst IsNoFault b.step_is m.sound)) in
    omega (
      arith,
      some_within (callees calls) function f.value
          (ap (λ callees. slice_get callees function) (sym m.calls_are) ∙ f.is),
      length-callees calls,
    )

pub can_call : (S : Type 0) (ops : List Op) (ends : List ℕ) (calls : List CallNo) (function : ℕ) (number : CallNo)
    (callee : Callee) (old : Running) → slice_get ops old.at ≡ Some (op.Call function) →
    slice_get calls function ≡ Some number → callee_of_row (Some number.0) ≡ callee → CanGo S ops ends calls old →
    CanCall S callee function old
can_call S ops ends calls function number callee old h n e m = record {
  world = m.world;
  c = m.c;
  ops = ops;
  ends = ends;
  is = m.is;
  here = h;
  calls = ap (λ callees. slice_get callees function) m.calls_are ∙ callees_get calls function number n ∙ ap Some e;
  sound = m.sound;
}

pub goes_by : {S : Type 0} (meaning : HostMeaning S) (ops : List Op) (ends : List ℕ) (calls : List CallNo)
    (function : ℕ) (number : CallNo) (callee : Callee) (old : Running) (host : S) (found : Option Stop) (new : Running)
    →
    slice_get ops old.at ≡ Some (op.Call function) → slice_get calls function ≡ Some number →
    callee_of_row (Some number.0) ≡ callee → CallsIt S callee function old found new →
    Goes S meaning calls ops ends old host found new host
goes_by {S} meaning ops ends calls function number callee old host found new h n e turns world c w k i s =
    subst (λ after. Follows ops ends (step world c) found new after) k
    (turns world c ops ends i h
    (ap (λ callees. slice_get callees function) w.calls_are ∙ callees_get calls function number n ∙ ap Some e) s)

pub asks_by : {S : Type 0} (meaning : HostMeaning S) (ops : List Op) (ends : List ℕ) (calls : List CallNo)
    (function : ℕ) (number : CallNo) (callee : Callee) (old : Running) (before : S) (new : Running) (after : S) →
    slice_get ops old.at ≡ Some (op.Call function) → slice_get calls function ≡ Some number →
    callee_of_row (Some number.0) ≡ callee → Asks S meaning callee function old before new after →
    Goes S meaning calls ops ends old before None new after
asks_by meaning ops ends calls function number callee old before new after h n e asks world c w k i s =
    asks world c ops ends w.host_is k i h
    (ap (λ callees. slice_get callees function) w.calls_are ∙ callees_get calls function number n ∙ ap Some e) s

pub host_row : (n : ℕ) → 3 ≤ n → callee_of_row (Some n) ≡ host_call n (row_parameters n)
host_row n h =
    let a : (n == 0) ≡ false = grind (arith, nat_tests) in
    let b : (n == 1) ≡ false = grind (arith, nat_tests) in
    let d : (n == 2) ≡ false = grind (arith, nat_tests) in
    let host : Callee = host_call n (row_parameters n) in
    if_is_false (n == 0) guard (if n == 1 then accept else if n == 2 then rollback else host) a
    ∙ if_is_false (n == 1) accept (if n == 2 then rollback else host) b
    ∙ if_is_false (n == 2) rollback host d

-- the row of a function
abbrev pub row_at : List CallNo → ℕ → CallNo
row_at calls function = slice_index_or calls function (record { 0 = 0 })

pub row_got : (calls : List CallNo) (function : ℕ) → function < length calls →
    slice_get calls function ≡ Some (row_at calls function)
row_got calls function h = slice_get-get_or calls function (record { 0 = 0 }) h

abbrev pub CallsSome : (S : Type 0) → List CallNo → ℕ → Running → Type 0
CallsSome S calls function old =
    (ops : List Op) × (ends : List ℕ) × (slice_get ops old.at ≡ Some (op.Call function)) × CanGo S ops ends calls old

pub function_within : (S : Type 0) (calls : List CallNo) (function : ℕ) (old : Running) →
    CallsSome S calls function old → function < length calls
function_within S calls function old m = call_within S m.0 m.1 calls function old m.2 m.3

pub can_call_row : (S : Type 0) (calls : List CallNo) (function : ℕ) (callee : Callee) (old : Running) →
    callee_of_row (Some (row_at calls function).0) ≡ callee → CallsSome S calls function old →
    CanCall S callee function old
can_call_row S calls function callee old e m =
    can_call S m.0 m.1 calls function (row_at calls function) callee old m.2
    (row_got calls function (function_within S calls function old m)) e m.3
