-- What is kept of programs, as more of them are checked.
use Rattle.std.proofs.Common.{◌≡◌, ◌∙◌, ℕ, Bool, true, false, cond, List, Option, Some, None, refl, sym, ap, subst}
use Rattle.std.specs.Prelude.{◌⊎◌, is_some, option_map, OnErr, OnOk, Result, Ok, Err}
use Rattle.std.proofs.Common.{inl, inr}
use Rattle.std.specs.FinMap as map
use Rattle.std.proofs.lemmas.Option.{same_Some}
use Rattle.hk_base.specs.declared.ids.Hash256.{Hash256}
use Rattle.hk_bound.specs.Bounds.{export_bound}
use Rattle.hk_bound.specs.Checks.{Held, Holds}
use Rattle.hk_bound.specs.declared.fault.Export.{Export}
use Rattle.hk_bound.specs.declared.fault.Export.TheVariants as «export»
use Rattle.hk_bound.proofs.Acceptance.{accepted_is_hook}
use Rattle.wa_exec.specs.Made.{is_there}
use Rattle.wa_exec.specs.Runs.{named}
use Rattle.hk_state.specs.declared.entry.Entry.{Entry}
use Rattle.hk_state.specs.declared.entry.Entry.TheVariants as entry
use Rattle.hk_state.specs.declared.key.Key.{Key}
use Rattle.hk_state.specs.declared.key.Key.TheVariants as key
use Rattle.hk_state.specs.Keys.{exact, is_key, itself, keys_total}
use Rattle.hk_state.specs.Entries.{Entries}
use Rattle.hk_chain.specs.Plays.{stored_bound}
use Rattle.hk_chain.specs.Programs.{AreOf, AreStored, IsDefined, IsOf, IsReady, IsStored, Kept, StayKept}

-- ---- one more is kept

module _ (kept : Kept) (at : Key) (held : Held) where
  got : (q : Key) → map.get (map.insert kept at held) q ≡ cond (is_key q at) (Some held) (map.get kept q)
  got q = map.get-insert keys_total kept at held q

  got_by : (q : Key) (b : Bool) → is_key q at ≡ b →
      map.get (map.insert kept at held) q ≡ cond b (Some held) (map.get kept q)
  got_by q b same = got q ∙ ap (λ c. cond c (Some held) (map.get kept q)) same

  pub put_there : map.get (map.insert kept at held) at ≡ Some held
  put_there = got_by at true (itself at)

  -- where nothing was there, what was kept stays
  pub put_stays : map.get kept at ≡ None → StayKept kept (map.insert kept at held)
  put_stays none q other found = by (is_key q at) refl
    where
      by : (b : Bool) → is_key q at ≡ b → map.get (map.insert kept at held) q ≡ Some other
      by true same = absurd (nowhere (sym none ∙ ap (map.get kept) (sym (exact q at same)) ∙ found))
        where
          nowhere : None ≡ Some other → ⊥
          nowhere e = cc e
      by false apart = got_by q false apart ∙ found

  pub put_of : (m : Entries) → IsOf m at held → AreOf m kept → AreOf m (map.insert kept at held)
  put_of m is are q other found = by (is_key q at) refl
    where
      by : (b : Bool) → is_key q at ≡ b → IsOf m q other
      by true same =
          subst (λ h. IsOf m q h) (same_Some held other (sym (got_by q true same) ∙ found))
          (subst (λ k. IsOf m k held) (sym (exact q at same)) is)
      by false apart = are q other (sym (got_by q false apart) ∙ found)

-- what is left of a call that may fail
pub either : {A E P Q : Type 0} (r : Result A E) → OnOk r P → OnErr r Q → P ⊎ Q
either (Ok a) p q = inl p
either (Err e) p q = inr q

pub nothing : {A B : Type 0} (f : A → B) (o : Option A) (found : Option B) → option_map f o ≡ found →
    is_some o ≡ false →
    found ≡ None
nothing f None found e no_one = sym e
nothing f (Some a) found e no_one = absurd (cc no_one)

pub filled_of : (m : Entries) (old new : Kept) (at : Key) (held : Held) →
    (new ≡ map.insert old at held) ⊎ (new ≡ old) → IsOf m at held → AreOf m old → AreOf m new
filled_of m old new at held (inl e) is are = subst (λ k. AreOf m k) (sym e) (put_of old at held m is are)
filled_of m old new at held (inr e) is are = subst (λ k. AreOf m k) (sym e) are

pub filled_stays : (old new : Kept) (at : Key) (held : Held) → (new ≡ map.insert old at held) ⊎ (new ≡ old) →
    map.get old at ≡ None → StayKept old new
filled_stays old new at held (inl e) none = subst (λ k. StayKept old k) (sym e) (put_stays old at held none)
filled_stays old new at held (inr e) none = subst (λ k. StayKept old k) (sym e) (λ q other found. found)

pub filled_there : (old new : Kept) (at : Key) (held : Held) → new ≡ map.insert old at held →
    map.get new at ≡ Some held
filled_there old new at held e = ap (λ k. map.get k at) e ∙ put_there old at held

pub stay_further : (a b c : Kept) → StayKept a b → StayKept b c → StayKept a c
stay_further a b c one two at held found = two at held (one at held found)

-- ---- what is found there

same_code : (e : Option Entry) (code other : List ℕ) (version its bound_hook hook : ℕ) (bound_cbak cbak : Option ℕ) →
    e ≡ Some (entry.Definition code version bound_hook bound_cbak) → e ≡ Some (entry.Definition other its hook cbak) →
    (code ≡ other) × (version ≡ its)
same_code e code other version its bound_hook hook bound_cbak cbak one two = (cc (one, two), cc (one, two))

same_hash : (a b : Hash256) → key.Definition a ≡ key.Definition b → a ≡ b
same_hash a b e = cc e

-- the check that is kept under a hash is that of its Definition's code
pub holds_at : (m : Entries) (kept : Kept) (hash : Hash256) (code : List ℕ) (version : ℕ) (held : Held) → AreOf m kept →
    IsDefined m hash code version → map.get kept (key.Definition hash) ≡ Some held → Holds version code held
holds_at m kept hash code version held are d found =
    let o : IsOf m (key.Definition hash) held = are (key.Definition hash) held found in
    let there = ap (λ h. map.get m (key.Definition h)) (same_hash hash o.hash o.at_hash) ∙ o.defined.there in
    let same =
    same_code (map.get m (key.Definition hash)) o.code code o.version version o.defined.bound_hook d.bound_hook
    o.defined.bound_cbak d.bound_cbak there d.there in
    subst (λ v. Holds v code held) same.1 (subst (λ c. Holds o.version c held) same.0 o.holds)

-- ---- what is ready to run

one_module : (version : ℕ) (code : List ℕ) (bound_hook : ℕ) (bound_cbak : Option ℕ) (held : Held) →
    (s : IsStored code version bound_hook bound_cbak) → Holds version code held → s.wasm ≡ held.wasm
one_module version code bound_hook bound_cbak held s h =
    same_Some s.wasm held.wasm
    (sym ((accepted_is_hook version code s.wasm).1 s.hook) ∙ (accepted_is_hook version code held.wasm).1 h.hook)

-- a stored bound is that of its export
pub stored_export : (code : List ℕ) (version bound_hook : ℕ) (bound_cbak : Option ℕ) (which : Export) (bound : ℕ)
    (s : IsStored code version bound_hook bound_cbak) → stored_bound which bound_hook bound_cbak ≡ Some bound →
    export_bound version (named which) s.wasm ≡ Some bound
stored_export code version bound_hook bound_cbak «export».Hook bound s e = s.bound_is ∙ e
stored_export code version bound_hook bound_cbak «export».Cbak bound s e = s.cbak_is ∙ e

pub is_ready : (m : Entries) (kept : Kept) (hash : Hash256) (code : List ℕ) (version bound_hook : ℕ)
    (bound_cbak : Option ℕ) (held : Held) (which : Export) (bound : ℕ) → AreStored m → AreOf m kept →
    map.get m (key.Definition hash) ≡ Some (entry.Definition code version bound_hook bound_cbak) →
    map.get kept (key.Definition hash) ≡ Some held → stored_bound which bound_hook bound_cbak ≡ Some bound →
    IsReady version which bound held
is_ready m kept hash code version bound_hook bound_cbak held which bound stored are there found e =
    let h : Holds version code held =
    holds_at m kept hash code version held are
    (record { bound_hook = bound_hook; bound_cbak = bound_cbak; there = there }) found in
    let s : IsStored code version bound_hook bound_cbak = stored hash code version bound_hook bound_cbak there in
    record {
      code = code;
      holds = h;
      bounded =
          subst (λ w. export_bound version (named which) w ≡ Some bound)
          (one_module version code bound_hook bound_cbak held s h)
          (stored_export code version bound_hook bound_cbak which bound s e);
    }

pub is_there_at : (version : ℕ) (which : Export) (bound : ℕ) (held : Held) → IsReady version which bound held →
    is_there which held ≡ true
is_there_at version «export».Hook bound held r = refl
is_there_at version «export».Cbak bound held r = ap is_some (sym r.holds.bound_cbak ∙ r.bounded)
