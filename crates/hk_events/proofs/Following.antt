-- Entries that follow on others: what is new of hooks and their state is as it has to be, and accounts and Definitions
-- stay.
use Rattle.std.proofs.Common.{◌≡◌, ℕ, ◌⊎◌, inl, inr, Bool, true, false, cond, List, [], refl, sym, ap, subst, ◌∙◌}
use Rattle.std.proofs.Common.{Option, Some, None, IsSome}
use Rattle.std.specs.FinMap.{get, insert, remove, get-insert, get-remove}
use Rattle.hk_base.specs.declared.ids.AccountId.{AccountId}
use Rattle.hk_base.specs.declared.ids.Hash256.{Hash256}
use Rattle.hk_reading.specs.declared.reading.Reading.{Reading}
use Rattle.hk_emit.specs.declared.emission.Emission.{Emission}
use Rattle.hk_state.specs.declared.entry.Entry.{Entry}
use Rattle.hk_state.specs.declared.entry.Entry.TheVariants as entry
use Rattle.hk_state.specs.declared.key.Key.{Key}
use Rattle.hk_state.specs.declared.key.Key.TheVariants as key
use Rattle.hk_state.specs.declared.key.StateKey.{StateKey}
use Rattle.hk_state.specs.Keys.{is_key, as_key, keys_total, exact}
use Rattle.hk_state.specs.Entries.{Entries}
use Rattle.hk_state.specs.Holdings.{as_holding, holding_at, with_holding, get-with_holding, stays}
use Rattle.hk_draft.specs.Draft.{Draft, is_listed}
use Rattle.hk_draft.specs.Extends.{Extends, KeepsOthers}
use Rattle.hk_draft.specs.Writers.{IsWriter, MayWrite, hash_of}
use Rattle.hk_events.specs.Engine.{Checked}
use Rattle.hk_events.specs.Events.{with_queued}
use Rattle.hk_events.specs.Complete.{IsDefinition, IsInstall, IsState, AreSized, IsComplete}
use Rattle.hk_events.proofs.Queueing.{is_numbered, queue_others, without_other}

abbrev pub AccountsStay : Entries → Entries → Type 0
AccountsStay m n = (id : AccountId) → IsSome (holding_at m id) → IsSome (holding_at n id)

pub record Follows (checks : ℕ → List ℕ → Option Checked) (m n : Entries) : Type 0 where
  pub accounts : AccountsStay m n
  pub known : (hash : Hash256) → IsSome (get m (key.Definition hash)) → IsSome (get n (key.Definition hash))
  pub definitions : (hash : Hash256) (x : Entry) → get n (key.Definition hash) ≡ Some x →
      (get m (key.Definition hash) ≡ Some x) ⊎ IsDefinition checks hash x
  pub installs : (owner : AccountId) (position : ℕ) (x : Entry) → get n (key.Install owner position) ≡ Some x →
      (get m (key.Install owner position) ≡ Some x) ⊎ IsInstall n owner position x
  pub states : (q : StateKey) (x : Entry) → get n (as_key q) ≡ Some x →
      (get m (as_key q) ≡ Some x) ⊎ IsState n q.owner x

-- the entries of hooks and their state, which stay
abbrev pub is_kept : Key → Bool
is_kept (key.Install owner position) = true
is_kept (key.Definition hash) = true
is_kept (key.State owner namespace k) = true
is_kept other = false

module _ (checks : ℕ → List ℕ → Option Checked) where
  pub follows_itself : (m : Entries) → Follows checks m m
  follows_itself m = record {
    accounts = λ id h. h;
    known = λ hash h. h;
    definitions = λ hash x at. inl at;
    installs = λ owner position x at. inl at;
    states = λ q x at. inl at;
  }

  install_on : (m n : Entries) → Follows checks m n → (owner : AccountId) (position : ℕ) (x : Entry) →
      IsInstall m owner position x → IsInstall n owner position x
  install_on m n two owner position (entry.Install hash on namespace parameters grants) h = record {
    low = h.low;
    known = two.known hash h.known;
    owned = two.accounts owner h.owned;
    values = h.values;
    leave = h.leave;
  }
  install_on m n two owner position other h = absurd h

  module _ (l m n : Entries) (one : Follows checks l m) (two : Follows checks m n) where
    definition_by : (hash : Hash256) (x : Entry) → (get m (key.Definition hash) ≡ Some x) ⊎ IsDefinition checks hash x →
        (get l (key.Definition hash) ≡ Some x) ⊎ IsDefinition checks hash x
    definition_by hash x (inl at) = one.definitions hash x at
    definition_by hash x (inr is) = inr is

    install_then : (owner : AccountId) (position : ℕ) (x : Entry) →
        (get l (key.Install owner position) ≡ Some x) ⊎ IsInstall m owner position x →
        (get l (key.Install owner position) ≡ Some x) ⊎ IsInstall n owner position x
    install_then owner position x (inl at) = inl at
    install_then owner position x (inr is) = inr (install_on m n two owner position x is)

    install_by : (owner : AccountId) (position : ℕ) (x : Entry) →
        (get m (key.Install owner position) ≡ Some x) ⊎ IsInstall n owner position x →
        (get l (key.Install owner position) ≡ Some x) ⊎ IsInstall n owner position x
    install_by owner position x (inl at) = install_then owner position x (one.installs owner position x at)
    install_by owner position x (inr is) = inr is

    state_then : (q : StateKey) (x : Entry) → (get l (as_key q) ≡ Some x) ⊎ IsState m q.owner x →
        (get l (as_key q) ≡ Some x) ⊎ IsState n q.owner x
    state_then q x (inl at) = inl at
    state_then q x (inr is) = inr (is.0, two.accounts q.owner is.1)

    state_by : (q : StateKey) (x : Entry) → (get m (as_key q) ≡ Some x) ⊎ IsState n q.owner x →
        (get l (as_key q) ≡ Some x) ⊎ IsState n q.owner x
    state_by q x (inl at) = state_then q x (one.states q x at)
    state_by q x (inr is) = inr is

    pub follows_further : Follows checks l n
    follows_further = record {
      accounts = λ id h. two.accounts id (one.accounts id h);
      known = λ hash h. two.known hash (one.known hash h);
      definitions = λ hash x at. definition_by hash x (two.definitions hash x at);
      installs = λ owner position x at. install_by owner position x (two.installs owner position x at);
      states = λ q x at. state_by q x (two.states q x at);
    }

  module _ (m n : Entries) (complete : IsComplete checks m) (then : Follows checks m n) where
    definition_so : (hash : Hash256) (x : Entry) → (get m (key.Definition hash) ≡ Some x) ⊎ IsDefinition checks hash x →
        IsDefinition checks hash x
    definition_so hash x (inl at) = complete.definitions hash x at
    definition_so hash x (inr is) = is

    install_so : (owner : AccountId) (position : ℕ) (x : Entry) →
        (get m (key.Install owner position) ≡ Some x) ⊎ IsInstall n owner position x → IsInstall n owner position x
    install_so owner position x (inl at) = install_on m n then owner position x (complete.installs owner position x at)
    install_so owner position x (inr is) = is

    state_so : (q : StateKey) (x : Entry) → (get m (as_key q) ≡ Some x) ⊎ IsState n q.owner x → IsState n q.owner x
    state_so q x (inl at) = let is = complete.states q x at in (is.0, then.accounts q.owner is.1)
    state_so q x (inr is) = is

    -- what follows on complete entries is complete
    pub complete_then : IsComplete checks n
    complete_then = record {
      definitions = λ hash x at. definition_so hash x (then.definitions hash x at);
      installs = λ owner position x at. install_so owner position x (then.installs owner position x at);
      states = λ q x at. state_so q x (then.states q x at);
    }

  pub follows_same : (m n : Entries) → ((k : Key) → is_kept k ≡ true → get n k ≡ get m k) → AccountsStay m n →
      Follows checks m n
  follows_same m n same accounts = record {
    accounts = accounts;
    known = λ hash h. subst IsSome (sym (same (key.Definition hash) refl)) h;
    definitions = λ hash x at. inl (sym (same (key.Definition hash) refl) ∙ at);
    installs = λ owner position x at. inl (sym (same (key.Install owner position) refl) ∙ at);
    states = λ q x at. inl (sym (same (as_key q) refl) ∙ at);
  }

  kept_aside : (k : Key) (id : AccountId) → is_kept k ≡ true → is_key k (key.Account id) ≡ false
  kept_aside (key.Account owner) id h = cc
  kept_aside (key.Install owner position) id h = refl
  kept_aside (key.Definition hash) id h = refl
  kept_aside (key.State owner namespace k) id h = refl
  kept_aside (key.Emitted n) id h = refl
  kept_aside (key.Other bytes) id h = refl

  pub follows_holding : (m : Entries) (id : AccountId) (balance sequence : ℕ) →
      Follows checks m (with_holding m id balance sequence)
  follows_holding m id balance sequence =
      follows_same m (with_holding m id balance sequence)
      (λ k h. get-with_holding m id balance sequence k (kept_aside k id h)) (stays m id balance sequence)

  kept_number : (k : Key) → is_kept k ≡ true → is_numbered k ≡ false
  kept_number (key.Account owner) h = refl
  kept_number (key.Install owner position) h = refl
  kept_number (key.Definition hash) h = refl
  kept_number (key.State owner namespace k) h = refl
  kept_number (key.Emitted n) h = cc
  kept_number (key.Other bytes) h = refl

  pub follows_queue : (next : ℕ) (es : List Emission) (m : Entries) → Follows checks m (with_queued next es m)
  follows_queue next es m =
      follows_same m (with_queued next es m) (λ k h. queue_others next es m k (kept_number k h))
      (λ id h. subst (λ found. IsSome (as_holding found)) (sym (queue_others next es m (key.Account id) refl)) h)

  -- without a queued emission
  pub follows_without : (m : Entries) (number : ℕ) → Follows checks m (remove m (key.Emitted number))
  follows_without m number =
      follows_same m (remove m (key.Emitted number)) (λ k h. without_other m number k (kept_number k h))
      (λ id h. subst (λ found. IsSome (as_holding found)) (sym (without_other m number (key.Account id) refl)) h)

  -- what hooks wrote, by the entries as the event began
  module _ (reads : List ℕ → Reading) (seq : ℕ) (before : Entries) (Ran : AccountId → ℕ → Type 0) (a b : Draft)
      (new : a.written ≡ [])
      (extends : Extends reads seq (IsWriter before Ran) a b) (others : KeepsOthers a.entries b.entries)
      (complete : IsComplete checks before) (accounts : AccountsStay before a.entries)
      (sized : AreSized b.entries) where
    accounts_so : AccountsStay a.entries b.entries
    accounts_so id h = subst (λ found. IsSome (as_holding found)) (sym (others (key.Account id) refl)) h

    install_there : (owner : AccountId) (position : ℕ) (x : Entry) → IsInstall before owner position x →
        IsSome (holding_at before owner)
    install_there owner position (entry.Install hash on namespace parameters grants) h = h.owned
    install_there owner position other h = absurd h

    found_install : (owner : AccountId) (position : ℕ) (found : Option Entry) (hash : Hash256) →
        get before (key.Install owner position) ≡ found → hash_of found ≡ Some hash → IsSome (holding_at before owner)
    found_install owner position None hash at is = cc
    found_install owner position (Some x) hash at is =
        install_there owner position x (complete.installs owner position x at)

    owner_there : (q : StateKey) (w : IsWriter before Ran q) → MayWrite before w.hash w.account q.owner q.namespace →
        IsSome (holding_at before q.owner)
    owner_there q w (inl own) =
        subst (λ id. IsSome (holding_at before id)) (sym own)
        (found_install w.account w.position (get before (key.Install w.account w.position)) w.hash refl w.at)
    owner_there q w (inr g) =
        install_there q.owner g.position (entry.Install g.code g.on q.namespace g.parameters g.grants)
        (complete.installs q.owner g.position (entry.Install g.code g.on q.namespace g.parameters g.grants) g.there)

    listed_none : (q : StateKey) → is_listed q a.written ≡ true → ⊥
    listed_none q h =
        let none : is_listed q a.written ≡ false = ap (is_listed q) new in let bad : true ≡ false = sym h ∙ none in cc

    writes_by : (q : StateKey) (x : Entry) → get b.entries (as_key q) ≡ Some x → (listed : Bool) →
        is_listed q b.written ≡ listed →
        (get a.entries (as_key q) ≡ Some x) ⊎ IsState b.entries q.owner x
    writes_by q x at false is = inl (sym (extends.unlisted q is) ∙ at)
    writes_by q x at true is =
        elim (extends.grounds q is) as (λ _. (get a.entries (as_key q) ≡ Some x) ⊎ IsState b.entries q.owner x) [
          | inl listed ↦ absurd (listed_none q listed)
          | inr g ↦ inr (sized q x at, accounts_so q.owner (accounts q.owner (owner_there q g.0 g.0.may)))
        ]

    pub follows_writes : Follows checks a.entries b.entries
    follows_writes = record {
      accounts = accounts_so;
      known = λ hash h. subst IsSome (sym (others (key.Definition hash) refl)) h;
      definitions = λ hash x at. inl (sym (others (key.Definition hash) refl) ∙ at);
      installs = λ owner position x at. inl (sym (others (key.Install owner position) refl) ∙ at);
      states = λ q x at. writes_by q x at (is_listed q b.written) refl;
    }

  -- a removal of an Install, or of a State entry
  abbrev Gone : Key → Type 0
  Gone (key.Install owner position) = Unit {0}
  Gone (key.State owner namespace k) = Unit {0}
  Gone other = ⊥

  still : (x : Entry) (b : Bool) (found : Option Entry) → cond b None found ≡ Some x → found ≡ Some x
  still x true found at = cc
  still x false found at = at

  was_there : (m : Entries) (k q : Key) (x : Entry) → get (remove m k) q ≡ Some x → get m q ≡ Some x
  was_there m k q x at = still x (is_key q k) (get m q) (sym (get-remove keys_total m k q) ∙ at)

  account_left : (m : Entries) (k : Key) → Gone k → (id : AccountId) →
      get (remove m k) (key.Account id) ≡ get m (key.Account id)
  account_left m (key.Install owner position) h id =
      get-remove keys_total m (key.Install owner position) (key.Account id)
  account_left m (key.State owner namespace k) h id =
      get-remove keys_total m (key.State owner namespace k) (key.Account id)
  account_left m other h id = absurd h

  definition_left : (m : Entries) (k : Key) → Gone k → (hash : Hash256) →
      get (remove m k) (key.Definition hash) ≡ get m (key.Definition hash)
  definition_left m (key.Install owner position) h hash =
      get-remove keys_total m (key.Install owner position) (key.Definition hash)
  definition_left m (key.State owner namespace k) h hash =
      get-remove keys_total m (key.State owner namespace k) (key.Definition hash)
  definition_left m other h hash = absurd h

  pub follows_removal : (m : Entries) (k : Key) → Gone k → Follows checks m (remove m k)
  follows_removal m k h = record {
    accounts = λ id there. subst (λ found. IsSome (as_holding found)) (sym (account_left m k h id)) there;
    known = λ hash there. subst IsSome (sym (definition_left m k h hash)) there;
    definitions = λ hash x at. inl (was_there m k (key.Definition hash) x at);
    installs = λ owner position x at. inl (was_there m k (key.Install owner position) x at);
    states = λ q x at. inl (was_there m k (as_key q) x at);
  }

  -- an Install that is put
  module _ (m : Entries) (owner : AccountId) (position : ℕ) (x : Entry) (is : IsInstall m owner position x) where
    abbrev put : Entries
    put = insert m (key.Install owner position) x

    put_aside : (q : Key) → is_key q (key.Install owner position) ≡ false → get put q ≡ get m q
    put_aside q other =
        get-insert keys_total m (key.Install owner position) x q ∙ ap (λ b. cond b (Some x) (get m q)) other

    install_put : (y : Entry) → IsInstall m owner position y → IsInstall put owner position y
    install_put (entry.Install hash on namespace parameters grants) h = record {
      low = h.low;
      known = subst IsSome (sym (put_aside (key.Definition hash) refl)) h.known;
      owned = subst (λ found. IsSome (as_holding found)) (sym (put_aside (key.Account owner) refl)) h.owned;
      values = h.values;
      leave = h.leave;
    }
    install_put other h = absurd h

    abbrev IsInstallAt : Key → Entry → Type 0
    IsInstallAt (key.Install id at) y = IsInstall put id at y
    IsInstallAt other y = Unit {0}

    installs_by : (id : AccountId) (at : ℕ) (y : Entry) (b : Bool) →
        is_key (key.Install id at) (key.Install owner position) ≡ b →
        cond b (Some x) (get m (key.Install id at)) ≡ Some y →
        (get m (key.Install id at) ≡ Some y) ⊎ IsInstall put id at y
    installs_by id at y true same there =
        let made : x ≡ y = cc in
        inr (subst (λ k. IsInstallAt k y) (sym (exact (key.Install id at) (key.Install owner position) same))
        (subst (λ z. IsInstall put owner position z) made (install_put x is)))
    installs_by id at y false other there = inl there

    pub follows_install : Follows checks m put
    follows_install = record {
      accounts = λ id h. subst (λ found. IsSome (as_holding found)) (sym (put_aside (key.Account id) refl)) h;
      known = λ hash h. subst IsSome (sym (put_aside (key.Definition hash) refl)) h;
      definitions = λ hash y at. inl (sym (put_aside (key.Definition hash) refl) ∙ at);
      installs =
          λ id at y there.
          installs_by id at y (is_key (key.Install id at) (key.Install owner position)) refl
          (sym (get-insert keys_total m (key.Install owner position) x (key.Install id at)) ∙ there);
      states = λ q y at. inl (sym (put_aside (as_key q) refl) ∙ at);
    }

  -- a Definition that is put
  module _ (m : Entries) (hash : Hash256) (x : Entry) (is : IsDefinition checks hash x) where
    abbrev defining : Entries
    defining = insert m (key.Definition hash) x

    defining_aside : (q : Key) → is_key q (key.Definition hash) ≡ false → get defining q ≡ get m q
    defining_aside q other =
        get-insert keys_total m (key.Definition hash) x q ∙ ap (λ b. cond b (Some x) (get m q)) other

    known_by : (b : Bool) (found : Option Entry) → IsSome found → IsSome (cond b (Some x) found)
    known_by true found h = refl
    known_by false found h = h

    abbrev IsDefinitionAt : Key → Entry → Type 0
    IsDefinitionAt (key.Definition other) y = IsDefinition checks other y
    IsDefinitionAt k y = Unit {0}

    definitions_by : (other : Hash256) (y : Entry) (b : Bool) →
        is_key (key.Definition other) (key.Definition hash) ≡ b →
        cond b (Some x) (get m (key.Definition other)) ≡ Some y →
        (get m (key.Definition other) ≡ Some y) ⊎ IsDefinition checks other y
    definitions_by other y true same there =
        let made : x ≡ y = cc in
        inr (subst (λ k. IsDefinitionAt k y) (sym (exact (key.Definition other) (key.Definition hash) same))
        (subst (λ z. IsDefinition checks hash z) made is))
    definitions_by other y false apart there = inl there

    pub follows_definition : Follows checks m defining
    follows_definition = record {
      accounts = λ id h. subst (λ found. IsSome (as_holding found)) (sym (defining_aside (key.Account id) refl)) h;
      known =
          λ other h.
          subst IsSome (sym (get-insert keys_total m (key.Definition hash) x (key.Definition other)))
          (known_by (is_key (key.Definition other) (key.Definition hash)) (get m (key.Definition other)) h);
      definitions =
          λ other y there.
          definitions_by other y (is_key (key.Definition other) (key.Definition hash)) refl
          (sym (get-insert keys_total m (key.Definition hash) x (key.Definition other)) ∙ there);
      installs = λ owner position y at. inl (sym (defining_aside (key.Install owner position) refl) ∙ at);
      states = λ q y at. inl (sym (defining_aside (as_key q) refl) ∙ at);
    }
