-- Definitions stay as they are in each transaction, and so what is kept of programs stays theirs.
use Rattle.std.proofs.Common.{◌≡◌, ℕ, ◌+◌, ◌==◌, Bool, true, false, cond, if◌then◌else◌, List, [], ◌∷◌, refl, sym, ap}
use Rattle.std.proofs.Common.{◌∙◌, Option, Some, None}
use Rattle.std.specs.Option.{is_some}
use Rattle.std.specs.FinMap.{get, remove, get-insert, get-remove}
use Rattle.hk_base.specs.declared.ids.AccountId.{AccountId}
use Rattle.hk_base.specs.declared.ids.Hash256.{Hash256}
use Rattle.xo_object.specs.declared.transaction.Grant.{Grant}
use Rattle.xo_object.specs.declared.transaction.HookItem.{HookItem}
use Rattle.xo_object.specs.declared.transaction.HookItem.TheVariants as item
use Rattle.xo_object.specs.declared.transaction.Parameter.{Parameter}
use Rattle.xo_object.specs.declared.transaction.Transaction.{Transaction}
use Rattle.hk_lines.specs.declared.output_line.OutputLine.{OutputLine}
use Rattle.hk_lines.specs.declared.result_name.ResultName.{ResultName}
use Rattle.hk_lines.specs.declared.result_name.ResultName.TheVariants.{Occupied, NoDefinition, Reserve}
use Rattle.hk_reading.specs.declared.reading.Reading.{Reading}
use Rattle.hk_reading.specs.declared.reading.Reading.TheVariants as readings
use Rattle.hk_reading.specs.Readings.{hook_kind}
use Rattle.hk_state.specs.declared.entry.Entry.{Entry}
use Rattle.hk_state.specs.declared.entry.Entry.TheVariants as entry
use Rattle.hk_state.specs.declared.entry.Holding.{Holding}
use Rattle.hk_state.specs.declared.key.Key.TheVariants as key
use Rattle.hk_state.specs.declared.key.StateKey.{StateKey}
use Rattle.hk_state.specs.declared.ledger.Header.{Header}
use Rattle.hk_state.specs.Keys.{is_key, as_key, keys_total, exact}
use Rattle.hk_state.specs.Entries.{Entries}
use Rattle.hk_state.specs.Holdings.{holding_at, with_holding, get-with_holding}
use Rattle.hk_state.specs.Ledger.{LedgerValue}
use Rattle.hk_state.specs.Rules.{Effect, keeps, fails}
use Rattle.hk_draft.specs.Draft.{Draft, draft_on, erased}
use Rattle.hk_draft.specs.Ends.{ChainEnd, kept, rejected, ChainFits}
use Rattle.hk_events.specs.Engine.{Engine, Checked}
use Rattle.hk_events.specs.Results.{Origin, refusal, paid, paid_from, next_sequence}
use Rattle.hk_events.specs.Chains.{chains, sides}
use Rattle.hk_events.specs.Events.{with_queued}
use Rattle.hk_events.specs.Items.{ItemEnd, leaves, stops, keys_in, all_erased, has_entry, is_occupied, defined}
use Rattle.hk_events.specs.Items.{created, put_entry, put_install, updated, item_end, then_items, items_end}
use Rattle.hk_events.specs.Items.{is_short, reserved, hooks_end}
use Rattle.hk_events.specs.Performed.{after_items, after_rules, after_chains, unless_refused, transaction}
use Rattle.hk_events.specs.Lawful.{IsLawful}
use Rattle.hk_events.proofs.Chaining.{chains_fit}
use Rattle.hk_events.proofs.Queueing.{queue_others}
use Rattle.hk_chain.specs.Programs.{Kept, AreOf}

abbrev pub DefinitionsStay : Entries → Entries → Type 0
DefinitionsStay m n = (hash : Hash256) (x : Entry) → get m (key.Definition hash) ≡ Some x →
    get n (key.Definition hash) ≡ Some x

-- entries with the same Definitions
abbrev pub SameDefinitions : Entries → Entries → Type 0
SameDefinitions m n = (hash : Hash256) → get n (key.Definition hash) ≡ get m (key.Definition hash)

pub same_stay : (m n : Entries) → SameDefinitions m n → DefinitionsStay m n
same_stay m n same hash x at = same hash ∙ at

pub stay_further : (l m n : Entries) → DefinitionsStay l m → DefinitionsStay m n → DefinitionsStay l n
stay_further l m n one two hash x at = two hash x (one hash x at)

pub stay_holding : (m : Entries) (id : AccountId) (balance sequence : ℕ) →
    DefinitionsStay m (with_holding m id balance sequence)
stay_holding m id balance sequence =
    same_stay m (with_holding m id balance sequence)
    (λ hash. get-with_holding m id balance sequence (key.Definition hash) refl)

-- what is kept of programs is theirs where Definitions stay
pub programs_stay : (m n : Entries) (programs : Kept) → DefinitionsStay m n → AreOf m programs → AreOf n programs
programs_stay m n programs stay are at held found =
    let is = are at held found in
    record {
      hash = is.hash;
      at_hash = is.at_hash;
      code = is.code;
      version = is.version;
      defined = record {
        bound_hook = is.defined.bound_hook;
        bound_cbak = is.defined.bound_cbak;
        there = stay is.hash
            (entry.Definition is.code is.version is.defined.bound_hook is.defined.bound_cbak) is.defined.there;
      };
      holds = is.holds;
    }

module _ (e : Engine) (owner : AccountId) where
  -- of items
  abbrev StayEnd : Draft → ItemEnd → Type 0
  StayEnd d (leaves b) = DefinitionsStay d.entries b.entries
  StayEnd d (stops name) = Unit {0}

  unless_stay : (b : Bool) (d : Draft) (name : ResultName) (x : ItemEnd) → StayEnd d x →
      StayEnd d (if b then stops name else x)
  unless_stay true d name x stay = tt
  unless_stay false d name x stay = stay

  erased_stay : (qs : List StateKey) (d : Draft) → DefinitionsStay d.entries (all_erased qs d).entries
  erased_stay [] d = λ hash x at. at
  erased_stay (q ∷ qs) d =
      stay_further d.entries (erased q d).entries (all_erased qs (erased q d)).entries
      (same_stay d.entries (erased q d).entries
      (λ hash. get-remove keys_total d.entries (as_key q) (key.Definition hash)))
      (erased_stay qs (erased q d))

  install_stay : (position : ℕ) (x : Entry) (d : Draft) →
      DefinitionsStay d.entries (put_install owner position x d).entries
  install_stay position x d =
      same_stay d.entries (put_install owner position x d).entries
      (λ hash. get-insert keys_total d.entries (key.Install owner position) x (key.Definition hash))

  -- a Definition is put where its hash has none
  module _ (version : ℕ) (code : List ℕ) (c : Checked) (d : Draft) where
    abbrev definition : Entry
    definition = entry.Definition code version c.bound_hook c.bound_cbak

    no_other : (hash : Hash256) (x : Entry) → is_some (get d.entries (key.Definition c.hash)) ≡ false →
        get d.entries (key.Definition hash) ≡ Some x → (b : Bool) →
        is_key (key.Definition hash) (key.Definition c.hash) ≡ b →
        cond b (Some definition) (get d.entries (key.Definition hash)) ≡ Some x
    no_other hash x none at true same =
        let here : is_some (get d.entries (key.Definition c.hash)) ≡ true =
        ap (λ k. is_some (get d.entries k)) (sym (exact (key.Definition hash) (key.Definition c.hash) same))
        ∙ ap is_some at in
        let bad : true ≡ false = sym here ∙ none in cc
    no_other hash x none at false other = at

    defined_by : (b : Bool) → has_entry d (key.Definition c.hash) ≡ b →
        DefinitionsStay d.entries (if b then d else put_entry (key.Definition c.hash) definition d).entries
    defined_by true there = λ hash x at. at
    defined_by false none =
        λ hash x at.
        get-insert keys_total d.entries (key.Definition c.hash) definition (key.Definition hash)
        ∙ no_other hash x none at (is_key (key.Definition hash) (key.Definition c.hash)) refl

    defined_stay : DefinitionsStay d.entries (defined version code c d).entries
    defined_stay = defined_by (has_entry d (key.Definition c.hash)) refl

  created_stay : (position version : ℕ) (code : List ℕ) (install : Hash256 → Entry) (d : Draft)
      (found : Option Checked) →
      StayEnd d (created owner position version code install d found)
  created_stay position version code install d None = tt
  created_stay position version code install d (Some c) =
      stay_further d.entries (defined version code c d).entries
      (put_install owner position (install c.hash) (defined version code c d)).entries
      (defined_stay version code c d) (install_stay position (install c.hash) (defined version code c d))

  installed_stay : (position : ℕ) (x : Entry) (d : Draft) (b : Bool) →
      StayEnd d (if b then leaves (put_install owner position x d) else stops NoDefinition)
  installed_stay position x d true = install_stay position x d
  installed_stay position x d false = tt

  updated_stay : (position : ℕ) (on namespace : Option Hash256) (parameters : Option (List Parameter))
      (grants : Option (List Grant)) (d : Draft) (found : Option Entry) →
      StayEnd d (updated owner position on namespace parameters grants d found)
  updated_stay position on namespace parameters grants d (Some (entry.Install hash mask space values leave)) =
      install_stay position _ d
  updated_stay position on namespace parameters grants d other = tt

  item_stay : (position : ℕ) (i : HookItem) (d : Draft) → StayEnd d (item_end e owner position i d)
  item_stay position item.Noop d = λ hash x at. at
  item_stay position (item.DeleteNamespace namespace) d = erased_stay (keys_in owner namespace d.entries) d
  item_stay position item.Delete d =
      same_stay d.entries (remove d.entries (key.Install owner position))
      (λ hash. get-remove keys_total d.entries (key.Install owner position) (key.Definition hash))
  item_stay position (item.Create code version on namespace parameters grants replace) d =
      unless_stay (is_occupied owner position replace d) d Occupied _
      (created_stay position version code (λ hash. entry.Install hash on namespace parameters grants) d
      (e.checks version code))
  item_stay position (item.Install hash on namespace parameters grants replace) d =
      unless_stay (is_occupied owner position replace d) d Occupied _
      (installed_stay position (entry.Install hash on namespace parameters grants) d
      (has_entry d (key.Definition hash)))
  item_stay position (item.Update on namespace parameters grants) d =
      updated_stay position on namespace parameters grants d (get d.entries (key.Install owner position))

  onward_stay : (d b : Draft) (x : ItemEnd) → DefinitionsStay d.entries b.entries → StayEnd b x → StayEnd d x
  onward_stay d b (leaves c) one two = stay_further d.entries b.entries c.entries one two
  onward_stay d b (stops name) one two = tt

  then_stay : (d : Draft) (x : ItemEnd) (later : Draft → ItemEnd) → StayEnd d x →
      ((b : Draft) → StayEnd b (later b)) → StayEnd d (then_items x later)
  then_stay d (leaves b) later one two = onward_stay d b (later b) one (two b)
  then_stay d (stops name) later one two = tt

  items_stay : (position : ℕ) (is : List HookItem) (d : Draft) → StayEnd d (items_end e owner position is d)
  items_stay position [] d = λ hash x at. at
  items_stay position (i ∷ is) d =
      then_stay d (item_end e owner position i d) (items_end e owner (position + 1) is) (item_stay position i d)
      (items_stay (position + 1) is)

  reserved_stay : (d : Draft) (x : ItemEnd) → StayEnd d x → StayEnd d (reserved e owner x)
  reserved_stay d (leaves b) one = unless_stay (is_short e owner b.entries) d Reserve (leaves b) one
  reserved_stay d (stops name) one = tt

  hooks_stay : (is : List HookItem) (d : Draft) → StayEnd d (hooks_end e owner is d)
  hooks_stay is d = reserved_stay d (items_end e owner 0 is d) (items_stay 0 is d)

-- a transaction whose fee and sequence are taken
module _ (e : Engine) (lawful : IsLawful e) (header : Header) (before base : Entries) (t : Transaction) where
  items_end_stay : (d : Draft) (records : List OutputLine) (x : ItemEnd) → DefinitionsStay base d.entries →
      StayEnd e t.account d x → DefinitionsStay base (after_items base t records x).draft.entries
  items_end_stay d records (leaves b) one two = stay_further base d.entries b.entries one two
  items_end_stay d records (stops name) one two = λ hash x at. at

  rules_stay : (d : Draft) (records : List OutputLine) (x : Effect) → DefinitionsStay base d.entries →
      e.rules header d.entries t ≡ x → DefinitionsStay base (after_rules base t records d x).draft.entries
  rules_stay d records (keeps n) one is =
      stay_further base d.entries n one
      (same_stay d.entries n (λ hash. lawful.others header d.entries n t (key.Definition hash) is refl))
  rules_stay d records (fails name) one is = λ hash x at. at

  effect_stay : (d : Draft) (records : List OutputLine) (b : Bool) → DefinitionsStay base d.entries →
      DefinitionsStay base
      (if b then after_items base t records (hooks_end e t.account t.hooks d)
      else after_rules base t records d (e.rules header d.entries t)).draft.entries
  effect_stay d records true one =
      items_end_stay d records (hooks_end e t.account t.hooks d) one (hooks_stay e t.account t.hooks d)
  effect_stay d records false one = rules_stay d records (e.rules header d.entries t) one refl

  chains_stay : (x : ChainEnd) → ChainFits e.reads_emitted header.seq before (draft_on base) x →
      DefinitionsStay base (after_chains e header base t x).draft.entries
  chains_stay (kept d records) one =
      effect_stay d records (t.kind == hook_kind)
      (same_stay base d.entries (λ hash. one.others (key.Definition hash) refl))
  chains_stay (rejected records) hooks = λ hash x at. at

paid_stay : (m : Entries) (origin : Origin) (t : Transaction) (found : Option Holding) →
    DefinitionsStay m (paid_from m origin t found)
paid_stay m origin t None = λ hash x at. at
paid_stay m origin t (Some holding) = stay_holding m t.account _ (next_sequence origin holding.sequence)

module _ (e : Engine) (lawful : IsLawful e) (before : Entries) (ledger : LedgerValue) (origin : Origin) where
  performed_stay : (t : Transaction) (name : Option ResultName) →
      DefinitionsStay ledger.entries (unless_refused e before ledger origin t name).draft.entries
  performed_stay t (Some name) = λ hash x at. at
  performed_stay t None =
      let base = paid ledger.entries origin t in
      let chain = e.chain ledger.header ledger.next before t in
      stay_further ledger.entries base
      (after_chains e ledger.header base t (chains chain (sides t) (draft_on base))).draft.entries
      (paid_stay ledger.entries origin t (holding_at ledger.entries t.account))
      (chains_stay e lawful ledger.header before base t (chains chain (sides t) (draft_on base))
      (chains_fit e.reads_emitted ledger.header.seq before chain
      (lawful.chains ledger.header ledger.next before t) (sides t) (draft_on base)))

  pub transaction_stay : (read : Reading) →
      DefinitionsStay ledger.entries (transaction e before ledger origin read).draft.entries
  transaction_stay readings.TooLong = λ hash x at. at
  transaction_stay readings.Unparsed = λ hash x at. at
  transaction_stay readings.Malformed = λ hash x at. at
  transaction_stay (readings.Transaction t) = performed_stay t (refusal e before ledger origin t)

  -- and with what is queued
  pub entered_stay : (read : Reading) →
      DefinitionsStay ledger.entries
      (with_queued ledger.next (transaction e before ledger origin read).draft.emissions
      (transaction e before ledger origin read).draft.entries)
  entered_stay read =
      let d = (transaction e before ledger origin read).draft in
      stay_further ledger.entries d.entries (with_queued ledger.next d.emissions d.entries) (transaction_stay read)
      (same_stay d.entries (with_queued ledger.next d.emissions d.entries)
      (λ hash. queue_others ledger.next d.emissions d.entries (key.Definition hash) refl))
