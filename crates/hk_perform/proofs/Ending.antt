-- What a transaction comes to, by what its parts come to.
use Rattle.std.proofs.Common.{◌≡◌, ◌∙◌, ℕ, ◌==◌, Bool, true, false, List, [], ◌++◌, append-nil, refl, sym, ap, subst}
use Rattle.std.proofs.Common.{Option, Some, None, Result, Ok, Err, IfOk, if◌then◌else◌}
use Rattle.std.specs.declared.alloc.AllocError.{AllocError}
use Rattle.hk_base.specs.declared.ids.AccountId.{AccountId}
use Rattle.xo_object.specs.declared.transaction.Transaction.{Transaction}
use Rattle.hk_lines.specs.declared.output_line.OutputLine.{OutputLine}
use Rattle.hk_lines.specs.declared.result_name.ResultName.{ResultName}
use Rattle.hk_lines.specs.declared.result_name.ResultName.TheVariants.{HookRejected, Success}
use Rattle.hk_reading.specs.declared.reading.Reading.TheVariants as reading
use Rattle.hk_reading.specs.Readings.{hook_kind}
use Rattle.hk_emit.specs.declared.emission.Emission.{Emission}
use Rattle.hk_state.specs.declared.ledger.Header.{Header}
use Rattle.hk_state.specs.declared.transactor.Done.{Done}
use Rattle.hk_state.specs.declared.transactor.Done.TheVariants.{Kept, Failed}
use Rattle.hk_state.specs.Entries.{Entries}
use Rattle.hk_state.specs.Ledger.{LedgerValue}
use Rattle.hk_state.specs.Rules as rules_of
use Rattle.hk_state.specs.Rules.{Rules, Effect, keeps, fails}
use Rattle.hk_state.specs.Writes.{Writes}
use Rattle.hk_draft.specs.Draft.{Draft, draft_on}
use Rattle.hk_draft.specs.Drafted.{draft_of}
use Rattle.hk_draft.specs.Ends as ends
use Rattle.hk_draft.specs.Ends.{ChainEnd}
use Rattle.hk_api_parts.specs.declared.setting.Setting.{Setting}
use Rattle.hk_chain.specs.declared.ending.ChainEnd.TheVariants as found
use Rattle.hk_chain.specs.Meets.{EndMeans}
use Rattle.hk_events.specs.Chains.{behind, chains, sides}
use Rattle.hk_events.specs.Engine.{Engine}
use Rattle.hk_events.specs.Items.{ItemEnd, leaves, stops, hooks_end}
use Rattle.hk_events.specs.Performed.{Performed, refused, failed, succeeded, after_items, after_rules, after_chains}
use Rattle.hk_events.specs.Performed.{effect, performed, unless_refused, transaction}
use Rattle.hk_events.specs.Results.{paid, refusal}
use Rattle.hk_items.specs.Endings as items
use Rattle.hk_engine.specs.Engine.{engine_of}
use Rattle.hk_perform.specs.declared.origin.Origin.{Origin}
use Rattle.hk_perform.specs.declared.origin.Origin.TheVariants.{Handed, Queued}
use Rattle.hk_perform.specs.Acts.{acts, as_end}
use Rattle.hk_perform.specs.Meets.{IsPerformed, chain_by, found_by, origin_of, transaction_by}
use Rattle.hk_perform.specs.declared.performed.Performed as declared

-- ---- what a transaction does itself

-- what rules keep of an overlay, as a draft
pub ruled : (m : Entries) (w : Writes) (done : Done) (x : Effect) → rules_of.Means m w done x → (es : List Emission) →
    items.Means m es done (as_end (draft_of m w es) x)
ruled m w (Kept new) (keeps n) k es = λ i. record { entries = k.entries i; written = k.states i; emissions = es }
ruled m w (Kept new) (fails name) k es = absurd k
ruled m w (Failed name) (keeps n) k es = absurd k
ruled m w (Failed name) (fails other) same es = same

-- its effect is that end
after_end : (m : Entries) (t : Transaction) (records : List OutputLine) (d : Draft) (x : Effect) →
    after_rules m t records d x ≡ after_items m t records (as_end d x)
after_end m t records d (keeps n) = refl
after_end m t records d (fails name) = refl

either_end : (m : Entries) (t : Transaction) (records : List OutputLine) (d : Draft) (b : Bool) (hooks : ItemEnd)
    (x : Effect) →
    (if b then after_items m t records hooks else after_rules m t records d x)
    ≡ after_items m t records (if b then hooks else as_end d x)
either_end m t records d true hooks x = refl
either_end m t records d false hooks x = after_end m t records d x

effect_is : (e : Engine) (header : Header) (m : Entries) (t : Transaction) (records : List OutputLine) (d : Draft) →
    effect e header m t records d ≡ after_items m t records (acts e header t d)
effect_is e header m t records d =
    either_end m t records d (t.kind == hook_kind) (hooks_end e t.account t.hooks d) (e.rules header d.entries t)

-- what an answer says of an end
failed_is : (m : Entries) (es : List Emission) (name : ResultName) (x : ItemEnd) → items.Means m es (Failed name) x →
    x ≡ stops name
failed_is m es name (leaves d) means = absurd means
failed_is m es name (stops other) same = ap stops (sym same)

kept_is : (m : Entries) (es : List Emission) (w : Writes) (x : ItemEnd) → items.Means m es (Kept w) x →
    x ≡ leaves (draft_of m w es)
kept_is m es w (leaves d) same = ap leaves (sym same)
kept_is m es w (stops name) means = absurd means

-- ---- chains

rejected_is : (m : Entries) (records : List OutputLine) (x : ChainEnd) → EndMeans m x (found.Rejected records) →
    x ≡ ends.rejected records
rejected_is m records (ends.kept d lines) means = absurd means
rejected_is m records (ends.rejected lines) same = ap ends.rejected (sym same)

chain_is : (m : Entries) (w : Writes) (es : List Emission) (records : List OutputLine) (x : ChainEnd) →
    EndMeans m x (found.Kept w es records) → x ≡ ends.kept (draft_of m w es) records
chain_is m w es records (ends.kept d lines) means = λ i. ends.kept (sym means.0 i) (sym means.1 i)
chain_is m w es records (ends.rejected lines) means = absurd means

-- a chain behind another one's lines, and none behind them
pub behind_means : (m : Entries) (records : List OutputLine) (x y : ChainEnd) → x ≡ y →
    (w : Writes) (es : List Emission) → x ≡ ends.kept (draft_of m w es) [] →
    EndMeans m (behind records y) (found.Kept w es records)
behind_means m records x y same w es is =
    subst (λ z. EndMeans m (behind records z) (found.Kept w es records)) (sym is ∙ same)
    (refl, sym (append-nil records))

pub kept_behind : (m : Entries) (records more all : List OutputLine) (w : Writes) (es : List Emission) →
    all ≡ records ++ more → (x : ChainEnd) →
    EndMeans m x (found.Kept w es more) → EndMeans m (behind records x) (found.Kept w es all)
kept_behind m records more all w es is (ends.kept d lines) means = (means.0, is ∙ ap (λ l. records ++ l) means.1)
kept_behind m records more all w es is (ends.rejected lines) means = absurd means

pub rejected_behind : (m : Entries) (records more all : List OutputLine) → all ≡ records ++ more → (x : ChainEnd) →
    EndMeans m x (found.Rejected more) → EndMeans m (behind records x) (found.Rejected all)
rejected_behind m records more all is (ends.kept d lines) means = absurd means
rejected_behind m records more all is (ends.rejected lines) same = is ∙ ap (λ l. records ++ l) same

-- ---- a transaction

-- what is kept of one that succeeds
abbrev kept_answer : Transaction → Writes → List Emission → List OutputLine → declared.Performed
kept_answer t w es records = record { result = Success; fee = t.fee; overlay = w; emissions = es; records = records }

pub succeeded_answer : (m : Entries) (t : Transaction) (w : Writes) (es : List Emission) (records : List OutputLine)
    (p : Performed) →
    p ≡ succeeded t (draft_of m w es) records → IsPerformed m p (kept_answer t w es records)
succeeded_answer m t w es records p is =
    subst (λ q. IsPerformed m q (kept_answer t w es records)) (sym is)
    (record { result = refl; fee = refl; draft = refl; records = refl })

-- an answer for any ledger is one for this ledger
pub for_this : (ledger : LedgerValue) (p : LedgerValue → Performed) (result : Result declared.Performed AllocError) →
    IfOk result (λ answer. (any : LedgerValue) → IsPerformed any.entries (p any) answer) →
    IfOk result (IsPerformed ledger.entries (p ledger))
for_this ledger p (Ok answer) h = h ledger
for_this ledger p (Err fault) h = tt

module _ (rules : Rules) (ledger : LedgerValue) (origin : Origin) (setting : Setting)
    (header : setting.header ≡ ledger.header) where
  abbrev t : Transaction
  t = setting.transaction

  abbrev e : Engine
  e = engine_of rules

  abbrev base : Entries
  base = paid (found_by ledger origin).entries (origin_of origin) t

  abbrev all : ChainEnd
  all = chains (chain_by ledger setting) (sides t) (draft_on base)

  pub refused_is : (name : ResultName) →
      refusal e ledger.entries (found_by ledger origin) (origin_of origin) t ≡ Some name →
      transaction_by rules ledger origin t ≡ refused (found_by ledger origin).entries name
  refused_is name h = ap (unless_refused e ledger.entries (found_by ledger origin) (origin_of origin) t) h

  same_chains : chains (e.chain (found_by ledger origin).header (found_by ledger origin).next ledger.entries t)
      (sides t) (draft_on base) ≡ all
  same_chains = by_origin origin
    where
      by_origin : (o : Origin) →
          chains (e.chain (found_by ledger o).header (found_by ledger o).next ledger.entries t) (sides t)
          (draft_on base) ≡ all
      by_origin (Handed verdict) =
          ap (λ h. chains (e.chain h ledger.next ledger.entries t) (sides t) (draft_on base)) (sym header)
      by_origin (Queued number) =
          ap (λ h. chains (e.chain h ledger.next ledger.entries t) (sides t) (draft_on base)) (sym header)

  -- of one that isn't refused
  module _ (goes : refusal e ledger.entries (found_by ledger origin) (origin_of origin) t ≡ None) where
    performed_is : transaction_by rules ledger origin t ≡ after_chains e (found_by ledger origin).header base t all
    performed_is =
        ap (unless_refused e ledger.entries (found_by ledger origin) (origin_of origin) t) goes
        ∙ ap (after_chains e (found_by ledger origin).header base t) same_chains

    same_header : (found_by ledger origin).header ≡ ledger.header
    same_header = by_origin origin
      where
        by_origin : (o : Origin) → (found_by ledger o).header ≡ ledger.header
        by_origin (Handed verdict) = refl
        by_origin (Queued number) = refl

    pub rejected_so : (records : List OutputLine) → EndMeans ledger.entries all (found.Rejected records) →
        transaction_by rules ledger origin t ≡ failed base t HookRejected records
    rejected_so records means =
        performed_is
        ∙ ap (after_chains e (found_by ledger origin).header base t) (rejected_is ledger.entries records all means)

    module _ (w : Writes) (es : List Emission) (records : List OutputLine)
        (means : EndMeans ledger.entries all (found.Kept w es records)) where
      acted : transaction_by rules ledger origin t
          ≡ after_items base t records (acts e ledger.header t (draft_of ledger.entries w es))
      acted =
          performed_is
          ∙ ap (after_chains e (found_by ledger origin).header base t) (chain_is ledger.entries w es records all means)
          ∙ ap (λ h. effect e h base t records (draft_of ledger.entries w es)) same_header
          ∙ effect_is e ledger.header base t records (draft_of ledger.entries w es)

      pub failed_so : (name : ResultName) →
          items.Means ledger.entries es (Failed name) (acts e ledger.header t (draft_of ledger.entries w es)) →
          transaction_by rules ledger origin t ≡ failed base t name records
      failed_so name h = acted ∙ ap (after_items base t records) (failed_is ledger.entries es name _ h)

      pub succeeded_so : (after : Writes) →
          items.Means ledger.entries es (Kept after) (acts e ledger.header t (draft_of ledger.entries w es)) →
          transaction_by rules ledger origin t ≡ succeeded t (draft_of ledger.entries after es) records
      succeeded_so after h = acted ∙ ap (after_items base t records) (kept_is ledger.entries es after _ h)
