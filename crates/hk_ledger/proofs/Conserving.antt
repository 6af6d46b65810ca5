-- No drop comes or goes in a replay.
use Rattle.std.proofs.Common.{◌≡◌, ◌∙◌, ℕ, ◌+◌, ap, sym, subst, arith, refl, append_assoc, List, [], ◌∷◌, ◌++◌}
use Rattle.std.proofs.Common.{Option, Some, None}
use Rattle.std.specs.Option.{option_map, unwrap_or}
use Rattle.hk_lines.specs.declared.input_line.InputLine.{InputLine}
use Rattle.hk_lines.specs.declared.input_line.InputLine.TheVariants.{Account, Ledger, Tx, Hook, End}
use Rattle.hk_lines.specs.declared.output_line.OutputLine.{OutputLine}
use Rattle.hk_lines.specs.declared.output_line.OutputLine.TheVariants.{FinalTotal, Done}
use Rattle.hk_lines.specs.declared.output_line.OutputLine.TheVariants as printed
use Rattle.hk_final.specs.Final.{account_line, install_line, state_line, queued_line, in_order}
use Rattle.hk_lines.specs.declared.rule.Rule.{Rule}
use Rattle.hk_state.specs.declared.ledger.Header.{Header}
use Rattle.hk_state.specs.Ledger.{LedgerValue, with_header}
use Rattle.hk_state.specs.Balances.{balances, balances-empty, sum_new}
use Rattle.hk_state.specs.Holdings.{holding_at}
use Rattle.hk_base.specs.Rows.{first_row}
use Rattle.hk_state.specs.Rows.{none_applies}
use Rattle.hk_state.specs.Rules.{Rules}
use Rattle.hk_draft.specs.Reads.{reads_emitted}
use Rattle.hk_events.specs.Engine.{Engine}
use Rattle.hk_events.specs.Events.{applied}
use Rattle.hk_events.specs.Good.{IsGood}
use Rattle.hk_events.specs.Lawful.{IsLawful}
use Rattle.hk_events.specs.Settled.{due, opened, settled, settled_all}
use Rattle.hk_events.proofs.Applying.{applied_law}
use Rattle.hk_events.proofs.Settling.{settled_law}
use Rattle.hk_engine.specs.Engine.{engine_of}
use Rattle.hk_ledger.specs.Machine.{State, start, goes, opening_total, unless_broken, account_rules}
use Rattle.hk_ledger.specs.Machine.{tx_line}
use Rattle.hk_ledger.specs.Replays.{AddsUp, continued, replayed, opened_with}
use Rattle.hk_state.proofs.Told.{is_none}
use Rattle.hk_ledger.proofs.Whole.{new_whole, account_queued}

pub record Mapped {A B : Type 0} (f : A → B) (o : Option A) (y : B) : Type 0 where
  pub from : A
  pub at : o ≡ Some from
  pub to : f from ≡ y

mapped : {A B : Type 0} (f : A → B) (o : Option A) (y : B) → option_map f o ≡ Some y → Mapped f o y
mapped f None y h = cc
mapped f (Some x) y h = record { from = x; at = refl; to = ap (λ r. unwrap_or r (f x)) h }

-- lines that are printed before
behind : (shown more whole : List OutputLine) (total : ℕ) → shown ++ more ≡ whole → AddsUp total more →
    AddsUp total whole
behind shown more whole total is adds = record {
  front = shown ++ adds.front;
  balances = adds.balances;
  burnt = adds.burnt;
  whole = sym is ∙ ap (λ m. shown ++ m) adds.whole
      ∙ sym (append_assoc shown adds.front (FinalTotal adds.balances adds.burnt ∷ Done ∷ []));
  sum = adds.sum;
}

-- a line that isn't wrong
pub record Goes (found : Option Rule) (s : State) (shown whole : List OutputLine)
    (later : State → Option (List OutputLine)) : Type 0 where
  pub right : found ≡ None
  pub rest : Mapped (λ more. shown ++ more) (later s) whole

went : (found : Option Rule) (s : State) (shown whole : List OutputLine) (later : State → Option (List OutputLine)) →
    continued (unless_broken found (goes s shown)) later ≡ Some whole → Goes found s shown whole later
went None s shown whole later h = record { right = refl; rest = mapped (λ more. shown ++ more) (later s) whole h }
went (Some rule) s shown whole later h = cc

-- settlements keep the queue good, and all drops
pub record SettledKept (e : Engine) (ledger now : LedgerValue) : Type 0 where
  pub good : IsGood e.reads_emitted now
  pub total : opening_total now ≡ opening_total ledger

pub settled_kept : (e : Engine) (lawful : IsLawful e) (ns : List ℕ) (ledger : LedgerValue) →
    IsGood e.reads_emitted ledger →
    SettledKept e ledger (settled_all e ledger ns).ledger
settled_kept e lawful [] ledger good = record { good = good; total = refl }
settled_kept e lawful (n ∷ ns) ledger good =
    let holds = settled_law e ledger n lawful good in
    let rest = settled_kept e lawful ns (settled e ledger n).ledger holds.good in
    record { good = rest.good; total = rest.total ∙ holds.sum }

module _ (rules : Rules) (lawful : IsLawful (engine_of rules)) where
  adds_up : (lines : List InputLine) (s : State) (shown : List OutputLine) → IsGood reads_emitted s.ledger →
      replayed rules s lines ≡ Some shown → AddsUp (opening_total s.ledger + opened_with lines) shown
  adds_up [] s shown good h = cc
  adds_up (Account id balance sequence ∷ lines) s shown good h =
      let go = went (first_row (account_rules s.ledger id balance)) _ [] shown (λ next. replayed rules next lines) h in
      let more =
      adds_up lines _ go.rest.from (account_queued s.ledger id balance sequence good) go.rest.at in
      let absent =
      is_none (holding_at s.ledger.entries id) (none_applies (account_rules s.ledger id balance) go.right).1.0 in
      let sum = sum_new s.ledger.entries id balance sequence absent in
      let total : _ ≡ opening_total s.ledger + (balance + opened_with lines) = omega (arith, sum) in
      behind [] go.rest.from shown _ go.rest.to (subst (λ n. AddsUp n go.rest.from) total more)
  adds_up (Ledger seq time last_hash ∷ lines) s shown good h =
      let go = went _ _ _ shown (λ next. replayed rules next lines) h in
      let header : Header = record { seq = seq; time = time; last_hash = last_hash } in
      let ledger = with_header s.ledger header in
      let kept = settled_kept (engine_of rules) lawful (due ledger) ledger good in
      behind (printed.Ledger seq ∷ (opened (engine_of rules) s.ledger header).lines) go.rest.from shown _ go.rest.to
      (subst (λ n. AddsUp (n + opened_with lines) go.rest.from) kept.total
      (adds_up lines _ go.rest.from kept.good go.rest.at))
  adds_up (Tx verdict blob ∷ lines) s shown good h =
      let go = went _ _ _ shown (λ next. replayed rules next lines) h in
      let event = applied (engine_of rules) s.ledger verdict blob in
      let holds =
      applied_law (engine_of rules) s.ledger verdict blob lawful good in
      behind (tx_line (s.count + 1) event.result event.fee ++ event.lines) go.rest.from shown _ go.rest.to
      (subst (λ n. AddsUp (n + opened_with lines) go.rest.from) holds.sum
      (adds_up lines _ go.rest.from holds.good go.rest.at))
  adds_up (Hook code ∷ lines) s shown good h = cc
  adds_up (End ∷ lines) s shown good h = record {
    front =
        in_order (account_line s.ledger.entries) s.ledger.entries ++ in_order install_line s.ledger.entries
        ++ in_order state_line s.ledger.entries ++ in_order queued_line s.ledger.entries;
    balances = balances s.ledger.entries;
    burnt = s.ledger.burnt;
    whole = sym (ap (λ r. unwrap_or r shown) h);
    sum = omega arith;
  }

  pub conserved : (lines : List InputLine) (shown : List OutputLine) → replayed rules start lines ≡ Some shown →
      AddsUp (opened_with lines) shown
  conserved lines shown h =
      let none = balances-empty in
      let total : opening_total start.ledger + opened_with lines ≡ opened_with lines = omega (arith, none) in
      subst (λ n. AddsUp n shown) total (adds_up lines start shown new_whole.queue h)
