-- The balances in the lines are those of the ledger.
use Rattle.std.proofs.Common.{◌≡◌, ◌∙◌, sym, ap, arith, List, [], ◌∷◌, ◌++◌}
use Rattle.std.proofs.lemmas.List.Sums.{sum_by-append}
use Rattle.std.specs.List.{sum_by}
use Rattle.std.specs.FinMap.{entries}
use Rattle.hk_lines.specs.declared.output_line.OutputLine.TheVariants as printed
use Rattle.hk_state.specs.declared.entry.Entry.{Entry}
use Rattle.hk_state.specs.declared.entry.Entry.TheVariants as entry
use Rattle.hk_state.specs.declared.key.Key.{Key}
use Rattle.hk_state.specs.declared.key.Key.TheVariants as key
use Rattle.hk_state.specs.Balances.{worth}
use Rattle.hk_state.specs.Entries.{Entries}
use Rattle.hk_state.specs.Ledger.{LedgerValue}
use Rattle.hk_state.specs.Sums.{total, sum-total}
use Rattle.hk_final.specs.Final.{in_order, final_lines}
use Rattle.hk_final.specs.Entered.{entry_line}
use Rattle.hk_final.specs.Totals.{balance_in, EndsInTotal}
use Rattle.hk_final.proofs.Entered.{lines_of, all_kinds}

one_worth : (m : Entries) (k : Key) (e : Entry) → sum_by balance_in (entry_line m k e) ≡ worth k e
one_worth m (key.Account id) (entry.Account balance sequence) = omega arith
one_worth m (key.Install id position) (entry.Install hash on namespace parameters grants) = omega arith
one_worth m (key.State id namespace k) (entry.State bytes) = omega arith
one_worth m (key.Emitted number) (entry.Emitted blob hash first last callback) = omega arith
one_worth m k e = omega arith

all_worths : (m : Entries) (es : List (Key × Entry)) → sum_by balance_in (lines_of (entry_line m) es) ≡ total worth es
all_worths m [] = omega arith
all_worths m (e ∷ es) =
    let parts = sum_by-append balance_in (entry_line m e.0 e.1) (lines_of (entry_line m) es) in
    let one = one_worth m e.0 e.1 in
    let rest = all_worths m es in
    omega (arith, parts, one, rest)

pub ends_in_total : (ledger : LedgerValue) → EndsInTotal ledger.burnt (final_lines ledger)
ends_in_total ledger =
    let m = ledger.entries in
    record {
      front = in_order (entry_line m) m;
      whole = sym (all_kinds ledger)
          ∙ ap (λ n. in_order (entry_line m) m ++ printed.FinalTotal n ledger.burnt ∷ printed.Done ∷ [])
          (sum-total worth m ∙ sym (all_worths m (entries m)));
    }
