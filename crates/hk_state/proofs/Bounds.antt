-- The bounds of an account's hooks, position by position.
use Rattle.std.proofs.Common.{◌≡◌, ◌∙◌, ℕ, zero, suc, ◌+◌, ◌-◌, ◌≤◌, Option, Some, None, ap, ap₂, sym, false, arith}
use Rattle.std.specs.Option.{is_some}
use Rattle.std.specs.FinMap.{get}
use Rattle.hk_base.specs.declared.ids.AccountId.{AccountId}
use Rattle.hk_state.specs.declared.key.Key.TheVariants.{Install}
use Rattle.hk_state.specs.declared.entry.Entry.{Entry}
use Rattle.hk_state.specs.Entries.{Entries}
use Rattle.hk_state.specs.Installs.{IsNext}
use Rattle.hk_state.specs.Fees.{bounds_below, fired_bound}

module _ (m : Entries) (kind : ℕ) (id : AccountId) where
  pub one_more : (fee bound position : ℕ) (entry : Option Entry) → fee ≡ bounds_below m kind id position →
      bound ≡ fired_bound m kind entry → entry ≡ get m (Install id position) →
      fee + bound ≡ bounds_below m kind id (position + 1)
  one_more fee bound position entry so is there =
      let next : suc position ≡ position + 1 = omega arith in
      ap₂ (λ a b. a + b) so (is ∙ ap (fired_bound m kind) there) ∙ ap (bounds_below m kind id) next

  -- positions without a hook add nothing
  none_further : (from more : ℕ) → IsNext m id from None →
      bounds_below m kind id (more + from) ≡ bounds_below m kind id from
  none_further from zero none = ap (bounds_below m kind id) (omega arith)
  none_further from (suc more) none =
      let further : suc more + from ≡ suc (more + from) = omega arith in
      ap (bounds_below m kind id) further
      ∙ ap₂ (λ fee entry. fee + fired_bound m kind entry) (none_further from more none)
      (none (more + from) (omega arith))
      ∙ omega arith

  pub no_more : (fee from end : ℕ) (next : Option ℕ) → from ≤ end → fee ≡ bounds_below m kind id from →
      IsNext m id from next → is_some next ≡ false → fee ≡ bounds_below m kind id end
  no_more fee from end None below so is gone =
      so ∙ sym (none_further from (end - from) is) ∙ ap (bounds_below m kind id) (omega (arith, below))
  no_more fee from end (Some position) below so is gone = cc
