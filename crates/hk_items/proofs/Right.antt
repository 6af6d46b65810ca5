-- The items of a transaction are few, and of versions that there are.
use Rattle.xo_object.specs.declared.transaction.HookItem.{HookItem}
use Rattle.xo_object.specs.declared.transaction.HookItem.TheVariants as item
use Rattle.hk_events.specs.Complete.{ItemFits}
use Rattle.hk_events.proofs.Fitting.{fitting_law}
use Rattle.hk_events.proofs.Words.{each-map}
use Rattle.hk_items.specs.Needs.{IsKnown, TransactionsAreRight}

known : (i : HookItem) → ItemFits i → IsKnown i
known (item.Create code version on namespace parameters grants replace) fits = fits.0
known item.Noop fits = tt
known (item.DeleteNamespace namespace) fits = tt
known item.Delete fits = tt
known (item.Install hash on namespace parameters grants replace) fits = tt
known (item.Update on namespace parameters grants) fits = tt

pub transactions_right : TransactionsAreRight
transactions_right fields bytes emitted t is =
    let fits = fitting_law fields bytes emitted t is in
    record { few = fits.0; known = each-map ItemFits IsKnown known t.hooks fits.1 }
