-- What is accepted as an emission changes no hooks.
use Rattle.std.proofs.Common.{◌≡◌, ◌≢◌, ℕ, ◌==◌, Bool, true, false, List, [], refl, Option}
use Rattle.hk_base.specs.declared.ids.Hash256.{Hash256}
use Rattle.xo_object.specs.declared.transaction.HookItem.{HookItem}
use Rattle.xo_object.specs.Names as names
use Rattle.xo_object.specs.Transaction.{HooksFor}
use Rattle.xo_list.specs.Item.{lookup}
use Rattle.std.proofs.lemmas.Bool.Decides.{Decides-eqb}
use Rattle.hk_emit.specs.declared.context.EmitContext.{EmitContext}
use Rattle.hk_emit.specs.declared.emission.Emission.{Emission}
use Rattle.hk_emit.specs.Accepted.{IsEmission}

none_for : (kind : ℕ) (bytes : Option (List ℕ)) (items : List HookItem) → kind ≢ 22 → (b : Bool) → (kind == 22) ≡ b →
    HooksFor b bytes items → items ≡ []
none_for kind bytes items other false is h = h
none_for kind bytes items other true is h = absurd (other ((Decides-eqb kind 22).0 is))

pub no_hooks : (blob : List ℕ) (context : EmitContext) (nonces : List Hash256) (e : Emission) →
    IsEmission blob context nonces e → e.transaction.hooks ≡ []
no_hooks blob context nonces e is =
    none_for e.transaction.kind (lookup names.hooks is.fields) e.transaction.hooks is.other (e.transaction.kind == 22)
    refl is.is.hooks
