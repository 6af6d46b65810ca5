-- The State keys that are listed, as accounts are written.
use Rattle.std.proofs.Common.{◌≡◌, ap, refl, true, false, cond, List, [], ◌∷◌, ◌++◌}
use Rattle.std.specs.List.{list_any, cons_option}
use Rattle.hk_base.specs.declared.ids.AccountId.{AccountId}
use Rattle.hk_state.specs.declared.key.Key.{Key}
use Rattle.hk_state.specs.declared.key.Key.TheVariants as key
use Rattle.hk_state.specs.Keys.{is_key}
use Rattle.hk_state.specs.Rules.{state_keys, as_state_key}
use Rattle.hk_state.specs.Writes.{note}

one_more : (keys : List Key) (id : AccountId) → state_keys (keys ++ key.Account id ∷ []) ≡ state_keys keys
one_more [] id = refl
one_more (k ∷ keys) id = ap (cons_option (as_state_key k)) (one_more keys id)

-- an account is no State key
pub account_noted : (keys : List Key) (id : AccountId) → state_keys (note (key.Account id) keys) ≡ state_keys keys
account_noted keys id =
    elim (list_any (is_key (key.Account id)) keys)
    as (λ b. state_keys (cond b keys (keys ++ key.Account id ∷ [])) ≡ state_keys keys) [
      | true ↦ refl
      | false ↦ one_more keys id
    ]
