-- What a condition that let through tells.
use Rattle.std.proofs.Common.{◌≡◌, Bool, true, false, refl, Ok}
use Rattle.hk_calls.specs.declared.code.Code.{Code}
use Rattle.hk_calls.specs.Rules.{refuse}

-- where a condition let through, it doesn't hold
pub not_refused : (condition : Bool) (refusal : Code) (x : Unit {0}) → refuse condition refusal ≡ Ok x →
    condition ≡ false
not_refused true refusal x e = cc
not_refused false refusal x e = refl
