-- A code has one host to begin with.
use Rattle.std.proofs.Common.{◌≡◌, ◌∙◌, ap, sym, ℕ, List, Option}
use Rattle.hk_base.specs.declared.ids.Hash256.{Hash256}
use Rattle.hk_bound.specs.Checks.{Held, Holds}
use Rattle.hk_bound.proofs.Verdicts.{one_hash, one_hook_bound, one_cbak_bound}
use Rattle.hk_api.specs.HostState.{HostState}
use Rattle.hk_alone.specs.Context.{host}

abbrev with_parts : List ℕ → Held → ℕ → Hash256 → ℕ → Option ℕ → HostState
with_parts code held version hash bound_hook bound_cbak =
    host code (record held { version = version; hash = hash; bound_hook = bound_hook; bound_cbak = bound_cbak })

pub one_host : (version : ℕ) (code : List ℕ) (a b : Held) → Holds version code a → Holds version code b →
    host code a ≡ host code b
one_host version code a b x y =
    ap (λ v. with_parts code a v a.hash a.bound_hook a.bound_cbak) (x.version_is ∙ sym y.version_is)
    ∙ ap (λ hash. with_parts code a b.version hash a.bound_hook a.bound_cbak) (one_hash version code a b x y)
    ∙ ap (λ bound. with_parts code a b.version b.hash bound a.bound_cbak) (one_hook_bound version code a b x y)
    ∙ ap (with_parts code a b.version b.hash b.bound_hook) (one_cbak_bound version code a b x y)
