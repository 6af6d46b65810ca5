-- What the check of a new code finds. This project's own.
use Rattle.std.specs.Prelude.{ℕ, List, Option}
use Rattle.std.specs.Option.{option_map}
use Rattle.hk_base.specs.declared.ids.Hash256.{Hash256}
use Rattle.wa_ops.specs.declared.modules.Module.{Module}
use Rattle.wa_ops.specs.HookRules.{is_hook, is_cbak}
use Rattle.wa_ops.specs.Typing.{and_then}
use Rattle.hk_bound.specs.Acceptance.{accepted}
use Rattle.hk_bound.specs.Bounds.{export_bound}
use Rattle.hk_bound.specs.Checks.{Held, hash_of}
use Rattle.hk_events.specs.Engine.{Checked}

abbrev pub checked : Hash256 → ℕ → Option ℕ → Checked
checked hash bound_hook bound_cbak = record { hash = hash; bound_hook = bound_hook; bound_cbak = bound_cbak }

-- the hash of a code, and the bounds of `hook` and `cbak` in its module
abbrev pub bounded : ℕ → List ℕ → Module → Option Checked
bounded version code m =
    option_map (λ bound. checked (hash_of version code) bound (export_bound version is_cbak m))
    (export_bound version is_hook m)

-- those of a code that is accepted in a version
unfoldable pub checked_in : ℕ → List ℕ → Option Checked
checked_in version code = and_then (accepted version code) (bounded version code)

-- the same as it is held of a checked code
abbrev pub found_in : Held → Checked
found_in held = checked held.hash held.bound_hook held.bound_cbak
