-- On which types of transactions a hook fires. This project's own: a mask of 256 bits, of which the least significant
-- is about type 0. A bit of 0 lets the hook
-- fire, but for SetHook a bit of 1 does.
use Rattle.std.specs.Prelude.{ℕ, ◌-◌, ◌/◌, ◌%◌, ◌^◌, ◌==◌, ◌&&◌, Bool, not, nat_le, if◌then◌else◌, slice_index_or}
use Rattle.hk_base.specs.declared.ids.Hash256.{Hash256}

-- the type that changes hooks
abbrev pub hook_kind : ℕ
hook_kind = 22

-- bit t stands in the byte t / 8 from the last
abbrev pub is_set : Hash256 → ℕ → Bool
is_set mask t = slice_index_or mask.0 (31 - t / 8) 0 / 2 ^ (t % 8) % 2 == 1

abbrev pub fires : Hash256 → ℕ → Bool
fires mask t = nat_le t 255 && (if t == hook_kind then is_set mask t else not (is_set mask t))
