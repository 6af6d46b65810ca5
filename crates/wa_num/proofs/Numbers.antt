-- Numbers in memory, lowest byte first.
use Rattle.std.proofs.Common.{◌≡◌, ℕ, ◌-◌, ◌^◌, ◌<◌, ◌≤◌, List, [], ◌∷◌, ◌++◌, length, get_or, replicate, arith, refl}
use Rattle.std.specs.Int.{w64, from_le_bytes}
use Rattle.wa_num.specs.Memory.{little}

-- up to eight bytes with zeros behind them spell the same number
pub little_widened : (bytes : List ℕ) → length bytes ≤ 8 →
    from_le_bytes w64 (bytes ++ replicate (8 - length bytes) 0) ≡ little bytes
little_widened [] h = refl
little_widened (a ∷ []) h = omega arith
little_widened (a ∷ b ∷ []) h = omega arith
little_widened (a ∷ b ∷ c ∷ []) h = omega arith
little_widened (a ∷ b ∷ c ∷ d ∷ []) h = omega arith
little_widened (a ∷ b ∷ c ∷ d ∷ e ∷ []) h = omega arith
little_widened (a ∷ b ∷ c ∷ d ∷ e ∷ f ∷ []) h = omega arith
little_widened (a ∷ b ∷ c ∷ d ∷ e ∷ f ∷ g ∷ []) h = omega arith
little_widened (a ∷ b ∷ c ∷ d ∷ e ∷ f ∷ g ∷ i ∷ []) h = omega arith
little_widened (a ∷ b ∷ c ∷ d ∷ e ∷ f ∷ g ∷ i ∷ j ∷ more) h = absurd (omega arith)

-- up to eight bytes spell a number of so many digits in base 256
pub little_below : (bytes : List ℕ) → ((i : ℕ) → get_or bytes i 0 < 256) → length bytes ≤ 8 →
    little bytes < 256 ^ length bytes
little_below [] t h = omega arith
little_below (a ∷ []) t h = omega (arith, t 0)
little_below (a ∷ b ∷ []) t h = omega (arith, t 0, t 1)
little_below (a ∷ b ∷ c ∷ []) t h = omega (arith, t 0, t 1, t 2)
little_below (a ∷ b ∷ c ∷ d ∷ []) t h = omega (arith, t 0, t 1, t 2, t 3)
little_below (a ∷ b ∷ c ∷ d ∷ e ∷ []) t h = omega (arith, t 0, t 1, t 2, t 3, t 4)
little_below (a ∷ b ∷ c ∷ d ∷ e ∷ f ∷ []) t h = omega (arith, t 0, t 1, t 2, t 3, t 4, t 5)
little_below (a ∷ b ∷ c ∷ d ∷ e ∷ f ∷ g ∷ []) t h = omega (arith, t 0, t 1, t 2, t 3, t 4, t 5, t 6)
little_below (a ∷ b ∷ c ∷ d ∷ e ∷ f ∷ g ∷ i ∷ []) t h = omega (arith, t 0, t 1, t 2, t 3, t 4, t 5, t 6, t 7)
little_below (a ∷ b ∷ c ∷ d ∷ e ∷ f ∷ g ∷ i ∷ j ∷ more) t h = absurd (omega arith)
