-- Lengths before values (xrpl.org, "Serialization Format", Length Prefixing).
use Rattle.std.specs.Prelude.{◌≡◌, ℕ, ◌+◌, ◌-◌, ◌/◌, ◌%◌, ◌≤◌, List, [], ◌∷◌, length, take, if◌then◌else◌, nat_le}
use Rattle.xo_fields.specs.declared.length.LengthRead.{LengthRead}
use Rattle.xo_fields.specs.declared.length.LengthRead.TheVariants.{Cut, Bad, Length}
use Rattle.xo_fields.specs.Spelling.{IsCut, IsBad}

-- the bytes of a length: one to 192, two to 12,480, three to 918,744
abbrev pub prefix : ℕ → List ℕ
prefix n =
    if nat_le n 192 then n ∷ [] else
    if nat_le n 12480 then (193 + (n - 193) / 256) ∷ ((n - 193) % 256) ∷ []
    else (241 + (n - 12481) / 65536) ∷ ((n - 12481) / 256 % 256) ∷ ((n - 12481) % 256) ∷ []

abbrev pub IsLength : List ℕ → Type 0
IsLength bytes = (n : ℕ) × (n ≤ 918744) × (bytes ≡ prefix n)

-- what stands at the front of the bytes
abbrev pub LengthGives : List ℕ → LengthRead → Type 0
LengthGives bytes Cut = IsCut IsLength bytes
LengthGives bytes Bad = IsBad IsLength bytes
LengthGives bytes (Length n size) = (n ≤ 918744) × (size ≤ length bytes) × (take size bytes ≡ prefix n)
