-- Reading from left to right: what a reader of the code gives, as a function. Each is proved to read exactly what its
-- relation spells.
use Rattle.std.specs.Prelude.{ℕ, zero, suc, ℤ, pos, ◌≡◌, ◌+◌, ◌-◌, ◌*◌, ◌^◌, ◌+ℤ◌, ◌-ℤ◌, ◌*ℤ◌, ◌==◌, nat_lt, nat_le}
use Rattle.std.specs.Prelude.{if◌then◌else◌, List, [], ◌∷◌, length, take, drop, Option, Some, None, Result, Ok, Err}
use Rattle.wa_decode.specs.declared.fault.DecodeFault.{DecodeFault}
use Rattle.wa_decode.specs.declared.fault.DecodeFault.TheVariants.{Malformed, NoMemory}

infixl 10 ◌>>=◌
abbrev pub ◌>>=◌ : {A B : Type 0} → Option A → (A → Option B) → Option B
None >>= f = None
(Some x) >>= f = f x

-- What a function returned, seen by view, is what reading gives, unless memory ran out.
abbrev pub Fails : {Y : Type 0} → DecodeFault → Option Y → Type 0
Fails Malformed read = read ≡ None
Fails NoMemory read = Unit {0}

abbrev pub Gives : {X Y : Type 0} → (X → Y) → Result X DecodeFault → Option Y → Type 0
Gives view (Ok x) read = read ≡ Some (view x)
Gives view (Err e) read = Fails e read

-- ---- readers made of readers: each gives a value and the bytes behind it

abbrev pub made_at : {A B : Type 0} → (A → B) → (List ℕ → Option (A × List ℕ)) → List ℕ → Option (B × List ℕ)
made_at make read bytes = read bytes >>= λ a. Some (make a.0, a.1)

abbrev pub both_at : {A B : Type 0} → (List ℕ → Option (A × List ℕ)) → (List ℕ → Option (B × List ℕ)) → List ℕ →
    Option ((A × B) × List ℕ)
both_at first second bytes = first bytes >>= λ a. second a.1 >>= λ b. Some ((a.0, b.0), b.1)

-- this byte, and behind it what the reader reads
abbrev pub tag_at : {A : Type 0} → ℕ → (List ℕ → Option (A × List ℕ)) → List ℕ → Option (A × List ℕ)
tag_at tag read [] = None
tag_at tag read (b ∷ bs) = if b == tag then read bs else None

-- all of the bytes
abbrev pub ended : {A : Type 0} → A × List ℕ → Option A
ended (x, []) = Some x
ended (x, (b ∷ bs)) = None

abbrev pub whole_at : {A : Type 0} → (List ℕ → Option (A × List ℕ)) → List ℕ → Option A
whole_at read bytes = read bytes >>= ended

-- ---- numbers

abbrev pub wider : ℕ → ℕ × List ℕ → ℕ × List ℕ
wider b r = ((b - 128) + 128 * r.0, r.1)

unfoldable pub unsigned_at : ℕ → List ℕ → Option (ℕ × List ℕ)
unsigned_at bits [] = None
unsigned_at bits (b ∷ bs) =
    if nat_lt b 128 then (if nat_lt b (2 ^ bits) then Some (b, bs) else None) else
    if nat_lt 7 bits then (unsigned_at (bits - 7) bs >>= λ r. Some (wider b r)) else
    None

abbrev pub wider_signed : ℕ → ℤ × List ℕ → ℤ × List ℕ
wider_signed b r = (pos (b - 128) +ℤ (pos 128 *ℤ r.0), r.1)

unfoldable pub signed_at : ℕ → List ℕ → Option (ℤ × List ℕ)
signed_at bits [] = None
signed_at bits (b ∷ bs) =
    if nat_lt b 64 then (if nat_lt b (2 ^ (bits - 1)) then Some (pos b, bs) else None) else
    if nat_lt b 128 then (if nat_le 128 (b + 2 ^ (bits - 1)) then Some (pos b -ℤ pos 128, bs) else None) else
    if nat_lt 7 bits then (signed_at (bits - 7) bs >>= λ r. Some (wider_signed b r)) else
    None

-- ---- vectors

abbrev pub cut_at : ℕ → List ℕ → Option (List ℕ × List ℕ)
cut_at size bytes = if nat_le size (length bytes) then Some (take size bytes, drop size bytes) else None

unfoldable pub bytes_at : List ℕ → Option (List ℕ × List ℕ)
bytes_at bytes = unsigned_at 32 bytes >>= λ size. cut_at size.0 size.1

unfoldable pub items_at : {A : Type 0} → (List ℕ → Option (A × List ℕ)) → ℕ → List ℕ → Option (List A × List ℕ)
items_at read zero bytes = Some ([], bytes)
items_at read (suc n) bytes = read bytes >>= λ x. items_at read n x.1 >>= λ xs. Some (x.0 ∷ xs.0, xs.1)

unfoldable pub vector_at : {A : Type 0} → (List ℕ → Option (A × List ℕ)) → List ℕ → Option (List A × List ℕ)
vector_at read bytes = unsigned_at 32 bytes >>= λ count. items_at read count.0 count.1

-- a body behind its size, all of it
unfoldable pub sized_at : {A : Type 0} → (List ℕ → Option (A × List ℕ)) → List ℕ → Option (A × List ℕ)
sized_at read bytes = bytes_at bytes >>= λ body. whole_at read body.0 >>= λ x. Some (x, body.1)
