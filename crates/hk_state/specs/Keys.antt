-- The order of the ledger's keys: by kind, accounts first, and then by their parts. This project's own.
use Rattle.std.specs.Prelude.{◌≡◌, ℕ, zero, suc, Bool, true, List, [], ◌∷◌, refl}
use Rattle.std.proofs.Common.{sym, ◌∙◌, ap, subst}
use Rattle.std.specs.Ordering.{nat_cmp, is_eq, ordering_then}
use Rattle.std.specs.Cmp.{IsTotalOrder, nat_cmp_total}
use Rattle.std.proofs.lemmas.Cmp.{lists_total, on_total, tied_itself}
use Rattle.std.specs.Cmp.Lexicographic.{slice_cmp}
use Rattle.std.specs.Coded.{Coded, code_by, coded_list, coded_ℕ}
use Rattle.std.specs.FinMap.{IsAntisymmetric, nat_cmp-IsAntisymmetric, slice_cmp-IsAntisymmetric}
use Rattle.std.specs.declared.cmp.Ordering.{Ordering}
use Rattle.std.specs.declared.cmp.Ordering.TheVariants.{Less, Equal, Greater}
use Rattle.hk_state.specs.declared.key.Key.{Key}
use Rattle.hk_state.specs.declared.key.Key.TheVariants.{Account, Install, Definition, State, Emitted, Other}
use Rattle.hk_state.specs.declared.key.StateKey.{StateKey}

-- the place of a key's kind
abbrev pub rank : Key → ℕ
rank (Account id) = 0
rank (Install id position) = 1
rank (Definition hash) = 2
rank (State id namespace key) = 3
rank (Emitted number) = 4
rank (Other bytes) = 5

abbrev pub bytes_cmp : List ℕ → List ℕ → Ordering
bytes_cmp a b = slice_cmp nat_cmp a b

abbrev pub key_cmp : Key → Key → Ordering
key_cmp (Account a) (Account b) = bytes_cmp a.0 b.0
key_cmp (Install a m) (Install b n) = ordering_then (bytes_cmp a.0 b.0) (nat_cmp m n)
key_cmp (Definition a) (Definition b) = bytes_cmp a.0 b.0
key_cmp (State a m j) (State b n k) =
    ordering_then (bytes_cmp a.0 b.0) (ordering_then (bytes_cmp m.0 n.0) (bytes_cmp j.0 k.0))
key_cmp (Emitted m) (Emitted n) = nat_cmp m n
key_cmp (Other a) (Other b) = bytes_cmp a b
key_cmp a b = nat_cmp (rank a) (rank b)

-- whether two keys are one
abbrev pub is_key : Key → Key → Bool
is_key a b = is_eq (key_cmp a b)

-- the key of a State entry
abbrev pub as_key : StateKey → Key
as_key q = State q.owner q.namespace q.key

-- a key as lists of numbers, and back
abbrev pub spell : Key → List (List ℕ)
spell (Account id) = (0 ∷ []) ∷ id.0 ∷ []
spell (Install id position) = (1 ∷ []) ∷ id.0 ∷ (position ∷ []) ∷ []
spell (Definition hash) = (2 ∷ []) ∷ hash.0 ∷ []
spell (State id namespace key) = (3 ∷ []) ∷ id.0 ∷ namespace.0 ∷ key.0 ∷ []
spell (Emitted number) = (4 ∷ []) ∷ (number ∷ []) ∷ []
spell (Other bytes) = (5 ∷ []) ∷ bytes ∷ []

abbrev pub unspell : List (List ℕ) → Key
unspell ((zero ∷ []) ∷ id ∷ rest) = Account (record { 0 = id })
unspell ((suc zero ∷ []) ∷ id ∷ (position ∷ []) ∷ rest) = Install (record { 0 = id }) position
unspell ((suc (suc zero) ∷ []) ∷ hash ∷ rest) = Definition (record { 0 = hash })
unspell ((suc (suc (suc zero)) ∷ []) ∷ id ∷ namespace ∷ key ∷ rest) =
    State (record { 0 = id }) (record { 0 = namespace }) (record { 0 = key })
unspell ((suc (suc (suc (suc zero))) ∷ []) ∷ (number ∷ []) ∷ rest) = Emitted number
unspell ((suc (suc (suc (suc (suc zero)))) ∷ []) ∷ bytes ∷ rest) = Other bytes
unspell parts = Other []

pub unspelled : (key : Key) → unspell (spell key) ≡ key
unspelled (Account id) = refl
unspelled (Install id position) = refl
unspelled (Definition hash) = refl
unspelled (State id namespace key) = refl
unspelled (Emitted number) = refl
unspelled (Other bytes) = refl

abbrev pub coded_key : Coded Key
coded_key = code_by (List (List ℕ)) (coded_list (coded_list coded_ℕ)) spell unspell unspelled

then_equal : (order : Ordering) → ordering_then order Equal ≡ order
then_equal Less = refl
then_equal Equal = refl
then_equal Greater = refl

by_spelling : (a b : Key) → key_cmp a b ≡ slice_cmp (slice_cmp nat_cmp) (spell a) (spell b)
by_spelling (Account a) (Account b) = sym (then_equal (bytes_cmp a.0 b.0))
by_spelling (Install a m) (Install b n) =
    sym
    (ap (ordering_then (bytes_cmp a.0 b.0)) (then_equal (ordering_then (nat_cmp m n) Equal) ∙ then_equal (nat_cmp m n)))
by_spelling (Definition a) (Definition b) = sym (then_equal (bytes_cmp a.0 b.0))
by_spelling (State a m j) (State b n k) =
    sym (ap (λ order. ordering_then (bytes_cmp a.0 b.0) (ordering_then (bytes_cmp m.0 n.0) order))
    (then_equal (bytes_cmp j.0 k.0)))
by_spelling (Emitted m) (Emitted n) = sym (then_equal (ordering_then (nat_cmp m n) Equal) ∙ then_equal (nat_cmp m n))
by_spelling (Other a) (Other b) = sym (then_equal (bytes_cmp a b))
by_spelling a b = refl

-- keys are in one order, and only equal keys tie
pub keys_total : IsTotalOrder key_cmp
keys_total =
    subst IsTotalOrder (λ i. λ a b. sym (by_spelling a b) i) (on_total spell (lists_total (lists_total nat_cmp_total)))

pub exact_keys : IsAntisymmetric key_cmp
exact_keys a b tie =
    sym (unspelled a)
    ∙ ap unspell (slice_cmp-IsAntisymmetric (slice_cmp-IsAntisymmetric nat_cmp-IsAntisymmetric) (spell a) (spell b)
    (sym (by_spelling a b) ∙ tie))
    ∙ unspelled b

pub order_at : (order : Ordering) → is_eq order ≡ true → order ≡ Equal
order_at Less h = cc
order_at Equal h = refl
order_at Greater h = cc

-- a key is itself, and only itself
pub itself : (key : Key) → is_key key key ≡ true
itself key = ap is_eq (tied_itself keys_total key)

pub exact : (a b : Key) → is_key a b ≡ true → a ≡ b
exact a b h = exact_keys a b (order_at (key_cmp a b) h)
