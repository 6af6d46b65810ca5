-- The labels of a `br_table`, word by word.
use Rattle.std.proofs.Common.{◌≡◌, ℕ, ◌<◌, List, [], ◌∷◌, ◌++◌, length, Option, Some, None, option_map, refl, sym, ap}
use Rattle.std.proofs.Common.{append_assoc, append-nil, arith}
use Rattle.wa_text.specs.Instructions.{labels_of}
use Rattle.wa_text.specs.Numbers.{word_of}

-- labels in front of those that are read
abbrev pub behind : List ℕ → Option (List ℕ × ℕ) → Option (List ℕ × ℕ)
behind labels read = option_map (λ t. (labels ++ t.0, t.1)) read

pub behind_nothing : (read : Option (List ℕ × ℕ)) → behind [] read ≡ read
behind_nothing None = refl
behind_nothing (Some t) = refl

one_more : (labels : List ℕ) (n : ℕ) (read : Option (List ℕ × ℕ)) →
    behind labels (option_map (λ t. (n ∷ t.0, t.1)) read) ≡ behind (labels ++ n ∷ []) read
one_more labels n None = refl
one_more labels n (Some t) = ap (λ l. Some (l, t.1)) (sym (append_assoc labels (n ∷ []) t.0))

-- a word that is a label, and words behind it
pub goes_on : (labels : List ℕ) (word : List ℕ) (words : List (List ℕ)) (n : ℕ) → 0 < length words →
    Some n ≡ word_of word →
    behind (labels ++ n ∷ []) (labels_of words) ≡ behind labels (labels_of (word ∷ words))
goes_on labels word [] n some e = absurd (omega (arith, some))
goes_on labels word (other ∷ words) n some e = rw (sym e) (sym (one_more labels n (labels_of (other ∷ words))))

-- the last word
pub ends : (labels : List ℕ) (word : List ℕ) (n : ℕ) → Some n ≡ word_of word →
    Some (labels, n) ≡ behind labels (labels_of (word ∷ []))
ends labels word n e = rw (sym e, append-nil) refl

-- a word that is none
pub stops : (labels : List ℕ) (word : List ℕ) (words : List (List ℕ)) → None ≡ word_of word →
    None ≡ behind labels (labels_of (word ∷ words))
stops labels word [] e = rw (sym e) refl
stops labels word (other ∷ words) e = rw (sym e) refl
