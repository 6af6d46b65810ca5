-- A line that was read opens no account with more drops than there can be.
use Rattle.std.proofs.Common.{◌≡◌, ℕ, ◌⊎◌, inl, inr, Bool, true, false, List, length, Result, Ok, Err, IfOk, refl}
use Rattle.std.proofs.Common.{subst, sym, if◌then◌else◌, nat_le}
use Rattle.hk_lines.specs.declared.input_line.InputLine.{InputLine}
use Rattle.hk_lines.specs.declared.input_line.InputLine.TheVariants.{Account, Ledger, Tx, Hook, End}
use Rattle.hk_lines.specs.declared.line_fault.LineFault.{LineFault}
use Rattle.hk_lines.specs.declared.line_fault.LineFault.TheVariants.{TooLong, NoMemory}
use Rattle.hk_lines.specs.InputForms.{words_read}
use Rattle.hk_lines.specs.Numbers.{longest_line}
use Rattle.hk_lines.specs.Words.{words_of}
use Rattle.hk_lines.specs.Spelling.{ReadsSpelled, Spells}
use Rattle.hk_ledger.specs.Machine.{IsInRange}
use Rattle.hk_lines.specs.Taken.{read_if}

spelled_range : (line : InputLine) (words : List (List ℕ)) → Spells line words → IsInRange line
spelled_range (Account id balance sequence) words s = s.3
spelled_range (Ledger seq time last_hash) words s = tt
spelled_range (Tx verdict blob) words s = tt
spelled_range (Hook code) words s = tt
spelled_range End words s = tt

words_range : ReadsSpelled → (words : List (List ℕ)) (r : Result InputLine LineFault) → words_read words ≡ r →
    IfOk r (λ line. IsInRange line)
words_range law words (Ok line) is = spelled_range line words ((law words line).0 is)
words_range law words (Err fault) is = tt

length_range : ReadsSpelled → (line : List ℕ) (fits : Bool) →
    IfOk (if fits then words_read (words_of line) else Err TooLong) (λ l. IsInRange l)
length_range law line true = words_range law (words_of line) (words_read (words_of line)) refl
length_range law line false = tt

taken_range : ReadsSpelled → (taken : Bool) (line : List ℕ) → IfOk (read_if taken line) (λ l. IsInRange l)
taken_range law true line = length_range law line (nat_le (length line) longest_line)
taken_range law false line = tt

pub range : ReadsSpelled → (taken : Bool) (line : List ℕ) (r : Result InputLine LineFault) →
    (r ≡ read_if taken line) ⊎ (r ≡ Err NoMemory) → IfOk r (λ l. IsInRange l)
range law taken line r (inl is) = subst (λ x. IfOk x (λ l. IsInRange l)) (sym is) (taken_range law taken line)
range law taken line r (inr is) = subst (λ x. IfOk x (λ l. IsInRange l)) (sym is) tt
