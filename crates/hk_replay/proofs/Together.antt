-- Two commands that go together line by line give the same.
use Rattle.std.proofs.Common.{◌≡◌, ℕ, ◌+◌, nat_le, Bool, true, false, if◌then◌else◌, List, [], ◌∷◌, length, take}
use Rattle.std.proofs.Common.{Some, refl, ap, ◌∙◌}
use Rattle.hk_lines.specs.Cut.{Cut, behind, whole, cut, trim, is_skipped}
use Rattle.hk_lines.specs.Given.{Close, opened, ended, full, Given, after, bad, Turn, goes, ends, wrong, after_turn}
use Rattle.hk_lines.specs.Given.{given_line, given_last, given_from, given, close_of}
use Rattle.hk_lines.specs.Numbers.{longest_line, endless_line}
use Rattle.hk_lines.specs.declared.rule.Rule.TheVariants.{LineTooLong, NoEnd}

-- two turns print the same and leave states that go together
abbrev pub SameTurn : {A B : Type 0} → (A → B → Type 0) → Turn A → Turn B → Type 0
SameTurn R (goes a text) (goes b shown) = R a b × (text ≡ shown)
SameTurn R (ends text status) (ends shown answer) = (text ≡ shown) × (status ≡ answer)
SameTurn R (wrong rule) (wrong other) = rule ≡ other
SameTurn R turn other = ⊥

module _ {A B : Type 0} (R : A → B → Type 0) (turn : A → List ℕ → Turn A) (other : B → List ℕ → Turn B)
    (same : (a : A) (b : B) (line : List ℕ) → R a b → SameTurn R (turn a line) (other b line)) where
  same_after : (t : Turn A) (u : Turn B) (number : ℕ) (later : A → Given) (rest : B → Given) →
      ((a : A) (b : B) → R a b → later a ≡ rest b) →
      SameTurn R t u → after_turn turn t number later ≡ after_turn other u number rest
  same_after (goes a text) (goes b shown) number later rest h (r, is) =
      ap (λ t. after t (later a)) is ∙ ap (λ g. after shown g) (h a b r)
  same_after (ends text status) (ends shown answer) number later rest h (is, answers) =
      ap (λ t. record { text = t; status = Some status }) is ∙ ap
      (λ s. record { text = shown; status = Some s }) answers
  same_after (wrong rule) (wrong breaks) number later rest h is = ap (bad number) is
  same_after t u number later rest h never = absurd never

  same_tests : (short skipped : Bool) (a : A) (b : B) (number : ℕ) (line : List ℕ) (later : A → Given)
      (rest : B → Given) →
      ((a : A) (b : B) → R a b → later a ≡ rest b) → R a b →
      (if short then
      (if skipped then later a else after_turn turn (turn a line) number later)
      else bad number LineTooLong)
      ≡ (if short then
      (if skipped then rest b else after_turn other (other b line) number rest)
      else bad number LineTooLong)
  same_tests true true a b number line later rest h r = h a b r
  same_tests true false a b number line later rest h r =
      same_after (turn a line) (other b line) number later rest h (same a b line r)
  same_tests false skipped a b number line later rest h r = refl

  same_line : (a : A) (b : B) (number : ℕ) (line : List ℕ) (later : A → Given) (rest : B → Given) →
      ((a : A) (b : B) → R a b → later a ≡ rest b) → R a b →
      given_line turn a number line later ≡ given_line other b number line rest
  same_line a b number line later rest h r =
      same_tests (nat_le (length line) longest_line) (is_skipped line) a b number line later rest h r

  same_last : (a : A) (b : B) (number : ℕ) (bytes : List ℕ) (close : Close) → R a b →
      given_last turn a number bytes close ≡ given_last other b number bytes close
  same_last a b number bytes opened r = refl
  same_last a b number bytes full r = refl
  same_last a b number [] ended r = refl
  same_last a b number (byte ∷ bytes) ended r =
      same_line a b number (trim (byte ∷ bytes)) (λ next. bad (number + 1) NoEnd) (λ next. bad (number + 1) NoEnd)
      (λ x y s. refl) r

  same_behind : (endless : Bool) (a : A) (b : B) (number : ℕ) (bytes : List ℕ) (close : Close) → R a b →
      (if endless then bad number LineTooLong else given_last turn a number bytes close)
      ≡ (if endless then bad number LineTooLong else given_last other b number bytes close)
  same_behind true a b number bytes close r = refl
  same_behind false a b number bytes close r = same_last a b number bytes close r

  same_from : (c : Cut) (a : A) (b : B) (number : ℕ) (close : Close) → R a b →
      given_from turn a number c close ≡ given_from other b number c close
  same_from (whole line more) a b number close r =
      same_line a b number (trim line) (λ next. given_from turn next (number + 1) more close)
      (λ next. given_from other next (number + 1) more close)
      (λ x y s. same_from more x y (number + 1) close s) r
  same_from (behind bytes) a b number close r =
      same_behind (nat_le endless_line (length bytes)) a b number bytes close r

  pub same_given : (limit : ℕ) (a : A) (b : B) (bytes : List ℕ) (close : Close) → R a b →
      given turn limit a bytes close ≡ given other limit b bytes close
  same_given limit a b bytes close r = same_from (cut (take limit bytes)) a b 1 (close_of turn limit bytes close) r
