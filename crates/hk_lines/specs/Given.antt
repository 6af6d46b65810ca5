-- What a command gives for bytes of input: the printed text and the status (this project's own).
use Rattle.std.specs.Prelude.{◌≡◌, ℕ, ◌+◌, nat_le, if◌then◌else◌, List, [], ◌∷◌, ◌++◌, length, take, codes, Option}
use Rattle.std.specs.Prelude.{Some, None}
use Rattle.std.specs.Fmt.{decimal}
use Rattle.hk_lines.specs.Cut.{Cut, behind, whole, cut, trim, is_skipped}
use Rattle.hk_lines.specs.Numbers.{longest_line, endless_line}
use Rattle.hk_lines.specs.declared.rule.Rule.{Rule}
use Rattle.hk_lines.specs.declared.rule.Rule.TheVariants.{LineTooLong, BadWord, BadShape, BadOrder, RepeatedAccount}
use Rattle.hk_lines.specs.declared.rule.Rule.TheVariants.{Total, NoEnd}
use Rattle.hk_lines.specs.declared.rule.Rule.TheVariants.{Object, JsonText, JsonKey, JsonValue, JsonDeep}
use Rattle.hk_lines.specs.declared.status.Status.{Status}
use Rattle.hk_lines.specs.declared.status.Status.TheVariants.{BadInput, TooLong}

-- the printed name of a rule
abbrev pub rule_name : Rule → List ℕ
rule_name LineTooLong = codes "line_too_long"
rule_name BadWord = codes "bad_word"
rule_name BadShape = codes "bad_shape"
rule_name BadOrder = codes "bad_order"
rule_name RepeatedAccount = codes "repeated_account"
rule_name Total = codes "total"
rule_name NoEnd = codes "no_end"
rule_name Object = codes "object"
rule_name JsonText = codes "json_text"
rule_name JsonKey = codes "json_key"
rule_name JsonValue = codes "json_value"
rule_name JsonDeep = codes "json_deep"

-- what comes behind the bytes: maybe more, nothing, or so much that it isn't looked at
pub data Close : Type 0 where
  opened : Close
  ended : Close
  full : Close

-- the printed text, and the status unless more input may change it
pub record Given : Type 0 where
  pub text : List ℕ
  pub status : Option Status

-- what is given, behind a text that was printed before
abbrev pub after : List ℕ → Given → Given
after text given = record { text = text ++ given.text; status = given.status }

-- `bad <line> <rule>`
abbrev pub bad_text : ℕ → Rule → List ℕ
bad_text number rule = codes "bad " ++ (decimal number ++ (32 ∷ (rule_name rule ++ 10 ∷ [])))

-- the line with this number breaks a rule
abbrev pub bad : ℕ → Rule → Given
bad number rule = record { text = bad_text number rule; status = Some BadInput }

-- so many bytes were taken that no more are
abbrev pub too_long : Given
too_long = record { text = codes "too long" ++ 10 ∷ []; status = Some TooLong }

-- what a line does: it is right and leaves a state and an output, or it ends the lines with an output and a status, or
-- it is wrong
pub data TurnOf (S O : Type 0) : Type 0 where
  goes : S → O → TurnOf S O
  ends : O → Status → TurnOf S O
  wrong : Rule → TurnOf S O

-- the output of a command is a text
abbrev pub Turn : Type 0 → Type 0
Turn S = TurnOf S (List ℕ)

module _ {S : Type 0} (turn : S → List ℕ → Turn S) where
  -- what a line and those behind it give
  abbrev pub after_turn : Turn S → ℕ → (S → Given) → Given
  after_turn (goes state text) number later = after text (later state)
  after_turn (ends text status) number later = record { text = text; status = Some status }
  after_turn (wrong rule) number later = bad number rule

  -- a line: its length is tested first, then it may be skipped
  abbrev pub given_line : S → ℕ → List ℕ → (S → Given) → Given
  given_line state number line later =
      if nat_le (length line) longest_line then
      (if is_skipped line then later state else after_turn (turn state line) number later)
      else bad number LineTooLong

  -- the bytes behind the last line feed: a line at the end of input, unless there are none; nothing before that
  abbrev pub given_last : S → ℕ → List ℕ → Close → Given
  given_last state number bytes opened = record { text = []; status = None }
  given_last state number bytes full = too_long
  given_last state number [] ended = bad number NoEnd
  given_last state number (byte ∷ bytes) ended =
      given_line state number (trim (byte ∷ bytes)) (λ next. bad (number + 1) NoEnd)

  -- lines from a state and a number on; so many bytes without a line feed are too long a line, whatever comes behind
  -- them
  abbrev pub given_from : S → ℕ → Cut → Close → Given
  given_from state number (whole line more) close =
      given_line state number (trim line) (λ next. given_from next (number + 1) more close)
  given_from state number (behind bytes) close =
      if nat_le endless_line (length bytes) then bad number LineTooLong else given_last state number bytes close

  -- where the limit of the input is reached, nothing behind it is looked at
  abbrev pub close_of : ℕ → List ℕ → Close → Close
  close_of limit bytes close = if nat_le limit (length bytes) then full else close

  -- the bytes up to the limit, from a start
  abbrev pub given : ℕ → S → List ℕ → Close → Given
  given limit start bytes close = given_from start 1 (cut (take limit bytes)) (close_of limit bytes close)

  -- all that the bytes give, with the end of input behind them
  abbrev pub gives : ℕ → S → List ℕ → Given
  gives limit start bytes = given limit start bytes ended

  -- the text that is due before more input comes
  abbrev pub so_far : ℕ → S → List ℕ → List ℕ
  so_far limit start bytes = (given limit start bytes opened).text

-- a text is the front of another
abbrev pub IsFront : List ℕ → List ℕ → Type 0
IsFront front text = (more : List ℕ) × (text ≡ front ++ more)

-- what is due stays due, whatever comes behind the bytes
abbrev pub StaysDue : {S : Type 0} → (S → List ℕ → Turn S) → Type 0
StaysDue {S} turn =
    (limit : ℕ) (start : S) (front back : List ℕ) (close : Close) →
    IsFront (so_far turn limit start front) (given turn limit start (front ++ back) close).text
