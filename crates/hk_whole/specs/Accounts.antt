-- *Accounts of a replay*: what becomes of each emission, on the printed lines alone. This project's own.
use Rattle.std.specs.Prelude.{◌≡◌, ◌↔◌, ℕ, ◌+◌, ◌<◌, ◌≤◌, Bool, true, false, List, [], ◌∷◌, Option, Some, None}
use Rattle.hk_lines.specs.declared.output_line.OutputLine.{OutputLine}
use Rattle.hk_lines.specs.declared.output_line.OutputLine.TheVariants as printed
use Rattle.hk_lines.specs.declared.settlement.Settlement.{Settlement}
use Rattle.hk_lines.specs.declared.settlement.Settlement.TheVariants.{Expired}
use Rattle.hk_draft.specs.Lists.{SomeOf}
use Rattle.hk_events.specs.Lists.{counted}
use Rattle.hk_events.specs.Whole.{is_emit, is_settled}
use Rattle.hk_final.specs.Counted.{is_queued}

-- among these lines the number has an `emit` line with this first and last ledger
abbrev pub IsEmitted : List OutputLine → ℕ → ℕ → ℕ → Type 0
IsEmitted lines number first last = SomeOf (λ line. line ≡ printed.Emit number first last) lines

-- a `settled` line of the number, with this word, stands under the `ledger` line of a sequence number: the first
-- ledger of its `emit` line has come, and the word is `expired` exactly where the last one is over
pub record IsInTime (emits : List OutputLine) (ledger : Option ℕ) (number : ℕ) (word : Settlement) : Type 0 where
  pub seq : ℕ
  pub under : ledger ≡ Some seq
  pub first : ℕ
  pub last : ℕ
  pub emitted : IsEmitted emits number first last
  pub come : first ≤ seq
  pub expired : (word ≡ Expired) ↔ (last < seq)

-- Each `settled` line is in time, and each `final queued` line has the first and last ledger of its `emit` line.
-- Above the lines stand these `emit` lines, and a `ledger` line of that sequence number, where there is one.
abbrev pub AreAsEmitted : List OutputLine → Option ℕ → List OutputLine → Type 0
AreAsEmitted emits ledger [] = Unit {0}
AreAsEmitted emits ledger (printed.Ledger seq ∷ lines) = AreAsEmitted emits (Some seq) lines
AreAsEmitted emits ledger (printed.Emit number first last ∷ lines) =
    AreAsEmitted (printed.Emit number first last ∷ emits) ledger lines
AreAsEmitted emits ledger (printed.Settled number word result fee ∷ lines) =
    IsInTime emits ledger number word × AreAsEmitted emits ledger lines
AreAsEmitted emits ledger (printed.FinalQueued number first last ∷ lines) =
    IsEmitted emits number first last × AreAsEmitted emits ledger lines
AreAsEmitted emits ledger (line ∷ lines) = AreAsEmitted emits ledger lines

-- Behind each `settled` line comes one `callback` line at most: `may` says if it may still come. `hook`, `state` and
-- `emit` lines may stand between; any other line ends the wait.
abbrev pub AreCalled : Bool → List OutputLine → Type 0
AreCalled may [] = Unit {0}
AreCalled may (printed.Settled number word result fee ∷ lines) = AreCalled true lines
AreCalled may (printed.Callback account position outcome count bound ∷ lines) = (may ≡ true) × AreCalled false lines
AreCalled may (printed.Hook account position outcome count bound ∷ lines) = AreCalled may lines
AreCalled may (printed.State account namespace k value ∷ lines) = AreCalled may lines
AreCalled may (printed.Emit number first last ∷ lines) = AreCalled may lines
AreCalled may (line ∷ lines) = AreCalled false lines

pub record Accounts (shown : List OutputLine) : Type 0 where
  -- no number stands in two `emit` lines
  pub once : (n : ℕ) → counted (is_emit n) shown ≤ 1
  -- a number of an `emit` line stands in one line among `settled` and `final queued`, and no other number stands there
  pub closed : (n : ℕ) → counted (is_settled n) shown + counted (is_queued n) shown ≡ counted (is_emit n) shown
  -- each `settled` line stands below its `emit` line, under the `ledger` line of a ledger from the first on, and says
  -- `expired` exactly where the last is over; each `final queued` line says what its `emit` line says
  pub as_emitted : AreAsEmitted [] None shown
  -- at most one `callback` line stands between a `settled` line and the next `settled`, `tx`, `ledger` or `final`
  -- line, and none stands elsewhere
  pub called : AreCalled false shown
