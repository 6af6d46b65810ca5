-- How the hooks of an account, or a callback, end, and what that owes the event. This project's own. `before` are the
-- entries as the event began: Installs and grants are read there.
use Rattle.std.specs.Prelude.{◌≡◌, ℕ, List, [], ◌∷◌}
use Rattle.hk_lines.specs.declared.output_line.OutputLine.{OutputLine}
use Rattle.hk_reading.specs.declared.reading.Reading.{Reading}
use Rattle.hk_state.specs.Entries.{Entries}
use Rattle.hk_draft.specs.Lists.{Each}
use Rattle.hk_draft.specs.Draft.{Draft}
use Rattle.hk_draft.specs.Extends.{Extends, KeepsOthers}
use Rattle.hk_draft.specs.Writers.{IsWriter, HookRan, CallbackRan, IsHook, IsCallback}

-- the draft is kept, or all of it is dropped; the lines of the runs stay
pub data ChainEnd : Type 0 where
  kept : Draft → List OutputLine → ChainEnd
  rejected : List OutputLine → ChainEnd

pub record Chained (reads : List ℕ → Reading) (seq : ℕ) (before : Entries) (a b : Draft) (records : List OutputLine) :
    Type 0 where
  pub extends : Extends reads seq (IsWriter before (HookRan records)) a b
  pub others : KeepsOthers a.entries b.entries
  pub hooks : Each IsHook records

abbrev pub ChainFits : (List ℕ → Reading) → ℕ → Entries → Draft → ChainEnd → Type 0
ChainFits reads seq before a (kept b records) = Chained reads seq before a b records
ChainFits reads seq before a (rejected records) = Each IsHook records

-- at most one line, of a callback
abbrev pub IsOneCallback : List OutputLine → Type 0
IsOneCallback [] = Unit {0}
IsOneCallback (line ∷ []) = IsCallback line
IsOneCallback (line ∷ next ∷ lines) = ⊥

pub record CalledBack (reads : List ℕ → Reading) (seq : ℕ) (before : Entries) (a b : Draft)
    (records : List OutputLine) :
    Type 0 where
  pub extends : Extends reads seq (IsWriter before (CallbackRan records)) a b
  pub others : KeepsOthers a.entries b.entries
  pub one : IsOneCallback records
  pub none : records ≡ [] → b ≡ a

abbrev pub CallbackFits : (List ℕ → Reading) → ℕ → Entries → Draft → ChainEnd → Type 0
CallbackFits reads seq before a (kept b records) = CalledBack reads seq before a b records
CallbackFits reads seq before a (rejected records) = IsOneCallback records
