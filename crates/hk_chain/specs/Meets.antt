-- What the code's answers say by the definitions (this project's own).
use Rattle.std.specs.Prelude.{◌≡◌}
use Rattle.hk_state.specs.Entries.{Entries}
use Rattle.hk_state.specs.Writes.{with_writes}
use Rattle.hk_draft.specs.Drafted.{draft_of}
use Rattle.hk_draft.specs.Ends as ends
use Rattle.hk_draft.specs.Ends.{ChainEnd}
use Rattle.hk_api_parts.specs.declared.setting.Setting.{Setting}
use Rattle.hk_api.specs.Fits.{IsFit}
use Rattle.hk_chain.specs.declared.work.Work.{Work}
use Rattle.hk_chain.specs.declared.work.Played.{Played}
use Rattle.hk_chain.specs.declared.work.Played.TheVariants as played
use Rattle.hk_chain.specs.declared.ending.ChainEnd as declared
use Rattle.hk_chain.specs.declared.ending.ChainEnd.TheVariants as found
use Rattle.hk_chain.specs.Plays.{Passing, Play, idle, plays}

-- what is at work, as it passes from hook to hook
abbrev pub passing : Entries → Work → Passing
passing m work = record { draft = draft_of m work.overlay work.emissions; chain = work.chain }

abbrev pub WorkFits : Setting → Entries → Work → Type 0
WorkFits setting m work = IsFit setting m (with_writes m work.overlay)

-- an answer is this play from there
abbrev pub IsPlay : Entries → Passing → Play → Played → Type 0
IsPlay m s idle (played.Idle work) = passing m work ≡ s
IsPlay m s (plays t ran) (played.Ran work run) = (passing m work ≡ t) × (run ≡ ran)
IsPlay m s play answer = ⊥

abbrev pub PlayedFits : Setting → Entries → Played → Type 0
PlayedFits setting m (played.Idle work) = WorkFits setting m work
PlayedFits setting m (played.Ran work run) = WorkFits setting m work

-- an answer is this end
abbrev pub EndMeans : Entries → ChainEnd → declared.ChainEnd → Type 0
EndMeans m (ends.kept d records) (found.Kept overlay emissions lines) =
    (draft_of m overlay emissions ≡ d) × (lines ≡ records)
EndMeans m (ends.rejected records) (found.Rejected lines) = lines ≡ records
EndMeans m end answer = ⊥
