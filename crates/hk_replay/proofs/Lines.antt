-- The commands that answer their lines one by one.
use Rattle.std.proofs.Common.{◌≡◌, ℕ, List, Option, refl}
use Rattle.hk_json.specs.Turns.{json_turn, unjson_turn}
use Rattle.hk_ledger.specs.Machine as machine
use Rattle.hk_lines.specs.Given.{gives}
use Rattle.hk_lines.specs.Numbers.{longest_input}
use Rattle.hk_lines.specs.declared.status.Status.{Status}
use Rattle.hk_loop.specs.Answers.{Gave}
use Rattle.hk_loop.specs.Through.{Leaves}
use Rattle.hk_replay.specs.declared.command.Command.TheVariants.{Replay, Json, Unjson}
use Rattle.hk_replay.specs.Replaying.{replay_turn}
use Rattle.hk_replay.specs.Moved.{Answered, Stops}
use Rattle.hk_replay.proofs.Stopping.{each_answered, each_stops}

pub replay_answered : (start : machine.State) (bytes : List ℕ) (status : Status) (before now : Option (List ℕ)) →
    start ≡ machine.start →
    Gave (gives replay_turn longest_input start bytes) status before now → Answered Replay bytes status before now
replay_answered =
    each_answered Replay replay_turn machine.start refl (λ bytes text status is ends. (is, ends))
    (λ bytes text close is. is) (λ bytes text is. is) (λ bytes goes. goes)

pub replay_stops : {keeps : machine.State → machine.State → Type 0} {final : machine.State} (start : machine.State)
    (bytes : List ℕ) (status : Status) (left before now : Option (List ℕ)) → start ≡ machine.start →
    Leaves replay_turn keeps longest_input start bytes status final left before now →
    Stops Replay bytes status left before now
replay_stops =
    each_stops Replay replay_turn machine.start refl (λ bytes text status is ends. (is, ends))
    (λ bytes text close is. is) (λ bytes text is. is) (λ bytes goes. goes)

pub json_answered : (bytes : List ℕ) (status : Status) (before now : Option (List ℕ)) →
    Gave (gives json_turn longest_input tt bytes) status before now → Answered Json bytes status before now
json_answered bytes status before now gave =
    each_answered Json json_turn tt refl (λ bytes text status is ends. (is, ends))
    (λ bytes text close is. is) (λ bytes text is. is) (λ bytes goes. goes) tt bytes status before now refl gave

pub json_stops : {keeps : Unit {0} → Unit {0} → Type 0} {final : Unit {0}} (bytes : List ℕ) (status : Status)
    (left before now : Option (List ℕ)) →
    Leaves json_turn keeps longest_input tt bytes status final left before now → Stops Json bytes status left before now
json_stops bytes status left before now leaves =
    each_stops Json json_turn tt refl (λ bytes text status is ends. (is, ends))
    (λ bytes text close is. is) (λ bytes text is. is) (λ bytes goes. goes) tt bytes status left before now refl leaves

pub unjson_answered : (bytes : List ℕ) (status : Status) (before now : Option (List ℕ)) →
    Gave (gives unjson_turn longest_input tt bytes) status before now → Answered Unjson bytes status before now
unjson_answered bytes status before now gave =
    each_answered Unjson unjson_turn tt refl (λ bytes text status is ends. (is, ends))
    (λ bytes text close is. is) (λ bytes text is. is) (λ bytes goes. goes) tt bytes status before now refl gave

pub unjson_stops : {keeps : Unit {0} → Unit {0} → Type 0} {final : Unit {0}} (bytes : List ℕ) (status : Status)
    (left before now : Option (List ℕ)) →
    Leaves unjson_turn keeps longest_input tt bytes status final left before now →
    Stops Unjson bytes status left before now
unjson_stops bytes status left before now leaves =
    each_stops Unjson unjson_turn tt refl (λ bytes text status is ends. (is, ends))
    (λ bytes text close is. is) (λ bytes text is. is) (λ bytes goes. goes) tt bytes status left before now refl leaves
