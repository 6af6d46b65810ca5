-- The forms of lines that are printed (this project's own). Byte 32 is a space, 45 a dash and 10 the line feed.
use Rattle.std.specs.Prelude.{ℕ, List, [], ◌∷◌, ◌++◌, codes, Option, Some, None}
use Rattle.std.specs.Fmt.{decimal, signed_decimal}
use Rattle.hk_base.specs.Hexadecimal.{hex_text}
use Rattle.hk_base.specs.declared.ids.AccountId.{AccountId}
use Rattle.hk_base.specs.declared.ids.Hash256.{Hash256}
use Rattle.hk_base.specs.declared.outcome.Outcome.{Outcome}
use Rattle.hk_base.specs.declared.outcome.Outcome.TheVariants.{Accepted, RolledBack, Returned, Trapped, GuardViolated}
use Rattle.hk_lines.specs.Names.{result_name, settlement_name, trap_name}
use Rattle.hk_lines.specs.declared.output_line.OutputLine.{OutputLine}
use Rattle.hk_lines.specs.declared.output_line.OutputLine.TheVariants.{Run, Ledger, Tx, Settled, Hook, State, Emit}
use Rattle.hk_lines.specs.declared.output_line.OutputLine.TheVariants.{Callback, FinalAccount, FinalInstall, FinalState}
use Rattle.hk_lines.specs.declared.output_line.OutputLine.TheVariants.{FinalQueued, FinalTotal, Done}
use Rattle.hk_lines.specs.declared.result_name.ResultName.{ResultName}

-- the text of an outcome in lower-case hex, or a dash where it is empty
abbrev pub bytes_text : List ℕ → List ℕ
bytes_text [] = 45 ∷ []
bytes_text (byte ∷ bytes) = hex_text (byte ∷ bytes)

-- the name of a result, or a dash
abbrev pub result_text : Option ResultName → List ℕ
result_text (Some result) = result_name result
result_text None = 45 ∷ []

-- a state entry's bytes, or a dash where it is removed
abbrev pub value_text : Option (List ℕ) → List ℕ
value_text (Some value) = hex_text value
value_text None = 45 ∷ []

abbrev pub outcome_text : Outcome → List ℕ
outcome_text (Accepted code text) = codes "accepted " ++ (signed_decimal code ++ (32 ∷ bytes_text text))
outcome_text (RolledBack code text) = codes "rolledback " ++ (signed_decimal code ++ (32 ∷ bytes_text text))
outcome_text (Returned code) = codes "returned " ++ signed_decimal code
outcome_text (Trapped trap) = codes "trapped " ++ trap_name trap
outcome_text (GuardViolated id limit) = codes "guard " ++ (decimal id ++ (32 ∷ decimal limit))

-- an outcome with the instructions that ran and the bound on them
abbrev pub run_text : Outcome → ℕ → ℕ → List ℕ
run_text outcome count bound =
    outcome_text outcome ++ (codes " count " ++ (decimal count ++ (codes " bound " ++ decimal bound)))

-- a state entry's account, namespace and key
abbrev pub entry_text : AccountId → Hash256 → Hash256 → List ℕ
entry_text account namespace key = hex_text account.0 ++ (32 ∷ (hex_text namespace.0 ++ (32 ∷ hex_text key.0)))

-- the text of a line, with its line feed
abbrev pub line_text : OutputLine → List ℕ
line_text (Run outcome count bound) = run_text outcome count bound ++ 10 ∷ []
line_text (Ledger seq) = codes "ledger " ++ (decimal seq ++ 10 ∷ [])
line_text (Tx number result fee) =
    codes "tx " ++ (decimal number ++ (32 ∷ (result_name result ++ (codes " fee " ++ (decimal fee ++ 10 ∷ [])))))
line_text (Settled number word result fee) =
    codes "settled "
    ++ (decimal number ++
    (32 ∷ (settlement_name word ++ (32 ∷ (result_text result ++ (codes " fee " ++ (decimal fee ++ 10 ∷ [])))))))
line_text (Hook account position outcome count bound) =
    codes "hook " ++
    (hex_text account.0 ++ (32 ∷ (decimal position ++ (32 ∷ (run_text outcome count bound ++ 10 ∷ [])))))
line_text (State account namespace key value) =
    codes "state " ++ (entry_text account namespace key ++ (32 ∷ (value_text value ++ 10 ∷ [])))
line_text (Emit number first last) =
    codes "emit " ++
    (decimal number ++ (codes " first " ++ (decimal first ++ (codes " last " ++ (decimal last ++ 10 ∷ [])))))
line_text (Callback account position outcome count bound) =
    codes "callback " ++
    (hex_text account.0 ++ (32 ∷ (decimal position ++ (32 ∷ (run_text outcome count bound ++ 10 ∷ [])))))
line_text (FinalAccount id balance sequence hooks states) =
    codes "final account "
    ++ (hex_text id.0
    ++ (32 ∷
    (decimal balance ++ (32 ∷ (decimal sequence ++ (32 ∷ (decimal hooks ++ (32 ∷ (decimal states ++ 10 ∷ [])))))))))
line_text (FinalInstall account position hash namespace) =
    codes "final install "
    ++ (hex_text account.0 ++
    (32 ∷ (decimal position ++ (32 ∷ (hex_text hash.0 ++ (32 ∷ (hex_text namespace.0 ++ 10 ∷ [])))))))
line_text (FinalState account namespace key value) =
    codes "final state " ++ (entry_text account namespace key ++ (32 ∷ (hex_text value ++ 10 ∷ [])))
line_text (FinalQueued number first last) =
    codes "final queued " ++ (decimal number ++ (32 ∷ (decimal first ++ (32 ∷ (decimal last ++ 10 ∷ [])))))
line_text (FinalTotal balances burnt) =
    codes "final total " ++ (decimal balances ++ (codes " burnt " ++ (decimal burnt ++ 10 ∷ [])))
line_text Done = codes "done" ++ 10 ∷ []

-- the line tells of no run of a hook
abbrev pub IsNoRun : OutputLine → Type 0
IsNoRun (Run outcome count bound) = ⊥
IsNoRun (Hook account position outcome count bound) = ⊥
IsNoRun (Callback account position outcome count bound) = ⊥
IsNoRun line = Unit {0}

-- the line stands at the end
abbrev pub IsFinal : OutputLine → Type 0
IsFinal (FinalAccount id balance sequence hooks states) = Unit {0}
IsFinal (FinalInstall account position hash namespace) = Unit {0}
IsFinal (FinalState account namespace key value) = Unit {0}
IsFinal (FinalQueued number first last) = Unit {0}
IsFinal (FinalTotal balances burnt) = Unit {0}
IsFinal Done = Unit {0}
IsFinal line = ⊥
