-- What the command `demo` tells of its replay (this project's own).
use Rattle.std.specs.Prelude.{ℕ, ◌+◌, nat_lt, if◌then◌else◌, List, [], ◌∷◌, ◌++◌, codes, Option, Some, None, refl}
use Rattle.std.specs.Coded.{Coded, code_by, coded×, coded_option}
use Rattle.std.specs.Fmt.{decimal}
use Rattle.hk_lines.specs.declared.input_line.InputLine.{InputLine}
use Rattle.hk_lines.specs.declared.output_line.OutputLine.{OutputLine}
use Rattle.hk_lines.specs.declared.output_line.OutputLine.TheVariants.{Tx, FinalTotal}
use Rattle.hk_lines.specs.declared.result_name.ResultName.{ResultName}
use Rattle.hk_lines.specs.declared.result_name.ResultName.TheVariants.{Success, HookRejected}
use Rattle.hk_state.specs.Native.{native}
use Rattle.hk_ledger.specs.Machine.{State, coded_state, start, Step, goes, ends, breaks, step}
use Rattle.hk_demo.specs.declared.summary.Summary.{Summary}
use Rattle.hk_demo.specs.contracts.summary.Summary as made
use Rattle.hk_demo.specs.DemoLines.{demo_lines}

abbrev pub none : Summary
none = record { success = 0; hook_rejected = 0; other = 0; burnt = 0 }

-- a Payment more with this result
abbrev pub counted : Summary → ResultName → Summary
counted t Success = record t { success = t.success + 1 }
counted t HookRejected = record t { hook_rejected = t.hook_rejected + 1 }
counted t result = record t { other = t.other + 1 }

-- the Payments are the transactions behind the first two
abbrev pub told : Summary → OutputLine → Summary
told t (Tx number result fee) = if nat_lt 2 number then counted t result else t
told t (FinalTotal balances burnt) = record t { burnt = burnt }
told t line = t

abbrev pub told_all : Summary → List OutputLine → Summary
told_all t [] = t
told_all t (line ∷ lines) = told_all (told t line) lines

-- the machine, which is gone after the last line or a line that breaks a rule, and what its printed lines told
pub record Played : Type 0 where
  pub machine : Option State
  pub told : Summary

abbrev pub coded_played : Coded Played
coded_played =
    code_by (Option State × Summary) (coded× (coded_option coded_state) made.the_row.coded) (λ p. (p.machine, p.told))
    (λ p. record { machine = p.0; told = p.1 }) (λ _. refl)

abbrev pub shown : Summary → Step → Played
shown t (goes s lines) = record { machine = Some s; told = told_all t lines }
shown t (ends lines) = record { machine = None; told = told_all t lines }
shown t (breaks rule) = record { machine = None; told = t }

abbrev pub played : Option State → Summary → InputLine → Played
played (Some s) t line = shown t (step native s line)
played None t line = record { machine = None; told = t }

-- a line, under the rules for native payments
abbrev pub play : Played → InputLine → Played
play p line = played p.machine p.told line

abbrev pub plays : Played → List InputLine → Played
plays p [] = p
plays p (line ∷ lines) = plays (play p line) lines

abbrev pub begun : Played
begun = record { machine = Some start; told = none }

-- the summary of the demo of n Payments
abbrev pub summary : ℕ → Summary
summary n = (plays begun (demo_lines n)).told

abbrev pub summary_text : ℕ → Summary → List ℕ
summary_text n t =
    codes "demo "
    ++ (decimal n
    ++ (codes " success "
    ++ (decimal t.success
    ++ (codes " hook_rejected "
    ++ (decimal t.hook_rejected
    ++ (codes " other " ++ (decimal t.other ++ (codes " burnt " ++ (decimal t.burnt ++ 10 ∷ [])))))))))

-- the line that the command prints
abbrev pub demo_line : ℕ → List ℕ
demo_line n = summary_text n (summary n)
