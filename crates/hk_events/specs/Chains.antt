-- The chains of both sides of a transaction. This project's own.
use Rattle.std.specs.Prelude.{List, [], ◌∷◌, ◌++◌, Option, Some, None, if◌then◌else◌}
use Rattle.std.specs.Str.{bytes_eq}
use Rattle.hk_base.specs.declared.ids.AccountId.{AccountId}
use Rattle.xo_object.specs.declared.transaction.Transaction.{Transaction}
use Rattle.hk_lines.specs.declared.output_line.OutputLine.{OutputLine}
use Rattle.hk_draft.specs.Draft.{Draft}
use Rattle.hk_draft.specs.Ends.{ChainEnd, kept, rejected}

-- a destination other than the account
abbrev pub other_side : AccountId → Option AccountId → List AccountId
other_side account None = []
other_side account (Some to) = if bytes_eq to.0 account.0 then [] else to ∷ []

-- the accounts whose hooks run, in order
abbrev pub sides : Transaction → List AccountId
sides t = t.account ∷ other_side t.account t.destination

-- with lines of earlier runs
abbrev pub behind : List OutputLine → ChainEnd → ChainEnd
behind records (kept d more) = kept d (records ++ more)
behind records (rejected more) = rejected (records ++ more)

abbrev pub onward : ChainEnd → (Draft → ChainEnd) → ChainEnd
onward (kept d records) later = behind records (later d)
onward (rejected records) later = rejected records

-- the chain of each account, from what the one before left; the first that is rejected ends them
abbrev pub chains : (AccountId → Draft → ChainEnd) → List AccountId → Draft → ChainEnd
chains chain [] d = kept d []
chains chain (account ∷ accounts) d = onward (chain account d) (chains chain accounts)
