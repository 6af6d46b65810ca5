-- How many entries an account has of a kind, by a walk over them.
use Rattle.std.proofs.Common.{◌≡◌, ◌∙◌, ◌+◌, sym, ap, arith, Bool, true, if◌then◌else◌, List, [], ◌∷◌, length}
use Rattle.std.specs.FinMap.{entries}
use Rattle.hk_state.specs.declared.entry.Entry.{Entry}
use Rattle.hk_state.specs.declared.key.Key.{Key}
use Rattle.hk_state.specs.Entries.{Entries}
use Rattle.hk_state.specs.Least.{is_from}
use Rattle.hk_state.specs.Reserves.{is_own}
use Rattle.hk_state.proofs.Owned.{inside, together}
use Rattle.hk_state.proofs.Walks.{passing, run, own_in}
use Rattle.hk_final.specs.Final.{number_of}

-- a walk from a first key on, as long as keys are its own, comes to all of its own
pub all_own : (m : Entries) (start : Key) →
    length (run (is_own start) (passing (is_from start) (entries m))) ≡ number_of start m
all_own m start = ap length (sym (own_in (is_own start) (is_from start) (inside start) (together start) m))

pub one_more : (own : Key → Bool) (k : Key) (e : Entry) (es : List (Key × Entry)) → own k ≡ true →
    length (run own ((k, e) ∷ es)) ≡ length (run own es) + 1
one_more own k e es is = ap (λ b. length (if b then (k, e) ∷ run own es else [])) is ∙ omega arith
