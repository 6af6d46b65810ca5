-- What a run owes the event, by its hook's own grounds.
use Rattle.std.proofs.Common.{◌≡◌, sym, ap, subst, Some}
use Rattle.std.specs.FinMap.{get}
use Rattle.hk_base.specs.declared.ids.Hash256.{Hash256}
use Rattle.hk_state.specs.declared.key.Key.TheVariants as key
use Rattle.hk_draft.specs.Draft.{Draft}
use Rattle.hk_draft.specs.Extends.{Extends, KeepsOthers}
use Rattle.hk_draft.specs.Reads.{reads_emitted}
use Rattle.hk_draft.specs.Writers.{MayWriteBy, hash_of}
use Rattle.hk_api.specs.Leads.{Leads, CallsLead}
use Rattle.hk_chain.specs.declared.work.HookRun.{HookRun}
use Rattle.hk_chain.specs.Plays.{Passing}
use Rattle.hk_chain.proofs.Leading.{code_leads}
use Rattle.hk_chain.proofs.Turns.{Start, started, RanBy}

-- the draft goes on by what the hook of the Install there may write
pub record RunFits (x : Start) (b : Draft) : Type 0 where
  pub hash : Hash256
  pub at : hash_of (get x.before (key.Install x.account x.position)) ≡ Some hash
  pub extends : Extends reads_emitted x.setting.header.seq (MayWriteBy x.before hash x.account) x.from.draft b
  pub others : KeepsOthers x.from.draft.entries b.entries

pub run_fits : CallsLead → (x : Start) (t : Passing) (ran : HookRun) → RanBy x t ran → RunFits x t.draft
run_fits lead x t ran r =
    let first = started x r.hook in
    let l : Leads first r.ending.host =
    code_leads lead first r.hook.version r.hook.code x.which x.argument r.ending r.runs in
    let Grounds = MayWriteBy x.before r.hook.hash x.account in
    record {
      hash = r.hook.hash;
      at = ap hash_of r.hook.at;
      extends = subst (λ p. Extends reads_emitted x.setting.header.seq Grounds x.from.draft p.draft) (sym r.left)
          l.extends;
      others = subst (λ p. KeepsOthers x.from.draft.entries p.draft.entries) (sym r.left) l.others;
    }
