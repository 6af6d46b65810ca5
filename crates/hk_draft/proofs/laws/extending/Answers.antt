use Rattle.hk_draft.proofs.Extended.{extends_itself, extends_further, extends_state, extends_emission, extends_weaker}
use Rattle.hk_draft.specs.Writers.{MayWriteBy, IsWriter, HookRan}
use Rattle.hk_draft.proofs.laws.extending.Goals as goal

pub returns : goal.returns
returns c = record {
  steps = λ reads seq m hash account. record {
    itself = extends_itself reads seq (MayWriteBy m hash account);
    further = extends_further reads seq (MayWriteBy m hash account);
    state = extends_state reads seq (MayWriteBy m hash account);
    emission = extends_emission reads seq (MayWriteBy m hash account);
  };
  chain = λ reads seq m hash account position records a b ran at.
      extends_weaker reads seq (MayWriteBy m hash account) (IsWriter m (HookRan records))
      (λ q may. record { account = account; position = position; ran = ran; hash = hash; at = at; may = may }) a b;
}
