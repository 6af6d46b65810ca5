-- What the host rests on. This project's own.
use Rattle.std.specs.Prelude.{ℕ, ◌<◌, ◌^◌, length}
use Rattle.hk_base.specs.declared.ids.AccountId.{AccountId}
use Rattle.xo_list.specs.Value.{HasFields}
use Rattle.hk_state.specs.Entries.{Entries}
use Rattle.hk_state.specs.Fees.{chain_fee}
use Rattle.hk_state.specs.Reserves.{reserve}
use Rattle.hk_api_parts.specs.declared.setting.Setting.{Setting}

-- each account's reserve is a number of 64 bits
abbrev pub ReservesFit : Entries → Type 0
ReservesFit m = (id : AccountId) → reserve m id < 2 ^ 64

-- the fees of an account's hooks are numbers of 62 bits
abbrev pub FeesFit : Entries → Type 0
FeesFit m = (kind : ℕ) (id : AccountId) → chain_fee m kind id < 2 ^ 62

-- the entries as the event began and those so far, and a transaction of bytes that are an object
pub record IsFit (setting : Setting) (before m : Entries) : Type 0 where
  pub reserves : ReservesFit m
  pub fees : FeesFit before
  pub object : HasFields setting.transaction.blob
  pub short : length setting.transaction.blob < 2 ^ 32
  pub burden : setting.transaction.burden < 2 ^ 63
