-- The engine of the program, by its rules for transactions: chains and callbacks are those of the interpreter, code is
-- checked as `check` does it. This project's own.
use Rattle.xo_object.specs.declared.transaction.Transaction.{Transaction}
use Rattle.hk_reading.specs.Reading.{reading}
use Rattle.hk_state.specs.declared.ledger.Header.{Header}
use Rattle.hk_state.specs.Fees.{needed_fee}
use Rattle.hk_state.specs.Reserves.{reserve}
use Rattle.hk_state.specs.Rules.{Rules}
use Rattle.hk_draft.specs.Reads.{reads_emitted}
use Rattle.hk_api_parts.specs.declared.setting.Setting.{Setting}
use Rattle.hk_chain.specs.Chain.{chain_of}
use Rattle.hk_chain.specs.Callback.{callback_of}
use Rattle.hk_events.specs.Engine.{Engine}
use Rattle.hk_items.specs.Checks.{checked_in}

-- what hooks of a transaction run on
abbrev pub setting_of : Header → Transaction → Setting
setting_of header t = record { transaction = t; header = header }

abbrev pub engine_of : Rules → Engine
engine_of rules = record {
  reads = reading;
  reads_emitted = reads_emitted;
  needed_fee = needed_fee;
  reserve = reserve;
  checks = checked_in;
  rules = rules;
  chain = λ header next before t account d. chain_of (setting_of header t) next before account d;
  callback = λ header next before t account hash word d.
      callback_of (setting_of header t) next before account hash word d;
}
