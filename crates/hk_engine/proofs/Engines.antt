-- The engine's parts keep what events ask of them.
use Rattle.std.proofs.Common.{ℕ, ◌+◌, ◌≤◌, arith}
use Rattle.hk_reading.specs.Laws.{ReadsSo, TransactionsFound}
use Rattle.hk_state.specs.Fees.{chain_fee, destination_fee, code_fee}
use Rattle.hk_state.specs.Reserves.{reserve}
use Rattle.hk_chain.specs.Callback.{callback_of}
use Rattle.hk_chain.specs.Chain.{chain_of}
use Rattle.hk_chain.specs.Laws.{ChainsFit, CallbacksFit}
use Rattle.hk_events.specs.Complete.{TransactionsFit}
use Rattle.hk_events.specs.Limits.{RestsOnOwn}
use Rattle.hk_engine.specs.Engine.{setting_of}
use Rattle.hk_engine.specs.Laws.{EnginesLawful, EnginesCareful, EnginesMeasured}
use Rattle.hk_engine.proofs.Ran.{chain_keeps, callback_keeps, sizes_fit, limits_fit}
use Rattle.hk_engine.proofs.Read.{sent_fits, emitted_fits}

some_fee : (own other code : ℕ) → 1 ≤ 10 + own + other + code
some_fee own other code = omega arith

pub engines_lawful : ChainsFit → CallbacksFit → EnginesLawful
engines_lawful chain callback rules sums others accounts = record {
  chains = λ header next before t account a. chain (setting_of header t) _ before account a;
  callbacks = λ header next before t account hash word a.
      callback (setting_of header t) _ before account hash word a;
  sums = sums;
  others = others;
  accounts = accounts;
  fees = λ m t. some_fee (chain_fee m t.kind t.account) (destination_fee m t t.destination) (code_fee t.hooks);
}

pub engines_careful : TransactionsFit → ReadsSo → TransactionsFound → EnginesCareful
engines_careful fit so found rules = record {
  reads = λ blob. sent_fits fit blob so;
  reads_emitted = λ blob. emitted_fits fit blob found;
  chains = λ header next before t account a.
      sizes_fit _ a (chain_of (setting_of header t) _ before account a)
      (chain_keeps (setting_of header t) _ before account a);
  callbacks = λ header next before t account hash word a.
      sizes_fit _ a (callback_of (setting_of header t) _ before account hash word a)
      (callback_keeps (setting_of header t) _ before account a hash word);
}

pub engines_measured : RestsOnOwn reserve → EnginesMeasured
engines_measured rests rules = record {
  reserves = rests;
  chains = λ header next before t account a.
      limits_fit next a (chain_of (setting_of header t) next before account a)
      (chain_keeps (setting_of header t) next before account a);
  callbacks = λ header next before t account hash word a.
      limits_fit next a (callback_of (setting_of header t) next before account hash word a)
      (callback_keeps (setting_of header t) next before account a hash word);
}
