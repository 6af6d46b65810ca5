-- Each rule by its place in the list of rules: here alone is a rule cited by its place.
use Rattle.wa_ops.specs.declared.modules.Module.{Module}
use Rattle.wa_ops.specs.HookRules.{IsRuled, KeepsRules}

pub rules_by_name : (m : Module) → IsRuled m → KeepsRules m
rules_by_name m kept = record {
  float_types = λ i. kept.0 i 0;
  float_globals = λ i. kept.1.0 i 0;
  float_locals = λ i. kept.1.1.0 i 0;
  float_code = kept.1.1.1.0;
  imports = λ i. kept.1.1.1.1.0 i 0;
  types = λ i. kept.1.1.1.1.1.0 i 0;
  functions = λ i. kept.1.1.1.1.1.1.0 i 0;
  tables = kept.1.1.1.1.1.1.1.0 0 0;
  memories = kept.1.1.1.1.1.1.1.1.0 0 0;
  globals = λ i. kept.1.1.1.1.1.1.1.1.1.0 i 0;
  exports = kept.1.1.1.1.1.1.1.1.1.1.0 0 0;
  start = kept.1.1.1.1.1.1.1.1.1.1.1.0 0 0;
  elements = kept.1.1.1.1.1.1.1.1.1.1.1.1.0 0 0;
  segments = λ i. kept.1.1.1.1.1.1.1.1.1.1.1.1.1.0 i 0;
  locals = λ i. kept.1.1.1.1.1.1.1.1.1.1.1.1.1.1.0 i 0;
  indirect_calls = kept.1.1.1.1.1.1.1.1.1.1.1.1.1.1.1.0;
  growth = kept.1.1.1.1.1.1.1.1.1.1.1.1.1.1.1.1.0;
  own_calls = kept.1.1.1.1.1.1.1.1.1.1.1.1.1.1.1.1.1.0;
  guard_constants = kept.1.1.1.1.1.1.1.1.1.1.1.1.1.1.1.1.1.1.0;
  loop_guards = kept.1.1.1.1.1.1.1.1.1.1.1.1.1.1.1.1.1.1.1.0;
}
