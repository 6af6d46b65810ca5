use Rattle.std.proofs.Common.{refl, rules, ap, ◌∙◌}
use Rattle.std.specs.Int.{cast_unsigned, w32}
use Rattle.std.proofs.lemmas.Int.{to_z-of_z}
use Rattle.wa_run.proofs.Plain.{constant32_acts}
use Rattle.wa_run.proofs.store.Store.constant32.Goals as goal

pub returns-clause-acts : goal.returns-clause-acts
returns-clause-acts g c =
    constant32_acts c.args.number c.args.self.now (record c.args.self.now { words = c.push.new.self }) c.from.result
    (c.from.ensures ∙ c.cast_unsigned.ensures ∙ ap (cast_unsigned w32) (to_z-of_z w32 c.args.number (search rules)))
    (search rules) c.push.ensures.items
    (record { locals = refl; globals = refl; memory = refl })
