use Rattle.std.proofs.Common.{refl, rules, ap, ◌∙◌}
use Rattle.std.specs.Int.{cast_unsigned, w64}
use Rattle.std.proofs.lemmas.Int.{to_z-of_z}
use Rattle.wa_run.proofs.Plain.{constant64_acts}
use Rattle.wa_run.proofs.store.Store.constant64.Goals as goal

pub returns-clause-acts : goal.returns-clause-acts
returns-clause-acts g c =
    constant64_acts c.args.number c.args.self.now (record c.args.self.now { words = c.push.new.self })
    c.cast_unsigned.result
    (c.cast_unsigned.ensures ∙ ap (cast_unsigned w64) (to_z-of_z w64 c.args.number (search rules))) (search rules)
    c.push.ensures.items
    (record { locals = refl; globals = refl; memory = refl })
