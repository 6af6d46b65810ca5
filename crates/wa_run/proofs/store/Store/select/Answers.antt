use Rattle.std.proofs.Common.{◌∷◌, ◌∙◌, ap, refl}
use Rattle.wa_run.proofs.Plain.{select_acts}
use Rattle.wa_run.proofs.store.Store.select.Goals as goal

pub returns-clause-acts : goal.returns-clause-acts
returns-clause-acts g c =
    select_acts c.args.self.now (record c.args.self.now { words = c.push.new.self }) c.pop-condition.result
    c.pop-other.result c.pop-one.result c.pop-one.new.self.items
    (c.pop-condition.ensures.items
    ∙ ap (λ words. c.pop-condition.result ∷ words)
    (c.pop-other.ensures.items ∙ ap (λ words. c.pop-other.result ∷ words) c.pop-one.ensures.items))
    (c.push.ensures.items ∙ ap (λ word. word ∷ c.pop-one.new.self.items) c.chosen.ensures.chosen)
    (record { locals = refl; globals = refl; memory = refl })
