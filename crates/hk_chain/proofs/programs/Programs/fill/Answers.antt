use Rattle.std.proofs.Common.{refl, rules, subst, sym}
use Rattle.std.specs.Prelude.{IsSome}
use Rattle.std.proofs.lemmas.Result.{on_ok_weaker}
use Rattle.hk_state.specs.declared.key.Key.TheVariants as key
use Rattle.hk_chain.proofs.Keeping.{either, filled_of, filled_stays, filled_there, nothing}
use Rattle.hk_chain.proofs.programs.Programs.fill.Goals as goal

pub returns-clause-held : goal.returns-clause-held
returns-clause-held c = λ m defined are.
    filled_of m c.args.self.now c.keep.new.self (key.Definition c.args.hash.now) c.in_ok-checked.checked
    (either c.keep.result c.keep.ensures.ok c.keep.ensures.err)
    (record {
      hash = c.args.hash.now;
      at_hash = refl;
      code = c.args.code.now;
      version = c.args.version;
      defined = defined;
      holds = c.in_ok-checked.ensures.holds;
    }) are

pub returns-clause-stays : goal.returns-clause-stays
returns-clause-stays c =
    filled_stays c.args.self.now c.keep.new.self (key.Definition c.args.hash.now) c.in_ok-checked.checked
    (either c.keep.result c.keep.ensures.ok c.keep.ensures.err)
    (nothing _ c.at.result _ c.at.ensures.found (search rules))

pub returns-clause-there : goal.returns-clause-there
returns-clause-there c =
    on_ok_weaker c.keep.result
    (λ e.
    subst IsSome
    (sym (filled_there c.args.self.now c.keep.new.self (key.Definition c.args.hash.now) c.in_ok-checked.checked e))
    (search rules))
    c.keep.ensures.ok
