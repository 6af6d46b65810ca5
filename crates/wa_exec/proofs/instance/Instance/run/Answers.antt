use Rattle.std.proofs.Common.{◌∙◌, ap, sym}
use Rattle.std.specs.Prelude.{is_some}
use Rattle.std.proofs.lemmas.Result.{IfOk-weaker}
use Rattle.hk_bound.specs.Checks.{entry_in}
use Rattle.hk_rules.specs.declared.guards.Guards.{Guards}
use Rattle.wa_exec.proofs.Making.{entry_within, read, can_read, run_read, count_read}
use Rattle.wa_exec.proofs.Ready.{running, made_body}
use Rattle.wa_exec.specs.Made.{Made}
use Rattle.wa_machine.specs.Starts.{meaning_of}
use Rattle.wa_exec.proofs.instance.Instance.run.Goals as goal

pub entry_of-entry-requires : goal.entry_of-entry-requires
entry_of-entry-requires g c =
    let i = c.requires.made.2 in
    record {
      there =
          ap is_some
          (ap (λ (m : Made). entry_in m.which c.args.checked.now) c.self.view_is
          ∙ ap (λ w. entry_in w c.args.checked.now) i.which_is
          ∙ i.entry_is);
    }

pub bounds-as_slice-entry : goal.bounds-as_slice-entry
bounds-as_slice-entry g c =
    entry_within c.args.checked.now c.requires.made.0 c.requires.made.1 c.args.self c.module.result.now
    c.as_slice.result.now c.entry_of-entry.result.now c.module.ensures.held c.requires.made.2
    (ap (λ (m : Made). entry_in m.which c.args.checked.now) (sym c.self.view_is) ∙ c.entry_of-entry.ensures.entry)
    c.module.ensures.is c.as_slice.ensures.items

pub returns-clause-within : goal.returns-clause-within
returns-clause-within g c = c.runs_within.ensures.law c.args.checked.now c.module.ensures.held

pub run-requires : goal.run-requires
run-requires g c =
    let i = c.requires.made.2 in
    record {
      can = (
        running c.args.checked.now.wasm i.entry.function
            (made_body c.args.checked.now c.requires.made.0 c.requires.made.1 c.args.self c.module.ensures.held i).tree
            c.requires.made.1,
        can_read c.args.checked.now c.requires.made.0 c.requires.made.1 c.args.self c.as_slice-2.result.now
            c.as_slice-3.result.now c.as_slice-calls.result.now c.self.inside.run c.module.ensures.held i
            (read c.args.checked.now c.requires.made.0 c.requires.made.1 c.args.self c.module.result.now
            c.as_slice.result.now c.index-as_slice-entry.result c.entry_of-entry.result.now c.as_slice-2.result.now
            c.as_slice-3.result.now c.as_slice-calls.result.now c.self.inside.run c.module.ensures.held i
            (ap (λ (m : Made). entry_in m.which c.args.checked.now) (sym c.self.view_is)
            ∙ c.entry_of-entry.ensures.entry) c.module.ensures.is c.as_slice.ensures.items c.index-as_slice-entry.is
            c.as_slice-2.ensures.items c.as_slice-3.ensures.items
            (c.as_slice-calls.ensures.items ∙ ap (λ (gs : Guards). gs.imports) c.guards.ensures.guards)
            (sym (ap (λ (m : Made). m.ready) c.self.view_is))),
      );
    }

pub returns-clause-ends : goal.returns-clause-ends
returns-clause-ends g c =
    IfOk-weaker c.run.result _ _
    (λ ended e. λ which argument i.
    run_read c.args.checked.now which argument c.args.self c.as_slice-2.result.now c.as_slice-3.result.now
    c.as_slice-calls.result.now c.self.inside.run
    (meaning_of g.H.Host.answer g.H.Host.memory_after g.H.Host.state_after) c.args.host.now ended.count ended.outcome
    c.run.new.host c.module.ensures.held i
    (read c.args.checked.now which argument c.args.self c.module.result.now c.as_slice.result.now
    c.index-as_slice-entry.result c.entry_of-entry.result.now c.as_slice-2.result.now c.as_slice-3.result.now
    c.as_slice-calls.result.now c.self.inside.run c.module.ensures.held i
    (ap (λ (m : Made). entry_in m.which c.args.checked.now) (sym c.self.view_is) ∙ c.entry_of-entry.ensures.entry)
    c.module.ensures.is c.as_slice.ensures.items c.index-as_slice-entry.is c.as_slice-2.ensures.items
    c.as_slice-3.ensures.items
    (c.as_slice-calls.ensures.items ∙ ap (λ (gs : Guards). gs.imports) c.guards.ensures.guards)
    (sym (ap (λ (m : Made). m.ready) c.self.view_is)))
    e)
    c.run.ensures.ends

pub returns-clause-count : goal.returns-clause-count
returns-clause-count g c =
    IfOk-weaker c.run.result _ _
    (λ ended e. λ which argument n i f.
    count_read c.args.checked.now which argument c.args.self c.as_slice-2.result.now c.as_slice-3.result.now
    c.as_slice-calls.result.now c.self.inside.run
    (meaning_of g.H.Host.answer g.H.Host.memory_after g.H.Host.state_after) c.args.host.now ended.count n ended.outcome
    c.run.new.host c.module.ensures.held i
    (read c.args.checked.now which argument c.args.self c.module.result.now c.as_slice.result.now
    c.index-as_slice-entry.result c.entry_of-entry.result.now c.as_slice-2.result.now c.as_slice-3.result.now
    c.as_slice-calls.result.now c.self.inside.run c.module.ensures.held i
    (ap (λ (m : Made). entry_in m.which c.args.checked.now) (sym c.self.view_is) ∙ c.entry_of-entry.ensures.entry)
    c.module.ensures.is c.as_slice.ensures.items c.index-as_slice-entry.is c.as_slice-2.ensures.items
    c.as_slice-3.ensures.items
    (c.as_slice-calls.ensures.items ∙ ap (λ (gs : Guards). gs.imports) c.guards.ensures.guards)
    (sym (ap (λ (m : Made). m.ready) c.self.view_is)))
    e f)
    c.run.ensures.ends
