use Rattle.std.proofs.Common.{◌≤◌, ◌∙◌, ap, ap₂, refl, sym, subst, arith}
use Rattle.wa_exec.proofs.Entries.{entry_there}
use Rattle.wa_exec.proofs.Making.{few_pages}
use Rattle.wa_machine.specs.Starts.{first_memory, pages_of}
use Rattle.wa_ops.specs.Soundness.{Each}
use Rattle.wa_ops.specs.declared.modules.Module.{Module}
use Rattle.wa_run.specs.Starts.{HasWidth, first_globals}
use Rattle.wa_exec.proofs.instance.Instance.new.Goals as goal

pub entry_of-entry-requires : goal.entry_of-entry-requires
entry_of-entry-requires c = record {
  there =
      entry_there c.args.checked.now.version c.module-module.ensures.held.code c.args.checked.now c.args.which
      c.bound_of-bound.result c.module-module.ensures.held.holds c.bound_of-bound.ensures.bound;
}

pub new-requires : goal.new-requires
new-requires c = record {
  pages =
      subst (λ n. n ≤ 16) (sym (c.pages_of.ensures.pages
      ∙ ap pages_of (c.as_slice-2.ensures.items ∙ ap (λ (w : Module). w.memories) c.module-module.ensures.is)))
      (few_pages c.args.checked.now c.module-module.ensures.held);
}

pub returns : goal.returns
returns c = record {
  made = record {
    entry = c.entry_of-entry.result.now;
    bound = c.bound_of-bound.result;
    which_is = refl;
    entry_is = c.entry_of-entry.ensures.entry;
    bounded = c.bound_of-bound.ensures.bound;
    argument_fits = c.ranges.argument.fits;
    locals = c.in_ok-run.ensures.locals;
    globals =
        c.in_ok-run.ensures.globals
        ∙ ap first_globals (c.as_slice.ensures.items ∙ ap (λ (w : Module). w.globals) c.module-module.ensures.is);
    globals_fit =
        subst (Each (λ global. HasWidth global.init))
        (c.as_slice.ensures.items ∙ ap (λ (w : Module). w.globals) c.module-module.ensures.is)
        c.in_ok-run.ensures.width;
    memory = c.in_ok-run.ensures.memory ∙ ap₂ first_memory
        (c.pages_of.ensures.pages
        ∙ ap pages_of (c.as_slice-2.ensures.items ∙ ap (λ (w : Module). w.memories) c.module-module.ensures.is))
        (c.as_slice-3.ensures.items ∙ ap (λ (w : Module). w.segments) c.module-module.ensures.is);
    words_room = c.in_ok-run.ensures.words_room;
    labels_room = c.in_ok-run.ensures.labels_room;
    guards_room = omega (arith, c.in_ok-run.ensures.guards_room, c.bound_of-bound.ensures.small);
  };
}
