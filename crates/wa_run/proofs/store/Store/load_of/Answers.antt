use Rattle.std.proofs.Common.{◌+◌, sym, ◌∙◌, ap, refl, arith}
use Rattle.wa_num.specs.Memory.{loaded}
use Rattle.wa_run.proofs.Accesses.{load_form, load_needs, load_acts, load_traps}
use Rattle.wa_run.proofs.store.Store.load_of.Goals as goal

pub pop-address-requires : goal.pop-address-requires
pop-address-requires g c = record {
  some = (load_needs _ c.args.opcode c.requires.meets.0 c.args.offset c.args.self.now c.requires.meets.1).some;
}

pub overflow_cast-address : goal.overflow_cast-address
overflow_cast-address g c =
    let t =
    (load_needs _ c.args.opcode c.requires.meets.0 c.args.offset c.args.self.now c.requires.meets.1).fit
    c.pop-address.result c.pop-address.new.self.items c.pop-address.ensures.items in
    omega (arith, t)

pub read_as-requires-clause-sound : goal.read_as-requires-clause-sound
read_as-requires-clause-sound g c = load_form c.args.opcode c.requires.sound

pub returns-in-None-clause-acts : goal.returns-in-None-clause-acts
returns-in-None-clause-acts g c = λ align.
    load_traps c.args.opcode align c.args.offset c.args.self.now c.pop-address.result c.pop-address.new.self.items
    c.pop-address.ensures.items
    (ap (λ width. loaded c.args.self.now.memory (c.pop-address.result + c.args.offset) width)
    (sym c.load_width.ensures.width)
    ∙ sym c.load.ensures.number
    ∙ c.in-None.is)

pub returns-in-Some-clause-acts : goal.returns-in-Some-clause-acts
returns-in-Some-clause-acts g c = λ align.
    load_acts c.args.opcode align c.args.offset c.args.self.now (record c.args.self.now { words = c.push.new.self })
    c.pop-address.result c.in-Some.number c.read_as.result c.pop-address.new.self.items
    c.pop-address.ensures.items (ap
    (λ width. loaded c.args.self.now.memory (c.pop-address.result + c.args.offset) width)
    (sym c.load_width.ensures.width)
    ∙ sym c.load.ensures.number
    ∙ c.in-Some.is)
    c.read_as.ensures.number (omega arith) c.read_as.ensures.fits c.push.ensures.items
    (record { locals = refl; globals = refl; memory = refl })
