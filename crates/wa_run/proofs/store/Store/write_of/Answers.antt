use Rattle.std.proofs.Common.{◌≡◌, ◌+◌, ◌∷◌, ◌≤◌, length, true, sym, ◌∙◌, ap, subst, refl, arith}
use Rattle.std.proofs.lemmas.Bool.{false≢true}
use Rattle.wa_num.specs.Memory.{cells, written}
use Rattle.wa_run.proofs.Accesses.{write_needs, write_acts, write_traps}
use Rattle.wa_run.proofs.store.Store.write_of.Goals as goal

pub pop-word-requires : goal.pop-word-requires
pop-word-requires g c = record {
  some =
      let t = (write_needs _ c.args.opcode c.requires.meets.0 c.args.offset c.args.self.now c.requires.meets.1).two in
      omega (arith, t);
}

pub pop-address-requires : goal.pop-address-requires
pop-address-requires g c = record {
  some =
      let t = (write_needs _ c.args.opcode c.requires.meets.0 c.args.offset c.args.self.now c.requires.meets.1).two in
      omega (arith, t, ap length c.pop-word.ensures.items);
}

pub overflow_cast-address : goal.overflow_cast-address
overflow_cast-address g c =
    let t =
    (write_needs _ c.args.opcode c.requires.meets.0 c.args.offset c.args.self.now c.requires.meets.1).fit
    c.pop-word.result c.pop-address.result c.pop-address.new.self.items
    (c.pop-word.ensures.items ∙ ap (λ words. c.pop-word.result ∷ words) c.pop-address.ensures.items) in
    omega (arith, t)

pub returns-then-store-clause-acts : goal.returns-then-store-clause-acts
returns-then-store-clause-acts g c = λ align.
    write_acts c.args.opcode align c.args.offset c.args.self.now
    (record c.args.self.now { words = c.pop-address.new.self; memory = c.store.new.self }) c.pop-word.result
    c.pop-address.result c.pop-address.new.self.items
    (c.pop-word.ensures.items ∙ ap (λ words. c.pop-word.result ∷ words) c.pop-address.ensures.items)
    (subst (λ width. c.pop-address.result + c.args.offset + width ≤ length c.args.self.now.memory)
    c.store_width.ensures.width (c.store.ensures.fits.0 c.if-store.true))
    (c.store.ensures.memory
    ∙ ap
    (λ width. written c.args.self.now.memory (c.pop-address.result + c.args.offset) (cells width c.pop-word.result))
    c.store_width.ensures.width)
    (record { words = refl; locals = refl; globals = refl })

pub returns-else-store-clause-acts : goal.returns-else-store-clause-acts
returns-else-store-clause-acts g c = λ align.
    write_traps c.args.opcode align c.args.offset c.args.self.now c.pop-word.result c.pop-address.result
    c.pop-address.new.self.items
    (c.pop-word.ensures.items ∙ ap (λ words. c.pop-word.result ∷ words) c.pop-address.ensures.items)
    (λ z.
    let t : c.store.result ≡ true =
    c.store.ensures.fits.1 (subst
    (λ width. c.pop-address.result + c.args.offset + width ≤ length c.args.self.now.memory)
    (sym c.store_width.ensures.width) z) in
    absurd (false≢true (sym c.if-store.false ∙ t)))
