use Rattle.std.proofs.Common.{◌∷◌, length, reverse, take, drop, ◌+◌, rules, refl, sym, ap, subst, arith, ◌∙◌}
use Rattle.std.proofs.lemmas.Int.{to_z-of_z}
use Rattle.std.specs.Int.{cast_unsigned, w64}
use Rattle.wa_ops.specs.Callees.{AreArguments}
use Rattle.wa_ops.specs.Rows.{row_parameters}
use Rattle.wa_machine.specs.Starts.{meaning_of}
use Rattle.wa_run.proofs.Calling.{ask_needs, ask_fits, ask_follows}
use Rattle.wa_run.proofs.running.Running.ask.Goals as goal

pub overflow_sub-below : goal.overflow_sub-below
overflow_sub-below g c =
    omega (
      arith,
      ask_needs _ c.args.number.0 (row_parameters c.args.number.0) c.args.function c.args.self.now c.requires.meets,
      ap length c.call_parameters-count.ensures.parameters,
      c.len.ensures.length,
    )

pub last-requires : goal.last-requires
last-requires g c = record {
  some =
      omega (
        arith,
        ask_needs _ c.args.number.0 (row_parameters c.args.number.0) c.args.function c.args.self.now c.requires.meets,
        ap length c.call_parameters-count.ensures.parameters,
      );
}

pub returns-clause-asks : goal.returns-clause-asks
returns-clause-asks g c =
    ask_follows (meaning_of g.H.Host.answer g.H.Host.memory_after g.H.Host.state_after) c.args.number.0 c.args.function
    (row_parameters c.args.number.0) c.last.result.now c.cast_unsigned.result c.args.self.now c.args.host.now
    (record c.args.self.now {
      at = c.args.self.now.at + 1;
      store = record c.args.self.now.store { words = c.push.new.self; memory = c.call.new.memory };
    }) c.call.new.self
    (record {
      arguments_are =
          c.last.ensures.words
          ∙ ap (λ n. reverse (take n c.args.self.now.store.words.items))
          (ap length c.call_parameters-count.ensures.parameters);
      word_is =
          c.cast_unsigned.ensures
          ∙ ap (cast_unsigned w64) (to_z-of_z w64 c.in_ok-answer.answer (search rules) ∙ c.in_ok-answer.ensures.answer);
      word_fits = search rules;
      words =
          c.push.ensures.items
          ∙ ap (λ xs. c.cast_unsigned.result ∷ xs) (c.cut.ensures.items
          ∙ ap (λ n. drop n c.args.self.now.store.words.items) (omega (
            arith,
            ask_needs _ c.args.number.0 (row_parameters c.args.number.0) c.args.function c.args.self.now
                c.requires.meets,
            ap length c.call_parameters-count.ensures.parameters,
            c.len.ensures.length,
          )));
      memory = c.in_ok-answer.ensures.memory;
      same_length =
          ap length c.in_ok-answer.ensures.memory
          ∙ g.H.Host.keeps_length c.args.host.now c.args.number.0 c.last.result.now c.args.self.now.store.memory;
      state = c.in_ok-answer.ensures.state;
      at = refl;
      labels = refl;
      guards = refl;
      locals = refl;
      globals = refl;
    })

pub call-requires-clause-arguments : goal.call-requires-clause-arguments
call-requires-clause-arguments g c =
    subst (AreArguments (row_parameters c.args.number.0))
    (sym (c.last.ensures.words
    ∙ ap (λ n. reverse (take n c.args.self.now.store.words.items))
    (ap length c.call_parameters-count.ensures.parameters)))
    (ask_fits _ c.args.number.0 (row_parameters c.args.number.0) c.args.function c.args.self.now c.requires.meets)
