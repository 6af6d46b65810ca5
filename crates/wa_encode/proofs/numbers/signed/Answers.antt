use Rattle.std.proofs.Common.{◌≡◌, ◌∙◌, ◌++◌, ap, false, rules, FitsSigned, w64, to_z}
use Rattle.std.proofs.lemmas.Int.{to_z-of_z}
use Rattle.wa_encode.specs.Numbers.{is_short, signed}
use Rattle.wa_encode.proofs.Writing.{begins_signed, goes_on_signed, ends_signed, long_low, long_high, short_between}
use Rattle.wa_encode.proofs.numbers.signed.Goals as goal
use Rattle.wa_encode.proofs.numbers.signed.Goals.{then-rest-ltminus64, else-rest-ltminus64+then-rest-ge64}

pub loop-rest-init : goal.loop-rest-init
loop-rest-init c =
    rw (to_z-of_z w64 c.args.value c.ranges.value) (begins_signed c.args.out.now.items c.args.value c.ranges.value)

pub loop-rest-preserved : goal.loop-rest-preserved
loop-rest-preserved c =
    let rest = to_z w64 c.loop-rest.rest-bits in
    let low : FitsSigned w64 c.rem_euclid.result = search rules in
    let high : FitsSigned w64 c.div_euclid-rest.result = search rules in
    let long : is_short rest ≡ false = elim c.if-rest-ltminus64.branch [
      | then-rest-ltminus64 w ↦ long_low rest w.if-rest-ltminus64.true
      | else-rest-ltminus64+then-rest-ge64 w ↦ long_high rest w.if-rest-ge64.true
    ] in
    rw (
      c.in_ok-push.ensures.items,
      to_z-of_z w64 c.rem_euclid.result low,
      to_z-of_z w64 c.div_euclid-rest.result high,
      c.rem_euclid.ensures.value,
      c.div_euclid-rest.ensures,
    ) (goes_on_signed _ _ rest long c.loop-rest.invariant)

pub returns : goal.returns
returns c =
    let rest = to_z w64 c.loop-rest.rest-bits in
    let low : FitsSigned w64 c.rem_euclid-2.result = search rules in
    let short = short_between rest c.if-rest-ltminus64.false c.if-rest-ge64.false in
    record {
      bytes = rw (c.in_ok-push-2.ensures.items, to_z-of_z w64 c.rem_euclid-2.result low, c.rem_euclid-2.ensures.value)
          (ends_signed _ _ rest short c.loop-rest.invariant
          ∙ ap (λ z. c.args.out.now.items ++ signed z) (to_z-of_z w64 c.args.value c.ranges.value));
    }
