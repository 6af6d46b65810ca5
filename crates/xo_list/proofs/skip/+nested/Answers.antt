use Rattle.std.proofs.Common.{ℕ, ◌-◌, ◌<◌, sym, subst, drop, arith}
use Rattle.xo_fields.specs.declared.form.Form.TheVariants.{Object, Array}
use Rattle.xo_list.specs.Value.{Head}
use Rattle.xo_list.specs.Fault.{HeadFails, BodyFails}
use Rattle.xo_list.specs.Span.{part, Valued}
use Rattle.xo_list.proofs.Leads.{Leads, further, stops_here, fails_at_head, fails_inside}
use Rattle.xo_list.proofs.Parts.{object_valued, array_valued, object_fails, array_fails}
use Rattle.xo_list.proofs.skip.+nested.Goals as goal

pub skip_fields-returns-in-Some-clause-reads : goal.skip_fields-returns-in-Some-clause-reads
skip_fields-returns-in-Some-clause-reads t c = stops_here _ _ _ _ _ _ c.fields.invariant.leads c.in-Some.ensures.ends

pub skip_fields-returns-in-Err-clause-reads : goal.skip_fields-returns-in-Err-clause-reads
skip_fields-returns-in-Err-clause-reads t c =
    fails_at_head c.args.room c.args.place _ _ _ c.in-Err.fault c.fields.invariant.leads c.in_default.ensures.ends
    (subst (λ a. HeadFails a c.fields.last (drop c.fields.at c.args.bytes.now) c.in-Err.fault)
    c.holds_elements-array.ensures.array c.in-Err.ensures.start)

pub skip_fields-returns-in-Err-skip_value-clause-reads : goal.skip_fields-returns-in-Err-skip_value-clause-reads
skip_fields-returns-in-Err-skip_value-clause-reads t c =
    fails_inside c.args.room c.args.place _ c.in-Ok.start.field c.in-Ok.start.form _ _ _ c.in-Err-skip_value.fault
    c.fields.invariant.leads c.in_default.ensures.ends
    (subst (λ a.
    Head a c.fields.last c.in-Ok.start.field c.in-Ok.start.form (drop c.fields.at c.args.bytes.now)
    (drop c.in-Ok.start.from c.args.bytes.now)) c.holds_elements-array.ensures.array c.in-Ok.ensures.start)
    c.in-Err-skip_value.ensures.value

pub skip_fields-fields-preserved : goal.skip_fields-fields-preserved
skip_fields-fields-preserved t c = record {
  within = omega (arith, c.in-Ok-skip_value.ensures.within);
  after = omega (arith, c.in-Ok-skip_value.ensures.within, c.in-Ok.ensures.within);
  leads =
      subst (λ n.
      Leads c.args.room c.args.place n (drop c.in-Ok-skip_value.skipped.next c.args.bytes.now)
      (drop c.args.from c.args.bytes.now)) (sym c.number-last.ensures.number)
      (further c.args.room c.args.place c.fields.last c.in-Ok.start.field c.in-Ok.start.form _ _ _ _ _
      c.fields.invariant.leads
      (subst (λ a.
      Head a c.fields.last c.in-Ok.start.field c.in-Ok.start.form (drop c.fields.at c.args.bytes.now)
      (drop c.in-Ok.start.from c.args.bytes.now)) c.holds_elements-array.ensures.array c.in-Ok.ensures.start)
      c.in-Ok-skip_value.ensures.value);
}

object-nested : (t : ℕ) (c : goal.skip_value-In-Ok t) →
    (c.args.at < c.in-Ok.next)
    × Valued c.args.room Object (drop c.args.at c.args.bytes.now) (part c.args.bytes.now c.args.at (c.in-Ok.next - 1))
    (drop c.in-Ok.next c.args.bytes.now)
object-nested t c =
    object_valued c.args.room c.args.bytes.now c.args.at c.in-Ok.next (omega arith) c.requires
    (omega (arith, c.in-Ok.ensures.within)) c.in-Ok.ensures.reads

pub skip_value-overflow_sub-result : goal.skip_value-overflow_sub-result
skip_value-overflow_sub-result t c = omega (arith, (object-nested t c).0)

pub skip_value-returns-in-Err-clause-value : goal.skip_value-returns-in-Err-clause-value
skip_value-returns-in-Err-clause-value t c =
    subst (λ f. BodyFails c.args.room f (drop c.args.at c.args.bytes.now) c.in-Err.fault) (sym c.in-Object.is)
    (object_fails c.args.room (drop c.args.at c.args.bytes.now) c.in-Err.fault (omega arith) c.in-Err.ensures.reads)

pub skip_value-returns-in-Ok-clause-within : goal.skip_value-returns-in-Ok-clause-within
skip_value-returns-in-Ok-clause-within t c =
    (omega arith, omega (arith, (object-nested t c).0), omega arith, omega (arith, c.in-Ok.ensures.within))

pub skip_value-returns-in-Ok-clause-value : goal.skip_value-returns-in-Ok-clause-value
skip_value-returns-in-Ok-clause-value t c =
    subst (λ f.
    Valued c.args.room f (drop c.args.at c.args.bytes.now) (part c.args.bytes.now c.args.at (c.in-Ok.next - 1))
    (drop c.in-Ok.next c.args.bytes.now)) (sym c.in-Object.is)
    (object-nested t c).1

array-nested : (t : ℕ) (c : goal.skip_value-In-Ok-skip_fields t) →
    (c.args.at < c.in-Ok-skip_fields.next)
    × Valued c.args.room Array (drop c.args.at c.args.bytes.now)
    (part c.args.bytes.now c.args.at (c.in-Ok-skip_fields.next - 1)) (drop c.in-Ok-skip_fields.next c.args.bytes.now)
array-nested t c =
    array_valued c.args.room c.args.bytes.now c.args.at c.in-Ok-skip_fields.next (omega arith) c.requires
    (omega (arith, c.in-Ok-skip_fields.ensures.within)) c.in-Ok-skip_fields.ensures.reads

pub skip_value-overflow_sub-result-in-Ok-skip_fields : goal.skip_value-overflow_sub-result-in-Ok-skip_fields
skip_value-overflow_sub-result-in-Ok-skip_fields t c = omega (arith, (array-nested t c).0)

pub skip_value-returns-in-Err-skip_fields-clause-value : goal.skip_value-returns-in-Err-skip_fields-clause-value
skip_value-returns-in-Err-skip_fields-clause-value t c =
    subst (λ f. BodyFails c.args.room f (drop c.args.at c.args.bytes.now) c.in-Err-skip_fields.fault)
    (sym c.in-Array.is)
    (array_fails c.args.room (drop c.args.at c.args.bytes.now) c.in-Err-skip_fields.fault (omega arith)
    c.in-Err-skip_fields.ensures.reads)

pub skip_value-returns-in-Ok-skip_fields-clause-within : goal.skip_value-returns-in-Ok-skip_fields-clause-within
skip_value-returns-in-Ok-skip_fields-clause-within t c =
    (omega arith, omega (arith, (array-nested t c).0), omega arith, omega (arith, c.in-Ok-skip_fields.ensures.within))

pub skip_value-returns-in-Ok-skip_fields-clause-value : goal.skip_value-returns-in-Ok-skip_fields-clause-value
skip_value-returns-in-Ok-skip_fields-clause-value t c =
    subst (λ f.
    Valued c.args.room f (drop c.args.at c.args.bytes.now)
    (part c.args.bytes.now c.args.at (c.in-Ok-skip_fields.next - 1)) (drop c.in-Ok-skip_fields.next c.args.bytes.now))
    (sym c.in-Array.is)
    (array-nested t c).1
