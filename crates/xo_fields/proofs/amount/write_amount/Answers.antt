use Rattle.std.proofs.Common.{◌∙◌, sym, ap, subst, arith, ◌+◌, ◌^◌, ◌++◌}
use Rattle.std.specs.Int.{w64, to_be_bytes, cast_unsigned}
use Rattle.xo_fields.specs.declared.amount.Amount.TheVariants.{Issued}
use Rattle.xo_fields.specs.Amount.{amount_bytes, IsValid}
use Rattle.xo_fields.proofs.AmountBytes.{three_parts, issued_bits}
use Rattle.xo_fields.proofs.amount.write_amount.Goals as goal

pub returns-in-Issued-clause-bytes : goal.returns-in-Issued-clause-bytes
returns-in-Issued-clause-bytes c =
    let valid : IsValid (Issued c.in-Issued.value c.in-Issued.currency c.in-Issued.issuer) =
    subst IsValid c.in-Issued.is c.requires in
    three_parts c.copy_from_slice-in-Issued.new.self _ c.copy_from_slice-in-Issued-2.new.self
    c.copy_from_slice-in-Issued-3.new.self
    (omega (arith, c.copy_from_slice-in-Issued.ensures.len)) (omega (arith, c.copy_from_slice-in-Issued-2.ensures.len))
    (omega (arith, c.copy_from_slice-in-Issued-3.ensures.len))
    ∙ ap (λ x. x ++ (c.copy_from_slice-in-Issued-2.new.self ++ c.copy_from_slice-in-Issued-3.new.self))
    (c.copy_from_slice-in-Issued.ensures.after ∙ c.to_be_bytes-in-Issued.ensures)
    ∙ ap (λ n.
    to_be_bytes w64 (2 ^ 63 + n) ++ (c.copy_from_slice-in-Issued-2.new.self ++ c.copy_from_slice-in-Issued-3.new.self))
    (issued_bits c.in-Issued.value valid.0)
    ∙ ap (λ x.
    to_be_bytes w64 (2 ^ 63 + cast_unsigned w64 c.in-Issued.value) ++ (x ++ c.copy_from_slice-in-Issued-3.new.self))
    c.copy_from_slice-in-Issued-2.ensures.after
    ∙ ap (λ x. to_be_bytes w64 (2 ^ 63 + cast_unsigned w64 c.in-Issued.value) ++ (c.in-Issued.currency ++ x))
    c.copy_from_slice-in-Issued-3.ensures.after
    ∙ sym (ap amount_bytes c.in-Issued.is)
