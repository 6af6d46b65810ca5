use Rattle.std.proofs.Common.{◌≡◌, Some, None, inl, inr, ap, sym, ◌∙◌, refl}
use Rattle.hk_base.specs.Hexadecimal.{hex_bytes}
use Rattle.hk_base.proofs.HexText.{decode_of-is, none_shows, shown_none, value_of}
use Rattle.hk_base.proofs.hexadecimal.hex_to_bytes.Goals as goal

-- the text has the bytes that were found
pub returns-in-Ok-clause-bytes : goal.returns-in-Ok-clause-bytes
returns-in-Ok-clause-bytes c = sym (ap value_of c.in-Ok.ensures.ok) ∙ decode_of-is c.args.text.now

-- bytes were found, so nothing is wrong with the text
pub returns-in-Ok-clause-refused : goal.returns-in-Ok-clause-refused
returns-in-Ok-clause-refused c =
    let found : Some c.in-Ok.bytes.items ≡ hex_bytes c.args.text.now =
    sym (ap value_of c.in-Ok.ensures.ok) ∙ decode_of-is c.args.text.now in
    (λ h. cc h, λ bad. let none = shown_none c.args.text.now bad in cc)

-- an error but that of memory says that the text has no bytes
pub returns-in_default : goal.returns-in_default
returns-in_default c =
    let none : None ≡ hex_bytes c.args.text.now = elim c.in-Err.ensures.err [
      | inl memory ↦ absurd (c.in_default.not-OutOfMemory memory)
      | inr wrong ↦ sym (ap value_of wrong) ∙ decode_of-is c.args.text.now
    ] in
    record { bytes = none; refused = (λ _. none_shows c.args.text.now (sym none), λ _. refl) }
