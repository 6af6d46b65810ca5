-- Bytes in parts, and as texts and numbers.
use Rattle.std.proofs.Common.{◌≡◌, ℕ, zero, suc, ◌-◌, ◌≤◌, Bool, List, [], ◌∷◌, ◌++◌, length, replicate, refl, sym, ap}
use Rattle.std.proofs.Common.{subst, ◌∙◌, arith, Result, Ok, length-append}
use Rattle.std.specs.Int.{w64, to_be_bytes, from_be_bytes}
use Rattle.std.proofs.lemmas.List.{append_cancel_left, length-replicate}
use Rattle.std.proofs.lemmas.Nat.{be_bytes_8}
use Rattle.hex.specs.Hex.{decode_of}
use Rattle.hex.specs.declared.error.FromHexError.{FromHexError}
use Rattle.hex.proofs.HexLemmas.{decode_of-encode_lower}
use Rattle.hk_base.specs.Hexadecimal.{hex_text}
use Rattle.hk_base.proofs.HexText.{encode_lower-is}
use Rattle.xo_fields.specs.Field.{number}
use Rattle.xo_fields.specs.Form.{form_at}
use Rattle.xo_fields.specs.Header.{header}
use Rattle.xo_list.specs.Item.{Item, body, body_of, spell}
use Rattle.xo_list.specs.List.{ListFits}
use Rattle.xo_fields.specs.declared.form.Form.{Form}
use Rattle.xo_fields.specs.declared.form.Form.TheVariants.{Fixed, Money, Blob, Account, Object, Array}
use Rattle.xo_showing.specs.Bytes.{AreBytes, HaveBytes, number_of_bytes}

pub front_bytes : (p q : List ℕ) → AreBytes (p ++ q) → AreBytes p
front_bytes [] q small i = omega arith
front_bytes (x ∷ p) q small zero = small 0
front_bytes (x ∷ p) q small (suc i) = front_bytes p q (λ k. small (suc k)) i

pub back_bytes : (p q : List ℕ) → AreBytes (p ++ q) → AreBytes q
back_bytes [] q small = small
back_bytes (x ∷ p) q small = back_bytes p q (λ k. small (suc k))

pub joined_bytes : (p q : List ℕ) → AreBytes p → AreBytes q → AreBytes (p ++ q)
joined_bytes [] q sp sq i = sq i
joined_bytes (x ∷ p) q sp sq zero = sp zero
joined_bytes (x ∷ p) q sp sq (suc i) = joined_bytes p q (λ k. sp (suc k)) sq i

zero_bytes : (n : ℕ) → AreBytes (replicate n 0)
zero_bytes zero i = omega arith
zero_bytes (suc n) zero = omega arith
zero_bytes (suc n) (suc i) = zero_bytes n i

-- one hex text is that of one list of bytes
abbrev pub decoded : List ℕ → Result (List ℕ) FromHexError
decoded bytes = Ok bytes

same_ok : (xs ys : List ℕ) → decoded xs ≡ decoded ys → xs ≡ ys
same_ok xs ys e = cc

pub one_hex : (xs ys : List ℕ) → AreBytes xs → AreBytes ys → hex_text xs ≡ hex_text ys → xs ≡ ys
one_hex xs ys bx by e =
    same_ok xs ys
    (sym (decode_of-encode_lower xs bx)
    ∙ ap decode_of (encode_lower-is xs ∙ e ∙ sym (encode_lower-is ys))
    ∙ decode_of-encode_lower ys by)

-- one number is that of one list of so many bytes
pub one_number_of : (n : ℕ) (xs ys : List ℕ) → n ≤ 8 → length xs ≡ n → length ys ≡ n → AreBytes xs → AreBytes ys →
    number_of_bytes xs ≡ number_of_bytes ys → xs ≡ ys
one_number_of n xs ys few lx ly bx by e =
    append_cancel_left (replicate (8 - n) 0) xs ys
    (wide xs lx bx (number_of_bytes xs) refl ∙ sym (wide ys ly by (number_of_bytes xs) e))
  where
    wide : (zs : List ℕ) → length zs ≡ n → AreBytes zs → (m : ℕ) → m ≡ number_of_bytes zs →
        replicate (8 - n) 0 ++ zs ≡ to_be_bytes w64 m
    wide zs l small m is =
        let long : length (replicate (8 - n) 0 ++ zs) ≡ 8 =
        omega (arith, length-append (replicate (8 - n) 0) zs, length-replicate {A = ℕ} (8 - n) 0, l) in
        sym (be_bytes_8 (replicate (8 - n) 0 ++ zs) m long
        (joined_bytes (replicate (8 - n) 0) zs (zero_bytes (8 - n)) small)
        (is ∙ ap (λ k. from_be_bytes w64 (replicate (8 - k) 0 ++ zs)) l))

-- ---- the values of fields whose spelling is bytes

body_bytes : (form : Form) (value : List ℕ) → AreBytes (body form value) → AreBytes value
body_bytes (Fixed n) value small = small
body_bytes Money value small = small
body_bytes Blob value small = back_bytes _ value small
body_bytes Account value small = back_bytes _ value small
body_bytes Object value small = front_bytes value _ small
body_bytes Array value small = front_bytes value _ small

module _ (fits : Form → List ℕ → Type 0) (array : Bool) where
  pub spelled_bytes : (last : ℕ) (xs : List Item) → ListFits fits array last xs → AreBytes (spell xs) → HaveBytes xs
  spelled_bytes last [] fit small = tt
  spelled_bytes last (x ∷ xs) (f, fit) small =
      let after : AreBytes (body_of (form_at x.field.kind) x.value ++ spell xs) = back_bytes (header x.field) _ small in
      let here : AreBytes (body_of (form_at x.field.kind) x.value) = front_bytes _ (spell xs) after in (
        body_bytes f.form x.value (subst (λ o. AreBytes (body_of o x.value)) f.known here),
        spelled_bytes (number x.field) xs fit (back_bytes (body_of (form_at x.field.kind) x.value) (spell xs) after),
      )
