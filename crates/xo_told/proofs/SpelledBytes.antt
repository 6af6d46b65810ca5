-- Fields whose values are bytes are spelled in bytes.
use Rattle.std.proofs.Common.{◌≡◌, ℕ, zero, suc, ◌-◌, ◌/◌, ◌%◌, ◌<◌, ◌≤◌, Bool, true, false, List, [], ◌∷◌, length}
use Rattle.std.proofs.Common.{nat_le, sym, subst, arith}
use Rattle.xo_fields.specs.declared.field.FieldId.{FieldId}
use Rattle.xo_fields.specs.declared.form.Form.{Form}
use Rattle.xo_fields.specs.declared.form.Form.TheVariants.{Fixed, Money, Blob, Account, Object, Array}
use Rattle.xo_fields.specs.Field.{number}
use Rattle.xo_fields.specs.Form.{form_at}
use Rattle.xo_fields.specs.Header.{header, IsField}
use Rattle.xo_fields.specs.Length.{prefix}
use Rattle.xo_fields.proofs.Cases.{pick_below, pick}
use Rattle.std.proofs.lemmas.Bool.Decides.{nat_tests}
use Rattle.xo_list.specs.Item.{Item, body, body_of, spell}
use Rattle.xo_list.specs.List.{ListFits}
use Rattle.xo_list.specs.Value.{IsValue}
use Rattle.xo_showing.specs.Bytes.{AreBytes, HaveBytes}
use Rattle.xo_showing.proofs.Bytes.{joined_bytes}

no_bytes : AreBytes []
no_bytes i = omega arith

pub more_bytes : (b : ℕ) (bs : List ℕ) → b < 256 → AreBytes bs → AreBytes (b ∷ bs)
more_bytes b bs small rest zero = small
more_bytes b bs small rest (suc i) = rest i

header_bytes : (f : FieldId) → IsField f → AreBytes (header f)
header_bytes f is =
    pick_below AreBytes f.kind 16 _ _
    (λ k.
    pick_below AreBytes f.code 16 _ _ (λ c. more_bytes _ [] (omega arith) no_bytes)
    (λ c. more_bytes _ (f.code ∷ []) (omega arith) (more_bytes f.code [] (omega (arith, is.code_byte)) no_bytes)))
    (λ k. pick_below AreBytes f.code 16 _ _
    (λ c. more_bytes f.code (f.kind ∷ []) (omega arith) (more_bytes f.kind [] (omega (arith, is.kind_byte)) no_bytes))
    (λ c.
    more_bytes 0 (f.kind ∷ f.code ∷ []) (omega arith) (more_bytes f.kind (f.code ∷ []) (omega (arith, is.kind_byte))
    (more_bytes f.code [] (omega (arith, is.code_byte)) no_bytes))))

up_to : (m n : ℕ) → nat_le m n ≡ true → m ≤ n
up_to m n e = grind (arith, nat_tests)

above : (m n : ℕ) → nat_le m n ≡ false → n < m
above m n e = grind (arith, nat_tests)

prefix_bytes : (n : ℕ) → n ≤ 918744 → AreBytes (prefix n)
prefix_bytes n small =
    pick AreBytes (nat_le n 192) _ _ (λ e. more_bytes n [] (let h = up_to n 192 e in omega arith) no_bytes)
    (λ e. let h = above n 192 e in pick AreBytes (nat_le n 12480) _ _
    (λ g.
    let l = up_to n 12480 g in
    more_bytes _ (((n - 193) % 256) ∷ []) (omega arith) (more_bytes _ [] (omega arith) no_bytes))
    (λ g.
    let l = above n 12480 g in
    more_bytes _ (((n - 12481) / 256 % 256) ∷ ((n - 12481) % 256) ∷ []) (omega arith)
    (more_bytes _ (((n - 12481) % 256) ∷ []) (omega arith) (more_bytes _ [] (omega arith) no_bytes))))

body_bytes : (room : ℕ) (form : Form) (value : List ℕ) → IsValue room form value → AreBytes value →
    AreBytes (body form value)
body_bytes room (Fixed n) value h b = b
body_bytes room Money value h b = b
body_bytes room Blob value h b = joined_bytes (prefix (length value)) value (prefix_bytes (length value) h) b
body_bytes room Account value h b =
    joined_bytes (prefix (length value)) value (prefix_bytes (length value) (omega (arith, h))) b
body_bytes room Object value h b = joined_bytes value (225 ∷ []) b (more_bytes 225 [] (omega arith) no_bytes)
body_bytes room Array value h b = joined_bytes value (241 ∷ []) b (more_bytes 241 [] (omega arith) no_bytes)

pub list_bytes : (room : ℕ) (list : Bool) (last : ℕ) (xs : List Item) → ListFits (IsValue room) list last xs →
    HaveBytes xs → AreBytes (spell xs)
list_bytes room list last [] h b = no_bytes
list_bytes room list last (x ∷ xs) (f, h) (b, bs) =
    let own : AreBytes (body_of (form_at x.field.kind) x.value) =
    subst (λ o. AreBytes (body_of o x.value)) (sym f.known) (body_bytes room f.form x.value f.value b) in
    joined_bytes (header x.field) _ (header_bytes x.field f.is) (joined_bytes (body_of (form_at x.field.kind) x.value)
    (spell xs) own (list_bytes room list (number x.field) xs h bs))
