-- An amount shows like no other.
use Rattle.std.proofs.Common.{◌≡◌, ℕ, ◌+◌, ◌<◌, ◌^◌, List, [], ◌++◌, take, drop, sym, ap, subst, ◌∙◌, arith, append-nil}
use Rattle.std.proofs.Common.{Some}
use Rattle.std.specs.Prelude.{ℤ, pos}
use Rattle.std.specs.Fmt.{decimal, signed_decimal}
use Rattle.std.specs.Int.{w64, to_be_bytes, cast_unsigned}
use Rattle.std.proofs.lemmas.Fmt.{decimal_injective}
use Rattle.std.proofs.lemmas.List.{take-append-drop}
use Rattle.serde_json.specs.Data.{Data, string, object, Members, no_members, member}
use Rattle.xo_fields.specs.declared.amount.Amount.{Amount}
use Rattle.xo_fields.specs.declared.amount.Amount.TheVariants.{Native, Issued}
use Rattle.xo_fields.specs.Amount.{IsAmount, IsValid, amount_bytes}
use Rattle.xo_fields.specs.Laws.{OneAmount}
use Rattle.xo_fields.proofs.AmountBytes.{decimal-below}
use Rattle.hk_base.specs.Hexadecimal.{hex_text}
use Rattle.hk_reading.specs.Amounts.{amount_of}
use Rattle.hk_reading.proofs.AmountsFound.{amount_found}
use Rattle.xo_showing.specs.Bytes.{AreBytes}
use Rattle.xo_showing.specs.Showing.{hex, amount_shown, money_shown}
use Rattle.xo_showing.proofs.Bytes.{one_hex, front_bytes, back_bytes}

pub one_string : (s t : List ℕ) → string s ≡ string t → s ≡ t
one_string s t e = cc

-- a value among members with these keys
abbrev pub triple : List ℕ → List ℕ → List ℕ → Data → Data → Data → Data
triple k l m a b c = object (member k a (member l b (member m c no_members)))

one_triple : (k l m : List ℕ) (a b c d e f : Data) → triple k l m a b c ≡ triple k l m d e f →
    (a ≡ d) × (b ≡ e) × (c ≡ f)
one_triple k l m a b c d e f h = (cc, cc, cc)

other_kind : (s k : List ℕ) (d : Data) (ms : Members) → string s ≡ object (member k d ms) → ⊥
other_kind s k d ms e = absurd cc

pub one_text : (xs ys : List ℕ) → AreBytes xs → AreBytes ys → hex xs ≡ hex ys → xs ≡ ys
one_text xs ys bx by e = one_hex xs ys bx by (one_string (hex_text xs) (hex_text ys) e)

one_value : (v w : ℤ) (m n : ℕ) → v ≡ pos m → w ≡ pos n → m < 2 ^ 63 → n < 2 ^ 63 →
    signed_decimal v ≡ signed_decimal w → v ≡ w
one_value v w m n ev ew sm sn e =
    ev
    ∙ ap pos (decimal_injective m n (omega arith) (omega arith) (sym (ap signed_decimal ev) ∙ e ∙ ap signed_decimal ew))
    ∙ sym ew

issued_is : (v w : ℤ) (c d i j : List ℕ) → v ≡ w → c ≡ d → i ≡ j → Issued v c i ≡ Issued w d j
issued_is v w c d i j a b e = λ k. Issued (a k) (b k) (e k)

pub one_amount_shown : (a b : Amount) → IsValid a → IsValid b → AreBytes (amount_bytes a) → AreBytes (amount_bytes b) →
    amount_shown a ≡ amount_shown b → a ≡ b
one_amount_shown (Native m) (Native n) va vb ba bb e =
    ap Native (decimal_injective m n (omega arith) (omega arith) (one_string (decimal m) (decimal n) e))
one_amount_shown (Native m) (Issued w d j) va vb ba bb e = absurd (other_kind _ _ _ _ e)
one_amount_shown (Issued v c i) (Native n) va vb ba bb e = absurd (other_kind _ _ _ _ (sym e))
one_amount_shown (Issued v c i) (Issued w d j) ((m, vm, dm), lc, li) ((n, wn, dn), ld, lj) ba bb e =
    let parts : (hex c ≡ hex d) × (hex i ≡ hex j) × (string (signed_decimal v) ≡ string (signed_decimal w)) =
    one_triple _ _ _ _ _ _ _ _ _ e in
    let own : AreBytes (c ++ i) = back_bytes (to_be_bytes w64 (2 ^ 63 + cast_unsigned w64 v)) (c ++ i) ba in
    let other : AreBytes (d ++ j) = back_bytes (to_be_bytes w64 (2 ^ 63 + cast_unsigned w64 w)) (d ++ j) bb in
    issued_is v w c d i j
    (one_value v w m n vm wn (decimal-below m dm) (decimal-below n dn)
    (one_string (signed_decimal v) (signed_decimal w) parts.2))
    (one_text c d (front_bytes c i own) (front_bytes d j other) parts.0)
    (one_text i j (back_bytes c i own) (back_bytes d j other) parts.1)

-- the bytes of amounts that show alike are the same
pub one_money : (v w : List ℕ) → IsAmount v → IsAmount w → AreBytes v → AreBytes w →
    money_shown (amount_of v) ≡ money_shown (amount_of w) → v ≡ w
one_money v w (a, va, ea) (b, vb, eb) bv bw e =
    let found : amount_of v ≡ Some a = (amount_found v).complete a (va, ea) in
    let others : amount_of w ≡ Some b = (amount_found w).complete b (vb, eb) in
    let same : a ≡ b =
    one_amount_shown a b va vb (subst AreBytes ea bv) (subst AreBytes eb bw)
    (sym (ap money_shown found) ∙ e ∙ ap money_shown others) in
    ea ∙ ap amount_bytes same ∙ sym eb

-- what is read at the front of an amount is the amount
pub amount_taken : OneAmount → (bytes : List ℕ) (a : Amount) (size : ℕ) → IsAmount bytes → IsValid a →
    take size bytes ≡ amount_bytes a → amount_of bytes ≡ Some a
amount_taken one bytes a size (b, vb, eb) va ea =
    let both : amount_bytes a ++ drop size bytes ≡ amount_bytes b ++ [] =
    ap (λ x. x ++ drop size bytes) (sym ea) ∙ take-append-drop size bytes ∙ eb ∙ sym (append-nil (amount_bytes b)) in
    let same : a ≡ b = (one a b (drop size bytes) [] va vb both).0 in
    (amount_found bytes).complete b (vb, eb) ∙ ap Some (sym same)
