-- A value without fields in it is told where it shows so.
use Rattle.std.proofs.Common.{◌≡◌, ℕ, zero, suc, ◌+◌, ◌-◌, ◌<◌, ◌≤◌, ◌^◌, ◌&&◌, Bool, true, false, List, [], ◌∷◌, ◌++◌}
use Rattle.std.proofs.Common.{length, replicate, drop, nat_le, refl, sym, ap, subst, ◌∙◌, arith, Some, Ok, Err}
use Rattle.std.proofs.Common.{if◌then◌else◌, length-append}
use Rattle.std.specs.Prelude.{pos, bytes_eq, Decides, unwrap_or}
use Rattle.std.specs.Fmt.{decimal, signed_decimal}
use Rattle.std.specs.Int.{w64, to_be_bytes, from_be_bytes, cast_unsigned}
use Rattle.std.specs.Str.Parse.{digits_value}
use Rattle.std.proofs.lemmas.Bool.Decides.{nat_tests, Decides-and}
use Rattle.std.proofs.lemmas.Fmt.{decimal_is_IsNumeral}
use Rattle.std.proofs.lemmas.List.{drop_at, length-replicate}
use Rattle.std.proofs.lemmas.Nat.{be_bytes_8}
use Rattle.hex.proofs.HexLemmas.{decode_of-encode_lower}
use Rattle.hex.specs.Hex.{decode_of}
use Rattle.hk_base.specs.Hexadecimal.{hex_text}
use Rattle.hk_base.proofs.HexText.{encode_lower-is, value_of, decode_of-is}
use Rattle.serde_json.specs.Data.{Data, number, string, object, unsigned, Members, no_members, member}
use Rattle.xo_fields.specs.declared.amount.Amount.{Amount}
use Rattle.xo_fields.specs.declared.amount.Amount.TheVariants.{Native, Issued}
use Rattle.xo_fields.specs.declared.form.Form.{Form}
use Rattle.xo_fields.specs.declared.form.Form.TheVariants.{Fixed, Money, Blob, Account, Object, Array}
use Rattle.xo_fields.specs.Amount.{IsValid, amount_bytes}
use Rattle.xo_fields.proofs.AmountBytes.{decimal-below}
use Rattle.xo_list.specs.Value.{IsValue}
use Rattle.hk_reading.specs.Amounts.{amount_of}
use Rattle.hk_reading.proofs.AmountsFound.{amount_found, is_amount_so}
use Rattle.hk_reading.proofs.Finding.{nat_same, nat_up_to, nat_below, lists_same}
use Rattle.xo_showing.specs.Bytes.{AreBytes, number_of_bytes}
use Rattle.xo_showing.specs.Showing.{hex, amount_shown, money_shown, shown}
use Rattle.xo_showing.specs.Shows.{lowered}
use Rattle.xo_showing.proofs.Bytes.{front_bytes, back_bytes, joined_bytes}
use Rattle.xo_told.specs.declared.fault.JsonFault.{JsonFault}
use Rattle.xo_told.specs.declared.fault.JsonFault.TheVariants.{BadValue}
use Rattle.xo_told.specs.Faults.{IsNone}
use Rattle.xo_told.specs.Guesses.{hex_in, number_in, money_guess, value_guess, are_bytes, is_plain, same_data}
use Rattle.xo_told.specs.Guesses.{same_members}
use Rattle.xo_told.specs.Reading.{ShowsValue}
use Rattle.xo_told.specs.Told.{Told, plain_if, plain_told}
use Rattle.xo_told.proofs.Steps.{both, ok_same, err_same, ok_err, err_ok}

-- ---- tests

are_bytes_so : (bytes : List ℕ) → Decides (are_bytes bytes) (AreBytes bytes)
are_bytes_so bytes = (sound bytes, complete bytes)
  where
    more : (b : ℕ) (bs : List ℕ) → b < 256 → AreBytes bs → AreBytes (b ∷ bs)
    more b bs small rest zero = small
    more b bs small rest (suc i) = rest i

    sound : (bs : List ℕ) → are_bytes bs ≡ true → AreBytes bs
    sound [] e = λ i. omega arith
    sound (b ∷ bs) e =
        let parts =
        (Decides-and _ _ (nat_below b 256) (λ (h : are_bytes bs ≡ true). h, λ (h : are_bytes bs ≡ true). h)).0 e in
        more b bs parts.0 (sound bs parts.1)

    complete : (bs : List ℕ) → AreBytes bs → are_bytes bs ≡ true
    complete [] small = refl
    complete (b ∷ bs) small =
        (Decides-and _ _ (nat_below b 256) (λ (h : are_bytes bs ≡ true). h, λ (h : are_bytes bs ≡ true). h)).1
        (small 0, complete bs (λ i. small (suc i)))

is_plain_so : (form : Form) (value : List ℕ) → Decides (is_plain form value) (IsValue 0 form value)
is_plain_so (Fixed size) value = nat_same (length value) size
is_plain_so Money value = is_amount_so value
is_plain_so Blob value = nat_up_to (length value) 918744
is_plain_so Account value = nat_same (length value) 20
is_plain_so Object value = (λ e. cc e, λ b. absurd b)
is_plain_so Array value = (λ e. cc e, λ b. absurd b)

and_also : (a b : Bool) → a ≡ true → b ≡ true → a && b ≡ true
and_also a b e f = (λ i. e i && b) ∙ f

mutual
  same_sound : (d e : Data) → same_data d e ≡ true → d ≡ e
  same_sound (number (unsigned m)) (number (unsigned n)) h = ap (λ k. number (unsigned k)) ((nat_same m n).0 h)
  same_sound (string s) (string t) h = ap string ((lists_same s t).0 h)
  same_sound (object ms) (object ns) h = ap object (members_sound ms ns h)
  same_sound d e h = cc h

  members_sound : (ms ns : Members) → same_members ms ns ≡ true → ms ≡ ns
  members_sound no_members no_members h = refl
  members_sound (member k d ms) (member l e ns) h =
      let key = both (bytes_eq k l) (same_data d e && same_members ms ns) h in
      let rest = both (same_data d e) (same_members ms ns) key.1 in
      let value = same_sound d e rest.0 in
      let more = members_sound ms ns rest.1 in
      λ i. member ((lists_same k l).0 key.0 i) (value i) (more i)
  members_sound ms ns h = cc h

same_text : (s : List ℕ) → same_data (string s) (string s) ≡ true
same_text s = (lists_same s s).1 refl

same_amount : (a : Amount) → same_data (amount_shown a) (amount_shown a) ≡ true
same_amount (Native drops) = same_text (decimal drops)
same_amount (Issued value currency issuer) =
    and_also (same_data (hex currency) (hex currency)) _ (same_text (hex_text currency)) (and_also
    (same_data (hex issuer) (hex issuer)) _ (same_text (hex_text issuer))
    (and_also (same_data (string (signed_decimal value)) (string (signed_decimal value))) _
    (same_text (signed_decimal value)) refl))

same_again : (form : Form) (value : List ℕ) → IsValue 0 form value →
    same_data (shown 0 form value) (shown 0 form value) ≡ true
same_again (Fixed size) value h = at (nat_le size 4)
  where
    at : (small : Bool) →
        same_data (if small then number (unsigned (number_of_bytes value)) else hex value)
        (if small then number (unsigned (number_of_bytes value)) else hex value) ≡ true
    at true = (nat_same (number_of_bytes value) (number_of_bytes value)).1 refl
    at false = same_text (hex_text value)
same_again Money value (a, valid, is) =
    let found : amount_of value ≡ Some a = (amount_found value).complete a (valid, is) in
    ap (λ o. same_data (money_shown o) (money_shown o)) found ∙ same_amount a
same_again Blob value h = same_text (hex_text value)
same_again Account value h = same_text (hex_text value)
same_again Object value h = absurd h
same_again Array value h = absurd h

-- ---- what is guessed from a showing is the value that shows so

hex_again : (bytes : List ℕ) → AreBytes bytes → hex_in (hex bytes) ≡ bytes
hex_again bytes small =
    ap (λ o. unwrap_or o [])
    (sym (decode_of-is (hex_text bytes))
    ∙ ap (λ t. value_of (decode_of t)) (sym (encode_lower-is bytes))
    ∙ ap value_of (decode_of-encode_lower bytes small))

zero_bytes : (n : ℕ) → AreBytes (replicate n 0)
zero_bytes zero i = omega arith
zero_bytes (suc n) zero = omega arith
zero_bytes (suc n) (suc i) = zero_bytes n i

number_again : (size : ℕ) (value : List ℕ) → size ≤ 4 → length value ≡ size → AreBytes value →
    drop (8 - size) (to_be_bytes w64 (number_of_bytes value)) ≡ value
number_again size value few long small =
    let zeros : List ℕ = replicate (8 - size) 0 in
    let all : length (zeros ++ value) ≡ 8 =
    omega (arith, length-append zeros value, length-replicate {A = ℕ} (8 - size) 0, long) in
    let same : number_of_bytes value ≡ from_be_bytes w64 (zeros ++ value) =
    ap (λ k. from_be_bytes w64 (replicate (8 - k) 0 ++ value)) long in
    ap (drop (8 - size)) (be_bytes_8 (zeros ++ value) (number_of_bytes value) all
    (joined_bytes zeros value (zero_bytes (8 - size)) small) same)
    ∙ drop_at zeros value (8 - size) (length-replicate {A = ℕ} (8 - size) 0)

fixed_again : (size : ℕ) (value : List ℕ) → length value ≡ size → AreBytes value →
    value_guess (Fixed size) (shown 0 (Fixed size) value) ≡ value
fixed_again size value long small = at (nat_le size 4) refl
  where
    at : (few : Bool) → nat_le size 4 ≡ few →
        (if few
        then drop (8 - size)
        (to_be_bytes w64 (number_in (if few then number (unsigned (number_of_bytes value)) else hex value)))
        else hex_in (if few then number (unsigned (number_of_bytes value)) else hex value)) ≡ value
    at true e = let is : size ≤ 4 = grind (arith, nat_tests) in number_again size value is long small
    at false e = hex_again value small

amount_again : (a : Amount) → IsValid a → AreBytes (amount_bytes a) → money_guess (amount_shown a) ≡ amount_bytes a
amount_again (Native drops) valid small = ap (λ n. amount_bytes (Native n)) (decimal_is_IsNumeral drops (omega arith)).1
amount_again (Issued value c i) ((bits, same, decimal), lc, li) small =
    let own : AreBytes (c ++ i) = back_bytes (to_be_bytes w64 (2 ^ 63 + cast_unsigned w64 value)) (c ++ i) small in
    let currency : hex_in (hex c) ≡ c = hex_again c (front_bytes c i own) in
    let issuer : hex_in (hex i) ≡ i = hex_again i (back_bytes c i own) in
    let worth : pos (digits_value 10 (signed_decimal value)) ≡ value =
    ap (λ z. pos (digits_value 10 (signed_decimal z))) same
    ∙ ap pos (decimal_is_IsNumeral bits (omega (arith, decimal-below bits decimal))).1
    ∙ sym same in
    λ k. amount_bytes (Issued (worth k) (currency k) (issuer k))

guess_again : (form : Form) (value : List ℕ) → AreBytes value → IsValue 0 form value →
    value_guess form (shown 0 form value) ≡ value
guess_again (Fixed size) value small h = fixed_again size value h small
guess_again Money value small (a, valid, is) =
    let found : amount_of value ≡ Some a = (amount_found value).complete a (valid, is) in
    ap (λ o. money_guess (money_shown o)) found ∙ amount_again a valid (subst AreBytes is small) ∙ sym is
guess_again Blob value small h = hex_again value small
guess_again Account value small h = hex_again value small
guess_again Object value small h = absurd h
guess_again Array value small h = absurd h

-- ---- what is told

abbrev pub test : Form → Data → List ℕ → Bool
test form e value = are_bytes value && (is_plain form value && same_data (shown 0 form value) e)

test_sound : (form : Form) (d : Data) (value : List ℕ) → test form (lowered d) value ≡ true → ShowsValue 0 form d value
test_sound form d value e =
    let bytes = both (are_bytes value) (is_plain form value && same_data (shown 0 form value) (lowered d)) e in
    let fits = both (is_plain form value) (same_data (shown 0 form value) (lowered d)) bytes.1 in
    record {
      bytes = (are_bytes_so value).0 bytes.0;
      fits = (is_plain_so form value).0 fits.0;
      shows = sym (same_sound (shown 0 form value) (lowered d) fits.1);
    }

test_complete : (form : Form) (d : Data) (value : List ℕ) → ShowsValue 0 form d value →
    test form (lowered d) value ≡ true
test_complete form d value s =
    and_also (are_bytes value) _ ((are_bytes_so value).1 s.bytes) (and_also (is_plain form value) _
    ((is_plain_so form value).1 s.fits)
    (ap (same_data (shown 0 form value)) s.shows ∙ same_again form value s.fits))

shown_guess : (form : Form) (d : Data) (value : List ℕ) → ShowsValue 0 form d value →
    value_guess form (lowered d) ≡ value
shown_guess form d value s = ap (value_guess form) s.shows ∙ guess_again form value s.bytes s.fits

pub plain_complete : (form : Form) (d : Data) (value : List ℕ) → ShowsValue 0 form d value →
    plain_told form d ≡ Ok value
plain_complete form d value s =
    ap (plain_if form (lowered d)) (shown_guess form d value s)
    ∙ ap {A = Bool} {B = Told (List ℕ)} (λ b. if b then Ok value else Err BadValue) (test_complete form d value s)

pub plain_sound : (form : Form) (d : Data) (value : List ℕ) → plain_told form d ≡ Ok value → ShowsValue 0 form d value
plain_sound form d value e = at (test form (lowered d) guess) refl e
  where
    guess : List ℕ
    guess = value_guess form (lowered d)

    at : (b : Bool) → test form (lowered d) guess ≡ b → (if b then Ok guess else Err BadValue) ≡ Ok value →
        ShowsValue 0 form d value
    at true t h = subst (ShowsValue 0 form d) (ok_same guess value h) (test_sound form d guess t)
    at false t h = err_ok value BadValue h

pub plain_fails : (form : Form) (d : Data) (fault : JsonFault) → plain_told form d ≡ Err fault → IsNone 0 form d fault
plain_fails form d fault e = at (test form (lowered d) (value_guess form (lowered d))) refl e
  where
    at : (b : Bool) → test form (lowered d) (value_guess form (lowered d)) ≡ b →
        (if b then Ok (value_guess form (lowered d)) else Err BadValue) ≡ Err fault → IsNone 0 form d fault
    at true t h = ok_err (value_guess form (lowered d)) fault h
    at false t h = (
      sym (err_same (List ℕ) BadValue fault h),
      λ value s. ok_err {A = List ℕ} value fault (sym (plain_complete form d value s) ∙ e),
    )

pub plain_none : (form : Form) (d : Data) (fault : JsonFault) → IsNone 0 form d fault → plain_told form d ≡ Err fault
plain_none form d fault (bad, none) = at (test form (lowered d) (value_guess form (lowered d))) refl
  where
    at : (b : Bool) → test form (lowered d) (value_guess form (lowered d)) ≡ b →
        (if b then Ok (value_guess form (lowered d)) else Err BadValue) ≡ Err fault
    at true t = absurd (none (value_guess form (lowered d)) (test_sound form d (value_guess form (lowered d)) t))
    at false t = λ i. Err (sym bad i)
