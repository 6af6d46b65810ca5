-- What an amount shows.
use Rattle.std.proofs.Common.{◌≡◌, ℕ, ◌+◌, ◌<◌, ◌≤◌, ◌^◌, List, [], ◌∷◌, ◌++◌, length, map, refl, sym, ap, subst, ◌∙◌}
use Rattle.std.proofs.Common.{arith, Some, None, Result, Ok, Err, Vec, Global, length-append}
use Rattle.std.specs.Prelude.{ℤ, pos, codes}
use Rattle.std.specs.Fmt.{decimal, signed_decimal}
use Rattle.std.specs.Int.{w64, to_be_bytes, from_be_bytes, cast_unsigned}
use Rattle.std.specs.Str.Parse.{AllDigits}
use Rattle.std.proofs.lemmas.Bool.Decides.{nat_tests}
use Rattle.std.proofs.lemmas.Fmt.{decimal_is_IsNumeral, decimal_injective}
use Rattle.std.proofs.lemmas.Nat.{from_be_bytes-to_be_bytes_8}
use Rattle.std.proofs.lemmas.Str.Parse.{digit_from_value}
use Rattle.serde_json.specs.Data.{Data, string, object, Members, no_members, member}
use Rattle.serde_json.specs.Find.{as_str, as_object}
use Rattle.hk_base.specs.Hexadecimal.{hex_text}
use Rattle.xo_fields.specs.declared.amount.Amount.{Amount}
use Rattle.xo_fields.specs.declared.amount.Amount.TheVariants.{Native, Issued}
use Rattle.xo_fields.specs.declared.form.Form.TheVariants.{Money, Account}
use Rattle.xo_fields.specs.Amount.{IsAmount, IsValid, amount_bytes}
use Rattle.xo_fields.proofs.AmountBytes.{decimal-below}
use Rattle.xo_fields.proofs.Digits.{small-to_be_bytes}
use Rattle.hk_reading.specs.Amounts.{amount_of}
use Rattle.hk_reading.proofs.AmountsFound.{amount_found}
use Rattle.hk_reading.proofs.Fronts.{cut_at}
use Rattle.xo_showing.specs.Bytes.{AreBytes}
use Rattle.xo_showing.specs.Showing.{hex, money_shown, amount_shown}
use Rattle.xo_showing.specs.Shows.{lower, lowered, lowered_members}
use Rattle.xo_showing.proofs.Amounts.{one_string}
use Rattle.xo_showing.proofs.Bytes.{front_bytes, back_bytes, joined_bytes, one_hex}
use Rattle.xo_json.specs.Parts.{ReadsValue, ReadsWorth, issued_bytes, issued_members}
use Rattle.xo_told.specs.declared.fault.JsonFault.{JsonFault}
use Rattle.xo_told.specs.Reading.{ShowsValue}
use Rattle.xo_showing.proofs.Values.{one_object}
use Rattle.xo_json.proofs.Numbers.{no_text, no_object}
use Rattle.xo_showing.proofs.Printed.{all_low}

-- ---- texts of digits have no letters

unchanged : (t c : ℕ) → c ≤ 57 → lower t ≡ c → t ≡ c
unchanged t c low e = grind (arith, nat_tests)

digits_back : (text ds : List ℕ) → AllDigits 10 ds → map lower text ≡ ds → text ≡ ds
digits_back [] [] d e = refl
digits_back [] (c ∷ ds) d e = cc e
digits_back (t ∷ text) [] d e = cc e
digits_back (t ∷ text) (c ∷ ds) d e =
    let head : lower t ≡ c = cc e in
    let tail : map lower text ≡ ds = cc e in
    let first = unchanged t c (omega (arith, digit_from_value c d.0)) head in
    let rest = digits_back text ds d.1 tail in
    λ i. first i ∷ rest i

pub decimal_shows : (d : Data) (n : ℕ) → n < 2 ^ 64 → d ≡ string (decimal n) → lowered d ≡ string (decimal n)
decimal_shows d n small is = ap lowered is ∙ ap string (all_low (decimal n) (decimal_is_IsNumeral n small).0.1)

pub decimal_shown : (text : List ℕ) (n : ℕ) → n < 2 ^ 64 → lowered (string text) ≡ string (decimal n) → text ≡ decimal n
decimal_shown text n small e =
    digits_back text (decimal n) (decimal_is_IsNumeral n small).0.1 (one_string (map lower text) (decimal n) e)

-- ---- native amounts

pub native_shows : (room drops : ℕ) (d : Data) → drops < 2 ^ 62 → d ≡ string (decimal drops) →
    ShowsValue room Money d (to_be_bytes w64 (2 ^ 62 + drops))
native_shows room drops d small is =
    let bytes : List ℕ = to_be_bytes w64 (2 ^ 62 + drops) in
    record {
      bytes = small-to_be_bytes (2 ^ 62 + drops);
      fits = (Native drops, small, refl);
      shows =
          decimal_shows d drops (omega arith) is
          ∙ ap money_shown (sym ((amount_found bytes).complete (Native drops) (small, refl)));
    }

amount_told : (value : List ℕ) (d : Data) (a : Amount) → IsValid a → value ≡ amount_bytes a →
    lowered d ≡ money_shown (amount_of value) → lowered d ≡ amount_shown a
amount_told value d a valid is shows = shows ∙ ap money_shown ((amount_found value).complete a (valid, is))

native_needs_at : (text value : List ℕ) (a : Amount) → IsValid a → lowered (string text) ≡ amount_shown a →
    (drops : ℕ) × (drops < 2 ^ 62) × (text ≡ decimal drops)
native_needs_at text value (Native drops) valid e = (drops, valid, decimal_shown text drops (omega arith) e)
native_needs_at text value (Issued v currency issuer) valid e = cc e

-- a text that shows an amount is its drops
pub native_needs : (room : ℕ) (text value : List ℕ) → ShowsValue room Money (string text) value →
    (drops : ℕ) × (drops < 2 ^ 62) × (text ≡ decimal drops)
native_needs room text value s =
    let (a, valid, is) = s.fits in
    native_needs_at text value a valid (amount_told value (string text) a valid is s.shows)

-- ---- issued amounts

same_bits : (bits b : ℕ) → bits < 2 ^ 63 → b < 2 ^ 63 → to_be_bytes w64 (2 ^ 63 + bits) ≡ to_be_bytes w64 (2 ^ 63 + b) →
    bits ≡ b
same_bits bits b small low e =
    let wide : 2 ^ 63 + bits ≡ 2 ^ 63 + b =
    sym (from_be_bytes-to_be_bytes_8 (2 ^ 63 + bits) (omega arith))
    ∙ ap (from_be_bytes w64) e
    ∙ from_be_bytes-to_be_bytes_8 (2 ^ 63 + b) (omega arith) in
    omega arith

issued_parts : (bits b : ℕ) (currency issuer c i : List ℕ) → bits < 2 ^ 63 → b < 2 ^ 63 → length currency ≡ 20 →
    length c ≡ 20 →
    issued_bytes bits currency issuer ≡ issued_bytes b c i → (bits ≡ b) × (currency ≡ c) × (issuer ≡ i)
issued_parts bits b currency issuer c i small low lc ld e =
    let one =
    cut_at 8 (issued_bytes bits currency issuer) (to_be_bytes w64 (2 ^ 63 + bits)) (currency ++ issuer) refl refl in
    let other = cut_at 8 (issued_bytes bits currency issuer) (to_be_bytes w64 (2 ^ 63 + b)) (c ++ i) e refl in
    let rest : currency ++ issuer ≡ c ++ i = sym one.1 ∙ other.1 in
    let two = cut_at 20 (currency ++ issuer) currency issuer refl lc in
    let three = cut_at 20 (currency ++ issuer) c i rest ld in
    (same_bits bits b small low (sym one.0 ∙ other.0), sym two.0 ∙ three.0, sym two.1 ∙ three.1)

spelled_so : (value : ℤ) (b : ℕ) (c i : List ℕ) → value ≡ pos b → amount_bytes (Issued value c i) ≡ issued_bytes b c i
spelled_so value b c i same = ap (λ z. to_be_bytes w64 (2 ^ 63 + cast_unsigned w64 z) ++ (c ++ i)) same

issued_of : (bits : ℕ) (currency issuer : List ℕ) (a : Amount) → bits < 2 ^ 63 → length currency ≡ 20 →
    length issuer ≡ 20 → IsValid a → issued_bytes bits currency issuer ≡ amount_bytes a →
    a ≡ Issued (pos bits) currency issuer
issued_of bits currency issuer (Native drops) small lc li valid is =
    absurd (omega (
      arith,
      ap length is,
      length-append (to_be_bytes w64 (2 ^ 63 + bits)) (currency ++ issuer),
      length-append currency issuer,
    ))
issued_of bits currency issuer (Issued value c i) small lc li ((b, same, worth), ld, lj) is =
    let parts =
    issued_parts bits b currency issuer c i small (decimal-below b worth) lc ld (is ∙ spelled_so value b c i same) in
    λ k. Issued ((same ∙ ap pos (sym parts.0)) k) (sym parts.1 k) (sym parts.2 k)

pub issued_shows : (room bits : ℕ) (currency issuer : List ℕ) (ms : Members) → bits < 2 ^ 63 → AreBytes currency →
    length currency ≡ 20 → AreBytes issuer → length issuer ≡ 20 →
    lowered_members ms ≡ issued_members (hex currency) (hex issuer) (string (decimal bits)) →
    IsAmount (issued_bytes bits currency issuer) →
    ShowsValue room Money (object ms) (issued_bytes bits currency issuer)
issued_shows room bits currency issuer ms small bc lc bi li shows (a, valid, is) =
    let bytes : List ℕ = issued_bytes bits currency issuer in
    let whole : amount_of bytes ≡ Some (Issued (pos bits) currency issuer) =
    (amount_found bytes).complete a (valid, is) ∙ ap Some (issued_of bits currency issuer a small lc li valid is) in
    record {
      bytes =
          joined_bytes (to_be_bytes w64 (2 ^ 63 + bits)) (currency ++ issuer) (small-to_be_bytes (2 ^ 63 + bits))
          (joined_bytes currency issuer bc bi);
      fits = (a, valid, is);
      shows = ap object shows ∙ ap money_shown (sym whole);
    }

-- what the members of an issued amount are
pub record IssuedNeeds (ms : Members) (value : List ℕ) : Type 0 where
  pub bits : ℕ
  pub currency : List ℕ
  pub issuer : List ℕ
  pub small : bits < 2 ^ 63
  pub currency_bytes : AreBytes currency
  pub currency_size : length currency ≡ 20
  pub issuer_bytes : AreBytes issuer
  pub issuer_size : length issuer ≡ 20
  pub shows : lowered_members ms ≡ issued_members (hex currency) (hex issuer) (string (decimal bits))
  pub is : value ≡ issued_bytes bits currency issuer

issued_needs_at : (ms : Members) (value : List ℕ) (a : Amount) → IsValid a → AreBytes value → value ≡ amount_bytes a →
    object (lowered_members ms) ≡ amount_shown a → IssuedNeeds ms value
issued_needs_at ms value (Native drops) valid small is e = cc e
issued_needs_at ms value (Issued v c i) ((b, same, worth), lc, li) small is e =
    let spelled : value ≡ issued_bytes b c i = is ∙ spelled_so v b c i same in
    let rest : AreBytes (c ++ i) = back_bytes (to_be_bytes w64 (2 ^ 63 + b)) (c ++ i) (subst AreBytes spelled small) in
    record {
      bits = b;
      currency = c;
      issuer = i;
      small = decimal-below b worth;
      currency_bytes = front_bytes c i rest;
      currency_size = lc;
      issuer_bytes = back_bytes c i rest;
      issuer_size = li;
      shows =
          one_object (lowered_members ms) (issued_members (hex c) (hex i) (string (signed_decimal v))) e
          ∙ ap (λ z. issued_members (hex c) (hex i) (string (signed_decimal z))) same;
      is = spelled;
    }

pub issued_needs : (room : ℕ) (ms : Members) (value : List ℕ) → ShowsValue room Money (object ms) value →
    IssuedNeeds ms value
issued_needs room ms value s =
    let (a, valid, is) = s.fits in
    issued_needs_at ms value a valid s.bytes is (amount_told value (object ms) a valid is s.shows)

-- ---- the members of an object that shows an issued amount

pub record Three (ms : Members) (a b c : Data) : Type 0 where
  pub first : Data
  pub second : Data
  pub third : Data
  pub is : ms ≡ issued_members first second third
  pub first_shows : lowered first ≡ a
  pub second_shows : lowered second ≡ b
  pub third_shows : lowered third ≡ c

pub three_of : (ms : Members) (a b c : Data) → lowered_members ms ≡ issued_members a b c → Three ms a b c
three_of no_members a b c e = cc e
three_of (member k d no_members) a b c e = cc e
three_of (member k d (member l f no_members)) a b c e = cc e
three_of (member k d (member l f (member m g no_members))) a b c e =
    let one : k ≡ codes "currency" = cc e in
    let two : l ≡ codes "issuer" = cc e in
    let three : m ≡ codes "value" = cc e in
    record {
      first = d;
      second = f;
      third = g;
      is = λ j. member (one j) d (member (two j) f (member (three j) g no_members));
      first_shows = cc e;
      second_shows = cc e;
      third_shows = cc e;
    }
three_of (member k d (member l f (member m g (member n h ms)))) a b c e = cc e

-- what shows an amount is a text or an object
pub no_money : (room : ℕ) (d : Data) (value : List ℕ) → as_str d ≡ None → as_object d ≡ None →
    ShowsValue room Money d value → ⊥
no_money room d value no_string none s = let (a, valid, is) = s.fits in at a (amount_told value d a valid is s.shows)
  where
    at : (a : Amount) → lowered d ≡ amount_shown a → ⊥
    at (Native drops) e = no_text d (decimal drops) no_string e
    at (Issued v currency issuer) e =
        no_object d (issued_members (hex currency) (hex issuer) (string (signed_decimal v))) none e

-- the bits that a text shows are one number
pub bits_one : (d : Data) (m n : ℕ) → m < 2 ^ 63 → n < 2 ^ 63 → lowered d ≡ string (decimal m) →
    lowered d ≡ string (decimal n) → m ≡ n
bits_one d m n small low e h =
    decimal_injective m n (omega arith) (omega arith) (one_string (decimal m) (decimal n) (sym e ∙ h))

-- ---- reading an issued amount

-- what the three members of an issued amount show
pub record PartsNeed (room : ℕ) (a b c : Data) (value : List ℕ) : Type 0 where
  pub bits : ℕ
  pub currency : List ℕ
  pub issuer : List ℕ
  pub small : bits < 2 ^ 63
  pub currency_shows : ShowsValue room Account a currency
  pub issuer_shows : ShowsValue room Account b issuer
  pub bits_show : lowered c ≡ string (decimal bits)
  pub is : value ≡ issued_bytes bits currency issuer

pub parts_need : (room : ℕ) (ms : Members) (a b c : Data) (value : List ℕ) → ms ≡ issued_members a b c →
    ShowsValue room Money (object ms) value → PartsNeed room a b c value
parts_need room ms a b c value is s =
    let needs = issued_needs room ms value s in
    let shows : issued_members (lowered a) (lowered b) (lowered c)
    ≡ issued_members (hex needs.currency) (hex needs.issuer) (string (decimal needs.bits)) =
    sym (ap lowered_members is) ∙ needs.shows in
    record {
      bits = needs.bits;
      currency = needs.currency;
      issuer = needs.issuer;
      small = needs.small;
      currency_shows = record { bytes = needs.currency_bytes; fits = needs.currency_size; shows = cc shows };
      issuer_shows = record { bytes = needs.issuer_bytes; fits = needs.issuer_size; shows = cc shows };
      bits_show = cc shows;
      is = needs.is;
    }

-- members that are no three of these names show no amount
pub no_parts : (room : ℕ) (ms : Members) (value : List ℕ) → ((a b c : Data) → ms ≡ issued_members a b c → ⊥) →
    ShowsValue room Money (object ms) value → ⊥
no_parts room ms value none s =
    let needs = issued_needs room ms value s in
    let three = three_of ms (hex needs.currency) (hex needs.issuer) (string (decimal needs.bits)) needs.shows in
    none three.first three.second three.third three.is

account_one : (room : ℕ) (d : Data) (v w : List ℕ) → ShowsValue room Account d v → ShowsValue room Account d w → v ≡ w
account_one room d v w s t = one_hex v w s.bytes t.bytes (one_string (hex_text v) (hex_text w) (sym s.shows ∙ t.shows))

pub issued_read : (room : ℕ) (ms : Members) (a b c : Data) (currency issuer : List ℕ)
    (r : Result (Vec ℕ Global) JsonFault) → ms ≡ issued_members a b c →
    ShowsValue room Account a currency → ShowsValue room Account b issuer → ReadsWorth c currency issuer r →
    ReadsValue room Money (object ms) r
issued_read room ms a b c currency issuer (Ok bytes) is sa sb w =
    let told : lowered_members ms ≡ issued_members (hex currency) (hex issuer) (string (decimal w.bits)) =
    ap lowered_members is ∙ (λ i. issued_members (sa.shows i) (sb.shows i) (w.shows i)) in
    subst (ShowsValue room Money (object ms)) (sym w.is) (issued_shows room w.bits currency issuer ms w.small sa.bytes
    sa.fits sb.bytes sb.fits told (subst IsAmount w.is w.amount))
issued_read room ms a b c currency issuer (Err fault) is sa sb fails = λ other. (
  (fails other).0,
  λ value s.
      let needs = parts_need room ms a b c value is s in
      let one : needs.currency ≡ currency = account_one room a needs.currency currency needs.currency_shows sa in
      let two : needs.issuer ≡ issuer = account_one room b needs.issuer issuer needs.issuer_shows sb in
      (fails other).1 value (record {
        bits = needs.bits;
        small = needs.small;
        shows = needs.bits_show;
        is = needs.is ∙ (λ i. issued_bytes needs.bits (one i) (two i));
        amount = s.fits;
      }),
)
