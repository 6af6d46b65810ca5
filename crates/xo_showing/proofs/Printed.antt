-- A showing has no float, is not deep, and has all its texts in lower case.
use Rattle.std.proofs.Common.{◌≡◌, ℕ, zero, suc, ◌+◌, ◌*◌, ◌/◌, ◌%◌, ◌<◌, ◌≤◌, ◌==◌, ◌^◌, Bool, true, false, List, []}
use Rattle.std.proofs.Common.{◌∷◌, map, get_or, nat_le, codes, Ordering, Less, Equal, Greater, nat_cmp, refl, sym, ap}
use Rattle.std.proofs.Common.{subst, ◌∙◌, arith, Some}
use Rattle.std.specs.Fmt.{decimal, signed_decimal}
use Rattle.std.specs.Str.Parse.{AllDigits}
use Rattle.std.specs.List.{list_all}
use Rattle.std.specs.Cmp.Lexicographic.{slice_cmp}
use Rattle.std.specs.Ordering.{match_ordering}
use Rattle.std.proofs.lemmas.Bool.{and_parts, or_from, or_parts}
use Rattle.std.proofs.lemmas.Bool.Decides.{nat_tests, Decides-eqb}
use Rattle.std.proofs.lemmas.Fmt.{decimal_is_IsNumeral}
use Rattle.std.proofs.lemmas.Str.Parse.{digit_from_value}
use Rattle.serde_json.specs.Data.{Data, number, string, array, object, unsigned, Items, item, Members, no_members}
use Rattle.serde_json.specs.Data.{member, put, depth, items_depth, members_depth}
use Rattle.serde_json.specs.Read.{read, max_depth}
use Rattle.serde_json.specs.Written.{has_float, items_have_float, members_have_float, compact_text}
use Rattle.hk_base.specs.Hexadecimal.{hex_text, lower_digit}
use Rattle.hk_reading.specs.Amounts.{amount_of}
use Rattle.hk_reading.proofs.AmountsFound.{amount_found}
use Rattle.xo_fields.specs.declared.amount.Amount.{Amount}
use Rattle.xo_fields.specs.declared.amount.Amount.TheVariants.{Native, Issued}
use Rattle.xo_fields.specs.declared.form.Form.{Form}
use Rattle.xo_fields.specs.declared.form.Form.TheVariants.{Fixed, Money, Blob, Account, Object, Array}
use Rattle.xo_fields.specs.Amount.{IsAmount, IsValid}
use Rattle.xo_fields.specs.Field as fields
use Rattle.xo_fields.proofs.AmountBytes.{decimal-below}
use Rattle.xo_fields.proofs.Cases.{pick}
use Rattle.xo_list.specs.Item.{Item}
use Rattle.xo_list.specs.List.{Fits, ListFits, IsList}
use Rattle.xo_list.specs.Value.{IsValue}
use Rattle.xo_list.proofs.ListLemmas.{listed}
use Rattle.xo_showing.specs.Bytes.{number_of_bytes}
use Rattle.xo_showing.specs.Key.{key}
use Rattle.xo_showing.specs.Showing.{hex, amount_shown, money_shown, fixed_shown, value_shown, members, elements, shown}
use Rattle.xo_showing.specs.Showing.{showing}
use Rattle.xo_showing.specs.Shows.{lower, lowered, lowered_items, lowered_members, Shows}
use Rattle.xo_showing.proofs.Fields.{field_shown}
use Rattle.xo_showing.proofs.Nested.{fields_are, elements_are}

-- ---- texts in lower case

abbrev pub IsLow : ℕ → Type 0
IsLow character = lower character ≡ character

any_passes : (test : ℕ → Bool) (xs : List ℕ) → list_all test xs ≡ true → test 0 ≡ true → (i : ℕ) →
    test (get_or xs i 0) ≡ true
any_passes test [] all none i = none
any_passes test (x ∷ xs) all none zero = (and_parts (test x) (list_all test xs) all).0
any_passes test (x ∷ xs) all none (suc i) = any_passes test xs (and_parts (test x) (list_all test xs) all).1 none i

low_if : (c : ℕ) → (lower c == c) ≡ true → IsLow c
low_if c e = (Decides-eqb (lower c) c).0 e

digit_low : (n : ℕ) → IsLow (lower_digit n)
digit_low n = low_if (lower_digit n) (any_passes (λ c. lower c == c) (codes "0123456789abcdef") refl refl n)

pub hex_low : (bytes : List ℕ) → map lower (hex_text bytes) ≡ hex_text bytes
hex_low [] = refl
hex_low (byte ∷ bytes) = λ i. digit_low (byte / 16) i ∷ digit_low (byte % 16) i ∷ hex_low bytes i

numeral_low : (c : ℕ) → 48 ≤ c → c ≤ 57 → IsLow c
numeral_low c low high = grind (arith, nat_tests)

pub all_low : (ds : List ℕ) → AllDigits 10 ds → map lower ds ≡ ds
all_low [] d = refl
all_low (c ∷ ds) d =
    let range : _ = digit_from_value c d.0 in
    let here : IsLow c = numeral_low c (omega (arith, range)) (omega (arith, range)) in λ i. here i ∷ all_low ds d.1 i

pub decimal_low : (n : ℕ) → n < 2 ^ 64 → map lower (decimal n) ≡ decimal n
decimal_low n small = all_low (decimal n) (decimal_is_IsNumeral n small).0.1

-- ---- values

pub record Good (deep : ℕ) (d : Data) : Type 0 where
  pub plain : has_float d ≡ false
  pub shallow : depth d ≤ deep
  pub low : lowered d ≡ d

pub record GoodMembers (deep : ℕ) (ms : Members) : Type 0 where
  pub plain : members_have_float ms ≡ false
  pub shallow : members_depth ms ≤ deep
  pub low : lowered_members ms ≡ ms

pub record GoodItems (deep : ℕ) (ds : Items) : Type 0 where
  pub plain : items_have_float ds ≡ false
  pub shallow : items_depth ds ≤ deep
  pub low : lowered_items ds ≡ ds

first_low : (k : List ℕ) (d e : Data) (ms ns : Members) → member k d ms ≡ member k e ns → (d ≡ e) × (ms ≡ ns)
first_low k d e ms ns h = (cc, cc)

text_good : (s : List ℕ) (deep : ℕ) → map lower s ≡ s → Good deep (string s)
text_good s deep e = record { plain = refl; shallow = omega arith; low = ap string e }

hex_good : (bytes : List ℕ) (deep : ℕ) → Good deep (hex bytes)
hex_good bytes deep = text_good (hex_text bytes) deep (hex_low bytes)

no_members_good : (deep : ℕ) → GoodMembers deep no_members
no_members_good deep = record { plain = refl; shallow = omega arith; low = refl }

member_good : (deep : ℕ) (k : List ℕ) (d : Data) (ms : Members) → Good deep d → GoodMembers deep ms →
    GoodMembers deep (member k d ms)
member_good deep k d ms g h = record {
  plain = or_from (has_float d) (members_have_float ms) g.plain h.plain;
  shallow = omega (arith, g.shallow, h.shallow);
  low = λ i. member k (g.low i) (h.low i);
}

first_good : (deep : ℕ) (k : List ℕ) (d : Data) (ms : Members) → GoodMembers deep (member k d ms) →
    Good deep d × GoodMembers deep ms
first_good deep k d ms h =
    let floats : (has_float d ≡ false) × (members_have_float ms ≡ false) =
    or_parts (has_float d) (members_have_float ms) h.plain in
    let lows : (lowered d ≡ d) × (lowered_members ms ≡ ms) = first_low k (lowered d) d (lowered_members ms) ms h.low in (
      record { plain = floats.0; shallow = omega (arith, h.shallow); low = lows.0 },
      record { plain = floats.1; shallow = omega (arith, h.shallow); low = lows.1 },
    )

by_order : (P : Members → Type 0) (o : Ordering) (a b c : Members) → P a → P b → P c → P (match_ordering o a b c)
by_order P Less a b c x y z = x
by_order P Equal a b c x y z = y
by_order P Greater a b c x y z = z

put_good : (deep : ℕ) (k : List ℕ) (d : Data) (ms : Members) → Good deep d → GoodMembers deep ms →
    GoodMembers deep (put k d ms)
put_good deep k d no_members g h = member_good deep k d no_members g h
put_good deep k d (member l e ms) g h =
    let parts : Good deep e × GoodMembers deep ms = first_good deep l e ms h in
    by_order (GoodMembers deep) (slice_cmp nat_cmp k l) (member k d (member l e ms)) (member l d ms)
    (member l e (put k d ms))
    (member_good deep k d (member l e ms) g h) (member_good deep l d ms g parts.1)
    (member_good deep l e (put k d ms) parts.0 (put_good deep k d ms g parts.1))

object_good : (deep : ℕ) (ms : Members) → GoodMembers deep ms → Good (suc deep) (object ms)
object_good deep ms g = record { plain = g.plain; shallow = omega (arith, g.shallow); low = ap object g.low }

deeper : (deep more : ℕ) (d : Data) → deep ≤ more → Good deep d → Good more d
deeper deep more d le g = record { plain = g.plain; shallow = omega (arith, g.shallow); low = g.low }

-- ---- what shows

amount_good : (a : Amount) (deep : ℕ) → 1 ≤ deep → IsValid a → Good deep (amount_shown a)
amount_good (Native drops) deep some valid = text_good (decimal drops) deep (decimal_low drops (omega arith))
amount_good (Issued value currency issuer) deep some ((bits, is, decimal_bits), c, i) =
    let small : bits < 9223372036854775808 = decimal-below bits decimal_bits in
    let low : map lower (signed_decimal value) ≡ signed_decimal value =
    subst (λ z. map lower (signed_decimal z) ≡ signed_decimal z) (sym is) (decimal_low bits (omega arith)) in
    deeper 1 deep (amount_shown (Issued value currency issuer)) some
    (object_good 0 _ (member_good 0 (codes "currency") (hex currency) _ (hex_good currency 0)
    (member_good 0 (codes "issuer") (hex issuer) _ (hex_good issuer 0)
    (member_good 0 (codes "value") (string (signed_decimal value)) no_members (text_good (signed_decimal value) 0 low)
    (no_members_good 0)))))

money_good : (v : List ℕ) (deep : ℕ) → 1 ≤ deep → IsAmount v → Good deep (money_shown (amount_of v))
money_good v deep some (a, valid, is) =
    subst (λ o. Good deep (money_shown o)) (sym ((amount_found v).complete a (valid, is)))
    (amount_good a deep some valid)

fixed_good : (n : ℕ) (v : List ℕ) (deep : ℕ) → Good deep (fixed_shown n v)
fixed_good n v deep =
    pick (Good deep) (nat_le n 4) (number (unsigned (number_of_bytes v))) (hex v)
    (λ e. record { plain = refl; shallow = omega arith; low = refl }) (λ e. hex_good v deep)

module _ (show : Form → List ℕ → Data) (fits : Form → List ℕ → Type 0) (deep : ℕ)
    (each : (form : Form) (v : List ℕ) → fits form v → Good deep (show form v)) where
  field_good : (in_array : Bool) (last : ℕ) (x : Item) → Fits fits in_array last x → Good deep (field_shown show x)
  field_good in_array last x f =
      subst (λ o. Good deep (value_shown show o x.value)) (sym f.known) (each f.form x.value f.value)

  members_good : (in_array : Bool) (last : ℕ) (xs : List Item) → ListFits fits in_array last xs →
      GoodMembers deep (members show xs)
  members_good in_array last [] fit = no_members_good deep
  members_good in_array last (x ∷ xs) (f, fit) =
      put_good deep (key x.field) (field_shown show x) (members show xs) (field_good in_array last x f)
      (members_good in_array (fields.number x.field) xs fit)

  elements_good : (last : ℕ) (xs : List Item) → ListFits fits true last xs → GoodItems (suc deep) (elements show xs)
  elements_good last [] fit = record { plain = refl; shallow = omega arith; low = refl }
  elements_good last (x ∷ xs) (f, fit) =
      let here : Good (suc deep) (object (members show (x ∷ []))) =
      object_good deep (members show (x ∷ []))
      (put_good deep (key x.field) (field_shown show x) no_members (field_good true last x f) (no_members_good deep)) in
      let more : GoodItems (suc deep) (elements show xs) = elements_good (fields.number x.field) xs fit in
      record {
        plain =
            or_from (has_float (object (members show (x ∷ [])))) (items_have_float (elements show xs)) here.plain
            more.plain;
        shallow = omega (arith, here.shallow, more.shallow);
        low = λ i. item (here.low i) (more.low i);
      }

value_good : (room : ℕ) (form : Form) (v : List ℕ) → IsValue room form v → Good (2 * room + 1) (shown room form v)
value_good room (Fixed n) v h = fixed_good n v (2 * room + 1)
value_good room Money v h = money_good v (2 * room + 1) (omega arith) h
value_good room Blob v h = hex_good v (2 * room + 1)
value_good room Account v h = hex_good v (2 * room + 1)
value_good zero Object v h = absurd h
value_good zero Array v h = absurd h
value_good (suc room) Object v (xs, h) =
    let fit : ListFits (IsValue room) false 0 xs = (listed (IsValue room) false 0 xs v h).0 in
    let good : GoodMembers (2 * room + 1) (members (shown room) xs) =
    members_good (shown room) (IsValue room) (2 * room + 1) (value_good room) false 0 xs fit in
    subst (λ ys. Good (2 * suc room + 1) (object (members (shown room) ys))) (sym (fields_are room xs v h))
    (deeper (suc (2 * room + 1)) (2 * suc room + 1) (object (members (shown room) xs)) (omega arith)
    (object_good (2 * room + 1) (members (shown room) xs) good))
value_good (suc room) Array v (xs, h) =
    let fit : ListFits (IsValue room) true 0 xs = (listed (IsValue room) true 0 xs v h).0 in
    let good : GoodItems (suc (2 * room + 1)) (elements (shown room) xs) =
    elements_good (shown room) (IsValue room) (2 * room + 1) (value_good room) 0 xs fit in
    subst (λ ys. Good (2 * suc room + 1) (array (elements (shown room) ys))) (sym (elements_are room xs v h))
    (record { plain = good.plain; shallow = omega (arith, good.shallow); low = ap array good.low })

showing_good : (xs : List Item) → IsList xs → Good 22 (showing xs)
showing_good xs fit =
    object_good 21 (members (shown 10) xs) (members_good (shown 10) (IsValue 10) 21 (value_good 10) false 0 xs fit)

-- ---- the text of a showing

pub text_is : (d : Data) (xs : List Item) (text : List ℕ) → IsList xs → d ≡ showing xs →
    (has_float d ≡ false → text ≡ compact_text d) → text ≡ compact_text (showing xs)
text_is d xs text fit is written = written (ap has_float is ∙ (showing_good xs fit).plain) ∙ ap compact_text is

pub text_shows : (d : Data) (xs : List Item) (text : List ℕ) → IsList xs → d ≡ showing xs →
    (depth d ≤ max_depth → read text ≡ Some d) → Shows text xs
text_shows d xs text fit is back =
    let good : Good 22 (showing xs) = showing_good xs fit in
    (d, back (omega (arith, good.shallow, ap depth is)), ap lowered is ∙ good.low)
