-- What a text reads as has its keys in order, each once.
use Rattle.std.proofs.Common.{◌≡◌, ℕ, List, Ordering, Less, Equal, Greater, nat_cmp, refl, ap, subst, ◌∙◌, Option, Some}
use Rattle.std.proofs.Common.{None}
use Rattle.std.specs.Option.{option_and_then, option_map}
use Rattle.std.proofs.lemmas.Cmp.{nat_list_cmp_total}
use Rattle.std.specs.Cmp.Lexicographic.{slice_cmp}
use Rattle.std.specs.Ordering.{match_ordering}
use Rattle.json.specs.Json as json
use Rattle.json.specs.Lex.{tokens}
use Rattle.serde_json.specs.Data.{Data, null, boolean, number, string, array, object, Items, no_items, item, Members}
use Rattle.serde_json.specs.Data.{no_members, member, put}
use Rattle.serde_json.specs.Find.{get_member}
use Rattle.serde_json.specs.Read.{of_json, of_items, of_members, number_of, max_depth, read}
use Rattle.xo_fields.proofs.Cases.{some_same}
use Rattle.xo_showing.proofs.Members.{Compares, turned, same}
use Rattle.xo_showing.specs.Shows.{lowered, lowered_members}
use Rattle.hk_base.proofs.Options.{and_then_some, map_some}

-- a key below those of members
abbrev pub Below : List ℕ → Members → Type 0
Below k no_members = Unit {0}
Below k (member l e ms) = Compares k l Less × Below k ms

abbrev mutual
  pub IsOrdered : Data → Type 0
  IsOrdered null = Unit {0}
  IsOrdered (boolean b) = Unit {0}
  IsOrdered (number n) = Unit {0}
  IsOrdered (string text) = Unit {0}
  IsOrdered (array ds) = AreOrdered ds
  IsOrdered (object ms) = InOrder ms

  pub AreOrdered : Items → Type 0
  AreOrdered no_items = Unit {0}
  AreOrdered (item d ds) = IsOrdered d × AreOrdered ds

  pub InOrder : Members → Type 0
  InOrder no_members = Unit {0}
  InOrder (member k d ms) = Below k ms × IsOrdered d × InOrder ms

lower_key : (k l : List ℕ) (ms : Members) → Compares k l Less → Below l ms → Below k ms
lower_key k l no_members kl b = tt
lower_key k l (member m d ms) kl b = (nat_list_cmp_total.trans k l m kl b.0, lower_key k l ms kl b.1)

put_below : (j k : List ℕ) (d : Data) (ms : Members) → Compares j k Less → Below j ms → Below j (put k d ms)
put_below j k d no_members jk b = (jk, tt)
put_below j k d (member l e ms) jk b = at (put_below j k d ms jk b.1) (slice_cmp nat_cmp k l)
  where
    at : Below j (put k d ms) → (o : Ordering) →
        Below j (match_ordering o (member k d (member l e ms)) (member l d ms) (member l e (put k d ms)))
    at more Less = (jk, b)
    at more Equal = b
    at more Greater = (b.0, more)

put_ordered : (k : List ℕ) (d : Data) (ms : Members) → IsOrdered d → InOrder ms → InOrder (put k d ms)
put_ordered k d no_members od h = (tt, od, tt)
put_ordered k d (member l e ms) od (b, oe, h) = at (put_ordered k d ms od h) (slice_cmp nat_cmp k l) refl
  where
    at : InOrder (put k d ms) → (o : Ordering) → Compares k l o →
        InOrder (match_ordering o (member k d (member l e ms)) (member l d ms) (member l e (put k d ms)))
    at more Less kl = ((kl, lower_key k l ms kl b), od, (b, oe, h))
    at more Equal kl = (b, od, h)
    at more Greater kl = (put_below l k d ms (turned k l Greater kl) b, oe, more)

mutual
  value_ordered : (j : json.Json) (d : Data) → of_json j ≡ Some d → IsOrdered d
  value_ordered json.null d e = subst IsOrdered (some_same null d e) tt
  value_ordered (json.boolean b) d e = subst IsOrdered (some_same (boolean b) d e) tt
  value_ordered (json.number s) d e = let made = map_some number (number_of s) d e in subst IsOrdered made.2 tt
  value_ordered (json.string s) d e = subst IsOrdered (some_same (string s) d e) tt
  value_ordered (json.array js) d e =
      let made = map_some array (of_items js) d e in subst IsOrdered made.2 (items_ordered js made.0 made.1)
  value_ordered (json.object ms) d e =
      let made = map_some object (of_members ms no_members) d e in
      subst IsOrdered made.2 (members_ordered ms no_members made.0 tt made.1)

  items_ordered : (js : json.Items) (ds : Items) → of_items js ≡ Some ds → AreOrdered ds
  items_ordered json.no_items ds e = subst AreOrdered (some_same no_items ds e) tt
  items_ordered (json.item j js) ds e =
      let first = and_then_some (λ d. option_map (item d) (of_items js)) (of_json j) ds e in
      let rest = map_some (item first.0) (of_items js) ds first.2 in
      subst AreOrdered rest.2 (value_ordered j first.0 first.1, items_ordered js rest.0 rest.1)

  members_ordered : (js : json.Members) (found ms : Members) → InOrder found → of_members js found ≡ Some ms →
      InOrder ms
  members_ordered json.no_members found ms h e = subst InOrder (some_same found ms e) h
  members_ordered (json.member k j js) found ms h e =
      let first = and_then_some (λ d. of_members js (put k d found)) (of_json j) ms e in
      members_ordered js (put k first.0 found) ms (put_ordered k first.0 found (value_ordered j first.0 first.1) h)
      first.2

made_ordered : (o : Option json.Json) (d : Data) → option_and_then of_json o ≡ Some d → IsOrdered d
made_ordered o d e = let made = and_then_some of_json o d e in value_ordered made.0 d made.2

pub read_ordered : (text : List ℕ) (d : Data) → read text ≡ Some d → IsOrdered d
read_ordered text d e =
    made_ordered (option_and_then (λ p. json.if_last p.0 p.1) (json.value max_depth (tokens text))) d e

-- ---- what a key below those of members does

pub put_first : (k : List ℕ) (d : Data) (ms : Members) → Below k ms →
    put k d (lowered_members ms) ≡ member k d (lowered_members ms)
put_first k d no_members b = refl
put_first k d (member l e ms) b =
    ap (λ o.
    match_ordering o (member k d (member l (lowered e) (lowered_members ms))) (member l d (lowered_members ms))
    (member l (lowered e) (put k d (lowered_members ms)))) b.0

pub none_below : (k : List ℕ) (ms : Members) → Below k ms → get_member k (lowered_members ms) ≡ None
none_below k no_members b = refl
none_below k (member l e ms) b =
    ap
    (λ o. match_ordering o (get_member k (lowered_members ms)) (Some (lowered e)) (get_member k (lowered_members ms)))
    b.0
    ∙ none_below k ms b.1

-- ---- what holds of every member

abbrev pub AllMembers : (List ℕ → Data → Type 0) → Members → Type 0
AllMembers P no_members = Unit {0}
AllMembers P (member k d ms) = P k d × AllMembers P ms

pub put_all : (P : List ℕ → Data → Type 0) (k : List ℕ) (d : Data) (ms : Members) → P k d → AllMembers P ms →
    AllMembers P (put k d ms)
put_all P k d no_members p h = (p, tt)
put_all P k d (member l e ms) p (q, h) = at (put_all P k d ms p h) (slice_cmp nat_cmp k l) refl
  where
    at : AllMembers P (put k d ms) → (o : Ordering) → Compares k l o →
        AllMembers P (match_ordering o (member k d (member l e ms)) (member l d ms) (member l e (put k d ms)))
    at more Less kl = (p, (q, h))
    at more Equal kl = (subst (λ m. P m d) (same k l kl) p, h)
    at more Greater kl = (q, more)

pub all_lowered : (P : List ℕ → Data → Type 0) (ms : Members) → AllMembers P (lowered_members ms) →
    AllMembers (λ k d. P k (lowered d)) ms
all_lowered P no_members h = tt
all_lowered P (member k d ms) (p, h) = (p, all_lowered P ms h)
