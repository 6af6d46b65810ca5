-- Members that are put one after another.
use Rattle.std.proofs.Common.{◌≡◌, ℕ, List, Ordering, Less, Equal, Greater, nat_cmp, is_eq, refl, sym, ap, ◌∙◌}
use Rattle.std.proofs.lemmas.Cmp.{nat_list_cmp_total}
use Rattle.std.proofs.lemmas.Map.Text.{is_eq-slice_cmp}
use Rattle.std.proofs.lemmas.Slice.Eq.{bytes_eq-Decides}
use Rattle.std.specs.Cmp.Lexicographic.{slice_cmp}
use Rattle.std.specs.Ordering.{ordering_reverse}
use Rattle.serde_json.specs.Data.{Data, Members, no_members, member, put}
use Rattle.xo_showing.specs.Laws.{AnyOrder}

abbrev pub Compares : List ℕ → List ℕ → Ordering → Type 0
Compares k l o = slice_cmp nat_cmp k l ≡ o

pub turned : (k l : List ℕ) (o : Ordering) → Compares k l o → Compares l k (ordering_reverse o)
turned k l o e = nat_list_cmp_total.antisymm l k ∙ ap ordering_reverse e

pub same : (k l : List ℕ) → Compares k l Equal → k ≡ l
same k l e = (bytes_eq-Decides k l).0 (sym (is_eq-slice_cmp k l) ∙ ap is_eq e)

-- a key goes in front of another, over it, or behind it
pub in_front : (k l : List ℕ) (d e : Data) (ms : Members) → Compares k l Less →
    put k d (member l e ms) ≡ member k d (member l e ms)
in_front k l d e ms is = rw is refl

pub over : (k l : List ℕ) (d e : Data) (ms : Members) → Compares k l Equal → put k d (member l e ms) ≡ member l d ms
over k l d e ms is = rw is refl

pub behind : (k l : List ℕ) (d e : Data) (ms : Members) → Compares k l Greater →
    put k d (member l e ms) ≡ member l e (put k d ms)
behind k l d e ms is = rw is refl

-- two keys before a member, of which the first is the lower
both_in_front : (k l m : List ℕ) (d e f : Data) (ms : Members) → Compares k l Less → Compares k m Less →
    Compares l m Less →
    put k d (put l e (member m f ms)) ≡ put l e (put k d (member m f ms))
both_in_front k l m d e f ms kl km lm =
    ap (put k d) (in_front l m e f ms lm) ∙ in_front k l d e (member m f ms) kl
    ∙ sym
    (ap (put l e) (in_front k m d f ms km)
    ∙ behind l k e d (member m f ms) (turned k l Less kl)
    ∙ ap (member k d) (in_front l m e f ms lm))

-- one key before a member, and one over it or behind it
one_in_front : (k l m : List ℕ) (d e f : Data) (ms : Members) (o : Ordering) → Compares k m Less → Compares l m o →
    Compares l k Greater →
    put k d (member m f ms) ≡ member k d (member m f ms) →
    put k d (put l e (member m f ms)) ≡ member k d (put l e (member m f ms)) →
    put k d (put l e (member m f ms)) ≡ put l e (put k d (member m f ms))
one_in_front k l m d e f ms o km lm lk there after =
    after ∙ sym (ap (put l e) there ∙ behind l k e d (member m f ms) lk)

-- the keys put into a member and more, by how they stand to it
orders : (k l m : List ℕ) (d e f : Data) (ms : Members) (a b c : Ordering) → Compares k m a → Compares l m b →
    Compares k l c → (k ≡ l → ⊥) →
    put k d (put l e ms) ≡ put l e (put k d ms) → put k d (put l e (member m f ms)) ≡ put l e (put k d (member m f ms))
orders k l m d e f ms Less Less Less km lm kl apart more = both_in_front k l m d e f ms kl km lm
orders k l m d e f ms Less Less Equal km lm kl apart more = absurd (apart (same k l kl))
orders k l m d e f ms Less Less Greater km lm kl apart more =
    sym (both_in_front l k m e d f ms (turned k l Greater kl) lm km)
orders k l m d e f ms Less Equal c km lm kl apart more =
    let lk : Compares l k Greater = ap (λ x. slice_cmp nat_cmp x k) (same l m lm) ∙ turned k m Less km in
    one_in_front k l m d e f ms Equal km lm lk (in_front k m d f ms km)
    (ap (put k d) (over l m e f ms lm) ∙ in_front k m d e ms km ∙ sym (ap (member k d) (over l m e f ms lm)))
orders k l m d e f ms Less Greater c km lm kl apart more =
    let lk : Compares l k Greater = turned k l Less (nat_list_cmp_total.trans k m l km (turned l m Greater lm)) in
    one_in_front k l m d e f ms Greater km lm lk (in_front k m d f ms km)
    (ap (put k d) (behind l m e f ms lm)
    ∙ in_front k m d f (put l e ms) km
    ∙ sym (ap (member k d) (behind l m e f ms lm)))
orders k l m d e f ms Equal Less c km lm kl apart more =
    let far : Compares k l Greater = ap (λ x. slice_cmp nat_cmp x l) (same k m km) ∙ turned l m Less lm in
    sym (one_in_front l k m e d f ms Equal lm km far (in_front l m e f ms lm)
    (ap (put l e) (over k m d f ms km) ∙ in_front l m e d ms lm ∙ sym (ap (member l e) (over k m d f ms km))))
orders k l m d e f ms Equal Equal c km lm kl apart more = absurd (apart (same k m km ∙ sym (same l m lm)))
orders k l m d e f ms Equal Greater c km lm kl apart more =
    ap (put k d) (behind l m e f ms lm) ∙ over k m d f (put l e ms) km
    ∙ sym (ap (put l e) (over k m d f ms km) ∙ behind l m e d ms lm)
orders k l m d e f ms Greater Less c km lm kl apart more =
    let far : Compares k l Greater = turned l k Less (nat_list_cmp_total.trans l m k lm (turned k m Greater km)) in
    sym (one_in_front l k m e d f ms Greater lm km far (in_front l m e f ms lm)
    (ap (put l e) (behind k m d f ms km)
    ∙ in_front l m e f (put k d ms) lm
    ∙ sym (ap (member l e) (behind k m d f ms km))))
orders k l m d e f ms Greater Equal c km lm kl apart more =
    ap (put k d) (over l m e f ms lm) ∙ behind k m d e ms km
    ∙ sym (ap (put l e) (behind k m d f ms km) ∙ over l m e f (put k d ms) lm)
orders k l m d e f ms Greater Greater c km lm kl apart more =
    ap (put k d) (behind l m e f ms lm) ∙ behind k m d f (put l e ms) km ∙ ap (member m f) more
    ∙ sym (ap (put l e) (behind k m d f ms km) ∙ behind l m e f (put k d ms) lm)

-- keys into no members
two : (k l : List ℕ) (d e : Data) (c : Ordering) → Compares k l c → (k ≡ l → ⊥) →
    put k d (member l e no_members) ≡ put l e (member k d no_members)
two k l d e Less kl apart = in_front k l d e no_members kl ∙ sym (behind l k e d no_members (turned k l Less kl))
two k l d e Equal kl apart = absurd (apart (same k l kl))
two k l d e Greater kl apart = behind k l d e no_members kl ∙ sym (in_front l k e d no_members (turned k l Greater kl))

pub any_order : AnyOrder
any_order k l d e no_members apart = two k l d e _ refl apart
any_order k l d e (member m f ms) apart = orders k l m d e f ms _ _ _ refl refl refl apart (any_order k l d e ms apart)
