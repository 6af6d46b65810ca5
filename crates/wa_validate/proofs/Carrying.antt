-- Labels that carry a result, one after the other, and the operands of a `select`.
use Rattle.std.proofs.Common.{◌≡◌, ℕ, suc, ◌+◌, ◌^◌, ◌<◌, ◌≤◌, length, get_or, drop, drop-cons, add-one, reverse, arith}
use Rattle.std.proofs.Common.{nat_le, nat_lt, List, [], ◌∷◌, ◌++◌, Option, Some, None, Bool, true, false, ◌&&◌}
use Rattle.std.proofs.Common.{slice_get, sym, ◌∙◌, ap, refl}
use Rattle.std.proofs.Math.Nat.{pow-le-pow_right}
use Rattle.std.proofs.lemmas.Bool.Decides.{nat_tests}
use Rattle.std.proofs.lemmas.List.{reverse-append, nil_from_length}
use Rattle.wa_ops.specs.declared.op.ValueType.{ValueType}
use Rattle.wa_ops.specs.Typing.{carries, all_carry, Slot, Stack, known, any, loosened, one_of, selected, and_then, pop}
use Rattle.wa_ops.specs.Typing.{pop_all}
use Rattle.wa_validate.specs.Slots.{top_of}

pub one_more : (labels : List (Option ValueType)) (carried : Option ValueType) (listed : List ℕ) (i : ℕ) →
    i < length listed →
    all_carry labels carried (drop i listed)
    ≡ (carries carried (slice_get labels (get_or listed i 0)) && all_carry labels carried (drop (i + 1) listed))
one_more labels carried listed i h =
    ap (all_carry labels carried)
    (drop-cons listed i 0 h ∙ ap (λ n. get_or listed i 0 ∷ drop n listed) (sym (add-one i)))

pub carries_one : (labels : List (Option ValueType)) (carried : Option ValueType) (listed : List ℕ) (i : ℕ)
    (found told : Bool) → i < length listed → found ≡ carries carried (slice_get labels (get_or listed i 0)) →
    found ≡ told →
    all_carry labels carried (drop i listed) ≡ (told && all_carry labels carried (drop (i + 1) listed))
carries_one labels carried listed i found told h e k =
    one_more labels carried listed i h ∙ ap (λ b. b && all_carry labels carried (drop (i + 1) listed)) (sym e ∙ k)

-- the operands that a `select` takes, one by one
abbrev pub select_by : Option (Slot × Stack) → Option Stack
select_by None = None
select_by (Some (second, below)) =
    and_then (top_of below.slots below.loose) (λ first.
    and_then (one_of second first.0) (λ left. Some (record { slots = left ∷ first.1.slots; loose = first.1.loose })))

pub select_is : (slots : List Slot) (loose : Bool) → selected slots loose ≡ select_by (top_of slots loose)
select_is [] true = refl
select_is [] false = refl
select_is (any ∷ []) true = refl
select_is (known kind ∷ []) true = refl
select_is (slot ∷ []) false = refl
select_is (slot ∷ other ∷ slots) loose = refl

pub select_second : (slots : List Slot) (loose : Bool) (second : Slot) (below : Stack) →
    top_of slots loose ≡ Some (second, below) → top_of below.slots below.loose ≡ None → selected slots loose ≡ None
select_second slots loose second below e h =
    select_is slots loose
    ∙ ap select_by e
    ∙ ap (λ o.
    and_then o (λ first.
    and_then (one_of second first.0) (λ left. Some (record { slots = left ∷ first.1.slots; loose = first.1.loose })))) h

-- operands taken from the last
pub last_taken : (rest left : List ValueType) (kind : ValueType) (stack : Stack) (after : Option Stack) →
    rest ≡ left ++ kind ∷ [] → pop kind stack ≡ after →
    pop_all (reverse rest) stack ≡ and_then after (pop_all (reverse left))
last_taken rest left kind stack after e h =
    ap (λ kinds. pop_all (reverse kinds) stack) e
    ∙ ap (λ kinds. pop_all kinds stack) (reverse-append left (kind ∷ []))
    ∙ ap (λ o. and_then o (pop_all (reverse left))) h

pub none_left : (rest : List ValueType) (stack : Stack) → length rest ≡ 0 → pop_all (reverse rest) stack ≡ Some stack
none_left rest stack h = ap (λ kinds. pop_all (reverse kinds) stack) (nil_from_length rest h)

-- two to a power above the greatest width
pub not_aligned : (align width : ℕ) → 4 ≤ align → width < 16 → false ≡ nat_le (2 ^ align) width
not_aligned align width a w =
    let high : 2 ^ 4 ≤ 2 ^ align = pow-le-pow_right (omega arith) a in grind (arith, nat_tests)

pub not_less : (align : ℕ) → 4 ≤ align → nat_lt align 4 ≡ false
not_less align a = grind (arith, nat_tests)
