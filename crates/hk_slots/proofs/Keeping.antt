-- Blobs that are kept beside those of the parts.
use Rattle.std.proofs.Common.{◌≡◌, ◌≢◌, ℕ, ◌<◌, ◌≤◌, ◌==◌, ◌||◌, Bool, true, false, List, [], ◌∷◌, ◌++◌, length, refl}
use Rattle.std.proofs.Common.{sym, ap, subst, ◌∙◌, arith, Option, Some, None, slice_set, All, IfSome, get_or}
use Rattle.std.proofs.Common.{length-append}
use Rattle.std.proofs.lemmas.Bool.{or_parts as neither}
use Rattle.std.proofs.lemmas.Bool.Decides.{nat_tests}
use Rattle.std.proofs.lemmas.Grind.{common_steps}
use Rattle.std.proofs.lemmas.List.{length-set}
use Rattle.std.proofs.lemmas.Option.{unwrap_or-slice_get}
use Rattle.std.proofs.lemmas.List.Elements.{All-cons, All-head, All-tail, All-nil}
use Rattle.std.specs.List.{list_any}
use Rattle.xo_list.specs.Span.{part}
use Rattle.hk_slots.specs.declared.part.Part.{Part}
use Rattle.hk_slots.specs.Part.{blob_at, slot_of, shown, is_on, Fits, IsPart, ArePartsOf}

-- the blob that a part lies in stays
abbrev pub Keeps : List (List ℕ) → List (List ℕ) → Option Part → Type 0
Keeps blobs other None = Unit {0}
Keeps blobs other (Some p) = (p.blob < length other) × (blob_at other p.blob ≡ blob_at blobs p.blob)

slot_kept : (blobs other : List (List ℕ)) (p : Part) → blob_at other p.blob ≡ blob_at blobs p.blob →
    slot_of other p ≡ slot_of blobs p
slot_kept blobs other p e = ap (λ blob. record { field = p.field; bytes = part blob p.span.from p.span.to }) e

pub shown_kept : (blobs other : List (List ℕ)) (parts : List (Option Part)) → All (Keeps blobs other) parts →
    shown other parts ≡ shown blobs parts
shown_kept blobs other [] all = refl
shown_kept blobs other (None ∷ parts) all =
    ap (λ xs. None ∷ xs) (shown_kept blobs other parts (All-tail (Keeps blobs other) None parts all))
shown_kept blobs other (Some p ∷ parts) all =
    let first : Keeps blobs other (Some p) = All-head (Keeps blobs other) (Some p) parts all in
    let rest : shown other parts ≡ shown blobs parts =
    shown_kept blobs other parts (All-tail (Keeps blobs other) (Some p) parts all) in
    ap (λ s. Some s ∷ shown other parts) (slot_kept blobs other p first.1) ∙ ap (λ xs. Some (slot_of blobs p) ∷ xs) rest

part_kept : (blobs other : List (List ℕ)) (p : Part) → p.blob < length other →
    blob_at other p.blob ≡ blob_at blobs p.blob → IsPart blobs p → IsPart other p
part_kept blobs other p there e h = record {
  there = there;
  order = h.order;
  within = subst (λ blob. p.span.to ≤ length blob) (sym e) h.within;
  short = subst (λ blob. length blob < 4294967296) (sym e) h.short;
  fits = subst Fits (sym (slot_kept blobs other p e)) h.fits;
}

pub parts_kept : (blobs other : List (List ℕ)) (parts : List (Option Part)) → All (Keeps blobs other) parts →
    ArePartsOf blobs parts → ArePartsOf other parts
parts_kept blobs other [] all h = All-nil _
parts_kept blobs other (None ∷ parts) all h =
    All-cons (λ p. IfSome p (IsPart other)) None parts tt (parts_kept blobs other parts
    (All-tail (Keeps blobs other) None parts all) (All-tail (λ p. IfSome p (IsPart blobs)) None parts h))
parts_kept blobs other (Some p ∷ parts) all h =
    let first : Keeps blobs other (Some p) = All-head (Keeps blobs other) (Some p) parts all in
    All-cons (λ p. IfSome p (IsPart other)) (Some p) parts
    (part_kept blobs other p first.0 first.1 (All-head (λ p. IfSome p (IsPart blobs)) (Some p) parts h))
    (parts_kept blobs other parts (All-tail (Keeps blobs other) (Some p) parts all)
    (All-tail (λ p. IfSome p (IsPart blobs)) (Some p) parts h))

other_blob : (blobs : List (List ℕ)) (place : ℕ) (blob : List ℕ) (k : ℕ) → k ≢ place →
    blob_at (slice_set blobs place blob) k ≡ blob_at blobs k
other_blob blobs place blob k other =
    unwrap_or-slice_get (slice_set blobs place blob) k []
    ∙ let same : get_or (slice_set blobs place blob) k [] ≡ get_or blobs k [] = grind (arith, common_steps) in
    same ∙ sym (unwrap_or-slice_get blobs k [])

pub keeps_set : (blobs : List (List ℕ)) (parts : List (Option Part)) (place : ℕ) (blob : List ℕ) →
    list_any (is_on place) parts ≡ false → ArePartsOf blobs parts → All (Keeps blobs (slice_set blobs place blob)) parts
keeps_set blobs [] place blob free h = All-nil _
keeps_set blobs (None ∷ parts) place blob free h =
    All-cons (Keeps blobs (slice_set blobs place blob)) None parts tt
    (keeps_set blobs parts place blob free (All-tail (λ p. IfSome p (IsPart blobs)) None parts h))
keeps_set blobs (Some p ∷ parts) place blob free h =
    let apart : ((p.blob == place) ≡ false) × (list_any (is_on place) parts ≡ false) =
    neither (p.blob == place) (list_any (is_on place) parts) free in
    let is : IsPart blobs p = All-head (λ p. IfSome p (IsPart blobs)) (Some p) parts h in
    let other : p.blob ≢ place = λ e. grind (arith, nat_tests, apart.0, e) in
    let there : p.blob < length (slice_set blobs place blob) = omega (arith, is.there, length-set blobs place blob) in
    All-cons (Keeps blobs (slice_set blobs place blob)) (Some p) parts (there, other_blob blobs place blob p.blob other)
    (keeps_set blobs parts place blob apart.1 (All-tail (λ p. IfSome p (IsPart blobs)) (Some p) parts h))

earlier_blob : (blobs : List (List ℕ)) (blob : List ℕ) (k : ℕ) → k < length blobs →
    blob_at (blobs ++ blob ∷ []) k ≡ blob_at blobs k
earlier_blob blobs blob k h =
    unwrap_or-slice_get (blobs ++ blob ∷ []) k []
    ∙ let same : get_or (blobs ++ blob ∷ []) k [] ≡ get_or blobs k [] = grind (arith, common_steps) in
    same ∙ sym (unwrap_or-slice_get blobs k [])

pub last_blob : (blobs : List (List ℕ)) (blob : List ℕ) (k : ℕ) → k ≡ length blobs →
    blob_at (blobs ++ blob ∷ []) k ≡ blob
last_blob blobs blob k e =
    unwrap_or-slice_get (blobs ++ blob ∷ []) k []
    ∙ (let same : get_or (blobs ++ blob ∷ []) k [] ≡ blob = grind (arith, common_steps) in same)

pub keeps_push : (blobs : List (List ℕ)) (parts : List (Option Part)) (blob : List ℕ) → ArePartsOf blobs parts →
    All (Keeps blobs (blobs ++ blob ∷ [])) parts
keeps_push blobs [] blob h = All-nil _
keeps_push blobs (None ∷ parts) blob h =
    All-cons (Keeps blobs (blobs ++ blob ∷ [])) None parts tt
    (keeps_push blobs parts blob (All-tail (λ p. IfSome p (IsPart blobs)) None parts h))
keeps_push blobs (Some p ∷ parts) blob h =
    let is : IsPart blobs p = All-head (λ p. IfSome p (IsPart blobs)) (Some p) parts h in
    let there : p.blob < length (blobs ++ blob ∷ []) = omega (arith, is.there, length-append blobs (blob ∷ [])) in
    All-cons (Keeps blobs (blobs ++ blob ∷ [])) (Some p) parts (there, earlier_blob blobs blob p.blob is.there)
    (keeps_push blobs parts blob (All-tail (λ p. IfSome p (IsPart blobs)) (Some p) parts h))
