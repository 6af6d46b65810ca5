-- What parts show, call by call.
use Rattle.std.proofs.Common.{◌≡◌, ℕ, zero, suc, ◌+◌, ◌-◌, ◌==◌, Bool, true, false, cond, nat_lt, List, [], ◌∷◌, map}
use Rattle.std.proofs.Common.{length, replicate, refl, sym, ap, ◌∙◌, Option, Some, None, option_map, is_none, ok_or}
use Rattle.std.proofs.Common.{slice_get, Ok, Err, if◌then◌else◌, ◌<◌, ◌≤◌, arith, subst, IsTrue}
use Rattle.std.specs.Option.{option_flatten}
use Rattle.std.specs.List.{position_or_len}
use Rattle.std.proofs.lemmas.List.{map-set, length-map, take_all}
use Rattle.std.proofs.lemmas.Option.{slice_get-map}
use Rattle.xo_list.specs.Span.{part}
use Rattle.xo_list.specs.Value.{HasFields}
use Rattle.hk_slots.specs.declared.fault.SlotFault.{SlotFault}
use Rattle.hk_slots.specs.declared.fault.SlotFault.TheVariants.{DoesntExist, NoFreeSlots}
use Rattle.hk_slots.specs.declared.part.Part.{Part}
use Rattle.hk_slots.specs.Slots.{Slot, SlotMap, Slotted, ◌>>=◌, ◌>>◌, is_number, numbered, put, held_at, target}
use Rattle.hk_slots.specs.Slots.{with_part, with_object}
use Rattle.hk_slots.specs.Part.{blob_at, slot_of, shown, IsPart}

-- a call goes on with what the one before it answers
pub goes_on : {A B : Type 0} (r : Slotted A) (x : A) (rest : A → Slotted B) → Ok x ≡ r → (r >>= rest) ≡ rest x
goes_on r x rest e = ap (λ s. s >>= rest) (sym e)

pub stops : {A B : Type 0} (r : Slotted A) (fault : SlotFault) (rest : A → Slotted B) → Err fault ≡ r →
    (r >>= rest) ≡ Err fault
stops r fault rest e = ap (λ s. s >>= rest) (sym e)

pub passes : {A B : Type 0} (r : Slotted A) (x : A) (rest : Slotted B) → Ok x ≡ r → (r >> rest) ≡ rest
passes r x rest e = ap (λ s. s >> rest) (sym e)

pub refuses : {A B : Type 0} (r : Slotted A) (fault : SlotFault) (rest : Slotted B) → Err fault ≡ r →
    (r >> rest) ≡ Err fault
refuses r fault rest e = ap (λ s. s >> rest) (sym e)

module _ {A B : Type 0} (f : A → B) where
  map_first : (test : Bool) (o : Option (Option A)) →
      (if test then None else option_flatten (option_map (option_map f) o))
      ≡ option_map f (if test then None else option_flatten o)
  map_first true o = refl
  map_first false None = refl
  map_first false (Some None) = refl
  map_first false (Some (Some x)) = refl

  numbered-map : (xs : List (Option A)) (n : ℕ) → numbered (map (option_map f) xs) n ≡ option_map f (numbered xs n)
  numbered-map xs n =
      ap (λ o. if n == 0 then None else option_flatten o) (slice_get-map (option_map f) xs (n - 1))
      ∙ map_first (n == 0) (slice_get xs (n - 1))

  held_some : (test : Slotted (Unit {0})) (o : Option A) (x : A) → Ok x ≡ (test >> ok_or o DoesntExist) →
      (test >> ok_or (option_map f o) DoesntExist) ≡ Ok (f x)
  held_some (Ok u) None x e = absurd (cc)
  held_some (Ok u) (Some y) x e = let same : x ≡ y = cc in ap (λ z. Ok (f z)) (sym same)
  held_some (Err fault) o x e = absurd (cc)

  held_none : (test : Slotted (Unit {0})) (o : Option A) (fault : SlotFault) →
      Err fault ≡ (test >> ok_or o DoesntExist) → (test >> ok_or (option_map f o) DoesntExist) ≡ Err fault
  held_none (Ok u) None fault e = let same : fault ≡ DoesntExist = cc in ap (λ z. Err z) (sym same)
  held_none (Ok u) (Some y) fault e = absurd (cc)
  held_none (Err other) o fault e = let same : fault ≡ other = cc in ap (λ z. Err z) (sym same)

  empty_places : (xs : List (Option A)) → position_or_len is_none (map (option_map f) xs) ≡ position_or_len is_none xs
  empty_places [] = refl
  empty_places (None ∷ xs) = refl
  empty_places (Some x ∷ xs) = ap (λ n. 1 + n) (empty_places xs)

  pub target-map : (xs : List (Option A)) (n : ℕ) → target (map (option_map f) xs) n ≡ target xs n
  target-map xs n =
      ap (λ k.
      if n == 0
      then ok_or (option_map (λ i. i + 1) (cond (nat_lt k (length (map (option_map f) xs))) (Some k) None)) NoFreeSlots
      else Ok n) (empty_places xs)
      ∙ ap (λ l.
      if n == 0
      then ok_or
      (option_map (λ i. i + 1) (cond (nat_lt (position_or_len is_none xs) l) (Some (position_or_len is_none xs)) None))
      NoFreeSlots else Ok n) (length-map xs (option_map f))

pub held_shown : (blobs : List (List ℕ)) (parts : List (Option Part)) (n : ℕ) (p : Part) → Ok p ≡ held_at parts n →
    held_at (shown blobs parts) n ≡ Ok (slot_of blobs p)
held_shown blobs parts n p e =
    ap (λ o. is_number n >> ok_or o DoesntExist) (numbered-map (slot_of blobs) parts n)
    ∙ held_some (slot_of blobs) (is_number n) (numbered parts n) p e

pub not_held : (blobs : List (List ℕ)) (parts : List (Option Part)) (n : ℕ) (fault : SlotFault) →
    Err fault ≡ held_at parts n → held_at (shown blobs parts) n ≡ Err fault
not_held blobs parts n fault e =
    ap (λ o. is_number n >> ok_or o DoesntExist) (numbered-map (slot_of blobs) parts n)
    ∙ held_none (slot_of blobs) (is_number n) (numbered parts n) fault e

-- what a call reads of the slot that is held, where the parts show these slots
module _ {B : Type 0} (rest : Slot → Slotted B) (slots : SlotMap) (blobs : List (List ℕ)) (parts : List (Option Part))
    (n : ℕ) (view : shown blobs parts ≡ slots) where
  pub reads : (p : Part) → Ok p ≡ held_at parts n → (held_at slots n >>= rest) ≡ rest (slot_of blobs p)
  reads p e =
      goes_on (held_at slots n) (slot_of blobs p) rest (sym (held_shown blobs parts n p e) ∙ ap (λ m. held_at m n) view)

  pub reads_none : (fault : SlotFault) → Err fault ≡ held_at parts n → (held_at slots n >>= rest) ≡ Err fault
  reads_none fault e =
      stops (held_at slots n) fault rest (sym (not_held blobs parts n fault e) ∙ ap (λ m. held_at m n) view)

pub put_shown : (blobs : List (List ℕ)) (parts : List (Option Part)) (n : ℕ) (p : Option Part) →
    shown blobs (put parts n p) ≡ put (shown blobs parts) n (option_map (slot_of blobs) p)
put_shown blobs parts n p = map-set (option_map (slot_of blobs)) parts (n - 1) p

-- a part of a slot is put into another
module _ (find : Slot → Slotted Slot) (blobs : List (List ℕ)) (parts : List (Option Part)) (n m : ℕ) where
  abbrev pub placed : Slot → Slotted (ℕ × SlotMap)
  placed slot = target (shown blobs parts) m >>= λ into. Ok (into, put (shown blobs parts) into (Some slot))

  abbrev pub asked : Slot → Slotted (ℕ × SlotMap)
  asked slot = find slot >>= placed

  both_numbers : (u v : Unit {0}) → Ok u ≡ is_number n → Ok v ≡ is_number m →
      with_part find (shown blobs parts) n m ≡ (held_at (shown blobs parts) n >>= asked)
  both_numbers u v a b = passes (is_number n) u _ a ∙ passes (is_number m) v _ b

  pub no_number : (fault : SlotFault) → Err fault ≡ is_number n → with_part find (shown blobs parts) n m ≡ Err fault
  no_number fault e = refuses (is_number n) fault _ e

  pub no_target_number : (u : Unit {0}) (fault : SlotFault) → Ok u ≡ is_number n → Err fault ≡ is_number m →
      with_part find (shown blobs parts) n m ≡ Err fault
  no_target_number u fault a e = passes (is_number n) u _ a ∙ refuses (is_number m) fault _ e

  pub no_slot : (u v : Unit {0}) (fault : SlotFault) → Ok u ≡ is_number n → Ok v ≡ is_number m →
      Err fault ≡ held_at parts n → with_part find (shown blobs parts) n m ≡ Err fault
  no_slot u v fault a b e = both_numbers u v a b ∙ reads_none asked (shown blobs parts) blobs parts n refl fault e

  pub no_part : (u v : Unit {0}) (p : Part) (fault : SlotFault) → Ok u ≡ is_number n → Ok v ≡ is_number m →
      Ok p ≡ held_at parts n → find (slot_of blobs p) ≡ Err fault → with_part find (shown blobs parts) n m ≡ Err fault
  no_part u v p fault a b h e =
      both_numbers u v a b
      ∙ reads asked (shown blobs parts) blobs parts n refl p h
      ∙ stops (find (slot_of blobs p)) fault placed (sym e)

  pub no_target : (u v : Unit {0}) (p q : Part) (fault : SlotFault) → Ok u ≡ is_number n → Ok v ≡ is_number m →
      Ok p ≡ held_at parts n → find (slot_of blobs p) ≡ Ok (slot_of blobs q) → Err fault ≡ target parts m →
      with_part find (shown blobs parts) n m ≡ Err fault
  no_target u v p q fault a b h f e =
      both_numbers u v a b
      ∙ reads asked (shown blobs parts) blobs parts n refl p h
      ∙ goes_on (find (slot_of blobs p)) (slot_of blobs q) placed (sym f)
      ∙ stops (target (shown blobs parts) m) fault _ (e ∙ sym (target-map (slot_of blobs) parts m))

  pub all_found : (u v : Unit {0}) (p q : Part) (into : ℕ) → Ok u ≡ is_number n → Ok v ≡ is_number m →
      Ok p ≡ held_at parts n → find (slot_of blobs p) ≡ Ok (slot_of blobs q) → Ok into ≡ target parts m →
      with_part find (shown blobs parts) n m ≡ Ok (into, shown blobs (put parts into (Some q)))
  all_found u v p q into a b h f e =
      both_numbers u v a b
      ∙ reads asked (shown blobs parts) blobs parts n refl p h
      ∙ goes_on (find (slot_of blobs p)) (slot_of blobs q) placed (sym f)
      ∙ goes_on (target (shown blobs parts) m) into (λ k. Ok (k, put (shown blobs parts) k (Some (slot_of blobs q))))
      (e ∙ sym (target-map (slot_of blobs) parts m))
      ∙ ap (λ slots. Ok (into, slots)) (sym (put_shown blobs parts into (Some q)))

pub none_shown : (n : ℕ) (blobs : List (List ℕ)) →
    map (option_map (slot_of blobs)) (replicate n None) ≡ replicate n None
none_shown zero blobs = refl
none_shown (suc n) blobs = ap (λ xs. None ∷ xs) (none_shown n blobs)

-- an object is put into a slot whole
module _ (blobs : List (List ℕ)) (place : ℕ) (bytes : List ℕ) (kept : blob_at blobs place ≡ bytes) where
  abbrev pub whole : Part
  whole = record { field = None; blob = place; span = record { from = 0; to = length bytes } }

  all_bytes : part (blob_at blobs place) 0 (length bytes) ≡ bytes
  all_bytes = ap (λ b. part b 0 (length bytes)) kept ∙ take_all (length bytes - 0) bytes (omega arith)

  pub whole_part : place < length blobs → HasFields bytes → length bytes < 4294967296 → IsPart blobs whole
  whole_part there object short = record {
    there = there;
    order = omega arith;
    within = subst (λ b. length bytes ≤ length b) (sym kept) (omega arith);
    short = subst (λ b. length b < 4294967296) (sym kept) short;
    fits = record { object = λ e. subst HasFields (sym all_bytes) object; array = λ e. absurd (false_true e) };
  }
    where
      false_true : IsTrue false → ⊥
      false_true e = cc

  pub object_put : (old : List (List ℕ)) (parts : List (Option Part)) (n : ℕ) (u : Unit {0}) (into : ℕ) →
      Ok u ≡ is_number n → Ok into ≡ target parts n → shown blobs parts ≡ shown old parts →
      with_object (shown old parts) n bytes ≡ Ok (into, shown blobs (put parts into (Some whole)))
  unfolding with_object
  object_put old parts n u into a e same =
      passes (is_number n) u _ a
      ∙ goes_on (target (shown old parts) n) into
      (λ k. Ok (k, put (shown old parts) k (Some (record { field = None; bytes = bytes }))))
      (e ∙ sym (target-map (slot_of old) parts n))
      ∙ ap (λ slots. Ok (into, put slots into (Some (record { field = None; bytes = bytes })))) (sym same)
      ∙ ap (λ b. Ok (into, put (shown blobs parts) into (Some (record { field = None; bytes = b })))) (sym all_bytes)
      ∙ ap (λ slots. Ok (into, slots)) (sym (put_shown blobs parts into (Some whole)))

pub no_object_put : (blobs : List (List ℕ)) (parts : List (Option Part)) (n : ℕ) (bytes : List ℕ) (u : Unit {0})
    (fault : SlotFault) → Ok u ≡ is_number n → Err fault ≡ target parts n →
    with_object (shown blobs parts) n bytes ≡ Err fault
unfolding with_object
no_object_put blobs parts n bytes u fault a e =
    passes (is_number n) u _ a
    ∙ stops (target (shown blobs parts) n) fault
    (λ k. Ok (k, put (shown blobs parts) k (Some (record { field = None; bytes = bytes }))))
    (e ∙ sym (target-map (slot_of blobs) parts n))
