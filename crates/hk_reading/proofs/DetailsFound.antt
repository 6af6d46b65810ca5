-- What a transaction says of its emission is found.
use Rattle.std.proofs.Common.{◌≡◌, ℕ, ◌<◌, Bool, true, false, List, [], ◌∷◌, refl, sym, subst, Option, Some, None}
use Rattle.std.proofs.Common.{is_some}
use Rattle.std.specs.Prelude.{Decides, unwrap_or}
use Rattle.std.proofs.lemmas.Bool.Decides.{Decides-and}
use Rattle.xo_list.specs.Item.{Item, lookup}
use Rattle.xo_list.specs.Value.{IsObject}
use Rattle.xo_object.specs.Names as names
use Rattle.xo_object.specs.Transaction.{number32, number64, only, EmissionIs, DetailsIn, DetailsAre}
use Rattle.xo_fields.proofs.Cases.{some_same}
use Rattle.hk_reading.specs.Details.{Said, is_details, said_in, said_by, said_of, said_for, is_numbered}
use Rattle.hk_reading.proofs.FieldsFound.{fields_found}
use Rattle.hk_reading.proofs.Finding.{Finds, finds_one, finds_then, finds_none, nat_same, nat_below}
use Rattle.hk_reading.proofs.ListsFound.{itself, some_value, value_of, is_there}

abbrev pub HasSaid : List Item → Type 0
HasSaid fields =
    (only
    (names.emit_generation ∷ names.emit_burden ∷ names.emit_parent ∷ names.emit_nonce ∷ names.emit_hook_hash ∷
    names.emit_callback ∷ []) fields ≡ true)
    × ((is_some (number32 names.emit_generation fields) ≡ true) × ((is_some (number64 names.emit_burden fields) ≡ true)
    × ((is_some (lookup names.emit_parent fields) ≡ true)
    × ((is_some (lookup names.emit_nonce fields) ≡ true) × (is_some (lookup names.emit_hook_hash fields) ≡ true)))))

details_so : (fields : List Item) → Decides (is_details fields) (HasSaid fields)
details_so fields =
    Decides-and _ _ (itself (only
    (names.emit_generation ∷ names.emit_burden ∷ names.emit_parent ∷ names.emit_nonce ∷ names.emit_hook_hash ∷
    names.emit_callback ∷ []) fields))
    (Decides-and _ _ (itself (is_some (number32 names.emit_generation fields))) (Decides-and _ _
    (itself (is_some (number64 names.emit_burden fields)))
    (Decides-and _ _ (itself (is_some (lookup names.emit_parent fields))) (Decides-and _ _
    (itself (is_some (lookup names.emit_nonce fields))) (itself (is_some (lookup names.emit_hook_hash fields)))))))

said_found : (fields : List Item) → Finds (λ said. DetailsIn fields said.0 said.1) (said_by fields)
said_found fields =
    finds_one (λ said. DetailsIn fields said.0 said.1) (is_details fields) (said_in fields) (details_so fields) there
    again
  where
    there : HasSaid fields → DetailsIn fields (said_in fields).0 (said_in fields).1
    there (others, (generation, (burden, (parent, (nonce, hook))))) = record {
      others = others;
      generation_is = some_value (number32 names.emit_generation fields) 0 generation;
      burden_is = some_value (number64 names.emit_burden fields) 0 burden;
      parent = parent;
      nonce = nonce;
      hook = hook;
    }

    again : (said : Said) → DetailsIn fields said.0 said.1 → HasSaid fields × (said_in fields ≡ said)
    again said h =
        let generation : unwrap_or (number32 names.emit_generation fields) 0 ≡ said.0 =
        value_of (number32 names.emit_generation fields) 0 said.0 h.generation_is in
        let burden : unwrap_or (number64 names.emit_burden fields) 0 ≡ said.1 =
        value_of (number64 names.emit_burden fields) 0 said.1 h.burden_is in (
          (
            h.others,
            (
              is_there (number32 names.emit_generation fields) said.0 h.generation_is,
              (is_there (number64 names.emit_burden fields) said.1 h.burden_is, (h.parent, (h.nonce, h.hook))),
            ),
          ),
          λ i. (generation i, burden i),
        )

bytes_found : (bytes : List ℕ) → Finds (λ said. DetailsAre bytes said.0 said.1) (said_of bytes)
bytes_found bytes =
    finds_then (λ fields. IsObject fields bytes) (λ fields said. DetailsIn fields said.0 said.1)
    (λ said. DetailsAre bytes said.0 said.1) _ _ (fields_found bytes) (λ fields object. said_found fields)
    (λ fields said object is. record { fields = fields; object = object; is = is })
    (λ said h. (h.fields, h.object, h.is))

-- what details say, where they are there exactly in an emitted transaction
abbrev pub Says : Bool → Option (List ℕ) → Said → Type 0
Says false None said = (0 ≡ said.0) × (1 ≡ said.1)
Says false (Some details) said = ⊥
Says true None said = ⊥
Says true (Some details) said = DetailsAre details said.0 said.1

pub says_found : (emitted : Bool) (details : Option (List ℕ)) → Finds (Says emitted details) (said_for emitted details)
says_found false None = record {
  sound = λ said e. subst (Says false None) (some_same (0, 1) said e) (refl, refl);
  complete = λ said h. λ i. Some (h.0 i, h.1 i);
}
says_found false (Some details) = finds_none (Says false (Some details)) (λ said h. h)
says_found true None = finds_none (Says true None) (λ said h. h)
says_found true (Some details) = bytes_found details

-- numbers
abbrev pub IsNumbered : Bool → ℕ → Type 0
IsNumbered false sequence = (0 < sequence) × (sequence < 4294967295)
IsNumbered true sequence = sequence ≡ 0

pub numbered_so : (emitted : Bool) (sequence : ℕ) → Decides (is_numbered emitted sequence) (IsNumbered emitted sequence)
numbered_so false sequence = Decides-and _ _ (nat_below 0 sequence) (nat_below sequence 4294967295)
numbered_so true sequence = nat_same sequence 0

-- both together
pub emission_there : (emitted : Bool) (details : Option (List ℕ)) (sequence : ℕ) (said : Said) →
    IsNumbered emitted sequence → Says emitted details said → EmissionIs emitted details sequence said.0 said.1
emission_there false None sequence said numbered says = (numbered.0, numbered.1, sym says.0, sym says.1)
emission_there false (Some bytes) sequence said numbered says = absurd says
emission_there true None sequence said numbered says = absurd says
emission_there true (Some bytes) sequence said numbered says = (numbered, says)

pub emission_again : (emitted : Bool) (details : Option (List ℕ)) (sequence generation burden : ℕ) →
    EmissionIs emitted details sequence generation burden →
    IsNumbered emitted sequence × Says emitted details (generation, burden)
emission_again false None sequence generation burden (some, small, g, b) = ((some, small), (sym g, sym b))
emission_again false (Some bytes) sequence generation burden h = absurd h
emission_again true None sequence generation burden h = absurd h
emission_again true (Some bytes) sequence generation burden h = h
