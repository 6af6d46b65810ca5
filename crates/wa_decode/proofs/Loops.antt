-- What is read by the code's loops: what was read so far, and what reading the rest gives, is what reading all gives.
use Rattle.std.proofs.Common.{◌≡◌, ◌≢◌, ℕ, zero, suc, ◌-◌, ◌+◌, ◌≤◌, ◌<◌, Bool, false, List, [], ◌∷◌, ◌++◌, length}
use Rattle.std.proofs.Common.{Option, Some, None, refl, sym, ap, ◌∙◌, append_assoc, length-append, arith}
use Rattle.std.proofs.lemmas.List.{append-nil}
use Rattle.wa_ops.specs.declared.op.Op.{Op}
use Rattle.wa_decode.proofs.CodeReaders.{op_back}
use Rattle.wa_decode.proofs.ExpressionReaders.{op_some}
use Rattle.wa_decode.proofs.ModuleReaders.{section_reader, no_section}
use Rattle.wa_decode.specs.CodeReading.{op_at, opened, rest_at, regions_at, expression_at}
use Rattle.wa_decode.specs.ModuleReading.{section_at, sections_at}
use Rattle.wa_decode.specs.Instructions.{SpellsOp}
use Rattle.wa_decode.specs.Modules.{Section, SpellsSection}
use Rattle.wa_decode.specs.Reading.{◌>>=◌, Fails, items_at}
use Rattle.wa_decode.specs.declared.fault.DecodeFault.{DecodeFault}
use Rattle.wa_decode.specs.declared.fault.DecodeFault.TheVariants.{Malformed, NoMemory}

-- what was read before, and what is still read
abbrev pub with_front : {A : Type 0} → List A → Option (List A × List ℕ) → Option (List A × List ℕ)
with_front front read = read >>= λ x. Some (front ++ x.0, x.1)

pub regrouped : {A : Type 0} (front : List A) (x : A) (read : Option (List A × List ℕ)) →
    with_front front (read >>= λ r. Some (x ∷ r.0, r.1)) ≡ with_front (front ++ x ∷ []) read
regrouped {A} front x (Some r) = ap (λ (xs : List A). Some (xs, r.1)) (simp append_assoc)
regrouped front x None = refl

-- ---- items

pub item_read : {A : Type 0} (read : List ℕ → Option (A × List ℕ)) (front : List A) (count i : ℕ) (bytes : List ℕ)
    (x : A) (after : List ℕ) (total : Option (List A × List ℕ)) → i < count → read bytes ≡ Some (x, after)
    → with_front front (items_at read (count - i) bytes) ≡ total →
    with_front (front ++ x ∷ []) (items_at read (count - (i + 1)) after) ≡ total
unfolding items_at
item_read read front count i bytes x after total lt h so_far =
    let k : count - i ≡ suc (count - (i + 1)) = omega arith in
    let one : with_front front (items_at read (count - i) bytes)
    ≡ with_front (front ++ x ∷ []) (items_at read (count - (i + 1)) after) =
    rw (k, h) (regrouped front x (items_at read (count - (i + 1)) after)) in
    sym one ∙ so_far

pub no_item : {A : Type 0} (read : List ℕ → Option (A × List ℕ)) (fault : DecodeFault) (front : List A) (count i : ℕ)
    (bytes : List ℕ) (total : Option (List A × List ℕ)) → i < count → Fails fault (read bytes)
    → with_front front (items_at read (count - i) bytes) ≡ total → Fails fault total
unfolding items_at
no_item read NoMemory front count i bytes total lt h so_far = tt
no_item read Malformed front count i bytes total lt h so_far =
    let k : count - i ≡ suc (count - (i + 1)) = omega arith in
    let one : with_front front (items_at read (count - i) bytes) ≡ None = rw (k, h) refl in
    sym so_far ∙ one

pub all_items : {A : Type 0} (read : List ℕ → Option (A × List ℕ)) (front : List A) (count i : ℕ) (bytes : List ℕ)
    (total : Option (List A × List ℕ)) → count ≤ i
    → with_front front (items_at read (count - i) bytes) ≡ total → total ≡ Some (front, bytes)
unfolding items_at
all_items {A} read front count i bytes total le so_far =
    let k : count - i ≡ 0 = omega arith in
    let one : with_front front (items_at read (count - i) bytes) ≡ Some (front, bytes) =
    rw k (ap (λ (xs : List A). Some (xs, bytes)) (append-nil front)) in
    sym so_far ∙ one

-- ---- instructions

-- the code is read so far: what is left is read within some budget, and is all that reading the whole gives
pub record Reading (bytes : List ℕ) (ops : List Op) (around : List Bool) (rest : List ℕ) : Type 0 where
  pub budget : ℕ
  pub enough : length rest ≤ budget
  pub inside : around ≢ []
  pub total : with_front ops (regions_at budget around rest) ≡ regions_at (length bytes) (false ∷ []) bytes

with_nothing : {A : Type 0} (read : Option (List A × List ℕ)) → with_front [] read ≡ read
with_nothing (Some r) = refl
with_nothing None = refl

pub starts : (bytes : List ℕ) → Reading bytes [] (false ∷ []) bytes
starts bytes = record {
  budget = length bytes;
  enough = omega arith;
  inside = λ e. absurd cc;
  total = with_nothing (regions_at (length bytes) (false ∷ []) bytes);
}

-- the next instruction takes a byte at least
pub op_shorter : (bytes : List ℕ) (op : Op) (after : List ℕ) → op_at bytes ≡ Some (op, after) →
    length after < length bytes
op_shorter bytes op after e = let b = op_back bytes op after e in shorter b.0 b.1 b.2
  where
    shorter : (front : List ℕ) → SpellsOp op front → bytes ≡ front ++ after → length after < length bytes
    shorter [] s p = absurd (op_some op s)
    shorter (b ∷ bs) s p =
        let l : length bytes ≡ suc (length (bs ++ after)) = ap length p in omega (arith, length-append bs after)

-- what is read where an instruction stands
one_read : (budget : ℕ) (around : List Bool) (rest : List ℕ) (op : Op) (after : List ℕ) → length rest ≤ budget →
    op_at rest ≡ Some (op, after)
    → (n : ℕ) × (length after ≤ n)
    × (regions_at budget around rest ≡ rest_at op after (λ now. regions_at n now after) (opened op around))
unfolding regions_at
one_read zero around rest op after l e = absurd (omega (arith, op_shorter rest op after e))
one_read (suc n) around rest op after l e = (n, omega (arith, op_shorter rest op after e), rw e refl)

none_read : (budget : ℕ) (around : List Bool) (rest : List ℕ) → op_at rest ≡ None → regions_at budget around rest ≡ None
unfolding regions_at
none_read zero around rest e = refl
none_read (suc n) around rest e = rw e refl

-- nothing is read where no instruction stands
pub no_op : (fault : DecodeFault) (bytes : List ℕ) (ops : List Op) (around : List Bool) (rest : List ℕ) →
    Reading bytes ops around rest → Fails fault (op_at rest) → Fails fault (expression_at bytes)
unfolding expression_at
no_op NoMemory bytes ops around rest r f = tt
no_op Malformed bytes ops around rest r f = sym r.total ∙ ap (with_front ops) (none_read r.budget around rest f)

-- nor where an instruction stands that can't stand there
pub misplaced : (fault : DecodeFault) (bytes : List ℕ) (ops : List Op) (around : List Bool) (rest : List ℕ) (op : Op)
    (after : List ℕ) → Reading bytes ops around rest → op_at rest ≡ Some (op, after) → Fails fault (opened op around) →
    Fails fault (expression_at bytes)
unfolding expression_at
misplaced NoMemory bytes ops around rest op after r e f = tt
misplaced Malformed bytes ops around rest op after r e f =
    let o = one_read r.budget around rest op after r.enough e in
    sym r.total ∙ ap (with_front ops) (o.2 ∙ ap (rest_at op after (λ now. regions_at o.0 now after)) f)

pub goes_on : (bytes : List ℕ) (ops : List Op) (around : List Bool) (rest : List ℕ) (op : Op) (after : List ℕ)
    (now : List Bool) → Reading bytes ops around rest → op_at rest ≡ Some (op, after) → opened op around ≡ Some now →
    now ≢ []
    → Reading bytes (ops ++ op ∷ []) now after
goes_on bytes ops around rest op after [] r e f inside = absurd (inside refl)
goes_on bytes ops around rest op after (may ∷ now) r e f inside =
    let o = one_read r.budget around rest op after r.enough e in
    record {
      budget = o.0;
      enough = o.1;
      inside = inside;
      total =
          sym (regrouped ops op (regions_at o.0 (may ∷ now) after))
          ∙ sym (ap (with_front ops) (o.2 ∙ ap (rest_at op after (λ k. regions_at o.0 k after)) f))
          ∙ r.total;
    }

-- the whole is read where the last region closes
pub ends : (bytes : List ℕ) (ops : List Op) (around : List Bool) (rest : List ℕ) (op : Op) (after : List ℕ) →
    Reading bytes ops around rest → op_at rest ≡ Some (op, after) → opened op around ≡ Some [] →
    expression_at bytes ≡ Some (ops ++ op ∷ [], after)
unfolding expression_at
ends bytes ops around rest op after r e f =
    let o = one_read r.budget around rest op after r.enough e in
    sym r.total ∙ ap (with_front ops) (o.2 ∙ ap (rest_at op after (λ k. regions_at o.0 k after)) f)

-- ---- sections

abbrev pub before : List Section → Option (List Section) → Option (List Section)
before front read = read >>= λ ss. Some (front ++ ss)

-- the bytes are split so far
pub record Splitting (bytes : List ℕ) (front : List Section) (rest : List ℕ) : Type 0 where
  pub budget : ℕ
  pub enough : length rest ≤ budget
  pub total : before front (sections_at budget rest) ≡ sections_at (length bytes) bytes

section_moved : (front : List Section) (s : Section) (read : Option (List Section)) →
    before front (read >>= λ ss. Some (s ∷ ss)) ≡ before (front ++ s ∷ []) read
section_moved front s (Some ss) = ap (λ (xs : List Section). Some xs) (simp append_assoc)
section_moved front s None = refl

-- a section takes a byte at least
pub section_shorter : (bytes : List ℕ) (s : Section) (after : List ℕ) → section_at bytes ≡ Some (s, after) →
    length after < length bytes
section_shorter bytes s after e = let b = section_reader.back bytes s after e in shorter b.0 b.1 b.2
  where
    shorter : (front : List ℕ) → SpellsSection s front → bytes ≡ front ++ after → length after < length bytes
    shorter [] h p = absurd (no_section s h)
    shorter (b ∷ bs) h p =
        let l : length bytes ≡ suc (length (bs ++ after)) = ap length p in omega (arith, length-append bs after)

one_section : (budget : ℕ) (rest : List ℕ) (s : Section) (after : List ℕ) → length rest ≤ budget →
    section_at rest ≡ Some (s, after)
    → (n : ℕ) × (length after ≤ n) × (sections_at budget rest ≡ (sections_at n after >>= λ ss. Some (s ∷ ss)))
unfolding sections_at
one_section zero rest s after l e = absurd (omega (arith, section_shorter rest s after e))
one_section (suc n) [] s after l e = absurd (omega (arith, section_shorter [] s after e))
one_section (suc n) (b ∷ bs) s after l e = (n, omega (arith, section_shorter (b ∷ bs) s after e), rw e refl)

pub section_read : (bytes : List ℕ) (front : List Section) (rest : List ℕ) (s : Section) (after : List ℕ) →
    Splitting bytes front rest → section_at rest ≡ Some (s, after) → Splitting bytes (front ++ s ∷ []) after
section_read bytes front rest s after r e =
    let o = one_section r.budget rest s after r.enough e in
    record {
      budget = o.0;
      enough = o.1;
      total = sym (section_moved front s (sections_at o.0 after)) ∙ sym (ap (before front) o.2) ∙ r.total;
    }
