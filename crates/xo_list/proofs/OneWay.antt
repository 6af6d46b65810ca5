-- Bytes are read in one way.
use Rattle.std.proofs.Common.{◌≡◌, ℕ, zero, suc, ◌≤◌, ◌⊎◌, inl, inr, Bool, true, false, List, [], ◌∷◌, ◌++◌, length}
use Rattle.std.proofs.Common.{take, refl, sym, ap, subst, ◌∙◌, arith, append_assoc, length-append, Some, IsSome}
use Rattle.std.proofs.lemmas.Bool.Decides.{nat_tests}
use Rattle.std.proofs.lemmas.List.{take_at, append_cancel_right}
use Rattle.xo_fields.specs.declared.field.FieldId.{FieldId}
use Rattle.xo_fields.specs.declared.form.Form.{Form}
use Rattle.xo_fields.specs.declared.form.Form.TheVariants.{Fixed, Money, Blob, Account, Object, Array}
use Rattle.xo_fields.specs.declared.header.HeaderRead.{HeaderRead}
use Rattle.xo_fields.specs.declared.header.HeaderRead.TheVariants as headers
use Rattle.xo_fields.specs.declared.length.LengthRead.{LengthRead}
use Rattle.xo_fields.specs.declared.length.LengthRead.TheVariants as lengths
use Rattle.xo_fields.specs.declared.amount.AmountRead.{AmountRead}
use Rattle.xo_fields.specs.declared.amount.AmountRead.TheVariants as amounts
use Rattle.xo_fields.specs.Amount.{IsAmount, AmountGives, amount_bytes}
use Rattle.xo_fields.specs.Field.{number}
use Rattle.xo_fields.specs.Form.{form_at}
use Rattle.xo_fields.specs.Header.{header, IsField, HeaderGives}
use Rattle.xo_fields.specs.Length.{prefix, LengthGives}
use Rattle.xo_fields.specs.Laws.{OneHeader, OneHeaderRead, OneLength, OneLengthRead, OneAmount, OneAmountRead}
use Rattle.xo_list.specs.declared.fault.ObjectFault.{ObjectFault}
use Rattle.xo_list.specs.declared.skip.Place.{Place}
use Rattle.xo_list.specs.declared.skip.Place.TheVariants.{Fields, NestedFields, Elements, NestedElements}
use Rattle.xo_list.specs.Item.{Item, body}
use Rattle.xo_list.specs.Value.{Allowed, Head, Stands, Whole, IsValue}
use Rattle.xo_list.specs.Fault.{is_array, IsEnd, Outcome, ends, fails, HeaderFault, FieldFails, Meets, Comes}
use Rattle.xo_list.specs.Fault.{AmountFault, BlobFault, AccountFault, BodyFails}
use Rattle.xo_list.specs.Laws.{OneReading, OneField}
use Rattle.xo_list.proofs.Parts.{disclosed}
use Rattle.xo_fields.proofs.OneAnswer.{split_same}

-- the laws of headers, lengths and amounts
pub record Below : Type 0 where
  pub header : OneHeader
  pub header_read : OneHeaderRead
  pub length : OneLength
  pub length_read : OneLengthRead
  pub amount : OneAmount
  pub amount_read : OneAmountRead

-- a value of the form, or its fault, is one
pub record OneBody (fits : Form → List ℕ → Type 0) (inside : Form → List ℕ → ObjectFault → Type 0)
    (form : Form) : Type 0 where
  pub value : (v w rest more : List ℕ) → fits form v → fits form w → body form v ++ rest ≡ body form w ++ more →
      (v ≡ w) × (rest ≡ more)
  pub clear : (v rest : List ℕ) (fault : ObjectFault) → fits form v → inside form (body form v ++ rest) fault → ⊥
  pub fault : (bytes : List ℕ) (f g : ObjectFault) → inside form bytes f → inside form bytes g → f ≡ g

-- forms of one kind are one
same_form : (kind : ℕ) (form other : Form) → form_at kind ≡ Some form → form_at kind ≡ Some other → form ≡ other
same_form kind form other p q = let e : Some form ≡ Some other = sym p ∙ q in cc

-- the answer of a reader at a head
head_read : (array : Bool) (last : ℕ) (f : FieldId) (form : Form) (bytes tail : List ℕ) →
    Head array last f form bytes tail → HeaderGives bytes (headers.Header f (length (header f)))
head_read array last f form bytes tail h = (
  h.is,
  subst (λ o. IsSome o) (sym h.known) refl,
  omega (arith, ap length h.whole, length-append (header f) tail),
  ap (take (length (header f))) h.whole ∙ take_at (header f) tail (length (header f)) refl,
)

-- a head and its fault exclude each other
head_clear : (array : Bool) (last : ℕ) (f : FieldId) (size : ℕ) (fault : ObjectFault) → Allowed array last f →
    HeaderFault array last (headers.Header f size) fault → ⊥
head_clear true last f size fault allowed (n, e) = n allowed
head_clear false last f size fault allowed (n, e) = omega arith

one_header_fault : (array : Bool) (last : ℕ) (read : HeaderRead) (f g : ObjectFault) → HeaderFault array last read f →
    HeaderFault array last read g → f ≡ g
one_header_fault true last headers.Cut f g h k = h ∙ sym k
one_header_fault false last headers.Cut f g h k = h ∙ sym k
one_header_fault true last headers.Bad f g h k = h ∙ sym k
one_header_fault false last headers.Bad f g h k = h ∙ sym k
one_header_fault true last (headers.Header x size) f g h k = h.1 ∙ sym k.1
one_header_fault false last (headers.Header x size) f g h k = h.1 ∙ sym k.1

one_head : Below → (array : Bool) (last : ℕ) (f g : FieldId) (form other : Form) (bytes tail more : List ℕ) →
    Head array last f form bytes tail → Head array last g other bytes more →
    (f ≡ g) × (form ≡ other) × (tail ≡ more)
one_head below array last f g form other bytes tail more h k =
    let e : (f ≡ g) × (tail ≡ more) = below.header f g tail more h.is k.is (sym h.whole ∙ k.whole) in
    (e.0, same_form g.kind form other (subst (λ (x : FieldId). form_at x.kind ≡ Some form) e.0 h.known) k.known, e.1)

abbrev pub item : FieldId → List ℕ → Item
item f v = record { field = f; value = v }

module _ (below : Below) (fits : Form → List ℕ → Type 0) (inside : Form → List ℕ → ObjectFault → Type 0)
    (one : (form : Form) → OneBody fits inside form) where
  one_stands : (array : Bool) (last : ℕ) (x y : Item) (bytes tail more : List ℕ) → Stands fits array last x bytes tail →
      Stands fits array last y bytes more → (x ≡ y) × (tail ≡ more)
  one_stands array last x y bytes tail more s t =
      let e : (x.field ≡ y.field) × (s.form ≡ t.form) × (body s.form x.value ++ tail ≡ body t.form y.value ++ more) =
      one_head below array last x.field y.field s.form t.form bytes (body s.form x.value ++ tail)
      (body t.form y.value ++ more) s.head t.head in
      let v : (x.value ≡ y.value) × (tail ≡ more) =
      (one t.form).value x.value y.value tail more (subst (λ form. fits form x.value) e.1 s.value) t.value
      (sym (ap (λ form. body form x.value ++ tail) e.1) ∙ e.2) in
      (ap (λ f. item f x.value) e.0 ∙ ap (λ w. item y.field w) v.0, v.1)

  stands_clear : (array : Bool) (last : ℕ) (x : Item) (bytes tail : List ℕ) (fault : ObjectFault) →
      Stands fits array last x bytes tail → FieldFails inside array last bytes fault → ⊥
  stands_clear array last x bytes tail fault s (inl (read, gives, h)) =
      let same : read ≡ headers.Header x.field (length (header x.field)) =
      below.header_read bytes read (headers.Header x.field (length (header x.field))) gives
      (head_read array last x.field s.form bytes (body s.form x.value ++ tail) s.head) in
      head_clear array last x.field (length (header x.field)) fault s.head.allowed
      (subst (λ r. HeaderFault array last r fault) same h)
  stands_clear array last x bytes tail fault s (inr (g, form, more, head, h)) =
      let e : (x.field ≡ g) × (s.form ≡ form) × (body s.form x.value ++ tail ≡ more) =
      one_head below array last x.field g s.form form bytes (body s.form x.value ++ tail) more s.head head in
      (one s.form).clear x.value tail fault s.value
      (subst (λ b. inside s.form b fault) (sym e.2) (subst (λ k. inside k more fault) (sym e.1) h))

  one_fault : (array : Bool) (last : ℕ) (bytes : List ℕ) (f g : ObjectFault) → FieldFails inside array last bytes f →
      FieldFails inside array last bytes g → f ≡ g
  one_fault array last bytes f g (inl (read, gives, h)) (inl (other, also, k)) =
      let same : other ≡ read = below.header_read bytes other read also gives in
      one_header_fault array last read f g h (subst (λ r. HeaderFault array last r g) same k)
  one_fault array last bytes f g (inl (read, gives, h)) (inr (y, form, more, head, k)) =
      let same : read ≡ headers.Header y (length (header y)) =
      below.header_read bytes read (headers.Header y (length (header y))) gives
      (head_read array last y form bytes more head) in
      absurd
      (head_clear array last y (length (header y)) f head.allowed (subst (λ r. HeaderFault array last r f) same h))
  one_fault array last bytes f g (inr (y, form, more, head, h)) (inl (read, gives, k)) =
      let same : read ≡ headers.Header y (length (header y)) =
      below.header_read bytes read (headers.Header y (length (header y))) gives
      (head_read array last y form bytes more head) in
      absurd
      (head_clear array last y (length (header y)) g head.allowed (subst (λ r. HeaderFault array last r g) same k))
  one_fault array last bytes f g (inr (y, form, more, head, h)) (inr (z, other, rest, also, k)) =
      let e : (y ≡ z) × (form ≡ other) × (more ≡ rest) =
      one_head below array last y z form other bytes more rest head also in
      (one form).fault more f g h (subst (λ b. inside form b g) (sym e.2) (subst (λ x. inside x rest g) (sym e.1) k))

-- no header begins as an end mark
pub no_mark : (f : FieldId) (mark : ℕ) (x y : List ℕ) → IsField f → (mark ≡ 225) ⊎ (mark ≡ 241) →
    header f ++ x ≡ mark ∷ y → ⊥
no_mark f mark x y is which e =
    let nm : f.code ≡ 1 → (f.kind ≡ 14) ⊎ (f.kind ≡ 15) → ⊥ = is.no_mark in grind (arith, nat_tests)

pub nothing_stands : (f : FieldId) (x : List ℕ) → header f ++ x ≡ [] → ⊥
nothing_stands f x e = grind (arith, nat_tests)

end_or_field : (place : Place) (bytes rest : List ℕ) (f : FieldId) (x : List ℕ) → IsField f → bytes ≡ header f ++ x →
    IsEnd place bytes rest → ⊥
end_or_field Fields bytes rest f x is h e = nothing_stands f x (sym h ∙ e.0)
end_or_field Elements bytes rest f x is h e = nothing_stands f x (sym h ∙ e.0)
end_or_field NestedFields bytes rest f x is h e = no_mark f 225 x rest is (inl refl) (sym h ∙ e)
end_or_field NestedElements bytes rest f x is h e = no_mark f 241 x rest is (inr refl) (sym h ∙ e)

one_end : (place : Place) (bytes rest more : List ℕ) → IsEnd place bytes rest → IsEnd place bytes more → rest ≡ more
one_end Fields bytes rest more h k = h.1 ∙ sym k.1
one_end Elements bytes rest more h k = h.1 ∙ sym k.1
one_end NestedFields bytes rest more h k = let e : 225 ∷ rest ≡ 225 ∷ more = sym h ∙ k in cc
one_end NestedElements bytes rest more h k = let e : 241 ∷ rest ≡ 241 ∷ more = sym h ∙ k in cc

module _ (below : Below) (fits : Form → List ℕ → Type 0) (inside : Form → List ℕ → ObjectFault → Type 0)
    (one : (form : Form) → OneBody fits inside form) where
  one_outcome : (place : Place) (last : ℕ) (bytes : List ℕ) (o p : Outcome) → Meets inside place o last bytes →
      Meets inside place p last bytes → o ≡ p
  one_outcome place last bytes (ends rest) (ends more) h k = ap ends (one_end place bytes rest more h k)
  one_outcome place last bytes (ends rest) (fails g) h k = absurd (k.0 rest h)
  one_outcome place last bytes (fails f) (ends more) h k = absurd (h.0 more k)
  one_outcome place last bytes (fails f) (fails g) h k =
      ap fails (one_fault below fits inside one (is_array place) last bytes f g h.1 k.1)

  stands_or_meets : (place : Place) (last : ℕ) (x : Item) (bytes tail : List ℕ) (o : Outcome) →
      Stands fits (is_array place) last x bytes tail → Meets inside place o last bytes → ⊥
  stands_or_meets place last x bytes tail (ends rest) s h =
      end_or_field place bytes rest x.field (body s.form x.value ++ tail) s.head.is s.head.whole h
  stands_or_meets place last x bytes tail (fails f) s h =
      stands_clear below fits inside one (is_array place) last x bytes tail f s h.1

  one_comes : (place : Place) (last : ℕ) (a b : List Item) (bytes : List ℕ) (o p : Outcome) →
      Comes fits inside place last a bytes o → Comes fits inside place last b bytes p → (a ≡ b) × (o ≡ p)
  one_comes place last [] [] bytes o p h k = (refl, one_outcome place last bytes o p h k)
  one_comes place last [] (y ∷ ys) bytes o p h (tail, s, more) = absurd (stands_or_meets place last y bytes tail o s h)
  one_comes place last (x ∷ xs) [] bytes o p (tail, s, more) k = absurd (stands_or_meets place last x bytes tail p s k)
  one_comes place last (x ∷ xs) (y ∷ ys) bytes o p (tail, s, h) (later, t, k) =
      let same : (x ≡ y) × (tail ≡ later) =
      one_stands below fits inside one (is_array place) last x y bytes tail later s t in
      let k_there : Comes fits inside place (number x.field) ys tail p =
      subst (λ r. Comes fits inside place (number x.field) ys r p) (sym same.1)
      (subst (λ (i : Item). Comes fits inside place (number i.field) ys later p) (sym same.0) k) in
      let rest : (xs ≡ ys) × (o ≡ p) = one_comes place (number x.field) xs ys tail o p h k_there in
      (ap (λ i. i ∷ xs) same.0 ∙ ap (λ r. y ∷ r) rest.0, rest.1)

-- one value or one fault of each form
fixed_one : (room n : ℕ) → OneBody (IsValue room) (BodyFails room) (Fixed n)
fixed_one room n = record {
  value = λ v w rest more h k e. split_same v w rest more (h ∙ sym k) e;
  clear = λ v rest fault h k. omega (arith, length-append v rest, k.0);
  fault = λ bytes f g h k. h.1 ∙ sym k.1;
}

begins_amount : (v rest : List ℕ) → IsAmount v → (read : AmountRead) → AmountGives (v ++ rest) read →
    (fault : ObjectFault) → AmountFault read fault → ⊥
begins_amount v rest is amounts.Cut gives fault h = gives.0 (v, rest, is, refl)
begins_amount v rest is amounts.Bad gives fault h = gives.0 (v, rest, is, refl)
begins_amount v rest is (amounts.Amount a size) gives fault h = h

one_amount_fault : (read : AmountRead) (f g : ObjectFault) → AmountFault read f → AmountFault read g → f ≡ g
one_amount_fault amounts.Cut f g h k = h ∙ sym k
one_amount_fault amounts.Bad f g h k = h ∙ sym k
one_amount_fault (amounts.Amount a size) f g h k = absurd h

money_one : Below → (room : ℕ) → OneBody (IsValue room) (BodyFails room) Money
money_one below room = record {
  value = λ v w rest more (a, valid, is) (b, also, it) e.
      let same : (a ≡ b) × (rest ≡ more) =
      below.amount a b rest more valid also (ap (λ x. x ++ rest) (sym is) ∙ e ∙ ap (λ x. x ++ more) it) in
      (is ∙ ap amount_bytes same.0 ∙ sym it, same.1);
  clear = λ v rest fault is (read, gives, h). begins_amount v rest is read gives fault h;
  fault = λ bytes f g (read, gives, h) (other, also, k).
      one_amount_fault read f g h (subst (λ r. AmountFault r g) (below.amount_read bytes other read also gives) k);
}

-- what a reader finds where a length stands
length_there : (n : ℕ) (rest : List ℕ) → n ≤ 918744 →
    LengthGives (prefix n ++ rest) (lengths.Length n (length (prefix n)))
length_there n rest small =
    (small, omega (arith, length-append (prefix n) rest), take_at (prefix n) rest (length (prefix n)) refl)

one_blob_fault : (bytes : List ℕ) (read : LengthRead) (f g : ObjectFault) → BlobFault bytes read f →
    BlobFault bytes read g → f ≡ g
one_blob_fault bytes lengths.Cut f g h k = h ∙ sym k
one_blob_fault bytes lengths.Bad f g h k = h ∙ sym k
one_blob_fault bytes (lengths.Length n size) f g h k = h.1 ∙ sym k.1

one_account_fault : (bytes : List ℕ) (read : LengthRead) (f g : ObjectFault) → AccountFault bytes read f →
    AccountFault bytes read g → f ≡ g
one_account_fault bytes lengths.Cut f g h k = h ∙ sym k
one_account_fault bytes lengths.Bad f g h k = h ∙ sym k
one_account_fault bytes (lengths.Length n size) f g (inl h) (inl k) = h.1 ∙ sym k.1
one_account_fault bytes (lengths.Length n size) f g (inl h) (inr k) = absurd (h.0 k.0)
one_account_fault bytes (lengths.Length n size) f g (inr h) (inl k) = absurd (k.0 h.0)
one_account_fault bytes (lengths.Length n size) f g (inr h) (inr k) = h.2 ∙ sym k.2

prefixed_value : Below → (v w rest more : List ℕ) → length v ≤ 918744 → length w ≤ 918744 →
    (prefix (length v) ++ v) ++ rest ≡ (prefix (length w) ++ w) ++ more → (v ≡ w) × (rest ≡ more)
prefixed_value below v w rest more h k e =
    let same : (length v ≡ length w) × (v ++ rest ≡ w ++ more) =
    below.length (length v) (length w) (v ++ rest) (w ++ more) h k
    (sym (append_assoc (prefix (length v)) v rest) ∙ e ∙ append_assoc (prefix (length w)) w more) in
    split_same v w rest more same.0 same.1

prefixed_read : Below → (v rest : List ℕ) → length v ≤ 918744 → (read : LengthRead) →
    LengthGives ((prefix (length v) ++ v) ++ rest) read → read ≡ lengths.Length (length v) (length (prefix (length v)))
prefixed_read below v rest small read gives =
    below.length_read (prefix (length v) ++ (v ++ rest)) read (lengths.Length (length v) (length (prefix (length v))))
    (subst (λ b. LengthGives b read) (append_assoc (prefix (length v)) v rest) gives)
    (length_there (length v) (v ++ rest) small)

blob_one : Below → (room : ℕ) → OneBody (IsValue room) (BodyFails room) Blob
blob_one below room = record {
  value = λ v w rest more h k e. prefixed_value below v w rest more h k e;
  clear = λ v rest fault small (read, gives, h).
      let there : BlobFault ((prefix (length v) ++ v) ++ rest) (lengths.Length (length v) (length (prefix (length v))))
      fault =
      subst (λ r. BlobFault ((prefix (length v) ++ v) ++ rest) r fault) (prefixed_read below v rest small read gives)
      h in
      omega (arith, there.0, length-append (prefix (length v) ++ v) rest, length-append (prefix (length v)) v);
  fault = λ bytes f g (read, gives, h) (other, also, k).
      one_blob_fault bytes read f g h
      (subst (λ r. BlobFault bytes r g) (below.length_read bytes other read also gives) k);
}

account_clear : (v rest : List ℕ) (fault : ObjectFault) → length v ≡ 20 →
    AccountFault ((prefix (length v) ++ v) ++ rest) (lengths.Length (length v) (length (prefix (length v)))) fault → ⊥
account_clear v rest fault l (inl h) = h.0 l
account_clear v rest fault l (inr h) =
    omega (arith, h.1, length-append (prefix (length v) ++ v) rest, length-append (prefix (length v)) v)

account_one : Below → (room : ℕ) → OneBody (IsValue room) (BodyFails room) Account
account_one below room = record {
  value = λ v w rest more h k e. prefixed_value below v w rest more (omega arith) (omega arith) e;
  clear = λ v rest fault l (read, gives, h).
      account_clear v rest fault l (subst (λ r. AccountFault ((prefix (length v) ++ v) ++ rest) r fault)
      (prefixed_read below v rest (omega arith) read gives) h);
  fault = λ bytes f g (read, gives, h) (other, also, k).
      one_account_fault bytes read f g h
      (subst (λ r. AccountFault bytes r g) (below.length_read bytes other read also gives) k);
}

-- a nested object or array is one, as its fields are
module _ (below : Below) (room : ℕ) (one : (form : Form) → OneBody (IsValue room) (BodyFails room) form) where
  object_comes : (items : List Item) (v rest : List ℕ) → Whole (IsValue room) false items v →
      Comes (IsValue room) (BodyFails room) NestedFields 0 items ((v ++ 225 ∷ []) ++ rest) (ends rest)
  object_comes items v rest h =
      subst (λ b. Comes (IsValue room) (BodyFails room) NestedFields 0 items b (ends rest))
      (sym (append_assoc v (225 ∷ []) rest))
      (disclosed (IsValue room) false 0 items v (225 ∷ rest) h)

  array_comes : (items : List Item) (v rest : List ℕ) → Whole (IsValue room) true items v →
      Comes (IsValue room) (BodyFails room) NestedElements 0 items ((v ++ 241 ∷ []) ++ rest) (ends rest)
  array_comes items v rest h =
      subst (λ b. Comes (IsValue room) (BodyFails room) NestedElements 0 items b (ends rest))
      (sym (append_assoc v (241 ∷ []) rest))
      (disclosed (IsValue room) true 0 items v (241 ∷ rest) h)

  nested_value : (place : Place) (a b : List Item) (v w rest more : List ℕ) (mark : ℕ) →
      Comes (IsValue room) (BodyFails room) place 0 a ((v ++ mark ∷ []) ++ rest) (ends rest) →
      Comes (IsValue room) (BodyFails room) place 0 b ((w ++ mark ∷ []) ++ more) (ends more) →
      (v ++ mark ∷ []) ++ rest ≡ (w ++ mark ∷ []) ++ more → (v ≡ w) × (rest ≡ more)
  nested_value place a b v w rest more mark h k e =
      let same : (a ≡ b) × (ends rest ≡ ends more) =
      one_comes below (IsValue room) (BodyFails room) one place 0 a b ((v ++ mark ∷ []) ++ rest) (ends rest) (ends more)
      h (subst (λ x. Comes (IsValue room) (BodyFails room) place 0 b x (ends more)) (sym e) k) in
      let rests : rest ≡ more = let s : ends rest ≡ ends more = same.1 in cc in
      let fronts : v ++ mark ∷ [] ≡ w ++ mark ∷ [] =
      append_cancel_right (v ++ mark ∷ []) (w ++ mark ∷ []) more (ap (λ x. (v ++ mark ∷ []) ++ x) (sym rests) ∙ e) in
      (append_cancel_right v w (mark ∷ []) fronts, rests)

  nested_clear : (place : Place) (a b : List Item) (bytes rest : List ℕ) (fault : ObjectFault) →
      Comes (IsValue room) (BodyFails room) place 0 a bytes (ends rest) →
      Comes (IsValue room) (BodyFails room) place 0 b bytes (fails fault) → ⊥
  nested_clear place a b bytes rest fault h k =
      let same : (a ≡ b) × (ends rest ≡ fails fault) =
      one_comes below (IsValue room) (BodyFails room) one place 0 a b bytes (ends rest) (fails fault) h k in
      let s : ends rest ≡ fails fault = same.1 in cc

  nested_fault : (place : Place) (a b : List Item) (bytes : List ℕ) (f g : ObjectFault) →
      Comes (IsValue room) (BodyFails room) place 0 a bytes (fails f) →
      Comes (IsValue room) (BodyFails room) place 0 b bytes (fails g) → f ≡ g
  nested_fault place a b bytes f g h k =
      let same : (a ≡ b) × (fails f ≡ fails g) =
      one_comes below (IsValue room) (BodyFails room) one place 0 a b bytes (fails f) (fails g) h k in
      let s : fails f ≡ fails g = same.1 in cc

  object_one : OneBody (IsValue (suc room)) (BodyFails (suc room)) Object
  object_one = record {
    value =
        λ v w rest more (a, h) (b, k) e.
        nested_value NestedFields a b v w rest more 225 (object_comes a v rest h) (object_comes b w more k) e;
    clear =
        λ v rest fault (a, h) (b, k).
        nested_clear NestedFields a b ((v ++ 225 ∷ []) ++ rest) rest fault (object_comes a v rest h) k;
    fault = λ bytes f g (a, h) (b, k). nested_fault NestedFields a b bytes f g h k;
  }

  array_one : OneBody (IsValue (suc room)) (BodyFails (suc room)) Array
  array_one = record {
    value =
        λ v w rest more (a, h) (b, k) e.
        nested_value NestedElements a b v w rest more 241 (array_comes a v rest h) (array_comes b w more k) e;
    clear =
        λ v rest fault (a, h) (b, k).
        nested_clear NestedElements a b ((v ++ 241 ∷ []) ++ rest) rest fault (array_comes a v rest h) k;
    fault = λ bytes f g (a, h) (b, k). nested_fault NestedElements a b bytes f g h k;
  }

one_body : Below → (room : ℕ) (form : Form) → OneBody (IsValue room) (BodyFails room) form
one_body below room (Fixed n) = fixed_one room n
one_body below room Money = money_one below room
one_body below room Blob = blob_one below room
one_body below room Account = account_one below room
one_body below zero Object = record {
  value = λ v w rest more h k e. absurd h;
  clear = λ v rest fault h k. h;
  fault = λ bytes f g h k. h ∙ sym k;
}
one_body below zero Array = record {
  value = λ v w rest more h k e. absurd h;
  clear = λ v rest fault h k. h;
  fault = λ bytes f g h k. h ∙ sym k;
}
one_body below (suc room) Object = object_one below room (one_body below room)
one_body below (suc room) Array = array_one below room (one_body below room)

pub one_way : Below → OneReading
one_way below room place a b bytes o p h k =
    one_comes below (IsValue room) (BodyFails room) (one_body below room) place 0 a b bytes o p h k

pub one_first : Below → OneField
one_first below room array last bytes x tail s = (
  λ y more t. one_stands below (IsValue room) (BodyFails room) (one_body below room) array last x y bytes tail more s t,
  λ fault h. stands_clear below (IsValue room) (BodyFails room) (one_body below room) array last x bytes tail fault s h,
)
