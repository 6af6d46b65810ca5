-- Where the parts of a sequence stand in flat code, and what the instruction at a place says of the sequence there.
use Rattle.std.proofs.Common.{◌≡◌, ◌+◌, ◌<◌, ◌⊎◌, inl, inr, ℕ, List, ◌∷◌, Option, Some, length, get_or, slice_get, drop}
use Rattle.std.proofs.Common.{sym, ◌∙◌, ap, subst, refl, arith, length-drop}
use Rattle.std.proofs.lemmas.List.{drop-drop, get_or-drop}
use Rattle.std.proofs.lemmas.Option.{slice_get-get_or}
use Rattle.wa_ops.specs.declared.op.Op.{Op}
use Rattle.wa_ops.specs.declared.op.Op.TheVariants.{Block, Loop, If, Else, End}
use Rattle.wa_ops.specs.declared.op.ValueType.{ValueType}
use Rattle.wa_ops.specs.Ends.{behind, ends_of}
use Rattle.wa_ops.specs.Sequences.{Sequence, done, plain, block, loop, if_then, if_else, nesting, stands, IsTree, flat}
use Rattle.wa_run.specs.Flat.{IsMarker, Standing}

pub next_drop : {A : Type 0} (xs : List A) (at : ℕ) (x : A) (rest : List A) → drop at xs ≡ x ∷ rest →
    drop (at + 1) xs ≡ rest
next_drop xs at x rest e = sym (drop-drop 1 at xs) ∙ ap (drop 1) e

pub drop_here : {A : Type 0} (xs : List A) (at : ℕ) (x d : A) (rest : List A) → drop at xs ≡ x ∷ rest →
    (at < length xs) × (get_or xs at d ≡ x)
drop_here xs at x d rest e =
    let same : at ≡ at + 0 = omega arith in (
      omega (arith, length-drop at xs, ap length e),
      ap (λ i. get_or xs i d) same ∙ sym (get_or-drop at xs 0 d) ∙ ap (λ ys. get_or ys 0 d) e,
    )

pub drop_got : {A : Type 0} (xs : List A) (at : ℕ) (x : A) (rest : List A) → drop at xs ≡ x ∷ rest →
    slice_get xs at ≡ Some x
drop_got xs at x rest e =
    slice_get-get_or xs at x (drop_here xs at x x rest e).0 ∙ ap Some (drop_here xs at x x rest e).1

-- behind a sequence stands what is behind it
pub past_ops : (code : Sequence) (ops : List Op) (at : ℕ) (more : List Op) → drop at ops ≡ flat code more →
    drop (behind code at) ops ≡ more
past_ops done ops at more e = e
past_ops (plain op rest) ops at more e = past_ops rest ops (at + 1) more (next_drop ops at op (flat rest more) e)
past_ops (block result body rest) ops at more e =
    past_ops rest ops (behind body (at + 1) + 1) more (next_drop ops (behind body (at + 1)) End (flat rest more)
    (past_ops body ops (at + 1) (End ∷ flat rest more)
    (next_drop ops at (Block result) (flat body (End ∷ flat rest more)) e)))
past_ops (loop result body rest) ops at more e =
    past_ops rest ops (behind body (at + 1) + 1) more (next_drop ops (behind body (at + 1)) End (flat rest more)
    (past_ops body ops (at + 1) (End ∷ flat rest more)
    (next_drop ops at (Loop result) (flat body (End ∷ flat rest more)) e)))
past_ops (if_then result body rest) ops at more e =
    past_ops rest ops (behind body (at + 1) + 1) more (next_drop ops (behind body (at + 1)) End (flat rest more)
    (past_ops body ops (at + 1) (End ∷ flat rest more)
    (next_drop ops at (If result) (flat body (End ∷ flat rest more)) e)))
past_ops (if_else result first second rest) ops at more e =
    let middle : ℕ = behind first (at + 1) in
    past_ops rest ops (behind second (middle + 1) + 1) more (next_drop ops (behind second (middle + 1)) End
    (flat rest more)
    (past_ops second ops (middle + 1) (End ∷ flat rest more) (next_drop ops middle Else
    (flat second (End ∷ flat rest more))
    (past_ops first ops (at + 1) (Else ∷ flat second (End ∷ flat rest more))
    (next_drop ops at (If result) (flat first (Else ∷ flat second (End ∷ flat rest more))) e)))))

pub past_ends : (code : Sequence) (ends : List ℕ) (at : ℕ) (more : List ℕ) → drop at ends ≡ ends_of code at more →
    drop (behind code at) ends ≡ more
past_ends done ends at more e = e
past_ends (plain op rest) ends at more e =
    past_ends rest ends (at + 1) more (next_drop ends at 0 (ends_of rest (at + 1) more) e)
past_ends (block result body rest) ends at more e =
    let last : ℕ = behind body (at + 1) in
    past_ends rest ends (last + 1) more (next_drop ends last 0 (ends_of rest (last + 1) more)
    (past_ends body ends (at + 1) (0 ∷ ends_of rest (last + 1) more)
    (next_drop ends at last (ends_of body (at + 1) (0 ∷ ends_of rest (last + 1) more)) e)))
past_ends (loop result body rest) ends at more e =
    let last : ℕ = behind body (at + 1) in
    past_ends rest ends (last + 1) more (next_drop ends last 0 (ends_of rest (last + 1) more)
    (past_ends body ends (at + 1) (0 ∷ ends_of rest (last + 1) more)
    (next_drop ends at last (ends_of body (at + 1) (0 ∷ ends_of rest (last + 1) more)) e)))
past_ends (if_then result body rest) ends at more e =
    let last : ℕ = behind body (at + 1) in
    past_ends rest ends (last + 1) more (next_drop ends last 0 (ends_of rest (last + 1) more)
    (past_ends body ends (at + 1) (0 ∷ ends_of rest (last + 1) more)
    (next_drop ends at last (ends_of body (at + 1) (0 ∷ ends_of rest (last + 1) more)) e)))
past_ends (if_else result first second rest) ends at more e =
    let middle : ℕ = behind first (at + 1) in
    let last : ℕ = behind second (middle + 1) in
    let after : List ℕ = 0 ∷ ends_of rest (last + 1) more in
    past_ends rest ends (last + 1) more (next_drop ends last 0 (ends_of rest (last + 1) more)
    (past_ends second ends (middle + 1) after (next_drop ends middle last (ends_of second (middle + 1) after)
    (past_ends first ends (at + 1) (last ∷ ends_of second (middle + 1) after)
    (next_drop ends at middle (ends_of first (at + 1) (last ∷ ends_of second (middle + 1) after)) e)))))

-- ---- what stands here

pub record SeesPlain (instruction : Op) (code : Sequence) : Type 0 where
  pub rest : Sequence
  pub is : code ≡ plain instruction rest

pub sees_plain : (instruction marker : Op) (code : Sequence) (tail more : List Op) →
    (instruction ∷ tail) ≡ flat code (marker ∷ more) → IsMarker marker → nesting instruction ≡ stands →
    SeesPlain instruction code
sees_plain instruction marker done tail more e (inl m) n =
    let p : (instruction ∷ tail) ≡ (marker ∷ more) = e in
    let o : instruction ≡ End = cc in
    absurd (let q : nesting End ≡ stands = subst (λ x. nesting x ≡ stands) o n in cc)
sees_plain instruction marker done tail more e (inr m) n =
    let p : (instruction ∷ tail) ≡ (marker ∷ more) = e in
    let o : instruction ≡ Else = cc in
    absurd (let q : nesting Else ≡ stands = subst (λ x. nesting x ≡ stands) o n in cc)
sees_plain instruction marker (plain other rest) tail more e m n =
    let p : (instruction ∷ tail) ≡ (other ∷ flat rest (marker ∷ more)) = e in
    let o : other ≡ instruction = cc in
    record { rest = rest; is = ap (λ x. plain x rest) o }
sees_plain instruction marker (block result body rest) tail more e m n =
    let p : (instruction ∷ tail) ≡ (Block result ∷ flat body (End ∷ flat rest (marker ∷ more))) = e in
    let o : instruction ≡ Block result = cc in
    absurd (let q : nesting (Block result) ≡ stands = subst (λ x. nesting x ≡ stands) o n in cc)
sees_plain instruction marker (loop result body rest) tail more e m n =
    let p : (instruction ∷ tail) ≡ (Loop result ∷ flat body (End ∷ flat rest (marker ∷ more))) = e in
    let o : instruction ≡ Loop result = cc in
    absurd (let q : nesting (Loop result) ≡ stands = subst (λ x. nesting x ≡ stands) o n in cc)
sees_plain instruction marker (if_then result body rest) tail more e m n =
    let p : (instruction ∷ tail) ≡ (If result ∷ flat body (End ∷ flat rest (marker ∷ more))) = e in
    let o : instruction ≡ If result = cc in
    absurd (let q : nesting (If result) ≡ stands = subst (λ x. nesting x ≡ stands) o n in cc)
sees_plain instruction marker (if_else result first second rest) tail more e m n =
    let p : (instruction ∷ tail) ≡ (If result ∷ flat first (Else ∷ flat second (End ∷ flat rest (marker ∷ more)))) =
    e in
    let o : instruction ≡ If result = cc in
    absurd (let q : nesting (If result) ≡ stands = subst (λ x. nesting x ≡ stands) o n in cc)

-- a plain node is none of the instructions that nest
pub not_plain : (instruction other : Op) → other ≡ instruction → nesting other ≡ stands →
    (nesting instruction ≡ stands → ⊥) → ⊥
not_plain instruction other e n never = never (subst (λ x. nesting x ≡ stands) e n)

pub record SeesBlock (result : Option ValueType) (code : Sequence) : Type 0 where
  pub body : Sequence
  pub rest : Sequence
  pub is : code ≡ block result body rest

pub sees_block : (result : Option ValueType) (marker : Op) (code : Sequence) (tail more : List Op) →
    (Block result ∷ tail) ≡ flat code (marker ∷ more) → IsMarker marker → IsTree code → SeesBlock result code
sees_block result marker done tail more e (inl m) t = let p : (Block result ∷ tail) ≡ (marker ∷ more) = e in absurd cc
sees_block result marker done tail more e (inr m) t = let p : (Block result ∷ tail) ≡ (marker ∷ more) = e in absurd cc
sees_block result marker (plain other rest) tail more e m t =
    let p : (Block result ∷ tail) ≡ (other ∷ flat rest (marker ∷ more)) = e in let o : other ≡ Block result = cc in
    absurd (not_plain (Block result) other o t.0 (λ n. cc))
sees_block result marker (block found body rest) tail more e m t =
    let p : (Block result ∷ tail) ≡ (Block found ∷ flat body (End ∷ flat rest (marker ∷ more))) = e in
    let r : found ≡ result = cc in
    record { body = body; rest = rest; is = ap (λ x. block x body rest) r }
sees_block result marker (loop found body rest) tail more e m t =
    let p : (Block result ∷ tail) ≡ (Loop found ∷ flat body (End ∷ flat rest (marker ∷ more))) = e in absurd cc
sees_block result marker (if_then found body rest) tail more e m t =
    let p : (Block result ∷ tail) ≡ (If found ∷ flat body (End ∷ flat rest (marker ∷ more))) = e in absurd cc
sees_block result marker (if_else found first second rest) tail more e m t =
    let p : (Block result ∷ tail) ≡ (If found ∷ flat first (Else ∷ flat second (End ∷ flat rest (marker ∷ more)))) =
    e in
    absurd cc

pub record SeesLoop (result : Option ValueType) (code : Sequence) : Type 0 where
  pub body : Sequence
  pub rest : Sequence
  pub is : code ≡ loop result body rest

pub sees_loop : (result : Option ValueType) (marker : Op) (code : Sequence) (tail more : List Op) →
    (Loop result ∷ tail) ≡ flat code (marker ∷ more) → IsMarker marker → IsTree code → SeesLoop result code
sees_loop result marker done tail more e (inl m) t = let p : (Loop result ∷ tail) ≡ (marker ∷ more) = e in absurd cc
sees_loop result marker done tail more e (inr m) t = let p : (Loop result ∷ tail) ≡ (marker ∷ more) = e in absurd cc
sees_loop result marker (plain other rest) tail more e m t =
    let p : (Loop result ∷ tail) ≡ (other ∷ flat rest (marker ∷ more)) = e in let o : other ≡ Loop result = cc in
    absurd (not_plain (Loop result) other o t.0 (λ n. cc))
sees_loop result marker (loop found body rest) tail more e m t =
    let p : (Loop result ∷ tail) ≡ (Loop found ∷ flat body (End ∷ flat rest (marker ∷ more))) = e in
    let r : found ≡ result = cc in
    record { body = body; rest = rest; is = ap (λ x. loop x body rest) r }
sees_loop result marker (block found body rest) tail more e m t =
    let p : (Loop result ∷ tail) ≡ (Block found ∷ flat body (End ∷ flat rest (marker ∷ more))) = e in absurd cc
sees_loop result marker (if_then found body rest) tail more e m t =
    let p : (Loop result ∷ tail) ≡ (If found ∷ flat body (End ∷ flat rest (marker ∷ more))) = e in absurd cc
sees_loop result marker (if_else found first second rest) tail more e m t =
    let p : (Loop result ∷ tail) ≡ (If found ∷ flat first (Else ∷ flat second (End ∷ flat rest (marker ∷ more)))) = e in
    absurd cc

-- an `if` has one arm or two
pub record SeesOneArm (result : Option ValueType) (code : Sequence) : Type 0 where
  pub body : Sequence
  pub rest : Sequence
  pub is : code ≡ if_then result body rest

pub record SeesTwoArms (result : Option ValueType) (code : Sequence) : Type 0 where
  pub one : Sequence
  pub other : Sequence
  pub rest : Sequence
  pub is : code ≡ if_else result one other rest

pub sees_if : (result : Option ValueType) (marker : Op) (code : Sequence) (tail more : List Op) →
    (If result ∷ tail) ≡ flat code (marker ∷ more) → IsMarker marker → IsTree code →
    SeesOneArm result code ⊎ SeesTwoArms result code
sees_if result marker done tail more e (inl m) t = let p : (If result ∷ tail) ≡ (marker ∷ more) = e in absurd cc
sees_if result marker done tail more e (inr m) t = let p : (If result ∷ tail) ≡ (marker ∷ more) = e in absurd cc
sees_if result marker (plain instruction rest) tail more e m t =
    let p : (If result ∷ tail) ≡ (instruction ∷ flat rest (marker ∷ more)) = e in
    let o : instruction ≡ If result = cc in
    absurd (not_plain (If result) instruction o t.0 (λ n. cc))
sees_if result marker (block found body rest) tail more e m t =
    let p : (If result ∷ tail) ≡ (Block found ∷ flat body (End ∷ flat rest (marker ∷ more))) = e in absurd cc
sees_if result marker (loop found body rest) tail more e m t =
    let p : (If result ∷ tail) ≡ (Loop found ∷ flat body (End ∷ flat rest (marker ∷ more))) = e in absurd cc
sees_if result marker (if_then found body rest) tail more e m t =
    let p : (If result ∷ tail) ≡ (If found ∷ flat body (End ∷ flat rest (marker ∷ more))) = e in
    let r : found ≡ result = cc in
    inl (record { body = body; rest = rest; is = ap (λ x. if_then x body rest) r })
sees_if result marker (if_else found one other rest) tail more e m t =
    let p : (If result ∷ tail) ≡ (If found ∷ flat one (Else ∷ flat other (End ∷ flat rest (marker ∷ more)))) = e in
    let r : found ≡ result = cc in
    inr (record { one = one; other = other; rest = rest; is = ap (λ x. if_else x one other rest) r })

-- an `end` or an `else` here ends the region's rest
pub sees_end : (instruction marker : Op) (code : Sequence) (tail more : List Op) →
    (instruction ∷ tail) ≡ flat code (marker ∷ more) → IsMarker instruction → IsTree code →
    (code ≡ done) × (marker ≡ instruction)
sees_end instruction marker done tail more e m t = let p : (instruction ∷ tail) ≡ (marker ∷ more) = e in (refl, cc)
sees_end instruction marker (plain other rest) tail more e (inl m) t =
    let p : (instruction ∷ tail) ≡ (other ∷ flat rest (marker ∷ more)) = e in
    let o : other ≡ End = cc in
    absurd (not_plain End other o t.0 (λ n. cc))
sees_end instruction marker (plain other rest) tail more e (inr m) t =
    let p : (instruction ∷ tail) ≡ (other ∷ flat rest (marker ∷ more)) = e in
    let o : other ≡ Else = cc in
    absurd (not_plain Else other o t.0 (λ n. cc))
sees_end instruction marker (block found body rest) tail more e (inl m) t =
    let p : (instruction ∷ tail) ≡ (Block found ∷ flat body (End ∷ flat rest (marker ∷ more))) = e in absurd cc
sees_end instruction marker (block found body rest) tail more e (inr m) t =
    let p : (instruction ∷ tail) ≡ (Block found ∷ flat body (End ∷ flat rest (marker ∷ more))) = e in absurd cc
sees_end instruction marker (loop found body rest) tail more e (inl m) t =
    let p : (instruction ∷ tail) ≡ (Loop found ∷ flat body (End ∷ flat rest (marker ∷ more))) = e in absurd cc
sees_end instruction marker (loop found body rest) tail more e (inr m) t =
    let p : (instruction ∷ tail) ≡ (Loop found ∷ flat body (End ∷ flat rest (marker ∷ more))) = e in absurd cc
sees_end instruction marker (if_then found body rest) tail more e (inl m) t =
    let p : (instruction ∷ tail) ≡ (If found ∷ flat body (End ∷ flat rest (marker ∷ more))) = e in absurd cc
sees_end instruction marker (if_then found body rest) tail more e (inr m) t =
    let p : (instruction ∷ tail) ≡ (If found ∷ flat body (End ∷ flat rest (marker ∷ more))) = e in absurd cc
sees_end instruction marker (if_else found one other rest) tail more e (inl m) t =
    let p : (instruction ∷ tail) ≡ (If found ∷ flat one (Else ∷ flat other (End ∷ flat rest (marker ∷ more)))) = e in
    absurd cc
sees_end instruction marker (if_else found one other rest) tail more e (inr m) t =
    let p : (instruction ∷ tail) ≡ (If found ∷ flat one (Else ∷ flat other (End ∷ flat rest (marker ∷ more)))) = e in
    absurd cc

-- ---- where the parts of what stands here stand

pub plain_on : (ops : List Op) (ends : List ℕ) (instruction : Op) (rest : Sequence) (at : ℕ) →
    Standing ops ends (plain instruction rest) at → Standing ops ends rest (at + 1)
plain_on ops ends instruction rest at s = record {
  marker = s.marker;
  more = s.more;
  others = s.others;
  stands = record {
    ops_are = next_drop ops at instruction (flat rest (s.marker ∷ s.more)) s.stands.ops_are;
    ends_are = next_drop ends at 0 (ends_of rest (at + 1) s.others) s.stands.ends_are;
  };
  marks_end = s.marks_end;
  tree = s.tree.1;
}

-- a region's body behind this place, and what goes on behind its `end`
pub record Opens (ops : List Op) (ends : List ℕ) (body rest : Sequence) (start last : ℕ) : Type 0 where
  pub inside : Standing ops ends body start
  pub after : Standing ops ends rest (last + 1)

-- the same by the instructions and the entries behind the one that opens it
pub opened : (ops : List Op) (ends : List ℕ) (body rest : Sequence) (start last : ℕ) (marker : Op) (more : List Op)
    (others : List ℕ) →
    drop start ops ≡ flat body (End ∷ flat rest (marker ∷ more)) →
    drop start ends ≡ ends_of body start (0 ∷ ends_of rest (behind body start + 1) others) →
    IsMarker marker → IsTree body → IsTree rest → behind body start ≡ last → Opens ops ends body rest start last
opened ops ends body rest start last marker more others o e m t u b = record {
  inside = record {
    marker = End;
    more = flat rest (marker ∷ more);
    others = 0 ∷ ends_of rest (behind body start + 1) others;
    stands = record { ops_are = o; ends_are = e };
    marks_end = inl refl;
    tree = t;
  };
  after = subst (λ n. Standing ops ends rest (n + 1)) b (record {
    marker = marker;
    more = more;
    others = others;
    stands = record {
      ops_are =
          next_drop ops (behind body start) End (flat rest (marker ∷ more))
          (past_ops body ops start (End ∷ flat rest (marker ∷ more)) o);
      ends_are =
          next_drop ends (behind body start) 0 (ends_of rest (behind body start + 1) others)
          (past_ends body ends start (0 ∷ ends_of rest (behind body start + 1) others) e);
    };
    marks_end = m;
    tree = u;
  });
}

-- the entry of the table of ends at a place
pub entry_is : (ends : List ℕ) (at entry found : ℕ) (rest : List ℕ) → drop at ends ≡ found ∷ rest →
    slice_get ends at ≡ Some entry → found ≡ entry
entry_is ends at entry found rest e g = let h : slice_get ends at ≡ Some found = drop_got ends at found rest e in cc

pub block_on : (ops : List Op) (ends : List ℕ) (result : Option ValueType) (body rest : Sequence) (at last : ℕ) →
    Standing ops ends (block result body rest) at → slice_get ends at ≡ Some last →
    Opens ops ends body rest (at + 1) last
block_on ops ends result body rest at last s g =
    opened ops ends body rest (at + 1) last s.marker s.more s.others
    (next_drop ops at (Block result) (flat body (End ∷ flat rest (s.marker ∷ s.more))) s.stands.ops_are)
    (next_drop ends at (behind body (at + 1))
    (ends_of body (at + 1) (0 ∷ ends_of rest (behind body (at + 1) + 1) s.others)) s.stands.ends_are)
    s.marks_end s.tree.0 s.tree.1
    (entry_is ends at last (behind body (at + 1))
    (ends_of body (at + 1) (0 ∷ ends_of rest (behind body (at + 1) + 1) s.others)) s.stands.ends_are g)

pub loop_on : (ops : List Op) (ends : List ℕ) (result : Option ValueType) (body rest : Sequence) (at last : ℕ) →
    Standing ops ends (loop result body rest) at → slice_get ends at ≡ Some last →
    Opens ops ends body rest (at + 1) last
loop_on ops ends result body rest at last s g =
    opened ops ends body rest (at + 1) last s.marker s.more s.others
    (next_drop ops at (Loop result) (flat body (End ∷ flat rest (s.marker ∷ s.more))) s.stands.ops_are)
    (next_drop ends at (behind body (at + 1))
    (ends_of body (at + 1) (0 ∷ ends_of rest (behind body (at + 1) + 1) s.others)) s.stands.ends_are)
    s.marks_end s.tree.0 s.tree.1
    (entry_is ends at last (behind body (at + 1))
    (ends_of body (at + 1) (0 ∷ ends_of rest (behind body (at + 1) + 1) s.others)) s.stands.ends_are g)

-- an `if` with one arm: at the place that the table tells stands its `end`
pub record OneArm (ops : List Op) (ends : List ℕ) (body rest : Sequence) (start last : ℕ) : Type 0 where
  pub opens : Opens ops ends body rest start last
  pub marker : slice_get ops last ≡ Some End

pub if_then_on : (ops : List Op) (ends : List ℕ) (result : Option ValueType) (body rest : Sequence) (at last : ℕ) →
    Standing ops ends (if_then result body rest) at → slice_get ends at ≡ Some last →
    OneArm ops ends body rest (at + 1) last
if_then_on ops ends result body rest at last s g =
    let o : drop (at + 1) ops ≡ flat body (End ∷ flat rest (s.marker ∷ s.more)) =
    next_drop ops at (If result) (flat body (End ∷ flat rest (s.marker ∷ s.more))) s.stands.ops_are in
    let b : behind body (at + 1) ≡ last =
    entry_is ends at last (behind body (at + 1))
    (ends_of body (at + 1) (0 ∷ ends_of rest (behind body (at + 1) + 1) s.others)) s.stands.ends_are g in
    record {
      opens = opened ops ends body rest (at + 1) last s.marker s.more s.others o
          (next_drop ends at (behind body (at + 1))
          (ends_of body (at + 1) (0 ∷ ends_of rest (behind body (at + 1) + 1) s.others)) s.stands.ends_are) s.marks_end
          s.tree.0 s.tree.1 b;
      marker = subst (λ n. slice_get ops n ≡ Some End) b
          (drop_got ops (behind body (at + 1)) End (flat rest (s.marker ∷ s.more))
          (past_ops body ops (at + 1) (End ∷ flat rest (s.marker ∷ s.more)) o));
    }

-- an `if` with two arms: at the place that the table tells stands its `else`, and at the place that it tells there its
-- `end`
pub record TwoArms (ops : List Op) (ends : List ℕ) (one other rest : Sequence) (start middle last : ℕ) : Type 0 where
  pub one_stands : Standing ops ends one start
  pub other_opens : Opens ops ends other rest (middle + 1) last
  pub marker : slice_get ops middle ≡ Some Else
  pub entry : slice_get ends middle ≡ Some last

pub if_else_on : (ops : List Op) (ends : List ℕ) (result : Option ValueType) (one other rest : Sequence)
    (at middle : ℕ) → Standing ops ends (if_else result one other rest) at → slice_get ends at ≡ Some middle →
    (last : ℕ) × TwoArms ops ends one other rest (at + 1) middle last
if_else_on ops ends result one other rest at middle s g =
    let found : ℕ = behind one (at + 1) in
    let last : ℕ = behind other (found + 1) in
    let after_ops : List Op = End ∷ flat rest (s.marker ∷ s.more) in
    let after_ends : List ℕ = 0 ∷ ends_of rest (last + 1) s.others in
    let o : drop (at + 1) ops ≡ flat one (Else ∷ flat other after_ops) =
    next_drop ops at (If result) (flat one (Else ∷ flat other after_ops)) s.stands.ops_are in
    let e : drop (at + 1) ends ≡ ends_of one (at + 1) (last ∷ ends_of other (found + 1) after_ends) =
    next_drop ends at found (ends_of one (at + 1) (last ∷ ends_of other (found + 1) after_ends)) s.stands.ends_are in
    let p : drop found ops ≡ Else ∷ flat other after_ops = past_ops one ops (at + 1) (Else ∷ flat other after_ops) o in
    let q : drop found ends ≡ last ∷ ends_of other (found + 1) after_ends =
    past_ends one ends (at + 1) (last ∷ ends_of other (found + 1) after_ends) e in
    let b : found ≡ middle =
    entry_is ends at middle found (ends_of one (at + 1) (last ∷ ends_of other (found + 1) after_ends)) s.stands.ends_are
    g in (
      last,
      subst (λ n. TwoArms ops ends one other rest (at + 1) n last) b (record {
        one_stands = record {
          marker = Else;
          more = flat other after_ops;
          others = last ∷ ends_of other (found + 1) after_ends;
          stands = record { ops_are = o; ends_are = e };
          marks_end = inr refl;
          tree = s.tree.0;
        };
        other_opens =
            opened ops ends other rest (found + 1) last s.marker s.more s.others
            (next_drop ops found Else (flat other after_ops) p)
            (next_drop ends found last (ends_of other (found + 1) after_ends) q) s.marks_end s.tree.1 s.tree.2 refl;
        marker = drop_got ops found Else (flat other after_ops) p;
        entry = drop_got ends found last (ends_of other (found + 1) after_ends) q;
      }),
    )
