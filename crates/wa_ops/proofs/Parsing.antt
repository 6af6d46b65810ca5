-- The tree of flat code, both ways.
use Rattle.std.proofs.Common.{◌≡◌, List, [], ◌∷◌, Some, sym, ◌∙◌, ap, subst, refl}
use Rattle.wa_ops.specs.declared.op.Op.{Op}
use Rattle.wa_ops.specs.declared.op.Op.TheVariants.{Block, Loop, If, Else, End}
use Rattle.wa_ops.specs.Sequences.{Sequence, done, plain, block, loop, if_then, if_else, nesting, IsTree, flat, Reads}
use Rattle.wa_ops.specs.Sequences.{Open, nothing, to_end, to_else, broken, put_node, put_region, put_if, put_else}
use Rattle.wa_ops.specs.Sequences.{put_end, put_by, parse, whole, tree_of, OneTree, TreeReads}

-- a sequence, and one behind it
abbrev pub joined : Sequence → Sequence → Sequence
joined done more = more
joined (plain op rest) more = plain op (joined rest more)
joined (block result body rest) more = block result body (joined rest more)
joined (loop result body rest) more = loop result body (joined rest more)
joined (if_then result body rest) more = if_then result body (joined rest more)
joined (if_else result first second rest) more = if_else result first second (joined rest more)

pub joined_done : (code : Sequence) → joined code done ≡ code
joined_done done = refl
joined_done (plain op rest) = ap (plain op) (joined_done rest)
joined_done (block result body rest) = ap (block result body) (joined_done rest)
joined_done (loop result body rest) = ap (loop result body) (joined_done rest)
joined_done (if_then result body rest) = ap (if_then result body) (joined_done rest)
joined_done (if_else result first second rest) = ap (if_else result first second) (joined_done rest)

-- a sequence in front of what was read
abbrev pub onto : Sequence → Open → Open
onto code found = put_node (joined code) found

-- something is open
abbrev pub IsOpen : Open → Type 0
IsOpen (to_end code around) = Unit {0}
IsOpen (to_else code around) = Unit {0}
IsOpen nothing = ⊥
IsOpen broken = ⊥

pub onto_open : (code : Sequence) (found : Open) → IsOpen found → IsOpen (onto code found)
onto_open code (to_end rest around) h = tt
onto_open code (to_else rest around) h = tt
onto_open code nothing h = absurd h
onto_open code broken h = absurd h

pub onto_done : (found : Open) → IsOpen found → found ≡ onto done found
onto_done (to_end rest around) h = refl
onto_done (to_else rest around) h = refl
onto_done nothing h = absurd h
onto_done broken h = absurd h

pub node_onto : (node : Sequence → Sequence) (rest code : Sequence) (found : Open) →
    ((more : Sequence) → node (joined rest more) ≡ joined code more) → put_node node (onto rest found) ≡ onto code found
node_onto node rest code (to_end more around) h = ap (λ c. to_end c around) (h more)
node_onto node rest code (to_else more around) h = ap (λ c. to_else c around) (h more)
node_onto node rest code nothing h = refl
node_onto node rest code broken h = refl

pub end_of_open : (found : Open) → IsOpen found → put_end found ≡ to_end done found
end_of_open (to_end rest around) h = refl
end_of_open (to_else rest around) h = refl
end_of_open nothing h = absurd h
end_of_open broken h = absurd h

-- a region's body, up to its end
pub closed : (body : Sequence) (behind : List Op) (found : Open) → IsOpen found → parse behind ≡ found →
    (IsOpen (parse (End ∷ behind)) → parse (flat body (End ∷ behind)) ≡ onto body (parse (End ∷ behind))) →
    parse (flat body (End ∷ behind)) ≡ to_end body found
closed body behind found o e call =
    let ended : parse (End ∷ behind) ≡ to_end done found = ap put_end e ∙ end_of_open found o in
    call (subst IsOpen (sym ended) tt) ∙ ap (onto body) ended ∙ ap (λ b. to_end b found) (joined_done body)

pub parse_flat : (code : Sequence) (after : List Op) → IsTree code → IsOpen (parse after) →
    parse (flat code after) ≡ onto code (parse after)
parse_flat done after t o = onto_done (parse after) o
parse_flat (plain op rest) after t o =
    ap (λ n. put_by n op (parse (flat rest after))) t.0
    ∙ ap (put_node (plain op)) (parse_flat rest after t.1 o)
    ∙ node_onto (plain op) rest (plain op rest) (parse after) (λ more. refl)
parse_flat (block result body rest) after t o =
    ap (put_region (block result)) (closed body (flat rest after) (onto rest (parse after))
    (onto_open rest (parse after) o) (parse_flat rest after t.1 o) (parse_flat body (End ∷ flat rest after) t.0))
    ∙ node_onto (block result body) rest (block result body rest) (parse after) (λ more. refl)
parse_flat (loop result body rest) after t o =
    ap (put_region (loop result)) (closed body (flat rest after) (onto rest (parse after))
    (onto_open rest (parse after) o) (parse_flat rest after t.1 o) (parse_flat body (End ∷ flat rest after) t.0))
    ∙ node_onto (loop result body) rest (loop result body rest) (parse after) (λ more. refl)
parse_flat (if_then result body rest) after t o =
    ap (put_if result) (closed body (flat rest after) (onto rest (parse after)) (onto_open rest (parse after) o)
    (parse_flat rest after t.1 o) (parse_flat body (End ∷ flat rest after) t.0))
    ∙ node_onto (if_then result body) rest (if_then result body rest) (parse after) (λ more. refl)
parse_flat (if_else result first second rest) after t o =
    let at_end : parse (flat second (End ∷ flat rest after)) ≡ to_end second (onto rest (parse after)) =
    closed second (flat rest after) (onto rest (parse after)) (onto_open rest (parse after) o)
    (parse_flat rest after t.2 o) (parse_flat second (End ∷ flat rest after) t.1) in
    let at_else : parse (Else ∷ flat second (End ∷ flat rest after))
    ≡ to_else done (to_end second (onto rest (parse after))) =
    ap put_else at_end in
    ap (put_if result)
    (parse_flat first (Else ∷ flat second (End ∷ flat rest after)) t.0 (subst IsOpen (sym at_else) tt)
    ∙ ap (onto first) at_else
    ∙ ap (λ a. to_else a (to_end second (onto rest (parse after)))) (joined_done first))
    ∙ node_onto (if_else result first second) rest (if_else result first second rest) (parse after) (λ more. refl)

pub found_tree : (ops : List Op) (code : Sequence) → Reads ops code → tree_of ops ≡ Some code
found_tree ops code r =
    ap tree_of r.instructions ∙ ap whole (parse_flat code (End ∷ []) r.tree tt) ∙ ap Some (joined_done code)

-- the instructions of what was read
abbrev pub spelled : Open → List Op
spelled nothing = []
spelled (to_end code around) = flat code (End ∷ spelled around)
spelled (to_else code around) = flat code (Else ∷ spelled around)
spelled broken = []

abbrev pub AllTrees : Open → Type 0
AllTrees nothing = Unit {0}
AllTrees (to_end code around) = IsTree code × AllTrees around
AllTrees (to_else code around) = IsTree code × AllTrees around
AllTrees broken = ⊥

-- what was read spells the instructions, and holds trees
pub record Sound (ops : List Op) (found : Open) : Type 0 where
  pub spells : spelled found ≡ ops
  pub trees : AllTrees found

-- nested so far, or broken
abbrev pub IsSound : List Op → Open → Type 0
IsSound ops broken = Unit {0}
IsSound ops nothing = Sound ops nothing
IsSound ops (to_end code around) = Sound ops (to_end code around)
IsSound ops (to_else code around) = Sound ops (to_else code around)

pub put_sound : (op : Op) (found : Open) → AllTrees found → IsSound (op ∷ spelled found) (put_by (nesting op) op found)
put_sound End nothing t = record { spells = refl; trees = (tt, tt) }
put_sound End (to_end code around) t = record { spells = refl; trees = (tt, t) }
put_sound End (to_else code around) t = record { spells = refl; trees = (tt, t) }
put_sound Else (to_end code around) t = record { spells = refl; trees = (tt, t) }
put_sound (Block result) (to_end body (to_end code around)) t = record { spells = refl; trees = ((t.0, t.1.0), t.1.1) }
put_sound (Block result) (to_end body (to_else code around)) t = record { spells = refl; trees = ((t.0, t.1.0), t.1.1) }
put_sound (Loop result) (to_end body (to_end code around)) t = record { spells = refl; trees = ((t.0, t.1.0), t.1.1) }
put_sound (Loop result) (to_end body (to_else code around)) t = record { spells = refl; trees = ((t.0, t.1.0), t.1.1) }
put_sound (If result) (to_end body (to_end code around)) t = record { spells = refl; trees = ((t.0, t.1.0), t.1.1) }
put_sound (If result) (to_end body (to_else code around)) t = record { spells = refl; trees = ((t.0, t.1.0), t.1.1) }
put_sound (If result) (to_else first (to_end second (to_end code around))) t = record {
  spells = refl;
  trees = ((t.0, t.1.0, t.1.1.0), t.1.1.1);
}
put_sound (If result) (to_else first (to_end second (to_else code around))) t = record {
  spells = refl;
  trees = ((t.0, t.1.0, t.1.1.0), t.1.1.1);
}
put_sound Else nothing t = tt
put_sound Else (to_else code around) t = tt
put_sound (Block result) nothing t = tt
put_sound (Block result) (to_end body nothing) t = tt
put_sound (Block result) (to_end body broken) t = tt
put_sound (Block result) (to_else code around) t = tt
put_sound (Loop result) nothing t = tt
put_sound (Loop result) (to_end body nothing) t = tt
put_sound (Loop result) (to_end body broken) t = tt
put_sound (Loop result) (to_else code around) t = tt
put_sound (If result) nothing t = tt
put_sound (If result) (to_end body nothing) t = tt
put_sound (If result) (to_end body broken) t = tt
put_sound (If result) (to_else first nothing) t = tt
put_sound (If result) (to_else first broken) t = tt
put_sound (If result) (to_else first (to_else code around)) t = tt
put_sound (If result) (to_else first (to_end second nothing)) t = tt
put_sound (If result) (to_else first (to_end second broken)) t = tt
put_sound op broken t = absurd t
put_sound op nothing t = tt
put_sound op (to_end code around) t = record { spells = refl; trees = ((refl, t.0), t.1) }
put_sound op (to_else code around) t = record { spells = refl; trees = ((refl, t.0), t.1) }

pub after_put : (op : Op) (ops : List Op) (found : Open) → IsSound ops found →
    IsSound (op ∷ ops) (put_by (nesting op) op found)
after_put op ops nothing s =
    subst (λ os. IsSound (op ∷ os) (put_by (nesting op) op nothing)) s.spells (put_sound op nothing s.trees)
after_put op ops (to_end code around) s =
    subst (λ os. IsSound (op ∷ os) (put_by (nesting op) op (to_end code around))) s.spells
    (put_sound op (to_end code around) s.trees)
after_put op ops (to_else code around) s =
    subst (λ os. IsSound (op ∷ os) (put_by (nesting op) op (to_else code around))) s.spells
    (put_sound op (to_else code around) s.trees)
after_put End ops broken s = tt
after_put op ops broken s = tt

pub parse_sound : (ops : List Op) → IsSound ops (parse ops)
parse_sound [] = record { spells = refl; trees = tt }
parse_sound (op ∷ ops) = after_put op ops (parse ops) (parse_sound ops)

pub whole_tree : (ops : List Op) (found : Open) (code : Sequence) → IsSound ops found → whole found ≡ Some code →
    Reads ops code
whole_tree ops (to_end tree nothing) code s e =
    let p : tree ≡ code = cc in subst (Reads ops) p (record { instructions = sym s.spells; tree = s.trees.0 })
whole_tree ops nothing code s e = absurd cc
whole_tree ops (to_end tree (to_end x y)) code s e = absurd cc
whole_tree ops (to_end tree (to_else x y)) code s e = absurd cc
whole_tree ops (to_end tree broken) code s e = absurd cc
whole_tree ops (to_else x y) code s e = absurd cc
whole_tree ops broken code s e = absurd cc

pub one_tree : OneTree
one_tree ops a b r s = let p : Some a ≡ Some b = sym (found_tree ops a r) ∙ found_tree ops b s in cc

pub tree_reads : TreeReads
tree_reads ops code = (found_tree ops code, whole_tree ops (parse ops) code (parse_sound ops))
