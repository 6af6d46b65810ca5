-- Code whose regions all close, read forwards, is nested code, and the other way round.
use Rattle.std.proofs.Common.{◌≡◌, Bool, true, false, List, [], ◌∷◌, Option, Some, None, refl, sym, subst}
use Rattle.wa_ops.specs.declared.op.Op.{Op}
use Rattle.wa_ops.specs.declared.op.Op.TheVariants.{End, Else}
use Rattle.wa_ops.specs.declared.op.ValueType.{ValueType}
use Rattle.wa_ops.specs.Sequences.{Sequence, done, plain, block, loop, if_then, if_else, Nesting, nesting, opens_block}
use Rattle.wa_ops.specs.Sequences.{opens_loop, opens_if, turns, closes, stands, IsTree, flat, IsNested, Open, nothing}
use Rattle.wa_ops.specs.Sequences.{to_end, to_else, broken, put_node, put_region, put_if, put_else, put_end, put_by}
use Rattle.wa_ops.specs.Sequences.{parse, whole}
use Rattle.wa_ops.proofs.Parsing.{tree_reads}
use Rattle.wa_decode.specs.CodeReading.{opened_by, opened}

-- the code closes each region that is open, the last with its last instruction
abbrev pub Closes : List Op → Option (List Bool) → Type 0
Closes ops None = ⊥
Closes [] (Some around) = around ≡ []
Closes (op ∷ ops) (Some []) = ⊥
Closes (op ∷ ops) (Some (may ∷ around)) = Closes ops (opened op (may ∷ around))

pub closes_flat : (code : Sequence) (after : List Op) (may : Bool) (around : List Bool) → IsTree code →
    Closes after (Some (may ∷ around)) → Closes (flat code after) (Some (may ∷ around))
closes_flat done after may around t h = h
closes_flat (plain op rest) after may around t h =
    let P : Nesting → Type 0 = λ n. Closes (flat rest after) (opened_by n (may ∷ around)) in
    subst P (sym t.0) (closes_flat rest after may around t.1 h)
closes_flat (block result body rest) after may around t h =
    closes_flat body (End ∷ flat rest after) false (may ∷ around) t.0 (closes_flat rest after may around t.1 h)
closes_flat (loop result body rest) after may around t h =
    closes_flat body (End ∷ flat rest after) false (may ∷ around) t.0 (closes_flat rest after may around t.1 h)
closes_flat (if_then result body rest) after may around t h =
    closes_flat body (End ∷ flat rest after) true (may ∷ around) t.0 (closes_flat rest after may around t.1 h)
closes_flat (if_else result first second rest) after may around t h =
    closes_flat first (Else ∷ flat second (End ∷ flat rest after)) true (may ∷ around) t.0
    (closes_flat second (End ∷ flat rest after) false (may ∷ around) t.1 (closes_flat rest after may around t.2 h))

pub nested_closes : (ops : List Op) → IsNested ops → Closes ops (Some (false ∷ []))
nested_closes ops h =
    let P : List Op → Type 0 = λ os. Closes os (Some (false ∷ [])) in
    subst P (sym h.1.instructions) (closes_flat h.0 (End ∷ []) false [] h.1.tree refl)

-- ---- back, by the code read backwards

-- what was read backwards closes each open region, with an `else` only where one may come
abbrev pub Matches : List Bool → Open → Type 0
Matches [] nothing = Unit {0}
Matches (may ∷ around) (to_end code found) = Matches around found
Matches (true ∷ around) (to_else code found) = Matches (false ∷ around) found
Matches _ _ = ⊥

node_matches : (node : Sequence → Sequence) (may : Bool) (around : List Bool) (found : Open) →
    Matches (may ∷ around) found → Matches (may ∷ around) (put_node node found)
node_matches node may around (to_end code found) h = h
node_matches node true around (to_else code found) h = h
node_matches node false around (to_else code found) h = absurd h
node_matches node may around nothing h = absurd h
node_matches node may around broken h = absurd h

region_matches : (region : Sequence → Sequence → Sequence) (may : Bool) (around : List Bool) (found : Open) →
    Matches (false ∷ may ∷ around) found → Matches (may ∷ around) (put_region region found)
region_matches region may around (to_end body found) h = node_matches (region body) may around found h
region_matches region may around (to_else code found) h = absurd h
region_matches region may around nothing h = absurd h
region_matches region may around broken h = absurd h

if_matches : (result : Option ValueType) (may : Bool) (around : List Bool) (found : Open) →
    Matches (true ∷ may ∷ around) found → Matches (may ∷ around) (put_if result found)
if_matches result may around (to_end body found) h = node_matches (if_then result body) may around found h
if_matches result may around (to_else first (to_end second found)) h =
    node_matches (if_else result first second) may around found h
if_matches result may around (to_else first (to_else second found)) h = absurd h
if_matches result may around (to_else first nothing) h = absurd h
if_matches result may around (to_else first broken) h = absurd h
if_matches result may around nothing h = absurd h
if_matches result may around broken h = absurd h

else_matches : (around : List Bool) (found : Open) → Matches (false ∷ around) found →
    Matches (true ∷ around) (put_else found)
else_matches around (to_end second found) h = h
else_matches around (to_else code found) h = absurd h
else_matches around nothing h = absurd h
else_matches around broken h = absurd h

end_matches : (may : Bool) (around : List Bool) (found : Open) → Matches around found →
    Matches (may ∷ around) (put_end found)
end_matches may around (to_end code found) h = h
end_matches may around (to_else code found) h = h
end_matches may around nothing h = h
end_matches may [] broken h = absurd h
end_matches may (next ∷ around) broken h = absurd h

put_matches : (n : Nesting) (op : Op) (ops : List Op) (may : Bool) (around : List Bool) →
    ((now : List Bool) → Closes ops (Some now) → Matches now (parse ops)) → Closes ops (opened_by n (may ∷ around)) →
    Matches (may ∷ around) (put_by n op (parse ops))
put_matches (opens_block result) op ops may around deeper h =
    region_matches (block result) may around (parse ops) (deeper (false ∷ may ∷ around) h)
put_matches (opens_loop result) op ops may around deeper h =
    region_matches (loop result) may around (parse ops) (deeper (false ∷ may ∷ around) h)
put_matches (opens_if result) op ops may around deeper h =
    if_matches result may around (parse ops) (deeper (true ∷ may ∷ around) h)
put_matches turns op ops true around deeper h = else_matches around (parse ops) (deeper (false ∷ around) h)
put_matches turns op ops false around deeper h = absurd h
put_matches closes op ops may around deeper h = end_matches may around (parse ops) (deeper around h)
put_matches stands op ops may around deeper h = node_matches (plain op) may around (parse ops) (deeper (may ∷ around) h)

pub closes_matches : (ops : List Op) (around : List Bool) → Closes ops (Some around) → Matches around (parse ops)
closes_matches [] around h =
    let P : List Bool → Type 0 = λ a. Matches a nothing in subst P (sym h) tt
closes_matches (op ∷ ops) [] h = absurd h
closes_matches (op ∷ ops) (may ∷ around) h = put_matches (nesting op) op ops may around (closes_matches ops) h

whole_matches : (found : Open) → Matches (false ∷ []) found → (code : Sequence) × (whole found ≡ Some code)
whole_matches (to_end code nothing) h = (code, refl)
whole_matches (to_end code (to_end c o)) h = absurd h
whole_matches (to_end code (to_else c o)) h = absurd h
whole_matches (to_end code broken) h = absurd h
whole_matches (to_else code found) h = absurd h
whole_matches nothing h = absurd h
whole_matches broken h = absurd h

pub closes_nested : (ops : List Op) → Closes ops (Some (false ∷ [])) → IsNested ops
closes_nested ops h =
    let w = whole_matches (parse ops) (closes_matches ops (false ∷ []) h) in
    (w.0, (tree_reads ops w.0).1 w.1)
