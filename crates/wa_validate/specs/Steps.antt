-- One instruction of flat code, on the regions that are open (WebAssembly Core 1.0, appendix "Validation Algorithm").
use Rattle.std.specs.Prelude.{ℕ, ◌+◌, List, [], ◌∷◌, Option, Some, None, Bool, true, false, if◌then◌else◌, length}
use Rattle.wa_ops.specs.declared.op.Op.{Op}
use Rattle.wa_ops.specs.declared.op.ValueType.{ValueType}
use Rattle.wa_ops.specs.declared.op.ValueType.TheVariants.{I32}
use Rattle.wa_ops.specs.Sequences.{Nesting, nesting, opens_block, opens_loop, opens_if, turns, closes, stands}
use Rattle.wa_ops.specs.Typing.{Context, Stack, fresh, pop, pop_result, push_result, and_then, no_slots, effect}
use Rattle.wa_validate.specs.Labels.{rest_of}
use Rattle.wa_validate.specs.declared.region.Region.{Region}
use Rattle.wa_validate.specs.declared.open_regions.OpenRegions.{OpenRegions}

-- at the beginning of a body with this result
abbrev pub begun : Option ValueType → OpenRegions
begun result = record {
  labels = result ∷ [];
  inner = record { first_arm = false; result = result; below = 0; operands = fresh };
  around = [];
}

abbrev pub with_operands : Stack → OpenRegions → OpenRegions
with_operands stack r = record r { inner = record r.inner { operands = stack } }

-- begins a region inside
abbrev pub entered : Bool → Option ValueType → Option ValueType → OpenRegions → OpenRegions
entered first_arm label result r = record {
  labels = label ∷ r.labels;
  inner = record {
    first_arm = first_arm;
    result = result;
    below = r.inner.below + length r.inner.operands.slots;
    operands = fresh;
  };
  around = r.inner ∷ r.around;
}

-- without the innermost region's result, where that is all that is left
abbrev pub ended : OpenRegions → Option OpenRegions
ended r =
    and_then (pop_result r.inner.result r.inner.operands)
    (λ left. if no_slots left.slots then Some (with_operands left r) else None)

abbrev pub in_second_arm : OpenRegions → OpenRegions
in_second_arm r = record r { inner = record r.inner { first_arm = false; operands = fresh } }

abbrev pub turned : OpenRegions → Option OpenRegions
turned r = if r.inner.first_arm then Some (in_second_arm r) else None

-- an `if` with a result and no `else`
abbrev pub lacks_else : Bool → Option ValueType → Bool
lacks_else true (Some kind) = true
lacks_else first_arm result = false

-- the region around has the result; around the body there is none
abbrev pub handed : OpenRegions → List Region → OpenRegions
handed r [] = r
handed r (outer ∷ around) = record {
  labels = rest_of r.labels;
  inner = record outer { operands = push_result r.inner.result outer.operands };
  around = around;
}

abbrev pub closed : OpenRegions → Option OpenRegions
closed r = if lacks_else r.inner.first_arm r.inner.result then None else Some (handed r r.around)

abbrev pub step_by : Nesting → Context → Op → OpenRegions → Option OpenRegions
step_by (opens_block result) context op r = Some (entered false result result r)
step_by (opens_loop result) context op r = Some (entered false None result r)
step_by (opens_if result) context op r =
    and_then (pop I32 r.inner.operands) (λ left. Some (entered true result result (with_operands left r)))
step_by turns context op r = and_then (ended r) turned
step_by closes context op r = and_then (ended r) closed
step_by stands context op r =
    and_then (effect context r.labels op r.inner.operands) (λ stack. Some (with_operands stack r))

-- the regions behind an instruction, where it is well typed
abbrev pub step : Context → Op → OpenRegions → Option OpenRegions
step context op r = step_by (nesting op) context op r
