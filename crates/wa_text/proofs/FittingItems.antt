-- What a line adds to a module fits, and how many bytes spell it.
use Rattle.std.proofs.Common.{◌≡◌, ℕ, zero, suc, ◌+◌, ◌^◌, ◌≤◌, nat_le, nat_lt, Bool, true, false, List, [], ◌∷◌, ◌++◌}
use Rattle.std.proofs.Common.{length, codes, flat_map, Some, option_map, pos, negsuc, ◌-◌, refl, sym, ap, subst}
use Rattle.std.proofs.Common.{append_assoc, length-append, arith}
use Rattle.std.proofs.lemmas.Bool.{and_parts, leb-true, ltb-true, ltb-false}
use Rattle.std.specs.List.{list_all}
use Rattle.std.specs.Option.{option_map_or}
use Rattle.std.specs.Prelude.{slice_get}
use mir.Val.{sel}
use Rattle.wa_ops.specs.Rows.{ApiCall, api_calls, row_parameters}
use Rattle.wa_ops.specs.Sequences.{Nesting, nesting, opens_block, opens_loop, opens_if, turns, closes, stands, done}
use Rattle.wa_ops.specs.Sequences.{plain}
use Rattle.wa_ops.specs.Soundness.{Each}
use Rattle.wa_ops.specs.declared.modules.FuncType.{FuncType}
use Rattle.wa_ops.specs.declared.modules.Module.{Module}
use Rattle.wa_ops.specs.declared.op.Op.{Op}
use Rattle.wa_ops.specs.declared.op.Op.TheVariants.{End, I32Const, I64Const}
use Rattle.wa_decode.specs.CodeReading.{opened_by, opened}
use Rattle.wa_decode.specs.Ranges.{InBits}
use Rattle.wa_decode.proofs.Nesting.{Closes}
use Rattle.wa_encode.specs.Fitting.{IsWord, FitsOp, FitsCode}
use Rattle.wa_encode.specs.Instructions.{op, expression}
use Rattle.wa_encode.specs.Modules.{value_type, func_type, import, global, export, locals, body, code, segment}
use Rattle.wa_encode.specs.Numbers.{number, signed}
use Rattle.wa_encode.specs.Vectors.{vector, text}
use Rattle.wa_text.specs.declared.draft.Body.{Body}
use Rattle.wa_text.specs.declared.text_line.Constant.{Constant}
use Rattle.wa_text.specs.declared.text_line.Constant.TheVariants as constant
use Rattle.wa_text.specs.Draft as drafts
use Rattle.wa_text.specs.Numbers.{signed_word}
use Rattle.wa_text.proofs.Sizes.{number_size, signed_size, text_size, vector_size, items_size, more_size}
use Rattle.wa_text.proofs.FittingLines.{not_negative, negative}

-- ---- an item more

pub each_more : {A : Type 0} (P : A → Type 0) (xs : List A) (x : A) → Each P xs → P x → Each P (xs ++ x ∷ [])
each_more P [] x e p = (p, tt)
each_more P (y ∷ ys) x e p = (e.0, each_more P ys x e.1 p)

-- ---- code whose regions are open

outer : (n : Nesting) (regions now : List Bool) → opened_by n regions ≡ Some now →
    opened_by n (regions ++ false ∷ []) ≡ Some (now ++ false ∷ [])
outer (opens_block result) regions now e = ap (option_map (λ r. r ++ false ∷ [])) e
outer (opens_loop result) regions now e = ap (option_map (λ r. r ++ false ∷ [])) e
outer (opens_if result) regions now e = ap (option_map (λ r. r ++ false ∷ [])) e
outer turns [] now e = absurd (cc e)
outer turns (true ∷ around) now e = ap (option_map (λ r. r ++ false ∷ [])) e
outer turns (false ∷ around) now e = absurd (cc e)
outer closes [] now e = absurd (cc e)
outer closes (may ∷ around) now e = ap (option_map (λ r. r ++ false ∷ [])) e
outer stands regions now e = ap (option_map (λ r. r ++ false ∷ [])) e

next_closes : (instruction : Op) (regions now : List Bool) (after : List Op) → opened instruction regions ≡ Some now →
    Closes after (Some (now ++ false ∷ [])) → Closes (instruction ∷ after) (Some (regions ++ false ∷ []))
next_closes instruction [] now after e h = subst (Closes after) (sym (outer (nesting instruction) [] now e)) h
next_closes instruction (may ∷ around) now after e h =
    subst (Closes after) (sym (outer (nesting instruction) (may ∷ around) now e)) h

-- what closes these regions and the function behind these instructions closes the function
abbrev pub Opens : List Op → List Bool → Type 0
Opens ops regions =
    (after : List Op) → Closes after (Some (regions ++ false ∷ [])) → Closes (ops ++ after) (Some (false ∷ []))

pub opens_more : (ops : List Op) (regions now : List Bool) (instruction : Op) → Opens ops regions →
    opened instruction regions ≡ Some now → Opens (ops ++ instruction ∷ []) now
opens_more ops regions now instruction h e after c =
    subst (λ os. Closes os (Some (false ∷ []))) (sym (append_assoc ops (instruction ∷ []) after))
    (h (instruction ∷ after) (next_closes instruction regions now after e c))

-- ---- expressions of one instruction

pub signed_word_fits : (n : ℕ) → IsWord n → InBits 32 (signed_word n)
signed_word_fits n h = split (nat_lt n (2 ^ 31)) refl
  where
    split : (t : Bool) → nat_lt n (2 ^ 31) ≡ t → InBits 32 (sel t (pos n) (negsuc (2 ^ 32 - suc n)))
    split true e = not_negative 32 n (ltb-true n (2 ^ 31) e)
    split false e = negative 32 (2 ^ 32 - suc n) (let l : 2 ^ 31 ≤ n = ltb-false n (2 ^ 31) e in omega (arith, l, h))

pub end_fits : FitsOp End
end_fits = record { numbers = tt; sound = tt }

pub constant_fits : (value : Constant) → FitsOp (drafts.constant_of value) →
    FitsCode (drafts.constant_of value ∷ End ∷ [])
constant_fits (constant.I32 z) h = record {
  nested = (plain (I32Const z) done, record { instructions = refl; tree = (refl, tt) });
  each = (h, (end_fits, tt));
}
constant_fits (constant.I64 z) h = record {
  nested = (plain (I64Const z) done, record { instructions = refl; tree = (refl, tt) });
  each = (h, (end_fits, tt));
}

constant_size : (value : Constant) → length (expression (drafts.constant_of value ∷ End ∷ [])) ≤ 12
constant_size (constant.I32 z) = omega (arith, length-append (signed z) (0x0B ∷ []), signed_size z)
constant_size (constant.I64 z) = omega (arith, length-append (signed z) (0x0B ∷ []), signed_size z)

-- ---- sizes of items

pub type_size : (t : FuncType) → length (func_type t) ≤ 21 + length t.parameters + length t.results
type_size t =
    omega (
      arith,
      length-append (vector value_type t.parameters) (vector value_type t.results),
      vector_size value_type t.parameters,
      vector_size value_type t.results,
      items_size value_type 1 (λ kind. omega arith) t.parameters,
      items_size value_type 1 (λ kind. omega arith) t.results,
    )

abbrev is_narrow : ApiCall → Bool
is_narrow call = nat_le (length call.parameters) 9

all_narrow : (calls : List ApiCall) (row : ℕ) → list_all is_narrow calls ≡ true →
    length (option_map_or (λ call. call.parameters) (slice_get calls row) []) ≤ 9
all_narrow [] row e = omega arith
all_narrow (call ∷ calls) zero e =
    leb-true (length call.parameters) 9 (and_parts (is_narrow call) (list_all is_narrow calls) e).0
all_narrow (call ∷ calls) (suc row) e = all_narrow calls row (and_parts (is_narrow call) (list_all is_narrow calls) e).1

pub parameters_few : (row : ℕ) → length (row_parameters row) ≤ 9
unfolding row_parameters api_calls
parameters_few row = all_narrow api_calls row refl

pub import_size : (name : List ℕ) (before : ℕ) → length (import (drafts.imported name before)) ≤ 34 + length name
import_size name before =
    let three : length (codes "env") ≡ 3 = refl in
    omega (
      arith,
      three,
      length-append (text (codes "env")) (text name ++ 0x00 ∷ number (before + 1)),
      length-append (text name) (0x00 ∷ number (before + 1)),
      text_size (codes "env"),
      text_size name,
      number_size (before + 1),
    )

pub global_size : (mutable : Bool) (value : Constant) → length (global (drafts.global_of mutable value)) ≤ 14
global_size mutable value = omega (arith, constant_size value)

pub segment_size : (offset : ℕ) (bytes : List ℕ) → length (segment (drafts.segment_of offset bytes)) ≤ 32 + length bytes
segment_size offset bytes =
    let placed = expression (I32Const (signed_word offset) ∷ End ∷ []) in
    omega (
      arith,
      length-append (number 0) (placed ++ text bytes),
      length-append placed (text bytes),
      number_size 0,
      constant_size (constant.I32 (signed_word offset)),
      text_size bytes,
    )

pub export_size : (name : List ℕ) (m : Module) → length (export (drafts.function_export name m)) ≤ 21 + length name
export_size name m =
    let index = length m.imports + length m.codes in
    omega (arith, length-append (text name) (0 ∷ number index), text_size name, number_size index)

pub code_size : (b : Body) →
    length (code (drafts.code_of b)) ≤ 21 + length (flat_map locals b.locals) + length (flat_map op b.ops)
code_size b =
    omega (
      arith,
      text_size (body (drafts.code_of b)),
      length-append (vector locals b.locals) (expression (b.ops ++ End ∷ [])),
      vector_size locals b.locals,
      more_size op b.ops End,
    )
