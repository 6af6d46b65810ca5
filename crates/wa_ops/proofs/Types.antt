-- Types that a test finds to be one, and how many functions calls are.
use Rattle.std.proofs.Common.{◌≡◌, true, List, [], ◌∷◌, ap, refl, suc, length}
use Rattle.wa_ops.specs.Contexts.{callees}
use Rattle.wa_ops.specs.Typing.{is_same_type}
use Rattle.wa_ops.specs.declared.call_no.CallNo.{CallNo}
use Rattle.wa_ops.specs.declared.op.ValueType.{ValueType}
use Rattle.wa_ops.specs.declared.op.ValueType.TheVariants.{I32, I64, F32, F64}

pub same_type : (a b : ValueType) → is_same_type a b ≡ true → a ≡ b
same_type I32 I32 h = refl
same_type I64 I64 h = refl
same_type F32 F32 h = refl
same_type F64 F64 h = refl
same_type a b h = absurd cc

pub length-callees : (calls : List CallNo) → length (callees calls) ≡ length calls
length-callees [] = refl
length-callees (call ∷ calls) = ap suc (length-callees calls)
