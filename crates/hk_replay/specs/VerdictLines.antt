-- How the verdict on a code is told (this project's own). Byte 32 is a space and 45 a dash.
use Rattle.std.specs.Prelude.{ℕ, List, [], ◌∷◌, ◌++◌, codes, Option, Some, None}
use Rattle.std.specs.Fmt.{decimal}
use Rattle.hk_base.specs.Hexadecimal.{hex_text}
use Rattle.wa_ops.specs.declared.rule_fault.RuleFault.{RuleFault}
use Rattle.wa_ops.specs.declared.rule_fault.RuleFault.TheVariants as rule
use Rattle.hk_bound.specs.Checks.{Held}
use Rattle.hk_bound.specs.declared.fault.CheckFault.{CheckFault}
use Rattle.hk_bound.specs.declared.fault.CheckFault.TheVariants as fault
use Rattle.hk_bound.specs.declared.fault.Export.{Export}
use Rattle.hk_bound.specs.declared.fault.Export.TheVariants as «export»
use Rattle.hk_replay.specs.declared.verdict.Place.{Place}
use Rattle.hk_replay.specs.declared.verdict.Place.TheVariants as place

-- the bound of `cbak`, or a dash
abbrev pub cbak_text : Option ℕ → List ℕ
cbak_text None = 45 ∷ []
cbak_text (Some bound) = decimal bound

-- the line of an accepted code: its hash and its bounds
abbrev pub accepted_line : Held → List ℕ
accepted_line held =
    codes "ok "
    ++ (hex_text held.hash.0
    ++ (codes " hook " ++ (decimal held.bound_hook ++ (codes " cbak " ++ (cbak_text held.bound_cbak ++ 10 ∷ [])))))

-- the name of the rule that is broken
abbrev pub rule_name : RuleFault → List ℕ
rule_name (rule.FloatType index) = codes "float type"
rule_name (rule.FloatGlobal index) = codes "float global"
rule_name (rule.FloatLocals func) = codes "float locals"
rule_name (rule.FloatCode func op) = codes "float code"
rule_name (rule.BadImport index) = codes "import"
rule_name (rule.BadType index) = codes "type"
rule_name (rule.BadFunction func) = codes "function"
rule_name rule.BadTable = codes "table"
rule_name rule.BadMemory = codes "memory"
rule_name (rule.BadGlobal index) = codes "global"
rule_name rule.BadExport = codes "export"
rule_name rule.Start = codes "start"
rule_name rule.Elements = codes "elements"
rule_name (rule.BadData index) = codes "segment"
rule_name (rule.TooManyLocals func) = codes "locals"
rule_name (rule.IndirectCall func op) = codes "indirect"
rule_name (rule.Grow func op) = codes "grow"
rule_name (rule.OwnCall func op) = codes "own call"
rule_name (rule.GuardNotConstant func op) = codes "guard constant"
rule_name (rule.LoopWithoutGuard func op) = codes "loop guard"
rule_name rule.NoMemory = codes "no memory"

-- where it is broken
abbrev pub rule_place : RuleFault → Place
rule_place (rule.FloatType index) = place.Item index
rule_place (rule.FloatGlobal index) = place.Item index
rule_place (rule.FloatLocals func) = place.Item func
rule_place (rule.FloatCode func op) = place.Op func op
rule_place (rule.BadImport index) = place.Item index
rule_place (rule.BadType index) = place.Item index
rule_place (rule.BadFunction func) = place.Item func
rule_place (rule.BadGlobal index) = place.Item index
rule_place (rule.BadData index) = place.Item index
rule_place (rule.TooManyLocals func) = place.Item func
rule_place (rule.IndirectCall func op) = place.Op func op
rule_place (rule.Grow func op) = place.Op func op
rule_place (rule.OwnCall func op) = place.Op func op
rule_place (rule.GuardNotConstant func op) = place.Op func op
rule_place (rule.LoopWithoutGuard func op) = place.Op func op
rule_place other = place.Whole

abbrev pub place_text : Place → List ℕ
place_text place.Whole = 10 ∷ []
place_text (place.Item index) = 32 ∷ (decimal index ++ 10 ∷ [])
place_text (place.Op func op) = 32 ∷ (decimal func ++ (32 ∷ (decimal op ++ 10 ∷ [])))

abbrev pub export_name : Export → List ℕ
export_name «export».Hook = codes "hook"
export_name «export».Cbak = codes "cbak"

-- the line of a refusal
abbrev pub refused_line : CheckFault → List ℕ
refused_line fault.TooLong = codes "refused too long" ++ 10 ∷ []
refused_line fault.Malformed = codes "refused malformed" ++ 10 ∷ []
refused_line (fault.Rule found) = codes "refused " ++ (rule_name found ++ place_text (rule_place found))
refused_line (fault.Untyped func op) = codes "refused untyped " ++ (decimal func ++ (32 ∷ (decimal op ++ 10 ∷ [])))
refused_line (fault.BoundTooLarge which bound) =
    codes "refused bound " ++ (export_name which ++ (32 ∷ (decimal bound ++ 10 ∷ [])))
refused_line fault.NoMemory = []
