-- What lines do, by what they hold.
use Rattle.std.proofs.Common.{◌≡◌, ℕ, Bool, true, false, if◌then◌else◌, List, ◌++◌, Option, Some, None, Result, IfOk}
use Rattle.std.proofs.Common.{refl, ap, ◌∙◌}
use Rattle.hk_lines.specs.declared.rule.Rule.TheVariants as rule
use Rattle.hk_lines.specs.declared.turned.Turned.{Turned}
use Rattle.hk_lines.specs.declared.turned.Turned.TheVariants.{Goes, Wrong}
use Rattle.hk_loop.specs.Turned.{Did}
use Rattle.hk_reading.proofs.Finding.{Finds}
use Rattle.xo_list.specs.Item.{Item}
use Rattle.hk_json.specs.Turns.{Step, object_step, text_line}

-- what can't be isn't found
pub unfound : {A : Type 0} (P : A → Type 0) (o : Option A) → Finds P o → ((x : A) → P x → ⊥) → None ≡ o
unfound P None f never = cc
unfound P (Some x) f never = absurd (never x (f.sound x cc))

-- an object is shown
pub shown : (found : Option (List Item)) (fields : List Item) (before later : List ℕ) → Some fields ≡ found →
    later ≡ before ++ text_line fields → Did (object_step found) Goes tt before later
shown None fields before later is text = absurd (cc)
shown (Some known) fields before later is text =
    let same : fields ≡ known = cc in (refl, text ∙ ap (λ f. before ++ text_line f) same)

-- and none isn't
pub no_object : (found : Option (List Item)) (before : List ℕ) → None ≡ found →
    Did (object_step found) (Wrong rule.Object) tt before before
no_object None before is = (refl, refl)
no_object (Some known) before is = absurd (cc)

-- ---- by the first word

pub first_taken : {E : Type 0} (test : Bool) (first second : Step) (result : Result Turned E) (before later : List ℕ) →
    test ≡ true → IfOk result (λ turned. Did first turned tt before later) →
    IfOk result (λ turned. Did (if test then first else second) turned tt before later)
first_taken true first second result before later is did = did
first_taken false first second result before later is did = absurd (cc)

pub second_taken : {E : Type 0} (test : Bool) (first second : Step) (result : Result Turned E) (before later : List ℕ) →
    test ≡ false → IfOk result (λ turned. Did second turned tt before later) →
    IfOk result (λ turned. Did (if test then first else second) turned tt before later)
second_taken true first second result before later is did = absurd (cc)
second_taken false first second result before later is did = did
