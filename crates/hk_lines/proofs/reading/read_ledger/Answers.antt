use Rattle.std.proofs.Common.{◌≡◌, ◌<◌, ℕ, List, Bor, length, map, arith, rules}
use Rattle.std.proofs.lemmas.List.{length-map}
use Rattle.hk_lines.proofs.Parts.{ledger_none}
use Rattle.hk_lines.proofs.reading.read_ledger.Goals as goal
use Rattle.hk_lines.proofs.reading.read_ledger.Goals.{in_default-via-then-parts-lt3}
use Rattle.hk_lines.proofs.reading.read_ledger.Goals.{in_default-via-else-parts-lt3+else-parts-lt4}

-- another number of words is not of the form
pub returns-in_default : goal.returns-in_default
returns-in_default c = record {
  line = elim c.in_default.branch [
    | in_default-via-then-parts-lt3 w ↦
        let few : length c.args.parts.now < 3 = search rules in
        ledger_none _ (λ (three : length (map (λ (word : Bor (List ℕ)). word.now) c.args.parts.now) ≡ 3).
        absurd (omega (arith, few, three, length-map {A = Bor (List ℕ)} {B = List ℕ})))
    | in_default-via-else-parts-lt3+else-parts-lt4 w ↦
        let many : 3 < length c.args.parts.now = search rules in
        ledger_none _ (λ (three : length (map (λ (word : Bor (List ℕ)). word.now) c.args.parts.now) ≡ 3).
        absurd (omega (arith, many, three, length-map {A = Bor (List ℕ)} {B = List ℕ})))
  ];
}
