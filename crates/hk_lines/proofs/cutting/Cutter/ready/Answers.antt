use Rattle.std.proofs.Common.{◌≡◌, ◌≢◌, ℕ, List, [], ◌∷◌, ◌++◌, length, Some, None, inl, inr, refl, sym, ap, subst, ◌∙◌}
use Rattle.std.proofs.lemmas.Bool.Decides.{Decides-eqb}
use Rattle.std.proofs.lemmas.Slice.Eq.{strip_suffix_is}
use Rattle.hk_lines.specs.Cutting.{IsUnfinished, IsReady, ShowsReady}
use Rattle.hk_lines.specs.Numbers.{endless_line}
use Rattle.hk_lines.specs.declared.cutting.CutLine.TheVariants.{TooLong}
use Rattle.hk_lines.proofs.HeldLemmas.{held_line, held_endless, held_unfinished}
use Rattle.hk_lines.proofs.cutting.Cutter.ready.Goals as goal

-- a line feed was taken
pub returns-in-Some : goal.returns-in-Some
returns-in-Some c =
    let ends : c.self.inside.held.items ≡ c.in-Some.line.now ++ 10 ∷ [] =
    sym c.as_slice.ensures.value
    ∙ strip_suffix_is Decides-eqb c.as_slice.result.now (10 ∷ []) (Some c.in-Some.line) c.in-Some.ensures.cases in
    let is = held_line c.self.inside.held.items c.in-Some.line.now c.self.invariant ends in
    record {
      line =
          subst (λ held. ShowsReady held c.shown.result) c.self.view_is
          (inl (c.in-Some.line.now, is, c.shown.ensures.shows));
      stands = subst IsReady c.self.view_is (inr (c.in-Some.line.now, is));
    }

-- too many bytes without one were taken
pub returns-in-None : goal.returns-in-None
returns-in-None c =
    let none : (front : List ℕ) → c.self.inside.held.items ≢ front ++ 10 ∷ [] =
    subst (λ held. (front : List ℕ) → held ≢ front ++ 10 ∷ []) c.as_slice.ensures.value
    (strip_suffix_is Decides-eqb c.as_slice.result.now (10 ∷ []) None c.in-None.ensures.cases) in
    let all : length c.self.inside.held.items ≡ endless_line =
    ap length (sym c.as_slice.ensures.value)
    ∙ c.as_slice.ensures.len
    ∙ sym c.len.ensures
    ∙ c.if-len-eq-ENDLESS_LINE.true in
    let is = held_endless c.self.inside.held.items c.self.invariant none all in
    record {
      line = subst (λ held. ShowsReady held TooLong) c.self.view_is (inr (is, refl));
      stands = subst IsReady c.self.view_is (inl is);
    }

-- neither
pub returns-in-None-2 : goal.returns-in-None-2
returns-in-None-2 c =
    let none : (front : List ℕ) → c.self.inside.held.items ≢ front ++ 10 ∷ [] =
    subst (λ held. (front : List ℕ) → held ≢ front ++ 10 ∷ []) c.as_slice.ensures.value
    (strip_suffix_is Decides-eqb c.as_slice.result.now (10 ∷ []) None c.in-None.ensures.cases) in
    let fewer : length c.self.inside.held.items ≡ endless_line → ⊥ =
    λ all.
    c.if-len-eq-ENDLESS_LINE.false
    (c.len.ensures ∙ sym c.as_slice.ensures.len ∙ ap length c.as_slice.ensures.value ∙ all) in
    record {
      stands = tt;
      line = subst IsUnfinished c.self.view_is (held_unfinished c.self.inside.held.items c.self.invariant none fewer);
    }
