-- A run has one ending.
use Rattle.std.proofs.Common.{◌≡◌, ℕ, zero, suc, Some, sym, ◌∙◌, ap, subst}
use Rattle.std.proofs.lemmas.Option.{same_Some as some_is}
use Rattle.hk_base.specs.declared.outcome.Outcome.{Outcome}
use Rattle.wa_exec.specs.Runs.{OneEnding}
use Rattle.wa_machine.specs.Machine.{Configuration, World, Step, next, ended, fault, step, EndsAfter, Ends}
use Rattle.wa_machine.specs.Starts.{world_at, start_at}
use Rattle.wa_ops.specs.Functions.{body_of}

pub record IsSame {S : Type 0} (n m : ℕ) (o p : Outcome) (c d : Configuration S) : Type 0 where
  pub steps : n ≡ m
  pub outcome : o ≡ p
  pub last : c ≡ d

one_after : {S : Type 0} (world : World S) (n m : ℕ) (o p : Outcome) (c d : Configuration S) (s : Step S) →
    ((e : Configuration S) → Ends world n e o c → Ends world m e p d → IsSame n m o p c d) →
    EndsAfter s n o c (λ later. Ends world n later o c) → EndsAfter s m p d (λ later. Ends world m later p d) →
    IsSame (suc n) (suc m) o p c d
one_after {S} world n m o p c d (next e) same a b =
    let h : IsSame n m o p c d = same e a b in record { steps = ap suc h.steps; outcome = h.outcome; last = h.last }
one_after world n m o p c d (ended found e) same a b = record {
  steps = ap suc (a.0 ∙ sym b.0);
  outcome = sym a.1 ∙ b.1;
  last = sym a.2 ∙ b.2;
}
one_after world n m o p c d fault same a b = absurd a

pub one_end : {S : Type 0} (world : World S) (n m : ℕ) (start : Configuration S) (o p : Outcome)
    (c d : Configuration S) → Ends world n start o c → Ends world m start p d → IsSame n m o p c d
one_end world zero m start o p c d a b = absurd a
one_end world (suc n) zero start o p c d a b = absurd b
one_end world (suc n) (suc m) start o p c d a b =
    one_after world n m o p c d (step world start) (λ e. one_end world n m e o p c d) a b

pub one_ending : (S : Type 0) → OneEnding S
one_ending S meaning m is_named argument before o p i j after later a b =
    let function : b.function ≡ a.function = some_is b.function a.function (sym b.entry ∙ a.entry) in
    let code : b.code ≡ a.code =
    some_is b.code a.code (sym (subst (λ f. body_of m f ≡ Some b.code) function b.body) ∙ a.body) in
    let other : Ends (world_at meaning m a.function) j (start_at meaning m a.function a.code argument before) p b.last =
    subst (λ t. Ends (world_at meaning m a.function) j (start_at meaning m a.function t argument before) p b.last) code
    (subst (λ f. Ends (world_at meaning m f) j (start_at meaning m f b.code argument before) p b.last) function
    b.ends) in
    let same =
    one_end (world_at meaning m a.function) i j (start_at meaning m a.function a.code argument before) o p a.last b.last
    a.ends other in
    (same.outcome, same.steps, sym a.host ∙ ap (λ c. c.host) same.last ∙ b.host)
