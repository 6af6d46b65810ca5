-- A code has one verdict: it is refused in one way, and not where it is accepted; and what is held of an accepted code
-- is one.
use Rattle.std.proofs.Common.{◌≡◌, ◌≢◌, ℕ, ◌+◌, ◌<◌, ◌≤◌, ◌⊎◌, inl, inr, Bool, true, false, List, [], ◌∷◌, length}
use Rattle.std.proofs.Common.{Option, Some, ap, sym, subst, ◌∙◌, refl, arith, if◌then◌else◌}
use Rattle.std.proofs.lemmas.Bool.Decides.{leb_tells}
use Rattle.wa_decode.proofs.ModuleReaders.{one_module}
use Rattle.wa_ops.specs.declared.modules.Module.{Module}
use Rattle.wa_ops.specs.declared.modules.ModuleExport.{ModuleExport}
use Rattle.wa_ops.specs.declared.op.ValueType.{ValueType}
use Rattle.wa_ops.specs.declared.rule_fault.RuleFault.{RuleFault}
use Rattle.wa_ops.specs.Contexts.{context_of}
use Rattle.wa_ops.specs.HookRules.{Rule, IsLeast, IsFirst, AreKept, IsRuled, hook_rules, is_hook, is_cbak}
use Rattle.wa_ops.specs.Sequences.{Sequence, size}
use Rattle.wa_ops.specs.Typing.{Typing, leaves, fails, fresh, types, after_region, Leaves}
use Rattle.wa_validate.specs.Untyped.{IsUntyped, IsTypedAt, body_typing}
use Rattle.wa_ops.specs.Functions.{body_of}
use Rattle.hk_bound.specs.Bounds.{export_bound}
use Rattle.hk_bound.specs.Checks.{longest, IsSpelled, AllTyped, IsWithin, IsPast, IsHook, Held, Holds, IsRefused}
use Rattle.hk_bound.specs.Laws.{OneRefusal, OneVerdict}
use Rattle.hk_bound.specs.declared.fault.CheckFault.{CheckFault}
use Rattle.hk_bound.specs.declared.fault.CheckFault.TheVariants as fault
use Rattle.hk_bound.specs.declared.fault.Export.TheVariants as «export»

-- ---- the first rule that is broken

clash : (b : Bool) → b ≡ false → b ≡ true → ⊥
clash b f t = let e : true ≡ false = sym t ∙ f in absurd (cc)

order : (a b : ℕ) → (a < b) ⊎ ((a ≡ b) ⊎ (b < a))
order a b =
    elim (leb_tells (a + 1) b) [
      | inl h ↦ let k = h.1 in inl (omega (arith, k))
      | inr h ↦ let k = h.1 in elim (leb_tells (b + 1) a) [
        | inl i ↦ let j = i.1 in inr (inr (omega (arith, j)))
        | inr i ↦ let j = i.1 in inr (inl (omega (arith, k, j)))
      ]
    ]

least_at : (broken : ℕ → ℕ → Bool) (i at j place : ℕ) → IsLeast broken i at → IsLeast broken j place →
    (i < j) ⊎ ((i ≡ j) ⊎ (j < i)) → (at < place) ⊎ ((at ≡ place) ⊎ (place < at)) → (i ≡ j) × (at ≡ place)
least_at broken i at j place a b (inl lt) w = absurd (clash (broken i at) (b.before i at (inl lt)) a.here)
least_at broken i at j place a b (inr (inr gt)) w = absurd (clash (broken j place) (a.before j place (inl gt)) b.here)
least_at broken i at j place a b (inr (inl eq)) (inl lt) =
    absurd (clash (broken i at) (b.before i at (inr (eq, lt))) a.here)
least_at broken i at j place a b (inr (inl eq)) (inr (inr gt)) =
    absurd (clash (broken j place) (a.before j place (inr (sym eq, gt))) b.here)
least_at broken i at j place a b (inr (inl eq)) (inr (inl same)) = (eq, same)

least_one : (broken : ℕ → ℕ → Bool) (i at j place : ℕ) → IsLeast broken i at → IsLeast broken j place →
    (i ≡ j) × (at ≡ place)
least_one broken i at j place a b = least_at broken i at j place a b (order i j) (order at place)

one_first : (rules : List Rule) (a b : RuleFault) → IsFirst rules a → IsFirst rules b → a ≡ b
one_first [] a b x y = absurd x
one_first (rule ∷ rules) a b (inl x) (inl y) =
    let p = least_one rule.broken x.index x.place y.index y.place x.least y.least in
    x.is ∙ ap (λ i. rule.fault i x.place) p.0 ∙ ap (λ at. rule.fault y.index at) p.1 ∙ sym y.is
one_first (rule ∷ rules) a b (inl x) (inr y) =
    absurd (clash (rule.broken x.index x.place) (y.0 x.index x.place) x.least.here)
one_first (rule ∷ rules) a b (inr x) (inl y) =
    absurd (clash (rule.broken y.index y.place) (x.0 y.index y.place) y.least.here)
one_first (rule ∷ rules) a b (inr x) (inr y) = one_first rules a b x.1 y.1

kept_or_first : (rules : List Rule) (found : RuleFault) → AreKept rules → IsFirst rules found → ⊥
kept_or_first [] found kept x = x
kept_or_first (rule ∷ rules) found kept (inl x) =
    clash (rule.broken x.index x.place) (kept.0 x.index x.place) x.least.here
kept_or_first (rule ∷ rules) found kept (inr x) = kept_or_first rules found kept.1 x.1

-- ---- the first failure of typing

empty_or_not : (b : Bool) (place failure : ℕ) → b ≡ true → (if b then leaves fresh else fails place) ≡ fails failure → ⊥
empty_or_not b place failure is e =
    let same : leaves fresh ≡ fails failure = ap (λ t. if t then leaves fresh else fails place) (sym is) ∙ e in
    absurd (cc)

typed_or_fails : (result : Option ValueType) (place : ℕ) (typing : Typing) (failure : ℕ) → Leaves result typing →
    after_region result place typing (leaves fresh) ≡ fails failure → ⊥
typed_or_fails result place (leaves stack) failure is e = empty_or_not _ place failure is e
typed_or_fails result place (fails other) failure is e = absurd is

untyped_here : (m : Module) (function place : ℕ) → IsUntyped m function place → IsTypedAt m function → ⊥
untyped_here m function place x typed =
    typed_or_fails (context_of m function).result (size x.body)
    (types (context_of m function) ((context_of m function).result ∷ []) x.body 0 fresh) place (typed x.body x.found)
    x.failed

failure_of : ℕ → Typing → ℕ
failure_of other (fails place) = place
failure_of other (leaves stack) = other

same_body : (m : Module) (f g : ℕ) (a b : Sequence) → f ≡ g → body_of m f ≡ Some a → body_of m g ≡ Some b → a ≡ b
same_body m f g a b same x y = let e : Some a ≡ Some b = sym x ∙ ap (body_of m) same ∙ y in cc

one_untyped : (m : Module) (f p g q : ℕ) → IsUntyped m f p → IsUntyped m g q → (f < g) ⊎ ((f ≡ g) ⊎ (g < f)) →
    (f ≡ g) × (p ≡ q)
unfolding failure_of
one_untyped m f p g q x y (inl lt) = absurd (untyped_here m f p x (y.first f lt))
one_untyped m f p g q x y (inr (inr gt)) = absurd (untyped_here m g q y (x.first g gt))
one_untyped m f p g q x y (inr (inl same)) = (
  same,
  ap (failure_of 0) (sym x.failed ∙ ap (λ function. body_typing (context_of m function) x.body) same
      ∙ ap (body_typing (context_of m g)) (same_body m f g x.body y.body same x.found y.found) ∙ y.failed),
)

-- ---- bounds

one_past : (version : ℕ) (is_named : ModuleExport → Bool) (m : Module) (n k : ℕ) → IsPast version is_named m n →
    IsPast version is_named m k → n ≡ k
one_past version is_named m n k x y = let e : Some n ≡ Some k = sym x.bound ∙ y.bound in cc

past_or_within : (version : ℕ) (is_named : ModuleExport → Bool) (m : Module) (n : ℕ) → IsPast version is_named m n →
    IsWithin version is_named m → ⊥
past_or_within version is_named m n x within =
    let fits = within n x.bound in let large = x.large in omega (arith, fits, large)

-- ---- accepted or refused

module_at : (version : ℕ) (code : List ℕ) (a b : Module) → IsSpelled version code a → IsSpelled version code b → a ≡ b
module_at version code a b x y = one_module code a b x.spelled.spelled y.spelled.spelled

pub one_verdict : OneVerdict
one_verdict version code m fault.TooLong apart x y = let short = x.spelled.short in omega (arith, short, y)
one_verdict version code m fault.Malformed apart x y = y.1 m x.spelled.spelled
one_verdict version code m (fault.Rule found) apart x y =
    kept_or_first (hook_rules y.wasm) found
    (subst IsRuled (module_at version code m y.wasm x.spelled y.spelled) x.ruled) y.first
one_verdict version code m (fault.Untyped func op) apart x y =
    untyped_here y.wasm func op y.untyped
    (subst AllTyped (module_at version code m y.wasm x.spelled y.spelled) x.typed func)
one_verdict version code m (fault.BoundTooLarge «export».Hook n) apart x y =
    past_or_within version is_hook y.wasm n y.past
    (subst (IsWithin version is_hook) (module_at version code m y.wasm x.spelled y.spelled) x.hook)
one_verdict version code m (fault.BoundTooLarge «export».Cbak n) apart x y =
    past_or_within version is_cbak y.wasm n y.past
    (subst (IsWithin version is_cbak) (module_at version code m y.wasm x.spelled y.spelled) x.cbak)
one_verdict version code m fault.NoMemory apart x y = apart refl

pub holds_or_refused : (version : ℕ) (code : List ℕ) (held : Held) (found : CheckFault) → Holds version code held →
    IsRefused version code found → found ≢ fault.NoMemory → ⊥
holds_or_refused version code held found x y apart = one_verdict version code held.wasm found apart x.hook y

-- ---- one refusal; the earlier of two excludes the later

-- refusals that say what the code has: a module, rules, typing
short_rule : (version : ℕ) (code : List ℕ) (found : CheckFault) → IsRefused version code found →
    found ≢ fault.NoMemory → found ≢ fault.TooLong → length code ≤ longest
short_rule version code fault.TooLong y apart other = absurd (other refl)
short_rule version code fault.Malformed y apart other = y.0
short_rule version code (fault.Rule found) y apart other = y.spelled.short
short_rule version code (fault.Untyped func op) y apart other = y.spelled.short
short_rule version code (fault.BoundTooLarge «export».Hook n) y apart other = y.spelled.short
short_rule version code (fault.BoundTooLarge «export».Cbak n) y apart other = y.spelled.short
short_rule version code fault.NoMemory y apart other = absurd (apart refl)

too_long_first : (version : ℕ) (code : List ℕ) (found : CheckFault) → longest < length code →
    IsRefused version code found → found ≢ fault.NoMemory → found ≢ fault.TooLong → ⊥
too_long_first version code found long y apart other =
    let short = short_rule version code found y apart other in omega (arith, long, short)

pub one_refusal : OneRefusal
one_refusal version code fault.NoMemory b x y p q = absurd (p refl)
one_refusal version code a fault.NoMemory x y p q = absurd (q refl)
one_refusal version code fault.TooLong fault.TooLong x y p q = refl
one_refusal version code fault.TooLong b x y p q = absurd (too_long_first version code b x y q (λ e. cc))
one_refusal version code a fault.TooLong x y p q = absurd (too_long_first version code a y x p (λ e. cc))
one_refusal version code fault.Malformed fault.Malformed x y p q = refl
one_refusal version code fault.Malformed (fault.Rule found) x y p q = absurd (x.1 y.wasm y.spelled.spelled)
one_refusal version code fault.Malformed (fault.Untyped func op) x y p q = absurd (x.1 y.wasm y.spelled.spelled)
one_refusal version code fault.Malformed (fault.BoundTooLarge «export».Hook n) x y p q =
    absurd (x.1 y.wasm y.spelled.spelled)
one_refusal version code fault.Malformed (fault.BoundTooLarge «export».Cbak n) x y p q =
    absurd (x.1 y.wasm y.spelled.spelled)
one_refusal version code (fault.Rule found) fault.Malformed x y p q = absurd (y.1 x.wasm x.spelled.spelled)
one_refusal version code (fault.Untyped func op) fault.Malformed x y p q = absurd (y.1 x.wasm x.spelled.spelled)
one_refusal version code (fault.BoundTooLarge «export».Hook n) fault.Malformed x y p q =
    absurd (y.1 x.wasm x.spelled.spelled)
one_refusal version code (fault.BoundTooLarge «export».Cbak n) fault.Malformed x y p q =
    absurd (y.1 x.wasm x.spelled.spelled)
one_refusal version code (fault.Rule a) (fault.Rule b) x y p q =
    ap (λ found. fault.Rule found) (one_first (hook_rules y.wasm) a b
    (subst (λ m. IsFirst (hook_rules m) a) (module_at version code x.wasm y.wasm x.spelled y.spelled) x.first) y.first)
one_refusal version code (fault.Rule a) (fault.Untyped func op) x y p q =
    absurd (kept_or_first (hook_rules x.wasm) a
    (subst IsRuled (module_at version code y.wasm x.wasm y.spelled x.spelled) y.ruled) x.first)
one_refusal version code (fault.Rule a) (fault.BoundTooLarge «export».Hook n) x y p q =
    absurd (kept_or_first (hook_rules x.wasm) a
    (subst IsRuled (module_at version code y.wasm x.wasm y.spelled x.spelled) y.ruled) x.first)
one_refusal version code (fault.Rule a) (fault.BoundTooLarge «export».Cbak n) x y p q =
    absurd (kept_or_first (hook_rules x.wasm) a
    (subst IsRuled (module_at version code y.wasm x.wasm y.spelled x.spelled) y.ruled) x.first)
one_refusal version code (fault.Untyped func op) (fault.Rule b) x y p q =
    absurd (kept_or_first (hook_rules y.wasm) b
    (subst IsRuled (module_at version code x.wasm y.wasm x.spelled y.spelled) x.ruled) y.first)
one_refusal version code (fault.BoundTooLarge «export».Hook n) (fault.Rule b) x y p q =
    absurd (kept_or_first (hook_rules y.wasm) b
    (subst IsRuled (module_at version code x.wasm y.wasm x.spelled y.spelled) x.ruled) y.first)
one_refusal version code (fault.BoundTooLarge «export».Cbak n) (fault.Rule b) x y p q =
    absurd (kept_or_first (hook_rules y.wasm) b
    (subst IsRuled (module_at version code x.wasm y.wasm x.spelled y.spelled) x.ruled) y.first)
one_refusal version code (fault.Untyped f i) (fault.Untyped g j) x y p q =
    let same =
    one_untyped y.wasm f i g j
    (subst (λ m. IsUntyped m f i) (module_at version code x.wasm y.wasm x.spelled y.spelled) x.untyped) y.untyped
    (order f g) in
    ap (λ func. fault.Untyped func i) same.0 ∙ ap (λ op. fault.Untyped g op) same.1
one_refusal version code (fault.Untyped f i) (fault.BoundTooLarge «export».Hook n) x y p q =
    absurd (untyped_here x.wasm f i x.untyped
    (subst AllTyped (module_at version code y.wasm x.wasm y.spelled x.spelled) y.typed f))
one_refusal version code (fault.Untyped f i) (fault.BoundTooLarge «export».Cbak n) x y p q =
    absurd (untyped_here x.wasm f i x.untyped
    (subst AllTyped (module_at version code y.wasm x.wasm y.spelled x.spelled) y.typed f))
one_refusal version code (fault.BoundTooLarge «export».Hook n) (fault.Untyped f i) x y p q =
    absurd (untyped_here y.wasm f i y.untyped
    (subst AllTyped (module_at version code x.wasm y.wasm x.spelled y.spelled) x.typed f))
one_refusal version code (fault.BoundTooLarge «export».Cbak n) (fault.Untyped f i) x y p q =
    absurd (untyped_here y.wasm f i y.untyped
    (subst AllTyped (module_at version code x.wasm y.wasm x.spelled y.spelled) x.typed f))
one_refusal version code (fault.BoundTooLarge «export».Hook n) (fault.BoundTooLarge «export».Hook k) x y p q =
    ap (λ bound. fault.BoundTooLarge «export».Hook bound) (one_past version is_hook y.wasm n k
    (subst (λ m. IsPast version is_hook m n) (module_at version code x.wasm y.wasm x.spelled y.spelled) x.past) y.past)
one_refusal version code (fault.BoundTooLarge «export».Cbak n) (fault.BoundTooLarge «export».Cbak k) x y p q =
    ap (λ bound. fault.BoundTooLarge «export».Cbak bound) (one_past version is_cbak y.wasm n k
    (subst (λ m. IsPast version is_cbak m n) (module_at version code x.wasm y.wasm x.spelled y.spelled) x.past) y.past)
one_refusal version code (fault.BoundTooLarge «export».Hook n) (fault.BoundTooLarge «export».Cbak k) x y p q =
    absurd (past_or_within version is_hook x.wasm n x.past
    (subst (IsWithin version is_hook) (module_at version code y.wasm x.wasm y.spelled x.spelled) y.hook))
one_refusal version code (fault.BoundTooLarge «export».Cbak n) (fault.BoundTooLarge «export».Hook k) x y p q =
    absurd (past_or_within version is_hook y.wasm k y.past
    (subst (IsWithin version is_hook) (module_at version code x.wasm y.wasm x.spelled y.spelled) x.hook))

-- ---- what is held of an accepted code

pub one_module_held : (version : ℕ) (code : List ℕ) (a b : Held) → Holds version code a → Holds version code b →
    a.wasm ≡ b.wasm
one_module_held version code a b x y = module_at version code a.wasm b.wasm x.hook.spelled y.hook.spelled

pub one_hash : (version : ℕ) (code : List ℕ) (a b : Held) → Holds version code a → Holds version code b →
    a.hash ≡ b.hash
one_hash version code a b x y = x.hash ∙ sym y.hash

pub one_hook_bound : (version : ℕ) (code : List ℕ) (a b : Held) → Holds version code a → Holds version code b →
    a.bound_hook ≡ b.bound_hook
one_hook_bound version code a b x y =
    let e : Some a.bound_hook ≡ Some b.bound_hook =
    sym x.bound_hook ∙ ap (export_bound version is_hook) (one_module_held version code a b x y) ∙ y.bound_hook in
    cc

pub one_cbak_bound : (version : ℕ) (code : List ℕ) (a b : Held) → Holds version code a → Holds version code b →
    a.bound_cbak ≡ b.bound_cbak
one_cbak_bound version code a b x y =
    sym x.bound_cbak ∙ ap (export_bound version is_cbak) (one_module_held version code a b x y) ∙ y.bound_cbak
