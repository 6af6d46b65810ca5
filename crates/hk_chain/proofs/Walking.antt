-- Going along the positions of a chain and of a callback.
use Rattle.std.proofs.Common.{◌≡◌, ℕ, zero, suc, ◌+◌, ◌<◌, ◌≤◌, Bool, true, false, List, [], ◌∷◌, ◌++◌, refl, arith}
use Rattle.std.proofs.Common.{if◌then◌else◌}
use Rattle.hk_base.specs.declared.ids.AccountId.{AccountId}
use Rattle.hk_lines.specs.declared.output_line.OutputLine.{OutputLine}
use Rattle.hk_draft.specs.Ends.{ChainEnd, kept, rejected}
use Rattle.hk_chain.specs.declared.work.HookRun.{HookRun}
use Rattle.hk_chain.specs.Plays.{Passing, Play, idle, plays}
use Rattle.hk_chain.specs.Chain.{is_accepted, hook_line, goes_on, chain_from}
use Rattle.hk_chain.specs.Callback.{callback_line, called, callback_from}

-- what a play at a position comes to, from what passes there
abbrev pub Played : Type 1
Played = ℕ → Passing → Play → Type 0

-- a run at a position below the last leads from an end of which P holds to such an end
pub record Adds (account : AccountId) (most : ℕ) (R : Played) (P : ChainEnd → Type 0) : Type 0 where
  pub accepted : (position : ℕ) (s t : Passing) (ran : HookRun) (records : List OutputLine) → position < most →
      R position s (plays t ran) → is_accepted ran.outcome ≡ true → P (kept s.draft records) →
      P (kept t.draft (records ++ hook_line account position ran ∷ []))
  pub dropped : (position : ℕ) (s t : Passing) (ran : HookRun) (records : List OutputLine) → position < most →
      R position s (plays t ran) → P (kept s.draft records) →
      P (rejected (records ++ hook_line account position ran ∷ []))

module _ (account : AccountId) (most : ℕ) (play : ℕ → Passing → Play) (R : Played)
    (played : (position : ℕ) (s : Passing) → R position s (play position s)) where
  module _ (P : ChainEnd → Type 0) (adds : Adds account most R P) where
    module _ (position : ℕ) (low : position < most) (s : Passing) (records : List OutputLine)
        (holds : P (kept s.draft records)) (go : Passing → List OutputLine → ChainEnd)
        (later : (u : Passing) (more : List OutputLine) → P (kept u.draft more) → P (go u more)) where
      ran_keeps : (t : Passing) (ran : HookRun) → R position s (plays t ran) → (b : Bool) →
          is_accepted ran.outcome ≡ b →
          P (if b then go t (records ++ hook_line account position ran ∷ [])
          else rejected (records ++ hook_line account position ran ∷ []))
      ran_keeps t ran r true e =
          later t (records ++ hook_line account position ran ∷ [])
          (adds.accepted position s t ran records low r e holds)
      ran_keeps t ran r false e = adds.dropped position s t ran records low r holds

      turn_keeps : (p : Play) → R position s p → P (goes_on account position p s records go)
      turn_keeps idle r = later s records holds
      turn_keeps (plays t ran) r = ran_keeps t ran r (is_accepted ran.outcome) refl

    -- what holds of the end that is kept so far holds of the chain's end
    pub chain_keeps : (left position : ℕ) (s : Passing) (records : List OutputLine) → position + left ≤ most →
        P (kept s.draft records) → P (chain_from account play left position s records)
    unfolding chain_from
    chain_keeps zero position s records low holds = holds
    chain_keeps (suc left) position s records low holds =
        turn_keeps position (omega (arith, low)) s records holds
        (λ t more. chain_from account play left (position + 1) t more)
        (λ t more. chain_keeps left (position + 1) t more (omega (arith, low))) (play position s) (played position s)

-- P holds of each end of a callback that begins from s
pub record Answers (account : AccountId) (most : ℕ) (R : Played) (s : Passing) (P : ChainEnd → Type 0) : Type 0 where
  pub none : P (kept s.draft [])
  pub accepted : (position : ℕ) (t : Passing) (ran : HookRun) → position < most → R position s (plays t ran) →
      is_accepted ran.outcome ≡ true → P (kept t.draft (callback_line account position ran ∷ []))
  pub dropped : (position : ℕ) (t : Passing) (ran : HookRun) → position < most → R position s (plays t ran) →
      P (rejected (callback_line account position ran ∷ []))

module _ (account : AccountId) (most : ℕ) (play : ℕ → Passing → Play) (R : Played)
    (played : (position : ℕ) (s : Passing) → R position s (play position s)) where
  module _ (s : Passing) (P : ChainEnd → Type 0) (answers : Answers account most R s P) where
    answer_keeps : (position : ℕ) (t : Passing) (ran : HookRun) → position < most → R position s (plays t ran) →
        (b : Bool) → is_accepted ran.outcome ≡ b →
        P (if b then kept t.draft (callback_line account position ran ∷ [])
        else rejected (callback_line account position ran ∷ []))
    answer_keeps position t ran low r true e = answers.accepted position t ran low r e
    answer_keeps position t ran low r false e = answers.dropped position t ran low r

    called_keeps : (position : ℕ) (later : ChainEnd) → position < most → P later → (p : Play) → R position s p →
        P (called account position p later)
    called_keeps position later low holds idle r = holds
    called_keeps position later low holds (plays t ran) r =
        answer_keeps position t ran low r (is_accepted ran.outcome) refl

    pub callback_keeps : (left position : ℕ) → position + left ≤ most → P (callback_from account play left position s)
    unfolding callback_from
    callback_keeps zero position low = answers.none
    callback_keeps (suc left) position low =
        called_keeps position (callback_from account play left (position + 1) s) (omega (arith, low))
        (callback_keeps left (position + 1) (omega (arith, low))) (play position s) (played position s)
