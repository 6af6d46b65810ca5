-- Lines that follow one another are played one after the other, and so are printed lines told.
use Rattle.std.proofs.Common.{◌≡◌, ℕ, suc, ◌+◌, ◌<◌, List, [], ◌∷◌, ◌++◌, length, take, get_or, codes, sym, ap, ◌∙◌}
use Rattle.std.proofs.Common.{refl, subst, arith}
use Rattle.std.proofs.lemmas.List.{take_more}
use Rattle.hk_lines.specs.declared.input_line.InputLine.{InputLine}
use Rattle.hk_lines.specs.declared.input_line.InputLine.TheVariants.{End}
use Rattle.hk_lines.specs.declared.output_line.OutputLine.{OutputLine}
use Rattle.hk_demo.specs.declared.summary.Summary.{Summary}
use Rattle.hk_demo.specs.DemoLines.{account_line, accounts, beginning, ledger_line, set_hook_line, opened_before}
use Rattle.hk_demo.specs.DemoLines.{payment_line, payments}
use Rattle.hk_demo.specs.Summary.{Played, begun, play, plays, told, told_all, summary}

plays_joined : (p : Played) (xs ys : List InputLine) → plays p (xs ++ ys) ≡ plays (plays p xs) ys
plays_joined p [] ys = refl
plays_joined p (x ∷ xs) ys = plays_joined (play p x) xs ys

told_joined : (t : Summary) (xs ys : List OutputLine) → told_all t (xs ++ ys) ≡ told_all (told_all t xs) ys
told_joined t [] ys = refl
told_joined t (x ∷ xs) ys = told_joined (told t x) xs ys

-- the next line is told after those before it
pub next_told : (lines : List OutputLine) (at : ℕ) (line : OutputLine) (before was now : Summary) → at < length lines →
    line ≡ get_or lines at line →
    was ≡ told_all before (take at lines) → now ≡ told was line → now ≡ told_all before (take (at + 1) lines)
next_told lines at line before was now below this is more =
    more ∙ ap (λ t. told t line) is
    ∙ ap (told (told_all before (take at lines))) this
    ∙ sym (told_joined before (take at lines) (get_or lines at line ∷ []))
    ∙ ap (told_all before) (sym (take_more lines at line below))

-- ---- accounts

pub no_accounts : (p : Played) → p ≡ plays p (accounts 0)
unfolding accounts
no_accounts p = refl

one_more : (p : Played) (k : ℕ) → play (plays p (accounts k)) (account_line k) ≡ plays p (accounts (suc k))
unfolding accounts
one_more p k = sym (plays_joined p (accounts k) (account_line k ∷ []))

pub next_account : (p was now : Played) (k : ℕ) → was ≡ plays p (accounts k) → now ≡ play was (account_line k) →
    now ≡ plays p (accounts (k + 1))
next_account p was now k is more =
    let after : suc k ≡ k + 1 = omega arith in
    more ∙ ap (λ q. play q (account_line k)) is ∙ one_more p k ∙ ap (λ n. plays p (accounts n)) after

-- ---- Payments

pub no_payments : (p : Played) → p ≡ plays p (payments 0)
unfolding payments
no_payments p = refl

one_payment : (p : Played) (k : ℕ) →
    play (plays (plays p (payments k)) (opened_before (suc k))) (payment_line (suc k)) ≡ plays p (payments (suc k))
unfolding payments
one_payment p k =
    ap (λ q. play q (payment_line (suc k))) (sym (plays_joined p (payments k) (opened_before (suc k))))
    ∙ sym (plays_joined p (payments k ++ opened_before (suc k)) (payment_line (suc k) ∷ []))

pub next_payment : (p was opened now : Played) (k : ℕ) → was ≡ plays p (payments k) →
    opened ≡ plays was (opened_before (k + 1)) → now ≡ play opened (payment_line (k + 1)) →
    now ≡ plays p (payments (k + 1))
next_payment p was opened now k is before more =
    let after : suc k ≡ k + 1 = omega arith in
    more ∙ ap (λ q. play q (payment_line (k + 1))) (before ∙ ap (λ q. plays q (opened_before (k + 1))) is)
    ∙ subst (λ n. play (plays (plays p (payments k)) (opened_before n)) (payment_line n) ≡ plays p (payments n)) after
    (one_payment p k)

-- ---- all lines

pub begins : (p q r s t : Played) → q ≡ plays p (accounts 10) → r ≡ play q (ledger_line 1) →
    s ≡ play r (set_hook_line 0 (codes "accept")) → t ≡ play s (set_hook_line 5 (codes "rollback")) →
    t ≡ plays p beginning
unfolding beginning
begins p q r s t first second third fourth =
    fourth
    ∙ ap (λ x. play x (set_hook_line 5 (codes "rollback"))) (
    third ∙ ap (λ x. play x (set_hook_line 0 (codes "accept"))) (second ∙ ap (λ x. play x (ledger_line 1)) first)
    )
    ∙ sym (plays_joined p (accounts 10)
    (ledger_line 1 ∷ set_hook_line 0 (codes "accept") ∷ set_hook_line 5 (codes "rollback") ∷ []))

pub summed : (n : ℕ) (p q r s : Played) → p ≡ begun → q ≡ plays p beginning → r ≡ plays q (payments n) →
    s ≡ play r End → s.told ≡ summary n
summed n p q r s first second third fourth =
    ap (λ x. x.told) (
    fourth
    ∙ ap (λ x. play x End) (
    third ∙ ap (λ x. plays x (payments n)) (second ∙ ap (λ x. plays x beginning) first)
    ∙ sym (plays_joined begun beginning (payments n))
    )
    ∙ sym (plays_joined begun (beginning ++ payments n) (End ∷ []))
    )
