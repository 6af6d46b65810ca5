-- Lists that contracts see from their last item on.
use Rattle.std.proofs.Common.{◌≡◌, ◌+◌, ◌-◌, ◌≤◌, ℕ, List, ◌++◌, length, take, drop, reverse, sym, ◌∙◌, ap, arith}
use Rattle.std.proofs.Common.{length-drop}
use Rattle.std.proofs.lemmas.List.{take-append-drop, reverse-append, reverse-reverse, length-reverse, length-take-le}
use Rattle.std.proofs.lemmas.List.{drop_at, drop-take, take_at, take-take}

-- without the last items of those that were put, of which there are so many in front of the room
pub unwound : {A : Type 0} (xs ys : List A) (height count : ℕ) → reverse (take height xs) ≡ ys → height ≤ length xs →
    count ≤ length ys → reverse (take (height - count) xs) ≡ drop count ys
unwound {A} xs ys height count e s h =
    let put : List A = take height xs in
    let size : length put ≡ height = length-take-le height xs s in
    let few : count ≤ height = omega (arith, h, ap length (sym e), length-reverse put, size) in
    let n : ℕ = height - count in
    let front : take n put ≡ take n xs = take-take n height xs (omega arith) in
    let parts : ys ≡ reverse (drop n put) ++ reverse (take n put) =
    sym e ∙ ap reverse (sym (take-append-drop n put)) ∙ reverse-append (take n put) (drop n put) in
    let long : length (reverse (drop n put)) ≡ count = length-reverse (drop n put) ∙ length-drop n put ∙ omega arith in
    sym (ap (drop count) parts ∙ drop_at (reverse (drop n put)) (reverse (take n put)) count long ∙ ap reverse front)

-- the last items that were put, in order, of which there are so many in front of the room
pub last_put : {A : Type 0} (xs ys : List A) (count height : ℕ) → reverse (take height xs) ≡ ys → count ≤ length ys →
    height ≤ length xs →
    take (height - (height - count)) (drop (height - count) xs) ≡ reverse (take count ys)
last_put {A} xs ys count height e h s =
    let n : ℕ = height - count in
    let put : List A = take height xs in
    let size : length put ≡ height = length-take-le height xs s in
    let same : length ys ≡ height = ap length (sym e) ∙ length-reverse put ∙ size in
    let parts : ys ≡ reverse (drop n put) ++ reverse (take n put) =
    sym e ∙ ap reverse (sym (take-append-drop n put)) ∙ reverse-append (take n put) (drop n put) in
    let long : length (reverse (drop n put)) ≡ count = length-reverse (drop n put) ∙ length-drop n put ∙ omega arith in
    let front : reverse (take count ys) ≡ drop n put =
    ap reverse (ap (take count) parts ∙ take_at (reverse (drop n put)) (reverse (take n put)) count long)
    ∙ reverse-reverse (drop n put) in
    let whole : n + (height - n) ≡ height = omega arith in
    sym (front ∙ ap (λ m. drop n (take m xs)) (sym whole) ∙ drop-take n (height - n) xs)
