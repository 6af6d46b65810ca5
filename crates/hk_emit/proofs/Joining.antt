-- Pieces that are written one behind the other.
use Rattle.std.proofs.Common.{◌≡◌, ℕ, List, [], ◌∷◌, ◌++◌, ap, ◌∙◌, append_assoc}
use Rattle.std.specs.Int.{w32, w64, to_be_bytes}

-- two pieces behind a list
pub more : (old w v x y : List ℕ) → w ≡ old ++ x → v ≡ w ++ y → v ≡ old ++ (x ++ y)
more old w v x y e f = f ∙ ap (λ l. l ++ y) e ∙ append_assoc old x y

-- the pieces of the details, but for the callback
pub joined : (old parent nonce hash : List ℕ) (generation burden : ℕ) (a b c d e f g h i j : List ℕ) →
    a ≡ old ++ 32 ∷ 46 ∷ [] → b ≡ a ++ to_be_bytes w32 generation → c ≡ b ++ 61 ∷ [] → d ≡ c ++ to_be_bytes w64 burden →
    e ≡ d ++ 91 ∷ [] → f ≡ e ++ parent →
    g ≡ f ++ 92 ∷ [] → h ≡ g ++ nonce → i ≡ h ++ 93 ∷ [] → j ≡ i ++ hash →
    j
    ≡ old ++
    (((32 ∷ 46 ∷ to_be_bytes w32 generation ++ 61 ∷ to_be_bytes w64 burden ++ 91 ∷ parent) ++ 92 ∷ nonce) ++ 93 ∷ hash)
joined old parent nonce hash generation burden a b c d e f g h i j p1 p2 p3 p4 p5 p6 p7 p8 p9 p10 =
    let x2 : List ℕ = 32 ∷ 46 ∷ to_be_bytes w32 generation in
    let x4 : List ℕ = x2 ++ 61 ∷ to_be_bytes w64 burden in
    let x6 : List ℕ = x4 ++ 91 ∷ parent in
    let e2 : b ≡ old ++ x2 = more old a b (32 ∷ 46 ∷ []) (to_be_bytes w32 generation) p1 p2 in
    let e4 : d ≡ old ++ x4 =
    more old b d x2 (61 ∷ to_be_bytes w64 burden) e2 (more b c d (61 ∷ []) (to_be_bytes w64 burden) p3 p4) in
    let e6 : f ≡ old ++ x6 = more old d f x4 (91 ∷ parent) e4 (more d e f (91 ∷ []) parent p5 p6) in
    let e8 : h ≡ old ++ (x6 ++ 92 ∷ nonce) = more old f h x6 (92 ∷ nonce) e6 (more f g h (92 ∷ []) nonce p7 p8) in
    more old h j (x6 ++ 92 ∷ nonce) (93 ∷ hash) e8 (more h i j (93 ∷ []) hash p9 p10)
