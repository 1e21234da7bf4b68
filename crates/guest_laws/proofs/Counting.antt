-- Sums over the numbers below a bound, and lists of which each member counts at one of them.
use Rattle.guest_laws.specs.Counting.{sum_below}
use Rattle.hybrid_model.specs.Rings.{ring}
use Rattle.hybrid_model.specs.Tallies.{Each, EachNumbered, EachRing, if_same, sum_rings, tally}
use Rattle.ikc_ring.specs.declared.Msg.{Msg}
use Rattle.std.proofs.Common.{ap, arith, refl}
use Rattle.std.proofs.lemmas.Bool.Decides.{nat_tests}
use Rattle.std.specs.Prelude.{zero, suc, Bool, List, [], false, length, true, ℕ, ◌+◌, ◌<◌, ◌==◌, ◌∷◌, ◌≡◌, ◌≤◌}

pub sum-ones : (f : ℕ → ℕ) (n : ℕ) → ((k : ℕ) → f k ≤ 1) → sum_below f n ≤ n
sum-ones f zero h = omega arith
sum-ones f (suc n) h = omega (arith, h n, sum-ones f n h)

pub sum-threes : (f : ℕ → ℕ) (n : ℕ) → ((k : ℕ) → f k ≤ 3) → sum_below f n ≤ n + n + n
sum-threes f zero h = omega arith
sum-threes f (suc n) h = omega (arith, h n, sum-threes f n h)

pub sum-in : (f : ℕ → ℕ) (j n : ℕ) → j < n → f j ≤ sum_below f n
sum-in f j zero l = absurd (omega (arith, l))
sum-in f j (suc n) l = go (j == n) refl (sum-in f j n)
  where
    go : (b : Bool) → (j == n) ≡ b → (j < n → f j ≤ sum_below f n) → f j ≤ f n + sum_below f n
    go true e i = let g : j ≡ n = grind (arith, nat_tests, e) in let a = ap f g in omega (arith, a)
    go false e i = let m : j < n = grind (arith, nat_tests, e, l) in let a = i m in omega (arith, a)

pub same-one : (j : ℕ) → if_same j j ≡ 1
same-one j = let e : (j == j) ≡ true = grind (arith, nat_tests) in rw e refl

-- ---- tallies

tally-plus : {A : Type 0} (f g : A → ℕ) (xs : List A) → tally (λ x. f x + g x) xs ≡ tally f xs + tally g xs
tally-plus f g [] = omega arith
tally-plus f g (x ∷ xs) = omega (arith, tally-plus f g xs)

tally-zero : {A : Type 0} (xs : List A) → tally (λ (x : A). 0) xs ≡ 0
tally-zero [] = refl
tally-zero (x ∷ xs) = omega (arith, tally-zero xs)

pub tally-sum : {A : Type 0} (g : ℕ → A → ℕ) (n : ℕ) (xs : List A) → tally (λ x. sum_below (λ k. g k x) n) xs ≡ sum_below (λ k. tally (g k) xs) n
tally-sum g zero xs = tally-zero xs
tally-sum g (suc n) xs = omega (arith, tally-plus (g n) (λ x. sum_below (λ k. g k x) n) xs, tally-sum g n xs)

pub length-tally : {A : Type 0} (f : A → ℕ) (xs : List A) → Each (λ x. 1 ≤ f x) xs → length xs ≤ tally f xs
length-tally f [] h = omega arith
length-tally f (x ∷ xs) h = omega (arith, h.0, length-tally f xs h.1)

-- numbers below n of which none stands twice
pub no-more-than : (n : ℕ) (ps : List ℕ) → Each (λ p. p < n) ps → ((k : ℕ) → tally (if_same k) ps ≤ 1) → length ps ≤ n
no-more-than n ps below once =
    let a = length-tally (λ p. sum_below (λ k. if_same k p) n) ps (each ps below) in
    let b = tally-sum if_same n ps in
    let c = sum-ones (λ k. tally (if_same k) ps) n once in
    omega (arith, a, b, c)
  where
    each : (qs : List ℕ) → Each (λ p. p < n) qs → Each (λ p. 1 ≤ sum_below (λ k. if_same k p) n) qs
    each [] h = tt
    each (q ∷ qs) h = ((let a = sum-in (λ k. if_same k q) q n h.0 in let b = same-one q in omega (arith, a, b)), each qs h.1)

-- ---- one of the rings

pub each-at : (P : Msg → Type 0) (r : ℕ) (rs : List (List Msg)) → EachRing P rs → Each P (ring r rs)
each-at P r [] h = tt
each-at P zero (ms ∷ rs) h = h.0
each-at P (suc r) (ms ∷ rs) h = each-at P r rs h.1

pub sum-at : (f : Msg → ℕ) (r : ℕ) (rs : List (List Msg)) → tally f (ring r rs) ≤ sum_rings f rs
sum-at f r [] = omega arith
sum-at f zero (ms ∷ rs) = omega arith
sum-at f (suc r) (ms ∷ rs) = omega (arith, sum-at f r rs)

pub numbered-at : (P : List Msg → Type 0) (k r : ℕ) (rs : List (List Msg)) → P [] → EachNumbered (λ j ms. P ms) k rs → P (ring r rs)
numbered-at P k r [] z h = z
numbered-at P k zero (ms ∷ rs) z h = h.0
numbered-at P k (suc r) (ms ∷ rs) z h = numbered-at P (suc k) r rs z h.1
