-- What counts are after one more or one less (laws, for proofs).
use Rattle.file_tree.specs.Counting.{count_in, lowered, raised}
use Rattle.mck_word.specs.MapLaws.{at-cut, at-none, at-put, same_rows}
use Rattle.mck_word.specs.Maps.{Map, at, cut, no_rows, put}
use Rattle.std.proofs.Common.{ap, arith, refl, sym, ◌∙◌}
use Rattle.std.proofs.lemmas.Bool.Decides.{nat_tests}
use Rattle.std.specs.Prelude.{Bool, None, Option, Some, cond, false, nat_lt, true, unwrap_or, ℕ, ◌+◌, ◌-◌, ◌==◌, ◌≡◌, ◌≤◌}

pub count-none : (n : ℕ) → count_in no_rows n ≡ 0
count-none n = ap (λ (o : Option ℕ). unwrap_or o 0) (at-none n)

count-put : (m : Map ℕ) (n k q : ℕ) → count_in (put m n k) q ≡ cond (q == n) k (count_in m q)
count-put m n k q = ap (λ (o : Option ℕ). unwrap_or o 0) (at-put m n k q) ∙ go (q == n)
  where
    go : (b : Bool) → unwrap_or (cond b (Some k) (at m q)) 0 ≡ cond b k (count_in m q)
    go true = refl
    go false = refl

count-cut : (m : Map ℕ) (n q : ℕ) → count_in (cut m n) q ≡ cond (q == n) 0 (count_in m q)
count-cut m n q = ap (λ (o : Option ℕ). unwrap_or o 0) (at-cut m n q) ∙ go (q == n)
  where
    go : (b : Bool) → unwrap_or (cond b None (at m q)) 0 ≡ cond b 0 (count_in m q)
    go true = refl
    go false = refl

-- one at that number, and none at another
abbrev pub one_at : ℕ → ℕ → ℕ
one_at n q = cond (q == n) 1 0

same-key : (m : Map ℕ) (q n : ℕ) → (q == n) ≡ true → count_in m q ≡ count_in m n
same-key m q n e = let s : q ≡ n = grind (arith, nat_tests, e) in ap (count_in m) s

pub count-raised : (n : ℕ) (m : Map ℕ) (q : ℕ) → count_in (raised n m) q ≡ count_in m q + one_at n q
count-raised n m q = count-put m n (count_in m n + 1) q ∙ go (q == n) refl
  where
    go : (b : Bool) → (q == n) ≡ b → cond b (count_in m n + 1) (count_in m q) ≡ count_in m q + cond b 1 0
    go true e = let s = same-key m q n e in omega arith
    go false e = omega arith

pub count-lowered : (n : ℕ) (m : Map ℕ) (q : ℕ) → count_in (lowered n m) q ≡ count_in m q - one_at n q
count-lowered n m q = go (nat_lt 1 (count_in m n)) refl
  where
    there : (b : Bool) → (q == n) ≡ b → cond b (count_in m n - 1) (count_in m q) ≡ count_in m q - cond b 1 0
    there true e = let s = same-key m q n e in omega arith
    there false e = omega arith

    last : nat_lt 1 (count_in m n) ≡ false → (b : Bool) → (q == n) ≡ b → cond b 0 (count_in m q) ≡ count_in m q - cond b 1 0
    last l true e = let s = same-key m q n e in let few : count_in m n ≤ 1 = grind (arith, nat_tests, l) in omega arith
    last l false e = omega arith

    go : (b : Bool) → nat_lt 1 (count_in m n) ≡ b → count_in (cond b (put m n (count_in m n - 1)) (cut m n)) q ≡ count_in m q - one_at n q
    go true l = count-put m n (count_in m n - 1) q ∙ there (q == n) refl
    go false l = count-cut m n q ∙ last l (q == n) refl

pub one-most : (n q : ℕ) → one_at n q ≤ 1
one-most n q = go (q == n)
  where
    go : (b : Bool) → cond b 1 0 ≤ 1
    go true = omega arith
    go false = omega arith

-- a bound of all counts
pub raised-most : (n : ℕ) (m : Map ℕ) (most : ℕ) → ((q : ℕ) → count_in m q ≤ most) → (q : ℕ) → count_in (raised n m) q ≤ most + 1
raised-most n m most h q = let a = h q in let is = count-raised n m q in let b = one-most n q in omega arith

pub lowered-most : (n : ℕ) (m : Map ℕ) (most : ℕ) → ((q : ℕ) → count_in m q ≤ most) → (q : ℕ) → count_in (lowered n m) q ≤ most
lowered-most n m most h q = let a = h q in let is = count-lowered n m q in omega arith

-- to cut what is not there changes nothing
pub cut-absent : {V : Type 0} (m : Map V) (n : ℕ) → at m n ≡ None → cut m n ≡ m
cut-absent {V} m n h = same_rows _ _ (λ q. at-cut m n q ∙ go q (q == n) refl)
  where
    go : (q : ℕ) (b : Bool) → (q == n) ≡ b → cond b None (at m q) ≡ at m q
    go q true e = let s : q ≡ n = grind (arith, nat_tests, e) in sym h ∙ ap (at m) (sym s)
    go q false e = refl

pub lowered-none : (m : Map ℕ) (n : ℕ) → at m n ≡ None → lowered n m ≡ m
lowered-none m n h =
    let none : count_in m n ≡ 0 = ap (λ (o : Option ℕ). unwrap_or o 0) h in
    let few : nat_lt 1 (count_in m n) ≡ false = grind (arith, nat_tests, none) in
    ap (λ b. cond b (put m n (count_in m n - 1)) (cut m n)) few ∙ cut-absent m n h
