-- How many rows a map has: as many as another with the same keys, and at most one more with a row put.
use Rattle.std.specs.FinMap as finmap
use Rattle.std.specs.FinMap.Entries as fin
use Rattle.hybrid_laws.proofs.maps.Sums.{counted_in, none-below, total-cut}
use Rattle.hybrid_laws.proofs.maps.Tests.{both, some-is}
use Rattle.hybrid_laws.proofs.memory.Written.{sorted-true}
use Rattle.mck_word.specs.MapLaws.{at-cut}
use Rattle.mck_word.specs.Maps.{Map, at, count, cut, entries, no_rows, put, total}
use Rattle.std.proofs.Common.{ap, arith, refl, sym, ◌∙◌}
use Rattle.std.proofs.lemmas.Bool.Decides.{nat_tests}
use Rattle.std.proofs.lemmas.List.Sums.{sum_by-cons}
use Rattle.std.specs.Cmp.{nat_cmp_total, unsigned_tied}
use Rattle.std.specs.Ordering.{nat_cmp}
use Rattle.std.specs.Prelude.{Bool, List, None, Some, [], cond, false, is_some, length, sum_by, true, ℕ, ◌+◌, ◌==◌, ◌∷◌, ◌≡◌, ◌≤◌}

module _ {V : Type 0} where
  length-sum : (es : List (ℕ × V)) → length es ≡ sum_by (λ (e : ℕ × V). 1) es
  length-sum [] = refl
  length-sum (e ∷ es) = let a = sum_by-cons (λ (x : ℕ × V). 1) e es in let b = length-sum es in omega (arith, a, b)

  count-total : (m : Map V) → count m ≡ total (λ (v : V). 1) m
  count-total m = finmap.len-entries m ∙ length-sum (entries m)

  -- a row put
  pub count-put : (m : Map V) (k : ℕ) (v : V) → count (put m k v) ≤ count m + 1
  count-put m k v = let a = finmap.len-insert nat_cmp_total m k v in go (is_some (at m k)) a
    where
      go : (b : Bool) → count (put m k v) ≡ cond b (count m) (count m + 1) → count (put m k v) ≤ count m + 1
      go true e = omega (arith, e)
      go false e = omega (arith, e)

  pub count-stays : (m : Map V) (k : ℕ) (v : V) → is_some (at m k) ≡ true → count (put m k v) ≡ count m
  count-stays m k v e = finmap.len-insert nat_cmp_total m k v ∙ ap (λ b. cond b (count m) (count m + 1)) e

pub count-none : (V : Type 0) → count (no_rows {V = V}) ≡ 0
count-none V = finmap.len-empty nat_cmp V

module _ {V W : Type 0} where
  fewer : (es : List (ℕ × V)) (n : Map W) → fin.is_sorted nat_cmp es ≡ true → ((k : ℕ) (v : V) → fin.find nat_cmp k es ≡ Some v → is_some (at n k) ≡ true) → length es ≤ total (λ (w : W). 1) n
  fewer [] n s h = omega arith
  fewer (e ∷ es) n s h =
      let c = total-cut (λ (w : W). 1) n e.0 in
      let own = some-is (at n e.0) (h e.0 e.1 (ap (λ b. cond b (Some e.1) (fin.find nat_cmp e.0 es)) (unsigned_tied e.0 e.0 ∙ (let z : (e.0 == e.0) ≡ true = grind (arith, nat_tests) in z)))) in
      let there = own.1 in
      let d : counted_in (λ (w : W). 1) (at n e.0) ≡ 1 = ap (counted_in (λ (w : W). 1)) there in
      let rest = fewer es (cut n e.0) a.1 later in
      omega (arith, c, d, rest)
    where
      a : (fin.below_all nat_cmp e.0 es ≡ true) × (fin.is_sorted nat_cmp es ≡ true)
      a = both (fin.below_all nat_cmp e.0 es) (fin.is_sorted nat_cmp es) s

      none-own : fin.find nat_cmp e.0 es ≡ None
      none-own = none-below (λ (x : ℕ × V). 0) e.0 e.0 es (omega arith) a.0

      later : (k : ℕ) (v : V) → fin.find nat_cmp k es ≡ Some v → is_some (at (cut n e.0) k) ≡ true
      later k v g = go (k == e.0) refl
        where
          go : (b : Bool) → (k == e.0) ≡ b → is_some (at (cut n e.0) k) ≡ true
          go true z = absurd (let w : k ≡ e.0 = grind (arith, nat_tests, z) in let m = sym none-own ∙ ap (λ (j : ℕ). fin.find nat_cmp j es) (sym w) ∙ g in grind (arith, m))
          go false z =
              let i = h k v (ap (λ b. cond b (Some e.1) (fin.find nat_cmp k es)) (unsigned_tied k e.0 ∙ z) ∙ g) in
              ap is_some (at-cut n e.0 k ∙ ap (λ b. cond b None (at n k)) z) ∙ i

  pub count-fewer : (m : Map V) (n : Map W) → ((k : ℕ) → is_some (at m k) ≡ true → is_some (at n k) ≡ true) → count m ≤ count n
  count-fewer m n h =
      let a = fewer (entries m) n (sorted-true m) (λ k v e. h k (ap is_some (finmap.get-entries m k ∙ e))) in
      let b = finmap.len-entries m in
      let c = count-total n in
      omega (arith, a, b, c)

pub count-same : {V W : Type 0} (m : Map V) (n : Map W) → ((k : ℕ) → is_some (at m k) ≡ is_some (at n k)) → count m ≡ count n
count-same m n h =
    let a = count-fewer m n (λ k e. sym (h k) ∙ e) in
    let b = count-fewer n m (λ k e. h k ∙ e) in
    omega (arith, a, b)
