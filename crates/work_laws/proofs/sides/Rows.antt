-- Sums over a map one row of which changes, where each other row counts as before; two maps whose rows are compared; and what each row counts more.
use Rattle.std.specs.FinMap as finmap
use Rattle.std.specs.FinMap.Entries as fin
use Rattle.hybrid_laws.proofs.maps.Sums.{counted_at, none-below, total-cut, total-cut-by, total-put-by}
use Rattle.hybrid_laws.proofs.maps.Tests.{both}
use Rattle.hybrid_laws.proofs.maps.Totals.{entries-but}
use Rattle.hybrid_laws.proofs.memory.Written.{sorted-true}
use Rattle.mck_word.specs.MapLaws.{at-cut}
use Rattle.mck_word.specs.Maps.{Map, at, count, cut, entries, put, total}
use Rattle.std.proofs.Common.{ap, arith, refl, sym, ◌∙◌}
use Rattle.std.proofs.lemmas.Bool.Decides.{nat_tests}
use Rattle.std.proofs.lemmas.List.Sums.{sum_by-cons}
use Rattle.std.specs.Cmp.{nat_cmp_total, unsigned_tied}
use Rattle.std.specs.Ordering.{nat_cmp}
use Rattle.std.specs.Prelude.{Bool, List, None, Some, [], cond, false, is_some, length, sum_by, true, ℕ, ◌*◌, ◌+◌, ◌==◌, ◌∷◌, ◌≡◌, ◌≤◌}

module _ {V : Type 0} (f g : ℕ × V → ℕ) (m : Map V) (k : ℕ) (old : V) (is : at m k ≡ Some old) (others : (j : ℕ) (u : V) → (j == k) ≡ false → at m j ≡ Some u → g (j, u) ≡ f (j, u)) where
  pub row-put : (new : V) → sum_by g (entries (put m k new)) + f (k, old) ≡ sum_by f (entries m) + g (k, new)
  row-put new =
      let a = total-put-by g m k new in
      let b = rw is at a in
      let d = entries-but g f m k old is others in
      omega (arith, b, d)

  pub row-cut : sum_by g (entries (cut m k)) + f (k, old) ≡ sum_by f (entries m)
  row-cut =
      let a = total-cut-by g m k in
      let b = rw is at a in
      let d = entries-but g f m k old is others in
      omega (arith, b, d)

-- ---- two maps, the second of which counts at least as much at each key
module _ {V : Type 0} (f g : ℕ × V → ℕ) where
  le-entries : (es : List (ℕ × V)) (n : Map V) → fin.is_sorted nat_cmp es ≡ true → ((k : ℕ) (v : V) → fin.find nat_cmp k es ≡ Some v → f (k, v) ≤ counted_at g k (at n k)) → sum_by f es ≤ sum_by g (entries n)
  le-entries [] n s h = omega arith
  le-entries (e ∷ es) n s h =
      let c = total-cut-by g n e.0 in
      let own = h e.0 e.1 (ap (λ b. cond b (Some e.1) (fin.find nat_cmp e.0 es)) (unsigned_tied e.0 e.0) ∙ (let z : (e.0 == e.0) ≡ true = grind (arith, nat_tests) in ap (λ b. cond b (Some e.1) (fin.find nat_cmp e.0 es)) z)) in
      let rest = le-entries es (cut n e.0) a.1 later in
      let d = sum_by-cons f e es in
      omega (arith, c, own, rest, d)
    where
      a : (fin.below_all nat_cmp e.0 es ≡ true) × (fin.is_sorted nat_cmp es ≡ true)
      a = both (fin.below_all nat_cmp e.0 es) (fin.is_sorted nat_cmp es) s

      none-own : fin.find nat_cmp e.0 es ≡ None
      none-own = none-below (λ (x : ℕ × V). 0) e.0 e.0 es (omega arith) a.0

      later : (k : ℕ) (v : V) → fin.find nat_cmp k es ≡ Some v → f (k, v) ≤ counted_at g k (at (cut n e.0) k)
      later k v u = go (k == e.0) refl
        where
          go : (b : Bool) → (k == e.0) ≡ b → f (k, v) ≤ counted_at g k (at (cut n e.0) k)
          go true z = absurd (let w : k ≡ e.0 = grind (arith, nat_tests, z) in let x = sym none-own ∙ ap (λ (j : ℕ). fin.find nat_cmp j es) (sym w) ∙ u in grind (arith, x))
          go false z =
              let i = h k v (ap (λ b. cond b (Some e.1) (fin.find nat_cmp k es)) (unsigned_tied k e.0 ∙ z) ∙ u) in
              let j = ap (counted_at g k) (at-cut n e.0 k ∙ ap (λ b. cond b None (at n k)) z) in
              omega (arith, i, j)

  pub entries-le : (m n : Map V) → ((k : ℕ) (v : V) → at m k ≡ Some v → f (k, v) ≤ counted_at g k (at n k)) → sum_by f (entries m) ≤ sum_by g (entries n)
  entries-le m n h = le-entries (entries m) n (sorted-true m) (λ k v e. h k v (finmap.get-entries m k ∙ e))

  -- of one map
  pub rows-le : (m : Map V) → ((k : ℕ) (v : V) → at m k ≡ Some v → f (k, v) ≤ g (k, v)) → sum_by f (entries m) ≤ sum_by g (entries m)
  rows-le m h = entries-le m m (λ k v e. (let a = h k v e in let b = ap (counted_at g k) e in omega (arith, a, b)))

-- ---- each row counts so much more, or so much
module _ {V : Type 0} where
  sum-more : (f : V → ℕ) (c : ℕ) (es : List (ℕ × V)) → sum_by (λ (e : ℕ × V). f e.1 + c) es ≡ sum_by (λ (e : ℕ × V). f e.1) es + c * length es
  sum-more f c [] = omega arith
  sum-more f c (e ∷ es) =
      let a = sum_by-cons (λ (x : ℕ × V). f x.1 + c) e es in
      let b = sum_by-cons (λ (x : ℕ × V). f x.1) e es in
      let d = sum-more f c es in
      omega (arith, a, b, d)

  pub total-more : (f : V → ℕ) (c : ℕ) (m : Map V) → total (λ (v : V). f v + c) m ≡ total f m + c * count m
  total-more f c m = sum-more f c (entries m) ∙ ap (λ n. total f m + c * n) (sym (finmap.len-entries m))

  sum-most : (f : ℕ × V → ℕ) (least most : ℕ) (es : List (ℕ × V)) → ((e : ℕ × V) → least ≤ f e) → ((e : ℕ × V) → f e ≤ most) → (least * length es ≤ sum_by f es) × (sum_by f es ≤ most * length es)
  sum-most f least most [] l h = (omega arith, omega arith)
  sum-most f least most (e ∷ es) l h =
      let a = sum_by-cons f e es in
      let b = sum-most f least most es l h in
      let c = l e in
      let d = h e in
      let x = b.0 in
      let y = b.1 in
      (omega (arith, a, x, c), omega (arith, a, y, d))

  pub entries-most : (f : ℕ × V → ℕ) (least most : ℕ) (m : Map V) → ((e : ℕ × V) → least ≤ f e) → ((e : ℕ × V) → f e ≤ most) → (least * count m ≤ sum_by f (entries m)) × (sum_by f (entries m) ≤ most * count m)
  entries-most f least most m l h =
      let a = sum-most f least most (entries m) l h in
      let n = ap (λ (j : ℕ). least * j) (finmap.len-entries m) in
      let o = ap (λ (j : ℕ). most * j) (finmap.len-entries m) in
      let x = a.0 in
      let y = a.1 in
      (omega (arith, x, n), omega (arith, y, o))

-- a row put where there is one
pub count-stays : {V : Type 0} (m : Map V) (k : ℕ) (v : V) → is_some (at m k) ≡ true → count (put m k v) ≡ count m
count-stays m k v e = finmap.len-insert nat_cmp_total m k v ∙ ap (λ b. cond b (count m) (count m + 1)) e

module _ {V : Type 0} where
  length-sum : (es : List (ℕ × V)) → length es ≡ sum_by (λ (e : ℕ × V). 1) es
  length-sum [] = refl
  length-sum (e ∷ es) = let a = sum_by-cons (λ (x : ℕ × V). 1) e es in let b = length-sum es in omega (arith, a, b)

  pub count-total : (m : Map V) → count m ≡ total (λ (v : V). 1) m
  count-total m = finmap.len-entries m ∙ length-sum (entries m)

  -- a row cut
  pub count-cut : (m : Map V) (k : ℕ) (v : V) → at m k ≡ Some v → count (cut m k) + 1 ≡ count m
  count-cut m k v e =
      let a = total-cut (λ (x : V). 1) m k in
      let b = rw e at a in
      let c = count-total (cut m k) in
      let d = count-total m in
      omega (arith, b, c, d)
