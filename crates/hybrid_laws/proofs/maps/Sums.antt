-- Sums over the rows of a map, after a row is put or taken away.
use Rattle.std.specs.FinMap as finmap
use Rattle.std.specs.FinMap.Entries as fin
use Rattle.hybrid_laws.proofs.maps.Tests.{both}
use Rattle.hybrid_laws.proofs.memory.Written.{sorted-true}
use Rattle.mck_word.specs.MapLaws.{at-cut, at-put, same_rows}
use Rattle.mck_word.specs.Maps.{Map, at, entries, put, total, cut}
use Rattle.std.proofs.Common.{ap, arith, refl, ◌∙◌, sym}
use Rattle.std.proofs.lemmas.Bool.Decides.{nat_tests}
use Rattle.std.proofs.lemmas.List.Sums.{sum_by-cons}
use Rattle.std.specs.Cmp.{nat_cmp_total, unsigned_tied}
use Rattle.std.specs.Ordering.{is_lt, nat_cmp}
use Rattle.std.specs.Prelude.{Bool, List, None, Option, Some, [], cond, false, nat_lt, sum_by, true, ℕ, ◌+◌, ◌<◌, ◌==◌, ◌∷◌, ◌≡◌, ◌≤◌}
use Rattle.std.specs.declared.cmp.Ordering.TheVariants.{Less, Equal, Greater}

-- what a row counts, where there is one
abbrev pub counted_in : {V : Type 0} → (V → ℕ) → Option V → ℕ
counted_in f None = 0
counted_in f (Some v) = f v

-- with its key
abbrev pub counted_at : {V : Type 0} → (ℕ × V → ℕ) → ℕ → Option V → ℕ
counted_at f k None = 0
counted_at f k (Some v) = f (k, v)

module _ {V : Type 0} (f : ℕ × V → ℕ) where
  abbrev pub sum_of : List (ℕ × V) → ℕ
  sum_of es = sum_by f es

  sum-cons : (e : ℕ × V) (es : List (ℕ × V)) → sum_of (e ∷ es) ≡ f e + sum_of es
  sum-cons e es = sum_by-cons f e es

  less-apart : (a b : ℕ) → is_lt (nat_cmp a b) ≡ true → a < b
  less-apart a b e = go (nat_lt a b) refl e
    where
      equal-or : (x : Bool) → is_lt (cond x Equal Greater) ≡ true → ⊥
      equal-or true k = grind (arith, k)
      equal-or false k = grind (arith, k)

      go : (x : Bool) → nat_lt a b ≡ x → is_lt (cond x Less (cond (a == b) Equal Greater)) ≡ true → a < b
      go true f k = grind (arith, nat_tests, f)
      go false f k = absurd (equal-or (a == b) k)

  -- below all keys there is nothing
  pub none-below : (k x : ℕ) (es : List (ℕ × V)) → k ≤ x → fin.below_all nat_cmp x es ≡ true → fin.find nat_cmp k es ≡ None
  none-below k x [] l e = refl
  none-below k x (y ∷ es) l e =
      let a = both (is_lt (nat_cmp x y.0)) (fin.below_all nat_cmp x es) e in
      let b = less-apart x y.0 a.0 in
      ap (λ c. cond c (Some y.1) (fin.find nat_cmp k es)) (unsigned_tied k y.0 ∙ differ k y.0 (omega (arith, l, b))) ∙ none-below k x es l a.1
    where
      differ : (k n : ℕ) → k < n → (k == n) ≡ false
      differ k n h = grind (arith, nat_tests, h)

  sum-put : (k : ℕ) (v : V) (es : List (ℕ × V)) → fin.is_sorted nat_cmp es ≡ true → sum_of (fin.put nat_cmp k v es) + counted_at f k (fin.find nat_cmp k es) ≡ sum_of es + f (k, v)
  sum-put k v [] s = omega (arith, sum-cons (k, v) [])
  sum-put k v (e ∷ es) s = go (nat_lt k e.0) refl (k == e.0) refl (sum-put k v es a.1)
    where
      a : (fin.below_all nat_cmp e.0 es ≡ true) × (fin.is_sorted nat_cmp es ≡ true)
      a = both (fin.below_all nat_cmp e.0 es) (fin.is_sorted nat_cmp es) s

      tied : fin.find nat_cmp k (e ∷ es) ≡ cond (k == e.0) (Some e.1) (fin.find nat_cmp k es)
      tied = ap (λ c. cond c (Some e.1) (fin.find nat_cmp k es)) (unsigned_tied k e.0)

      go : (b : Bool) → nat_lt k e.0 ≡ b → (d : Bool) → (k == e.0) ≡ d → sum_of (fin.put nat_cmp k v es) + counted_at f k (fin.find nat_cmp k es) ≡ sum_of es + f (k, v)
          → sum_of (fin.by_order (cond b Less (cond d Equal Greater)) ((k, v) ∷ e ∷ es) ((e.0, v) ∷ es) (e ∷ fin.put nat_cmp k v es)) + counted_at f k (fin.find nat_cmp k (e ∷ es)) ≡ sum_of (e ∷ es) + f (k, v)
      go true l d q i =
          let n = none-below k e.0 es (grind (arith, nat_tests, l)) a.0 in
          let m : (k == e.0) ≡ false = grind (arith, nat_tests, l) in
          let z = ap (counted_at f k) (tied ∙ ap (λ c. cond c (Some e.1) (fin.find nat_cmp k es)) m ∙ n) in
          omega (arith, sum-cons (k, v) (e ∷ es), z)
      go false l true q i =
          let z = ap (counted_at f k) (tied ∙ ap (λ c. cond c (Some e.1) (fin.find nat_cmp k es)) q) in
          let g : e.0 ≡ k = (let h : k ≡ e.0 = grind (arith, nat_tests, q) in sym h) in
          let y = ap (λ (n : ℕ). f (n, v)) g in
          let y' = ap (λ (n : ℕ). f (n, e.1)) g in
          omega (arith, sum-cons (e.0, v) es, sum-cons e es, z, y, y')
      go false l false q i =
          let z = ap (counted_at f k) (tied ∙ ap (λ c. cond c (Some e.1) (fin.find nat_cmp k es)) q) in
          omega (arith, sum-cons e (fin.put nat_cmp k v es), sum-cons e es, z, i)

  pub total-put-by : (m : Map V) (k : ℕ) (v : V) → sum_of (entries (put m k v)) + counted_at f k (at m k) ≡ sum_of (entries m) + f (k, v)
  total-put-by m k v =
      let s = sum-put k v (entries m) (sorted-true m) in
      let a = ap sum_of (finmap.entries-insert nat_cmp_total m k v) in
      let b = ap (counted_at f k) (finmap.get-entries m k) in
      omega (arith, s, a, b)

  -- a row cut
  pub total-cut-by : (m : Map V) (k : ℕ) → sum_of (entries (cut m k)) + counted_at f k (at m k) ≡ sum_of (entries m)
  total-cut-by m k = go (at m k) refl
    where
      here : at (cut m k) k ≡ None
      here = at-cut m k k ∙ (let e : (k == k) ≡ true = grind (arith, nat_tests) in rw e refl)

      absent : at m k ≡ None → cut m k ≡ m
      absent e = same_rows (cut m k) m (λ j. at-cut m k j ∙ row j (j == k) refl)
        where
          row : (j : ℕ) (b : Bool) → (j == k) ≡ b → cond b None (at m j) ≡ at m j
          row j true f = let g : j ≡ k = grind (arith, nat_tests, f) in sym (ap (at m) g ∙ e)
          row j false f = refl

      back : (v : V) → at m k ≡ Some v → put (cut m k) k v ≡ m
      back v e = same_rows (put (cut m k) k v) m (λ j. at-put (cut m k) k v j ∙ row j (j == k) refl)
        where
          row : (j : ℕ) (b : Bool) → (j == k) ≡ b → cond b (Some v) (at (cut m k) j) ≡ at m j
          row j true f = let g : j ≡ k = grind (arith, nat_tests, f) in sym (ap (at m) g ∙ e)
          row j false f = at-cut m k j ∙ ap (λ b. cond b None (at m j)) f

      go : (o : Option V) → at m k ≡ o → sum_of (entries (cut m k)) + counted_at f k o ≡ sum_of (entries m)
      go None e = let a = ap (λ (n : Map V). sum_of (entries n)) (absent e) in omega (arith, a)
      go (Some v) e =
          let a = ap (λ (n : Map V). sum_of (entries n)) (back v e) in
          let b = total-put-by (cut m k) k v in
          let c = ap (counted_at f k) here in
          omega (arith, a, b, c)

module _ {V : Type 0} (f : V → ℕ) where
  at-value : (k : ℕ) (o : Option V) → counted_at (λ (e : ℕ × V). f e.1) k o ≡ counted_in f o
  at-value k None = refl
  at-value k (Some v) = refl

  pub total-put : (m : Map V) (k : ℕ) (v : V) → total f (put m k v) + counted_in f (at m k) ≡ total f m + f v
  total-put m k v = let a = total-put-by (λ (e : ℕ × V). f e.1) m k v in let b = at-value k (at m k) in omega (arith, a, b)

  pub total-cut : (m : Map V) (k : ℕ) → total f (cut m k) + counted_in f (at m k) ≡ total f m
  total-cut m k = let a = total-cut-by (λ (e : ℕ × V). f e.1) m k in let b = at-value k (at m k) in omega (arith, a, b)

-- sums over two maps that answer alike, or one of which counts less at each key
module _ {V : Type 0} (f : V → ℕ) where
  le-entries : (es : List (ℕ × V)) (m : Map V) → fin.is_sorted nat_cmp es ≡ true → ((k : ℕ) (v : V) → fin.find nat_cmp k es ≡ Some v → f v ≤ counted_in f (at m k)) → sum_by (λ (e : ℕ × V). f e.1) es ≤ total f m
  le-entries [] m s h = omega arith
  le-entries (e ∷ es) m s h =
      let c = total-cut f m e.0 in
      let own = h e.0 e.1 (ap (λ b. cond b (Some e.1) (fin.find nat_cmp e.0 es)) (unsigned_tied e.0 e.0) ∙ (let z : (e.0 == e.0) ≡ true = grind (arith, nat_tests) in rw z refl)) in
      let rest = le-entries es (cut m e.0) a.1 later in
      let d = sum_by-cons (λ (x : ℕ × V). f x.1) e es in
      omega (arith, c, own, rest, d)
    where
      a : (fin.below_all nat_cmp e.0 es ≡ true) × (fin.is_sorted nat_cmp es ≡ true)
      a = both (fin.below_all nat_cmp e.0 es) (fin.is_sorted nat_cmp es) s

      none-own : fin.find nat_cmp e.0 es ≡ None
      none-own = none-below (λ (x : ℕ × V). 0) e.0 e.0 es (omega arith) a.0

      later : (k : ℕ) (v : V) → fin.find nat_cmp k es ≡ Some v → f v ≤ counted_in f (at (cut m e.0) k)
      later k v g = go (k == e.0) refl
        where
          go : (b : Bool) → (k == e.0) ≡ b → f v ≤ counted_in f (at (cut m e.0) k)
          go true z = absurd (let w : k ≡ e.0 = grind (arith, nat_tests, z) in let n = sym none-own ∙ ap (λ (j : ℕ). fin.find nat_cmp j es) (sym w) ∙ g in grind (arith, n))
          go false z =
              let i = h k v (ap (λ b. cond b (Some e.1) (fin.find nat_cmp k es)) (unsigned_tied k e.0 ∙ z) ∙ g) in
              let j = ap (counted_in f) (at-cut m e.0 k ∙ ap (λ b. cond b None (at m k)) z) in
              omega (arith, i, j)

  pub total-le : (m n : Map V) → ((k : ℕ) → counted_in f (at m k) ≤ counted_in f (at n k)) → total f m ≤ total f n
  total-le m n h = le-entries (entries m) n (sorted-true m) (λ k v e. (let a = h k in let b = ap (counted_in f) (finmap.get-entries m k ∙ e) in omega (arith, a, b)))

  pub total-same : (m n : Map V) → ((k : ℕ) → counted_in f (at m k) ≡ counted_in f (at n k)) → total f m ≡ total f n
  total-same m n h =
      let a = total-le m n (λ k. (let e = h k in omega (arith, e))) in
      let b = total-le n m (λ k. (let e = h k in omega (arith, e))) in
      omega (arith, a, b)
