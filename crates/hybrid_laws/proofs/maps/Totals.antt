-- Sums over the rows of a map, where one row changes, and where one row counts otherwise.
use Rattle.std.specs.FinMap.Entries as sorted
use Rattle.std.specs.FinMap as finmap
use Rattle.hybrid_laws.proofs.maps.Reading.{Each-both, Each-map}
use Rattle.hybrid_model.specs.Tallies.{Each}
use Rattle.mck_word.specs.Maps.{Map, at, put, total}
use Rattle.std.proofs.Common.{ap, arith, refl, sym, ◌∙◌}
use Rattle.std.proofs.lemmas.Bool.Decides.{nat_tests}
use Rattle.std.proofs.lemmas.List.Sums.{sum_by-cons}
use Rattle.std.specs.Cmp.{unsigned_tied, nat_cmp_total}
use Rattle.std.specs.FinMap.Entries.{below_all, by_order}
use Rattle.std.specs.FinMap.{find, get-entries, entries-insert, entries_sorted, is_sorted}
use Rattle.std.specs.Ordering.{is_lt, is_eq, nat_cmp}
use Rattle.std.specs.Prelude.{Bool, List, None, Some, [], cond, false, sum_by, true, ℕ, ◌&&◌, ◌+◌, ◌==◌, ◌∷◌, ◌≡◌, ◌≤◌}
use Rattle.std.specs.declared.cmp.Ordering.TheVariants.{Less, Equal, Greater}
use Rattle.std.specs.declared.cmp.Ordering.{Ordering}
use lib.Dec.{T}

less-is : (o : Ordering) → T (is_lt o) → o ≡ Less
less-is Less h = refl
less-is Equal h = absurd h
less-is Greater h = absurd h

left-of : (a b : Bool) → T (a && b) → T a
left-of true b h = tt
left-of false b h = h

right-of : (a b : Bool) → T (a && b) → T b
right-of true b h = h
right-of false b h = absurd h

module _ {V : Type 0} where
  -- no key of a list is one that is below each
  not-found : (k : ℕ) (es : List (ℕ × V)) → T (below_all nat_cmp k es) → find nat_cmp k es ≡ None
  not-found k [] h = refl
  not-found k (e ∷ es) h = ap (λ o. cond (is_eq o) (Some e.1) (find nat_cmp k es)) (less-is (nat_cmp k e.0) (left-of (is_lt (nat_cmp k e.0)) (below_all nat_cmp k es) h)) ∙ not-found k es (right-of (is_lt (nat_cmp k e.0)) (below_all nat_cmp k es) h)

  below-more : (k x : ℕ) (es : List (ℕ × V)) → nat_cmp k x ≡ Less → T (below_all nat_cmp x es) → T (below_all nat_cmp k es)
  below-more k x [] e h = tt
  below-more k x (y ∷ es) e h =
      let a = nat_cmp_total.trans k x y.0 e (less-is (nat_cmp x y.0) (left-of (is_lt (nat_cmp x y.0)) (below_all nat_cmp x es) h)) in
      rw a (below-more k x es e (right-of (is_lt (nat_cmp x y.0)) (below_all nat_cmp x es) h))

  sum-put : (f : ℕ × V → ℕ) (k : ℕ) (v old : V) → ((j : ℕ) → f (j, v) ≡ f (k, v)) → ((j : ℕ) → f (j, old) ≡ f (k, old)) → (es : List (ℕ × V)) → T (is_sorted nat_cmp es) → find nat_cmp k es ≡ Some old → sum_by f (sorted.put nat_cmp k v es) + f (k, old) ≡ sum_by f es + f (k, v)
  sum-put f k v old fv fo [] s e = absurd (grind (arith, e))
  sum-put f k v old fv fo (x ∷ es) s e = go (nat_cmp k x.0) refl (sum-put f k v old fv fo es (right-of (below_all nat_cmp x.0 es) (is_sorted nat_cmp es) s)) e
    where
      go : (o : Ordering) → nat_cmp k x.0 ≡ o → (find nat_cmp k es ≡ Some old → sum_by f (sorted.put nat_cmp k v es) + f (k, old) ≡ sum_by f es + f (k, v)) → cond (is_eq o) (Some x.1) (find nat_cmp k es) ≡ Some old
          → sum_by f (by_order o ((k, v) ∷ x ∷ es) ((x.0, v) ∷ es) (x ∷ sorted.put nat_cmp k v es)) + f (k, old) ≡ sum_by f (x ∷ es) + f (k, v)
      go Less c r e = absurd (let n = not-found k es (below-more k x.0 es c (left-of (below_all nat_cmp x.0 es) (is_sorted nat_cmp es) s)) in grind (arith, n, e))
      go Equal c r e =
          let y : x.1 ≡ old = cc in
          let z : f x ≡ f (k, old) = ap (λ (u : V). f (x.0, u)) y ∙ fo x.0 in
          omega (arith, sum_by-cons f (x.0, v) es, sum_by-cons f x es, z, fv x.0)
      go Greater c r e = omega (arith, sum_by-cons f x (sorted.put nat_cmp k v es), sum_by-cons f x es, r e)

  above-each : (k : ℕ) (es : List (ℕ × V)) → T (below_all nat_cmp k es) → Each (λ (x : ℕ × V). nat_cmp k x.0 ≡ Less) es
  above-each k [] h = tt
  above-each k (x ∷ es) h = (less-is (nat_cmp k x.0) (left-of (is_lt (nat_cmp k x.0)) (below_all nat_cmp k es) h), above-each k es (right-of (is_lt (nat_cmp k x.0)) (below_all nat_cmp k es) h))

  later-found : (x y : ℕ × V) (es : List (ℕ × V)) → nat_cmp x.0 y.0 ≡ Less → find nat_cmp y.0 es ≡ Some y.1 → find nat_cmp y.0 (x ∷ es) ≡ Some y.1
  later-found x y es l e = ap (λ b. cond b (Some x.1) (find nat_cmp y.0 es)) (unsigned_tied y.0 x.0 ∙ apart (y.0 == x.0) refl) ∙ e
    where
      apart : (b : Bool) → (y.0 == x.0) ≡ b → (y.0 == x.0) ≡ false
      apart false f = f
      apart true f = absurd (let g : y.0 ≡ x.0 = grind (arith, nat_tests, f) in let s = unsigned_tied x.0 y.0 in let c = ap is_eq l in let d : (x.0 == y.0) ≡ true = grind (arith, nat_tests, g) in grind (arith, s, c, d))

  -- a list in order answers each of its entries
  each-found : (es : List (ℕ × V)) → T (is_sorted nat_cmp es) → Each (λ (x : ℕ × V). find nat_cmp x.0 es ≡ Some x.1) es
  each-found [] s = tt
  each-found (x ∷ es) s =
      let own : find nat_cmp x.0 (x ∷ es) ≡ Some x.1 = ap (λ b. cond b (Some x.1) (find nat_cmp x.0 es)) (unsigned_tied x.0 x.0 ∙ (let b : (x.0 == x.0) ≡ true = grind (arith, nat_tests) in b)) in (
        own,
        Each-map (λ (y : ℕ × V). (nat_cmp x.0 y.0 ≡ Less) × (find nat_cmp y.0 es ≡ Some y.1)) (λ (y : ℕ × V). find nat_cmp y.0 (x ∷ es) ≡ Some y.1) es (λ y h. later-found x y es h.0 h.1)
            (Each-both (λ (y : ℕ × V). nat_cmp x.0 y.0 ≡ Less) (λ (y : ℕ × V). find nat_cmp y.0 es ≡ Some y.1) es (above-each x.0 es (left-of (below_all nat_cmp x.0 es) (is_sorted nat_cmp es) s)) (each-found es (right-of (below_all nat_cmp x.0 es) (is_sorted nat_cmp es) s))),
      )

  sum-same : (f g : ℕ × V → ℕ) (es : List (ℕ × V)) → Each (λ x. f x ≡ g x) es → sum_by f es ≡ sum_by g es
  sum-same f g [] h = refl
  sum-same f g (x ∷ es) h = omega (arith, sum_by-cons f x es, sum_by-cons g x es, h.0, sum-same f g es h.1)

  -- one row counts otherwise
  sum-but : (f g : ℕ × V → ℕ) (k : ℕ) (v : V) (es : List (ℕ × V)) → T (is_sorted nat_cmp es) → find nat_cmp k es ≡ Some v → Each (λ (x : ℕ × V). (x.0 == k) ≡ false → f x ≡ g x) es → sum_by f es + g (k, v) ≡ sum_by g es + f (k, v)
  sum-but f g k v [] s e h = absurd (grind (arith, e))
  sum-but f g k v (x ∷ es) s e h =
      go (k == x.0) refl (ap (λ b. cond b (Some x.1) (find nat_cmp k es)) (sym (unsigned_tied k x.0)) ∙ e) (λ r. sum-but f g k v es (right-of (below_all nat_cmp x.0 es) (is_sorted nat_cmp es) s) r h.1)
    where
      above : Each (λ (y : ℕ × V). nat_cmp x.0 y.0 ≡ Less) es
      above = above-each x.0 es (left-of (below_all nat_cmp x.0 es) (is_sorted nat_cmp es) s)

      other : (y : ℕ × V) → k ≡ x.0 → nat_cmp x.0 y.0 ≡ Less → (y.0 == k) ≡ false
      other y g l = apart (y.0 == k) refl
        where
          apart : (b : Bool) → (y.0 == k) ≡ b → b ≡ false
          apart false f = refl
          apart true f = absurd (let a : y.0 ≡ k = grind (arith, nat_tests, f) in let s = unsigned_tied x.0 y.0 in let c = ap is_eq l in let d : (x.0 == y.0) ≡ true = grind (arith, nat_tests, a, g) in grind (arith, s, c, d))

      go : (b : Bool) → (k == x.0) ≡ b → cond b (Some x.1) (find nat_cmp k es) ≡ Some v → (find nat_cmp k es ≡ Some v → sum_by f es + g (k, v) ≡ sum_by g es + f (k, v)) → sum_by f (x ∷ es) + g (k, v) ≡ sum_by g (x ∷ es) + f (k, v)
      go true a u r =
          let y : x.1 ≡ v = cc in
          let z : k ≡ x.0 = grind (arith, nat_tests, a) in
          let p : f x ≡ f (k, v) = (λ i. f (sym z i, y i)) in
          let q : g x ≡ g (k, v) = (λ i. g (sym z i, y i)) in
          let rest = sum-same f g es (Each-map (λ (y : ℕ × V). ((y.0 == k) ≡ false → f y ≡ g y) × (nat_cmp x.0 y.0 ≡ Less)) (λ (y : ℕ × V). f y ≡ g y) es (λ y c. c.0 (other y z c.1)) (Each-both (λ (y : ℕ × V). (y.0 == k) ≡ false → f y ≡ g y) (λ (y : ℕ × V). nat_cmp x.0 y.0 ≡ Less) es h.1 above)) in
          omega (arith, sum_by-cons f x es, sum_by-cons g x es, p, q, rest)
      go false a u r =
          let b : (x.0 == k) ≡ false = grind (arith, nat_tests, a) in
          omega (arith, sum_by-cons f x es, sum_by-cons g x es, h.0 b, r u)

pub total-put : {V : Type 0} (f : V → ℕ) (m : Map V) (k : ℕ) (v old : V) → at m k ≡ Some old → total f (put m k v) + f old ≡ total f m + f v
total-put f m k v old e =
    ap (λ es. sum_by (λ x. f x.1) es + f old) (entries-insert nat_cmp_total m k v)
    ∙ sum-put (λ x. f x.1) k v old (λ j. refl) (λ j. refl) (finmap.entries m) (entries_sorted m) (sym (get-entries m k) ∙ e)

-- what the rows of a map count, where they count the same, and where one counts otherwise
pub entries-same : {V : Type 0} (f g : ℕ × V → ℕ) (m : Map V) → ((k : ℕ) (v : V) → at m k ≡ Some v → f (k, v) ≡ g (k, v)) → sum_by f (finmap.entries m) ≡ sum_by g (finmap.entries m)
entries-same {V} f g m h = sum-same f g (finmap.entries m) (Each-map (λ (x : ℕ × V). find nat_cmp x.0 (finmap.entries m) ≡ Some x.1) (λ (x : ℕ × V). f x ≡ g x) (finmap.entries m) (λ x e. h x.0 x.1 (get-entries m x.0 ∙ e)) (each-found (finmap.entries m) (entries_sorted m)))

pub entries-but : {V : Type 0} (f g : ℕ × V → ℕ) (m : Map V) (k : ℕ) (v : V) → at m k ≡ Some v → ((j : ℕ) (u : V) → (j == k) ≡ false → at m j ≡ Some u → f (j, u) ≡ g (j, u)) → sum_by f (finmap.entries m) + g (k, v) ≡ sum_by g (finmap.entries m) + f (k, v)
entries-but {V} f g m k v e h = sum-but f g k v (finmap.entries m) (entries_sorted m) (sym (get-entries m k) ∙ e)
    (Each-map (λ (x : ℕ × V). find nat_cmp x.0 (finmap.entries m) ≡ Some x.1) (λ (x : ℕ × V). (x.0 == k) ≡ false → f x ≡ g x) (finmap.entries m) (λ x y n. h x.0 x.1 n (get-entries m x.0 ∙ y)) (each-found (finmap.entries m) (entries_sorted m)))

-- a sum is at least what one row counts, and what two rows count
module _ {V : Type 0} (f : ℕ × V → ℕ) (m : Map V) where
  abbrev but : ℕ → ℕ × V → ℕ
  but k x = cond (x.0 == k) 0 (f x)

  split-off : (k : ℕ) (v : V) → at m k ≡ Some v → sum_by f (finmap.entries m) ≡ sum_by (but k) (finmap.entries m) + f (k, v)
  split-off k v e =
      let s : (k == k) ≡ true = grind (arith, nat_tests) in
      let z : but k (k, v) ≡ 0 = rw s refl in
      omega (arith, entries-but f (but k) m k v e (λ j u n g. rw n refl), z)

  pub entries-least : (k : ℕ) (v : V) → at m k ≡ Some v → f (k, v) ≤ sum_by f (finmap.entries m)
  entries-least k v e = omega (arith, split-off k v e)

pub entries-two : {V : Type 0} (f : ℕ × V → ℕ) (m : Map V) (j k : ℕ) (u v : V) → (k == j) ≡ false → at m j ≡ Some u → at m k ≡ Some v → f (j, u) + f (k, v) ≤ sum_by f (finmap.entries m)
entries-two {V} f m j k u v n e g =
    let z : but f m j (k, v) ≡ f (k, v) = rw n refl in
    omega (arith, split-off f m j u e, entries-least (but f m j) m k v g, z)
