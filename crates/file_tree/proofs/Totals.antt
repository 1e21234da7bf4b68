-- Sums over the rows of a map, after a row is put or taken away.
use Rattle.key_rows.proofs.Placed.{below-of, tail-of}
use Rattle.mck_word.specs.MapLaws.{at-cut, at-put, same_rows}
use Rattle.mck_word.specs.Maps.{Map, at, cut, entries, no_rows, put, total}
use Rattle.std.proofs.Common.{ap, arith, refl, sym, ◌∙◌}
use Rattle.std.proofs.lemmas.Bool.Decides.{nat_tests}
use Rattle.std.proofs.lemmas.Bool.{eq-eqb, lt-ltb}
use Rattle.std.proofs.lemmas.List.Sums.{sum_by-cons}
use Rattle.std.specs.Cmp.{nat_cmp_total}
use Rattle.std.specs.FinMap as finmap
use Rattle.std.specs.FinMap.Entries as fin
use Rattle.std.specs.Ordering.{is_eq, is_lt, nat_cmp}
use Rattle.std.specs.Prelude.{Bool, List, None, Option, Some, T, [], cond, false, length, sum_by, true, ℕ, ◌&&◌, ◌+◌, ◌<◌, ◌==◌, ◌∷◌, ◌≡◌, ◌≤◌}
use Rattle.std.specs.declared.cmp.Ordering.TheVariants.{Equal, Greater, Less}
use Rattle.std.specs.declared.cmp.Ordering.{Ordering}

-- what a row counts, where there is one
abbrev pub counted : {V : Type 0} → (V → ℕ) → Option V → ℕ
counted f None = 0
counted f (Some v) = f v

first : (a b : Bool) → T (a && b) → T a
first true b h = tt
first false b h = absurd h

second : (a b : Bool) → T (a && b) → T b
second true b h = h
second false b h = absurd h

less : (a b : ℕ) → a < b → nat_cmp a b ≡ Less
less a b l = rw (lt-ltb a b l) refl

module _ {V : Type 0} (f : V → ℕ) where
  sum_of : List (ℕ × V) → ℕ
  sum_of es = sum_by (λ e. f e.1) es

  sum-cons : (e : ℕ × V) (es : List (ℕ × V)) → sum_of (e ∷ es) ≡ f e.1 + sum_of es
  unfolding sum_of
  sum-cons e es = sum_by-cons (λ (e : ℕ × V). f e.1) e es

  sum-put : (k : ℕ) (v : V) (es : List (ℕ × V)) → T (fin.is_sorted nat_cmp es) → sum_of (fin.put nat_cmp k v es) + counted f (fin.find nat_cmp k es) ≡ sum_of es + f v
  sum-put k v [] s = let one = sum-cons (k, v) [] in omega arith
  sum-put k v (e ∷ es) s = go (nat_cmp k e.0) refl (sum-put k v es (tail-of e es s))
    where
      go : (o : Ordering) → nat_cmp k e.0 ≡ o → sum_of (fin.put nat_cmp k v es) + counted f (fin.find nat_cmp k es) ≡ sum_of es + f v
          → sum_of (fin.by_order o ((k, v) ∷ e ∷ es) ((e.0, v) ∷ es) (e ∷ fin.put nat_cmp k v es)) + counted f (cond (is_eq o) (Some e.1) (fin.find nat_cmp k es)) ≡ sum_of (e ∷ es) + f v
      go Less p rest =
          let none = ap (counted f) (under es p (below-of e es s)) in
          let one = sum-cons (k, v) (e ∷ es) in
          omega arith
        where
          under : (es : List (ℕ × V)) → nat_cmp k e.0 ≡ Less → T (fin.below_all nat_cmp e.0 es) → fin.find nat_cmp k es ≡ None
          under [] p h = refl
          under (x ∷ xs) p h =
              ap (λ (o : Ordering). cond (is_eq o) (Some x.1) (fin.find nat_cmp k xs)) (nat_cmp_total.trans k e.0 x.0 p (is-less _ (first _ _ h))) ∙ under xs p (second (is_lt (nat_cmp e.0 x.0)) _ h)
            where
              is-less : (o : Ordering) → T (is_lt o) → o ≡ Less
              is-less Less h = refl
              is-less Equal h = absurd h
              is-less Greater h = absurd h
      go Equal p rest =
          let new = sum-cons (e.0, v) es in
          let old = sum-cons e es in
          omega arith
      go Greater p rest =
          let new = sum-cons e (fin.put nat_cmp k v es) in
          let old = sum-cons e es in
          omega arith

  pub total-put : (m : Map V) (k : ℕ) (v : V) → total f (put m k v) + counted f (at m k) ≡ total f m + f v
  unfolding sum_of
  total-put m k v =
      let s = sum-put k v (entries m) (finmap.entries_sorted m) in
      let a = ap sum_of (finmap.entries-insert nat_cmp_total m k v) in
      let b = ap (counted f) (finmap.get-entries m k) in
      omega arith

  none-sum : (es : List (ℕ × V)) → length es ≡ 0 → sum_by (λ e. f e.1) es ≡ 0
  none-sum [] h = refl
  none-sum (e ∷ es) h = absurd (omega arith)

  pub total-none : total f (no_rows {V = V}) ≡ 0
  total-none = none-sum (entries no_rows) (sym (finmap.len-entries no_rows) ∙ finmap.len-empty nat_cmp V)

  pub total-cut : (m : Map V) (k : ℕ) → total f (cut m k) + counted f (at m k) ≡ total f m
  total-cut m k = go (at m k) refl
    where
      gone : at (cut m k) k ≡ None
      gone = at-cut m k k ∙ ap (λ b. cond b None (at m k)) (eq-eqb k k refl)

      absent : at m k ≡ None → cut m k ≡ m
      absent e = same_rows (cut m k) m (λ j. at-cut m k j ∙ row j (j == k) refl)
        where
          row : (j : ℕ) (b : Bool) → (j == k) ≡ b → cond b None (at m j) ≡ at m j
          row j true f = let g : j ≡ k = grind (arith, nat_tests, f) in sym (ap (at m) g ∙ e)
          row j false f = refl

      back : (v : V) → at m k ≡ Some v → put (cut m k) k v ≡ m
      back v e = same_rows (put (cut m k) k v) m (λ j. at-put (cut m k) k v j ∙ row j (j == k) refl)
        where
          row : (j : ℕ) (b : Bool) → (j == k) ≡ b → cond b (Some v) (at (cut m k) j) ≡ at m j
          row j true f = let g : j ≡ k = grind (arith, nat_tests, f) in sym (ap (at m) g ∙ e)
          row j false f = at-cut m k j ∙ ap (λ b. cond b None (at m j)) f

      go : (o : Option V) → at m k ≡ o → total f (cut m k) + counted f o ≡ total f m
      go None e = let a = ap (total f) (absent e) in omega arith
      go (Some v) e =
          let a = ap (total f) (back v e) in
          let b = total-put (cut m k) k v in
          let c = ap (counted f) gone in
          omega arith

  -- one row counts at most what all count
  pub one-most : (m : Map V) (k : ℕ) → counted f (at m k) ≤ total f m
  one-most m k = let c = total-cut m k in omega arith
