-- The frames of a whole table, given back: the free ones rise, and each is as often free as it was free or in a row.
use Rattle.std.specs.FinMap as finmap
use Rattle.hybrid_laws.proofs.maps.Lookups.{each-at, found-none, found-some}
use Rattle.hybrid_laws.proofs.maps.Sums.{counted_in, total-le, total-put}
use Rattle.hybrid_laws.proofs.memory.Adding.{rising-above, rising-rest}
use Rattle.hybrid_laws.proofs.memory.Dropping.{copies-insert, rising-insert}
use Rattle.hybrid_laws.proofs.memory.Written.{each-entry}
use Rattle.hybrid_laws.specs.OneProcess.{with_table}
use Rattle.hybrid_model.specs.Globals.{Frames, Rising, copies}
use Rattle.hybrid_model.specs.Sides.{Row}
use Rattle.hybrid_model.specs.Spaces.{freed, freed_rows, insert_frame}
use Rattle.hybrid_model.specs.Tallies.{Reads, if_same}
use Rattle.mck_word.specs.MapLaws.{at-none, at-put}
use Rattle.mck_word.specs.Maps.{Map, at, entries, no_rows, put, total}
use Rattle.std.proofs.Common.{ap, arith, refl, sym, ◌∙◌}
use Rattle.std.proofs.lemmas.Bool.Decides.{nat_tests}
use Rattle.std.proofs.lemmas.List.Sums.{sum_by-cons}
use Rattle.std.specs.Ordering.{nat_cmp}
use Rattle.std.specs.Prelude.{Bool, List, None, Option, Some, [], cond, false, find, if◌then◌else◌, sum_by, true, ℕ, ◌+◌, ◌==◌, ◌∷◌, ◌≡◌, ◌≤◌, length}

module _ where
  abbrev pub in_row : ℕ → Row → ℕ
  in_row f r = if_same f r.0.0

  pub copies-rows : (f : ℕ) (es : List (ℕ × Row)) (free : List ℕ) → copies f (freed_rows es free) ≡ copies f free + sum_by (λ (e : ℕ × Row). in_row f e.1) es
  copies-rows f [] free = omega arith
  copies-rows f (e ∷ es) free =
      let a = copies-rows f es (insert_frame e.1.0.0 free) in
      let b = copies-insert f e.1.0.0 free in
      let c = sum_by-cons (λ (x : ℕ × Row). in_row f x.1) e es in
      omega (arith, a, b, c)

  rising-rows : (es : List (ℕ × Row)) (free : List ℕ) → Rising free → ((f : ℕ) → copies f free + sum_by (λ (e : ℕ × Row). in_row f e.1) es ≤ 1) → Rising (freed_rows es free)
  rising-rows [] free r h = r
  rising-rows (e ∷ es) free r h = rising-rows es (insert_frame e.1.0.0 free) (rising-insert e.1.0.0 free none r)
      (λ f. (let a = h f in let b = copies-insert f e.1.0.0 free in let c = sum_by-cons (λ (x : ℕ × Row). in_row f x.1) e es in omega (arith, a, b, c)))
    where
      same : if_same e.1.0.0 e.1.0.0 ≡ 1
      same = let b : (e.1.0.0 == e.1.0.0) ≡ true = grind (arith, nat_tests) in rw b refl

      none : copies e.1.0.0 free ≡ 0
      none = let a = h e.1.0.0 in let c = sum_by-cons (λ (x : ℕ × Row). in_row e.1.0.0 x.1) e es in let s = same in omega (arith, a, c, s)

  copies-once : (f : ℕ) (free : List ℕ) → Rising free → copies f free ≤ 1
  copies-once f [] r = omega arith
  copies-once f (g ∷ free) r = go (f == g) refl (copies-once f free (rising-rest g free r))
    where
      go : (b : Bool) → (f == g) ≡ b → copies f free ≤ 1 → (if b then 1 else 0) + copies f free ≤ 1
      go false e l = omega (arith, l)
      go true e l = let y : f ≡ g = grind (arith, nat_tests, e) in let a : copies f free ≡ 0 = ap (λ (n : ℕ). copies n free) y ∙ rising-above g free r in omega (arith, a)

  total-empty : (f : ℕ) → total (in_row f) no_rows ≡ 0
  total-empty f = go (entries no_rows) (sym (finmap.len-entries (no_rows {V = Row})) ∙ finmap.len-empty nat_cmp Row)
    where
      go : (es : List (ℕ × Row)) → length es ≡ 0 → sum_by (λ (e : ℕ × Row). in_row f e.1) es ≡ 0
      go [] e = refl
      go (x ∷ es) e = absurd (grind (arith, e))

  total-none : (f : ℕ) (table : Map Row) → ((k : ℕ) (r : Row) → at table k ≡ Some r → (f == r.0.0) ≡ false) → total (in_row f) table ≡ 0
  total-none f table h = let a = total-le (in_row f) table no_rows (λ k. go k (at table k) refl) in let b = total-empty f in omega (arith, a, b)
    where
      go : (k : ℕ) (o : Option Row) → at table k ≡ o → counted_in (in_row f) o ≤ counted_in (in_row f) (at no_rows k)
      go k None e = omega arith
      go k (Some r) e = let n = h k r e in let z : in_row f r ≡ 0 = rw n refl in omega (arith, z)

  total-one : (f k : ℕ) (r : Row) (table : Map Row) → ((j : ℕ) (x : Row) → at table j ≡ Some x → (f == x.0.0) ≡ true → (j == k) ≡ true) → total (in_row f) table ≤ 1
  total-one f k r table h =
      let a = total-le (in_row f) table (put no_rows k some) (λ j. go j (at table j) refl) in
      let b = total-put (in_row f) no_rows k some in
      let c = total-empty f in
      let d = ap (counted_in (in_row f)) (at-none {V = Row} k) in
      let e = least (f == f) in
      omega (arith, a, b, c, d, e)
    where
      some : Row
      some = (record { 0 = f }, r.1)

      least : (b : Bool) → (if b then 1 else 0) ≤ 1
      least true = omega arith
      least false = omega arith

      same : (f == f) ≡ true
      same = grind (arith, nat_tests)

      go : (j : ℕ) (o : Option Row) → at table j ≡ o → counted_in (in_row f) o ≤ counted_in (in_row f) (at (put no_rows k some) j)
      go j None e = omega arith
      go j (Some x) e = by (f == x.0.0) refl
        where
          by : (b : Bool) → (f == x.0.0) ≡ b → (if b then 1 else 0) ≤ counted_in (in_row f) (at (put no_rows k some) j)
          by false n = omega arith
          by true n =
              let q = h j x e n in
              let z : counted_in (in_row f) (at (put no_rows k some) j) ≡ 1 = ap (counted_in (in_row f)) (at-put no_rows k some j ∙ ap (λ b. cond b (Some some) (at no_rows j)) q) ∙ ap (λ (b : Bool). if b then 1 else 0) same in
              omega (arith, z)

module _ (tables : ℕ → Reads Row) (p : ℕ) (table : Map Row) (own : tables p ≡ at table) (free : List ℕ) (c : Frames tables free) where
  row-of : (k : ℕ) (r : Row) → at table k ≡ Some r → tables p k ≡ Some r
  row-of k r e = ap (λ (t : Reads Row). t k) own ∙ e

  pub once : (f : ℕ) → copies f free + total (in_row f) table ≤ 1
  once f = go (find (λ (e : ℕ × Row). f == e.1.0.0) (entries table)) refl
    where
      go : (o : Option (ℕ × Row)) → find (λ (e : ℕ × Row). f == e.1.0.0) (entries table) ≡ o → copies f free + total (in_row f) table ≤ 1
      go None e =
          let n = total-none f table (λ k r h. each-at (λ (x : ℕ × Row). (f == x.1.0.0) ≡ false) table k r (found-none (λ (x : ℕ × Row). f == x.1.0.0) (entries table) e) h) in
          let l = copies-once f free c.rising in
          omega (arith, n, l)
      go (Some y) e =
          let k = found-some (λ (x : ℕ × Row). f == x.1.0.0) (λ (x : ℕ × Row). at table x.0 ≡ Some x.1) (entries table) y (each-entry table) e in
          let g : f ≡ y.1.0.0 = (let t = k.1 in grind (arith, nat_tests, t)) in
          let n : copies f free ≡ 0 = ap (λ (x : ℕ). copies x free) g ∙ c.not_free p y.0 y.1 (row-of y.0 y.1 k.0) in
          let l = total-one f y.0 y.1 table (λ j x h s. (let w : x.0 ≡ y.1.0 = same-frame x y.1 (let z : f ≡ x.0.0 = grind (arith, nat_tests, s) in sym z ∙ g) in let q = (c.apart p j x p y.0 y.1 (row-of j x h) (row-of y.0 y.1 k.0) w).1 in grind (arith, nat_tests, q))) in
          omega (arith, n, l)
        where
          same-frame : (x z : Row) → x.0.0 ≡ z.0.0 → x.0 ≡ z.0
          same-frame x z e = λ i. record { 0 = e i }

  pub not-kept : (f : ℕ) → ((k : ℕ) (r : Row) → at table k ≡ Some r → (f == r.0.0) ≡ false) → copies f (freed table free) ≡ copies f free
  not-kept f h = let a = copies-rows f (entries table) free in let b = total-none f table h in omega (arith, a, b)

  pub frames_freed : Frames (with_table tables p (at no_rows)) (freed table free)
  frames_freed = record {
    not_free = λ q i r e. other-free q i r (q == p) refl e;
    apart = λ q i r x j t e f g. (let a = before q i r (q == p) refl e in let b = before x j t (x == p) refl f in c.apart q i r x j t a b g);
    rising = rising-rows (entries table) free c.rising once;
  }
    where
      before : (q i : ℕ) (r : Row) (b : Bool) → (q == p) ≡ b → (if b then at no_rows else tables q) i ≡ Some r → tables q i ≡ Some r
      before q i r true n e = absurd (let a = sym (at-none {V = Row} i) ∙ e in grind (arith, a))
      before q i r false n e = e

      other-free : (q i : ℕ) (r : Row) (b : Bool) → (q == p) ≡ b → (if b then at no_rows else tables q) i ≡ Some r → copies r.0.0 (freed table free) ≡ 0
      other-free q i r true n e = absurd (let a = sym (at-none {V = Row} i) ∙ e in grind (arith, a))
      other-free q i r false n e = not-kept r.0.0 (λ k x h. differ k x h (r.0.0 == x.0.0) refl) ∙ c.not_free q i r e
        where
          differ : (k : ℕ) (x : Row) → at table k ≡ Some x → (b : Bool) → (r.0.0 == x.0.0) ≡ b → b ≡ false
          differ k x h false s = refl
          differ k x h true s = absurd (let a = (c.apart q i r p k x e (row-of k x h) (λ j. record { 0 = (let z : r.0.0 ≡ x.0.0 = grind (arith, nat_tests, s) in z) j })).0 in grind (arith, nat_tests, a, n))
