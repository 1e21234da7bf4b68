-- What the least key from a number on says of a map.
use Rattle.key_rows.specs.Table.{key_from}
use Rattle.mck_word.specs.Maps.{Map, at}
use Rattle.std.proofs.Common.{◌≡◌, ℕ, ◌<◌, ◌≤◌, Bool, true, false, cond, eqb, leb, ltb, List, [], ◌∷◌, Some, None, refl, sym, ap, ◌∙◌, inl, inr, arith}
use Rattle.std.proofs.lemmas.Bool.{cases_lt, cases_order, eq-eqb, le-leb, le-ltb, lt-leb, lt-ltb, ne_eqb}
use Rattle.std.specs.FinMap as finmap
use Rattle.std.specs.FinMap.Entries.{below_all, find, is_sorted}
use Rattle.std.specs.Ordering.{is_lt, nat_cmp}
use Rattle.std.specs.Prelude.{find as first, map as map_list, T, is_some, ◌&&◌}
use Rattle.std.specs.declared.cmp.Ordering.{Ordering}
use Rattle.std.specs.declared.cmp.Ordering.TheVariants.{Equal, Greater, Less}

-- what the tests on two numbers answer
three : (x y : ℕ) (P : Bool → Bool → Type 0) → (x < y → P true false) → (x ≡ y → P false true) → (y < x → P false false) → P (ltb x y) (eqb x y)
three x y P below same above =
    elim (cases_order x y) [
      | inl e ↦ rw (le-ltb x y (omega arith), eq-eqb x y e) (same e)
      | inr (inl l) ↦ rw (lt-ltb x y l, ne_eqb x y (omega arith)) (below l)
      | inr (inr g) ↦ rw (le-ltb x y (omega arith), ne_eqb x y (omega arith)) (above g)
    ]

abbrev rank : Bool → Bool → Ordering
rank l q = cond l Less (cond q Equal Greater)

module _ {V : Type 0} where
  -- the keys rise from k on
  pub find-below : (k j : ℕ) (es : List (ℕ × V)) → j ≤ k → T (below_all nat_cmp k es) → find nat_cmp j es ≡ None
  find-below k j [] l s = refl
  find-below k j (e ∷ es) l s =
      three k e.0 (λ a b. T (is_lt (rank a b) && below_all nat_cmp k es) → find nat_cmp j (e ∷ es) ≡ None)
      (λ m s. rw (lt-ltb j e.0 (omega arith)) (find-below k j es l s)) (λ q s. absurd s) (λ g s. absurd s) s

  pub find-other : (j : ℕ) (e : ℕ × V) (es : List (ℕ × V)) → e.0 < j → find nat_cmp j (e ∷ es) ≡ find nat_cmp j es
  find-other j e es l = rw (le-ltb j e.0 (omega arith), ne_eqb j e.0 (omega arith)) refl

  pub find-here : (e : ℕ × V) (es : List (ℕ × V)) → find nat_cmp e.0 (e ∷ es) ≡ Some e.1
  find-here e es = rw (le-ltb e.0 e.0 (omega arith), eq-eqb e.0 e.0 refl) refl

  pub head-of : (e : ℕ × V) (es : List (ℕ × V)) → T (is_sorted nat_cmp (e ∷ es)) → T (below_all nat_cmp e.0 es)
  head-of e es s = elim (below_all nat_cmp e.0 es) as (λ b. T (b && is_sorted nat_cmp es) → T b) [ true ↦ λ _. tt | false ↦ λ h. h ] s

  pub tail-of : (e : ℕ × V) (es : List (ℕ × V)) → T (is_sorted nat_cmp (e ∷ es)) → T (is_sorted nat_cmp es)
  tail-of e es s = elim (below_all nat_cmp e.0 es) as (λ b. T (b && is_sorted nat_cmp es) → T (is_sorted nat_cmp es)) [ true ↦ λ h. h | false ↦ λ h. absurd h ] s

  none-in : (es : List (ℕ × V)) (from : ℕ) → first (λ k. leb from k) (map_list (λ e. e.0) es) ≡ None → (j : ℕ) → from ≤ j → find nat_cmp j es ≡ None
  none-in [] from e j l = refl
  none-in (x ∷ es) from e j l = elim (cases_lt x.0 from) [
    | inl low ↦ find-other j x es (omega arith) ∙ none-in es from (rw (lt-leb from x.0 low) at e) j l
    | inr high ↦ absurd (let bad = rw (le-leb from x.0 high) at e in cc)
  ]

  record Found (es : List (ℕ × V)) (from k : ℕ) : Type 0 where
    pub low : from ≤ k
    pub there : is_some (find nat_cmp k es) ≡ true
    pub least : (j : ℕ) → from ≤ j → j < k → find nat_cmp j es ≡ None

  found-in : (es : List (ℕ × V)) (from k : ℕ) → T (is_sorted nat_cmp es) → first (λ k. leb from k) (map_list (λ e. e.0) es) ≡ Some k → Found es from k
  found-in [] from k s e = absurd (cc)
  found-in (x ∷ es) from k s e = elim (cases_lt x.0 from) [
    | inl low ↦
        let rest = found-in es from k (tail-of x es s) (rw (lt-leb from x.0 low) at e) in
        record {
          low = rest.low;
          there = ap is_some (find-other k x es (omega (arith, rest.low))) ∙ rest.there;
          least = λ j a b. find-other j x es (omega arith) ∙ rest.least j a b;
        }
    | inr high ↦
        let same : x.0 ≡ k = (let here = rw (le-leb from x.0 high) at e in cc) in
        record {
          low = omega arith;
          there = ap (λ n. is_some (find nat_cmp n (x ∷ es))) (sym same) ∙ ap is_some (find-here x es);
          least = λ j a b. rw (lt-ltb j x.0 (omega arith)) (find-below x.0 j es (omega arith) (head-of x es s));
        }
  ]

  -- the key is present and the least from there on
  pub record IsNext (m : Map V) (from k : ℕ) : Type 0 where
    pub low : from ≤ k
    pub there : is_some (at m k) ≡ true
    pub least : (j : ℕ) → from ≤ j → j < k → at m j ≡ None

  pub next-some : (m : Map V) (from k : ℕ) → key_from m from ≡ Some k → IsNext m from k
  next-some m from k e =
      let found = found-in (finmap.entries m) from k (finmap.entries_sorted m) e in
      record {
        low = found.low;
        there = ap is_some (finmap.get-entries m k) ∙ found.there;
        least = λ j a b. finmap.get-entries m j ∙ found.least j a b;
      }

  pub next-none : (m : Map V) (from : ℕ) → key_from m from ≡ None → (j : ℕ) → from ≤ j → at m j ≡ None
  next-none m from e j l = finmap.get-entries m j ∙ none-in (finmap.entries m) from e j l
