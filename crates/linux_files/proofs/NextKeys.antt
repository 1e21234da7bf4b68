-- The least key of a map from a number on.
use Rattle.file_tree.proofs.Members.{In, at-in, in-above, in-at, no-value, value-same}
use Rattle.key_rows.proofs.Placed.{below-of, tail-of}
use Rattle.key_rows.specs.Table.{key_from}
use Rattle.mck_word.specs.Maps.{Map, at, entries}
use Rattle.std.proofs.Common.{ap, arith, inl, inr, refl, sym}
use Rattle.std.proofs.lemmas.Bool.Decides.{nat_tests}
use Rattle.std.specs.FinMap as finmap
use Rattle.std.specs.FinMap.{is_sorted}
use Rattle.std.specs.Ordering.{nat_cmp}
use Rattle.std.specs.Prelude.{Bool, List, None, Some, T, [], cond, false, find, map, nat_le, true, ℕ, ◌<◌, ◌∷◌, ◌≡◌, ◌≤◌}

past : (from k : ℕ) → nat_le from k ≡ false → k < from
past from k e = grind (arith, nat_tests, e)

upto : (from k : ℕ) → nat_le from k ≡ true → from ≤ k
upto from k e = grind (arith, nat_tests, e)

module _ {V : Type 0} where
  least : (from : ℕ) (es : List (ℕ × V)) (d : ℕ) → T (is_sorted nat_cmp es) → find (λ k. nat_le from k) (map (λ e. e.0) es) ≡ Some d
      → (from ≤ d) × ((v : V) × In (d, v) es) × ((e : ℕ × V) → In e es → from ≤ e.0 → d ≤ e.0)
  least from [] d s h = no-value d (sym h)
  least from (x ∷ es) d s h = go (nat_le from x.0) refl h (least from es d (tail-of x es s))
    where
      first : (d : ℕ) → x.0 ≡ d → (e : ℕ × V) → In e (x ∷ es) → d ≤ e.0
      first d same e (inl is) = let k = ap (λ (y : ℕ × V). y.0) is in omega arith
      first d same e (inr i) = let above = in-above x.0 es e (below-of x es s) i in omega arith

      later : x.0 < from → (d : ℕ) → ((e : ℕ × V) → In e es → from ≤ e.0 → d ≤ e.0) → (e : ℕ × V) → In e (x ∷ es) → from ≤ e.0 → d ≤ e.0
      later l d h e (inl is) g = absurd (let k = ap (λ (y : ℕ × V). y.0) is in omega arith)
      later l d h e (inr i) g = h e i g

      go : (b : Bool) → nat_le from x.0 ≡ b → cond b (Some x.0) (find (λ k. nat_le from k) (map (λ e. e.0) es)) ≡ Some d
          → (find (λ k. nat_le from k) (map (λ e. e.0) es) ≡ Some d → (from ≤ d) × ((v : V) × In (d, v) es) × ((e : ℕ × V) → In e es → from ≤ e.0 → d ≤ e.0))
          → (from ≤ d) × ((v : V) × In (d, v) (x ∷ es)) × ((e : ℕ × V) → In e (x ∷ es) → from ≤ e.0 → d ≤ e.0)
      go true f h rest =
          let same = value-same x.0 d h in
          (let l = upto from x.0 f in omega arith, (x.1, inl (λ i. (same i, x.1))), λ e i _. first d same e i)
      go false f h rest = let r = rest h in (r.0, (r.1.0, inr r.1.1), later (past from x.0 f) d r.2)

  none-from : (from : ℕ) (es : List (ℕ × V)) → find (λ k. nat_le from k) (map (λ e. e.0) es) ≡ None → (e : ℕ × V) → In e es → e.0 < from
  none-from from [] h e i = absurd i
  none-from from (x ∷ es) h e i = go (nat_le from x.0) refl h i (none-from from es)
    where
      go : (b : Bool) → nat_le from x.0 ≡ b → cond b (Some x.0) (find (λ k. nat_le from k) (map (λ e. e.0) es)) ≡ None → In e (x ∷ es)
          → (find (λ k. nat_le from k) (map (λ e. e.0) es) ≡ None → (e : ℕ × V) → In e es → e.0 < from) → e.0 < from
      go true f h i rest = no-value x.0 h
      go false f h (inl is) rest = let k = ap (λ (y : ℕ × V). y.0) is in let l = past from x.0 f in omega arith
      go false f h (inr j) rest = rest h e j

  module _ (m : Map V) (from d : ℕ) (is : Some d ≡ key_from m from) where
    found : (from ≤ d) × ((v : V) × In (d, v) (entries m)) × ((e : ℕ × V) → In e (entries m) → from ≤ e.0 → d ≤ e.0)
    found = least from (entries m) d (finmap.entries_sorted m) (sym is)

    pub next-from : from ≤ d
    next-from = found.0

    pub next-there : (v : V) × (at m d ≡ Some v)
    next-there = (found.1.0, in-at m (d, found.1.0) found.1.1)

    pub next-least : (q : ℕ) (v : V) → at m q ≡ Some v → from ≤ q → d ≤ q
    next-least q v e l = found.2 (q, v) (at-in m q v e) l

  pub next-none : (m : Map V) (from : ℕ) → None ≡ key_from m from → (q : ℕ) (v : V) → at m q ≡ Some v → q < from
  next-none m from is q v e = none-from from (entries m) (sym is) (q, v) (at-in m q v e)
