-- Which pages have rows, and what holds of their frames, after a change.
use Rattle.frame_pool.specs.Pools.{Pool}
use Rattle.hybrid_model.specs.Sides.{Row}
use Rattle.lwk_space.specs.Rows.{FramesApart, FramesTaken}
use Rattle.mck_word.specs.Lists.{insert_by, member}
use Rattle.mck_word.specs.MapLaws.{at-cut, at-put}
use Rattle.mck_word.specs.Maps.{Map, at, change, change_row, cut, put}
use Rattle.std.proofs.Common.{ap, arith, inl, inr, refl, sym, ◌∙◌}
use Rattle.std.proofs.lemmas.Bool.Decides.{nat_tests}
use Rattle.std.proofs.lemmas.Bool.{cases_eq, cases_lt, eq-eqb, ne_eqb}
use Rattle.std.specs.Prelude.{Bool, List, None, Option, Some, [], ◌∷◌, cond, false, is_some, nat_le, nat_lt, not, true, ℕ, ◌&&◌, ◌+◌, ◌<◌, ◌==◌, ◌||◌, ◌≡◌, ◌≢◌, ◌≤◌}

pub present-put : (m : Map Row) (k p : ℕ) (w : Row) → is_some (at (put m k w) p) ≡ (is_some (at m p) || (p == k))
present-put m k p w = ap is_some (at-put m k w p) ∙ by_key (p == k) (at m p)
  where
    by_key : (b : Bool) (o : Option Row) → is_some (cond b (Some w) o) ≡ (is_some o || b)
    by_key true None = refl
    by_key true (Some x) = refl
    by_key false None = refl
    by_key false (Some x) = refl

pub present-cut : (m : Map Row) (k p : ℕ) → is_some (at (cut m k) p) ≡ (is_some (at m p) && not (p == k))
present-cut m k p = ap is_some (at-cut m k p) ∙ by_key (p == k) (at m p)
  where
    by_key : (b : Bool) (o : Option Row) → is_some (cond b None o) ≡ (is_some o && not b)
    by_key true None = refl
    by_key true (Some x) = refl
    by_key false None = refl
    by_key false (Some x) = refl

pub at-other : (m : Map Row) (k p : ℕ) (w : Row) → p ≢ k → at (put m k w) p ≡ at m p
at-other m k p w o = at-put m k w p ∙ ap (λ b. cond b (Some w) (at m p)) (ne_eqb p k o)

pub present-change : (m : Map Row) (k p : ℕ) (f : Row → Row) → is_some (at (change m k f) p) ≡ is_some (at m p)
present-change m k p f = by_row (at m k) refl
  where
    by_row : (o : Option Row) → at m k ≡ o → is_some (at (change_row m k f o) p) ≡ is_some (at m p)
    by_row None e = refl
    by_row (Some w) e = elim (cases_eq p k) [
      | inl same ↦ present-put m k p (f w) ∙ (let there = ap is_some (ap (at m) same ∙ e) in rw there refl)
      | inr other ↦ ap is_some (at-other m k p (f w) other)
    ]

-- one page more
pub pages-grow : (a b : Bool) (lo page p : ℕ) → lo ≤ page → a ≡ (b || (nat_le lo p && nat_lt p page)) → (a || (p == page)) ≡ (b || (nat_le lo p && nat_lt p (page + 1)))
pages-grow a b lo page p l e = rw e (by_bool b)
  where
    by_bool : (b : Bool) → ((b || (nat_le lo p && nat_lt p page)) || (p == page)) ≡ (b || (nat_le lo p && nat_lt p (page + 1)))
    by_bool true = refl
    by_bool false = grind (arith, nat_tests, l)

-- a page less, those before it being absent
pub pages-shrink : (a b : Bool) (lo from page p : ℕ) → lo ≤ from → from ≤ page → a ≡ (b && not (nat_le lo p && nat_lt p from)) → (from ≤ p → p < page → a ≡ false)
    → (a && not (p == page)) ≡ (b && not (nat_le lo p && nat_lt p (page + 1)))
pages-shrink a b lo from page p l m e off = elim (cases_lt p from) [
  | inl before ↦ rw e (let s : (p == page) ≡ false = grind (arith, nat_tests, before, m) in let t : nat_lt p (page + 1) ≡ nat_lt p from = grind (arith, nat_tests, before, m) in rw (s, t) (on (b && not (nat_le lo p && nat_lt p from))))
  | inr after ↦ elim (cases_lt p page) [
    | inl between ↦
        let s : (nat_le lo p && nat_lt p (page + 1)) ≡ true = grind (arith, nat_tests, l, after, between) in
        rw (off after between, s) (sym (none b))
    | inr beyond ↦
        let s : (nat_le lo p && nat_lt p from) ≡ false = grind (arith, nat_tests, m, beyond, after) in
        let t : (nat_le lo p && nat_lt p (page + 1)) ≡ (p == page) = grind (arith, nat_tests, l, m, beyond) in
        rw (e, s, t) (same b (p == page))
  ]
]
  where
    on : (x : Bool) → (x && true) ≡ x
    on true = refl
    on false = refl

    none : (x : Bool) → (x && false) ≡ false
    none true = refl
    none false = refl

    same : (x y : Bool) → ((x && true) && not y) ≡ (x && not y)
    same true y = refl
    same false y = refl

-- no page is left
pub pages-end : (a b : Bool) (lo from hi p : ℕ) → lo ≤ from → from ≤ hi → a ≡ (b && not (nat_le lo p && nat_lt p from)) → (from ≤ p → p < hi → a ≡ false) → a ≡ (b && not (nat_le lo p && nat_lt p hi))
pages-end a b lo from hi p l m e off = elim (cases_lt p from) [
  | inl before ↦ let t : nat_lt p hi ≡ nat_lt p from = grind (arith, nat_tests, before, m) in rw t e
  | inr after ↦ elim (cases_lt p hi) [
    | inl between ↦ let s : (nat_le lo p && nat_lt p hi) ≡ true = grind (arith, nat_tests, l, after, between) in rw s (off after between ∙ sym (none b))
    | inr beyond ↦
        let s : (nat_le lo p && nat_lt p from) ≡ (nat_le lo p && nat_lt p hi) = grind (arith, nat_tests, m, beyond, after) in
        e ∙ ap (λ t. b && not t) s
  ]
]
  where
    none : (x : Bool) → (x && false) ≡ false
    none true = refl
    none false = refl

pub cut-there : (m : Map Row) (page k : ℕ) (w : Row) → at (cut m page) k ≡ Some w → (k ≢ page) × (at m k ≡ Some w)
cut-there m page k w e = elim (cases_eq k page) [
  | inl same ↦ absurd (let gone = at-cut m page k ∙ ap (λ b. cond b None (at m k)) (eq-eqb k page same) in cc)
  | inr other ↦ (other, sym (at-cut m page k ∙ ap (λ b. cond b None (at m k)) (ne_eqb k page other)) ∙ e)
]

pub apart-cut : (m : Map Row) (page : ℕ) → FramesApart m → FramesApart (cut m page)
apart-cut m page h j k v w a b e = h j k v w (cut-there m page j v a).1 (cut-there m page k w b).1 e

member-insert : (n f : ℕ) (xs : List ℕ) → member n (insert_by nat_lt f xs) ≡ ((f == n) || member n xs)
member-insert n f [] = refl
member-insert n f (x ∷ xs) =
    let rest = member-insert n f xs in
    elim (nat_lt f x) as (λ b. member n (cond b (f ∷ x ∷ xs) (x ∷ insert_by nat_lt f xs)) ≡ ((f == n) || ((x == n) || member n xs))) [
      | true ↦ refl
      | false ↦ ap (λ b. (x == n) || b) rest ∙ swap (x == n) (f == n) (member n xs)
    ]
  where
    swap : (a b c : Bool) → (a || (b || c)) ≡ (b || (a || c))
    swap true true c = refl
    swap true false c = refl
    swap false b c = refl

pub taken-cut : (m : Map Row) (page : ℕ) (pool : Pool) (w : Row) → FramesTaken m pool → FramesApart m → at m page ≡ Some w
    → FramesTaken (cut m page) (record pool { free = insert_by nat_lt w.0.0 pool.free })
taken-cut m page pool w taken apart here k v e =
    let there = cut-there m page k v e in
    let was = taken k v there.1 in
    (was.0, member-insert v.0.0 w.0.0 pool.free ∙ (λ i. ne_eqb w.0.0 v.0.0 (λ same. there.0 (apart k page v w there.1 here (sym same))) i || was.1 i))
