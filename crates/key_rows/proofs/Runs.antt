-- Rows at the front of sorted rows whose keys are 0, 1, 2 and so on.
use Rattle.key_rows.proofs.Placed.{below-of, least-below, tail-of}
use Rattle.key_rows.specs.Lowest.{lowest-is}
use Rattle.mck_word.specs.Lists.{lowest_not_in, member}
use Rattle.std.proofs.Common.{◌≡◌, ◌≢◌, ◌+◌, ◌<◌, ◌≤◌, ◌∙◌, ℕ, zero, suc, true, false, cond, eqb, List, [], ◌∷◌, length, get_or, ap, arith, inl, inr, refl, sym}
use Rattle.std.proofs.lemmas.Bool.{cases_eq, eq-eqb, ne_eqb}
use Rattle.std.specs.FinMap.{is_sorted}
use Rattle.std.specs.Ordering.{nat_cmp}
use Rattle.std.specs.Prelude.{T, map as map_list, ◌||◌}

module _ {V : Type 0} where
  abbrev pub run : ℕ → List (ℕ × V) → ℕ
  run k [] = 0
  run k (e ∷ es) = cond (eqb e.0 k) (suc (run (suc k) es)) 0

  -- no key is below k
  abbrev pub starts_from : ℕ → List (ℕ × V) → Type 0
  starts_from k [] = Unit {0}
  starts_from k (e ∷ es) = k ≤ e.0

  pub from-zero : (es : List (ℕ × V)) → starts_from 0 es
  from-zero [] = tt
  from-zero (e ∷ es) = omega arith

  rises : (k : ℕ) (e : ℕ × V) (es : List (ℕ × V)) → T (is_sorted nat_cmp (e ∷ es)) → k ≤ e.0 → starts_from (suc k) es
  rises k e [] s h = tt
  rises k e (f ∷ es) s h = let above = least-below e.0 (f ∷ es) 0 f (below-of e (f ∷ es) s) (omega arith) in omega arith

  -- the i-th key is at least k + i
  far : (k i : ℕ) (es : List (ℕ × V)) (d : ℕ × V) → T (is_sorted nat_cmp es) → starts_from k es → i < length es → k + i ≤ (get_or es i d).0
  far k i [] d s h l = absurd (omega arith)
  far k zero (e ∷ es) d s h l = omega arith
  far k (suc i) (e ∷ es) d s h l = let rest = far (suc k) i es d (tail-of e es s) (rises k e es s h) (omega arith) in omega arith

  pub run-le : (k : ℕ) (es : List (ℕ × V)) → run k es ≤ length es
  run-le k [] = omega arith
  run-le k (e ∷ es) = let rest = run-le (suc k) es in elim (eqb e.0 k) as (λ b. cond b (suc (run (suc k) es)) 0 ≤ suc (length es)) [ true ↦ omega arith | false ↦ omega arith ]

  pub run-above : (k i : ℕ) (es : List (ℕ × V)) (d : ℕ × V) → T (is_sorted nat_cmp es) → starts_from k es → i < length es → (get_or es i d).0 ≡ k + i → i < run k es
  run-above k i [] d s h l e = absurd (omega arith)
  run-above k zero (x ∷ es) d s h l e = let here : x.0 ≡ k = omega arith in rw (eq-eqb x.0 k here) (omega arith)
  run-above k (suc i) (x ∷ es) d s h l e =
      elim (cases_eq x.0 k) [
        | inl here ↦
            let next : (get_or es i d).0 ≡ suc k + i = omega arith in
            let rest = run-above (suc k) i es d (tail-of x es s) (rises k x es s h) (omega arith) next in
            rw (eq-eqb x.0 k here) (omega arith)
        | inr above ↦
            let more : suc k ≤ x.0 = omega arith in
            let beyond = far (suc k) (suc i) (x ∷ es) d s more l in
            absurd (omega arith)
      ]

  pub run-below : (k i : ℕ) (es : List (ℕ × V)) (d : ℕ × V) → i < length es → (get_or es i d).0 ≢ k + i → run k es ≤ i
  run-below k i [] d l o = omega arith
  run-below k zero (x ∷ es) d l o = let here : x.0 ≢ k = λ e. o (omega (arith, e)) in rw (ne_eqb x.0 k here) (omega arith)
  run-below k (suc i) (x ∷ es) d l o =
      let rest = run-below (suc k) i es d (omega arith) (λ e. o (omega (arith, e))) in
      elim (eqb x.0 k) as (λ b. cond b (suc (run (suc k) es)) 0 ≤ suc i) [ true ↦ omega arith | false ↦ omega arith ]

  abbrev numbers : List (ℕ × V) → List ℕ
  numbers es = map_list (λ e. e.0) es

  members-step : (k i : ℕ) (e : ℕ × V) (es : List (ℕ × V)) → ((j : ℕ) → j < run (suc k) es → member (suc k + j) (numbers es) ≡ true) → i < suc (run (suc k) es) → e.0 ≡ k → (eqb e.0 (k + i) || member (k + i) (numbers es)) ≡ true
  members-step k zero e es rest l here = rw (eq-eqb e.0 (k + 0) (omega arith)) refl
  members-step k (suc j) e es rest l here =
      let same : suc k + j ≡ k + suc j = omega arith in
      rw (ne_eqb e.0 (k + suc j) (omega arith)) (ap (λ n. member n (numbers es)) (sym same) ∙ rest j (omega arith))

  members-below : (k i : ℕ) (es : List (ℕ × V)) → i < run k es → member (k + i) (numbers es) ≡ true
  members-below k i [] l = absurd (omega arith)
  members-below k i (e ∷ es) l =
      elim (cases_eq e.0 k) [
        | inr o ↦ let l : i < 0 = rw (ne_eqb e.0 k o) at l in absurd (omega arith)
        | inl here ↦ let l : i < suc (run (suc k) es) = rw (eq-eqb e.0 k here) at l in members-step k i e es (λ j m. members-below (suc k) j es m) l here
      ]

  no-member : (n : ℕ) (es : List (ℕ × V)) → ((i : ℕ) (d : ℕ × V) → i < length es → n < (get_or es i d).0) → member n (numbers es) ≡ false
  no-member n [] h = refl
  no-member n (e ∷ es) h =
      let above : n < e.0 = h 0 e (omega arith) in
      rw (ne_eqb e.0 n (omega arith)) (no-member n es (λ i d l. h (suc i) d (omega arith)))

  next-missing : (k : ℕ) (es : List (ℕ × V)) → T (is_sorted nat_cmp es) → starts_from k es → member (k + run k es) (numbers es) ≡ false
  next-missing k [] s h = refl
  next-missing k (e ∷ es) s h =
      elim (cases_eq e.0 k) [
        | inl here ↦
            let same : suc k + run (suc k) es ≡ k + suc (run (suc k) es) = omega arith in
            let past : member (k + suc (run (suc k) es)) (numbers (e ∷ es)) ≡ false =
            rw (ne_eqb e.0 (k + suc (run (suc k) es)) (omega arith)) (ap (λ n. member n (numbers es)) (sym same) ∙ next-missing (suc k) es (tail-of e es s) (rises k e es s h)) in
            ap (λ b. member (k + cond b (suc (run (suc k) es)) 0) (numbers (e ∷ es))) (eq-eqb e.0 k here) ∙ past
        | inr o ↦
            let more : suc k ≤ e.0 = omega arith in
            let none = no-member (k + 0) (e ∷ es) (λ i d l. let beyond = far (suc k) i (e ∷ es) d s more l in omega arith) in
            ap (λ b. member (k + cond b (suc (run (suc k) es)) 0) (numbers (e ∷ es))) (ne_eqb e.0 k o) ∙ none
      ]

  -- the run is the least number that is no key
  pub run-lowest : (es : List (ℕ × V)) → T (is_sorted nat_cmp es) → run 0 es ≡ lowest_not_in (numbers es)
  run-lowest es s =
      let add : (i : ℕ) → 0 + i ≡ i = λ i. omega arith in
      sym (lowest-is (numbers es) (run 0 es)
      (λ i l. ap (λ n. member n (numbers es)) (sym (add i)) ∙ members-below 0 i es l)
      (ap (λ n. member n (numbers es)) (sym (add (run 0 es))) ∙ next-missing 0 es s (from-zero es)))
