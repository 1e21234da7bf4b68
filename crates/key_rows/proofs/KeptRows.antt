-- The sorted rows that pass a test.
use Rattle.key_rows.proofs.Placed.{below-of, find-below, tail-of}
use Rattle.key_rows.specs.Keeping.{kept}
use Rattle.mck_word.specs.MapLaws.{at-collect}
use Rattle.mck_word.specs.Maps.{and_then}
use Rattle.std.proofs.Common.{◌≡◌, ◌≤◌, ◌∙◌, ℕ, Bool, true, false, cond, List, [], ◌∷◌, length, suc, None, Option, Some, ap, arith, inl, inr, refl, subst, sym}
use Rattle.std.proofs.lemmas.Bool.{cases_eq, eq-eqb, ne_eqb}
use Rattle.std.specs.Cmp.{nat_cmp_total, unsigned_tied}
use Rattle.std.specs.FinMap as map
use Rattle.std.specs.FinMap.{find, from_sorted, is_sorted, nat_cmp-IsAntisymmetric}
use Rattle.std.specs.FinMap.Entries.{below_all}
use Rattle.std.specs.Ordering.{is_lt, nat_cmp}
use Rattle.std.specs.Prelude.{T, filter, ◌&&◌}

module _ {V : Type 0} (p : ℕ → V → Bool) where
  abbrev pub passing : List (ℕ × V) → List (ℕ × V)
  passing es = filter (λ e. p e.0 e.1) es

  below-passing : (x : ℕ) (es : List (ℕ × V)) → T (below_all nat_cmp x es) → T (below_all nat_cmp x (passing es))
  below-passing x [] h = tt
  below-passing x (e ∷ es) h =
      elim (is_lt (nat_cmp x e.0)) as (λ b. is_lt (nat_cmp x e.0) ≡ b → T (b && below_all nat_cmp x es) → T (below_all nat_cmp x (cond (p e.0 e.1) (e ∷ passing es) (passing es)))) [
        | true ↦ λ l h. elim (p e.0 e.1) as (λ b. T (below_all nat_cmp x (cond b (e ∷ passing es) (passing es)))) [
          | true ↦ subst (λ b. T (b && below_all nat_cmp x (passing es))) (sym l) (below-passing x es h)
          | false ↦ below-passing x es h
        ]
        | false ↦ λ l h. absurd h
      ] refl h

  pub sorted-passing : (es : List (ℕ × V)) → T (is_sorted nat_cmp es) → T (is_sorted nat_cmp (passing es))
  sorted-passing [] h = tt
  sorted-passing (e ∷ es) h =
      let rest = sorted-passing es (tail-of e es h) in
      let under = below-passing e.0 es (below-of e es h) in
      elim (p e.0 e.1) as (λ b. T (is_sorted nat_cmp (cond b (e ∷ passing es) (passing es)))) [
        | true ↦ elim (below_all nat_cmp e.0 (passing es)) as (λ b. T b → T (b && is_sorted nat_cmp (passing es))) [ true ↦ λ _. rest | false ↦ λ f. absurd f ] under
        | false ↦ rest
      ]

  abbrev kept_value : ℕ → Option V → Option V
  kept_value q o = and_then o (λ v. cond (p q v) (Some v) None)

  find-passing : (q : ℕ) (es : List (ℕ × V)) → T (is_sorted nat_cmp es) → find nat_cmp q (passing es) ≡ kept_value q (find nat_cmp q es)
  find-passing q [] s = refl
  find-passing q (e ∷ es) s =
      let rest = find-passing q es (tail-of e es s) in
      elim (cases_eq q e.0) [
        | inl same ↦
            let gone : find nat_cmp q (passing es) ≡ None = find-below q (passing es) (subst (λ j. T (below_all nat_cmp j (passing es))) (sym same) (below-passing e.0 es (below-of e es s))) in
            at_key q e es same gone
        | inr other ↦ at_other q e es other rest
      ]
    where
      at_key : (q : ℕ) (e : ℕ × V) (es : List (ℕ × V)) → q ≡ e.0 → find nat_cmp q (passing es) ≡ None → find nat_cmp q (passing (e ∷ es)) ≡ kept_value q (find nat_cmp q (e ∷ es))
      at_key q e es same gone =
          rw (unsigned_tied q e.0 ∙ eq-eqb q e.0 same) (
          subst (λ j. find nat_cmp q (cond (p e.0 e.1) (e ∷ passing es) (passing es)) ≡ cond (p j e.1) (Some e.1) None) (sym same) (
          elim (p e.0 e.1) as (λ b. find nat_cmp q (cond b (e ∷ passing es) (passing es)) ≡ cond b (Some e.1) None) [
            | true ↦ ap (λ b. cond b (Some e.1) (find nat_cmp q (passing es))) (unsigned_tied q e.0 ∙ eq-eqb q e.0 same)
            | false ↦ gone
          ]))

      at_other : (q : ℕ) (e : ℕ × V) (es : List (ℕ × V)) → (q ≡ e.0 → ⊥) → find nat_cmp q (passing es) ≡ kept_value q (find nat_cmp q es) → find nat_cmp q (passing (e ∷ es)) ≡ kept_value q (find nat_cmp q (e ∷ es))
      at_other q e es other rest =
          let apart = unsigned_tied q e.0 ∙ ne_eqb q e.0 other in
          elim (p e.0 e.1) as (λ b. find nat_cmp q (cond b (e ∷ passing es) (passing es)) ≡ find nat_cmp q (passing es)) [
            | true ↦ ap (λ b. cond b (Some e.1) (find nat_cmp q (passing es))) apart
            | false ↦ refl
          ]
          ∙ rest ∙ ap (λ b. kept_value q (cond b (Some e.1) (find nat_cmp q es))) (sym apart)

  -- they are the rows that the map keeps
  pub kept-passing : (es : List (ℕ × V)) → T (is_sorted nat_cmp es) → from_sorted {R = nat_cmp} (passing es) ≡ kept p (from_sorted es)
  kept-passing es s = map.same_map nat_cmp_total nat_cmp-IsAntisymmetric _ _ (λ q.
      map.get-from_sorted nat_cmp (passing es) q (sorted-passing es s) ∙ find-passing q es s
      ∙ ap (kept_value q) (sym (map.get-from_sorted nat_cmp es q s)) ∙ sym (at-collect (λ k v. cond (p k v) (Some v) None) (from_sorted es) q))

  pub length-passing : (es : List (ℕ × V)) → length (passing es) ≤ length es
  length-passing [] = omega arith
  length-passing (e ∷ es) =
      let rest = length-passing es in
      elim (p e.0 e.1) as (λ b. length (cond b (e ∷ passing es) (passing es)) ≤ suc (length es)) [ true ↦ omega arith | false ↦ omega arith ]
