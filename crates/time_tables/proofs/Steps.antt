-- A page more that is there, or absent.
use Rattle.mck_flags.specs.declared.rights.Rights.{Rights}
use Rattle.mck_word.specs.MapLaws.{at-cut, at-none, at-put}
use Rattle.mck_word.specs.Maps.{at, cut, no_rows, put}
use Rattle.mck_word.specs.Pages.{in_ranges}
use Rattle.mck_word.specs.declared.Frame.{Frame}
use Rattle.page_map.specs.Tables.{PageRows}
use Rattle.std.proofs.Common.{[], ap, arith, cond, inl, inr, ℕ, None, Some, ◌+◌, ◌<◌, ◌∙◌, ◌∷◌, ◌≡◌, ◌≤◌}
use Rattle.std.proofs.lemmas.Bool.{cases_eq, eq-eqb, le-leb, lt-ltb, ne_eqb}
use Rattle.std.specs.Prelude.{IsTrue, is_some, refl}
use Rattle.time_tables.specs.Ranges.{AbsentFrom, ThereFrom}

pub one_range : (lo hi page : ℕ) → lo ≤ page → page < hi → IsTrue (in_ranges (record { lo = lo; hi = hi } ∷ []) page)
one_range lo hi page a b = rw (le-leb lo page a, lt-ltb page hi b) refl

module _ (m m2 : PageRows) (page : ℕ) where
  module _ (w : Frame × Rights) (is : m2 ≡ put m page w) where
    pub put-absent : (hi : ℕ) → AbsentFrom m page hi → AbsentFrom m2 (page + 1) hi
    put-absent hi h k a b = ap (λ x. at x k) is ∙ at-put m page w k ∙ ap (λ b. cond b (Some w) (at m k)) (ne_eqb k page (λ (e : k ≡ page). absurd (omega arith))) ∙ h k (omega arith) b

    pub put-there : (lo : ℕ) → ThereFrom m lo page → ThereFrom m2 lo (page + 1)
    put-there lo h k a b = elim (cases_eq k page) [
      | inl same ↦ ap is_some (ap (λ x. at x k) is ∙ at-put m page w k ∙ ap (λ b. cond b (Some w) (at m k)) (eq-eqb k page same))
      | inr other ↦ ap is_some (ap (λ x. at x k) is ∙ at-put m page w k ∙ ap (λ b. cond b (Some w) (at m k)) (ne_eqb k page other)) ∙ h k a (omega arith)
    ]

  module _ (is : m2 ≡ cut m page) where
    pub cut-absent : (lo : ℕ) → AbsentFrom m lo page → AbsentFrom m2 lo (page + 1)
    cut-absent lo h k a b = elim (cases_eq k page) [
      | inl same ↦ ap (λ x. at x k) is ∙ at-cut m page k ∙ ap (λ b. cond b None (at m k)) (eq-eqb k page same)
      | inr other ↦ ap (λ x. at x k) is ∙ at-cut m page k ∙ ap (λ b. cond b None (at m k)) (ne_eqb k page other) ∙ h k a (omega arith)
    ]

    pub cut-there : (hi : ℕ) → ThereFrom m page hi → ThereFrom m2 (page + 1) hi
    cut-there hi h k a b = ap is_some (ap (λ x. at x k) is ∙ at-cut m page k ∙ ap (λ b. cond b None (at m k)) (ne_eqb k page (λ (e : k ≡ page). absurd (omega arith)))) ∙ h k (omega arith) b

pub none-absent : (m : PageRows) (lo hi : ℕ) → m ≡ no_rows → AbsentFrom m lo hi
none-absent m lo hi e k a b = ap (λ x. at x k) e ∙ at-none k
