-- No page from 2^27 on comes in.
use Rattle.mck_flags.specs.declared.rights.Rights.{Rights}
use Rattle.mck_word.specs.MapLaws.{at-cut, at-none, at-put}
use Rattle.mck_word.specs.Maps.{at, cut, no_rows, put}
use Rattle.mck_word.specs.declared.Frame.{Frame}
use Rattle.page_map.specs.Tables.{IsBelow, PageRows}
use Rattle.std.proofs.Common.{ap, arith, inl, inr, subst, ◌∙◌}
use Rattle.std.proofs.lemmas.Bool.{cases_eq, eq-eqb, ne_eqb}
use Rattle.std.specs.Prelude.{IsTrue, None, Some, cond, is_some, ℕ, ◌<◌, ◌^◌}

pub Below-none : IsBelow no_rows
Below-none page there = absurd (let e = ap is_some (at-none {V = Frame × Rights} page) in cc)

pub Below-put : (m : PageRows) (k : ℕ) (w : Frame × Rights) → k < 2 ^ 27 → IsBelow m → IsBelow (put m k w)
Below-put m k w low h page there = elim (cases_eq page k) [
  | inl e ↦ omega arith
  | inr o ↦ h page (subst (λ r. IsTrue (is_some r)) (at-put m k w page ∙ ap (λ b. cond b (Some w) (at m page)) (ne_eqb page k o)) there)
]

pub Below-cut : (m : PageRows) (k : ℕ) → IsBelow m → IsBelow (cut m k)
Below-cut m k h page there = elim (cases_eq page k) [
  | inl e ↦ absurd (let same = at-cut m k page ∙ ap (λ b. cond b None (at m page)) (eq-eqb page k e) in let t = ap is_some same in cc)
  | inr o ↦ h page (subst (λ r. IsTrue (is_some r)) (at-cut m k page ∙ ap (λ b. cond b None (at m page)) (ne_eqb page k o)) there)
]
