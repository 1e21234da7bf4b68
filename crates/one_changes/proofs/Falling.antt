-- A gap that is looked for from the top, from one present page down to the next.
use Rattle.isa_model.specs.Memory.{Memory}
use Rattle.mck_word.specs.Maps.{at}
use Rattle.one_changes.specs.Between.{gap_between}
use Rattle.one_memory.specs.Below.{IsLastBelow}
use Rattle.std.proofs.Common.{ap, arith, inl, inr, refl, subst, sym, ◌∙◌}
use Rattle.std.proofs.lemmas.Bool.Decides.{nat_tests}
use Rattle.std.proofs.lemmas.Bool.{cases_lt}
use Rattle.std.specs.Prelude.{Bool, None, Option, Some, cond, false, is_some, nat_le, true, ℕ, ◌+◌, ◌-◌, ◌<◌, ◌≡◌, ◌≤◌}
use Rattle.vm_areas.specs.Gaps.{IsGap, IsHighestGap}

abbrev pub covered : Memory → ℕ → Bool
covered m k = is_some (at m k)

-- no gap ends above
abbrev pub Most : Memory → ℕ → ℕ → Type 0
Most m n end = (low : ℕ) → IsGap (covered m) n low → low + n ≤ end

pub from-top : (m : Memory) (n : ℕ) → Most m n 0x3f00000
from-top m n low g = g.to

module _ (m : Memory) (n : ℕ) where
  -- a page that is present, below which a gap is looked for next
  pub falls : (end page : ℕ) → IsLastBelow m end page → is_some (gap_between (page + 1) end n) ≡ false → Most m n end → Most m n page
  falls end page last short most low g = elim (cases_lt page (low + n)) [
    | inr l ↦ l
    | inl above ↦ elim (cases_lt page low) [
      | inr inside ↦ absurd (let t = sym last.there ∙ g.free page inside above in grind (arith, t))
      | inl over ↦ absurd (let b = most low g in let wide : n ≤ end - (page + 1) = omega (arith, b, over) in no-gap (nat_le n (end - (page + 1))) (grind (arith, nat_tests, wide)) short)
    ]
  ]
    where
      no-gap : (b : Bool) → b ≡ true → is_some (cond b (Some (end - n)) None) ≡ false → ⊥
      no-gap true e f = grind (arith, f)
      no-gap false e f = grind (arith, e)

  -- the gap between, if there is one, is the highest; if there is none and the least page was reached there is none at all
  pub is-highest : (low end : ℕ) (o : Option ℕ) → 0x10 ≤ low → low ≤ end → end ≤ 0x3f00000 → o ≡ gap_between low end n → ((k : ℕ) → low ≤ k → k < end → at m k ≡ None)
      → (is_some o ≡ false → low ≡ 0x10) → Most m n end → IsHighestGap (covered m) n o
  is-highest low end o from order to is none bottom most = subst (IsHighestGap (covered m) n) (sym is) (go (nat_le n (end - low)) refl)
    where
      go : (b : Bool) → nat_le n (end - low) ≡ b → IsHighestGap (covered m) n (cond b (Some (end - n)) None)
      go true e =
          let wide : n ≤ end - low = grind (arith, nat_tests, e) in (
            record {
              from = omega (arith, wide, from, order);
              to = omega (arith, wide, to);
              free = λ p a b. ap is_some (none p (omega (arith, a, wide, order)) (omega (arith, b, wide)));
            },
            λ l g. let b = most l g in omega (arith, b),
          )
      go false e = λ l g.
          let b = most l g in
          let f = g.from in
          let least = bottom (ap is_some is ∙ ap (λ (t : Bool). is_some (cond t (Some (end - n)) None)) e) in
          let wide : n ≤ end - low = omega (arith, b, f, least) in
          let t : nat_le n (end - low) ≡ true = grind (arith, nat_tests, wide) in
          grind (arith, t, e)
