-- How many places have no node, counted from a first one on.
use Rattle.page_map.specs.Counts.{count_to, count_to-le}
use Rattle.std.proofs.Common.{◌≡◌, ℕ, zero, suc, ◌+◌, ◌<◌, ◌≤◌, Bool, true, false, cond, Option, refl, ap, ◌∙◌, sym, inl, inr, arith}
use Rattle.std.proofs.lemmas.Bool.{cases_lt, le-leb, lt-leb}
use Rattle.std.specs.Prelude.{Some, None, is_none, is_some, nat_le, not, ◌&&◌}
use Rattle.sv_table.specs.Room.{absent_from}
use Rattle.sv_table.specs.Walks.{Nodes, key_at}

pub count_none : (f : ℕ → Bool) (n : ℕ) → ((k : ℕ) → k < n → f k ≡ false) → count_to f n ≡ 0
unfolding count_to
count_none f zero h = refl
count_none f (suc n) h = let rest = count_none f n (λ k l. h k (omega arith)) in rw (h n (omega arith)) (omega arith)

pub count_one : (f : ℕ → Bool) (n : ℕ) → count_to f (n + 1) ≡ cond (f n) 1 0 + count_to f n
unfolding count_to
count_one f n = let same : n + 1 ≡ suc n = omega arith in rw same refl

module _ (node : Nodes) (first : ℕ) where
  pub absent_from-none : (end : ℕ) → end ≤ first → absent_from node first end ≡ 0
  absent_from-none end l = count_none (λ q. nat_le first q && is_none (key_at node q)) end (λ q m. ap (λ b. b && is_none (key_at node q)) (lt-leb first q (omega arith)))

  pub absent_from-more : (place : ℕ) → first ≤ place → absent_from node first (place + 1) ≡ cond (is_none (key_at node place)) 1 0 + absent_from node first place
  absent_from-more place l =
      count_one (λ q. nat_le first q && is_none (key_at node q)) place
      ∙ ap (λ b. cond (b && is_none (key_at node place)) 1 0 + absent_from node first place) (le-leb first place l)

  pub absent_from-few : (end : ℕ) → absent_from node first end ≤ end
  absent_from-few end = count_to-le (λ q. nat_le first q && is_none (key_at node q)) end

  -- one step of the count
  pub absent_step : (place n n2 : ℕ) (o : Option ℕ) (b : Bool) → first ≤ place → n ≡ absent_from node first place → o ≡ key_at node place → is_some o ≡ not b → n2 ≡ cond b (n + 1) n → n2 ≡ absent_from node first (place + 1)
  absent_step place n n2 o b l is found test next =
      next ∙ by_test b o test ∙ ap (λ q. cond (is_none q) 1 0 + n) found ∙ ap (λ m. cond (is_none (key_at node place)) 1 0 + m) is ∙ sym (absent_from-more place l)
    where
      by_test : (b : Bool) (o : Option ℕ) → is_some o ≡ not b → cond b (n + 1) n ≡ cond (is_none o) 1 0 + n
      by_test true None e = omega arith
      by_test true (Some k) e = absurd (cc)
      by_test false None e = absurd (cc)
      by_test false (Some k) e = omega arith

  pub absent_end : (place end n : ℕ) → n ≡ absent_from node first place → (end < first → place ≡ first) → first ≤ place → (first ≤ end → place ≤ end) → end ≤ place → n ≡ absent_from node first end
  absent_end place end n is early low high over = elim (cases_lt end first) [
    | inl less ↦ is ∙ ap (absent_from node first) (early less) ∙ absent_from-none first (omega arith) ∙ sym (absent_from-none end (omega arith))
    | inr more ↦ is ∙ ap (absent_from node first) (let h = high more in let e : place ≡ end = omega arith in e)
  ]
