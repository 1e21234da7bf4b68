-- Runs over a node and a memory, one after another.
use Rattle.hybrid_model.specs.Run.{length_of_run, run_for}
use Rattle.kernel_model.specs.Nodes.{ready_to_run, thread_of}
use Rattle.kernel_model.specs.Traps.{Ran, executed}
use Rattle.std.proofs.Common.{ap, arith, refl, sym, ◌∙◌}
use Rattle.std.specs.Prelude.{Bool, cond, false, suc, true, zero, ℕ, ◌+◌, ◌≡◌, ◌≤◌}

module _ (t : ℕ) where
  abbrev pub ready_in : Ran → Bool
  ready_in v = ready_to_run (thread_of v.node t).does

  -- from where the first leaves the thread ready
  pub run-joins : (n k : ℕ) (v : Ran) → ready_in (run_for n t v) ≡ true → run_for (n + k) t v ≡ run_for k t (run_for n t v)
  run-joins zero k v r = let e : zero + k ≡ k = omega arith in ap (λ m. run_for m t v) e
  run-joins (suc n) k v r = (let e : suc n + k ≡ suc (n + k) = omega arith in ap (λ m. run_for m t v) e) ∙ go (ready_in w) refl (run-joins n k w) r
    where
      w : Ran
      w = executed t v

      go : (b : Bool) → ready_in w ≡ b → (ready_in (run_for n t w) ≡ true → run_for (n + k) t w ≡ run_for k t (run_for n t w))
          → ready_in (cond b (run_for n t w) w) ≡ true → cond b (run_for (n + k) t w) w ≡ run_for k t (cond b (run_for n t w) w)
      go true e f r = f r
      go false e f r = absurd (grind (arith, e, r))

  pub length-joins : (n k : ℕ) (v : Ran) → ready_in (run_for n t v) ≡ true → length_of_run (n + k) t v ≡ n + length_of_run k t (run_for n t v)
  length-joins zero k v r = let e : zero + k ≡ k = omega arith in let f : length_of_run k t v ≡ zero + length_of_run k t v = omega arith in ap (λ m. length_of_run m t v) e ∙ f
  length-joins (suc n) k v r = (let e : suc n + k ≡ suc (n + k) = omega arith in ap (λ m. length_of_run m t v) e) ∙ go (ready_in w) refl (length-joins n k w) r
    where
      w : Ran
      w = executed t v

      go : (b : Bool) → ready_in w ≡ b → (ready_in (run_for n t w) ≡ true → length_of_run (n + k) t w ≡ n + length_of_run k t (run_for n t w))
          → ready_in (cond b (run_for n t w) w) ≡ true → suc (cond b (length_of_run (n + k) t w) zero) ≡ suc n + length_of_run k t (cond b (run_for n t w) w)
      go true e f r = let g = f r in omega (arith, g)
      go false e f r = absurd (grind (arith, e, r))

  -- a run that stops is all that a longer one does
  pub run-stops : (n k : ℕ) (v : Ran) → ready_in v ≡ true → ready_in (run_for n t v) ≡ false → run_for (n + k) t v ≡ run_for n t v
  run-stops zero k v b r = absurd (grind (arith, b, r))
  run-stops (suc n) k v b r = (let e : suc n + k ≡ suc (n + k) = omega arith in ap (λ m. run_for m t v) e) ∙ go (ready_in w) refl (run-stops n k w) r
    where
      w : Ran
      w = executed t v

      go : (b : Bool) → ready_in w ≡ b → (ready_in w ≡ true → ready_in (run_for n t w) ≡ false → run_for (n + k) t w ≡ run_for n t w)
          → ready_in (cond b (run_for n t w) w) ≡ false → cond b (run_for (n + k) t w) w ≡ cond b (run_for n t w) w
      go true e f r = f e r
      go false e f r = refl

  pub length-stops : (n k : ℕ) (v : Ran) → ready_in v ≡ true → ready_in (run_for n t v) ≡ false → length_of_run (n + k) t v ≡ length_of_run n t v
  length-stops zero k v b r = absurd (grind (arith, b, r))
  length-stops (suc n) k v b r = (let e : suc n + k ≡ suc (n + k) = omega arith in ap (λ m. length_of_run m t v) e) ∙ go (ready_in w) refl (length-stops n k w) r
    where
      w : Ran
      w = executed t v

      go : (b : Bool) → ready_in w ≡ b → (ready_in w ≡ true → ready_in (run_for n t w) ≡ false → length_of_run (n + k) t w ≡ length_of_run n t w)
          → ready_in (cond b (run_for n t w) w) ≡ false → suc (cond b (length_of_run (n + k) t w) zero) ≡ suc (cond b (length_of_run n t w) zero)
      go true e f r = ap suc (f e r)
      go false e f r = refl

  -- how many it executes
  pub length-most : (n : ℕ) (v : Ran) → length_of_run n t v ≤ n
  length-most zero v = omega arith
  length-most (suc n) v = go (ready_in w) (length-most n w)
    where
      w : Ran
      w = executed t v

      go : (b : Bool) → length_of_run n t w ≤ n → suc (cond b (length_of_run n t w) zero) ≤ suc n
      go true l = omega (arith, l)
      go false l = omega arith

  pub length-some : (n : ℕ) (v : Ran) → 1 ≤ n → 1 ≤ length_of_run n t v
  length-some zero v l = absurd (omega (arith, l))
  length-some (suc n) v l = omega arith

  pub length-whole : (n : ℕ) (v : Ran) → ready_in (run_for n t v) ≡ true → length_of_run n t v ≡ n
  length-whole n v r = (let e : n + zero ≡ n = omega arith in sym (ap (λ m. length_of_run m t v) e)) ∙ length-joins n zero v r ∙ omega arith
