-- What a pass over the threads makes of them.
use Rattle.key_rows.specs.Table.{key_from}
use Rattle.kernel_model.specs.declared.Does.{Does}
use Rattle.kernel_tables.specs.Passes.{IsPassed, passed}
use Rattle.lwk_threads.specs.Threads.{Spared}
use Rattle.lwk_threads.specs.declared.Thread.{Thread}
use Rattle.mck_word.specs.MapLaws.{at-collect, at-put, at-set_or_cut, same_rows}
use Rattle.mck_word.specs.Maps.{Map, and_then, at, collect, put}
use Rattle.page_map.specs.NextLaws.{IsNext, next-none, next-some}
use Rattle.std.proofs.Common.{ap, arith, inl, inr, refl, sym, ◌∙◌}
use Rattle.std.proofs.lemmas.Bool.Decides.{nat_tests}
use Rattle.std.proofs.lemmas.Bool.{cases_lt}
use Rattle.std.specs.Prelude.{Bool, None, Option, Some, cond, false, nat_lt, true, ℕ, ◌+◌, ◌<◌, ◌==◌, ◌≡◌, ◌≤◌}

pub put_same : {V : Type 0} (m : Map V) (k : ℕ) (x : V) → at m k ≡ Some x → put m k x ≡ m
put_same m k x e = same_rows (put m k x) m (λ q. at-put m k x q ∙ row q (q == k) refl)
  where
    row : (q : ℕ) (b : Bool) → (q == k) ≡ b → cond b (Some x) (at m q) ≡ at m q
    row q true h = let same : q ≡ k = grind (arith, nat_tests, h) in sym (ap (at m) same ∙ e)
    row q false h = refl

module _ (h : Thread Does → Option (Thread Does)) (old : Spared Does) where
  pub none_passed : IsPassed h old old 0
  none_passed = record { rows = λ q. (let e : nat_lt q 0 ≡ false = grind (arith, nat_tests) in ap (λ b. cond b (and_then (at old.threads.rows q) h) (at old.threads.rows q)) (sym e)); next = refl; room = omega arith }

  module _ (now : Spared Does) (from t : ℕ) (is : IsPassed h old now from) where
    below : (q : ℕ) → q < from → at now.threads.rows q ≡ and_then (at old.threads.rows q) h
    below q l = let e : nat_lt q from ≡ true = grind (arith, nat_tests, l) in is.rows q ∙ ap (λ b. cond b (and_then (at old.threads.rows q) h) (at old.threads.rows q)) e

    above : (q : ℕ) → from ≤ q → at now.threads.rows q ≡ at old.threads.rows q
    above q l = let e : nat_lt q from ≡ false = grind (arith, nat_tests, l) in is.rows q ∙ ap (λ b. cond b (and_then (at old.threads.rows q) h) (at old.threads.rows q)) e

    -- the pass is over
    pub all_passed : key_from now.threads.rows from ≡ None → now.threads.rows ≡ collect (λ (k : ℕ) (x : Thread Does). h x) old.threads.rows
    all_passed none = same_rows _ _ (λ q. row q ∙ sym (at-collect (λ (k : ℕ) (x : Thread Does). h x) old.threads.rows q))
      where
        row : (q : ℕ) → at now.threads.rows q ≡ and_then (at old.threads.rows q) h
        row q = elim (cases_lt q from) [
          | inl l ↦ below q l
          | inr u ↦
              let here = next-none now.threads.rows from none q u in
              here ∙ ap (λ o. and_then o h) (sym (sym (above q u) ∙ here))
        ]

    -- one row more
    pub one_passed : (later : Spared Does) → key_from now.threads.rows from ≡ Some t → later.threads ≡ record now.threads { rows = passed h now.threads.rows t } → now.spare ≤ later.spare → IsPassed h old later (t + 1)
    one_passed later found e room = record {
      rows = λ q. ap (λ (m : Map (Thread Does)). at m q) (ap (λ s. s.rows) e) ∙ at-set_or_cut now.threads.rows t (and_then (at now.threads.rows t) h) q ∙ row q (q == t) refl;
      next = ap (λ s. s.next) e ∙ is.next;
      room = let r = is.room in omega arith;
    }
      where
        least : IsNext now.threads.rows from t
        least = next-some now.threads.rows from t found

        at_t : at now.threads.rows t ≡ at old.threads.rows t
        at_t = above t least.low

        up_to : (q : ℕ) → q < t + 1 → and_then (at old.threads.rows q) h ≡ cond (nat_lt q (t + 1)) (and_then (at old.threads.rows q) h) (at old.threads.rows q)
        up_to q l = let e : nat_lt q (t + 1) ≡ true = grind (arith, nat_tests, l) in ap (λ b. cond b (and_then (at old.threads.rows q) h) (at old.threads.rows q)) (sym e)

        past : (q : ℕ) → t + 1 ≤ q → at old.threads.rows q ≡ cond (nat_lt q (t + 1)) (and_then (at old.threads.rows q) h) (at old.threads.rows q)
        past q l = let e : nat_lt q (t + 1) ≡ false = grind (arith, nat_tests, l) in ap (λ b. cond b (and_then (at old.threads.rows q) h) (at old.threads.rows q)) (sym e)

        row : (q : ℕ) (b : Bool) → (q == t) ≡ b → cond b (and_then (at now.threads.rows t) h) (at now.threads.rows q) ≡ cond (nat_lt q (t + 1)) (and_then (at old.threads.rows q) h) (at old.threads.rows q)
        row q true eq =
            let same : q ≡ t = grind (arith, nat_tests, eq) in
            ap (λ o. and_then o h) (at_t ∙ ap (at old.threads.rows) (sym same)) ∙ up_to q (omega (arith, same))
        row q false eq =
            let apart : q ≡ t → ⊥ = λ s. (grind (arith, nat_tests, eq, s)) in
            elim (cases_lt q from) [
              | inl l ↦ below q l ∙ up_to q (let low = least.low in omega arith)
              | inr u ↦ elim (cases_lt q t) [
                | inl l ↦
                    let here = least.least q u l in
                    here ∙ ap (λ o. and_then o h) (sym (sym (above q u) ∙ here)) ∙ up_to q (omega arith)
                | inr v ↦ above q u ∙ past q (omega (arith, apart))
              ]
            ]
