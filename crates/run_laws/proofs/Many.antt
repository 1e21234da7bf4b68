-- Many Runs of a thread, one after another.
use Rattle.hybrid_model.specs.declared.events.Event.TheVariants as Events
use Rattle.hybrid_laws.proofs.run.Whole.{coherent_run}
use Rattle.hybrid_model.specs.Events.{after, may}
use Rattle.hybrid_model.specs.Globals.{Coherent}
use Rattle.hybrid_model.specs.Journals.{may_all, state}
use Rattle.hybrid_model.specs.Pairs.{Pair}
use Rattle.hybrid_model.specs.Run.{left_of_limit}
use Rattle.mck_word.specs.declared.Tid.{Tid}
use Rattle.run_laws.proofs.Whole.{executes-most, executes-some, left-later, length-length, length-stopped, may-later, may-of, run-run, run-stopped}
use Rattle.run_laws.specs.Runs.{AreCounts, AreOne, begun, is_ready, run_length, runs_of, total}
use Rattle.std.proofs.Common.{ap, arith, refl, subst, sym, ◌∙◌}
use Rattle.std.proofs.lemmas.Bool.Decides.{nat_tests}
use Rattle.std.specs.Prelude.{Bool, List, [], false, length, nat_le, replicate, suc, true, zero, ℕ, ◌&&◌, ◌*◌, ◌+◌, ◌<◌, ◌∷◌, ◌≡◌, ◌≤◌}

and-true : (a b : Bool) → a ≡ true → b ≡ true → (a && b) ≡ true
and-true a b e f = rw (e, f) refl

tests-true : (n k l : ℕ) → 1 ≤ k → k ≤ 64 → n + k ≤ l → (nat_le 1 k && nat_le k 64 && nat_le (n + k) l) ≡ true
tests-true n k l a b c = and-true (nat_le 1 k && nat_le k 64) (nat_le (n + k) l) (and-true (nat_le 1 k) (nat_le k 64) (grind (arith, nat_tests, a)) (grind (arith, nat_tests, b))) (grind (arith, nat_tests, c))

begun-one : (e : ℕ) → 1 ≤ e → e ≤ 64 → begun e ≡ 1
begun-one e a b = omega (arith, a, b)

begun-more : (e : ℕ) → begun (64 + e) ≡ suc (begun e)
begun-more e = omega arith

module _ (core : ℕ) (t : Tid) where
  -- the run of c quanta is m Runs
  record Many (pair : Pair) (c m : ℕ) : Type 0 where
    legal : may_all pair (replicate m (Events.Run core t 64)) ≡ true
    leads : state pair (replicate m (Events.Run core t 64)) ≡ after pair (Events.Run core t (64 * c))
    some : 1 ≤ m
    few : m ≤ c
    whole : m < c → is_ready (after pair (Events.Run core t (64 * c))) t ≡ false
    counts : begun (run_length pair t (64 * c)) ≡ m

  -- one that stops, or that is all
  module _ (pair : Pair) (c : ℕ) (m : may pair (Events.Run core t 64) ≡ true) (coherent : Coherent pair) where
    one-run : after pair (Events.Run core t (64 * c)) ≡ after pair (Events.Run core t 64) → run_length pair t (64 * c) ≡ run_length pair t 64 → 1 ≤ c
        → (1 < c → is_ready (after pair (Events.Run core t 64)) t ≡ false) → Many pair c 1
    one-run same counts some stopped = record {
      legal = rw m refl;
      leads = sym same;
      some = omega arith;
      few = some;
      whole = λ l. ap (λ x. is_ready x t) same ∙ stopped l;
      counts = ap begun counts ∙ begun-one (run_length pair t 64) (executes-some pair coherent core t 64 m) (executes-most pair coherent core t 64 m);
    }

    -- the next ones, where the thread is ready after it
    module _ (ready : is_ready (after pair (Events.Run core t 64)) t ≡ true) where
      next-may : 128 ≤ left_of_limit pair.node → may (after pair (Events.Run core t 64)) (Events.Run core t 64) ≡ true
      next-may l = may-later pair coherent core t 64 m ready 64 ∙ tests-true 64 64 (left_of_limit pair.node) (omega arith) (omega arith) l

      one-more : (k : ℕ) → Many (after pair (Events.Run core t 64)) c k → Many pair (suc c) (suc k)
      one-more k x =
          let e : 64 + 64 * c ≡ 64 * suc c = omega arith in
          let r = run-run pair coherent core t 64 m ready (64 * c) ∙ ap (λ n. after pair (Events.Run core t n)) e in
          let l = sym (ap (run_length pair t) e) ∙ length-length pair coherent core t 64 m ready (64 * c) in
          let f = x.few in
          let w = x.whole in
          record {
            legal = and-true (may pair (Events.Run core t 64)) (may_all (after pair (Events.Run core t 64)) (replicate k (Events.Run core t 64))) m x.legal;
            leads = x.leads ∙ r;
            some = omega arith;
            few = omega (arith, f);
            whole = λ b. ap (λ y. is_ready y t) (sym r) ∙ w (omega (arith, b));
            counts = ap begun l ∙ begun-more (run_length (after pair (Events.Run core t 64)) t (64 * c)) ∙ ap suc x.counts;
          }

  many-runs : (c : ℕ) (pair : Pair) → Coherent pair → may pair (Events.Run core t 64) ≡ true → 64 * suc c ≤ left_of_limit pair.node → (m : ℕ) × Many pair (suc c) m
  many-runs zero pair coherent m l =
      let e : 64 * suc zero ≡ 64 = omega arith in
      (1, one-run pair (suc zero) m coherent (ap (λ n. after pair (Events.Run core t n)) e) (ap (run_length pair t) e) (omega arith) (λ b. absurd (omega (arith, b))))
  many-runs (suc c) pair coherent m l = go (is_ready later t) refl (many-runs c later)
    where
      later : Pair
      later = after pair (Events.Run core t 64)

      go : (b : Bool) → is_ready later t ≡ b
          → (Coherent later → may later (Events.Run core t 64) ≡ true → 64 * suc c ≤ left_of_limit later.node → (m : ℕ) × Many later (suc c) m)
          → (m : ℕ) × Many pair (suc (suc c)) m
      go true r rest =
          let left = left-later pair coherent core t 64 m r in
          let x = rest (coherent_run pair coherent core 64 t m) (next-may pair (suc c) m coherent r (omega (arith, l))) (omega (arith, left, l)) in
          (suc x.0, one-more pair (suc c) m coherent r x.0 x.1)
      go false r rest =
          let e : 64 * suc (suc c) ≡ 64 + 64 * suc c = omega arith in (
            1,
            one-run pair (suc (suc c)) m coherent (ap (λ n. after pair (Events.Run core t n)) e ∙ run-stopped pair coherent core t 64 m r (64 * suc c))
                (ap (run_length pair t) e ∙ length-stopped pair coherent core t 64 m r (64 * suc c)) (omega arith) (λ _. r),
          )

  pub are-one : (c : ℕ) (pair : Pair) → Coherent pair → may pair (Events.Run core t 64) ≡ true → 1 ≤ c → 64 * c ≤ left_of_limit pair.node → AreOne pair core t c
  are-one zero pair coherent m s l = absurd (omega (arith, s))
  are-one (suc c) pair coherent m s l =
      let x = many-runs c pair coherent m l in
      let y = x.1 in
      let e = sym y.counts in
      record {
        legal = ap (λ k. may_all pair (replicate k (Events.Run core t 64))) (sym e) ∙ y.legal;
        leads = ap (λ k. state pair (replicate k (Events.Run core t 64))) (sym e) ∙ y.leads;
        some = subst (λ k. 1 ≤ k) e y.some;
        few = subst (λ k. k ≤ suc c) e y.few;
        whole = subst (λ k. k < suc c → is_ready (after pair (Events.Run core t (64 * suc c))) t ≡ false) e y.whole;
      }

  -- ---- any counts
  pub parts-are-one : (counts : List ℕ) (n : ℕ) (pair : Pair) → Coherent pair → may pair (Events.Run core t n) ≡ true → AreCounts counts → n + total counts ≤ left_of_limit pair.node
      → run_length pair t (n + total counts) ≡ n + total counts
      → (may_all pair (runs_of core t (n ∷ counts)) ≡ true) × (state pair (runs_of core t (n ∷ counts)) ≡ after pair (Events.Run core t (n + total counts)))
  parts-are-one [] n pair coherent m are l whole = (rw m refl, (let e : n ≡ n + zero = omega arith in ap (λ k. after pair (Events.Run core t k)) e))
  parts-are-one (k ∷ ks) n pair coherent m are l whole = go (is_ready later t) refl (parts-are-one ks k later)
    where
      later : Pair
      later = after pair (Events.Run core t n)

      go : (b : Bool) → is_ready later t ≡ b
          → (Coherent later → may later (Events.Run core t k) ≡ true → AreCounts ks → k + total ks ≤ left_of_limit later.node → run_length later t (k + total ks) ≡ k + total ks
          → (may_all later (runs_of core t (k ∷ ks)) ≡ true) × (state later (runs_of core t (k ∷ ks)) ≡ after later (Events.Run core t (k + total ks))))
          → (may_all pair (runs_of core t (n ∷ k ∷ ks)) ≡ true) × (state pair (runs_of core t (n ∷ k ∷ ks)) ≡ after pair (Events.Run core t (n + (k + total ks))))
      go true r rest =
          let left = left-later pair coherent core t n m r in
          let a = are.0 in
          let b = are.1 in
          let may-next = may-later pair coherent core t n m r k ∙ tests-true n k (left_of_limit pair.node) a b (omega (arith, l)) in
          let lengths = length-length pair coherent core t n m r (k + total ks) in
          let w = whole in
          let x = rest (coherent_run pair coherent core n t m) may-next are.2 (omega (arith, left, l)) (omega (arith, lengths, w)) in
          (and-true (may pair (Events.Run core t n)) (may_all later (runs_of core t (k ∷ ks))) m x.0, x.1 ∙ run-run pair coherent core t n m r (k + total ks))
      go false r rest =
          let a : 1 ≤ k = are.0 in
          let s = length-stopped pair coherent core t n m r (k + total ks) in
          let most = executes-most pair coherent core t n m in
          let w : run_length pair t (n + (k + total ks)) ≡ n + (k + total ks) = whole in
          absurd (omega (arith, a, s, most, w))

  pub counts-are-one : (counts : List ℕ) (pair : Pair) → Coherent pair → may pair (Events.Run core t 1) ≡ true → 1 ≤ length counts → AreCounts counts → total counts ≤ left_of_limit pair.node
      → run_length pair t (total counts) ≡ total counts
      → (may_all pair (runs_of core t counts) ≡ true) × (state pair (runs_of core t counts) ≡ after pair (Events.Run core t (total counts)))
  counts-are-one [] pair coherent m some are l whole = absurd (omega (arith, some))
  counts-are-one (n ∷ ns) pair coherent m some are l whole =
      let a = are.0 in
      let b = are.1 in
      parts-are-one ns n pair coherent (may-of pair core t m n a b (omega (arith, l))) are.2 l whole
