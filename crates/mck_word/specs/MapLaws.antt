-- What the words on maps answer.
-- Source: this project's own (laws, for proofs).
use Rattle.std.specs.Prelude.{◌≡◌, ℕ, Bool, true, false, cond, List, [], ◌∷◌, Option, Some, None, ◌==◌, refl}
use Rattle.std.proofs.Common.{sym, ap, ◌∙◌}
use Rattle.std.specs.Ordering.{nat_cmp}
use Rattle.std.specs.Cmp.{nat_cmp_total, unsigned_tied}
use Rattle.std.specs.FinMap as finmap
use Rattle.std.specs.FinMap.{nat_cmp-IsAntisymmetric, find}
use Rattle.std.proofs.lemmas.Bool.Decides.{nat_tests}
use Rattle.std.proofs.Common.{arith}
use Rattle.mck_word.specs.Maps.{Map, at, put, cut, keep, no_rows, collect, collect_entries, set_or_cut, and_then}

module _ {V : Type 0} where
  pub at-put : (m : Map V) (k : ℕ) (v : V) (q : ℕ) → at (put m k v) q ≡ cond (q == k) (Some v) (at m q)
  at-put m k v q = finmap.get-insert nat_cmp_total m k v q ∙ ap (λ b. cond b (Some v) (at m q)) (unsigned_tied q k)

  pub at-cut : (m : Map V) (k q : ℕ) → at (cut m k) q ≡ cond (q == k) None (at m q)
  at-cut m k q = finmap.get-remove nat_cmp_total m k q ∙ ap (λ b. cond b None (at m q)) (unsigned_tied q k)

  pub at-keep : (m : Map V) (test : ℕ → Bool) (q : ℕ) → at (keep m test) q ≡ cond (test q) (at m q) None
  at-keep m test q = finmap.get-retain_keys m test q (λ x e. ap test (sym (nat_cmp-IsAntisymmetric q x e)))

  pub at-none : (q : ℕ) → at (no_rows {V = V}) q ≡ None
  at-none q = finmap.get-empty nat_cmp q

  pub at-set_or_cut : (m : Map V) (k : ℕ) (o : Option V) (q : ℕ) → at (set_or_cut m k o) q ≡ cond (q == k) o (at m q)
  at-set_or_cut m k None q = at-cut m k q
  at-set_or_cut m k (Some v) q = at-put m k v q

  pub same_rows : (m n : Map V) → ((q : ℕ) → at m q ≡ at n q) → m ≡ n
  same_rows m n h = finmap.same_map nat_cmp_total nat_cmp-IsAntisymmetric m n h

module _ {V W : Type 0} where
  pub at-collect_entries : (f : ℕ → V → Option W) (es : List (ℕ × V)) (q : ℕ) → at (collect_entries f es) q ≡ and_then (find nat_cmp q es) (f q)
  unfolding collect_entries
  at-collect_entries f [] q = finmap.get-empty nat_cmp q
  at-collect_entries f (e ∷ es) q =
      at-set_or_cut (collect_entries f es) e.0 (f e.0 e.1) q
      ∙ by_key (q == e.0) refl (at-collect_entries f es q)
      ∙ ap (λ b. and_then (cond b (Some e.1) (find nat_cmp q es)) (f q)) (sym (unsigned_tied q e.0))
    where
      by_key : (b : Bool) → (q == e.0) ≡ b → at (collect_entries f es) q ≡ and_then (find nat_cmp q es) (f q)
          → cond b (f e.0 e.1) (at (collect_entries f es) q) ≡ and_then (cond b (Some e.1) (find nat_cmp q es)) (f q)
      by_key true h k = let same : q ≡ e.0 = grind (arith, nat_tests, h) in ap (λ x. f x e.1) (sym same)
      by_key false h k = k

  pub at-collect : (f : ℕ → V → Option W) (m : Map V) (q : ℕ) → at (collect f m) q ≡ and_then (at m q) (f q)
  unfolding collect
  at-collect f m q = at-collect_entries f (finmap.entries m) q ∙ ap (λ o. and_then o (f q)) (sym (finmap.get-entries m q))

pub ruleset maps = (at-put, at-cut, at-keep, at-none, at-set_or_cut, at-collect)
