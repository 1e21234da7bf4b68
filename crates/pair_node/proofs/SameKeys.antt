-- Two maps that have the same keys list them alike.
use Rattle.mck_word.specs.Maps.{Map, at, entries, keys}
use Rattle.std.proofs.Common.{ap, refl, subst, sym, ◌∙◌}
use Rattle.std.specs.Cmp.{nat_cmp_total}
use Rattle.std.specs.FinMap as finmap
use Rattle.std.specs.FinMap.Entries as fin
use Rattle.std.specs.FinMap.{nat_cmp-IsAntisymmetric}
use Rattle.std.specs.Ordering.{eq_by_cmp, is_lt, nat_cmp}
use Rattle.std.specs.Prelude.{Bool, List, None, Some, T, [], cond, false, is_some, map, true, ℕ, ◌&&◌, ◌∷◌, ◌≡◌}

module _ {V : Type 0} where
  -- the keys alone
  abbrev marked : List (ℕ × V) → List (ℕ × Bool)
  marked [] = []
  marked (e ∷ es) = (e.0, true) ∷ marked es

  marked-keys : (es : List (ℕ × V)) → map (λ (e : ℕ × Bool). e.0) (marked es) ≡ map (λ (e : ℕ × V). e.0) es
  marked-keys [] = refl
  marked-keys (e ∷ es) = ap (λ (ks : List ℕ). e.0 ∷ ks) (marked-keys es)

  marked-below : (k : ℕ) (es : List (ℕ × V)) → fin.below_all nat_cmp k (marked es) ≡ fin.below_all nat_cmp k es
  marked-below k [] = refl
  marked-below k (e ∷ es) = ap (λ b. is_lt (nat_cmp k e.0) && b) (marked-below k es)

  marked-sorted : (es : List (ℕ × V)) → fin.is_sorted nat_cmp (marked es) ≡ fin.is_sorted nat_cmp es
  marked-sorted [] = refl
  marked-sorted (e ∷ es) = λ i. marked-below e.0 es i && marked-sorted es i

  marked-find : (q : ℕ) (es : List (ℕ × V)) → fin.find nat_cmp q (marked es) ≡ cond (is_some (fin.find nat_cmp q es)) (Some true) None
  marked-find q [] = refl
  marked-find q (e ∷ es) =
      elim (eq_by_cmp nat_cmp q e.0) as (λ b. cond b (Some true) (fin.find nat_cmp q (marked es)) ≡ cond (is_some (cond b (Some e.1) (fin.find nat_cmp q es))) (Some true) None) [ true ↦ refl | false ↦ marked-find q es ]

  marked-at : (m : Map V) (q : ℕ) → fin.find nat_cmp q (marked (entries m)) ≡ cond (is_some (at m q)) (Some true) None
  marked-at m q = marked-find q (entries m) ∙ ap (λ o. cond (is_some o) (Some true) None) (sym (finmap.get-entries m q))

  marked-rises : (m : Map V) → T (fin.is_sorted nat_cmp (marked (entries m)))
  marked-rises m = subst T (sym (marked-sorted (entries m))) (finmap.entries_sorted m)

pub same-keys : {V W : Type 0} (m : Map V) (n : Map W) → ((k : ℕ) → is_some (at m k) ≡ is_some (at n k)) → keys m ≡ keys n
same-keys m n h =
    let same = fin.same_entries nat_cmp nat_cmp_total nat_cmp-IsAntisymmetric (marked (entries m)) (marked (entries n)) (marked-rises m) (marked-rises n)
    (λ q. marked-at m q ∙ ap (λ b. cond b (Some true) None) (h q) ∙ sym (marked-at n q)) in
    sym (marked-keys (entries m)) ∙ ap (map (λ (e : ℕ × Bool). e.0)) same ∙ marked-keys (entries n)
