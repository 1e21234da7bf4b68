-- A map whose values are seen in another form: its entries, and what is looked for among them.
use Rattle.mck_word.specs.EachLaws.{at-each}
use Rattle.mck_word.specs.Maps.{Map, each, entries, keys, some_row}
use Rattle.std.proofs.Common.{ap, refl, subst, sym, ◌∙◌}
use Rattle.std.specs.Cmp.{nat_cmp_total}
use Rattle.std.specs.FinMap as finmap
use Rattle.std.specs.FinMap.Entries as fin
use Rattle.std.specs.FinMap.{nat_cmp-IsAntisymmetric}
use Rattle.std.specs.List.{list_any}
use Rattle.std.specs.Ordering.{eq_by_cmp, is_lt, nat_cmp}
use Rattle.std.specs.Prelude.{Bool, List, Some, T, [], cond, false, find, map, option_map, true, ℕ, ◌&&◌, ◌||◌, ◌∷◌, ◌≡◌}

module _ {V W : Type 0} (f : V → W) where
  abbrev pub seen : List (ℕ × V) → List (ℕ × W)
  seen [] = []
  seen (e ∷ es) = (e.0, f e.1) ∷ seen es

  seen-below : (k : ℕ) (es : List (ℕ × V)) → fin.below_all nat_cmp k (seen es) ≡ fin.below_all nat_cmp k es
  seen-below k [] = refl
  seen-below k (e ∷ es) = ap (λ b. is_lt (nat_cmp k e.0) && b) (seen-below k es)

  seen-sorted : (es : List (ℕ × V)) → fin.is_sorted nat_cmp (seen es) ≡ fin.is_sorted nat_cmp es
  seen-sorted [] = refl
  seen-sorted (e ∷ es) = λ i. seen-below e.0 es i && seen-sorted es i

  seen-find : (q : ℕ) (es : List (ℕ × V)) → fin.find nat_cmp q (seen es) ≡ option_map f (fin.find nat_cmp q es)
  seen-find q [] = refl
  seen-find q (e ∷ es) =
      elim (eq_by_cmp nat_cmp q e.0) as (λ b. cond b (Some (f e.1)) (fin.find nat_cmp q (seen es)) ≡ option_map f (cond b (Some e.1) (fin.find nat_cmp q es))) [ true ↦ refl | false ↦ seen-find q es ]

  -- the entries of the map in the other form
  pub entries-each : (m : Map V) → entries (each f m) ≡ seen (entries m)
  entries-each m = fin.same_entries nat_cmp nat_cmp_total nat_cmp-IsAntisymmetric (entries (each f m)) (seen (entries m)) (finmap.entries_sorted (each f m))
      (subst T (sym (seen-sorted (entries m))) (finmap.entries_sorted m))
      (λ q. sym (finmap.get-entries (each f m) q) ∙ at-each f m q ∙ ap (option_map f) (finmap.get-entries m q) ∙ sym (seen-find q (entries m)))

  seen-keys : (es : List (ℕ × V)) → map (λ (e : ℕ × W). e.0) (seen es) ≡ map (λ (e : ℕ × V). e.0) es
  seen-keys [] = refl
  seen-keys (e ∷ es) = ap (λ (ks : List ℕ). e.0 ∷ ks) (seen-keys es)

  pub keys-each : (m : Map V) → keys (each f m) ≡ keys m
  keys-each m = ap (map (λ (e : ℕ × W). e.0)) (entries-each m) ∙ seen-keys (entries m)

  -- a test of the other form finds the same row
  module _ (test : ℕ → W → Bool) where
    seen-first : (es : List (ℕ × V)) → option_map (λ (e : ℕ × V). e.0) (find (λ e. test e.0 (f e.1)) es) ≡ option_map (λ (e : ℕ × W). e.0) (find (λ e. test e.0 e.1) (seen es))
    seen-first [] = refl
    seen-first (e ∷ es) =
        elim (test e.0 (f e.1)) as (λ b. option_map (λ (x : ℕ × V). x.0) (cond b (Some e) (find (λ x. test x.0 (f x.1)) es)) ≡ option_map (λ (x : ℕ × W). x.0) (cond b (Some (e.0, f e.1)) (find (λ x. test x.0 x.1) (seen es))))
        [ true ↦ refl | false ↦ seen-first es ]

    pub first-each : (m : Map V) → option_map (λ (e : ℕ × V). e.0) (find (λ e. test e.0 (f e.1)) (entries m)) ≡ option_map (λ (e : ℕ × W). e.0) (find (λ e. test e.0 e.1) (entries (each f m)))
    first-each m = seen-first (entries m) ∙ ap (λ es. option_map (λ (e : ℕ × W). e.0) (find (λ e. test e.0 e.1) es)) (sym (entries-each m))

    seen-any : (es : List (ℕ × V)) → list_any (λ e. test e.0 (f e.1)) es ≡ list_any (λ e. test e.0 e.1) (seen es)
    seen-any [] = refl
    seen-any (e ∷ es) = ap (λ b. test e.0 (f e.1) || b) (seen-any es)

    pub some-each : (m : Map V) → some_row (λ k v. test k (f v)) m ≡ some_row test (each f m)
    some-each m = seen-any (entries m) ∙ ap (list_any (λ (e : ℕ × W). test e.0 e.1)) (sym (entries-each m))
