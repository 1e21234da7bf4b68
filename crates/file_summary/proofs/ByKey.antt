-- The rows of a map, by its keys.
use Rattle.mck_word.specs.Maps.{Map, at, entries, keys}
use Rattle.std.proofs.Common.{ap, arith, refl, sym, ◌∙◌}
use Rattle.std.proofs.lemmas.Bool.Decides.{nat_tests}
use Rattle.std.specs.Cmp.{unsigned_tied}
use Rattle.std.specs.FinMap as finmap
use Rattle.std.specs.FinMap.Entries as fin
use Rattle.std.specs.Ordering.{is_lt, nat_cmp}
use Rattle.std.specs.Prelude.{Bool, List, Option, Some, T, [], cond, false, map, true, unwrap_or, ℕ, ◌&&◌, ◌<◌, ◌==◌, ◌≡◌, ◌∷◌}

both : (a b : Bool) → (a && b) ≡ true → (a ≡ true) × (b ≡ true)
both true b e = (refl, e)
both false b e = absurd (grind (arith, e))

less : (k j : ℕ) → is_lt (nat_cmp k j) ≡ true → k < j
less k j e = grind (arith, nat_tests, e)

holds : (b : Bool) → T b → b ≡ true
holds true t = refl
holds false t = absurd t

module _ {V : Type 0} (d : V) where
  abbrev key_of : ℕ × V → ℕ
  key_of e = e.0

  abbrev row_at : List (ℕ × V) → ℕ → ℕ × V
  row_at es k = (k, unwrap_or (fin.find nat_cmp k es) d)

  -- a row in front whose key is less changes nothing
  skips : (x : ℕ × V) (all es : List (ℕ × V)) → fin.below_all nat_cmp x.0 es ≡ true → map (row_at (x ∷ all)) (map key_of es) ≡ map (row_at all) (map key_of es)
  skips x all [] h = refl
  skips x all (e ∷ es) h =
      let a = both (is_lt (nat_cmp x.0 e.0)) (fin.below_all nat_cmp x.0 es) h in
      let l = less x.0 e.0 a.0 in
      let other : (e.0 == x.0) ≡ false = grind (arith, nat_tests, l) in
      let first : row_at (x ∷ all) e.0 ≡ row_at all e.0 = ap (λ b. (e.0, unwrap_or (cond b (Some x.1) (fin.find nat_cmp e.0 all)) d)) (unsigned_tied e.0 x.0 ∙ other) in
      let rest = skips x all es a.1 in
      λ i. first i ∷ rest i

  sorted : (es : List (ℕ × V)) → fin.is_sorted nat_cmp es ≡ true → es ≡ map (row_at es) (map key_of es)
  sorted [] h = refl
  sorted (x ∷ es) h =
      let a = both (fin.below_all nat_cmp x.0 es) (fin.is_sorted nat_cmp es) h in
      let same : (x.0 == x.0) ≡ true = grind (arith, nat_tests) in
      let first : x ≡ row_at (x ∷ es) x.0 = sym (ap (λ b. (x.0, unwrap_or (cond b (Some x.1) (fin.find nat_cmp x.0 es)) d)) (unsigned_tied x.0 x.0 ∙ same)) in
      let rest = sorted es a.1 ∙ sym (skips x es es a.0) in
      λ i. first i ∷ rest i

  pub entries-by-key : (m : Map V) → entries m ≡ map (λ k. (k, unwrap_or (at m k) d)) (keys m)
  entries-by-key m = sorted (entries m) (holds (fin.is_sorted nat_cmp (entries m)) (finmap.entries_sorted m)) ∙ looked (keys m)
    where
      looked : (ks : List ℕ) → map (row_at (entries m)) ks ≡ map (λ k. (k, unwrap_or (at m k) d)) ks
      looked [] = refl
      looked (k ∷ ks) =
          let first : row_at (entries m) k ≡ (k, unwrap_or (at m k) d) = ap (λ (o : Option V). (k, unwrap_or o d)) (sym (finmap.get-entries m k)) in
          let rest = looked ks in
          λ i. first i ∷ rest i
