-- A row with a key above all others is the last one.
use Rattle.mck_word.specs.Maps.{Map, at, entries, keys, put}
use Rattle.std.proofs.Common.{ap, arith, refl, ◌∙◌}
use Rattle.std.proofs.lemmas.Bool.Decides.{nat_tests}
use Rattle.std.specs.Cmp.{nat_cmp_total, unsigned_tied}
use Rattle.std.specs.FinMap as finmap
use Rattle.std.specs.FinMap.Entries as fin
use Rattle.std.specs.Ordering.{eq_by_cmp, nat_cmp}
use Rattle.std.specs.Prelude.{Bool, List, Option, Some, [], cond, false, is_some, map, nat_lt, true, ℕ, ◌++◌, ◌<◌, ◌==◌, ◌∷◌, ◌≡◌}

module _ {V : Type 0} (n : ℕ) (v : V) where
  -- each key that is found is below n
  abbrev AreBelow : List (ℕ × V) → Type 0
  AreBelow es = (q : ℕ) → is_some (fin.find nat_cmp q es) ≡ true → q < n

  found-first : (e : ℕ × V) (es : List (ℕ × V)) → is_some (fin.find nat_cmp e.0 (e ∷ es)) ≡ true
  found-first e es =
      let same : (e.0 == e.0) ≡ true = grind (arith, nat_tests) in
      ap (λ b. is_some (cond b (Some e.1) (fin.find nat_cmp e.0 es))) (unsigned_tied e.0 e.0 ∙ same)

  found-later : (b : Bool) (e : V) (o : Option V) → is_some o ≡ true → is_some (cond b (Some e) o) ≡ true
  found-later true e o h = refl
  found-later false e o h = h

  put-last : (es : List (ℕ × V)) → AreBelow es → fin.put nat_cmp n v es ≡ es ++ (n, v) ∷ []
  put-last [] h = refl
  put-last (e ∷ es) h =
      let below = h e.0 (found-first e es) in
      let less : nat_lt n e.0 ≡ false = grind (arith, nat_tests, below) in
      let same : (n == e.0) ≡ false = grind (arith, nat_tests, below) in
      rw (less, same) (ap (λ (r : List (ℕ × V)). e ∷ r) (put-last es (λ q f. h q (found-later (eq_by_cmp nat_cmp q e.0) e.1 (fin.find nat_cmp q es) f))))

  mapped-last : (es : List (ℕ × V)) → map (λ (e : ℕ × V). e.0) (es ++ (n, v) ∷ []) ≡ map (λ (e : ℕ × V). e.0) es ++ n ∷ []
  mapped-last [] = refl
  mapped-last (e ∷ es) = ap (λ (ks : List ℕ). e.0 ∷ ks) (mapped-last es)

  pub keys-put : (m : Map V) → ((q : ℕ) → is_some (at m q) ≡ true → q < n) → keys (put m n v) ≡ keys m ++ n ∷ []
  keys-put m below =
      ap (map (λ (e : ℕ × V). e.0)) (finmap.entries-insert nat_cmp_total m n v ∙ put-last (entries m) (λ q f. below q (ap is_some (finmap.get-entries m q) ∙ f))) ∙ mapped-last (entries m)
