-- What a search finds in the rising keys of a map (laws, for proofs).
use Rattle.key_rows.proofs.Placed.{below-of, tail-of}
use Rattle.mck_word.specs.Maps.{Map, at, entries, keys}
use Rattle.std.proofs.Common.{ap, arith, refl, subst, sym, ◌∙◌}
use Rattle.std.proofs.lemmas.Bool.Decides.{nat_tests}
use Rattle.std.specs.Cmp.{unsigned_tied}
use Rattle.std.specs.FinMap as finmap
use Rattle.std.specs.FinMap.Entries as fin
use Rattle.std.specs.Ordering.{eq_by_cmp, is_lt, nat_cmp}
use Rattle.std.specs.declared.cmp.Ordering.TheVariants.{Equal, Greater, Less}
use Rattle.std.specs.Prelude.{Bool, List, MatchOption, None, Option, Some, T, [], cond, false, find, is_some, map, nat_lt, true, ℕ, ◌&&◌, ◌<◌, ◌==◌, ◌∷◌, ◌≡◌}

module _ (is_there test : ℕ → Bool) where
  -- none that is there passes
  abbrev pub NonePass : Type 0
  NonePass = (k : ℕ) → is_there k ≡ true → test k ≡ false

  -- the number is the least of those that are there and pass
  pub record IsLeast (n : ℕ) : Type 0 where
    pub stands : is_there n ≡ true
    pub passes : test n ≡ true
    pub least : (k : ℕ) → k < n → is_there k ≡ true → test k ≡ false

  abbrev pub IsFirst : Option ℕ → Type 0
  IsFirst o = MatchOption o NonePass (λ n. IsLeast n)

  not-both : {A : Type 0} (b : Bool) → b ≡ true → b ≡ false → A
  not-both true h f = absurd (grind (arith, f))
  not-both false h f = absurd (grind (arith, h))

  -- there is one answer
  pub one-first : (o p : Option ℕ) → IsFirst o → IsFirst p → o ≡ p
  one-first None None a b = refl
  one-first None (Some n) a b = not-both (test n) b.passes (a n b.stands)
  one-first (Some n) None a b = not-both (test n) a.passes (b n a.stands)
  one-first (Some n) (Some k) a b = go (nat_lt n k) (nat_lt k n) refl refl
    where
      go : (x y : Bool) → nat_lt n k ≡ x → nat_lt k n ≡ y → Some n ≡ Some k
      go true y f g = not-both (test n) a.passes (b.least n (grind (arith, nat_tests, f)) a.stands)
      go false true f g = not-both (test k) b.passes (a.least k (grind (arith, nat_tests, g)) b.stands)
      go false false f g = let same : n ≡ k = grind (arith, nat_tests, f, g) in ap Some same

module _ {V : Type 0} (test : ℕ → Bool) where
  abbrev has : List (ℕ × V) → ℕ → Bool
  has es k = is_some (fin.find nat_cmp k es)

  has-first : (e : ℕ × V) (es : List (ℕ × V)) → has (e ∷ es) e.0 ≡ true
  has-first e es =
      let same : (e.0 == e.0) ≡ true = grind (arith, nat_tests) in
      ap (λ b. is_some (cond b (Some e.1) (fin.find nat_cmp e.0 es))) (unsigned_tied e.0 e.0 ∙ same)

  has-later : (b : Bool) (e : V) (o : Option V) → is_some o ≡ true → is_some (cond b (Some e) o) ≡ true
  has-later true e o h = refl
  has-later false e o h = h

  -- a number that is there is the first one or stands later
  one-of : (e : ℕ × V) (es : List (ℕ × V)) (P : ℕ → Type 0) (k : ℕ) → has (e ∷ es) k ≡ true → P e.0 → (has es k ≡ true → P k) → P k
  one-of e es P k h here later = go (k == e.0) refl (sym (ap (λ b. is_some (cond b (Some e.1) (fin.find nat_cmp k es))) (unsigned_tied k e.0)) ∙ h)
    where
      go : (b : Bool) → (k == e.0) ≡ b → is_some (cond b (Some e.1) (fin.find nat_cmp k es)) ≡ true → P k
      go true f h = let same : k ≡ e.0 = grind (arith, nat_tests, f) in subst P (sym same) here
      go false f h = later h

  -- those behind the first are above it
  behind : (n : ℕ) (es : List (ℕ × V)) → T (fin.below_all nat_cmp n es) → (k : ℕ) → has es k ≡ true → n < k
  behind n [] s k h = absurd (grind (arith, h))
  behind n (e ∷ es) s k h =
      let low : nat_lt n e.0 ≡ true = lower (nat_lt n e.0) (n == e.0) (fin.below_all nat_cmp n es) s in
      one-of e es (λ j. n < j) k h (grind (arith, nat_tests, low)) (λ later. behind n es (rest (is_lt (nat_cmp n e.0)) (fin.below_all nat_cmp n es) s) k later)
    where
      lower : (b q r : Bool) → T (is_lt (cond b Less (cond q Equal Greater)) && r) → b ≡ true
      lower true q r s = refl
      lower false true r s = absurd s
      lower false false r s = absurd s

      rest : (b r : Bool) → T (b && r) → T r
      rest true r s = s
      rest false r s = absurd s

  first-there : (e : ℕ × V) (es : List (ℕ × V)) → T (fin.is_sorted nat_cmp (e ∷ es)) → test e.0 ≡ true → IsFirst (has (e ∷ es)) test (Some e.0)
  first-there e es s f = record {
    stands = has-first e es;
    passes = f;
    least = λ k less there. one-of e es (λ j. j < e.0 → test j ≡ false) k there (λ l. absurd (omega arith)) (λ later l. let up = behind e.0 es (below-of e es s) k later in absurd (omega arith)) less;
  }

  later-there : (e : ℕ × V) (es : List (ℕ × V)) (o : Option ℕ) → test e.0 ≡ false → IsFirst (has es) test o → IsFirst (has (e ∷ es)) test o
  later-there e es None f h = λ k there. one-of e es (λ j. test j ≡ false) k there f (λ later. h k later)
  later-there e es (Some n) f h = record {
    stands = has-later (eq_by_cmp nat_cmp n e.0) e.1 (fin.find nat_cmp n es) h.stands;
    passes = h.passes;
    least = λ k less there. one-of e es (λ j. j < n → test j ≡ false) k there (λ _. f) (λ later l. h.least k l later) less;
  }

  found : (es : List (ℕ × V)) → T (fin.is_sorted nat_cmp es) → IsFirst (has es) test (find test (map (λ (e : ℕ × V). e.0) es))
  found [] s = λ k h. absurd (grind (arith, h))
  found (e ∷ es) s =
      let rest = found es (tail-of e es s) in
      elim (test e.0) as (λ b. test e.0 ≡ b → IsFirst (has (e ∷ es)) test (cond b (Some e.0) (find test (map (λ (e : ℕ × V). e.0) es)))) [
        | true ↦ λ f. first-there e es s f
        | false ↦ λ f. later-there e es (find test (map (λ (e : ℕ × V). e.0) es)) f rest
      ] refl

  -- a search in the keys of a map finds the least that passes
  pub found-key : (m : Map V) → IsFirst (λ k. is_some (at m k)) test (find test (keys m))
  found-key m = subst (λ there. IsFirst there test (find test (keys m))) (λ i k. is_some (sym (finmap.get-entries m k) i)) (found (entries m) (finmap.entries_sorted m))
