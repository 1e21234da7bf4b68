-- Each row in a map's list is what the map answers at its key.
use Rattle.std.specs.FinMap as finmap
use Rattle.std.specs.FinMap.Entries as fin
use Rattle.hybrid_model.specs.Tallies.{Each}
use Rattle.mck_word.specs.Maps.{Map, at, entries}
use Rattle.std.proofs.Common.{ap, arith, refl, ◌∙◌}
use Rattle.std.proofs.lemmas.Bool.Decides.{nat_tests}
use Rattle.std.specs.Cmp.{unsigned_tied}
use Rattle.std.specs.Ordering.{is_lt, nat_cmp}
use Rattle.std.specs.Prelude.{T, Bool, List, Some, [], cond, false, nat_lt, true, ℕ, ◌&&◌, ◌==◌, ◌∷◌, ◌≡◌}
use Rattle.std.specs.declared.cmp.Ordering.TheVariants.{Equal, Greater, Less}

both : (a b : Bool) → (a && b) ≡ true → (a ≡ true) × (b ≡ true)
both true true e = (e, e)
both true false e = absurd (cc)
both false b e = absurd (cc)

apart-less : (a b : ℕ) → is_lt (nat_cmp b a) ≡ true → (a == b) ≡ false
apart-less a b e = go (nat_lt b a) refl e
  where
    equal-or : (x : Bool) → is_lt (cond x Equal Greater) ≡ true → ⊥
    equal-or true k = grind (arith, k)
    equal-or false k = grind (arith, k)

    go : (x : Bool) → nat_lt b a ≡ x → is_lt (cond x Less (cond (b == a) Equal Greater)) ≡ true → (a == b) ≡ false
    go true f k = grind (arith, nat_tests, f)
    go false f k = absurd (equal-or (b == a) k)

module _ {V : Type 0} where
  -- a row behind others that all have lesser keys
  behind : (y x : ℕ × V) (es : List (ℕ × V)) → (y.0 == x.0) ≡ false → fin.find nat_cmp y.0 es ≡ Some y.1 → fin.find nat_cmp y.0 (x ∷ es) ≡ Some y.1
  behind y x es apart there = ap (λ b. cond b (Some x.1) (fin.find nat_cmp y.0 es)) (unsigned_tied y.0 x.0 ∙ apart) ∙ there

  own : (x : ℕ × V) (es : List (ℕ × V)) → fin.find nat_cmp x.0 (x ∷ es) ≡ Some x.1
  own x es = let same : (x.0 == x.0) ≡ true = grind (arith, nat_tests) in ap (λ b. cond b (Some x.1) (fin.find nat_cmp x.0 es)) (unsigned_tied x.0 x.0 ∙ same)

  each-behind : (x : ℕ × V) (es ys : List (ℕ × V)) → fin.below_all nat_cmp x.0 ys ≡ true → Each (λ (y : ℕ × V). fin.find nat_cmp y.0 es ≡ Some y.1) ys
      → Each (λ (y : ℕ × V). fin.find nat_cmp y.0 (x ∷ es) ≡ Some y.1) ys
  each-behind x es [] below h = tt
  each-behind x es (y ∷ ys) below h =
      let a = both (is_lt (nat_cmp x.0 y.0)) (fin.below_all nat_cmp x.0 ys) below in
      (behind y x es (apart-less y.0 x.0 a.0) h.0, each-behind x es ys a.1 h.1)

  each-found : (es : List (ℕ × V)) → fin.is_sorted nat_cmp es ≡ true → Each (λ (y : ℕ × V). fin.find nat_cmp y.0 es ≡ Some y.1) es
  each-found [] e = tt
  each-found (x ∷ es) e =
      let a = both (fin.below_all nat_cmp x.0 es) (fin.is_sorted nat_cmp es) e in
      (own x es, each-behind x es es a.0 (each-found es a.1))

  sorted-rows : (m : Map V) → fin.is_sorted nat_cmp (entries m) ≡ true
  sorted-rows m = go (fin.is_sorted nat_cmp (entries m)) refl (finmap.entries_sorted m)
    where
      go : (b : Bool) → fin.is_sorted nat_cmp (entries m) ≡ b → T b → fin.is_sorted nat_cmp (entries m) ≡ true
      go true e h = e
      go false e h = absurd h

  each-at : (m : Map V) (es : List (ℕ × V)) → Each (λ (y : ℕ × V). fin.find nat_cmp y.0 (entries m) ≡ Some y.1) es → Each (λ (y : ℕ × V). at m y.0 ≡ Some y.1) es
  each-at m [] h = tt
  each-at m (y ∷ ys) h = (finmap.get-entries m y.0 ∙ h.0, each-at m ys h.1)

  pub each-row : (m : Map V) → Each (λ (y : ℕ × V). at m y.0 ≡ Some y.1) (entries m)
  each-row m = each-at m (entries m) (each-found (entries m) (sorted-rows m))
