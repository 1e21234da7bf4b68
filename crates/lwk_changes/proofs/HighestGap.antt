-- The highest gap between the pages that are present is the definition's.
use Rattle.hybrid_laws.proofs.maps.Lookups.{each-at}
use Rattle.hybrid_laws.proofs.maps.Reading.{Each-map}
use Rattle.hybrid_laws.proofs.trap.DecideSays.{count-none}
use Rattle.hybrid_model.specs.Tallies.{Each}
use Rattle.isa_model.specs.Memory.{Memory, Page}
use Rattle.kernel_model.specs.MemoryCalls.{count_present, gap_below, gap_ends, highest_gap, is_gap}
use Rattle.kernel_model.specs.Pages.{range}
use Rattle.lwk_changes.proofs.Counting.{none-counted}
use Rattle.mck_word.specs.Lists.{insert_by, sorted_by}
use Rattle.mck_word.specs.Maps.{at, entries, keys}
use Rattle.mck_word.specs.Pages.{in_range}
use Rattle.std.proofs.Common.{ap, arith, inl, inr, refl, sym, ◌∙◌}
use Rattle.std.proofs.lemmas.Bool.Decides.{nat_tests}
use Rattle.std.proofs.lemmas.Bool.{cases_eq}
use Rattle.std.specs.Option.{ForSome}
use Rattle.std.specs.Prelude.{Bool, List, None, Option, Some, [], cond, false, find, is_some, map, nat_le, nat_lt, option_map, true, ℕ, ◌&&◌, ◌+◌, ◌-◌, ◌<◌, ◌==◌, ◌^◌, ◌∷◌, ◌≡◌, ◌≢◌, ◌≤◌, ◌⊎◌}
use Rattle.vm_areas.specs.Gaps.{IsGap, IsHighestGap}

abbrev before : ℕ → ℕ → Bool
before a b = nat_lt b a

-- ---- lists that fall
abbrev Falls : ℕ → List ℕ → Type 0
Falls top [] = Unit {0}
Falls top (y ∷ ys) = (y ≤ top) × Falls y ys

abbrev FallsOn : List ℕ → Type 0
FallsOn [] = Unit {0}
FallsOn (y ∷ ys) = Falls y ys

insert-falls : (top x : ℕ) (ys : List ℕ) → x ≤ top → Falls top ys → Falls top (insert_by before x ys)
insert-falls top x [] l h = (l, tt)
insert-falls top x (y ∷ ys) l h = go (nat_lt y x) refl (λ m. insert-falls y x ys m h.1)
  where
    go : (b : Bool) → nat_lt y x ≡ b → (x ≤ y → Falls y (insert_by before x ys)) → Falls top (cond b (x ∷ y ∷ ys) (y ∷ insert_by before x ys))
    go true e f = (l, ((let m : y ≤ x = grind (arith, nat_tests, e) in m), h.1))
    go false e f = (h.0, f (grind (arith, nat_tests, e)))

insert-falls-on : (x : ℕ) (ys : List ℕ) → FallsOn ys → FallsOn (insert_by before x ys)
insert-falls-on x [] h = tt
insert-falls-on x (y ∷ ys) h = go (nat_lt y x) refl
  where
    go : (b : Bool) → nat_lt y x ≡ b → FallsOn (cond b (x ∷ y ∷ ys) (y ∷ insert_by before x ys))
    go true e = ((let m : y ≤ x = grind (arith, nat_tests, e) in m), h)
    go false e = insert-falls y x ys (grind (arith, nat_tests, e)) h

sorted-falls : (xs : List ℕ) → FallsOn (sorted_by before xs)
sorted-falls [] = tt
sorted-falls (x ∷ xs) = insert-falls-on x (sorted_by before xs) (sorted-falls xs)

-- the number stands in the list
abbrev HasNumber : ℕ → List ℕ → Type 0
HasNumber h [] = ⊥
HasNumber h (x ∷ xs) = (x ≡ h) ⊎ HasNumber h xs

-- ---- the first that passes, where h is the highest that does
module _ (test : ℕ → Bool) where
  find-none : (xs : List ℕ) → ((k : ℕ) → test k ≡ false) → find test xs ≡ None
  find-none [] h = refl
  find-none (x ∷ xs) h = ap (λ b. cond b (Some x) (find test xs)) (h x) ∙ find-none xs h

  find-below : (top h : ℕ) (ys : List ℕ) → Falls top ys → find test ys ≡ Some h → h ≤ top
  find-below top h [] f e = absurd (grind (arith, e))
  find-below top h (y ∷ ys) f e = go (test y) e (find-below y h ys f.1)
    where
      go : (b : Bool) → cond b (Some y) (find test ys) ≡ Some h → (find test ys ≡ Some h → h ≤ y) → h ≤ top
      go true g r = let s : y ≡ h = cc in let l = f.0 in omega (arith, s, l)
      go false g r = let s = r g in let l = f.0 in omega (arith, s, l)

  module _ (h : ℕ) (passes : test h ≡ true) (highest : (k : ℕ) → test k ≡ true → k ≤ h) where
    insert-highest : (ys : List ℕ) → find test (insert_by before h ys) ≡ Some h
    insert-highest [] = ap (λ b. cond b (Some h) None) passes
    insert-highest (y ∷ ys) = go (nat_lt y h) refl (insert-highest ys)
      where
        last : (b : Bool) → test y ≡ b → nat_lt y h ≡ false → find test (insert_by before h ys) ≡ Some h → cond b (Some y) (find test (insert_by before h ys)) ≡ Some h
        last true e f r = let l = highest y e in let s : y ≡ h = grind (arith, nat_tests, f, l) in ap Some s
        last false e f r = r

        go : (b : Bool) → nat_lt y h ≡ b → find test (insert_by before h ys) ≡ Some h → find test (cond b (h ∷ y ∷ ys) (y ∷ insert_by before h ys)) ≡ Some h
        go true e r = ap (λ b. cond b (Some h) (find test (y ∷ ys))) passes
        go false e r = last (test y) refl e r

    insert-other : (x : ℕ) (ys : List ℕ) → FallsOn ys → find test ys ≡ Some h → find test (insert_by before x ys) ≡ Some h
    insert-other x [] f e = absurd (grind (arith, e))
    insert-other x (y ∷ ys) f e = go (nat_lt y x) refl (tail-falls ys f) (insert-other x ys)
      where
        tail-falls : (zs : List ℕ) → Falls y zs → FallsOn zs
        tail-falls [] g = tt
        tail-falls (z ∷ zs) g = g.1

        first : (b : Bool) → test x ≡ b → nat_lt y x ≡ true → cond b (Some x) (find test (y ∷ ys)) ≡ Some h
        first true g l =
            let a = highest x g in
            let d = find-below y h (y ∷ ys) (let same : y ≤ y = omega arith in (same, f)) e in
            absurd (let c : y < x = grind (arith, nat_tests, l) in omega (arith, a, c, d))
        first false g l = e

        rest : (b : Bool) → test y ≡ b → cond b (Some y) (find test ys) ≡ Some h → (find test ys ≡ Some h → find test (insert_by before x ys) ≡ Some h) → cond b (Some y) (find test (insert_by before x ys)) ≡ Some h
        rest true g i r = i
        rest false g i r = r i

        go : (b : Bool) → nat_lt y x ≡ b → FallsOn ys → (FallsOn ys → find test ys ≡ Some h → find test (insert_by before x ys) ≡ Some h) → find test (cond b (x ∷ y ∷ ys) (y ∷ insert_by before x ys)) ≡ Some h
        go true l t r = first (test x) refl l
        go false l t r = rest (test y) refl e (r t)

    find-sorted : (xs : List ℕ) → HasNumber h xs → find test (sorted_by before xs) ≡ Some h
    find-sorted [] m = absurd m
    find-sorted (x ∷ xs) m = elim m [
      | inl same ↦ ap (λ n. find test (insert_by before n (sorted_by before xs))) same ∙ insert-highest (sorted_by before xs)
      | inr more ↦ insert-other x (sorted_by before xs) (sorted-falls xs) (find-sorted xs more)
    ]

-- ---- gaps of a memory
module _ (m : Memory) (covered : ℕ → Bool) (agree : (k : ℕ) → covered k ≡ is_some (at m k)) (n : ℕ) where
  none-at : (k : ℕ) → covered k ≡ false → at m k ≡ None
  none-at k e = go (at m k) refl
    where
      go : (o : Option Page) → at m k ≡ o → at m k ≡ None
      go None f = f
      go (Some x) f = absurd (let t = sym e ∙ (agree k ∙ ap is_some f) in grind (arith, t))

  -- a test of an end that passes has a gap below it
  gap-of : (high : ℕ) → is_gap m n high ≡ true → IsGap covered n (high - n) × (high - n + n ≡ high)
  gap-of high e =
      let parts = three (nat_le high 0x3f00000) (nat_le (0x10 + n) high) (count_present m (gap_below n high) == 0) e in
      let low : 0x10 + n ≤ high = (let t = parts.1 in grind (arith, nat_tests, t)) in
      let top : high ≤ 0x3f00000 = (let t = parts.0 in grind (arith, nat_tests, t)) in
      let zero-is : count_present m (gap_below n high) ≡ 0 = (let t = parts.2 in grind (arith, nat_tests, t)) in (
        record {
          from = omega (arith, low);
          to = omega (arith, low, top);
          free = λ p a b. agree p ∙ ap is_some (count-none m (gap_below n high) zero-is p (inside p high a (omega (arith, b, low))));
        },
        omega (arith, low),
      )
    where
      inside : (p high : ℕ) → high - n ≤ p → p < high → in_range (range (high - n) high) p ≡ true
      inside p high a b = grind (arith, nat_tests, a, b)

      three : (a b c : Bool) → (a && b && c) ≡ true → (a ≡ true) × (b ≡ true) × (c ≡ true)
      three true true true e = (e, e, e)
      three true true false e = absurd (grind (arith, e))
      three true false c e = absurd (grind (arith, e))
      three false b c e = absurd (grind (arith, e))

  -- and the end of a gap passes
  is-gap : (low : ℕ) → IsGap covered n low → is_gap m n (low + n) ≡ true
  is-gap low g =
      let top : nat_le (low + n) 0x3f00000 ≡ true = (let t = g.to in grind (arith, nat_tests, t)) in
      let from : nat_le (0x10 + n) (low + n) ≡ true = (let t = g.from in grind (arith, nat_tests, t)) in
      let none : count_present m (gap_below n (low + n)) ≡ 0 = none-counted m (gap_below n (low + n)) (λ j i. let w = there (low + n - n) j (omega arith) i in none-at j (g.free j w.0 w.1)) in
      let off : (count_present m (gap_below n (low + n)) == 0) ≡ true = grind (arith, nat_tests, none) in
      rw (top, from, off) refl
    where
      there : (l j : ℕ) → l ≡ low → in_range (range l (low + n)) j ≡ true → (low ≤ j) × (j < low + n)
      there l j e i = (grind (arith, nat_tests, e, i), grind (arith, nat_tests, e, i))

  key-has : (h : ℕ) (x : Page) → at m h ≡ Some x → HasNumber h (keys m)
  key-has h x e = each-at (λ (y : ℕ × Page). HasNumber y.0 (keys m)) m h x (own (entries m)) e
    where
      own : (es : List (ℕ × Page)) → Each (λ (y : ℕ × Page). HasNumber y.0 (map (λ (z : ℕ × Page). z.0) es)) es
      own [] = tt
      own (y ∷ es) = (inl refl, Each-map (λ (z : ℕ × Page). HasNumber z.0 (map (λ (v : ℕ × Page). v.0) es)) (λ (z : ℕ × Page). HasNumber z.0 (y.0 ∷ map (λ (v : ℕ × Page). v.0) es)) es (λ z k. inr k) (own es))

  -- the highest gap ends at the limit or at a page
  end-has : (low : ℕ) → IsGap covered n low → ((l : ℕ) → IsGap covered n l → l ≤ low) → HasNumber (low + n) (0x3f00000 ∷ keys m)
  end-has low g most = elim (cases_eq (low + n) 0x3f00000) [
    | inl limit ↦ inl (sym limit)
    | inr below ↦ inr (at-page (at m (low + n)) refl below)
  ]
    where
      at-page : (o : Option Page) → at m (low + n) ≡ o → low + n ≢ 0x3f00000 → HasNumber (low + n) (keys m)
      at-page (Some x) e below = key-has (low + n) x e
      at-page None e below = absurd (
          let t = g.to in
          let f = g.from in
          let l = most (low + 1) (record {
            from = omega (arith, f);
            to = omega (arith, t, below);
            free = λ p a b. elim (cases_eq p (low + n)) [
              | inl same ↦ agree p ∙ ap is_some (ap (at m) same ∙ e)
              | inr other ↦ g.free p (omega (arith, a)) (omega (arith, b, other))
            ];
          }) in
          omega (arith, l)
          )

  -- the highest gap between the covered pages, by its end, is the definition's
  pub highest-is : (o : Option ℕ) → IsHighestGap covered n o → option_map (λ low. low + n) o ≡ highest_gap m n
  highest-is None h = sym (find-none (is_gap m n) (gap_ends m) none)
    where
      none : (k : ℕ) → is_gap m n k ≡ false
      none k = go (is_gap m n k) refl
        where
          go : (b : Bool) → is_gap m n k ≡ b → is_gap m n k ≡ false
          go false e = e
          go true e = absurd (h (k - n) (gap-of k e).0)
  highest-is (Some low) h = sym (find-sorted (is_gap m n) (low + n) (is-gap low h.0) most (0x3f00000 ∷ keys m) (end-has low h.0 h.1))
    where
      most : (k : ℕ) → is_gap m n k ≡ true → k ≤ low + n
      most k e = let g = gap-of k e in let l = h.1 (k - n) g.0 in let s = g.1 in omega (arith, l, s)

pub low-small : (covered : ℕ → Bool) (n : ℕ) (o : Option ℕ) → IsHighestGap covered n o → ForSome o (λ low. low < 2 ^ 52)
low-small covered n None h = λ x e. absurd (cc)
low-small covered n (Some low) h = λ x e. let t = h.0.to in let s : low ≡ x = cc in omega (arith, s, t)
