-- A search for a gap from the highest range downwards.
use Rattle.mck_word.specs.Pages.{in_range, in_ranges}
use Rattle.mck_word.specs.declared.PageRange.{PageRange}
use Rattle.std.proofs.Common.{arith, drop, get_or, inl, inr, refl, take}
use Rattle.std.proofs.lemmas.Bool.Decides.{nat_tests}
use Rattle.std.proofs.lemmas.Bool.{cases_lt}
use Rattle.std.proofs.lemmas.List.{drop_more}
use Rattle.std.specs.Prelude.{Bool, List, [], ◌∷◌, false, length, max, min, suc, true, zero, ℕ, ◌+◌, ◌-◌, ◌<◌, ◌||◌, ◌≡◌, ◌≤◌}
use Rattle.vm_areas.proofs.Members.{in-at, not-above}
use Rattle.vm_areas.proofs.Rising.{Rises-some}
use Rattle.vm_areas.specs.Gaps.{IsGap}
use Rattle.vm_areas.specs.Ranges.{Rises}

in-parts : (n p : ℕ) (xs : List PageRange) → in_ranges (take n xs) p ≡ false → in_ranges (drop n xs) p ≡ false → in_ranges xs p ≡ false
in-parts zero p xs a b = b
in-parts (suc n) p [] a b = refl
in-parts (suc n) p (x ∷ xs) a b = both (in_range x p) _ _ a (λ e. in-parts n p xs e b)
  where
    both : (s t u : Bool) → (s || t) ≡ false → (t ≡ false → u ≡ false) → (s || u) ≡ false
    both true t u e f = e
    both false t u e f = f e

-- no range from i on begins below `high`, and no gap ends above it
pub record IsSearched (xs : List PageRange) (pages i high : ℕ) : Type 0 where
  pub clear : (p : ℕ) → p < high → in_ranges (drop i xs) p ≡ false
  pub highest : (low : ℕ) → IsGap (in_ranges xs) pages low → low + pages ≤ high

pub search-down : (xs : List PageRange) (pages i high : ℕ) (d : PageRange) → Rises 0 xs → 1 ≤ pages → i < length xs → high < (get_or xs i d).hi + pages → IsSearched xs pages (i + 1) high
    → IsSearched xs pages i (min high (get_or xs i d).lo)
search-down xs pages i high d rises some l low_end h = record {
  clear = (λ p below.
      let off : in_range (get_or xs i d) p ≡ false = grind (arith, nat_tests, below) in
      rw (drop_more xs i d l, off) (h.clear p (omega arith)));
  highest = (λ low gap. elim (cases_lt (get_or xs i d).lo (low + pages)) [
    | inl meets ↦
        let q = max low (get_or xs i d).lo in
        let up = h.highest low gap in
        let full = Rises-some 0 xs i d rises l in
        let on : in_range (get_or xs i d) q ≡ true = grind (arith, nat_tests, up, full, meets, low_end) in
        let off = gap.free q (omega arith) (omega arith) in
        let inside = in-at xs i q d l on in
        cc
    | inr apart ↦ omega (arith, h.highest low gap)
  ]);
}

pub search-found : (xs : List PageRange) (pages i high : ℕ) (d : PageRange) → Rises 0 xs → i < length xs → (get_or xs i d).hi + pages ≤ high → IsSearched xs pages (i + 1) high
    → (p : ℕ) → high - pages ≤ p → p < high → in_ranges xs p ≡ false
search-found xs pages i high d rises l above h p from to =
    let e : suc i ≡ i + 1 = omega arith in
    in-parts (suc i) p xs (not-above 0 xs i p d rises l (omega arith)) (rw e (h.clear p to))
