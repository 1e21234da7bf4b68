-- The ranges of the mapped pages, and the pages that have rows.
use Rattle.mck_word.specs.Pages.{in_range, in_ranges}
use Rattle.mck_word.specs.declared.PageRange.{PageRange}
use Rattle.page_map.specs.Tables.{RiseFrom}
use Rattle.std.proofs.Common.{ap, arith, refl, subst, ◌∙◌}
use Rattle.std.proofs.lemmas.Bool.Decides.{nat_tests}
use Rattle.std.specs.Prelude.{Bool, List, None, Some, [], ◌∷◌, false, length, nat_le, nat_lt, slice_get, suc, true, ℕ, ◌-◌, ◌<◌, ◌^◌, ◌||◌, ◌≡◌, ◌≤◌}
use Rattle.vm_areas.specs.Ranges.{Rises}

-- the first page of a range that isn't empty lies in it
own-page : (x : PageRange) (xs : List PageRange) → x.lo < x.hi → in_ranges (x ∷ xs) x.lo ≡ true
own-page x xs l =
    let a : nat_le x.lo x.lo ≡ true = grind (arith, nat_tests) in
    let b : nat_lt x.lo x.hi ≡ true = grind (arith, nat_tests, l) in
    rw (a, b) refl

-- ranges in which no page lies
pub no-ranges : (low : ℕ) (rs : List PageRange) → Rises low rs → ((p : ℕ) → in_ranges rs p ≡ false) → rs ≡ []
no-ranges low [] rises none = refl
no-ranges low (x ∷ xs) rises none = absurd (let on = own-page x xs rises.1 in let off = none x.lo in cc)

-- what the last of ranges that rise says of all of them
pub record LastSays (low : ℕ) (rs : List PageRange) (x : PageRange) : Type 0 where
  pub some : 1 ≤ x.hi
  pub covered : in_ranges rs (x.hi - 1) ≡ true
  pub fit : x.hi ≤ 2 ^ 27 → RiseFrom low rs

or-right : (a b : Bool) → b ≡ true → (a || b) ≡ true
or-right true b e = refl
or-right false b e = e

last-page : (x : PageRange) → x.lo < x.hi → in_ranges (x ∷ []) (x.hi - 1) ≡ true
last-page x l =
    let a : nat_le x.lo (x.hi - 1) ≡ true = grind (arith, nat_tests, l) in
    let b : nat_lt (x.hi - 1) x.hi ≡ true = grind (arith, nat_tests, l) in
    rw (a, b) refl

-- the last of several is the last of all but the first
one-less : (y z : PageRange) (zs : List PageRange) → slice_get (z ∷ zs) (length (z ∷ zs) - 1) ≡ slice_get (y ∷ z ∷ zs) (length (y ∷ z ∷ zs) - 1)
one-less y z zs =
    let a : length (z ∷ zs) - 1 ≡ length zs = omega arith in
    let b : suc (length zs) ≡ length (y ∷ z ∷ zs) - 1 = omega arith in
    ap (slice_get (z ∷ zs)) a ∙ ap (slice_get (y ∷ z ∷ zs)) b

pub last-says : (low : ℕ) (rs : List PageRange) (x : PageRange) → Rises low rs → slice_get rs (length rs - 1) ≡ Some x → LastSays low rs x
last-says low [] x rises e = absurd (cc)
last-says low (y ∷ []) x rises e =
    let same : y ≡ x = cc in
    subst (λ z. LastSays low (y ∷ []) z) same (record {
      some = (let l = rises.1 in omega (arith, l));
      covered = last-page y rises.1;
      fit = λ h. (rises.0, (let l = rises.1 in omega (arith, l)), h, tt);
    })
last-says low (y ∷ z ∷ zs) x rises e =
    let rest = last-says y.hi (z ∷ zs) x rises.2 (one-less y z zs ∙ e) in
    record {
      some = rest.some;
      covered = or-right (in_range y (x.hi - 1)) (in_ranges (z ∷ zs) (x.hi - 1)) rest.covered;
      fit = λ h. (let f = rest.fit h in (rises.0, (let l = rises.1 in omega (arith, l)), (let a = f.0 in let b = f.1 in let d = f.2 in omega (arith, a, b, d)), f));
    }

pub none-last : (rs : List PageRange) → slice_get rs (length rs - 1) ≡ None → rs ≡ []
none-last [] e = refl
none-last (y ∷ []) e = absurd (cc)
none-last (y ∷ z ∷ zs) e = let rest = none-last (z ∷ zs) (one-less y z zs ∙ e) in absurd (cc)
