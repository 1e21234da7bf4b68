-- How many pages of some ranges are missing, before and after a change of the rows.
use Rattle.std.proofs.Common.{◌≡◌, ℕ, zero, suc, ◌+◌, ◌-◌, ◌^◌, ◌<◌, ◌≤◌, Bool, true, false, cond, eqb, List, [], ◌∷◌, Some, None, refl, ap, ◌∙◌, inl, inr, arith}
use Rattle.std.specs.Prelude.{IsTrue, is_none, is_some, ◌||◌, ◌&&◌, sum_by, min}
use Rattle.std.specs.Cmp.{nat_cmp_total, unsigned_tied}
use Rattle.std.specs.FinMap as map
use Rattle.std.proofs.lemmas.Bool.{eq-eqb, ne_eqb, cases_eq, cases_lt, lt-ltb, le-ltb, le-leb, lt-leb}
use Rattle.std.proofs.lemmas.List.Sums.{sum_by-cons}
use Rattle.mck_word.specs.declared.Frame.{Frame}
use Rattle.mck_word.specs.declared.PageRange.{PageRange}
use Rattle.mck_word.specs.Pages.{in_range, in_ranges}
use Rattle.mck_flags.specs.declared.rights.Rights.{Rights}
use Rattle.page_map.specs.Counts.{count_to, count_to-le, count_to-less, count_to-more, count_to-or, count_to-same}
use Rattle.page_map.specs.Tables.{PageRows, missing, size_of_range}

count_to-range : (r : PageRange) (c : ℕ → Bool) (n : ℕ) → count_to (λ p. in_range r p && c p) n ≤ min n r.hi - r.lo
unfolding count_to
count_to-range r c zero = omega arith
count_to-range r c (suc n) =
    let rest = count_to-range r c n in
    elim (cases_lt n r.lo) [
      | inl l ↦ rw (lt-leb r.lo n l) (omega arith)
      | inr g ↦ elim (cases_lt n r.hi) [
        | inl l ↦ rw (le-leb r.lo n g, lt-ltb n r.hi l) (elim (c n) as (λ b. cond b 1 0 + count_to (λ p. in_range r p && c p) n ≤ min (suc n) r.hi - r.lo) [ true ↦ omega arith | false ↦ omega arith ])
        | inr h ↦ rw (le-leb r.lo n g, le-ltb n r.hi h) (omega arith)
      ]
    ]

none : (c : ℕ → Bool) (n : ℕ) → count_to (λ p. false && c p) n ≡ 0
unfolding count_to
none c zero = refl
none c (suc n) = omega (arith, none c n)

pub count_to-ranges : (rs : List PageRange) (c : ℕ → Bool) (n : ℕ) → count_to (λ p. in_ranges rs p && c p) n ≤ sum_by size_of_range rs
count_to-ranges [] c n = rw (none c n) (omega arith)
count_to-ranges (r ∷ rs) c n =
    let both : count_to (λ p. in_ranges (r ∷ rs) p && c p) n ≤ count_to (λ p. in_range r p && c p) n + count_to (λ p. in_ranges rs p && c p) n = count_to-or (in_range r) (in_ranges rs) c n in
    let first = count_to-range r c n in
    let rest = count_to-ranges rs c n in
    let total : sum_by size_of_range (r ∷ rs) ≡ (r.hi - r.lo) + sum_by size_of_range rs = sum_by-cons size_of_range r rs in
    omega arith

pub missing-le : (m : PageRows) (rs : List PageRange) → missing m rs ≤ min (sum_by size_of_range rs) (2 ^ 64 - 1)
missing-le m rs =
    let few = count_to-le (λ p. in_ranges rs p && is_none (map.get m p)) (2 ^ 27) in
    let all = count_to-ranges rs (λ p. is_none (map.get m p)) (2 ^ 27) in
    omega arith

contains-insert : (m : PageRows) (q : ℕ) (w : Frame × Rights) (k : ℕ) → map.contains_key (map.insert m q w) k ≡ (eqb k q || map.contains_key m k)
contains-insert m q w k = ap is_some (map.get-insert nat_cmp_total m q w k) ∙ ap (λ b. is_some (cond b (Some w) (map.get m k))) (unsigned_tied k q)
    ∙ elim (eqb k q) as (λ b. is_some (cond b (Some w) (map.get m k)) ≡ (b || is_some (map.get m k))) [ true ↦ refl | false ↦ refl ]

-- a row at a page of the ranges that had none
pub missing-insert : (m : PageRows) (rs : List PageRange) (p : ℕ) (w : Frame × Rights) → p < 2 ^ 27 → IsTrue (in_ranges rs p) → map.get m p ≡ None → missing m rs ≡ missing (map.insert m p w) rs + 1
missing-insert m rs p w below there none =
    count_to-less (λ k. in_ranges rs k && is_none (map.get m k)) (λ k. in_ranges rs k && is_none (map.get (map.insert m p w) k)) p (2 ^ 27) below
    (rw (there, none) refl)
    (rw (contains-insert m p w p, eq-eqb p p refl) (off (in_ranges rs p)))
    (λ k other. rw (contains-insert m p w k, ne_eqb k p other) refl)
  where
    off : (b : Bool) → (b && false) ≡ false
    off true = refl
    off false = refl

pub missing-remove : (m : PageRows) (rs : List PageRange) (p : ℕ) → missing (map.remove m p) rs ≤ missing m rs + 1
missing-remove m rs p =
    count_to-more (λ k. in_ranges rs k && is_none (map.get (map.remove m p) k)) (λ k. in_ranges rs k && is_none (map.get m k)) p (2 ^ 27)
    (λ k other. rw (map.get-remove nat_cmp_total m p k, unsigned_tied k p, ne_eqb k p other) refl)

-- a row in place of another
pub missing-set : (m : PageRows) (rs : List PageRange) (p : ℕ) (w : Frame × Rights) → IsTrue (map.contains_key m p) → missing (map.insert m p w) rs ≡ missing m rs
missing-set m rs p w there =
    count_to-same (λ k. in_ranges rs k && is_none (map.get (map.insert m p w) k)) (λ k. in_ranges rs k && is_none (map.get m k)) (2 ^ 27)
    (λ k _. elim (cases_eq k p) [
      | inl e ↦ rw (contains-insert m p w k, eq-eqb k p e, e, there) refl
      | inr o ↦ rw (contains-insert m p w k, ne_eqb k p o) refl
    ])

-- a page of ranges for which there is room can be put in
pub room_for_one : (m : PageRows) (spare : ℕ) (rs : List PageRange) (p : ℕ) → p < 2 ^ 27 → IsTrue (in_ranges rs p) → map.get m p ≡ None → missing m rs ≤ spare → 1 ≤ spare
room_for_one m spare rs p below there none fits =
    let one = missing-insert m rs p (record { 0 = 0 }, record { 0 = 0 }) below there none in
    omega arith
