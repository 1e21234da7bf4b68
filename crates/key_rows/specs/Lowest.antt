-- The least number that is no member of a list, and no key of a map (laws, for proofs).
use Rattle.mck_word.specs.Lists.{count_from, lowest_not_in, member, without}
use Rattle.mck_word.specs.Maps.{Map, at, keys}
use Rattle.std.proofs.Common.{◌≡◌, ◌≢◌, ◌+◌, ◌<◌, ◌≤◌, ℕ, zero, suc, Bool, true, false, cond, eqb, not, List, [], ◌∷◌, length, Some, None, refl, sym, ap, ◌∙◌, inl, inr, arith}
use Rattle.std.proofs.lemmas.Bool.{cases_eq, cases_lt, eq-eqb, ne_eqb, true≢false}
use Rattle.std.specs.Cmp.{unsigned_tied}
use Rattle.std.specs.FinMap as finmap
use Rattle.std.specs.List.{list_any}
use Rattle.std.specs.Ordering.{nat_cmp, eq_by_cmp}
use Rattle.std.specs.Prelude.{find, is_some, unwrap_or, ◌||◌}

-- a list without one of its members is shorter, and has the others
length-without_le : (m : ℕ) (ns : List ℕ) → length (without (λ n. eqb n m) ns) ≤ length ns
length-without_le m [] = omega arith
length-without_le m (n ∷ ns) =
    let rest = length-without_le m ns in
    elim (eqb n m) as (λ b. length (cond (not b) (n ∷ without (λ n. eqb n m) ns) (without (λ n. eqb n m) ns)) ≤ suc (length ns)) [ true ↦ omega arith | false ↦ omega arith ]

length-without : (m : ℕ) (ns : List ℕ) → member m ns ≡ true → length (without (λ n. eqb n m) ns) < length ns
length-without m [] h = absurd (true≢false (sym h))
length-without m (n ∷ ns) h =
    elim (eqb n m) as (λ b. (b || member m ns) ≡ true → length (cond (not b) (n ∷ without (λ n. eqb n m) ns) (without (λ n. eqb n m) ns)) < suc (length ns)) [
      | true ↦ λ h. let rest = length-without_le m ns in omega arith
      | false ↦ λ h. let rest = length-without m ns h in omega arith
    ] h

member-without : (m k : ℕ) (ns : List ℕ) → k ≢ m → member k ns ≡ true → member k (without (λ n. eqb n m) ns) ≡ true
member-without m k [] o h = h
member-without m k (n ∷ ns) o h =
    elim (cases_eq n m) [
      | inl e ↦
          let away : eqb n k ≡ false = ne_eqb n k (λ same. o (sym same ∙ e)) in
          rw (eq-eqb n m e) (member-without m k ns o (rw away at h))
      | inr d ↦ rw (ne_eqb n m d) (
          elim (eqb n k) as (λ b. (b || member k ns) ≡ true → (b || member k (without (λ n. eqb n m) ns)) ≡ true) [ true ↦ λ h. refl | false ↦ λ h. member-without m k ns o h ] h)
    ]

-- a list that has all numbers below k has at least k members
members-fit : (k : ℕ) (ns : List ℕ) → ((n : ℕ) → n < k → member n ns ≡ true) → k ≤ length ns
members-fit zero ns h = omega arith
members-fit (suc k) ns h =
    let less = length-without k ns (h k (omega arith)) in
    let rest = members-fit k (without (λ n. eqb n k) ns) (λ n l. member-without k n ns (omega arith) (h n (omega arith))) in
    omega arith

-- a search through n, n + 1, .. that passes nothing up to n + j ends there
find-after : (p : ℕ → Bool) (n k j : ℕ) → ((i : ℕ) → i < j → p (n + i) ≡ false) → j < k → p (n + j) ≡ true → find p (count_from n k) ≡ Some (n + j)
find-after p n zero j below h e = absurd (omega arith)
find-after p n (suc k) zero below h e =
    let same : n + 0 ≡ n = omega arith in
    let here : p n ≡ true = ap p (sym same) ∙ e in
    rw here (ap Some (sym same))
find-after p n (suc k) (suc j) below h e =
    let same : n + 0 ≡ n = omega arith in
    let here : p n ≡ false = ap p (sym same) ∙ below 0 (omega arith) in
    let more : (i : ℕ) → n + suc i ≡ n + 1 + i = λ i. omega arith in
    rw here (find-after p (n + 1) k j (λ i l. ap p (sym (more i)) ∙ below (suc i) (omega arith)) (omega arith) (ap p (sym (more j)) ∙ e) ∙ ap Some (sym (more j)))

find-none : (p : ℕ → Bool) (n k : ℕ) → ((i : ℕ) → i < k → p (n + i) ≡ false) → find p (count_from n k) ≡ None
find-none p n zero below = refl
find-none p n (suc k) below =
    let same : n + 0 ≡ n = omega arith in
    let here : p n ≡ false = ap p (sym same) ∙ below 0 (omega arith) in
    let more : (i : ℕ) → n + suc i ≡ n + 1 + i = λ i. omega arith in
    rw here (find-none p (n + 1) k (λ i l. ap p (sym (more i)) ∙ below (suc i) (omega arith)))

-- the number below which all are members, and which is none
pub lowest-is : (ns : List ℕ) (n : ℕ) → ((i : ℕ) → i < n → member i ns ≡ true) → member n ns ≡ false → lowest_not_in ns ≡ n
lowest-is ns n below here =
    let fit = members-fit n ns below in
    let add : (i : ℕ) → 0 + i ≡ i = λ i. omega arith in
    let misses : (i : ℕ) → i < n → not (member (0 + i) ns) ≡ false = λ i l. ap (λ j. not (member j ns)) (add i) ∙ ap not (below i l) in
    elim (cases_lt n (length ns)) [
      | inl l ↦ ap (λ o. unwrap_or o (length ns)) (find-after (λ j. not (member j ns)) 0 (length ns) n misses l (ap (λ j. not (member j ns)) (add n) ∙ ap not here)) ∙ add n
      | inr u ↦
          let same : length ns ≡ n = omega arith in
          ap (λ o. unwrap_or o (length ns)) (find-none (λ j. not (member j ns)) 0 (length ns) (λ i l. misses i (omega arith))) ∙ same
    ]

find-le : (p : ℕ → Bool) (n k most : ℕ) → n + k ≤ most → unwrap_or (find p (count_from n k)) most ≤ most
find-le p n zero most h = omega arith
find-le p n (suc k) most h =
    let rest = find-le p (n + 1) k most (omega arith) in
    elim (p n) as (λ b. unwrap_or (cond b (Some n) (find p (count_from (n + 1) k))) most ≤ most) [ true ↦ omega arith | false ↦ rest ]

pub lowest-le : (ns : List ℕ) → lowest_not_in ns ≤ length ns
lowest-le ns = find-le (λ n. not (member n ns)) 0 (length ns) (length ns) (omega arith)

eqb-turned : (a b : ℕ) → eqb a b ≡ eqb b a
eqb-turned a b = elim (cases_eq a b) [
  | inl e ↦ eq-eqb a b e ∙ sym (eq-eqb b a (sym e))
  | inr o ↦ ne_eqb a b o ∙ sym (ne_eqb b a (λ e. o (sym e)))
]

any-same : (p q : ℕ → Bool) → ((n : ℕ) → p n ≡ q n) → (ns : List ℕ) → list_any p ns ≡ list_any q ns
any-same p q h [] = refl
any-same p q h (n ∷ ns) = λ i. h n i || any-same p q h ns i

module _ {V : Type 0} where
  pub member-keys : (m : Map V) (q : ℕ) → member q (keys m) ≡ is_some (at m q)
  member-keys m q = any-same (λ n. eqb n q) (eq_by_cmp nat_cmp q) (λ n. eqb-turned n q ∙ sym (unsigned_tied q n)) (keys m) ∙ sym (finmap.contains_key-keys m q)

  -- the same for the keys of a map
  pub lowest-free : (m : Map V) (n : ℕ) → ((i : ℕ) → i < n → is_some (at m i) ≡ true) → at m n ≡ None → lowest_not_in (keys m) ≡ n
  lowest-free m n below here = lowest-is (keys m) n (λ i l. member-keys m i ∙ below i l) (member-keys m n ∙ ap is_some here)
