-- What is left of the segments from a page on.
use Rattle.job_model.specs.declared.image.Segment.{Segment}
use Rattle.lwk_boot.specs.Guests.{first_page, last_end, segment_at}
use Rattle.kernel_model.specs.Pages.{pages_in, pages_of}
use Rattle.mck_word.specs.Lists.{count_from}
use Rattle.std.proofs.Math.Seq.{drop-cons}
use Rattle.lwk_boot.specs.Order.{NoneLeft, left, one_each, pages_each}
use Rattle.std.proofs.Common.{ap, arith, inl, inr, refl, sym, ◌∙◌}
use Rattle.std.proofs.lemmas.Bool.{cases_lt, le-leb, lt-leb}
use Rattle.std.specs.Prelude.{List, [], ◌∷◌, ◌++◌, cond, drop, false, flat_map, length, nat_le, slice_index_or, suc, true, zero, ℕ, ◌+◌, ◌-◌, ◌<◌, ◌≡◌, ◌≢◌, ◌≤◌}

module _ (weight : Segment → ℕ) where
  left-same : (p q : ℕ) (ss : List Segment) → ((j : ℕ) → j < length ss → nat_le p (first_page (segment_at ss j)) ≡ nat_le q (first_page (segment_at ss j)))
      → left weight p ss ≡ left weight q ss
  left-same p q [] h = refl
  left-same p q (s ∷ ss) h = (λ i. cond (h 0 (omega arith) i) (weight s) 0 + left-same p q ss (λ j l. h (suc j) (omega arith)) i)

  -- one segment less
  left-less : (p q : ℕ) (ss : List Segment) (k : ℕ) → k < length ss → nat_le p (first_page (segment_at ss k)) ≡ true → nat_le q (first_page (segment_at ss k)) ≡ false
      → ((j : ℕ) → j < length ss → j ≢ k → nat_le p (first_page (segment_at ss j)) ≡ nat_le q (first_page (segment_at ss j)))
      → left weight p ss ≡ left weight q ss + weight (segment_at ss k)
  left-less p q [] k l a b h = absurd (omega arith)
  left-less p q (s ∷ ss) zero l a b h =
      let rest : left weight p ss ≡ left weight q ss = left-same p q ss (λ j i. h (suc j) (omega arith) (λ (e : suc j ≡ 0). absurd (omega arith))) in
      rw (a, b, rest) (omega arith)
  left-less p q (s ∷ ss) (suc k) l a b h =
      let rest = left-less p q ss k (omega arith) a b (λ j i n. h (suc j) (omega arith) (λ (e : suc j ≡ suc k). n (omega arith))) in
      let here = h 0 (omega arith) (λ (e : 0 ≡ suc k). absurd (omega arith)) in
      rw (here, rest) (omega arith)

  pub left-none : (p : ℕ) (ss : List Segment) → NoneLeft ss p → left weight p ss ≡ 0
  left-none p [] h = refl
  left-none p (s ∷ ss) h =
      let here : nat_le p (first_page s) ≡ false = lt-leb p (first_page s) (h 0 (omega arith)) in
      let rest = left-none p ss (λ j l. h (suc j) (omega arith)) in
      rw (here, rest) refl

  pub left-next : (p q : ℕ) (ss : List Segment) (k : ℕ) → k < length ss → p ≤ first_page (segment_at ss k) → first_page (segment_at ss k) < q → p ≤ q
      → ((j : ℕ) → j < length ss → j ≢ k → p ≤ first_page (segment_at ss j) → q ≤ first_page (segment_at ss j))
      → left weight p ss ≡ left weight q ss + weight (segment_at ss k)
  left-next p q ss k l a b m h =
      left-less p q ss k l (le-leb p _ a) (lt-leb q _ b) (λ j i n. alike p q (first_page (segment_at ss j)) m (h j i n))
    where
      alike : (p q f : ℕ) → p ≤ q → (p ≤ f → q ≤ f) → nat_le p f ≡ nat_le q f
      alike p q f m h = elim (cases_lt f p) [
        | inl low ↦ lt-leb p f low ∙ sym (lt-leb q f (omega arith))
        | inr high ↦ le-leb p f high ∙ sym (le-leb q f (h high))
      ]

-- ---- lists in loops

pub drop-past : {A : Type 0} (xs : List A) (n : ℕ) → length xs ≤ n → drop n xs ≡ []
drop-past [] zero l = refl
drop-past [] (suc n) l = refl
drop-past (x ∷ xs) zero l = absurd (omega arith)
drop-past (x ∷ xs) (suc n) l = drop-past xs n (omega arith)

pub drop-here : {A : Type 0} (xs : List A) (i : ℕ) (x : A) → i < length xs → x ≡ slice_index_or xs i x → drop i xs ≡ x ∷ drop (i + 1) xs
drop-here xs i x l is = let e : suc i ≡ i + 1 = omega arith in drop-cons xs i x l ∙ (λ j. sym is j ∷ drop (e j) xs)

length-count : (n k : ℕ) → length (count_from n k) ≡ k
length-count n zero = refl
length-count n (suc k) = ap suc (length-count (n + 1) k)

pub length-both : (xs ys : List ℕ) → length (xs ++ ys) ≡ length xs + length ys
length-both [] ys = omega arith
length-both (x ∷ xs) ys = let rest = length-both xs ys in omega arith

abbrev pub pages_of_all : List Segment → List ℕ
pages_of_all ss = flat_map (λ (s : Segment). pages_in (pages_of s.addr s.mem)) ss

pub pages-step : (s : Segment) (ss : List Segment) → length (pages_of_all (s ∷ ss)) ≡ pages_each s + length (pages_of_all ss)
pages-step s ss =
    length-both (pages_in (pages_of s.addr s.mem)) (pages_of_all ss)
    ∙ (let e = length-count (first_page s) (last_end s - first_page s) in omega arith)

-- all pages are left at first
pub pages-left : (ss : List Segment) → left pages_each 0 ss ≡ length (pages_of_all ss)
pages-left [] = refl
pages-left (s ∷ ss) =
    (let here : nat_le 0 (first_page s) ≡ true = le-leb 0 _ (omega arith) in rw here refl)
    ∙ (ap (λ n. pages_each s + n) (pages-left ss) ∙ sym (pages-step s ss))

pub ones-left : (ss : List Segment) → left one_each 0 ss ≡ length ss
ones-left [] = refl
ones-left (s ∷ ss) =
    let here : nat_le 0 (first_page s) ≡ true = le-leb 0 _ (omega arith) in
    let rest = ones-left ss in
    rw here (omega arith)
