-- The frames that a boot needs, counted segment by segment.
use Rattle.job_model.specs.declared.image.Image.{Image}
use Rattle.job_model.specs.declared.image.Segment.{Segment}
use Rattle.kernel_model.specs.Layout.{needed_frames}
use Rattle.kernel_model.specs.Pages.{pages_count, pages_in, pages_of}
use Rattle.mck_word.specs.Lists.{count_from}
use Rattle.std.proofs.Common.{All, List, [], ap, arith, flat_map, length, length-append, refl, zero, suc, subst, ℕ, ◌+◌, ◌++◌, ◌∙◌, ◌∷◌, ◌≡◌}

abbrev pub pages_of_segment : Segment → ℕ
pages_of_segment s = pages_count (pages_of s.addr s.mem)

abbrev pub pages_of_segments : List Segment → ℕ
pages_of_segments [] = 0
pages_of_segments (s ∷ ss) = pages_of_segment s + pages_of_segments ss

length-count_from : (n k : ℕ) → length (count_from n k) ≡ k
length-count_from n zero = refl
length-count_from n (suc k) = ap (λ x. suc x) (length-count_from (n + 1) k)

counted : (ss : List Segment) → length (flat_map (λ (s : Segment). pages_in (pages_of s.addr s.mem)) ss) ≡ pages_of_segments ss
counted [] = refl
counted (s ∷ ss) =
    length-append (pages_in (pages_of s.addr s.mem)) (flat_map (λ (t : Segment). pages_in (pages_of t.addr t.mem)) ss)
    ∙ (ap (λ n. n + length (flat_map (λ (t : Segment). pages_in (pages_of t.addr t.mem)) ss)) (length-count_from (pages_of s.addr s.mem).lo (pages_of_segment s))
    ∙ ap (λ n. pages_of_segment s + n) (counted ss))

pub needed : (image : Image) → needed_frames image ≡ pages_of_segments image.segments + 17
needed image = ap (λ n. n + 17) (counted image.segments)

pub all_first : {X : Type 0} (P : X → Type 0) (xs ys : List X) (x : X) → xs ≡ x ∷ ys → All P xs → P x
all_first P xs ys x e h = let all : All P (x ∷ ys) = subst (All P) e h in all 0 x (omega arith)

pub all_rest : {X : Type 0} (P : X → Type 0) (xs ys : List X) (x : X) → xs ≡ x ∷ ys → All P xs → All P ys
all_rest P xs ys x e h = let all : All P (x ∷ ys) = subst (All P) e h in λ k d lt. all (suc k) d (omega arith)

pub first_counted : (ss ts : List Segment) (s : Segment) → ss ≡ s ∷ ts → pages_of_segments ss ≡ pages_of_segment s + pages_of_segments ts
first_counted ss ts s e = ap pages_of_segments e

pub first_shorter : {X : Type 0} (xs ys : List X) (x : X) → xs ≡ x ∷ ys → length xs ≡ length ys + 1
first_shorter xs ys x e = ap length e ∙ omega arith
