-- Rows that are put in first to last, one for each guest, are those of `by_guest`.
use Rattle.job_boot.specs.Guests.{guest_at}
use Rattle.job_model.specs.declared.image.Image.{Image}
use Rattle.job_model.specs.declared.job.GuestLine.{GuestLine}
use Rattle.kernel_model.specs.OneKernel.{Guest, by_guest, guests_from}
use Rattle.mck_word.specs.MapLaws.{at-put, same_rows}
use Rattle.mck_word.specs.Maps.{Map, at, no_rows, put}
use Rattle.std.proofs.Common.{ap, arith, refl, sym, ◌∙◌}
use Rattle.std.proofs.lemmas.Bool.Decides.{nat_tests}
use Rattle.std.specs.Prelude.{Bool, List, Option, Some, [], cond, false, fold, true, ℕ, ◌+◌, ◌<◌, ◌==◌, ◌∷◌, ◌≡◌}

module _ {V : Type 0} where
  commute : (m : Map V) (k l : ℕ) (v w : V) → (k == l) ≡ false → put (put m k v) l w ≡ put (put m l w) k v
  commute m k l v w n =
      same_rows _ _ (λ q. at-put (put m k v) l w q ∙ ap (cond (q == l) (Some w)) (at-put m k v q) ∙ go q (q == k) (q == l) refl refl (at m q) ∙ ap (cond (q == k) (Some v)) (sym (at-put m l w q)) ∙ sym (at-put (put m l w) k v q))
    where
      go : (q : ℕ) (x y : Bool) → (q == k) ≡ x → (q == l) ≡ y → (o : Option V) → cond y (Some w) (cond x (Some v) o) ≡ cond x (Some v) (cond y (Some w) o)
      go q true true e f o = absurd (grind (arith, nat_tests, e, f, n))
      go q true false e f o = refl
      go q false true e f o = refl
      go q false false e f o = refl

  module _ (f : Guest → V) where
    abbrev pub put_by : Map V → Guest → Map V
    put_by m g = put m g.number (f g)

    past : (n : ℕ) (lines : List GuestLine) (images : List Image) (m : Map V) (k : ℕ) (v : V) → k < n → fold put_by (put m k v) (guests_from n lines images) ≡ put (fold put_by m (guests_from n lines images)) k v
    past n [] images m k v l = refl
    past n (a ∷ lines) [] m k v l = refl
    past n (a ∷ lines) (image ∷ images) m k v l =
        let differ : (k == n) ≡ false = grind (arith, nat_tests, l) in
        ap (λ (x : Map V). fold put_by x (guests_from (n + 1) lines images)) (commute m k n v (f (guest_at n a image)) differ)
        ∙ past (n + 1) lines images (put m n (f (guest_at n a image))) k v (omega (arith, l))

    pub puts-are : (n : ℕ) (lines : List GuestLine) (images : List Image) → fold put_by no_rows (guests_from n lines images) ≡ by_guest f (guests_from n lines images)
    puts-are n [] images = refl
    puts-are n (a ∷ lines) [] = refl
    puts-are n (a ∷ lines) (image ∷ images) =
        past (n + 1) lines images no_rows n (f (guest_at n a image)) (omega arith)
        ∙ ap (λ (x : Map V). put x n (f (guest_at n a image))) (puts-are (n + 1) lines images)
