-- The frames of the job that grows suffice.
use Rattle.byteorder.specs.Endian.{little_bytes}
use Rattle.guest_asm.specs.Growing.{grow_guest, grow_image, grow_images_of, grow_job_of, grow_words}
use Rattle.guest_asm.specs.Images.{code_of, small_image_of, with_headers}
use Rattle.hybrid_model.specs.Boot.{shortage, shortage_from}
use Rattle.kernel_model.specs.Layout.{needed_frames}
use Rattle.kernel_model.specs.OneKernel.{guests_from, guests_of}
use Rattle.kernel_model.specs.Pages.{pages_in, pages_of}
use Rattle.mcexec_run.specs.Chain.{or_no_frames, with_frames}
use Rattle.mcexec_run.specs.Growing.{grown}
use Rattle.mck_word.specs.Lists.{count_from}
use Rattle.std.proofs.Common.{List, None, Ok, Some, ap, arith, cond, false, length, length-append, map, nat_lt, refl, suc, zero, ℕ, [], ◌*◌, ◌+◌, ◌++◌, ◌-◌, ◌∙◌, ◌∷◌, ◌≡◌, ◌≤◌}
use Rattle.std.proofs.lemmas.Bool.Decides.{nat_tests}

code_size : (words : List ℕ) → length (code_of words) ≡ 4 * length words
code_size [] = refl
code_size (w ∷ ws) = length-append (little_bytes 4 w) (code_of ws) ∙ omega (arith, code_size ws)

headers_size : (code : List ℕ) → length (with_headers code) ≡ length code + 120
headers_size code = omega arith

image_size : (words : List ℕ) → length (small_image_of words) ≡ 4 * length words + 120
unfolding small_image_of
image_size words = headers_size (code_of words) ∙ omega (arith, code_size words)

-- a page for the segment, and 17 for every guest
guest_needs : (guest : ℕ) → needed_frames (grow_image guest) ≡ 18
guest_needs guest = ap (λ size. length (pages_in (pages_of 0x10000 size) ++ []) + 17) (image_size (grow_words guest))

not_less : (free needed : ℕ) → needed ≡ 18 → 18 ≤ free → nat_lt free needed ≡ false
not_less free needed e h = grind (arith, nat_tests, e, h)

enough : (from k n free : ℕ) → 22 * n ≤ free → shortage_from free (guests_from from (map grow_guest (count_from k n)) (map grow_image (count_from k n))) ≡ None
enough from k zero free h = refl
enough from k (suc n) free h =
    go (needed_frames (grow_image k)) (guest_needs k) (enough (from + 1) (k + 1) n (free - needed_frames (grow_image k)) (let e = guest_needs k in omega arith))
  where
    go : (needed : ℕ) → needed ≡ 18 → shortage_from (free - needed) (guests_from (from + 1) (map grow_guest (count_from (k + 1) n)) (map grow_image (count_from (k + 1) n))) ≡ None
        → cond (nat_lt free needed) (Some (record { guest = from; needed = needed; free = free })) (shortage_from (free - needed) (guests_from (from + 1) (map grow_guest (count_from (k + 1) n)) (map grow_image (count_from (k + 1) n)))) ≡ None
    go needed e rest =
        ap (λ b. cond b (Some (record { guest = from; needed = needed; free = free })) (shortage_from (free - needed) (guests_from (from + 1) (map grow_guest (count_from (k + 1) n)) (map grow_image (count_from (k + 1) n)))))
        (not_less free needed e (omega arith)) ∙ rest

pub frames_suffice : (n : ℕ) → shortage (grow_job_of n) (grow_images_of n) ≡ None
unfolding guests_of
frames_suffice n = enough 1 1 n (22 * n) (omega arith)

pub grown_ready : (n : ℕ) → with_frames (grown n) ≡ Ok (grown n)
grown_ready n = ap (or_no_frames (grown n)) (frames_suffice n)
