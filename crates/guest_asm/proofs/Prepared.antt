-- The job that grows can be booted.
use Rattle.std.proofs.Common.{◌≡◌, ℕ, zero, suc, ◌+◌, ◌-◌, ◌*◌, ◌/◌, ◌%◌, ◌^◌, ◌<◌, ◌≤◌, List, [], ◌∷◌, ◌++◌, length, map, flat_map, decimal, sum_by, All, AllPairs, Any, refl, sym, ◌∙◌, ap, subst, arith, length-append, get_or}
use Rattle.std.proofs.lemmas.Fmt.{length-decimal-le}
use Rattle.std.proofs.lemmas.List.{length-map}
use Rattle.std.proofs.lemmas.List.Elements.{All-map}
use Rattle.std.proofs.lemmas.List.Sums.{sum_by-cons}
use Rattle.byteorder.specs.Endian.{little_bytes}
use Rattle.mck_word.specs.Lists.{count_from}
use Rattle.job_model.specs.Images.{IsImage, IsSegment, SharesNoPage, RunsAt, AreRights, highest}
use Rattle.job_model.specs.Prepared.{IsPrepared, HasArguments, IsForGuest, IsWithin, most_file}
use Rattle.job_model.specs.declared.image.Image.{Image}
use Rattle.job_model.specs.declared.image.Segment.{Segment}
use Rattle.job_model.specs.declared.job.FileLine.{FileLine}
use Rattle.job_model.specs.declared.job.GuestLine.{GuestLine}
use Rattle.job_model.specs.declared.job.InputLine.{InputLine}
use Rattle.job_model.specs.declared.job.Job.{Job}
use Rattle.job_model.specs.declared.job.SignalLine.{SignalLine}
use Rattle.guest_asm.specs.Growing.{grow_words, grow_guest, grow_image, grow_job_of, grow_images_of}
use Rattle.guest_asm.specs.Images.{code_of, with_headers, small_image_of, image_with}

-- ---- sizes

code_size : (words : List ℕ) → length (code_of words) ≡ 4 * length words
code_size [] = refl
code_size (w ∷ ws) = length-append (little_bytes 4 w) (code_of ws) ∙ omega (arith, code_size ws)

headers_size : (code : List ℕ) → length (with_headers code) ≡ length code + 120
headers_size code = omega arith

image_size : (words : List ℕ) → length (small_image_of words) ≡ 4 * length words + 120
unfolding small_image_of
image_size words = headers_size (code_of words) ∙ omega (arith, code_size words)

-- ---- images

one_all : {X : Type 0} (P : X → Type 0) (x : X) → P x → All P (x ∷ [])
one_all P x h zero d i = h
one_all P x h (suc k) d i = absurd (omega arith)

-- a file of more than the headers, no larger than the range for segments
pub image_kept : (file : List ℕ) → 120 < length file → length file + 0x10000 ≤ 0x3000000000 → IsImage (image_with file)
image_kept file some most =
    record {
      headers = omega arith;
      counted = omega arith;
      kept = one_all IsSegment (record { addr = 0x10000; mem = length file; bytes = file; rights = record { 0 = 7 } })
          (record { low = omega arith; range = omega arith; some = omega arith; whole = omega arith; rights = record { known = omega arith; readable = λ t. refl } });
      apart = λ i j d below within. absurd (omega arith);
      aligned = refl;
      entry = (0, record { addr = 0x10000; mem = length file; bytes = file; rights = record { 0 = 7 } }, omega arith, refl, (refl, omega arith, omega arith));
    }

grown_image : (guest : ℕ) → IsImage (grow_image guest)
grown_image guest =
    let size : length (small_image_of (grow_words guest)) ≡ 216 = image_size (grow_words guest) in
    image_kept (small_image_of (grow_words guest)) (omega arith) (omega arith)

-- ---- guests

text_small : (guest : ℕ) → guest < 2 ^ 64 → sum_by (λ a. length a + 1) ((103 ∷ decimal guest) ∷ []) ≤ 1024
text_small guest small = omega (arith, sum_by-cons (λ a. length a + 1) (103 ∷ decimal guest) [], length-decimal-le 20 guest)

grown_guest : (guest : ℕ) → guest < 2 ^ 64 → HasArguments (grow_guest guest)
grown_guest guest small = record { most = omega arith; small = text_small guest small }

counted : (from n : ℕ) → length (count_from from n) ≡ n
counted from zero = refl
counted from (suc n) = let h = counted (from + 1) n in omega arith

below : (from n most : ℕ) → from + n ≤ most → All (λ k. k < most) (count_from from n)
below from zero most h k d i = absurd (omega arith)
below from (suc n) most h zero d i = omega arith
below from (suc n) most h (suc k) d i = below (from + 1) n most (omega arith) k d (omega arith)

none_all : {X : Type 0} (P : X → Type 0) → All P []
none_all P k d i = absurd (omega arith)

pub grown_prepared : (n : ℕ) → 1 ≤ n → n ≤ 16 → IsPrepared (grow_job_of n) (grow_images_of n)
grown_prepared n some most =
    let guests : length (map grow_guest (count_from 1 n)) ≡ n = length-map (count_from 1 n) grow_guest ∙ counted 1 n in
    let images : length (map grow_image (count_from 1 n)) ≡ n = length-map (count_from 1 n) grow_image ∙ counted 1 n in
    record {
      frames = (omega arith, omega arith);
      cores = (omega arith, omega arith);
      workers = (omega arith, omega arith);
      rings = (omega arith, omega arith);
      limit = (omega arith, omega arith);
      guests = (omega arith, omega arith);
      guest_lines = All-map HasArguments grow_guest (count_from 1 n) (λ k d i. grown_guest (get_or (count_from 1 n) k d) (let b = below 1 n 17 (omega arith) k d i in omega (arith, b)));
      signal_lines = none_all (IsForGuest (length (map grow_guest (count_from 1 n))));
      files = none_all (λ (f : FileLine). length f.bytes ≤ most_file);
      inputs = none_all (λ (i : InputLine). length i.bytes ≤ most_file);
      one_each = images ∙ sym guests;
      loaded = All-map IsImage grow_image (count_from 1 n) (λ k d i. grown_image (get_or (count_from 1 n) k d));
    }

pub same_job : (n frames : ℕ) (guests : List GuestLine) (signals : List SignalLine) (files : List FileLine) (inputs : List InputLine) → frames ≡ 22 * n → guests ≡ map grow_guest (count_from 1 n) → signals ≡ [] → files ≡ [] → inputs ≡ [] → (let made : Job = record { frames = frames; cores = 4; workers = 2; rings = 1; limit = 1000000; guests = guests; signals = signals; files = files; inputs = inputs } in made) ≡ grow_job_of n
same_job n frames guests signals files inputs a b c e f = cc

pub prepared_same : (n : ℕ) (job : Job) (images : List Image) → 1 ≤ n → n ≤ 16 → job ≡ grow_job_of n → images ≡ grow_images_of n → IsPrepared job images
prepared_same n job images some most e f =
    subst (λ j. IsPrepared j images) (sym e) (subst (λ is_. IsPrepared (grow_job_of n) is_) (sym f) (grown_prepared n some most))
