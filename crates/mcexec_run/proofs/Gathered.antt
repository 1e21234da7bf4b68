-- The lines of a job in their order: each is there, and each guest once. What is gathered is prepared.
use Rattle.job_model.specs.Prepared.{HasArguments, IsPrepared}
use Rattle.job_model.specs.declared.job.FileLine.{FileLine}
use Rattle.job_model.specs.declared.job.GuestLine.{GuestLine}
use Rattle.job_model.specs.declared.job.InputLine.{InputLine}
use Rattle.job_model.specs.declared.job.Job.{Job}
use Rattle.job_text.specs.Kept.{IsGuestLine, IsJob}
use Rattle.job_text.specs.Order.{before_line, by_line, files_from, from_line, guests_from, inputs_from, sources_of}
use Rattle.job_text.specs.declared.order.Source.{Source}
use Rattle.mcexec_run.specs.Chain.{IsFilled, IsSource, images_in, prepared_job}
use Rattle.mcexec_run.specs.declared.chain.Fetched.{Fetched}
use Rattle.std.proofs.Common.{Bool, List, arith, cond, false, length, nat_lt, refl, true, ℕ, [], ◌+◌, ◌++◌, ◌∙◌, ◌∷◌, ◌≡◌, ◌≤◌}
use Rattle.std.specs.List.{AllByRecursion}

-- ---- one list in another

both : (P : Source → Type 0) (xs ys : List Source) → AllByRecursion P xs → AllByRecursion P ys → AllByRecursion P (xs ++ ys)
both P [] ys h k = k
both P (x ∷ xs) ys h k = (h.0, both P xs ys h.1 k)

before : (P : Source → Type 0) (line : ℕ) (ss : List Source) → AllByRecursion P ss → AllByRecursion P (before_line line ss)
before P line [] h = tt
before P line (s ∷ ss) h = at_test (nat_lt s.line line) (before P line ss h.1)
  where
    at_test : (t : Bool) → AllByRecursion P (before_line line ss) → AllByRecursion P (cond t (s ∷ before_line line ss) [])
    at_test true k = (h.0, k)
    at_test false k = tt

after : (P : Source → Type 0) (line : ℕ) (ss : List Source) → AllByRecursion P ss → AllByRecursion P (from_line line ss)
after P line [] h = tt
after P line (s ∷ ss) h = at_test (nat_lt s.line line) (after P line ss h.1)
  where
    at_test : (t : Bool) → AllByRecursion P (from_line line ss) → AllByRecursion P (cond t (from_line line ss) (s ∷ ss))
    at_test true k = k
    at_test false k = h

merged : (P : Source → Type 0) (xs ys : List Source) → AllByRecursion P xs → AllByRecursion P ys → AllByRecursion P (by_line xs ys)
merged P [] ys h k = k
merged P (x ∷ xs) ys h k = both P (before_line x.line ys) (x ∷ by_line xs (from_line x.line ys)) (before P x.line ys k) (h.0, merged P xs (from_line x.line ys) h.1 (after P x.line ys k))

-- ---- the images of lists

images-append : (xs ys : List Source) → images_in (xs ++ ys) ≡ images_in xs + images_in ys
images-append [] ys = omega arith
images-append (x ∷ xs) ys = let h = images-append xs ys in omega arith

images-cut : (line : ℕ) (ss : List Source) → images_in (before_line line ss) + images_in (from_line line ss) ≡ images_in ss
images-cut line [] = omega arith
images-cut line (s ∷ ss) = at_test (nat_lt s.line line) (images-cut line ss)
  where
    at_test : (t : Bool) → images_in (before_line line ss) + images_in (from_line line ss) ≡ images_in ss
        → images_in (cond t (s ∷ before_line line ss) []) + images_in (cond t (from_line line ss) (s ∷ ss)) ≡ images_in (s ∷ ss)
    at_test true h = omega arith
    at_test false h = omega arith

images-merged : (xs ys : List Source) → images_in (by_line xs ys) ≡ images_in xs + images_in ys
images-merged [] ys = omega arith
images-merged (x ∷ xs) ys =
    let rest = images-merged xs (from_line x.line ys) in
    let cut = images-cut x.line ys in
    images-append (before_line x.line ys) (x ∷ by_line xs (from_line x.line ys)) ∙ omega arith

-- ---- the three kinds

guests_there : (job : Job) (k : ℕ) (gs : List GuestLine) → k + length gs ≤ length job.guests → AllByRecursion (IsSource job) (guests_from k gs)
guests_there job k [] h = tt
guests_there job k (g ∷ gs) h = (omega arith, guests_there job (k + 1) gs (omega arith))

files_there : (job : Job) (k : ℕ) (fs : List FileLine) → k + length fs ≤ length job.files → AllByRecursion (IsSource job) (files_from k fs)
files_there job k [] h = tt
files_there job k (f ∷ fs) h = (omega arith, files_there job (k + 1) fs (omega arith))

inputs_there : (job : Job) (k : ℕ) (is_ : List InputLine) → k + length is_ ≤ length job.inputs → AllByRecursion (IsSource job) (inputs_from k is_)
inputs_there job k [] h = tt
inputs_there job k (i ∷ is_) h = (omega arith, inputs_there job (k + 1) is_ (omega arith))

guest_images : (k : ℕ) (gs : List GuestLine) → images_in (guests_from k gs) ≡ length gs
guest_images k [] = refl
guest_images k (g ∷ gs) = let h = guest_images (k + 1) gs in omega arith

file_images : (k : ℕ) (fs : List FileLine) → images_in (files_from k fs) ≡ 0
file_images k [] = refl
file_images k (f ∷ fs) = let h = file_images (k + 1) fs in omega arith

input_images : (k : ℕ) (is_ : List InputLine) → images_in (inputs_from k is_) ≡ 0
input_images k [] = refl
input_images k (i ∷ is_) = let h = input_images (k + 1) is_ in omega arith

pub sources_there : (job : Job) → AllByRecursion (IsSource job) (sources_of job)
sources_there job =
    merged (IsSource job) (by_line (guests_from 0 job.guests) (files_from 0 job.files)) (inputs_from 0 job.inputs)
    (merged (IsSource job) (guests_from 0 job.guests) (files_from 0 job.files) (guests_there job 0 job.guests (omega arith)) (files_there job 0 job.files (omega arith)))
    (inputs_there job 0 job.inputs (omega arith))

pub source_images : (job : Job) → images_in (sources_of job) ≡ length job.guests
source_images job =
    let gs = guests_from 0 job.guests in let fs = files_from 0 job.files in let is_ = inputs_from 0 job.inputs in
    omega (arith, images-merged (by_line gs fs) is_, images-merged gs fs, guest_images 0 job.guests, file_images 0 job.files, input_images 0 job.inputs)

-- ---- all of it

has_arguments : (g : GuestLine) → IsGuestLine g → HasArguments g
has_arguments g h = record { most = h.most; small = h.small }

pub prepared_of : (job : Job) (f : Fetched) → IsJob job → IsFilled f → length f.images ≡ images_in (sources_of job) → IsPrepared (prepared_job job f).job (prepared_job job f).images
prepared_of job f j filled count = record {
  frames = j.frames;
  cores = j.cores;
  workers = j.workers;
  rings = j.rings;
  limit = j.limit;
  guests = j.guests;
  guest_lines = λ k d h. has_arguments _ (j.guest_lines k d h);
  signal_lines = λ k d h. (let s = j.signal_lines k d h in record { guest = (s.guest, s.most_guest); sig = (s.sig, s.most_sig) });
  files = filled.files;
  inputs = filled.inputs;
  one_each = count ∙ source_images job;
  loaded = filled.images;
}
