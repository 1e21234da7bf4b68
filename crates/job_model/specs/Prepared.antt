-- A job with its images and files, as a node is booted from it.
-- Source: this project's own.
use Rattle.job_model.specs.Images.{IsImage}
use Rattle.job_model.specs.declared.image.Image.{Image}
use Rattle.job_model.specs.declared.job.FileLine.{FileLine}
use Rattle.job_model.specs.declared.job.GuestLine.{GuestLine}
use Rattle.job_model.specs.declared.job.InputLine.{InputLine}
use Rattle.job_model.specs.declared.job.Job.{Job}
use Rattle.job_model.specs.declared.job.SignalLine.{SignalLine}
use Rattle.std.specs.Prelude.{◌≡◌, ℕ, ◌+◌, ◌≤◌, List, length, All, sum_by}

abbrev pub IsWithin : ℕ → ℕ → ℕ → Type 0
IsWithin least most n = (least ≤ n) × (n ≤ most)

abbrev pub most_file : ℕ
most_file = 1_048_576

-- up to 64 arguments, which stand in one line of the job with a byte between any two
pub record HasArguments (guest : GuestLine) : Type 0 where
  pub most : length guest.args ≤ 64
  pub small : sum_by (λ a. length a + 1) guest.args ≤ 1024

pub record IsForGuest (guests : ℕ) (signal : SignalLine) : Type 0 where
  pub guest : IsWithin 1 guests signal.guest
  pub sig : IsWithin 1 64 signal.sig

-- one image for each guest; files and inputs are fetched
pub record IsPrepared (job : Job) (images : List Image) : Type 0 where
  pub frames : IsWithin 1 16_000 job.frames
  pub cores : IsWithin 1 8 job.cores
  pub workers : IsWithin 1 4 job.workers
  pub rings : IsWithin 1 8 job.rings
  pub limit : IsWithin 1 4_000_000 job.limit
  pub guests : IsWithin 1 16 (length job.guests)
  pub guest_lines : All HasArguments job.guests
  pub signal_lines : All (IsForGuest (length job.guests)) job.signals
  pub files : All (λ (f : FileLine). length f.bytes ≤ most_file) job.files
  pub inputs : All (λ (i : InputLine). length i.bytes ≤ most_file) job.inputs
  pub one_each : length images ≡ length job.guests
  pub loaded : All IsImage images
