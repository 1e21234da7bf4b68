-- What each job that reads keeps.
use Rattle.std.specs.Prelude.{◌≡◌, ◌≢◌, ℕ, ◌+◌, ◌<◌, ◌≤◌, List, [], length, All, AllPairs, sum_by, false, true, IsUtf8, unwrap_or}
use Rattle.job_model.specs.declared.job.Job.{Job}
use Rattle.job_model.specs.declared.job.GuestLine.{GuestLine}
use Rattle.job_model.specs.declared.job.SignalLine.{SignalLine}
use Rattle.job_model.specs.declared.job.FileLine.{FileLine}
use Rattle.job_model.specs.declared.job.InputLine.{InputLine}
use Rattle.job_text.specs.declared.draft.Draft.{Draft}
use Rattle.job_text.specs.Paths.{is_path, meets}

-- bytes 0x21 to 0x7e, which are characters of one byte each
pub record IsWord (word : List ℕ) : Type 0 where
  pub some : 0 < length word
  pub bytes : All (λ b. (33 ≤ b) × (b ≤ 126)) word
  pub text : IsUtf8 word

-- the name of its image and up to 63 more words; they stand in the line, with a byte between any two
pub record IsGuestLine (guest : GuestLine) : Type 0 where
  pub named : 0 < length guest.args
  pub most : length guest.args ≤ 64
  pub words : All IsWord guest.args
  pub small : sum_by (λ a. length a + 1) guest.args ≤ 1024

pub record IsSignalLine (guests : ℕ) (signal : SignalLine) : Type 0 where
  pub guest : 0 < signal.guest
  pub most_guest : signal.guest ≤ guests
  pub sig : 0 < signal.sig
  pub most_sig : signal.sig ≤ 64
  pub sendable : 19 ≤ signal.sig → 22 < signal.sig
  pub after : signal.after ≤ 4000000

pub record IsFileLine (file : FileLine) : Type 0 where
  pub path : is_path file.path ≡ true
  pub path_word : IsWord file.path
  pub name : IsWord file.name
  pub empty : file.bytes ≡ []

pub record IsInputLine (guests : ℕ) (input : InputLine) : Type 0 where
  pub guest : 0 < input.guest
  pub most_guest : input.guest ≤ guests
  pub name : IsWord input.name
  pub empty : input.bytes ≡ []

-- no file lies at or below another
abbrev pub AreApart : List FileLine → Type 0
AreApart files = AllPairs (λ f g. meets g.path f.path ≡ false) files

-- at most one input for each guest
abbrev pub StandOnce : List InputLine → Type 0
StandOnce inputs = AllPairs (λ i j. i.guest ≢ j.guest) inputs

abbrev pub IsWithin : ℕ → ℕ → ℕ → Type 0
IsWithin least most n = (least ≤ n) × (n ≤ most)

pub record IsJob (job : Job) : Type 0 where
  pub frames : IsWithin 1 16000 job.frames
  pub cores : IsWithin 1 8 job.cores
  pub workers : IsWithin 1 4 job.workers
  pub rings : IsWithin 1 8 job.rings
  pub limit : IsWithin 1 4000000 job.limit
  pub guests : IsWithin 1 16 (length job.guests)
  pub guest_lines : All IsGuestLine job.guests
  pub signals : length job.signals ≤ 64
  pub signal_lines : All (IsSignalLine (length job.guests)) job.signals
  pub files : length job.files ≤ 64
  pub file_lines : All IsFileLine job.files
  pub apart : AreApart job.files
  pub inputs : All (IsInputLine (length job.guests)) job.inputs
  pub once : StandOnce job.inputs

-- what the lines so far keep
pub record IsDraft (d : Draft) : Type 0 where
  pub frames : IsWithin 1 16000 (unwrap_or d.frames 1)
  pub cores : IsWithin 1 8 (unwrap_or d.cores 1)
  pub workers : IsWithin 1 4 (unwrap_or d.workers 2)
  pub rings : IsWithin 1 8 (unwrap_or d.rings 1)
  pub limit : IsWithin 1 4000000 (unwrap_or d.limit 1000000)
  pub guests : length d.guests ≤ 16
  pub guest_lines : All IsGuestLine d.guests
  pub signals : length d.signals ≤ 64
  pub signal_lines : All (IsSignalLine (length d.guests)) d.signals
  pub files : length d.files ≤ 64
  pub file_lines : All IsFileLine d.files
  pub apart : AreApart d.files
  pub inputs : All (IsInputLine (length d.guests)) d.inputs
  pub once : StandOnce d.inputs
