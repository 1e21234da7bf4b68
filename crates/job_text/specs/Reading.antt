-- The job that a text spells, or its first broken line.
use Rattle.std.specs.Prelude.{◌≡◌, ℕ, ◌==◌, List, [], length, Option, Some, None, Result, Ok, Err, unwrap_or, if◌then◌else◌}
use Rattle.job_model.specs.declared.job.Job.{Job}
use Rattle.job_text.specs.declared.draft.Draft.{Draft}
use Rattle.job_text.specs.declared.fault.BrokenLine.{BrokenLine}
use Rattle.job_text.specs.declared.fault.JobFault.{JobFault}
use Rattle.job_text.specs.declared.fault.JobFault.TheVariants.{Line, Missing}
use Rattle.job_text.specs.declared.fault.Key.TheVariants as keys
use Rattle.job_text.specs.declared.fault.JobError.{JobError}
use Rattle.job_text.specs.declared.fault.JobError.TheVariants as errors
use Rattle.job_text.specs.declared.fault.TextError.{TextError}
use Rattle.job_text.specs.declared.fault.TextError.TheVariants as text_errors
use Rattle.job_text.specs.Checks.{◌>>=◌}
use Rattle.job_text.specs.Lines.{add_key}
use Rattle.job_text.specs.TextLines.{Adding, add_lines, lines_of}
use Rattle.job_text.specs.Words.{word_at}

abbrev pub add_words : Adding Draft
add_words d line words = add_key d line (word_at words 0) words

abbrev pub no_lines : Draft
no_lines = record { frames = None; cores = None; workers = None; rings = None; limit = None; guests = []; signals = []; files = []; inputs = [] }

-- a broken line is a fault of the job
abbrev pub or_fault : {A : Type 0} → Result A BrokenLine → Result A JobFault
or_fault (Ok x) = Ok x
or_fault (Err broken) = Err (Line broken.line broken.why)

abbrev pub with_frames : Draft → Option ℕ → Result Job JobFault
with_frames d None = Err (Missing keys.Frames)
with_frames d (Some frames) =
    if length d.guests == 0 then Err (Missing keys.Guest)
    else Ok (record {
      frames = frames;
      cores = unwrap_or d.cores 1;
      workers = unwrap_or d.workers 2;
      rings = unwrap_or d.rings 1;
      limit = unwrap_or d.limit 1000000;
      guests = d.guests;
      signals = d.signals;
      files = d.files;
      inputs = d.inputs;
    })

-- The job that a text spells, or the first broken rule.
unfoldable pub job_of : List ℕ → Result Job JobFault
job_of bytes = do
  d ← or_fault (add_lines add_words 1 no_lines (lines_of bytes))
  with_frames d d.frames

-- ---- what a call answers

abbrev pub error_of : TextError → JobError
error_of (text_errors.Broken broken) = errors.Fault (Line broken.line broken.why)
error_of text_errors.NoMemory = errors.NoMemory

-- What a reading answers is what the text gives, unless memory ran out.
abbrev pub ReadFails : {A : Type 0} → JobError → Result A JobFault → Type 0
ReadFails (errors.Fault fault) found = found ≡ Err fault
ReadFails errors.NoMemory found = Unit {0}

abbrev pub ReadGives : {A : Type 0} → Result A JobError → Result A JobFault → Type 0
ReadGives (Ok x) found = found ≡ Ok x
ReadGives (Err e) found = ReadFails e found
