-- What stands before a run: each fetch and each rule, in order. The first that fails is the answer.
use Rattle.elf_load.specs.Profile.{image_of}
use Rattle.elf_load.specs.declared.fault.ElfFault.{ElfFault}
use Rattle.hybrid_model.specs.Boot.{Shortage, shortage}
use Rattle.job_model.specs.Images.{IsImage}
use Rattle.job_model.specs.Prepared.{most_file}
use Rattle.job_model.specs.declared.image.Image.{Image}
use Rattle.job_model.specs.declared.job.FileLine.{FileLine}
use Rattle.job_model.specs.declared.job.GuestLine.{GuestLine}
use Rattle.job_model.specs.declared.job.InputLine.{InputLine}
use Rattle.job_model.specs.declared.job.Job.{Job}
use Rattle.job_text.specs.Order.{sources_of}
use Rattle.job_text.specs.Reading.{job_of}
use Rattle.job_text.specs.declared.fault.JobFault.{JobFault}
use Rattle.job_text.specs.declared.order.Source.{Source}
use Rattle.job_text.specs.declared.order.SourceKind.TheVariants.{Guest, File, Input}
use Rattle.job_text.specs.declared.order.SourceKind.{SourceKind}
use Rattle.mcexec_run.specs.declared.chain.Fetched.{Fetched}
use Rattle.mcexec_run.specs.declared.chain.Prepared.{Prepared}
use Rattle.mck_report.specs.declared.status.Status.TheVariants.{BadElf, BadJob, HostFault, LongFile, NoFrames, NoMemory}
use Rattle.mck_report.specs.declared.status.Status.{Status}
use Rattle.outside.specs.Outside.{Held, Rose}
use Rattle.std.specs.Prelude.{◌≡◌, ℕ, ◌+◌, ◌<◌, ◌≤◌, All, nat_lt, List, [], ◌∷◌, ◌++◌, length, map, Contains, Option, Some, None, Result, Ok, Err, cond, slice_get, unwrap_or}

infixl 10 ◌>>=◌
abbrev pub ◌>>=◌ : {A B : Type 0} → Result A Status → (A → Result B Status) → Result B Status
(Ok x) >>= f = f x
(Err e) >>= f = Err e

-- What a step of the chain answers is what `found` is. Want of memory and a fault of the host are free here.
abbrev pub Fails : {A : Type 0} → Status → Result A Status → Type 0
Fails NoMemory found = Unit {0}
Fails HostFault found = Unit {0}
Fails status found = found ≡ Err status

abbrev pub Gives : {X A : Type 0} → (X → A) → Result X Status → Result A Status → Type 0
Gives view (Ok x) found = found ≡ Ok (view x)
Gives view (Err status) found = Fails status found

-- what may stand before a run
abbrev pub IsRefusal : Status → Type 0
IsRefusal (BadJob fault) = Unit {0}
IsRefusal (BadElf guest why) = Unit {0}
IsRefusal (NoFrames guest needed free) = Unit {0}
IsRefusal HostFault = Unit {0}
IsRefusal NoMemory = Unit {0}
IsRefusal (LongFile line) = Unit {0}
IsRefusal status = ⊥

-- among these names is one whose count rose
abbrev pub RoseAmong : {H : Type 0} → (H → List ℕ → ℕ) → H → H → List (List ℕ) → Type 0
RoseAmong faults old new names = (name : List ℕ) × Contains names name × Rose (faults old name) (faults new name)

-- ---- one fetch

-- the bytes of a name: one that the host hasn't is a fault
abbrev pub fetched : Option (List ℕ) → Result (List ℕ) Status
fetched None = Err HostFault
fetched (Some bytes) = Ok bytes

abbrev pub or_bad_job : Result Job JobFault → Result Job Status
or_bad_job (Ok job) = Ok job
or_bad_job (Err fault) = Err (BadJob fault)

abbrev pub or_bad_elf : ℕ → Result Image ElfFault → Result Image Status
or_bad_elf guest (Ok image) = Ok image
or_bad_elf guest (Err why) = Err (BadElf guest why)

-- the name of a guest's image
abbrev pub image_name : GuestLine → List ℕ
image_name line = unwrap_or (slice_get line.args 0) []

unfoldable pub guest_image : Held → ℕ → GuestLine → Result Image Status
guest_image held guest line = do
  bytes ← fetched (held (image_name line))
  or_bad_elf guest (image_of bytes)

-- the bytes of a file or an input of that line
unfoldable pub file_bytes : Held → ℕ → List ℕ → Result (List ℕ) Status
file_bytes held line name = do
  bytes ← fetched (held name)
  cond (nat_lt most_file (length bytes)) (Err (LongFile line)) (Ok bytes)

unfoldable pub job_at : Held → List ℕ → Result Job Status
job_at held name = do
  text ← fetched (held name)
  or_bad_job (job_of text)

-- ---- the lines of a job, one after another

abbrev pub nothing_fetched : Fetched
nothing_fetched = record { images = []; files = []; inputs = [] }

abbrev pub with_image : Fetched → Image → Fetched
with_image f image = record f { images = f.images ++ image ∷ [] }

abbrev pub with_file : Fetched → FileLine → List ℕ → Fetched
with_file f line bytes = record f { files = f.files ++ record line { bytes = bytes } ∷ [] }

abbrev pub with_input : Fetched → InputLine → List ℕ → Fetched
with_input f line bytes = record f { inputs = f.inputs ++ record line { bytes = bytes } ∷ [] }

abbrev pub take_guest : Held → ℕ → Fetched → Option GuestLine → Result Fetched Status
take_guest held guest f None = Ok f
take_guest held guest f (Some line) = guest_image held guest line >>= λ image. Ok (with_image f image)

abbrev pub take_file : Held → Fetched → Option FileLine → Result Fetched Status
take_file held f None = Ok f
take_file held f (Some line) = file_bytes held line.line line.name >>= λ bytes. Ok (with_file f line bytes)

abbrev pub take_input : Held → Fetched → Option InputLine → Result Fetched Status
take_input held f None = Ok f
take_input held f (Some line) = file_bytes held line.line line.name >>= λ bytes. Ok (with_input f line bytes)

abbrev pub take_kind : Held → Job → SourceKind → ℕ → Fetched → Result Fetched Status
take_kind held job Guest place f = take_guest held (place + 1) f (slice_get job.guests place)
take_kind held job File place f = take_file held f (slice_get job.files place)
take_kind held job Input place f = take_input held f (slice_get job.inputs place)

abbrev pub take_source : Held → Job → Source → Fetched → Result Fetched Status
take_source held job s f = take_kind held job s.kind s.place f

abbrev pub take_all : Held → Job → List Source → Fetched → Result Fetched Status
take_all held job [] f = Ok f
take_all held job (s ∷ ss) f = take_source held job s f >>= λ g. take_all held job ss g

-- ---- all that stands before the run

-- the job with what was fetched for it
abbrev pub prepared_job : Job → Fetched → Prepared
prepared_job job f = record { job = record job { files = f.files; inputs = f.inputs }; images = f.images }

abbrev pub or_no_frames : Prepared → Option Shortage → Result Prepared Status
or_no_frames p None = Ok p
or_no_frames p (Some lack) = Err (NoFrames lack.guest lack.needed lack.free)

abbrev pub with_frames : Prepared → Result Prepared Status
with_frames p = or_no_frames p (shortage p.job p.images)

-- the job with all that its lines name, or the first refusal of these
unfoldable pub gathered : Held → List ℕ → Result Prepared Status
gathered held name = job_at held name >>= λ job. take_all held job (sources_of job) nothing_fetched >>= λ f. Ok (prepared_job job f)

-- the same where the frames suffice, or the first refusal before the run
abbrev pub prepared : Held → List ℕ → Result Prepared Status
prepared held name = gathered held name >>= with_frames

-- ---- the names that a call for a job has to fetch

abbrev pub file_name : FileLine → List ℕ
file_name line = line.name

abbrev pub input_name : InputLine → List ℕ
input_name line = line.name

abbrev pub names_of_job : Job → List (List ℕ)
names_of_job job = map image_name job.guests ++ map file_name job.files ++ map input_name job.inputs

abbrev pub names_of : Result Job Status → List (List ℕ)
names_of (Ok job) = names_of_job job
names_of (Err status) = []

abbrev pub has_to_fetch : Held → List ℕ → List (List ℕ)
has_to_fetch held name = name ∷ names_of (job_at held name)

-- ---- what is kept on the way

abbrev pub IsShort : List ℕ → Type 0
IsShort bytes = length bytes ≤ most_file

pub record IsFilled (f : Fetched) : Type 0 where
  pub images : All IsImage f.images
  pub files : All (λ (l : FileLine). IsShort l.bytes) f.files
  pub inputs : All (λ (l : InputLine). IsShort l.bytes) f.inputs

-- the line of its kind is there
abbrev pub IsPlaced : Job → SourceKind → ℕ → Type 0
IsPlaced job Guest place = place < length job.guests
IsPlaced job File place = place < length job.files
IsPlaced job Input place = place < length job.inputs

abbrev pub images_made : SourceKind → ℕ
images_made Guest = 1
images_made File = 0
images_made Input = 0

abbrev pub IsSource : Job → Source → Type 0
IsSource job s = IsPlaced job s.kind s.place

abbrev pub images_in : List Source → ℕ
images_in [] = 0
images_in (s ∷ ss) = images_made s.kind + images_in ss
