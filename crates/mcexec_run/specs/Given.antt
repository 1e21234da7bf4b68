-- What stands before a run whatever the host is, also one that tells nothing: it comes to what the answers to its fetches make of it. A
-- host may answer two fetches of one name differently, so the answers stand one behind another: the job's, then those of its lines in
-- their order.
use Rattle.job_model.specs.declared.job.Job.{Job}
use Rattle.job_text.specs.Order.{sources_of}
use Rattle.job_text.specs.declared.order.Source.{Source}
use Rattle.mcexec_run.specs.Chain.{◌>>=◌, job_at, nothing_fetched, prepared_job, take_source, with_frames}
use Rattle.mcexec_run.specs.Replaying.{Traced, with_trace}
use Rattle.mcexec_run.specs.declared.chain.Fetched.{Fetched}
use Rattle.mcexec_run.specs.declared.chain.Prepared.{Prepared}
use Rattle.mck_report.specs.declared.status.Status.TheVariants.{HostFault}
use Rattle.mck_report.specs.declared.status.Status.{Status}
use Rattle.outside.specs.Outside.{Held, Rose}
use Rattle.std.specs.Prelude.{ℕ, List, [], ◌∷◌, Option, Result, Ok, Err}

-- the answer to one fetch: bytes, or none
abbrev pub Answer : Type 0
Answer = Option (List ℕ)

-- a host that has this answer under each name
abbrev pub only : Answer → Held
only answer name = answer

-- what holds of one fetch for the answer to it
abbrev pub Answered : (Held → Type 0) → Type 0
Answered P = (answer : Answer) × P (only answer)

-- ---- the job and its lines

abbrev pub take_given : List Answer → Job → List Source → Fetched → Result Fetched Status
take_given answers job [] f = Ok f
take_given [] job (s ∷ ss) f = Err HostFault
take_given (answer ∷ answers) job (s ∷ ss) f = take_source (only answer) job s f >>= λ g. take_given answers job ss g

-- the job with all that its lines name, or the first refusal of these
abbrev pub gathered_given : List Answer → Result Prepared Status
gathered_given [] = Err HostFault
gathered_given (answer ∷ answers) =
    job_at (only answer) [] >>= λ job. take_given answers job (sources_of job) nothing_fetched >>= λ f. Ok (prepared_job job f)

-- the same where the frames suffice, or the first refusal before the run
abbrev pub prepared_given : List Answer → Result Prepared Status
prepared_given answers = gathered_given answers >>= with_frames

-- What holds of that for some answers.
abbrev pub Given : (Result Prepared Status → Type 0) → Type 0
Given P = (answers : List Answer) × P (prepared_given answers)

-- ---- a job with a trace, which is fetched last

abbrev pub traced_given : List Answer → Answer → Result Traced Status
traced_given answers trace = gathered_given answers >>= with_trace (only trace) []

abbrev pub GivenTraced : (Result Traced Status → Type 0) → Type 0
GivenTraced P = (answers : List Answer) × (trace : Answer) × P (traced_given answers trace)

-- ---- faults

-- a name's count rose
abbrev pub RoseSomewhere : {H : Type 0} → (H → List ℕ → ℕ) → H → H → Type 0
RoseSomewhere faults old new = (name : List ℕ) × Rose (faults old name) (faults new name)
