-- What some answers to the fetches of a call come to.
use Rattle.hybrid_model.specs.Boot.{shortage}
use Rattle.job_model.specs.declared.job.Job.{Job}
use Rattle.job_text.specs.Order.{sources_of}
use Rattle.job_text.specs.declared.order.Source.{Source}
use Rattle.mcexec_run.proofs.ReplayOutcomes.{framed, frames_same}
use Rattle.mcexec_run.proofs.Steps.{fails_on}
use Rattle.mcexec_run.specs.Chain.{◌>>=◌, Fails, RoseAmong, fetched, job_at, nothing_fetched, prepared_job, take_source, with_frames}
use Rattle.mcexec_run.specs.Given.{Answer, Answered, RoseSomewhere, gathered_given, only, take_given, traced_given}
use Rattle.mcexec_run.specs.Replaying.{Traced, with_trace}
use Rattle.mcexec_run.specs.declared.chain.Fetched.{Fetched}
use Rattle.mcexec_run.specs.declared.chain.Prepared.{Prepared}
use Rattle.mck_report.specs.declared.status.Status.{Status}
use Rattle.std.proofs.Common.{List, Ok, ap, append_assoc, arith, length, refl, subst, sym, ℕ, [], ◌++◌, ◌∙◌, ◌∷◌, ◌≡◌}

-- ---- the lines of a job, one after another

-- What was fetched so far is what some answers come to, whatever the answers to the rest are.
abbrev pub SoFar : Job → List Source → List Source → Fetched → Type 0
SoFar job all rest f = (done : List Answer) × ((more : List Answer) → take_given more job rest f ≡ take_given (done ++ more) job all nothing_fetched)

pub none_so_far : (job : Job) (all : List Source) → SoFar job all all nothing_fetched
none_so_far job all = ([], λ more. refl)

-- one line more
pub one_more_given : (job : Job) (all ss : List Source) (s : Source) (f g : Fetched) → SoFar job all (s ∷ ss) f → Answered (λ held. take_source held job s f ≡ Ok g) → SoFar job all ss g
one_more_given job all ss s f g so one = (
  so.0 ++ one.0 ∷ [],
  λ more. sym (ap (λ r. r >>= λ h. take_given more job ss h) one.1) ∙ (so.1 (one.0 ∷ more) ∙ ap (λ xs. take_given xs job all nothing_fetched) (sym (append_assoc so.0 (one.0 ∷ []) more))),
)

-- a line that was refused
pub refused_given : (job : Job) (all ss : List Source) (s : Source) (f : Fetched) (status : Status) → SoFar job all (s ∷ ss) f → Answered (λ held. Fails status (take_source held job s f))
    → (answers : List Answer) × Fails status (take_given answers job all nothing_fetched)
refused_given job all ss s f status so one = (
  so.0 ++ one.0 ∷ [],
  subst (Fails status) (so.1 (one.0 ∷ [])) (fails_on status (take_source (only one.0) job s f) (λ h. take_given [] job ss h) one.1),
)

-- no line is left
pub whole_given : (job : Job) (all rest : List Source) (f : Fetched) → length rest ≡ 0 → SoFar job all rest f → (answers : List Answer) × (take_given answers job all nothing_fetched ≡ Ok f)
whole_given job all [] f none so = (so.0 ++ [], sym (so.1 []))
whole_given job all (s ∷ ss) f none so = absurd (omega arith)

-- ---- the job and its lines

-- an answer serves whatever the name is
job_anywhere : (name : List ℕ) (status : Status) (answer : Answer) → Fails status (job_at (only answer) name) → Fails status (job_at (only answer) [])
unfolding job_at
job_anywhere name status answer h = h

job_here : (name : List ℕ) (job : Job) (answer : Answer) → job_at (only answer) name ≡ Ok job → job_at (only answer) [] ≡ Ok job
unfolding job_at
job_here name job answer h = h

pub job_refused : (name : List ℕ) (status : Status) → Answered (λ held. Fails status (job_at held name)) → (answers : List Answer) × Fails status (gathered_given answers)
job_refused name status one = (
  one.0 ∷ [],
  fails_on status (job_at (only one.0) []) (λ job. take_given [] job (sources_of job) nothing_fetched >>= λ f. Ok (prepared_job job f)) (job_anywhere name status one.0 one.1),
)

lines_after : (job : Job) (answer : Answer) (answers : List Answer) → job_at (only answer) [] ≡ Ok job
    → gathered_given (answer ∷ answers) ≡ (take_given answers job (sources_of job) nothing_fetched >>= λ f. Ok (prepared_job job f))
lines_after job answer answers e = ap (λ r. r >>= λ job. take_given answers job (sources_of job) nothing_fetched >>= λ f. Ok (prepared_job job f)) e

pub lines_refused : (name : List ℕ) (job : Job) (status : Status) → Answered (λ held. job_at held name ≡ Ok job)
    → (answers : List Answer) × Fails status (take_given answers job (sources_of job) nothing_fetched) → (answers : List Answer) × Fails status (gathered_given answers)
lines_refused name job status one lines = (
  one.0 ∷ lines.0,
  subst (Fails status) (sym (lines_after job one.0 lines.0 (job_here name job one.0 one.1)))
      (fails_on status (take_given lines.0 job (sources_of job) nothing_fetched) (λ f. Ok (prepared_job job f)) lines.1),
)

pub all_given : (name : List ℕ) (job : Job) (f : Fetched) → Answered (λ held. job_at held name ≡ Ok job)
    → (answers : List Answer) × (take_given answers job (sources_of job) nothing_fetched ≡ Ok f) → (answers : List Answer) × (gathered_given answers ≡ Ok (prepared_job job f))
all_given name job f one lines =
    (one.0 ∷ lines.0, lines_after job one.0 lines.0 (job_here name job one.0 one.1) ∙ ap (λ r. r >>= λ f. Ok (prepared_job job f)) lines.1)

-- ---- a trace

-- where the trace was fetched, the job stays as it is
pub start_given : (answers : List Answer) (trace : Answer) (p : Prepared) (t : Traced) → gathered_given answers ≡ Ok p → traced_given answers trace ≡ Ok t → t.start ≡ p
start_given answers trace p t g e =
    framed (fetched trace) p (with_frames p) t (λ q w. frames_same p q (shortage p.job p.images) w) (sym (ap (λ r. r >>= with_trace (only trace) []) g) ∙ e)

-- ---- faults

pub somewhere : {H : Type 0} (faults : H → List ℕ → ℕ) (old new : H) (names : List (List ℕ)) → RoseAmong faults old new names → RoseSomewhere faults old new
somewhere faults old new names among = (among.0, among.2)
