-- The names of a job that reads are texts, and among those to be fetched.
use Rattle.job_model.specs.declared.job.FileLine.{FileLine}
use Rattle.job_model.specs.declared.job.GuestLine.{GuestLine}
use Rattle.job_model.specs.declared.job.InputLine.{InputLine}
use Rattle.job_model.specs.declared.job.Job.{Job}
use Rattle.job_text.specs.Kept.{IsFileLine, IsGuestLine, IsInputLine, IsJob, IsWord}
use Rattle.mcexec_run.proofs.Steps.{contains_map, in_back, in_front}
use Rattle.mcexec_run.specs.Chain.{file_name, image_name, input_name, names_of_job}
use Rattle.std.proofs.Common.{All, Contains, IsUtf8, List, [], arith, get_or, length, map, subst, sym, unwrap_or, ℕ, ◌++◌, ◌<◌, ◌∷◌, ◌≡◌}
use Rattle.std.specs.List.{slice_get}

first_word : (words : List (List ℕ)) → 0 < length words → All IsWord words → IsUtf8 (unwrap_or (slice_get words 0) [])
first_word [] h all = absurd (omega arith)
first_word (w ∷ ws) h all = (all 0 w (omega arith)).text

pub guest_text : (job : Job) (i : ℕ) (line : GuestLine) → IsJob job → i < length job.guests → line ≡ get_or job.guests i line → IsUtf8 (image_name line)
guest_text job i line j h e = let l = subst IsGuestLine (sym e) (j.guest_lines i line h) in first_word line.args l.named l.words

pub file_text : (job : Job) (i : ℕ) (line : FileLine) → IsJob job → i < length job.files → line ≡ get_or job.files i line → IsUtf8 line.name
file_text job i line j h e = (subst IsFileLine (sym e) (j.file_lines i line h)).name.text

pub input_text : (job : Job) (i : ℕ) (line : InputLine) → IsJob job → i < length job.inputs → line ≡ get_or job.inputs i line → IsUtf8 line.name
input_text job i line j h e = (subst (IsInputLine (length job.guests)) (sym e) (j.inputs i line h)).name.text

pub guest_among : (job : Job) (i : ℕ) (line : GuestLine) → i < length job.guests → line ≡ get_or job.guests i line → Contains (names_of_job job) (image_name line)
guest_among job i line h e =
    in_front (map image_name job.guests ++ map file_name job.files) (map input_name job.inputs) (image_name line)
    (in_front (map image_name job.guests) (map file_name job.files) (image_name line) (contains_map image_name job.guests i line h e))

pub file_among : (job : Job) (i : ℕ) (line : FileLine) → i < length job.files → line ≡ get_or job.files i line → Contains (names_of_job job) line.name
file_among job i line h e =
    in_front (map image_name job.guests ++ map file_name job.files) (map input_name job.inputs) line.name
    (in_back (map image_name job.guests) (map file_name job.files) line.name (contains_map file_name job.files i line h e))

pub input_among : (job : Job) (i : ℕ) (line : InputLine) → i < length job.inputs → line ≡ get_or job.inputs i line → Contains (names_of_job job) line.name
input_among job i line h e =
    in_back (map image_name job.guests ++ map file_name job.files) (map input_name job.inputs) line.name (contains_map input_name job.inputs i line h e)
