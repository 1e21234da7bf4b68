-- The lines of a job that name something of the host, in their order in the text.
use Rattle.std.specs.Prelude.{ℕ, ◌+◌, nat_lt, List, [], ◌∷◌, ◌++◌, if◌then◌else◌}
use Rattle.job_model.specs.declared.job.Job.{Job}
use Rattle.job_model.specs.declared.job.GuestLine.{GuestLine}
use Rattle.job_model.specs.declared.job.FileLine.{FileLine}
use Rattle.job_model.specs.declared.job.InputLine.{InputLine}
use Rattle.job_text.specs.declared.order.Source.{Source}
use Rattle.job_text.specs.declared.order.SourceKind.TheVariants.{Guest, File, Input}

-- those of one kind, from a place on
abbrev pub guests_from : ℕ → List GuestLine → List Source
guests_from place [] = []
guests_from place (g ∷ gs) = record { line = g.line; kind = Guest; place = place } ∷ guests_from (place + 1) gs

abbrev pub files_from : ℕ → List FileLine → List Source
files_from place [] = []
files_from place (f ∷ fs) = record { line = f.line; kind = File; place = place } ∷ files_from (place + 1) fs

abbrev pub inputs_from : ℕ → List InputLine → List Source
inputs_from place [] = []
inputs_from place (i ∷ is_) = record { line = i.line; kind = Input; place = place } ∷ inputs_from (place + 1) is_

-- one put before those of the second list that stand at or behind its line
abbrev pub before_line : ℕ → List Source → List Source
before_line line [] = []
before_line line (s ∷ ss) = if nat_lt s.line line then s ∷ before_line line ss else []

abbrev pub from_line : ℕ → List Source → List Source
from_line line [] = []
from_line line (s ∷ ss) = if nat_lt s.line line then from_line line ss else s ∷ ss

-- two lists that rise by line in one that does
abbrev pub by_line : List Source → List Source → List Source
by_line [] seconds = seconds
by_line (s ∷ ss) seconds = before_line s.line seconds ++ s ∷ by_line ss (from_line s.line seconds)

abbrev pub sources_of : Job → List Source
sources_of job = by_line (by_line (guests_from 0 job.guests) (files_from 0 job.files)) (inputs_from 0 job.inputs)
