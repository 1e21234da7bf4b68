-- The lists of phases that the stages stand for.
use Rattle.call_phases.specs.declared.phases.Kind.{Kind}
use Rattle.call_phases.specs.declared.phases.Kind.TheVariants as kind
use Rattle.call_phases.specs.declared.phases.Stages.{Stages}
use Rattle.call_phases.specs.declared.phases.Stages.TheVariants as left
use Rattle.kernel_model.specs.declared.ranges.Range.{Range}
use Rattle.kernel_model.specs.CallPhases.{most_moved, Phase, Gather, Act, Scatter, Stream}
use Rattle.kernel_model.specs.Progress.{advanced, cut_ranges, vectors, without_empty}
use Rattle.std.specs.Prelude.{ℕ, List, [], ◌∷◌, Option, Some, None}

abbrev pub stage_phases : Stages → List Range → List Phase
stage_phases left.GatherAct rs = Gather rs ∷ Act ∷ []
stage_phases left.Act rs = Act ∷ []
stage_phases left.ActScatter rs = Act ∷ Scatter rs ∷ []
stage_phases left.ActGatherStream rs = Act ∷ Gather rs ∷ Stream [] ∷ []
stage_phases left.ActStream rs = Act ∷ Stream rs ∷ []
stage_phases left.Scatter rs = Scatter rs ∷ []
stage_phases left.GatherStream rs = Gather rs ∷ Stream [] ∷ []
stage_phases left.Stream rs = Stream rs ∷ []
stage_phases left.Over rs = []

-- the kind of a phase
abbrev kind_of_phase : Phase → Kind
kind_of_phase (Gather rs) = kind.Gather
kind_of_phase Act = kind.Act
kind_of_phase (Scatter rs) = kind.Scatter
kind_of_phase (Stream rs) = kind.Stream

abbrev pub kind_of : List Phase → Option Kind
kind_of [] = None
kind_of (phase ∷ phases) = Some (kind_of_phase phase)

-- the phases after n bytes of the first one's first range
abbrev pub moved_past : ℕ → List Phase → List Phase
moved_past n [] = []
moved_past n (Gather rs ∷ phases) = Gather (advanced n (without_empty rs)) ∷ phases
moved_past n (Act ∷ phases) = Act ∷ phases
moved_past n (Scatter rs ∷ phases) = Scatter (advanced n (without_empty rs)) ∷ phases
moved_past n (Stream rs ∷ phases) = Stream (advanced n (without_empty rs)) ∷ phases

-- the stream over the vectors in the bytes
abbrev pub vector_stream : List ℕ → List Phase
vector_stream bytes = Stream (without_empty (cut_ranges most_moved (vectors 16 bytes))) ∷ []
