-- What a phase's kind says of the phases.
use Rattle.call_phases.specs.Stages.{kind_of, moved_past}
use Rattle.call_phases.specs.StreamBytes.{most_left}
use Rattle.call_phases.specs.declared.phases.Kind.TheVariants as kind
use Rattle.kernel_model.specs.CallPhases.{Phase, Gather, Act, Scatter, Stream, most_moved}
use Rattle.kernel_model.specs.Progress.{advanced, ranges_of, without_empty}
use Rattle.mck_word.specs.Lists.{tail}
use Rattle.std.proofs.Common.{◌≡◌, ◌≤◌, ℕ, List, [], ◌∷◌, arith, get_or, refl}
use Rattle.std.specs.Prelude.{Some}

pub scatter-past : (n : ℕ) (phases : List Phase) → kind_of phases ≡ Some kind.Scatter → moved_past n phases ≡ Scatter (advanced n (without_empty (ranges_of (get_or phases 0 Act)))) ∷ tail phases
scatter-past n [] e = cc
scatter-past n (Gather rs ∷ phases) e = cc
scatter-past n (Act ∷ phases) e = cc
scatter-past n (Scatter rs ∷ phases) e = refl
scatter-past n (Stream rs ∷ phases) e = cc

-- before a gather a stream may still come with all bytes that a call may move
pub gather-left : (phases : List Phase) → kind_of phases ≡ Some kind.Gather → most_moved ≤ most_left phases
gather-left [] e = cc
gather-left (Gather rs ∷ phases) e = omega arith
gather-left (Act ∷ phases) e = cc
gather-left (Scatter rs ∷ phases) e = cc
gather-left (Stream rs ∷ phases) e = cc

pub ruleset gathering = (gather-left)
