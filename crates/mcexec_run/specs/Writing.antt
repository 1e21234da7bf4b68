-- The texts of a journal that a walk writes.
use Rattle.hybrid_model.specs.Pairs.{Pair}
use Rattle.hybrid_model.specs.declared.events.Event.{Event}
use Rattle.mcexec_run.specs.Growing.{grow_text}
use Rattle.mcexec_run.specs.Outcome.{text_at}
use Rattle.mcexec_run.specs.declared.stages.Text.{Text}
use Rattle.mcexec_run.specs.declared.stages.Text.TheVariants.{Growth, Of}
use Rattle.std.specs.Prelude.{ℕ, List}

abbrev pub text_of_kind : Text → Pair → List Event → List ℕ
text_of_kind (Of form) = text_at form
text_of_kind (Growth guests) = grow_text guests
