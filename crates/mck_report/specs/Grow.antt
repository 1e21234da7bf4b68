-- What grow writes of a summary.
use Rattle.hybrid_model.specs.declared.events.Ending.{Ending}
use Rattle.hybrid_model.specs.declared.events.Event.{Event}
use Rattle.run_model.specs.Reports.{ending_line}
use Rattle.run_model.specs.Texts.{Number, Text, Part, Line}
use Rattle.run_summary.specs.Summaries.{summary_counts}
use Rattle.run_summary.specs.declared.Summary.{Summary}
use Rattle.std.specs.Prelude.{ℕ, List, [], ◌∷◌, codes}

abbrev pub grow_summary : ℕ → Summary → Ending → ℕ → List Event → List Part
grow_summary guests s e given journal =
    ending_line e ∷ Line (Text (codes "guests") ∷ Number guests ∷ []) ∷ summary_counts s given journal
