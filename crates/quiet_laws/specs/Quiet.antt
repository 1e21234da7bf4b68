-- States in which only cores and the script may have an offer.
-- Source: this project's own.
use Rattle.hybrid_model.specs.Pairs.{Pair}
use Rattle.run_model.specs.Walks.{actors_of_process, first_chosen}
use Rattle.std.specs.Prelude.{None, ℕ, ◌≡◌}

-- no process's kernel, Linux side or worker has an offer
abbrev pub IsQuiet : Pair → Type 0
IsQuiet pair = (p : ℕ) → first_chosen pair (actors_of_process pair p) ≡ None
