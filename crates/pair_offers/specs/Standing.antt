-- Whether some of the actors have an offer.
use Rattle.hybrid_model.specs.Pairs.{Pair}
use Rattle.mck_word.specs.declared.Pid.{Pid}
use Rattle.run_model.specs.Walks.{actors_of_process, offer}
use Rattle.run_model.specs.declared.actors.Actor.{Actor}
use Rattle.std.specs.List.{list_any}
use Rattle.std.specs.Prelude.{Bool, List, flat_map, is_some, map, ℕ}

abbrev pub offers : Pair → Actor → Bool
offers pair a = is_some (offer pair a)

abbrev pub some_offers : Pair → List Actor → Bool
some_offers pair all = list_any (offers pair) all

abbrev pub pid_number : Pid → ℕ
pid_number p = p.0

-- the actors of these processes
abbrev pub actors_of : Pair → List Pid → List Actor
actors_of pair pids = flat_map (actors_of_process pair) (map pid_number pids)
