-- What comes of an event, and of an actor's turn, from one history to the next.
use Rattle.hybrid_model.specs.Events.{may}
use Rattle.hybrid_model.specs.declared.events.Event.{Event}
use Rattle.mck_node.specs.Histories.{History, noted}
use Rattle.mck_node.specs.declared.commits.Refused.TheVariants.{NoMemory, NotNow}
use Rattle.mck_node.specs.declared.commits.Refused.{Refused}
use Rattle.mck_word.specs.declared.no_memory.NoMemory.{NoMemory as Lack}
use Rattle.node_machine.specs.Stepping.{executed}
use Rattle.run_model.specs.Walks.{offer}
use Rattle.run_model.specs.declared.actors.Actor.{Actor}
use Rattle.std.specs.Prelude.{Err, None, Ok, Option, Result, Some, false, true, ℕ, ◌≡◌}

-- It happens where it may, and the answer is how many instructions it executed. Else, and for want of memory, nothing does.
abbrev pub Commits : History → Event → Result ℕ Refused → History → Type 0
Commits old e (Ok n) new = (may old.pair e ≡ true) × (n ≡ executed old.pair e) × (new ≡ noted old e)
Commits old e (Err NotNow) new = (may old.pair e ≡ false) × (new ≡ old)
Commits old e (Err NoMemory) new = (may old.pair e ≡ true) × (new ≡ old)

-- What the actor offers happens. Where it offers nothing, and for want of memory, nothing does.
abbrev pub GoesOn : History → Actor → Result (Option Event) Lack → History → Type 0
GoesOn old actor (Ok (Some e)) new = (offer old.pair actor ≡ Some e) × (new ≡ noted old e)
GoesOn old actor (Ok None) new = (offer old.pair actor ≡ None) × (new ≡ old)
GoesOn old actor (Err _) new = new ≡ old
