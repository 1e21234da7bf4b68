-- What an instance keeps of what it booted, and what its whole walk is.
-- Source: this project's own.
use Rattle.hybrid_model.specs.Boot.{boot, shortage}
use Rattle.hybrid_model.specs.Journals.{IsLegal, ending, state}
use Rattle.hybrid_model.specs.Pairs.{Pair}
use Rattle.hybrid_model.specs.declared.events.Ending.TheVariants.{Unfinished}
use Rattle.hybrid_model.specs.declared.events.Event.{Event}
use Rattle.ihk_parts.specs.Turns.{words_of}
use Rattle.job_model.specs.Prepared.{IsPrepared}
use Rattle.job_model.specs.declared.image.Image.{Image}
use Rattle.job_model.specs.declared.job.Job.{Job}
use Rattle.node_parts.specs.Courses.{Course}
use Rattle.node_parts.specs.Partitions.{Booted, gone_on}
use Rattle.run_model.specs.Walks.{IsWalked}
use Rattle.std.specs.Prelude.{List, None, suc, zero, ℕ, ◌≡◌, ◌≢◌, ◌≤◌}

-- an instance with no event made
abbrev pub just_booted : Job → List Image → ℕ → Booted
just_booted job images order = record { job = job; images = images; order = order; made = 0 }

-- the instance after so many turns
abbrev pub turned_times : ℕ → Booted → Booted
turned_times zero b = b
turned_times (suc n) b = gone_on (turned_times n b)

-- The job was prepared, its frames suffice, and the walk began at its boot.
pub record IsOfJob (job : Job) (images : List Image) (walk : Course) : Type 0 where
  pub prepared : IsPrepared job images
  pub frames : shortage job images ≡ None
  pub start : walk.start ≡ boot job images

-- the same instance, with more of its events made perhaps
pub record WentOn (old new : Booted) : Type 0 where
  pub same : new ≡ record old { made = new.made }
  pub made : old.made ≤ new.made

-- The journal is the whole walk of what the instance booted, legal there, and leads to the state, in which the run is
-- over.
pub record IsWholeWalk (b : Booted) (pair : Pair) (journal : List Event) : Type 0 where
  pub prepared : IsPrepared b.job b.images
  pub legal : IsLegal b.job b.images journal
  pub walked : IsWalked b.job b.images (words_of b.order) journal
  pub state : pair ≡ state (boot b.job b.images) journal
  pub over : ending pair ≢ Unfinished
