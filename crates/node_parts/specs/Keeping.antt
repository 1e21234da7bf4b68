-- What calls leave: owners that are there, what other instances have, and where memory runs out.
-- Source: this project's own.
use Rattle.job_model.specs.declared.job.Job.{Job}
use Rattle.mck_word.specs.Maps.{and_then, at}
use Rattle.node_parts.specs.Instances.{WentOn}
use Rattle.node_parts.specs.Partitions.{Answer, Booted, Partitions, has_it, held, owner_of, turned_where, with_instance}
use Rattle.node_parts.specs.declared.refusal.PartRefusal.{PartRefusal}
use Rattle.node_parts.specs.declared.refusal.PartRefusal.TheVariants.{Cores, Frames, NoMemory}
use Rattle.std.specs.Prelude.{Bool, Err, Option, Some, cond, is_some, length, nat_lt, true, ℕ, ◌≡◌}

-- what the instance has booted, if anything
abbrev pub booted_at : ℕ → Partitions → Option Booted
booted_at i s = and_then (at s.instances i) (λ booted. booted)

-- what the instance has is asked before frames are counted
abbrev pub if_held : ℕ → Job → Partitions → Answer → Answer
if_held i job s answer =
    cond (nat_lt (held i s.core_owners) job.cores) (Err (Cores job.cores (held i s.core_owners)))
    (cond (nat_lt (held i s.frame_owners) job.frames) (Err (Frames job.frames (held i s.frame_owners))) answer)

-- whether the instance is there
abbrev pub is_there : ℕ → Partitions → Bool
is_there i s = is_some (at s.instances i)

-- every owner is an instance that is there
pub record IsOwned (s : Partitions) : Type 0 where
  pub cores : (place i : ℕ) → owner_of place s.core_owners ≡ Some i → is_there i s ≡ true
  pub frames : (place i : ℕ) → owner_of place s.frame_owners ≡ Some i → is_there i s ≡ true

-- The instance is as it was, and has what it had.
pub record KeepsInstance (j : ℕ) (old new : Partitions) : Type 0 where
  pub instance : at new.instances j ≡ at old.instances j
  pub cores : (place : ℕ) → has_it j (owner_of place new.core_owners) ≡ has_it j (owner_of place old.core_owners)
  pub frames : (place : ℕ) → has_it j (owner_of place new.frame_owners) ≡ has_it j (owner_of place old.frame_owners)

-- as many cores and frames as before
pub record SameSizes (old new : Partitions) : Type 0 where
  pub cores : length new.core_owners ≡ length old.core_owners
  pub frames : length new.frame_owners ≡ length old.frame_owners

-- ---- where memory runs out

-- the definition refuses so; want of memory is free
abbrev pub Refuses : PartRefusal → Answer → Type 0
Refuses NoMemory answer = Unit {0}
Refuses why answer = answer ≡ Err why

-- the instances below some number have turned
abbrev pub SomeTurned : Partitions → Partitions → Type 0
SomeTurned old new = (n : ℕ) × (new ≡ turned_where (λ i. nat_lt i n) old)

-- only the instance has gone on, with what it booted
abbrev pub WentOnAt : ℕ → Booted → Partitions → Partitions → Type 0
WentOnAt i b old new = (c : Booted) × WentOn b c × (new ≡ with_instance i (Some c) old)
