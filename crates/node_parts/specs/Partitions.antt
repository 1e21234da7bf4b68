-- Partitions of a node: which instance has each core and each frame, what each instance has booted and how far it has
-- walked, and what each call leaves or why it is refused.
-- Source: this project's own, after the idea of IHK.
use Rattle.hybrid_model.specs.Boot.{Shortage, shortage}
use Rattle.ihk_parts.specs.Turns.{words_of}
use Rattle.job_model.specs.declared.image.Image.{Image}
use Rattle.job_model.specs.declared.job.Job.{Job}
use Rattle.mck_word.specs.Maps.{Map, at, collect, cut, no_rows, put}
use Rattle.node_parts.specs.declared.refusal.PartRefusal.{PartRefusal}
use Rattle.node_parts.specs.declared.refusal.PartRefusal.TheVariants.{Booted as AlreadyBooted, Cores, Frames, Known}
use Rattle.node_parts.specs.declared.refusal.PartRefusal.TheVariants.{NoFrames, Short, Taken, Unknown}
use Rattle.run_model.specs.Walks.{Walker, moved, next_choice, start}
use Rattle.std.specs.Option.{option_map}
use Rattle.std.specs.Prelude.{ℕ, zero, suc, ◌+◌, ◌==◌, nat_lt, Bool, true, false, cond, Option, Some, None, is_some}
use Rattle.std.specs.Prelude.{is_none, List, [], ◌∷◌, map, replicate, count_by, slice_index_or, slice_set}
use Rattle.std.specs.Prelude.{Result, Ok, Err}

-- ---- the state

-- a booted instance: its job and its images, the order of its walk, and how many events of that walk it has made
pub record Booted : Type 0 where
  pub job : Job
  pub images : List Image
  pub order : ℕ
  pub made : ℕ

-- of each core and of each frame the instance that has it, if any; and the instances by their numbers, with what each
-- has booted
pub record Partitions : Type 0 where
  pub core_owners : List (Option ℕ)
  pub frame_owners : List (Option ℕ)
  pub instances : Map (Option Booted)

abbrev pub nothing_parted : ℕ → ℕ → Partitions
nothing_parted cores frames = record {
  core_owners = replicate cores None;
  frame_owners = replicate frames None;
  instances = no_rows;
}

-- ---- owners

abbrev pub has_it : ℕ → Option ℕ → Bool
has_it i None = false
has_it i (Some owner) = owner == i

-- how many the instance has, and how many are free
abbrev pub held : ℕ → List (Option ℕ) → ℕ
held i owners = count_by (has_it i) owners

abbrev pub free : List (Option ℕ) → ℕ
free owners = count_by is_none owners

-- the n lowest free ones go to the instance
abbrev pub lowest_given : ℕ → ℕ → List (Option ℕ) → List (Option ℕ)
lowest_given i n [] = []
lowest_given i n (Some owner ∷ owners) = Some owner ∷ lowest_given i n owners
lowest_given i zero (None ∷ owners) = None ∷ owners
lowest_given i (suc n) (None ∷ owners) = Some i ∷ lowest_given i n owners

-- all that the instance has comes back
abbrev pub given_back : ℕ → List (Option ℕ) → List (Option ℕ)
given_back i owners = map (λ owner. cond (has_it i owner) None owner) owners

-- ---- walks

-- where a walk stands after at most n events
abbrev pub walked : Option (ℕ → ℕ) → ℕ → Walker → Walker
walked words zero w = w
walked words (suc n) w = elim (next_choice words w) [ None ↦ w | Some c ↦ walked words n (moved c w) ]

-- where the instance stands: after the events of its own walk that it has made, whatever other instances do
abbrev pub stands : Booted → Walker
stands b = walked (words_of b.order) b.made (start b.job b.images)

abbrev pub has_more : Booted → Bool
has_more b = is_some (next_choice (words_of b.order) (stands b))

-- the instance after its next event, if there is one
abbrev pub gone_on : Booted → Booted
gone_on b = cond (has_more b) (record b { made = b.made + 1 }) b

-- ---- the calls: the partitions after them, or why they are refused

abbrev pub Answer : Type 0
Answer = Result Partitions PartRefusal

abbrev pub with_instance : ℕ → Option Booted → Partitions → Partitions
with_instance i booted s = record s { instances = put s.instances i booted }

abbrev pub create_where : Option (Option Booted) → ℕ → Partitions → Answer
create_where None i s = Ok (with_instance i None s)
create_where (Some booted) i s = Err Known

abbrev pub create : ℕ → Partitions → Answer
create i s = create_where (at s.instances i) i s

-- what an instance gets, it gets before it is booted
abbrev pub before_boot : Option (Option Booted) → Answer → Answer
before_boot None answer = Err Unknown
before_boot (Some None) answer = answer
before_boot (Some (Some booted)) answer = Err AlreadyBooted

abbrev pub owner_of : ℕ → List (Option ℕ) → Option ℕ
owner_of place owners = slice_index_or owners place None

abbrev pub give_core : Option ℕ → ℕ → ℕ → Partitions → Answer
give_core None i core s = Ok (record s { core_owners = slice_set s.core_owners core (Some i) })
give_core (Some owner) i core s = Err (Taken owner)

abbrev pub cpu : ℕ → ℕ → Partitions → Answer
cpu i core s = before_boot (at s.instances i) (give_core (owner_of core s.core_owners) i core s)

abbrev pub mem : ℕ → ℕ → Partitions → Answer
mem i n s = before_boot (at s.instances i)
    (cond (nat_lt (free s.frame_owners) n) (Err (Short n (free s.frame_owners)))
    (Ok (record s { frame_owners = lowest_given i n s.frame_owners })))

abbrev pub start_where : Option Shortage → ℕ → Booted → Partitions → Answer
start_where (Some lack) i b s = Err (NoFrames lack.guest lack.needed lack.free)
start_where None i b s = Ok (with_instance i (Some b) s)

abbrev pub boot : ℕ → Job → List Image → ℕ → Partitions → Answer
boot i job images order s = before_boot (at s.instances i)
    (cond (nat_lt (held i s.core_owners) job.cores) (Err (Cores job.cores (held i s.core_owners)))
    (cond (nat_lt (held i s.frame_owners) job.frames) (Err (Frames job.frames (held i s.frame_owners)))
    (start_where (shortage job images) i (record { job = job; images = images; order = order; made = 0 }) s)))

-- each booted instance whose number passes goes on by one event
abbrev pub turned_where : (ℕ → Bool) → Partitions → Partitions
turned_where passes s = record s {
  instances = collect (λ i booted. Some (cond (passes i) (option_map gone_on booted) booted)) s.instances;
}

abbrev pub turned : Partitions → Partitions
turned s = turned_where (λ i. true) s

abbrev pub released : ℕ → Partitions → Partitions
released i s = record {
  core_owners = given_back i s.core_owners;
  frame_owners = given_back i s.frame_owners;
  instances = cut s.instances i;
}
