-- What each plan that reads keeps.
use Rattle.std.specs.Prelude.{ℕ, ◌<◌, ◌≤◌, ◌^◌, length, All, Option, Some, None}
use Rattle.job_text.specs.Kept.{IsWithin, IsWord}
use Rattle.plan_text.specs.declared.draft.Draft.{Draft}
use Rattle.plan_text.specs.declared.plan.Plan.{Plan}
use Rattle.plan_text.specs.declared.plan.PlanCommand.{PlanCommand}
use Rattle.plan_text.specs.declared.plan.PlanCommand.TheVariants.{Create, Cpu, Mem, Boot, Turns, Release}

abbrev pub IsInstance : ℕ → Type 0
IsInstance instance = IsWithin 1 8 instance

-- on a node of so many cores
abbrev pub IsCommand : ℕ → PlanCommand → Type 0
IsCommand cores (Create instance) = IsInstance instance
IsCommand cores (Cpu instance core) = IsInstance instance × (core < cores)
IsCommand cores (Mem instance frames) = IsInstance instance × IsWithin 1 16000 frames
IsCommand cores (Boot instance job order) = IsInstance instance × IsWord job × (order < 2 ^ 64)
IsCommand cores (Turns count) = IsWithin 1 1000000 count
IsCommand cores (Release instance) = IsInstance instance

pub record IsPlan (plan : Plan) : Type 0 where
  pub cores : IsWithin 1 64 plan.cores
  pub frames : IsWithin 1 16000 plan.frames
  pub most : length plan.commands ≤ 64
  pub commands : All (λ c. IsCommand plan.cores c.command) plan.commands

-- what the lines so far keep
abbrev pub IsPlanned : Option Plan → Type 0
IsPlanned None = Unit {0}
IsPlanned (Some plan) = IsPlan plan

abbrev pub IsDraft : Draft → Type 0
IsDraft d = IsPlanned d.plan
