-- Changes of memory within their bounds: the ranges that they map, and where heaps begin.
use Rattle.job_model.specs.Images.{highest}
use Rattle.kernel_model.specs.MemoryCalls.{Reply as DecidedReply, Round as DecidedRound, Decision, Now}
use Rattle.kernel_model.specs.Nodes.{Node, Process, Thread, change_in}
use Rattle.kernel_model.specs.declared.Change.TheVariants.{Brk, Map as ChangeMap, Protect, Unmap}
use Rattle.kernel_model.specs.declared.Change.{Change}
use Rattle.mck_word.specs.Maps.{Map, at}
use Rattle.std.specs.Prelude.{None, Option, Some, ℕ, ◌^◌, ◌≡◌, ◌≤◌}

-- The pages of a change rise, those that it maps end at 2^27 at most, and a break is at most 2^39.
abbrev pub ChangeFits : Change → Type 0
ChangeFits (ChangeMap r rights) = (r.lo ≤ r.hi) × (r.hi ≤ 2 ^ 27)
ChangeFits (Unmap r) = r.lo ≤ r.hi
ChangeFits (Protect r rights) = r.lo ≤ r.hi
ChangeFits (Brk a) = a ≤ 2 ^ 39

-- the change for which a thread waits
abbrev pub wanted : Option Thread → Option Change
wanted None = None
wanted (Some x) = change_in x.does

-- each heap begins where the segments of an image may end, or below, and each change that a thread waits for fits
pub record MemoryFits (processes : Map Process) (threads : Map Thread) : Type 0 where
  pub heaps : (p : ℕ) (x : Process) → at processes p ≡ Some x → x.heap_base ≤ highest
  pub changes : (t : ℕ) (c : Change) → wanted (at threads t) ≡ Some c → ChangeFits c

abbrev pub NodeFits : Node → Type 0
NodeFits a = MemoryFits a.processes a.threads

abbrev pub DecisionFits : Decision → Type 0
DecisionFits (DecidedReply answer) = Unit {0}
DecisionFits (Now c) = ChangeFits c
DecisionFits (DecidedRound c) = ChangeFits c
