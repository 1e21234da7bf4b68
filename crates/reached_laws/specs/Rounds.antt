-- A round with the change for which it was begun, and the pages that a change takes.
use Rattle.clear_rounds.specs.declared.Phase.{Phase}
use Rattle.hybrid_model.specs.Pairs.{Pair, side_of}
use Rattle.isa_model.specs.Memory.{Page}
use Rattle.kernel_model.specs.MemoryCalls.{Effect, lessens}
use Rattle.kernel_model.specs.Nodes.{Thread}
use Rattle.kernel_model.specs.declared.Change.{Change}
use Rattle.kernel_model.specs.declared.Does.TheVariants.{InVm}
use Rattle.mck_word.specs.Maps.{at}
use Rattle.mck_word.specs.Pages.{in_range}
use Rattle.mck_word.specs.declared.PageRange.{PageRange}
use Rattle.std.specs.Prelude.{Some, true, ℕ, ◌≡◌, ◌⊎◌}

-- process p has a round that closes the range, and the thread t to which the round belongs waits to make the change
pub record HasRound (pair : Pair) (p t : ℕ) (change : Change) (closed : PageRange) : Type 0 where
  pub phase : Phase
  pub round : (side_of pair p).round ≡ Some (phase, closed)
  pub owner : (side_of pair p).lwk.changing ≡ Some t
  pub thread : Thread
  pub there : at pair.node.threads t ≡ Some thread
  pub waits : thread.does ≡ InVm change

-- the page is taken away, be it replaced or not, or loses a right
abbrev pub Takes : Effect → ℕ → Page → Type 0
Takes e number page = (in_range e.dropped number ≡ true) ⊎ ((in_range e.protected number ≡ true) × (lessens page.rights e.rights ≡ true))
