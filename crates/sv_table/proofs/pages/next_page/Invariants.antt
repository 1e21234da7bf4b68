use Rattle.slab.specs.Slab.{get}
use Rattle.std.proofs.Common.{◌≡◌, ℕ, ◌-◌, ◌^◌, ◌<◌, ◌≤◌, None}
use Rattle.sv_table.proofs.pages.next_page.Given as goal
use Rattle.sv_table.specs.Walks.{walk}

-- nothing is found up to the page
abbrev pub invariant-loop-page : goal.invariant-loop-page
invariant-loop-page l = (l.from ≤ l.page) × ((q : ℕ) → l.from ≤ q → q < l.page → walk (get l.nodes) q ≡ None)

abbrev pub decreases-loop-page : goal.decreases-loop-page
decreases-loop-page l = 2 ^ 27 - l.page
