use Rattle.mck_word.specs.Maps.{at}
use Rattle.one_changes.specs.Lessened.{lessened_in}
use Rattle.std.specs.Prelude.{false, ℕ, ◌-◌, ◌<◌, ◌≡◌, ◌≤◌}
use Rattle.one_changes.proofs.counts.lessens_any.Given as goal

-- no page before `from` would lose a right
abbrev pub invariant-loop-page : goal.invariant-loop-page
invariant-loop-page l = record {
  low : l.r.lo ≤ l.from;
  before : (k : ℕ) → l.r.lo ≤ k → k < l.from → lessened_in (at l.memory.map k) l.rights ≡ false;
}

abbrev pub decreases-loop-page : goal.decreases-loop-page
decreases-loop-page l = l.r.hi - l.from
