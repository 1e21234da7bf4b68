use Rattle.kernel_model.specs.MemoryCalls.{count_present}
use Rattle.kernel_model.specs.Pages.{range}
use Rattle.std.specs.Prelude.{◌+◌, ◌-◌, ◌≡◌, ◌≤◌}
use Rattle.one_changes.proofs.counts.count_present.Given as goal

-- the pages from `from` on are left
abbrev pub invariant-loop-page : goal.invariant-loop-page
invariant-loop-page l = record {
  few : l.count + l.r.lo ≤ l.from;
  left : l.count + count_present l.memory.map (range l.from l.r.hi) ≡ count_present l.memory.map l.r;
}

abbrev pub decreases-loop-page : goal.decreases-loop-page
decreases-loop-page l = l.r.hi - l.from
