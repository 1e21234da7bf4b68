use Rattle.isa_model.specs.Memory.{Memory}
use Rattle.kernel_model.specs.MemoryCalls.{count_present}
use Rattle.kernel_model.specs.Pages.{range}
use Rattle.lwk_changes.specs.Shows.{Shows}
use Rattle.std.specs.Prelude.{◌+◌, ◌-◌, ◌≡◌, ◌≤◌}
use Rattle.lwk_changes.proofs.counts.count_present.Given as goal

-- the pages from `from` on are left
abbrev pub invariant-loop-page : goal.invariant-loop-page
invariant-loop-page g l = record {
  few : l.count + l.r.lo ≤ l.from;
  left : (m : Memory) → Shows (g.T.PageTable.rows l.table) m → l.count + count_present m (range l.from l.r.hi) ≡ count_present m l.r;
}

abbrev pub decreases-loop-page : goal.decreases-loop-page
decreases-loop-page g l = l.r.hi - l.from
