use Rattle.one_changes.proofs.Falling.{Most}
use Rattle.std.specs.Prelude.{◌≤◌}
use Rattle.one_changes.proofs.gaps.highest_gap.Given as goal

-- no gap ends above `end`
abbrev pub invariant-loop-page : goal.invariant-loop-page
invariant-loop-page l = record {
  from : 0x10 ≤ l.end;
  to : l.end ≤ 0x3f00000;
  most : Most l.memory.map l.pages l.end;
}

abbrev pub decreases-loop-page : goal.decreases-loop-page
decreases-loop-page l = l.end
