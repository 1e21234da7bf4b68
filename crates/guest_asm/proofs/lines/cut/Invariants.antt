use Rattle.std.proofs.Common.{◌≢◌, ◌-◌, ◌≤◌, ◌<◌, ℕ, length, get_or}
use Rattle.guest_asm.proofs.lines.cut.Given as goal

abbrev pub invariant-loop-done : goal.invariant-loop-done
invariant-loop-done l = record {
  within : l.done ≤ length l.text;
  none : (k : ℕ) → k < l.done → get_or l.text k 0 ≢ l.at;
}

abbrev pub decreases-loop-done : goal.decreases-loop-done
decreases-loop-done l = length l.text - l.done
