use Rattle.job_model.specs.Prepared.{IsForGuest}
use Rattle.kernel_model.specs.OneKernel.{script_lines}
use Rattle.kernel_tables.specs.Shown.{shown_line}
use Rattle.pair_core.proofs.boot_script.boot_script.Given as goal
use Rattle.std.proofs.Common.{All, length, map, ◌+◌, ◌++◌, ◌<◌, ◌^◌, ◌≡◌}

-- the lines that are left
abbrev pub invariant-loop-line : goal.invariant-loop-line
invariant-loop-line l = record {
  left : map shown_line l.script.items ++ script_lines l.index l.rest ≡ script_lines 0 l.job.signals;
  kept : All (IsForGuest (length l.job.guests)) l.rest;
  few : l.index + length l.rest < 2 ^ 63;
}

abbrev pub decreases-loop-line : goal.decreases-loop-line
decreases-loop-line l = length l.rest
