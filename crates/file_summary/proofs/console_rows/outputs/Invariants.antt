use Rattle.file_summary.proofs.console_rows.outputs.Given as goal
use Rattle.file_summary.specs.Rows.{output_at}
use Rattle.mck_word.specs.Maps.{keys}
use Rattle.std.specs.Prelude.{length, map, take, ◌-◌, ◌≡◌, ◌≤◌}

abbrev pub invariant-consoles : goal.invariant-consoles
invariant-consoles g l = let files = g.F.FileStore.files l.files in record {
  within : l.place ≤ length (keys files.consoles);
  outputs : l.outputs ≡ map (output_at files) (take l.place (keys files.consoles));
}

abbrev pub decreases-consoles : goal.decreases-consoles
decreases-consoles g l = length (keys (g.F.FileStore.files l.files).consoles) - l.place
