use Rattle.file_model.specs.Files.{Files}
use Rattle.kernel_tables.specs.Room.{KeepsRoom}
use Rattle.kernel_tables.specs.Shown.{node_of}
use Rattle.kernel_tables.specs.Steps.{all_answered}
use Rattle.std.proofs.Common.{drop, ◌≡◌}
use Rattle.kernel_tables.proofs.tables.KernelTables.answer_all.Given as goal

abbrev pub invariant-loop-t : goal.invariant-loop-t
invariant-loop-t l = record {
  node : (files : Files) → all_answered (drop l.t-index l.threads) (node_of l.self files) ≡ all_answered l.threads (node_of l.initial.self files);
  room : KeepsRoom l.initial.self l.self;
}
