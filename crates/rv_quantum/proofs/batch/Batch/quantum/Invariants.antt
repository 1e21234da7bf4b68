use Rattle.isa_model.specs.declared.stops.Stop.TheVariants.{On}
use Rattle.std.proofs.Common.{length, ◌+◌, ◌-◌, ◌<◌, ◌≡◌, ◌≤◌}
use Rattle.rv_quantum.proofs.batch.Batch.quantum.Given as goal

abbrev pub invariant-loop-page : goal.invariant-loop-page
invariant-loop-page g l = record {
  first : l.self.first ≡ l.fn.self.first;
  stop : l.self.stop ≡ On;
  done : l.self.done + l.left ≡ l.fn.self.done + l.most;
  left : l.left ≤ l.most;
  room : l.fn.self.done < 4096;
}

abbrev pub decreases-loop-page : goal.decreases-loop-page
decreases-loop-page g l = 32 - length l.self.images.rows.items
