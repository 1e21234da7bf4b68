use Rattle.hybrid_model.specs.Journals.{may_all, state}
use Rattle.ihk_parts.specs.Turns.{first_turn}
use Rattle.ihk_parts.proofs.walking.walk_journal.Given as goal
use Rattle.ihk_parts.specs.Walking.{Follows}
use Rattle.quiet_laws.specs.Quiet.{IsQuiet}
use Rattle.std.proofs.Common.{true, ◌≡◌}
use Rattle.work_laws.specs.Left.{left}

abbrev pub invariant-steps : goal.invariant-steps
invariant-steps g l = record {
  follows : Follows (first_turn l.order) (g.M.Offers.pair l.fn.machine) l.journal l.walker (g.M.Offers.pair l.machine);
  legal : may_all (g.M.Offers.pair l.fn.machine) l.journal ≡ true;
  state : g.M.Offers.pair l.machine ≡ state (g.M.Offers.pair l.fn.machine) l.journal;
  quiet : l.quiet ≡ true → IsQuiet (g.M.Offers.pair l.machine);
}

abbrev pub decreases-steps : goal.decreases-steps
decreases-steps g l = left (g.M.Offers.pair l.machine)
