use Rattle.mck_crew.proofs.crew.run_machine.Given as goal
use Rattle.std.proofs.Common.{[]}

abbrev pub ghosts-run_begun : goal.ghosts-run_begun
ghosts-run_begun g a = record { start = g.M.Offers.pair a.machine; before = [] }
