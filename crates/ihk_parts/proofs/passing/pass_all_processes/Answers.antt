use Rattle.ihk_parts.proofs.Quiet.{none_passed, quiet_passed}
use Rattle.ihk_parts.proofs.passing.pass_all_processes.Goals as goal
use Rattle.ihk_parts.specs.Passing.{Goes}
use Rattle.run_model.specs.Walks.{actors_of_process}
use Rattle.std.proofs.Common.{List, None, arith, flat_map, subst, ℕ}
use Rattle.std.proofs.lemmas.Bool.Decides.{nat_tests}

pub returns-then-quiet-clause-goes : goal.returns-then-quiet-clause-goes
returns-then-quiet-clause-goes g c = quiet_passed (g.P.Offers.pair c.args.machine.now) c.args.skip.now (c.requires.quiet c.if-quiet.true)

pub returns-clause-quiet : goal.returns-clause-quiet
returns-clause-quiet g c = λ same.
    let pair = g.P.Offers.pair c.args.machine.now in
    let passed = subst (λ (numbers : List ℕ). Goes pair (flat_map (actors_of_process pair) numbers) c.args.skip.now None c.pass_processes.new.skip) c.processes.ensures.value c.in_default.ensures in
    c.the_made_processes_decide.ensures pair (none_passed pair c.args.skip.now c.pass_processes.new.skip passed (grind (arith, nat_tests, same)))
