use Rattle.mcexec_run.proofs.GivenAnswers.{SoFar}
use Rattle.mcexec_run.proofs.chain.take_all.Given as goal
use Rattle.mcexec_run.specs.Chain.{IsFilled, IsSource, images_in, nothing_fetched, take_all}
use Rattle.outside.specs.Outside.{HostGoesOn, WhereTold}
use Rattle.std.proofs.Common.{length, ◌+◌, ◌≡◌}
use Rattle.std.specs.List.{AllByRecursion}

abbrev pub invariant-loop-source : goal.invariant-loop-source
invariant-loop-source g l = record {
  goes_on : HostGoesOn g.H.Host.holds g.H.Host.faults l.fn.host l.host;
  value : WhereTold (g.H.Host.holds l.fn.host) (λ held. take_all held l.job l.rest l.fetched ≡ take_all held l.job l.all nothing_fetched);
  given : SoFar l.job l.all l.rest l.fetched;
  placed : AllByRecursion (IsSource l.job) l.rest;
  filled : IsFilled l.fetched;
  count : length l.fetched.images + images_in l.rest ≡ images_in l.all;
}

abbrev pub decreases-loop-source : goal.decreases-loop-source
decreases-loop-source g l = length l.rest
