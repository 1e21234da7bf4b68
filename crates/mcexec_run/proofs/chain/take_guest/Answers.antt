use Rattle.job_model.specs.Images.{IsImage}
use Rattle.mcexec_run.proofs.chain.take_guest.Goals as goal
use Rattle.std.proofs.Common.{All, subst, sym}
use Rattle.std.proofs.lemmas.List.Elements.{All-push}

pub returns-clause-kept : goal.returns-clause-kept
returns-clause-kept g c old = record {
  images = subst (All IsImage) (sym c.in_ok-push.ensures.ok) (All-push IsImage _ _ old.images c.in_ok-image.ensures.image);
  files = old.files;
  inputs = old.inputs;
}
