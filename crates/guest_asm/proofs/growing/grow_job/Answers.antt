use Rattle.std.proofs.Common.{refl}
use Rattle.guest_asm.proofs.Prepared.{same_job, prepared_same}
use Rattle.guest_asm.proofs.growing.grow_job.Goals as goal

pub returns-clause-prepared : goal.returns-clause-prepared
returns-clause-prepared c =
    prepared_same c.args.n _ c.in_ok-images.images c.requires.some c.requires.most
    (same_job c.args.n _ c.in_ok-guests.guests c.new.result c.new-2.result c.new-3.result refl c.in_ok-guests.ensures c.new.ensures c.new-2.ensures c.new-3.ensures)
    c.in_ok-images.ensures
