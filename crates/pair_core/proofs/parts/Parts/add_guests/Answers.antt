use Rattle.hybrid_model.specs.Boot.{shortage_from}
use Rattle.hybrid_model.specs.Pairs.{Pair}
use Rattle.job_model.specs.Images.{IsImage}
use Rattle.job_model.specs.Prepared.{HasArguments}
use Rattle.kernel_model.specs.OneKernel.{guests_from}
use Rattle.pair_core.proofs.BootFolds.{goes-on}
use Rattle.pair_core.proofs.BootLists.{all-first, all-rest}
use Rattle.pair_core.proofs.BootNode.{before-more}
use Rattle.pair_core.proofs.parts.Parts.add_guests.Goals as goal
use Rattle.pair_core.specs.Booting.{IsBefore, guest_at, pair_with}
use Rattle.pair_core.specs.Shown.{pair_of}
use Rattle.std.proofs.Common.{ap, arith, fold, length, subst, sym, ◌+◌, ◌∙◌, ◌≡◌}

pub add_guest-requires-clause-image : goal.add_guest-requires-clause-image
add_guest-requires-clause-image g c =
    all-first IsImage c.loop-line.left.now c.in-Some-split_first.others.now c.in-Some-split_first.image.now c.in-Some-split_first.ensures.cases.0 c.loop-line.invariant.images

pub loop-line-preserved : goal.loop-line-preserved
unfolding pair_of
loop-line-preserved g c =
    let was = c.loop-line.invariant in
    let made = c.in_ok-add_guest.ensures in
    let lines = c.in-Some.ensures.cases.0 in
    let images = c.in-Some-split_first.ensures.cases.0 in
    let n = c.loop-line.number in
    let more = c.in-Some.more.now in
    let others = c.in-Some-split_first.others.now in
    let guest = guest_at n c.in-Some.line.now c.in-Some-split_first.image.now in
    let x = pair_of g.T.PageTable.rows g.F.FileStore.files c.loop-line.self in
    let free = length c.loop-line.self.lwk.pool.free in
    let long = ap length lines in
    let same : c.add_guest.new.self.workers ≡ c.loop-line.self.workers = ap (λ (p : Pair). p.workers) made.state in
    record {
      state = ap (λ (p : Pair). fold pair_with p (guests_from (n + 1) more others)) made.state
          ∙ ((λ i. fold pair_with x (guests_from n (sym lines i) (sym images i))) ∙ was.state);
      frames = goes-on free (length c.add_guest.new.self.lwk.pool.free) guest (guests_from (n + 1) more others) made.frames made.left
          ∙ ((λ i. shortage_from free (guests_from n (sym lines i) (sym images i))) ∙ was.frames);
      kept = made.kept;
      workers = omega (arith, same, was.workers);
      before = subst (λ (p : Pair). IsBefore (n + 1) p.node) (sym made.state) (before-more guest x.node was.before);
      most = omega (arith, was.most, long);
      arguments = all-rest HasArguments c.loop-line.rest.now more c.in-Some.line.now lines was.arguments;
      images = all-rest IsImage c.loop-line.left.now others c.in-Some-split_first.image.now images was.images;
    }
