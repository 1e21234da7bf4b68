use Rattle.std.proofs.Common.{◌-◌, ◌≡◌, ap, arith, false, not, sym, ◌∙◌}
use Rattle.mck_word.specs.Lists.{count_from}
use Rattle.std.specs.Prelude.{find, slice_index_or, unwrap_or}
use Rattle.lwk_threads.proofs.Lowest.{find-hit, find-step}
use Rattle.lwk_threads.proofs.member_rows.lowest_place.Goals as goal

pub loop-n-init : goal.loop-n-init
loop-n-init c =
    let whole : c.args.group.now.live ≡ c.args.group.now.live - 0 = omega arith in
    ap (λ k. find (λ n. not (slice_index_or c.args.group.now.taken n false)) (count_from 0 k)) whole

pub loop-n-preserved : goal.loop-n-preserved
loop-n-preserved c = c.loop-n.invariant ∙ find-step (λ n. not (slice_index_or c.args.group.now.taken n false)) c.loop-n.n c.args.group.now.live c.loop-n-test.true (ap not c.if-not-group-n.false)

pub returns-then-not-group-n-clause-lowest : goal.returns-then-not-group-n-clause-lowest
returns-then-not-group-n-clause-lowest c =
    sym (ap (λ o. unwrap_or o c.args.group.now.live) (c.loop-n.invariant ∙ find-hit (λ n. not (slice_index_or c.args.group.now.taken n false)) c.loop-n.n c.args.group.now.live c.loop-n-test.true (ap not c.if-not-group-n.true)))
