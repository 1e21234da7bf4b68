use Rattle.hybrid_model.specs.Events.{may}
use Rattle.hybrid_model.specs.declared.events.Event.TheVariants.{BeginVm, Interrupt, Wait}
use Rattle.kernel_model.specs.Nodes.{thread_of}
use Rattle.mck_word.specs.Identifiers.{tid}
use Rattle.pair_core.specs.Shown.{pair_of}
use Rattle.pair_node.proofs.Offering.{there-along}
use Rattle.pair_node.proofs.pair.Pair.first_of_threads.Goals as goal
use Rattle.pair_offers.proofs.Threads.{all-left, begins-first, else-none, left-else, left-fewer, left-is, left-not, left-own, none-left, of-threads}
use Rattle.pair_offers.specs.Seeking.{interrupts, or_else, thread_number, waits}
use Rattle.std.proofs.Common.{ap, sym, ◌∙◌}
use Rattle.std.specs.Prelude.{find, option_map}

pub loop-t-init : goal.loop-t-init
loop-t-init g c =
    let pair = pair_of g.T.PageTable.rows g.F.FileStore.files c.args.self.now.parts in
    record {
      begin = all-left pair c.args.p (λ t. BeginVm (tid t));
      interrupt = all-left pair c.args.p (λ t. Interrupt (tid t));
      wait = all-left pair c.args.p (λ t. Wait (tid t));
    }

pub if_it_may-requires : goal.if_it_may-requires
if_it_may-requires g c =
    let pair = pair_of g.T.PageTable.rows g.F.FileStore.files c.args.self.now.parts in
    there-along g.T.PageTable.rows g.F.FileStore.files c.args.self.now.parts c.args.side.now (thread_of pair.node c.in-Some.t.0).process c.args.p.0 (left-own pair c.args.p (option_map thread_number c.loop-t.passed) c.in-Some.t.0 (sym c.in-Some.ensures)) c.requires

pub or_if_it_may-interrupt-requires : goal.or_if_it_may-interrupt-requires
or_if_it_may-interrupt-requires g c =
    let pair = pair_of g.T.PageTable.rows g.F.FileStore.files c.args.self.now.parts in
    there-along g.T.PageTable.rows g.F.FileStore.files c.args.self.now.parts c.args.side.now (thread_of pair.node c.in-Some.t.0).process c.args.p.0 (left-own pair c.args.p (option_map thread_number c.loop-t.passed) c.in-Some.t.0 (sym c.in-Some.ensures)) c.requires

pub or_if_it_may-wait-requires : goal.or_if_it_may-wait-requires
or_if_it_may-wait-requires g c =
    let pair = pair_of g.T.PageTable.rows g.F.FileStore.files c.args.self.now.parts in
    there-along g.T.PageTable.rows g.F.FileStore.files c.args.self.now.parts c.args.side.now (thread_of pair.node c.in-Some.t.0).process c.args.p.0 (left-own pair c.args.p (option_map thread_number c.loop-t.passed) c.in-Some.t.0 (sym c.in-Some.ensures)) c.requires

pub returns-in-Some-if_it_may : goal.returns-in-Some-if_it_may
returns-in-Some-if_it_may g c =
    let pair = pair_of g.T.PageTable.rows g.F.FileStore.files c.args.self.now.parts in
    let passed = option_map thread_number c.loop-t.passed in
    sym (begins-first pair c.args.p c.in-Some-if_it_may.event
    (c.loop-t.invariant.begin ∙ left-is pair c.args.p passed c.in-Some.t.0 (sym c.in-Some.ensures) (λ t. BeginVm (tid t)) c.in-Some-if_it_may.event (sym c.in-Some-if_it_may.ensures)))

pub loop-t-smaller : goal.loop-t-smaller
loop-t-smaller g c = left-fewer (pair_of g.T.PageTable.rows g.F.FileStore.files c.args.self.now.parts) c.args.p (option_map thread_number c.loop-t.passed) c.in-Some.t.0 (sym c.in-Some.ensures)

pub loop-t-preserved : goal.loop-t-preserved
loop-t-preserved g c =
    let pair = pair_of g.T.PageTable.rows g.F.FileStore.files c.args.self.now.parts in
    let passed = option_map thread_number c.loop-t.passed in
    let next = sym c.in-Some.ensures in
    record {
      begin = c.loop-t.invariant.begin ∙ left-not pair c.args.p passed c.in-Some.t.0 next (λ t. BeginVm (tid t)) (sym c.in_default-if_it_may.ensures);
      interrupt = left-else pair c.args.p passed c.in-Some.t.0 next (λ t. Interrupt (tid t)) (find (may pair) (interrupts pair c.args.p)) c.loop-t.interrupt c.or_if_it_may-interrupt.result c.loop-t.invariant.interrupt c.or_if_it_may-interrupt.ensures;
      wait = left-else pair c.args.p passed c.in-Some.t.0 next (λ t. Wait (tid t)) (find (may pair) (waits pair c.args.p)) c.loop-t.wait c.or_if_it_may-wait.result c.loop-t.invariant.wait c.or_if_it_may-wait.ensures;
    }

pub returns : goal.returns
returns g c =
    let pair = pair_of g.T.PageTable.rows g.F.FileStore.files c.args.self.now.parts in
    let passed = option_map thread_number c.loop-t.passed in
    let none = sym c.in_default.ensures in
    let begin = c.loop-t.invariant.begin ∙ none-left pair c.args.p passed (λ t. BeginVm (tid t)) none in
    let interrupt = c.loop-t.invariant.interrupt ∙ (ap (or_else c.loop-t.interrupt) (none-left pair c.args.p passed (λ t. Interrupt (tid t)) none) ∙ else-none c.loop-t.interrupt) in
    let wait = c.loop-t.invariant.wait ∙ (ap (or_else c.loop-t.wait) (none-left pair c.args.p passed (λ t. Wait (tid t)) none) ∙ else-none c.loop-t.wait) in
    c.either.ensures ∙ sym (of-threads pair c.args.p c.loop-t.interrupt c.loop-t.wait begin interrupt wait)
