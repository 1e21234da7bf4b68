use Rattle.mcexec_run.proofs.Outcomes.{claimed, ran_short, refused, walk_outcome}
use Rattle.mcexec_run.proofs.walks.walk_into.Goals as goal
use Rattle.mcexec_run.specs.Chain.{with_frames}
use Rattle.mcexec_run.specs.Outcome.{LeavesWalk, NoLine, ShowsWalk}
use Rattle.mcexec_run.specs.Writing.{text_of_kind}
use Rattle.ihk_parts.specs.Walking.{LeavesLess}
use Rattle.std.proofs.Common.{refl, subst, sym}

pub returns-in-Err-clause-outcome : goal.returns-in-Err-clause-outcome
returns-in-Err-clause-outcome g c =
    refused (with_frames c.args.p.now) (LeavesWalk c.args.order) NoLine (ShowsWalk c.args.order (text_of_kind c.args.text)) c.in-Err.status c.args.journal.now (g.S.Sink.taken c.args.sink.now) (g.S.Sink.taken c.args.sink.now) c.in-Err.ensures.refusal c.in-Err.ensures.value c.requires.empty refl

pub returns-clause-outcome : goal.returns-clause-outcome
returns-clause-outcome g c =
    ran_short (with_frames c.args.p.now) c.args.p.now (g.M.Offers.pair c.in-Ok.machine) c.args.order (text_of_kind c.args.text) c.walk_journal.new.journal (g.S.Sink.taken c.args.sink.now) (g.S.Sink.taken c.args.sink.now)
    c.in-Ok.ensures.value (claimed c.args.p.now (λ journal legal. c.every_legal_journal.ensures c.args.p.now.job c.args.p.now.images journal c.requires.prepared legal) c.the_candidates_stand_for_all.ensures.over) c.in-Ok.ensures.state c.walk_journal.ensures.front c.in-Ok.ensures.frames c.walk_journal.ensures.legal refl

pub returns-in-Ok-walk_journal-clause-outcome : goal.returns-in-Ok-walk_journal-clause-outcome
returns-in-Ok-walk_journal-clause-outcome g c =
    walk_outcome (with_frames c.args.p.now) c.args.p.now (g.M.Offers.pair c.in-Ok.machine) (g.M.Offers.pair c.walk_journal.new.machine) c.args.order (text_of_kind c.args.text) c.walk_journal.new.journal c.as_slice.result.now c.show.result
    (g.S.Sink.taken c.args.sink.now) (g.S.Sink.taken c.show.new.sink) c.in-Ok.ensures.value (claimed c.args.p.now (λ journal legal. c.every_legal_journal.ensures c.args.p.now.job c.args.p.now.images journal c.requires.prepared legal) c.the_candidates_stand_for_all.ensures.over) c.in-Ok.ensures.state c.walk_journal.ensures.front c.in-Ok-walk_journal.ensures.whole c.in-Ok.ensures.frames
    c.walk_journal.ensures.legal c.walk_journal.ensures.state c.in-Ok-walk_journal.ensures.over c.as_slice.ensures c.show.ensures.puts

pub walk_journal-requires-clause-ends : goal.walk_journal-requires-clause-ends
walk_journal-requires-clause-ends g c =
    let p = c.args.p.now in
    subst LeavesLess (sym c.in-Ok.ensures.state)
    (λ journal e legal may. c.every_event_leaves_less.ensures.always p.job p.images journal e c.requires.prepared (c.in-Ok.ensures.frames, legal) may)
