use Rattle.hybrid_model.specs.Events.{after, may}
use Rattle.mcexec_run.proofs.TraceLines.{line_more, no_event, rest_shorter}
use Rattle.ihk_parts.proofs.Walked.{legal_on, state_on}
use Rattle.mcexec_run.proofs.replaying.replay_lines.Goals as goal
use Rattle.mck_report.proofs.Journals.{all_more, not_nothing}
use Rattle.mck_report.specs.Reading.{IsEntry}
use Rattle.std.proofs.Common.{[], ap, arith, length, length-append, sym, true, ◌+◌, ◌∙◌, ◌∷◌, ◌≡◌}

pub returns-then-not-may-clause-refused : goal.returns-then-not-may-clause-refused
returns-then-not-may-clause-refused g c n e =
    let same : c.lines.line ≡ n = cc in
    no_event (g.M.Offers.pair c.args.machine.now) (g.M.Offers.pair c.lines.machine) c.args.version n c.lines.journal c.args.bytes.now c.lines.rest.now c.in-Some.more.now c.in-Some.event
    c.lines.invariant.text (sym same ∙ c.lines.invariant.number) (not_nothing c.lines.rest.now c.lines-test.ensures) c.in-Some.ensures.some.0 c.in-Some.ensures.some.1 c.lines.invariant.state (sym c.if-not-may.ensures)

pub lines-preserved : goal.lines-preserved
lines-preserved g c =
    let start = g.M.Offers.pair c.args.machine.now in
    let pair = g.M.Offers.pair c.lines.machine in
    let e = c.in-Some.event in
    let shorter = rest_shorter c.lines.rest.now c.in-Some.more.now e c.in-Some.ensures.some.1 in
    let next : g.M.Offers.pair c.apply.new.self ≡ after pair e = c.apply.ensures.after ∙ ap (λ p. after p e) c.make_room.ensures.state in
    let may_it : may pair e ≡ true = sym c.may.ensures ∙ c.if-not-may.false in
    record {
      text = line_more c.args.bytes.now c.lines.rest.now c.in-Some.more.now c.lines.journal c.push.new.self e c.lines.invariant.text c.in-Some.ensures.some.1 c.in_ok-push.ensures.ok;
      entries = all_more (IsEntry c.args.version) c.lines.journal c.push.new.self e c.lines.invariant.entries c.in-Some.ensures.some.0 c.in_ok-push.ensures.ok;
      number = (let longer : length c.push.new.self ≡ length c.lines.journal + 1 = ap length c.in_ok-push.ensures.ok ∙ length-append c.lines.journal (e ∷ []) in omega (arith, c.lines.invariant.number));
      room = omega (arith, c.lines.invariant.room);
      legal = legal_on start pair c.lines.journal c.push.new.self e c.lines.invariant.legal c.lines.invariant.state may_it c.in_ok-push.ensures.ok;
      state = state_on start pair (g.M.Offers.pair c.apply.new.self) c.lines.journal c.push.new.self e c.lines.invariant.state next c.in_ok-push.ensures.ok;
    }
