use Rattle.mck_report.proofs.Journals.{all_more, cut_shorter, no_feed, not_nothing, one_more, other_line}
use Rattle.mck_report.proofs.reading.read_events.Goals as goal
use Rattle.mck_report.specs.Reading.{IsEntry}
use Rattle.std.proofs.Common.{arith, length, length-append, [], ◌∷◌, ap, ◌≡◌, ◌+◌, ◌∙◌}

pub returns-in_default-clause-broken : goal.returns-in_default-clause-broken
returns-in_default-clause-broken c n e = record {
  rest = c.loop-rest.rest.now;
  text = c.loop-rest.invariant.spelled;
  number = (let k : c.loop-rest.line ≡ n = cc in omega (arith, c.loop-rest.invariant.number));
  some = not_nothing c.loop-rest.rest.now c.loop-rest-test.ensures;
  none = λ f more h. no_feed c.loop-rest.rest.now f more c.in_default.ensures h.fits;
}

pub returns-in_default-read_entry-clause-broken : goal.returns-in_default-read_entry-clause-broken
returns-in_default-read_entry-clause-broken c n e = record {
  rest = c.loop-rest.rest.now;
  text = c.loop-rest.invariant.spelled;
  number = (let k : c.loop-rest.line ≡ n = cc in omega (arith, c.loop-rest.invariant.number));
  some = not_nothing c.loop-rest.rest.now c.loop-rest-test.ensures;
  none = λ f more h. other_line c.loop-rest.rest.now c.in-Some.text.now c.in-Some.more.now f more c.in-Some.ensures (c.in_default-read_entry.ensures.none f h) h.fits;
}

pub loop-rest-smaller : goal.loop-rest-smaller
loop-rest-smaller c = omega (arith, cut_shorter c.loop-rest.rest.now c.in-Some.text.now c.in-Some.more.now c.in-Some.ensures)

pub loop-rest-preserved : goal.loop-rest-preserved
loop-rest-preserved c = record {
  spelled = one_more c.args.bytes.now c.loop-rest.rest.now c.in-Some.text.now c.in-Some.more.now c.loop-rest.journal c.push.new.self c.in-Some-read_entry.event
      c.loop-rest.invariant.spelled c.in-Some.ensures c.in-Some-read_entry.ensures.line c.in_ok-push.ensures.ok;
  entries = all_more (IsEntry c.args.version) c.loop-rest.journal c.push.new.self c.in-Some-read_entry.event c.loop-rest.invariant.entries c.in-Some-read_entry.ensures.entry c.in_ok-push.ensures.ok;
  number = (let longer : length c.push.new.self ≡ length c.loop-rest.journal + 1 = ap length c.in_ok-push.ensures.ok ∙ length-append c.loop-rest.journal (c.in-Some-read_entry.event ∷ []) in
      omega (arith, c.loop-rest.invariant.number));
  room = omega (arith, c.loop-rest.invariant.room, cut_shorter c.loop-rest.rest.now c.in-Some.text.now c.in-Some.more.now c.in-Some.ensures);
}
