use Rattle.hybrid_model.specs.Events.{after, may}
use Rattle.ihk_parts.specs.Turns.{chosen, first_turn}
use Rattle.ihk_parts.proofs.Offered.{chosen_none, chosen_offered}
use Rattle.ihk_parts.proofs.Walked.{follows_on, front, legal_on, state_on, taken, turned, untaken, whole}
use Rattle.ihk_parts.proofs.walking.walk_journal.Goals as goal
use Rattle.run_model.specs.Walks.{walk_for}
use Rattle.ihk_parts.specs.Turns.{words_of}
use Rattle.ihk_parts.specs.Walking.{walker_at}
use Rattle.hybrid_model.specs.declared.events.Event.{Event}
use Rattle.std.proofs.Common.{List, Some, ap, length, subst, sym, true, ◌<◌, ◌∙◌, ◌≡◌}
use Rattle.work_laws.specs.Left.{left}

pub returns-in_default-clause-front : goal.returns-in_default-clause-front
returns-in_default-clause-front g c = front c.args.order (g.M.Offers.pair c.args.machine.now) c.steps.journal c.steps.walker (g.M.Offers.pair c.steps.machine) c.steps.invariant.follows

pub returns-in_default-clause-whole : goal.returns-in_default-clause-whole
returns-in_default-clause-whole g c =
    let pair = g.M.Offers.pair c.steps.machine in
    whole c.args.order (g.M.Offers.pair c.args.machine.now) c.steps.journal c.steps.walker pair c.steps.invariant.follows (untaken (chosen c.steps.walker pair) c.in_default.ensures.event)

pub returns-in_default-clause-over : goal.returns-in_default-clause-over
returns-in_default-clause-over g c =
    let pair = g.M.Offers.pair c.steps.machine in
    c.ending-ending.ensures.over (chosen_none c.steps.walker pair (untaken (chosen c.steps.walker pair) c.in_default.ensures.event))

pub returns-in_err-make_room-clause-front : goal.returns-in_err-make_room-clause-front
returns-in_err-make_room-clause-front g c = front c.args.order (g.M.Offers.pair c.args.machine.now) c.steps.journal c.steps.walker (g.M.Offers.pair c.steps.machine) c.steps.invariant.follows

pub returns-in_err-push-clause-front : goal.returns-in_err-push-clause-front
returns-in_err-push-clause-front g c =
    subst (λ (js : List Event). walk_for (words_of c.args.order) (length js) (walker_at (g.M.Offers.pair c.args.machine.now)) ≡ js) (sym c.in_err-push.ensures.err)
    (front c.args.order (g.M.Offers.pair c.args.machine.now) c.steps.journal c.steps.walker (g.M.Offers.pair c.steps.machine) c.steps.invariant.follows)

pub apply-executed-requires-clause-may : goal.apply-executed-requires-clause-may
apply-executed-requires-clause-may g c =
    let pair = g.M.Offers.pair c.steps.machine in
    let t = taken (chosen c.steps.walker pair) c.in-Some.event c.in-Some.ensures.event in
    let o = chosen_offered c.steps.walker pair t.choice t.chosen in
    ap (λ p. may p c.in-Some.event) c.make_room.ensures.state ∙ c.make_room.ensures.offered o.0 (o.1 ∙ ap (λ e. Some e) (sym t.event))

pub steps-preserved : goal.steps-preserved
steps-preserved g c =
    let start = g.M.Offers.pair c.args.machine.now in
    let pair = g.M.Offers.pair c.steps.machine in
    let t = taken (chosen c.steps.walker pair) c.in-Some.event c.in-Some.ensures.event in
    let o = chosen_offered c.steps.walker pair t.choice t.chosen in
    let may_it : may pair c.in-Some.event ≡ true = c.make_room.ensures.offered o.0 (o.1 ∙ ap (λ e. Some e) (sym t.event)) in
    let next : g.M.Offers.pair c.apply-executed.new.self ≡ after pair c.in-Some.event = c.apply-executed.ensures.after ∙ ap (λ p. after p c.in-Some.event) c.make_room.ensures.state in
    record {
      follows = follows_on (first_turn c.args.order) start c.steps.journal c.push.new.self c.steps.walker c.next.new.self pair (g.M.Offers.pair c.apply-executed.new.self) t.choice c.in-Some.event c.steps.invariant.follows t.chosen t.event
          c.in_ok-push.ensures.ok (turned (chosen c.steps.walker pair) t.choice c.steps.walker c.next.new.self t.chosen c.next.ensures.turn) next;
      legal = legal_on start pair c.steps.journal c.push.new.self c.in-Some.event c.steps.invariant.legal c.steps.invariant.state may_it c.in_ok-push.ensures.ok;
      state = state_on start pair (g.M.Offers.pair c.apply-executed.new.self) c.steps.journal c.push.new.self c.in-Some.event c.steps.invariant.state next c.in_ok-push.ensures.ok;
      quiet = c.stays_quiet-quiet.ensures pair may_it next c.in-Some.ensures.quiet;
    }

pub steps-smaller : goal.steps-smaller
steps-smaller g c =
    let pair = g.M.Offers.pair c.steps.machine in
    let t = taken (chosen c.steps.walker pair) c.in-Some.event c.in-Some.ensures.event in
    let o = chosen_offered c.steps.walker pair t.choice t.chosen in
    let may_it : may pair c.in-Some.event ≡ true = c.make_room.ensures.offered o.0 (o.1 ∙ ap (λ e. Some e) (sym t.event)) in
    let next : g.M.Offers.pair c.apply-executed.new.self ≡ after pair c.in-Some.event = c.apply-executed.ensures.after ∙ ap (λ p. after p c.in-Some.event) c.make_room.ensures.state in
    let less = c.requires.ends c.steps.journal c.in-Some.event c.steps.invariant.legal (ap (λ p. may p c.in-Some.event) (sym c.steps.invariant.state) ∙ may_it) in
    subst (λ p. left p < left pair) (sym next) (subst (λ p. left (after p c.in-Some.event) < left p) (sym c.steps.invariant.state) less)
