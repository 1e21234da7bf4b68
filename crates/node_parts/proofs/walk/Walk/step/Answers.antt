use Rattle.hybrid_model.specs.Events.{after, may}
use Rattle.node_parts.proofs.OnCourse.{gone, less_on, lessens, looked, on_course, waits_may}
use Rattle.node_parts.proofs.walk.Walk.step.Goals as goal
use Rattle.node_parts.specs.Courses.{Course, Waits, place}
use Rattle.std.proofs.Common.{Some, ap, refl, subst, ◌∙◌, ◌≡◌}

pub invariant_of-self : goal.invariant_of-self
invariant_of-self g c =
    let s = c.self.inside in
    let start = g.M.Offers.pair s.began.value in
    let now = g.M.Offers.pair s.machine in
    looked start now now s.order s.walker c.next_event.new.walker s.waiting c.next_event.new.waiting s.journal s.journal
    s.quiet c.next_event.new.quiet
    c.self.invariant refl refl
    (c.next_event.ensures.turn s.order (place (on_course start s.order s.journal)) c.self.invariant.pair
    c.self.invariant.turn) c.next_event.ensures.quiet

pub invariant_of-self-in_err-make_room : goal.invariant_of-self-in_err-make_room
invariant_of-self-in_err-make_room g c =
    let s = c.self.inside in
    let start = g.M.Offers.pair s.began.value in
    let now = g.M.Offers.pair s.machine in
    looked start now (g.M.Offers.pair c.make_room.new.self) s.order s.walker c.next_event.new.walker s.waiting
    c.next_event.new.waiting s.journal s.journal s.quiet c.next_event.new.quiet
    c.self.invariant c.make_room.ensures.state refl
    (c.next_event.ensures.turn s.order (place (on_course start s.order s.journal)) c.self.invariant.pair
    c.self.invariant.turn) c.next_event.ensures.quiet

pub invariant_of-self-in_err-push : goal.invariant_of-self-in_err-push
invariant_of-self-in_err-push g c =
    let s = c.self.inside in
    let start = g.M.Offers.pair s.began.value in
    let now = g.M.Offers.pair s.machine in
    looked start now (g.M.Offers.pair c.make_room.new.self) s.order s.walker c.next_event.new.walker s.waiting
    c.next_event.new.waiting s.journal c.push.new.self s.quiet c.next_event.new.quiet
    c.self.invariant c.make_room.ensures.state c.in_err-push.ensures.err
    (c.next_event.ensures.turn s.order (place (on_course start s.order s.journal)) c.self.invariant.pair
    c.self.invariant.turn)
    c.next_event.ensures.quiet

pub apply-executed-requires-clause-may : goal.apply-executed-requires-clause-may
apply-executed-requires-clause-may g c =
    let s = c.self.inside in
    let start = g.M.Offers.pair s.began.value in
    let now = g.M.Offers.pair s.machine in
    let w = place (on_course start s.order s.journal) in
    let waits = subst (Waits s.order w c.next_event.new.walker) c.in-Some.ensures.waits
    (c.in-Some.ensures.turn s.order w c.self.invariant.pair c.self.invariant.turn) in
    ap (λ p. may p c.in-Some.event) c.make_room.ensures.state
    ∙ waits_may s.order w c.next_event.new.walker c.in-Some.event now waits c.self.invariant.pair
    c.make_room.ensures.offered

pub invariant_of-self-2 : goal.invariant_of-self-2
invariant_of-self-2 g c =
    let s = c.self.inside in
    let e = c.in-Some.event in
    let start = g.M.Offers.pair s.began.value in
    let now = g.M.Offers.pair s.machine in
    let w = place (on_course start s.order s.journal) in
    let waits = subst (Waits s.order w c.next_event.new.walker) c.in-Some.ensures.waits
    (c.in-Some.ensures.turn s.order w c.self.invariant.pair c.self.invariant.turn) in
    let may_it = waits_may s.order w c.next_event.new.walker e now waits c.self.invariant.pair
    c.make_room.ensures.offered in
    let next : g.M.Offers.pair c.apply-executed.new.self ≡ after now e = c.apply-executed.ensures.after ∙ ap
    (λ p. after p e) c.make_room.ensures.state in
    let on =
    looked start now now s.order s.walker c.next_event.new.walker s.waiting (Some e) s.journal s.journal s.quiet
    c.next_event.new.quiet
    c.self.invariant refl refl waits c.next_event.ensures.quiet in
    gone start now (g.M.Offers.pair c.apply-executed.new.self) s.order c.next_event.new.walker e s.journal
    c.push.new.self c.next_event.new.quiet c.stays_quiet-self-inside.result
    on may_it next c.in_ok-push.ensures.ok
    (c.stays_quiet-self-inside.ensures now may_it next c.next_event.ensures.quiet)

pub returns-clause-less : goal.returns-clause-less
returns-clause-less g c _ =
    let s = c.self.inside in
    let e = c.in-Some.event in
    let start = g.M.Offers.pair s.began.value in
    let now = g.M.Offers.pair s.machine in
    let w = place (on_course start s.order s.journal) in
    let waits = subst (Waits s.order w c.next_event.new.walker) c.in-Some.ensures.waits
    (c.in-Some.ensures.turn s.order w c.self.invariant.pair c.self.invariant.turn) in
    let may_it = waits_may s.order w c.next_event.new.walker e now waits c.self.invariant.pair
    c.make_room.ensures.offered in
    let next : g.M.Offers.pair c.apply-executed.new.self ≡ after now e = c.apply-executed.ensures.after ∙ ap
    (λ p. after p e) c.make_room.ensures.state in
    let on =
    looked start now now s.order s.walker c.next_event.new.walker s.waiting (Some e) s.journal s.journal s.quiet
    c.next_event.new.quiet
    c.self.invariant refl refl waits c.next_event.ensures.quiet in
    let further =
    gone start now (g.M.Offers.pair c.apply-executed.new.self) s.order c.next_event.new.walker e s.journal
    c.push.new.self c.next_event.new.quiet c.stays_quiet-self-inside.result
    on may_it next c.in_ok-push.ensures.ok
    (c.stays_quiet-self-inside.ensures now may_it next c.next_event.ensures.quiet) in
    less_on now (g.M.Offers.pair c.apply-executed.new.self) (place (on_course start s.order c.push.new.self)).pair
    (place c.args.self.now).pair e
    (lessens start now s.order s.walker s.waiting e s.journal s.quiet c.self.invariant may_it) next further.pair
    (c.self.invariant.pair ∙ ap (λ (x : Course). (place x).pair) c.self.view_is)
