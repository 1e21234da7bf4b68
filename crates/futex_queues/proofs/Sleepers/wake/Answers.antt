use Rattle.std.proofs.Common.{List, ℕ, ◌≡◌, ◌≤◌, ap, length, subst, sym, ◌∙◌, arith}
use Rattle.std.specs.Prelude.{filter, map, min, position, take}
use Rattle.std.proofs.lemmas.List.{length-map}
use Rattle.futex_queues.specs.declared.Waiter.{Waiter}
use Rattle.futex_queues.specs.Sleep.{IsQueue, Queue, drop_first, left, shown, sleeps_at, thread_of, waiters}
use Rattle.futex_queues.proofs.Queues.{IsQueue-filter, count-shown, filter-map, left-shown, woken-shown}
use Rattle.futex_queues.proofs.Wakes.{room-to-wake, wake-one, woke-all, woke-full, left-none, left-full, position-first, position-never}
use Rattle.futex_queues.proofs.Sleepers.wake.Goals as goal

-- at most sixteen of the rows sleep there
few : (pid addr : ℕ) (xs : List Waiter) → IsQueue (map shown xs) → length (filter (λ w. sleeps_at pid addr (shown w)) xs) ≤ 16
few pid addr xs q =
    let most = q.few pid addr in
    let same : length (waiters pid addr (map shown xs)) ≡ length (filter (λ w. sleeps_at pid addr (shown w)) xs) = ap length (filter-map shown (sleeps_at pid addr) xs) ∙ length-map (filter (λ w. sleeps_at pid addr (shown w)) xs) shown in
    omega arith

IsQueue-left : (pid addr n : ℕ) (orig rows : List Waiter) → IsQueue (map shown orig) → rows ≡ drop_first (λ w. sleeps_at pid addr (shown w)) n orig → IsQueue (map shown rows)
IsQueue-left pid addr n orig rows q e = subst IsQueue (sym (left-shown (sleeps_at pid addr) n orig rows q.once e)) (IsQueue-filter _ (map shown orig) q)

pub push-requires : goal.push-requires
push-requires c =
    let first = position-first _ _ c.in-Some.i (ap (position (λ w. sleeps_at c.args.pid.0 c.args.addr (shown w))) (sym c.deref.ensures.value) ∙ sym c.in-Some.ensures) in
    room-to-wake _ _ _ _ _ _ _ c.loop-count.invariant.0 c.in-Some.i c.remove-w.result first (few c.args.pid.0 c.args.addr c.self.inside.rows.items c.self.invariant)

pub loop-count-preserved : goal.loop-count-preserved
loop-count-preserved c =
    let first = position-first _ _ c.in-Some.i (ap (position (λ w. sleeps_at c.args.pid.0 c.args.addr (shown w))) (sym c.deref.ensures.value) ∙ sym c.in-Some.ensures) in
    rw (c.remove-w.ensures.items, c.remove-w.ensures.capacity, c.push.ensures)
    (wake-one _ _ _ _ _ _ _ c.loop-count.invariant.0 c.in-Some.i c.remove-w.result c.loop-count-test.true first c.remove-w.ensures.value, c.loop-count.invariant.1)

-- ---- all that were asked for are woken

pub invariant_of-self : goal.invariant_of-self
invariant_of-self c = IsQueue-left c.args.pid.0 c.args.addr c.args.n c.self.inside.rows.items _ c.self.invariant (left-full _ _ _ _ _ _ _ c.loop-count.invariant.0 c.loop-count-test.false)

pub returns-after-loop-count-clause-left : goal.returns-after-loop-count-clause-left
returns-after-loop-count-clause-left c =
    left-shown (sleeps_at c.args.pid.0 c.args.addr) c.args.n c.self.inside.rows.items _ c.self.invariant.once (left-full _ _ _ _ _ _ _ c.loop-count.invariant.0 c.loop-count-test.false)
    ∙ ap (λ (q : Queue). left c.args.pid.0 c.args.addr c.args.n q.list) c.self.view_is

pub returns-after-loop-count-clause-woken : goal.returns-after-loop-count-clause-woken
returns-after-loop-count-clause-woken c =
    woken-shown (sleeps_at c.args.pid.0 c.args.addr) c.args.n c.self.inside.rows.items _ (woke-full _ _ _ _ _ _ _ c.loop-count.invariant.0 c.loop-count-test.false)
    ∙ ap (λ (q : Queue). map thread_of (take c.args.n (waiters c.args.pid.0 c.args.addr q.list))) c.self.view_is

pub returns-after-loop-count-clause-count : goal.returns-after-loop-count-clause-count
returns-after-loop-count-clause-count c =
    count-shown (sleeps_at c.args.pid.0 c.args.addr) c.args.n c.self.inside.rows.items _ _ c.loop-count.invariant.0.number
    (woken-shown (sleeps_at c.args.pid.0 c.args.addr) c.args.n c.self.inside.rows.items _ (woke-full _ _ _ _ _ _ _ c.loop-count.invariant.0 c.loop-count-test.false))
    ∙ ap (λ (q : Queue). min c.args.n (length (waiters c.args.pid.0 c.args.addr q.list))) c.self.view_is

-- ---- no more sleep there

pub invariant_of-self-in_default : goal.invariant_of-self-in_default
invariant_of-self-in_default c =
    let none = position-never (λ w. sleeps_at c.args.pid.0 c.args.addr (shown w)) c.loop-count.self-inside.rows.items (ap (position (λ w. sleeps_at c.args.pid.0 c.args.addr (shown w))) (sym c.deref.ensures.value) ∙ sym c.first_at.ensures ∙ c.in_default.is) in
    IsQueue-left c.args.pid.0 c.args.addr c.args.n c.self.inside.rows.items _ c.self.invariant (left-none _ _ _ _ _ _ _ c.loop-count.invariant.0 none)

pub returns-in_default-clause-left : goal.returns-in_default-clause-left
returns-in_default-clause-left c =
    let none = position-never (λ w. sleeps_at c.args.pid.0 c.args.addr (shown w)) c.loop-count.self-inside.rows.items (ap (position (λ w. sleeps_at c.args.pid.0 c.args.addr (shown w))) (sym c.deref.ensures.value) ∙ sym c.first_at.ensures ∙ c.in_default.is) in
    left-shown (sleeps_at c.args.pid.0 c.args.addr) c.args.n c.self.inside.rows.items _ c.self.invariant.once (left-none _ _ _ _ _ _ _ c.loop-count.invariant.0 none)
    ∙ ap (λ (q : Queue). left c.args.pid.0 c.args.addr c.args.n q.list) c.self.view_is

pub returns-in_default-clause-woken : goal.returns-in_default-clause-woken
returns-in_default-clause-woken c =
    let none = position-never (λ w. sleeps_at c.args.pid.0 c.args.addr (shown w)) c.loop-count.self-inside.rows.items (ap (position (λ w. sleeps_at c.args.pid.0 c.args.addr (shown w))) (sym c.deref.ensures.value) ∙ sym c.first_at.ensures ∙ c.in_default.is) in
    woken-shown (sleeps_at c.args.pid.0 c.args.addr) c.args.n c.self.inside.rows.items _ (woke-all _ _ _ _ _ _ _ c.loop-count.invariant.0 none)
    ∙ ap (λ (q : Queue). map thread_of (take c.args.n (waiters c.args.pid.0 c.args.addr q.list))) c.self.view_is

pub returns-in_default-clause-count : goal.returns-in_default-clause-count
returns-in_default-clause-count c =
    let none = position-never (λ w. sleeps_at c.args.pid.0 c.args.addr (shown w)) c.loop-count.self-inside.rows.items (ap (position (λ w. sleeps_at c.args.pid.0 c.args.addr (shown w))) (sym c.deref.ensures.value) ∙ sym c.first_at.ensures ∙ c.in_default.is) in
    count-shown (sleeps_at c.args.pid.0 c.args.addr) c.args.n c.self.inside.rows.items _ _ c.loop-count.invariant.0.number
    (woken-shown (sleeps_at c.args.pid.0 c.args.addr) c.args.n c.self.inside.rows.items _ (woke-all _ _ _ _ _ _ _ c.loop-count.invariant.0 none))
    ∙ ap (λ (q : Queue). min c.args.n (length (waiters c.args.pid.0 c.args.addr q.list))) c.self.view_is
