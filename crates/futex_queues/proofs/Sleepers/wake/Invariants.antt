use Rattle.std.proofs.Common.{◌-◌, ◌≡◌}
use Rattle.std.specs.Vec.{vec_capacity}
use Rattle.futex_queues.specs.Sleep.{shown, sleeps_at}
use Rattle.futex_queues.proofs.Wakes.{Waking}
use Rattle.futex_queues.proofs.Sleepers.wake.Given as goal

abbrev pub invariant-loop-count : goal.invariant-loop-count
invariant-loop-count l =
    Waking (λ w. sleeps_at l.pid.0 l.addr (shown w)) (λ w. w.tid) l.n l.count l.initial.self-inside.rows.items l.self-inside.rows.items l.out
    × (vec_capacity l.self-inside.rows ≡ vec_capacity l.initial.self-inside.rows)

abbrev pub decreases-loop-count : goal.decreases-loop-count
decreases-loop-count l = l.n - l.count
