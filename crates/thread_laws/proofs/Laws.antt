-- Which threads there are after each event, in whole states.
use Rattle.hybrid_laws.proofs.maps.Tests.{both, some-is}
use Rattle.hybrid_model.specs.Events.{after, may, may_here, of_thread, process_of_event}
use Rattle.hybrid_model.specs.Globals.{Coherent, Known, is_number, ring_number}
use Rattle.hybrid_model.specs.Pairs.{Pair, here, side_of}
use Rattle.hybrid_model.specs.declared.events.Event.TheVariants.{Intake, Reap, Trap}
use Rattle.hybrid_model.specs.declared.events.Event.{Event}
use Rattle.kernel_model.specs.Nodes.{Thread, is_living, is_stopped, is_there, thread_of}
use Rattle.mck_word.specs.Maps.{at}
use Rattle.mck_word.specs.declared.Pid.{Pid}
use Rattle.mck_word.specs.declared.Tid.{Tid}
use Rattle.offer_laws.proofs.Sizes.{sizes-stay}
use Rattle.std.proofs.Common.{ap, arith, refl, sym, ◌∙◌}
use Rattle.std.proofs.lemmas.Bool.Decides.{nat_tests}
use Rattle.std.specs.Prelude.{Bool, None, Option, Some, cond, false, is_some, not, true, ℕ, ◌&&◌, ◌==◌, ◌≡◌}
use Rattle.thread_laws.proofs.Ends.{intake-threads, reap-threads}
use Rattle.thread_laws.proofs.Members.{IntakeThreads, TrapThreads}
use Rattle.thread_laws.proofs.Others.{others-same}
use Rattle.thread_laws.proofs.Trapping.{trap-threads}
use Rattle.thread_laws.specs.Members.{SameThreads, StaysOrGoes, keeps_threads, outside, process_at, process_in, thread_answered}

pub other-keeps : (pair : Pair) (e : Event) → keeps_threads e ≡ true → SameThreads pair.node (after pair e).node
other-keeps pair e k = let p = process_of_event pair.node e in others-same e k p (here pair p)

pub cores-stay : (pair : Pair) (e : Event) → (after pair e).cores ≡ pair.cores
cores-stay pair e = let p = process_of_event pair.node e in ap (λ (z : ℕ × ℕ × ℕ). z.0) (sizes-stay e p (here pair p))

-- no thread has the next number yet
pub none-next : (pair : Pair) → Known pair → process_at pair.node pair.node.next_number ≡ None
none-next pair known = go (at pair.node.threads pair.node.next_number) refl
  where
    go : (o : Option Thread) → at pair.node.threads pair.node.next_number ≡ o → process_in o ≡ None
    go None e = refl
    go (Some x) e = absurd (let l = known.threads_below pair.node.next_number x e in omega (arith, l))

pub trap-keeps : (pair : Pair) (t : Tid) → Known pair → may pair (Trap t) ≡ true → TrapThreads t.0 pair.node (after pair (Trap t)).node
trap-keeps pair t known m = let p = of_thread pair.node t.0 in trap-threads t p (here pair p) (none-next pair known) other
  where
    other : (t.0 == pair.node.next_number) ≡ false
    other =
        let x = thread_of pair.node t.0 in
        let a = both (is_there pair.node x.process) (may_here (Trap t) (here pair x.process)) m in
        let b = both (is_some (at pair.node.threads t.0) && is_stopped x.does) (is_living pair.node x.process) a.1 in
        let c = both (is_some (at pair.node.threads t.0)) (is_stopped x.does) b.0 in
        let y = some-is (at pair.node.threads t.0) c.0 in
        let l = known.threads_below t.0 y.0 y.1 in
        grind (arith, nat_tests, l)

-- so what is found at two numbers tells which threads there are
pub trap-found : (pair : Pair) (t : Tid) → Known pair → may pair (Trap t) ≡ true → (u : ℕ)
    → process_at (after pair (Trap t)).node u ≡ cond (u == t.0) (process_at (after pair (Trap t)).node t.0)
    (cond (u == pair.node.next_number) (process_at (after pair (Trap t)).node pair.node.next_number) (process_at pair.node u))
trap-found pair t known m u = go (u == t.0) refl (u == pair.node.next_number) refl
  where
    now : ℕ → Option ℕ
    now k = process_at (after pair (Trap t)).node k

    go : (b : Bool) → (u == t.0) ≡ b → (d : Bool) → (u == pair.node.next_number) ≡ d
        → now u ≡ cond b (now t.0) (cond d (now pair.node.next_number) (process_at pair.node u))
    go true e d g = let same : u ≡ t.0 = grind (arith, nat_tests, e) in ap now same
    go false e true g = let same : u ≡ pair.node.next_number = grind (arith, nat_tests, g) in ap now same
    go false e false g = (trap-keeps pair t known m).others u e g

pub intake-keeps : (pair : Pair) (p : Pid) → Coherent pair → IntakeThreads p.0 (thread_answered (side_of pair p.0)) pair.node (after pair (Intake p)).node
intake-keeps pair p c = intake-threads p.0 (here pair p.0) pair.workers (ring_number pair) (c.whole p.0)

-- a message makes no thread, and ends none in a process that lives
pub intake-stays : (pair : Pair) (p : Pid) → Coherent pair → (u : ℕ) → StaysOrGoes u pair.node (after pair (Intake p)).node
intake-stays pair p c u q e = go (is_number u (thread_answered (side_of pair p.0)) && not (is_living pair.node p.0)) (sym ((intake-keeps pair p c).exactly u) ∙ e)
  where
    go : (b : Bool) → cond b None (process_at pair.node u) ≡ Some q → process_at pair.node u ≡ Some q
    go true k = absurd (grind (arith, k))
    go false k = k

pub intake-living : (pair : Pair) (p : Pid) → Coherent pair → is_living pair.node p.0 ≡ true → SameThreads pair.node (after pair (Intake p)).node
intake-living pair p c l u = (intake-keeps pair p c).exactly u ∙ go (is_number u (thread_answered (side_of pair p.0))) (is_living pair.node p.0) l
  where
    go : (b d : Bool) → d ≡ true → cond (b && not d) None (process_at pair.node u) ≡ process_at pair.node u
    go b false k = absurd (grind (arith, k))
    go true true k = refl
    go false true k = refl

pub reap-takes : (pair : Pair) (p : Pid) (u : ℕ) → process_at (after pair (Reap p)).node u ≡ outside p.0 (process_at pair.node u)
reap-takes pair p u = reap-threads p.0 (here pair p.0) u
