-- A trap and a line of the script are paid for: a Stopped thread, or an unsent line, is fewer. A run pays by its instructions for the thread that it may stop.
use Rattle.hybrid_model.specs.declared.events.Event.TheVariants as Events
use Rattle.hybrid_laws.proofs.calls.Closed.{finishes-closed, for_process-closed}
use Rattle.hybrid_laws.proofs.maps.Sums.{counted_in}
use Rattle.hybrid_laws.proofs.maps.Tests.{both}
use Rattle.hybrid_laws.proofs.node.Sound.{same-instructions, sound-of}
use Rattle.hybrid_laws.proofs.node.Threads.{thread-is, thread-other}
use Rattle.hybrid_laws.proofs.run.Run.{MayRun, may-run}
use Rattle.hybrid_laws.proofs.run.Whole.{run-counts, run-on, stops-one}
use Rattle.hybrid_laws.proofs.states.Effect.{set-instructions}
use Rattle.hybrid_laws.proofs.trap.Begins.{Traps, may-traps}
use Rattle.hybrid_laws.specs.Stopped.{stops}
use Rattle.hybrid_model.specs.Events.{after_here, may, may_here, process_of_event}
use Rattle.hybrid_model.specs.Globals.{Coherent}
use Rattle.hybrid_model.specs.OneProcess.{memory_here, set_break, view_here}
use Rattle.hybrid_model.specs.Run.{left_of_limit, run, run_for}
use Rattle.hybrid_model.specs.Trap.{after_trap, trapped}
use Rattle.hybrid_model.specs.Pairs.{Here, Pair, here}
use Rattle.hybrid_model.specs.Tallies.{as_number}
use Rattle.hybrid_model.specs.declared.events.Event.{Event}
use Rattle.kernel_model.specs.MemoryCalls.{answer_of_change, effect_of}
use Rattle.kernel_model.specs.Nodes.{Node, Process, ScriptLine, Thread, instructions_in_all, is_stopped, is_there, process_of, ready_to_run, set_does, stop_in, thread_of}
use Rattle.kernel_model.specs.Signals.{generate_for_process}
use Rattle.kernel_model.specs.Traps.{Begins, Changes, Done, Forks, Ran, Trapped, executed, finishes, line_is, line_may, line_of, may_script, script_sent, sent, trap}
use Rattle.kernel_model.specs.declared.Does.TheVariants.{Called}
use Rattle.kernel_model.specs.declared.Does.{Does}
use Rattle.mck_word.specs.Maps.{at}
use Rattle.mck_word.specs.declared.Tid.{Tid}
use Rattle.run_model.specs.Work.{pays as is_paid}
use Rattle.std.proofs.Common.{ap, arith, refl, ◌∙◌}
use Rattle.std.specs.Prelude.{Bool, List, None, Option, Some, [], cond, false, filter, find, length, not, suc, true, zero, ℕ, ◌+◌, ◌∷◌, ◌≡◌, ◌≤◌}
use Rattle.work_laws.proofs.node.Calmer.{Along, along, along-calmer}
use Rattle.work_laws.proofs.node.EachCalmer.{calmer-event, is_calm}
use Rattle.work_laws.proofs.node.Settled.{does-settled, finished-settled}
use Rattle.work_laws.proofs.trap.Ends.{Ends, Others, TrapEnds, goes-others, one-fewer, trap-ends}
use Rattle.work_laws.specs.Left.{may_be_paid}

-- what an event pays, and that it takes nothing of the limit
pub record Pays (paid : ℕ) (a b : Node) : Type 0 where
  pub fewer : may_be_paid b + paid ≤ may_be_paid a
  pub instructions : instructions_in_all b ≡ instructions_in_all a

-- ---- a trap
module _ (pair : Pair) (c : Coherent pair) (t : Tid) (m : may pair (Events.Trap t) ≡ true) where
  abbrev p : ℕ
  p = (thread_of pair.node t.0).process

  abbrev h : Here
  h = here pair p

  x : Traps pair.node t.0
  x = may-traps pair.node t.0 (both (is_there pair.node p) (may_here (Events.Trap t) h) m).1

  fresh : at pair.node.processes pair.node.next_number ≡ None
  fresh = go (at pair.node.processes pair.node.next_number) refl
    where
      go : (o : Option Process) → at pair.node.processes pair.node.next_number ≡ o → o ≡ None
      go None e = refl
      go (Some y) e = absurd (let l = c.known.processes_below pair.node.next_number y e in omega (arith, l))

  was-stopped : counted_in stops (at pair.node.threads t.0) ≡ 1
  was-stopped = ap (counted_in stops) x.there ∙ ap (λ (d : Does). as_number (is_stopped d)) x.stopped

  stop-is : stop_in (thread_of pair.node t.0).does ≡ Some x.stop
  stop-is = ap (λ (y : Thread). stop_in y.does) (thread-is pair.node t.0 x.thread x.there) ∙ ap stop_in x.stopped

  ends-pay : (b : Node) → Ends t.0 pair.node b → Pays 1 pair.node b
  ends-pay b e =
      let a = one-fewer t.0 pair.node b e.others e.settled was-stopped in
      let u = ap length e.unsent in
      record { fewer = omega (arith, a, u); instructions = e.instructions }

  called-others : (a : Node) → Along pair.node a → Others t.0 pair.node (set_does t.0 Called a)
  called-others a g u d =
      let e = ap (counted_in stops) (thread-other a t.0 u (λ (y : Thread). record y { does = Called }) d) in
      let f = goes-others t.0 pair.node a g.goes u d in
      omega (arith, e, f)

  finished-others : (a : Node) (b : ℕ) (answer : _) → Along pair.node a → Others t.0 pair.node (finishes t.0 answer (set_break p b a))
  finished-others a b answer g u d =
      let e = goes-others t.0 (set_break p b a) _ (finishes-closed t.0 Along Along (along t.0) (set_break p b a) answer).goes u d in
      let f = goes-others t.0 pair.node a g.goes u d in
      omega (arith, e, f)

  by-trapped : (y : Trapped) → TrapEnds t.0 pair.node y → Pays 1 pair.node (trapped p t.0 y h).node
  by-trapped (Done v) e = ends-pay v.node e
  by-trapped (Forks v child stores) e = ends-pay v.node e
  by-trapped (Begins node progress) g = ends-pay (set_does t.0 Called node) (record {
    others = called-others node g;
    settled = does-settled t.0 node Called refl;
    unsent = g.unsent;
    instructions = same-instructions pair.node node g.goes;
  })
  by-trapped (Changes node change) g =
      let b = (effect_of (process_of node p) change).program_break in
      let f = finishes-closed t.0 Along Along (along t.0) (set_break p b node) (answer_of_change change) in
      ends-pay (finishes t.0 (answer_of_change change) (set_break p b node)) (record {
        others = finished-others node b (answer_of_change change) g;
        settled = finished-settled t.0 (set_break p b node) (answer_of_change change);
        unsent = f.unsent ∙ g.unsent;
        instructions = same-instructions (set_break p b node) _ f.goes ∙ set-instructions node p b ∙ same-instructions pair.node node g.goes;
      })

  pub trap-pays : Pays 1 pair.node (after_here (Events.Trap t) p h).node
  unfolding after_trap
  trap-pays = by-trapped (trap t.0 (length pair.free) (view_here h)) (trap-ends t.0 (length pair.free) (view_here h) fresh x.stop stop-is)

-- ---- a line of the script
lines-left : (k : ℕ) (ls : List ScriptLine) → length (filter (λ x. not (line_is k x)) ls) ≤ length ls
lines-left k [] = omega arith
lines-left k (x ∷ ls) = go (line_is k x) (lines-left k ls)
  where
    go : (b : Bool) → length (filter (λ y. not (line_is k y)) ls) ≤ length ls → length (cond (not b) (x ∷ filter (λ y. not (line_is k y)) ls) (filter (λ y. not (line_is k y)) ls)) ≤ suc (length ls)
    go true i = omega (arith, i)
    go false i = omega (arith, i)

line-fewer : (k : ℕ) (ls : List ScriptLine) (l : ScriptLine) → find (line_is k) ls ≡ Some l → length (filter (λ x. not (line_is k x)) ls) + 1 ≤ length ls
line-fewer k [] l e = absurd (grind (arith, e))
line-fewer k (x ∷ ls) l e = go (line_is k x) e (line-fewer k ls l) (lines-left k ls)
  where
    rest : List ScriptLine
    rest = filter (λ y. not (line_is k y)) ls

    go : (b : Bool) → cond b (Some x) (find (line_is k) ls) ≡ Some l → (find (line_is k) ls ≡ Some l → length rest + 1 ≤ length ls) → length rest ≤ length ls → length (cond (not b) (x ∷ rest) rest) + 1 ≤ suc (length ls)
    go true f i j = omega (arith, j)
    go false f i j = let k = i f in omega (arith, k)

module _ (node : Node) (k : ℕ) where
  unsent-less : (l : ScriptLine) → line_of node k ≡ Some l → Pays 1 node (sent k node (Some l))
  unsent-less l e =
      let a : Node = record node { unsent = filter (λ x. not (line_is k x)) node.unsent } in
      let g : Along a (generate_for_process l.process l.signal a) = for_process-closed 0 Along Along (along 0) a l.process l.signal in
      let b = along-calmer a (generate_for_process l.process l.signal a) g in
      let s = b.stopped in
      let u = b.unsent in
      let f = line-fewer k node.unsent l e in
      record { fewer = omega (arith, s, u, f); instructions = b.instructions }

  pub script-pays : may_script node k ≡ true → Pays 1 node (script_sent k node)
  unfolding script_sent
  script-pays e = go (line_of node k) refl e
    where
      go : (o : Option ScriptLine) → line_of node k ≡ o → line_may node o ≡ true → Pays 1 node (sent k node o)
      go None f m = absurd (grind (arith, m))
      go (Some l) f m = unsent-less l f

-- ---- whatever but a run
module _ (pair : Pair) (c : Coherent pair) where
  abbrev process : Event → ℕ
  process e = process_of_event pair.node e

  calm-pays : (e : Event) → is_calm (process e) (here pair (process e)) (sound-of pair c) e ≡ true → Pays 0 pair.node (after_here e (process e) (here pair (process e))).node
  calm-pays e f =
      let a = calmer-event (process e) (here pair (process e)) (sound-of pair c) e f in
      let s = a.stopped in
      let u = a.unsent in
      record { fewer = omega (arith, s, u); instructions = a.instructions }

  allowed : (e : Event) → may pair e ≡ true → may_here e (here pair (process e)) ≡ true
  allowed e m = (both (is_there pair.node (process e)) (may_here e (here pair (process e))) m).1

  abbrev pub is_run : Event → Bool
  is_run (Events.Run core t n) = true
  is_run _ = false

  pub event-pays : (e : Event) → is_run e ≡ false → may pair e ≡ true → Pays (is_paid e) pair.node (after_here e (process e) (here pair (process e))).node
  event-pays (Events.Run core t n) f m = absurd (grind (arith, f))
  event-pays (Events.Trap t) f m = trap-pays pair c t m
  event-pays (Events.Script k) f m = script-pays pair.node k (allowed (Events.Script k) m)
  event-pays (Events.Deliver t) f m = calm-pays (Events.Deliver t) refl
  event-pays (Events.Intake q) f m = calm-pays (Events.Intake q) refl
  event-pays (Events.Answer q w) f m = calm-pays (Events.Answer q w) refl
  event-pays (Events.BeginVm t) f m = calm-pays (Events.BeginVm t) refl
  event-pays (Events.Interrupt t) f m = calm-pays (Events.Interrupt t) refl
  event-pays (Events.Wait t) f m = calm-pays (Events.Wait t) refl
  event-pays (Events.Reap q) f m = calm-pays (Events.Reap q) refl
  event-pays (Events.Fetch q r) f m = calm-pays (Events.Fetch q r) refl
  event-pays (Events.Assign q w) f m = calm-pays (Events.Assign q w) refl
  event-pays (Events.Miss q w) f m = calm-pays (Events.Miss q w) refl
  event-pays (Events.Pin q w) f m = calm-pays (Events.Pin q w) refl
  event-pays (Events.Copy q w) f m = calm-pays (Events.Copy q w) refl
  event-pays (Events.Unpin q w) f m = calm-pays (Events.Unpin q w) refl
  event-pays (Events.Act q w) f m = calm-pays (Events.Act q w) refl
  event-pays (Events.Park q w) f m = calm-pays (Events.Park q w) refl
  event-pays (Events.Unpark q n) f m = calm-pays (Events.Unpark q n) refl
  event-pays (Events.Finish q w) f m = calm-pays (Events.Finish q w) refl
  event-pays (Events.AckClear q) f m = calm-pays (Events.AckClear q) refl

  -- ---- a run: at most one thread more is Stopped, and an instruction at least is less
  run-unsent : (n t : ℕ) (v : Ran) → (run_for n t v).node.unsent ≡ v.node.unsent
  run-unsent zero t v = refl
  run-unsent (suc n) t v = go (ready_to_run (thread_of w.node t).does) (run-unsent n t w)
    where
      w : Ran
      w = executed t v

      go : (b : Bool) → (run_for n t w).node.unsent ≡ w.node.unsent → (cond b (run_for n t w) w).node.unsent ≡ v.node.unsent
      go true k = k
      go false k = refl

  module _ (core n : ℕ) (t : Tid) (m : may pair (Events.Run core t n) ≡ true) where
    abbrev e : Event
    e = Events.Run core t n

    abbrev at_begin : Ran
    at_begin = record { node = pair.node; memory = memory_here (here pair (process e)) }

    abbrev after_node : Node
    after_node = (after_here e (process e) (here pair (process e))).node

    w : MayRun t.0 n (here pair (process e))
    w = may-run core t.0 n (here pair (process e)) (allowed e m)

    pub run-stops : may_be_paid after_node ≤ may_be_paid pair.node + 1
    unfolding run
    run-stops =
        let a = stops-one t.0 pair.node (run_for n t.0 at_begin).node (run-on n t.0 at_begin).others in
        let u = ap length (run-unsent n t.0 at_begin) in
        omega (arith, a, u)

    pub run-limit : left_of_limit after_node + 1 ≤ left_of_limit pair.node
    unfolding run
    run-limit =
        let a = (run-counts t.0 n at_begin w.runs).1 w.some in
        let l = (run-on n t.0 at_begin).limit in
        let f = w.left in
        let s = w.some in
        omega (arith, a, l, f, s)
