-- Trap, whatever it comes to: it keeps what holds of every process, and is the step Trap of the one-kernel machine.
use Rattle.kernel_model.specs.Steps as OneSteps
use Rattle.kernel_model.specs.declared.steps.Step.TheVariants as Steps
use Rattle.hybrid_model.specs.declared.events.Event.TheVariants as Events
use Rattle.file_model.specs.Paths.{child}
use Rattle.hybrid_laws.proofs.maps.Tests.{both}
use Rattle.hybrid_laws.proofs.memory.Effects.{own-apart}
use Rattle.hybrid_laws.proofs.memory.ViewShown.{shown-view}
use Rattle.hybrid_laws.proofs.node.Keeps.{is_pinned, node-keeps}
use Rattle.hybrid_laws.proofs.node.Threads.{living-made, thread-is}
use Rattle.hybrid_laws.proofs.states.Simulated.{simulated-one}
use Rattle.hybrid_laws.proofs.trap.Begins.{Traps, keeps_begins, may-traps, others_begins, shown_begins}
use Rattle.hybrid_laws.proofs.trap.Changes.{keeps_changes, others_changes, shown_changes}
use Rattle.hybrid_laws.proofs.trap.Forks.{born_forks, shown_forks}
use Rattle.hybrid_laws.proofs.trap.Keeps.{TrappedKeeps, next-new, sleepers-free, trap-idle, trap-keeps, trap_free}
use Rattle.hybrid_laws.proofs.trap.Says.{TrappedSays, call_regs, trap-says}
use Rattle.hybrid_laws.specs.OneProcess.{FramesOf, NodeHolds, RingsHold}
use Rattle.hybrid_laws.specs.Simulated.{Simulated}
use Rattle.hybrid_model.specs.Coherence.{OfProcess}
use Rattle.hybrid_model.specs.Events.{after_here, may_here}
use Rattle.hybrid_model.specs.OneProcess.{memory_here, space_here, view_here, with_view}
use Rattle.hybrid_model.specs.Trap.{after_trap, child_side, trapped, with_stores, child_space}
use Rattle.hybrid_model.specs.Pairs.{Here, ring_of}
use Rattle.hybrid_model.specs.Shown.{shown_here}
use Rattle.hybrid_model.specs.Sides.{Row, Side, new_side}
use Rattle.hybrid_model.specs.Tallies.{Reads}
use Rattle.kernel_model.specs.Nodes.{Thread, is_asleep, is_living, is_stopped, thread_of}
use Rattle.kernel_model.specs.Traps.{Begins, Changes, Done, Forks, Trapped, arguments_of, trap}
use Rattle.mck_word.specs.Maps.{at}
use Rattle.mck_word.specs.declared.Tid.{Tid}
use Rattle.std.proofs.Common.{ap, arith, refl, subst, sym, ◌∙◌}
use Rattle.std.proofs.lemmas.Bool.Decides.{nat_tests}
use Rattle.std.specs.Prelude.{Bool, None, Some, false, is_some, length, true, ℕ, ◌&&◌, ◌<◌, ◌==◌, ◌||◌, ◌≡◌, ◌≢◌}

module _ (p : ℕ) (t : Tid) (h : Here) (m : may_here (Events.Trap t) h ≡ true) (mine : (thread_of h.node t.0).process ≡ p) (nodes : NodeHolds h.node) where
  abbrev x : Traps h.node t.0
  x = may-traps h.node t.0 m

  abbrev free : ℕ → Bool
  free = trap_free t.0 h.node

  abbrev is : Trapped
  is = trap t.0 (length h.free) (view_here h)

  own : x.thread.process ≡ p
  own = sym (ap (λ (z : Thread). z.process) (thread-is h.node t.0 x.thread x.there)) ∙ mine

  unpinned : is_pinned x.thread.does ≡ false
  unpinned = let s = x.stopped in rw s refl

  idle : (q u : ℕ) (y : Thread) → free u ≡ true → at h.node.threads u ≡ Some y → y.process ≡ q → is_pinned y.does ≡ false
  idle q = trap-idle q t.0 h.node x.thread x.there unpinned

  says : TrappedSays t.0 (length h.free) (view_here h) is
  says = trap-says t.0 (length h.free) (view_here h)

  keeps : (q : ℕ) → TrappedKeeps q free h.node is
  keeps q = trap-keeps q free t.0 (or-left (t.0 == t.0) (is_asleep (thread_of h.node t.0).does) (grind (arith, nat_tests))) (length h.free) (view_here h) (sleepers-free t.0 h.node nodes.sleeping) (next-new h.node nodes)
    where
      or-left : (a b : Bool) → a ≡ true → (a || b) ≡ true
      or-left true b e = refl
      or-left false b e = absurd (grind (arith, e))

  -- the process was made, so it isn't the one that begins
  old : p < h.node.next_number
  old =
      let a = both (is_some (at h.node.threads t.0) && is_stopped (thread_of h.node t.0).does) (is_living h.node (thread_of h.node t.0).process) m in
      let y = living-made h.node p (ap (is_living h.node) (sym mine) ∙ a.1) in
      nodes.made_below p y.0 y.1

  pub keeps_trap : (workers : ℕ) → RingsHold h → OfProcess p h.side h.node workers (ring_of h) → OfProcess p (after_here (Events.Trap t) p h).side (after_here (Events.Trap t) p h).node workers (ring_of h)
  unfolding after_trap
  keeps_trap workers rings k = go is says (keeps p)
    where
      go : (y : Trapped) → TrappedSays t.0 (length h.free) (view_here h) y → TrappedKeeps p free h.node y → OfProcess p (trapped p t.0 y h).side (trapped p t.0 y h).node workers (ring_of h)
      go (Done v) s f = node-keeps p free h.side h.node v.node workers (ring_of h) f (idle p) k
      go (Forks v child stores) s f = node-keeps p free h.side h.node v.node workers (ring_of h) (f (λ e. (let n = s.number in let l = old in omega (arith, e, n, l)))) (idle p) k
      go (Begins new progress) s f = keeps_begins p t.0 h x progress new s.0 workers own nodes rings k
      go (Changes new c) s f = keeps_changes p t.0 h x own new c s.0 s.1 (arguments_of (call_regs t.0 h.node)) s.2 workers (ring_of h) k

  pub others_trap : (q : ℕ) (side : Side) (workers : ℕ) (ring : ℕ → ℕ) → p ≢ q → q ≢ h.node.next_number → OfProcess q side h.node workers ring → OfProcess q side (after_here (Events.Trap t) p h).node workers ring
  unfolding after_trap
  others_trap q side workers ring other not_new k = go is says (keeps q)
    where
      go : (y : Trapped) → TrappedSays t.0 (length h.free) (view_here h) y → TrappedKeeps q free h.node y → OfProcess q side (trapped p t.0 y h).node workers ring
      go (Done v) s f = node-keeps q free side h.node v.node workers ring f (idle q) k
      go (Forks v child stores) s f = node-keeps q free side h.node v.node workers ring (f (λ e. not_new (e ∙ s.number))) (idle q) k
      go (Begins new progress) s f = others_begins p t.0 h x progress new s.0 q side workers ring (λ e. other (sym own ∙ e)) k
      go (Changes new c) s f = others_changes p t.0 h x own new c s.0 s.1 (arguments_of (call_regs t.0 h.node)) s.2 q side workers ring k

  -- a process that begins has the next number
  pub born_trap : (workers : ℕ) (ring : ℕ → ℕ) → h.born ≡ None → OfProcess h.node.next_number (new_side 0) h.node workers ring → (b : ℕ × Side) → (after_here (Events.Trap t) p h).born ≡ Some b
      → (b.0 ≡ h.node.next_number) × OfProcess b.0 b.1 (after_here (Events.Trap t) p h).node workers ring
  unfolding after_trap
  born_trap workers ring none k b e = go is says e
    where
      unborn : h.born ≡ Some b → ⊥
      unborn f = let n = sym none ∙ f in grind (arith, n)

      go : (y : Trapped) → TrappedSays t.0 (length h.free) (view_here h) y → (trapped p t.0 y h).born ≡ Some b → (b.0 ≡ h.node.next_number) × OfProcess b.0 b.1 (trapped p t.0 y h).node workers ring
      go (Done v) s f = absurd (unborn f)
      go (Forks v child stores) s f =
          let sp = with_stores stores (child_space (memory_here (with_view v h)) (space_here (with_view v h))) in
          let g : (child, child_side (with_view v h) sp) ≡ b = cc in
          subst (λ (z : ℕ × Side). (z.0 ≡ h.node.next_number) × OfProcess z.0 z.1 v.node workers ring) g
          (s.number, born_forks p t.0 h v child stores s workers ring (next-new h.node nodes) (subst (λ (c : ℕ). OfProcess c (new_side 0) h.node workers ring) (sym s.number) k) sp.table)
      go (Begins new progress) s f = absurd (unborn f)
      go (Changes new c) s f = absurd (unborn f)

  pub simulated_trap : (workers : ℕ) → OfProcess p h.side h.node workers (ring_of h) → (tables : ℕ → Reads Row) → FramesOf tables p (space_here h) → h.born ≡ None → Simulated (Events.Trap t) p h
  unfolding after_trap OneSteps.one_trap
  simulated_trap workers k tables frames none = simulated-one (Events.Trap t) p h (Steps.Trap t) refl m (go is says)
    where
      go : (y : Trapped) → TrappedSays t.0 (length h.free) (view_here h) y → OneSteps.one_trapped p t.0 y (shown_here h) ≡ shown_here (trapped p t.0 y h)
      go (Done v) s = shown-view h v (own-apart tables p (space_here h) frames) none
      go (Forks v child stores) s = shown_forks p t.0 h v child stores s tables frames (λ e. (let n = s.number in let l = old in omega (arith, e, n, l))) none
      go (Begins new progress) s = shown_begins p t.0 h x progress new s.0 workers k s.1
      go (Changes new c) s = shown_changes p t.0 h x own new c s.0 s.1 (arguments_of (call_regs t.0 h.node)) s.2 tables frames none
