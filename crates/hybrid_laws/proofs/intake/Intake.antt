-- Intake, whatever message is taken: it keeps what holds of every process, and is the step Return or VmFinish of the one-kernel machine, or shows nothing.
use Rattle.hybrid_model.specs.declared.events.Event.TheVariants as Events
use Rattle.hybrid_laws.proofs.intake.Ack.{keeps_intake_ack, others_intake_ack, simulated_ack}
use Rattle.hybrid_laws.proofs.intake.Fault.{keeps_intake_fault, others_intake_fault, simulated_fault}
use Rattle.hybrid_laws.proofs.intake.Reply.{keeps_intake_reply, others_intake_reply, simulated_reply}
use Rattle.hybrid_laws.specs.OneProcess.{FramesOf}
use Rattle.hybrid_laws.specs.Simulated.{Simulated}
use Rattle.hybrid_model.specs.Coherence.{OfProcess, goes_to_linux}
use Rattle.hybrid_model.specs.Events.{after_here, may_here}
use Rattle.hybrid_model.specs.Globals.{HeapHolds}
use Rattle.hybrid_model.specs.Intake.{intake}
use Rattle.hybrid_model.specs.OneProcess.{space_here}
use Rattle.hybrid_model.specs.Pairs.{Here}
use Rattle.hybrid_model.specs.Sides.{Row, Side}
use Rattle.hybrid_model.specs.Tallies.{Each, Reads}
use Rattle.ikc_ring.specs.declared.Msg.TheVariants.{Ack, Answer, Clear, Fault, Interrupt, Reply, Request}
use Rattle.ikc_ring.specs.declared.Msg.{Msg}
use Rattle.kernel_model.specs.Nodes.{process_of}
use Rattle.mck_word.specs.Identifiers.{pid}
use Rattle.mck_word.specs.declared.Access.{Access}
use Rattle.mck_word.specs.declared.Pid.{Pid}
use Rattle.mck_word.specs.declared.Req.{Req}
use Rattle.std.proofs.Common.{ap, arith, refl, subst, sym}
use Rattle.std.proofs.lemmas.Bool.Decides.{nat_tests}
use Rattle.std.specs.Prelude.{List, None, [], false, length, true, ℕ, ℤ, ◌∷◌, ◌≡◌, ◌≢◌}

-- the messages that come back are Replies, Acks and Faults
module _ (ms : List Msg) (goal : Type 0) (none : ms ≡ [] → goal) (reply : (n : Req) (code : ℤ) (rest : List Msg) → ms ≡ Reply n code ∷ rest → goal)
    (ack : (rest : List Msg) → ms ≡ Ack ∷ rest → goal) (fault : (w page : ℕ) (a : Access) (rest : List Msg) → ms ≡ Fault w page a ∷ rest → goal) where
  pub by-message : Each (λ m. goes_to_linux m ≡ false) ms → goal
  by-message d = go ms refl d
    where
      go : (xs : List Msg) → ms ≡ xs → Each (λ m. goes_to_linux m ≡ false) xs → goal
      go [] e h = none e
      go (Reply n code ∷ rest) e h = reply n code rest e
      go (Ack ∷ rest) e h = ack rest e
      go (Fault w page a ∷ rest) e h = fault w page a rest e
      go (Request c ∷ rest) e h = absurd (let k = h.0 in grind (arith, k))
      go (Clear r ∷ rest) e h = absurd (let k = h.0 in grind (arith, k))
      go (Answer w page number row ∷ rest) e h = absurd (let k = h.0 in grind (arith, k))
      go (Interrupt n place ∷ rest) e h = absurd (let k = h.0 in grind (arith, k))

module _ (p : ℕ) (q : Pid) (h : Here) (workers : ℕ) (ring : ℕ → ℕ) (k : OfProcess p h.side h.node workers ring) (heap : HeapHolds (process_of h.node p)) where
  pub keeps_intake : OfProcess p (after_here (Events.Intake q) p h).side (after_here (Events.Intake q) p h).node workers ring
  keeps_intake = by-message h.side.to_lwk (OfProcess p (intake p h.side.to_lwk h).side (intake p h.side.to_lwk h).node workers ring)
      (λ e. subst (λ (ms : List Msg). OfProcess p (intake p ms h).side (intake p ms h).node workers ring) (sym e) k)
      (λ n code rest e. keeps_intake_reply p h n code rest e workers ring k)
      (λ rest e. keeps_intake_ack p h workers ring k rest e heap)
      (λ w page a rest e. keeps_intake_fault p h w page a rest e workers ring k)
      k.directions.to_lwk

  pub others_intake : (other : ℕ) (side : Side) (workers' : ℕ) (ring' : ℕ → ℕ) → p ≢ other → OfProcess other side h.node workers' ring' → OfProcess other side (after_here (Events.Intake q) p h).node workers' ring'
  others_intake other side workers' ring' differ o = by-message h.side.to_lwk (OfProcess other side (intake p h.side.to_lwk h).node workers' ring')
      (λ e. subst (λ (ms : List Msg). OfProcess other side (intake p ms h).node workers' ring') (sym e) o)
      (λ n code rest e. others_intake_reply p h n code rest e workers ring k other side workers' ring' differ o)
      (λ rest e. others_intake_ack p h workers ring k rest e heap other side workers' ring' differ o)
      (λ w page a rest e. others_intake_fault p h w page a rest e other side workers' ring' o)
      k.directions.to_lwk

  pub simulated_intake : q.0 ≡ p → may_here (Events.Intake q) h ≡ true → (tables : ℕ → Reads Row) → FramesOf tables p (space_here h) → h.born ≡ None → Simulated (Events.Intake q) p h
  simulated_intake same m tables frames none = subst (λ (x : ℕ). Simulated (Events.Intake (record { 0 = x })) p h) (sym same)
      (by-message h.side.to_lwk (Simulated (Events.Intake (pid p)) p h)
      (λ e. absurd (let n = ap (λ (ms : List Msg). length ms) e in grind (arith, nat_tests, m, n)))
      (λ n code rest e. simulated_reply p h n code rest e workers ring k)
      (λ rest e. simulated_ack p h workers ring k rest e heap tables frames none)
      (λ w page a rest e. simulated_fault p h w page a rest e)
      k.directions.to_lwk)
