-- What the other events of the lightweight kernel leave of the sides: Interrupt posts its message, Reap empties its side, and Run, Deliver, Wait and Script leave them.
use Rattle.hybrid_model.specs.declared.events.Event.TheVariants as Events
use Rattle.hybrid_laws.proofs.maps.Reading.{sum-post}
use Rattle.hybrid_laws.proofs.reap.Reap.{reaps}
use Rattle.hybrid_model.specs.Events.{after_here, may_here}
use Rattle.hybrid_model.specs.Deliver.{after_deliver}
use Rattle.hybrid_model.specs.Interrupt.{caller_at, interrupt_as, is_calling, post_interrupt}
use Rattle.hybrid_model.specs.Reap.{reap}
use Rattle.hybrid_model.specs.Run.{run}
use Rattle.hybrid_model.specs.Pairs.{Here, ring_of}
use Rattle.hybrid_model.specs.Rings.{all_empty}
use Rattle.hybrid_model.specs.Sides.{LinuxSide}
use Rattle.hybrid_model.specs.Tallies.{sum_rings}
use Rattle.ikc_ring.specs.declared.Msg.TheVariants.{Interrupt}
use Rattle.ikc_ring.specs.declared.Msg.{Msg}
use Rattle.kernel_model.specs.Nodes.{thread_of}
use Rattle.mck_word.specs.Maps.{at, count, no_rows}
use Rattle.mck_word.specs.declared.Pid.{Pid}
use Rattle.mck_word.specs.declared.Tid.{Tid}
use Rattle.std.proofs.Common.{arith, refl}
use Rattle.std.proofs.lemmas.Bool.Decides.{nat_tests}
use Rattle.std.specs.Prelude.{Bool, List, [], false, true, ℕ, ◌+◌, ◌∷◌, ◌≡◌, ◌≤◌}
use Rattle.work_laws.proofs.files.Same.{files-deliver, files-interrupt, files-run, files-script, files-wait}
use Rattle.work_laws.proofs.sides.AnyRank.{requests-any}
use Rattle.work_laws.proofs.sides.Wholes.{HerePays, HereSteps}
use Rattle.work_laws.specs.Weights.{of_message, of_side}

sum-empty : (f : Msg → ℕ) (rs : List (List Msg)) → all_empty rs ≡ true → sum_rings f rs ≡ 0
sum-empty f [] e = refl
sum-empty f ([] ∷ rs) e = let a = sum-empty f rs e in omega (arith, a)
sum-empty f ((m ∷ ms) ∷ rs) e = absurd (grind (arith, nat_tests, e))

module _ (p : ℕ) (h : Here) where
  abbrev Own : (Here) → ℕ → Type 0
  Own x cost = of_side h.workers h.node.files x.side + 0 ≤ of_side h.workers h.node.files h.side + cost

  pub here_run : (core : ℕ) (t : Tid) (n : ℕ) → HerePays p (Events.Run core t n) h 0 0
  unfolding run
  here_run core t n = record { files = files-run p h core t n; own = omega arith }

  pub here_deliver : (t : Tid) → HerePays p (Events.Deliver t) h 0 0
  unfolding after_deliver
  here_deliver t = record { files = files-deliver p h t; own = omega arith }

  pub here_wait : (t : Tid) → HerePays p (Events.Wait t) h 0 0
  here_wait t = record { files = files-wait p h t; own = omega arith }

  pub here_script : (k : ℕ) → HerePays p (Events.Script k) h 0 0
  here_script k = record { files = files-script p h k; own = omega arith }

  -- the Interrupt of a call
  posted : (t : Tid) → Own (interrupt_as true t.0 h) 15
  unfolding post_interrupt
  posted t =
      let f = of_message h.workers h.side.linux.cleared (at h.side.lwk.table) in
      let a = sum-post f (ring_of h t.0) (Interrupt (record { 0 = (caller_at h.side t.0).request }) (thread_of h.node t.0).place) h.side.to_linux in
      omega (arith, a)

  by-calling : (t : Tid) (b : Bool) → is_calling h.side t.0 ≡ b → (cost : ℕ) → Own (interrupt_as b t.0 h) cost → HerePays p (Events.Interrupt t) h 0 cost
  by-calling t b is cost a = record { files = files-interrupt p h t; own = rw is a }

  pub here_interrupt_call : (t : Tid) → is_calling h.side t.0 ≡ true → HerePays p (Events.Interrupt t) h 0 15
  here_interrupt_call t is = by-calling t true is 15 (posted t)

  pub here_interrupt_rest : (t : Tid) → is_calling h.side t.0 ≡ false → HerePays p (Events.Interrupt t) h 0 0
  here_interrupt_rest t is = by-calling t false is 0 (omega arith)

  pub here_reap : (q : Pid) → q.0 ≡ p → count h.side.book.rows ≤ 16 → may_here (Events.Reap q) h ≡ true → HereSteps p (Events.Reap q) h 0
  unfolding reap
  here_reap q same few e =
      let m = reaps p h (rw same at e) in
      let l' : LinuxSide = record h.side.linux { mirror = no_rows } in
      let now = (after_here (Events.Reap q) p h).node.files in
      let r = requests-any h.node.files now h.side.linux l' h.side.book.rows h.side.book.rows (omega arith) few in
      let a = sum-empty (of_message h.workers h.side.linux.cleared (at no_rows)) h.side.to_linux m.to_linux in
      record { own = omega (arith, r, a) }
