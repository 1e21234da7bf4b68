-- BeginVm lessens the work: that no round is under way counts more than a round that is Posted and its Clear.
use Rattle.hybrid_model.specs.declared.events.Event.TheVariants as Events
use Rattle.hybrid_laws.proofs.begin_vm.BeginVm.{may-begin}
use Rattle.hybrid_laws.proofs.maps.Reading.{sum-post}
use Rattle.hybrid_laws.proofs.maps.Tests.{both}
use Rattle.hybrid_model.specs.Events.{may_here}
use Rattle.hybrid_model.specs.BeginVm.{begin_round, begin_vm_of}
use Rattle.hybrid_model.specs.Pairs.{Here, ring_of}
use Rattle.ikc_ring.specs.declared.Msg.TheVariants.{Clear}
use Rattle.kernel_model.specs.MemoryCalls.{closing_range}
use Rattle.kernel_model.specs.Nodes.{change_in, has_thread, is_living, process_of, thread_of}
use Rattle.kernel_model.specs.declared.Change.{Change}
use Rattle.mck_word.specs.Maps.{at}
use Rattle.mck_word.specs.declared.Tid.{Tid}
use Rattle.std.proofs.Common.{ap, arith, refl}
use Rattle.std.specs.Prelude.{None, Option, Some, is_none, is_some, true, ℕ, ◌&&◌, ◌+◌, ◌≡◌, ◌≤◌}
use Rattle.work_laws.proofs.sides.Wholes.{HerePays}
use Rattle.work_laws.specs.Weights.{of_message, of_round, of_side}

module _ (p : ℕ) (h : Here) (t : Tid) (e : may_here (Events.BeginVm t) h ≡ true) where
  changes : is_some (change_in (thread_of h.node t.0).does) ≡ true
  changes =
      let x = thread_of h.node t.0 in
      let a = both (has_thread h.node t.0 && is_some (change_in x.does) && is_living h.node x.process) (is_none h.side.round) e in
      let b = both (has_thread h.node t.0 && is_some (change_in x.does)) (is_living h.node x.process) a.0 in
      let c = both (has_thread h.node t.0) (is_some (change_in x.does)) b.0 in
      c.1

  less : (o : Option Change) → is_some o ≡ true → of_side h.workers h.node.files (begin_vm_of p t.0 o h).side + 1 ≤ of_side h.workers h.node.files h.side + 0
  unfolding begin_round
  less None f = absurd (grind (arith, f))
  less (Some c) f =
      let r = ap (of_round h.workers) (may-begin t.0 h e).none in
      let s = sum-post (of_message h.workers h.side.linux.cleared (at h.side.lwk.table)) (ring_of h t.0) (Clear (closing_range (process_of h.node p) c)) h.side.to_linux in
      omega (arith, r, s)

  files : (o : Option Change) → (begin_vm_of p t.0 o h).node.files ≡ h.node.files
  files None = refl
  files (Some c) = refl

  pub here_begin_vm : HerePays p (Events.BeginVm t) h 1 0
  here_begin_vm = let o = change_in (thread_of h.node t.0).does in record { files = files o; own = less o changes }
