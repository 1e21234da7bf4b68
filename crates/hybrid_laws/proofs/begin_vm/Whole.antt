-- BeginVm in the whole state.
use Rattle.hybrid_model.specs.declared.events.Event.TheVariants as Events
use Rattle.hybrid_laws.proofs.begin_vm.BeginVm.{MayBegin, image_begin_vm, keeps_begin_round, may-begin, simulated_begin_vm}
use Rattle.hybrid_laws.proofs.maps.Tests.{both}
use Rattle.hybrid_laws.proofs.node.Threads.{thread-is}
use Rattle.hybrid_laws.proofs.states.Pair.{has-side, pair_after}
use Rattle.hybrid_laws.proofs.states.Silent.{coherent-silent, turns-stay}
use Rattle.hybrid_laws.proofs.states.Steps.{SimulatedPair, simulated-pair}
use Rattle.hybrid_laws.proofs.trap.Begins.{ring-there}
use Rattle.hybrid_laws.specs.OneProcess.{RingsHold}
use Rattle.hybrid_model.specs.Events.{after, may, may_here}
use Rattle.hybrid_model.specs.Globals.{Coherent, ring_number}
use Rattle.hybrid_model.specs.BeginVm.{begin_round, begin_vm_of}
use Rattle.hybrid_model.specs.Pairs.{Here, Pair, here, put_here, ring_of, side_of}
use Rattle.hybrid_model.specs.Rings.{post}
use Rattle.hybrid_model.specs.Shown.{shown_own}
use Rattle.hybrid_model.specs.Sides.{Side}
use Rattle.ikc_ring.specs.declared.Msg.TheVariants.{Clear}
use Rattle.ikc_ring.specs.declared.Msg.{Msg}
use Rattle.kernel_model.specs.MemoryCalls.{closing_range}
use Rattle.kernel_model.specs.Nodes.{Thread, change_in, is_there, process_of, thread_of}
use Rattle.kernel_model.specs.declared.Change.{Change}
use Rattle.mck_word.specs.declared.Tid.{Tid}
use Rattle.std.proofs.Common.{ap, arith, refl, subst, sym, ◌∙◌}
use Rattle.std.specs.Prelude.{List, Option, Some, [], length, suc, true, zero, ℕ, ◌<◌, ◌∷◌, ◌≡◌}

-- posting to a ring that is there makes none
pub length-post : (r : ℕ) (m : Msg) (rs : List (List Msg)) → r < length rs → length (post r m rs) ≡ length rs
length-post r m [] l = absurd (omega (arith, l))
length-post zero m (ms ∷ rs) l = refl
length-post (suc r) m (ms ∷ rs) l = ap (λ n. suc n) (length-post r m rs (omega (arith, l)))

pub rings-hold : (pair : Pair) → Coherent pair → (p : ℕ) → is_there pair.node p ≡ true → RingsHold (here pair p)
rings-hold pair c p there = record { some = c.rings.rings; all = c.rings.each p (side_of pair p) (has-side pair c.known p there) }

module _ (pair : Pair) (c : Coherent pair) (t : Tid) (e : may pair (Events.BeginVm t) ≡ true) where
  abbrev p : ℕ
  p = (thread_of pair.node t.0).process

  abbrev h : Here
  h = here pair p

  there : is_there pair.node p ≡ true
  there = (both (is_there pair.node p) (may_here (Events.BeginVm t) h) e).0

  allowed : may_here (Events.BeginVm t) h ≡ true
  allowed = (both (is_there pair.node p) (may_here (Events.BeginVm t) h) e).1

  w : MayBegin t.0 h
  w = may-begin t.0 h allowed

  change-here : change_in (thread_of pair.node t.0).does ≡ Some w.change
  change-here = ap (λ (z : Thread). change_in z.does) (thread-is pair.node t.0 w.thread w.there) ∙ ap change_in w.does

  abbrev begun : Side
  begun = begin_round (ring_of h t.0) t.0 (closing_range (process_of pair.node p) w.change) (side_of pair p)

  after-is : after pair (Events.BeginVm t) ≡ pair_after pair c p there begun pair.node.files pair.frames pair.turns
  after-is = ap (λ (o : Option Change). put_here pair p (begin_vm_of p t.0 o h)) change-here

  pub coherent_begin_vm : Coherent (after pair (Events.BeginVm t))
  unfolding begin_round
  coherent_begin_vm = subst Coherent (sym after-is) (coherent-silent pair c p there begun pair.turns
      (keeps_begin_round p (side_of pair p) pair.node pair.workers (ring_number pair) (c.whole p) t.0 w.thread w.change w.there (sym (ap (λ (z : Thread). z.process) (thread-is pair.node t.0 w.thread w.there))) w.does w.none)
      refl refl refl (length-post (ring_of h t.0) (Clear (closing_range (process_of pair.node p) w.change)) (side_of pair p).to_linux (ring-there h t.0 (rings-hold pair c p there)))
      (image_begin_vm pair.frames (side_of pair p) (ring_of h t.0) t.0 (closing_range (process_of pair.node p) w.change))
      (turns-stay pair c p there begun (λ x u. (u, refl))))

  pub simulated_pair_begin_vm : SimulatedPair pair (Events.BeginVm t)
  simulated_pair_begin_vm = simulated-pair pair p (has-side pair c.known p there) (Events.BeginVm t) refl (simulated_begin_vm p t h allowed refl) tt
      (ap (λ (o : Option Change). (begin_vm_of p t.0 o h).born) change-here) (λ q s n f. ap (λ (o : Option Change). shown_own (begin_vm_of p t.0 o h).frames s) change-here)
