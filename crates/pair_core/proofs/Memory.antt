-- What an event that changes a process's memory finds: heaps and changes in their bounds, and a round that was acknowledged.
use Rattle.clear_rounds.specs.Round.{phase_of}
use Rattle.clear_rounds.specs.declared.Phase.TheVariants.{Acked, Posted as RoundPosted, Taken}
use Rattle.clear_rounds.specs.declared.Phase.{Phase}
use Rattle.file_model.specs.Files.{Files}
use Rattle.hybrid_model.specs.Coherence.{OfProcess, acked, acks}
use Rattle.hybrid_model.specs.Globals.{HeapsHold, ring_number}
use Rattle.hybrid_model.specs.Intake.{intake, take_ack}
use Rattle.hybrid_model.specs.Pairs.{Here, Pair}
use Rattle.hybrid_model.specs.Rings.{head_of, rest_of}
use Rattle.hybrid_model.specs.Sides.{Round, Row, Side as SideOf}
use Rattle.hybrid_model.specs.Tallies.{tally}
use Rattle.ikc_ring.specs.declared.Msg.TheVariants.{Ack, Answer, Clear, Fault, Interrupt, Reply, Request}
use Rattle.ikc_ring.specs.declared.Msg.{Msg}
use Rattle.kernel_model.specs.Nodes.{Node, Process, no_process, process_of}
use Rattle.kernel_tables.specs.Shown.{node_of}
use Rattle.lwk_side.specs.Acks.{IfAck}
use Rattle.lwk_side.specs.Changing.{HeapFits}
use Rattle.mck_word.specs.Maps.{Map, at}
use Rattle.offer_laws.specs.ChangeFits.{NodeFits}
use Rattle.pair_core.proofs.Fetched.{first-some}
use Rattle.pair_core.specs.KernelRoom.{is_ack_first}
use Rattle.node_machine.specs.Reached.{IsSound}
use Rattle.pair_core.specs.Shown.{pair_of}
use Rattle.pair_core.specs.declared.parts.Parts.{Parts}
use Rattle.std.proofs.Common.{ap, arith, refl, subst, sym, ◌∙◌}
use Rattle.std.specs.Prelude.{List, None, Option, Some, [], false, unwrap_or, ℕ, ◌∷◌, ◌≡◌, ◌≤◌}

-- ---- heaps and changes
heap-fits : (node : Node) (p : ℕ) → HeapsHold node → NodeFits node → HeapFits (process_of node p)
heap-fits node p holds fits = go (at node.processes p) refl
  where
    go : (o : Option Process) → at node.processes p ≡ o → HeapFits (unwrap_or o no_process)
    go None e = record { base = omega arith; limit = omega arith }
    go (Some x) e = record { base = fits.heaps p x e; limit = (holds p x e).below }

module _ {T F : Type 0} (rows : T → Map Row) (files : F → Files) (x : Parts T F) (sound : IsSound (pair_of rows files x)) where
  pub heap-in : (p : ℕ) (other : Files) → HeapFits (process_of (node_of x.lwk.node other) p)
  unfolding pair_of node_of
  heap-in p other = heap-fits (node_of x.lwk.node (files x.files)) p sound.coherent.heaps sound.small.memory

  pub fits-in : (other : Files) → NodeFits (node_of x.lwk.node other)
  unfolding pair_of node_of
  fits-in other = sound.small.memory

-- ---- acknowledgements
pub takes-ack : (p : ℕ) (ms : List Msg) (h : Here) → head_of ms ≡ Some Ack → take_ack p (rest_of ms) h ≡ intake p ms h
takes-ack p ms h e =
    let x = first-some ms Ack e in
    ap (λ (ns : List Msg). take_ack p (rest_of ns) h) x.1 ∙ sym (ap (λ (ns : List Msg). intake p ns h) x.1)

-- what holds where the first message is an acknowledgement
pub at-ack : (X : Type 0) (ms : List Msg) → head_of ms ≡ Some Ack → IfAck ms X → X
at-ack X ms e h = let x = first-some ms Ack e in subst (λ (ns : List Msg). IfAck ns X) x.1 h

pub no-ack : (X : Type 0) (ms : List Msg) → is_ack_first ms ≡ false → IfAck ms X
no-ack X [] e = tt
no-ack X (Ack ∷ ms) e = absurd (grind (arith, e))
no-ack X (Request c ∷ ms) e = tt
no-ack X (Clear r ∷ ms) e = tt
no-ack X (Answer w page number row ∷ ms) e = tt
no-ack X (Interrupt q place ∷ ms) e = tt
no-ack X (Reply q code ∷ ms) e = tt
no-ack X (Fault w page a ∷ ms) e = tt

pub if-ack : (X : Type 0) (ms : List Msg) → X → IfAck ms X
if-ack X [] x = tt
if-ack X (Ack ∷ ms) x = x
if-ack X (Request c ∷ ms) x = tt
if-ack X (Clear r ∷ ms) x = tt
if-ack X (Answer w page number row ∷ ms) x = tt
if-ack X (Interrupt q place ∷ ms) x = tt
if-ack X (Reply q code ∷ ms) x = tt
if-ack X (Fault w page a ∷ ms) x = tt

acked-once : (ms : List Msg) → head_of ms ≡ Some Ack → 1 ≤ tally acks ms
acked-once ms e = let x = first-some ms Ack e in subst (λ (ns : List Msg). 1 ≤ tally acks ns) (sym x.1) (omega arith)

-- a round of which there is an acknowledgement is acknowledged
was-acked : (o : Option Round) → 1 ≤ acked o → phase_of o ≡ Some Acked
was-acked None l = absurd (omega (arith, l))
was-acked (Some r) l = by r.0 l
  where
    by : (f : Phase) → 1 ≤ acked (Some (f, r.1)) → ◌≡◌ {A = Option Phase} (Some f) (Some Acked)
    by Acked k = refl
    by Taken k = absurd (omega (arith, k))
    by RoundPosted k = absurd (omega (arith, k))

pub acked-round : (p : ℕ) (pair : Pair) (side : SideOf) → OfProcess p side pair.node pair.workers (ring_number pair) → head_of side.to_lwk ≡ Some Ack → phase_of side.round ≡ Some Acked
acked-round p pair side k e =
    let a = acked-once side.to_lwk e in
    let b = k.rounded.acks_are in
    was-acked side.round (omega (arith, a, b))
