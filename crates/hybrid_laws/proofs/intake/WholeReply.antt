-- Intake of a Reply in the whole state.
use Rattle.hybrid_model.specs.declared.events.Event.TheVariants as Events
use Rattle.hybrid_laws.proofs.intake.Reply as reply
use Rattle.kernel_model.specs.declared.steps.Step.TheVariants as OneSteps
use Rattle.file_model.specs.Files.{Files, description_of}
use Rattle.hybrid_laws.proofs.calls.Closed.{returns-closed}
use Rattle.hybrid_laws.proofs.maps.Sums.{counted_at, total-cut-by}
use Rattle.hybrid_laws.proofs.maps.Totals.{entries-same}
use Rattle.hybrid_laws.proofs.node.Goes.{GoesAwake, GoesOn, IsAwake, goes-closed}
use Rattle.hybrid_laws.proofs.node.Sound.{goes-sound, goes-stays, is-awake, same-ended, same-instructions, same-made, sound-of, stopped-less}
use Rattle.hybrid_laws.proofs.node.Threads.{thread-is}
use Rattle.hybrid_laws.proofs.states.Node.{Keeping, coherent-later, left_with}
use Rattle.hybrid_laws.proofs.states.Pair.{has-side, there-open}
use Rattle.hybrid_laws.proofs.states.Quiet.{own-frames, sleeping-after}
use Rattle.hybrid_laws.proofs.states.Steps.{AtMostOne, SimulatedPair, simulated-pair}
use Rattle.hybrid_model.specs.Coherence.{OfProcess}
use Rattle.hybrid_model.specs.Events.{after, after_here}
use Rattle.hybrid_model.specs.Globals.{Coherent, Sleeping, StatusHolds, description_held, holders, ring_number, is_number}
use Rattle.hybrid_model.specs.Images.{image_here}
use Rattle.hybrid_model.specs.Intake.{caller_number, image_of_intake}
use Rattle.hybrid_model.specs.Turns.{pipe_end}
use Rattle.hybrid_model.specs.Intake.{intake, take_reply, take_reply_of}
use Rattle.hybrid_model.specs.Pairs.{Here, Pair, here, put_here, side_of}
use Rattle.hybrid_model.specs.Shown.{shown_own, status_of}
use Rattle.hybrid_model.specs.Sides.{Caller, Side, service_of}
use Rattle.ikc_ring.specs.declared.Msg.TheVariants.{Reply}
use Rattle.ikc_ring.specs.declared.Msg.{Msg}
use Rattle.kernel_model.specs.Nodes.{Node, Thread, is_asleep, is_called, is_there}
use Rattle.kernel_model.specs.Traps.{returns}
use Rattle.kernel_model.specs.declared.Does.TheVariants.{Asleep, Called, InVm, InWait, Ready, Stopped}
use Rattle.kernel_model.specs.declared.Does.{Does}
use Rattle.mck_word.specs.Identifiers.{tid}
use Rattle.mck_word.specs.MapLaws.{at-cut}
use Rattle.mck_word.specs.Maps.{at}
use Rattle.mck_word.specs.declared.Pid.{Pid}
use Rattle.mck_word.specs.declared.Req.{Req}
use Rattle.std.proofs.Common.{ap, arith, refl, subst, sym, ◌∙◌}
use Rattle.std.specs.Prelude.{Bool, List, None, Option, Some, [], cond, false, true, ℕ, ℤ, ◌==◌, ◌∷◌, ◌≡◌}

module _ (pair : Pair) (c : Coherent pair) (q : Pid) (there : is_there pair.node q.0 ≡ true) (n : Req) (code : ℤ) (rest : List Msg) (first : (side_of pair q.0).to_lwk ≡ Reply n code ∷ rest) where
  abbrev p : ℕ
  p = q.0

  abbrev h : Here
  h = here pair p

  abbrev k : OfProcess p h.side h.node pair.workers (ring_number pair)
  k = c.whole p

  abbrev thread : ℕ
  thread = reply.t p h n code rest first pair.workers (ring_number pair) k

  abbrev side : Side
  side = reply.side' p h n code rest first pair.workers (ring_number pair) k

  abbrev node : Node
  node = returns thread code pair.node

  abbrev caller : Caller
  caller = (reply.awaits p h n code rest first pair.workers (ring_number pair) k).caller

  calls : at h.side.lwk.callers thread ≡ Some caller
  calls = (reply.awaits p h n code rest first pair.workers (ring_number pair) k).calls

  taken-is : take_reply n.0 code rest h ≡ record h { side = side; node = node }
  unfolding take_reply
  taken-is = ap (λ (o : Option ℕ). take_reply_of o code rest h) (reply.caller p h n code rest first pair.workers (ring_number pair) k).found

  after-is : after pair (Events.Intake q) ≡ left_with pair p side node pair.frames pair.free pair.last
  after-is = ap (λ (ms : List Msg). put_here pair p (intake p ms h)) first ∙ ap (put_here pair p) taken-is

  awake : IsAwake thread pair.node
  awake =
      let x = reply.thread p h n code rest first pair.workers (ring_number pair) k in
      is-awake pair.node thread x.0 x.1 (not-asleep x.0.does (reply.called p h n code rest first pair.workers (ring_number pair) k)) c.sleeping
    where
      not-asleep : (d : Does) → is_called d ≡ true → is_asleep d ≡ false
      not-asleep Called e = refl
      not-asleep Ready e = refl
      not-asleep (Stopped s) e = refl
      not-asleep (InVm x) e = refl
      not-asleep (InWait a b) e = refl
      not-asleep (Asleep a) e = absurd (grind (arith, e))

  goes : GoesAwake thread pair.node node
  goes = returns-closed thread (GoesAwake thread) (GoesOn thread) (goes-closed thread) pair.node code

  sleeps : Sleeping node
  sleeps = sleeping-after thread pair.node node goes awake c.sleeping

  -- a caller that is left
  left : (u : ℕ) (x : Caller) → at side.lwk.callers u ≡ Some x → ((u == thread) ≡ false) × (at h.side.lwk.callers u ≡ Some x)
  left u x e = go (u == thread) refl (sym (at-cut h.side.lwk.callers thread u) ∙ e)
    where
      go : (b : Bool) → (u == thread) ≡ b → cond b None (at h.side.lwk.callers u) ≡ Some x → ((u == thread) ≡ false) × (at h.side.lwk.callers u ≡ Some x)
      go true f g = absurd (grind (arith, g))
      go false f g = (f, g)

  same-status : (u : ℕ) (x : Caller) → at side.lwk.callers u ≡ Some x → status_of side x.request ≡ status_of h.side x.request
  same-status u x e = let f = left u x e in reply.status-other p h n code rest first pair.workers (ring_number pair) k u x f.0 f.1

  -- the call that is over holds no description
  held-same : (d : ℕ) → holders d side ≡ holders d h.side
  held-same d =
      let a = entries-same (counts d side) (counts d h.side) side.lwk.callers (λ u x e. ap (λ s. cond (is_number d (description_held s)) 1 0) (same-status u x e)) in
      let b = total-cut-by (counts d h.side) h.side.lwk.callers thread in
      let z = ap (counted_at (counts d h.side) thread) calls ∙ ap (λ s. cond (is_number d (description_held s)) 1 0) (reply.status-own p h n code rest first pair.workers (ring_number pair) k) in
      omega (arith, a, b, z)
    where
      counts : ℕ → Side → ℕ × Caller → ℕ
      counts d s x = cond (is_number d (description_held (status_of s x.1.request))) 1 0

  keeping : Keeping pair c p there side node pair.frames pair.free pair.last
  keeping =
      let stays = goes-stays pair.node node goes.goes in
      record {
        own = subst (λ (y : Here). OfProcess p y.side y.node pair.workers (ring_number pair)) taken-is (reply.keeps_reply p h n code rest first pair.workers (ring_number pair) k);
        others = λ x d. subst (λ (y : Here). OfProcess x (side_of pair x) y.node pair.workers (ring_number pair)) (ap (λ (ms : List Msg). intake p ms h) first ∙ taken-is) (reply.others_intake_reply p h n code rest first pair.workers (ring_number pair) k x (side_of pair x) pair.workers (ring_number pair) d (c.whole x));
        framed = own-frames pair c p;
        rows_below = c.counted.rows_below p;
        free_below = c.counted.free_below;
        counted = refl;
        frame_count = goes.goes.frames;
        made = same-made pair.node node stays;
        ended_others = λ x d f. sym (same-ended pair.node node stays x) ∙ f;
        ended_own = λ f. absurd (let a = there-open pair.node p there in let b = sym (same-ended pair.node node stays p) ∙ f in grind (arith, a, b));
        rings = refl;
        turns = λ x u. (u, refl);
        ends = λ t e i u. ap (λ (f : Files). pipe_end f (service_of (side_of pair t.process).linux.services t.request).progress) goes.goes.files ∙ u;
        held = λ d. (let a = held-same d in let b = ap (λ (f : Files). (description_of f d).calls) goes.goes.files in omega (arith, a, b));
        calls = λ u x e. subst StatusHolds (sym (same-status u x e)) (c.calls p u x (left u x e).1);
        sound = goes-sound pair.node node goes.goes (sound-of pair c) sleeps;
        paid = (let a = stopped-less pair.node node goes.goes in let b = same-instructions pair.node node goes.goes in let d = goes.goes.next in omega (arith, a, b, d));
        limit = (let a = same-instructions pair.node node goes.goes in let b = goes.goes.limit in let d = c.numbers.limit in omega (arith, a, b, d));
      }

  pub coherent_intake_reply : Coherent (after pair (Events.Intake q))
  coherent_intake_reply = subst Coherent (sym after-is) (coherent-later pair c p there side node pair.frames pair.free pair.last keeping)

  pub simulated_pair_reply : SimulatedPair pair (Events.Intake q)
  simulated_pair_reply = simulated-pair pair p (has-side pair c.known p there) (Events.Intake q) refl (reply.simulated_reply p h n code rest first pair.workers (ring_number pair) k) most
      (ap (λ (y : Here). y.born) whole) (λ x s m f. ap (λ (y : Here). shown_own y.frames s) whole)
    where
      whole : after_here (Events.Intake q) p h ≡ record h { side = side; node = node }
      whole = ap (λ (ms : List Msg). intake p ms h) first ∙ taken-is

      x : (x : Thread) × (at h.node.threads thread ≡ Some x) × (x.process ≡ p)
      x = reply.thread p h n code rest first pair.workers (ring_number pair) k

      most : AtMostOne pair.node p (image_here (Events.Intake q) p h)
      most = subst (AtMostOne pair.node p) (sym (ap (λ (ms : List Msg). image_of_intake ms h.side) first ∙ ap (λ (o : Option ℕ). OneSteps.Return (tid (caller_number o)) ∷ []) (reply.caller p h n code rest first pair.workers (ring_number pair) k).found))
          (ap (λ (z : Thread). z.process) (thread-is pair.node thread x.0 x.1) ∙ x.2)
