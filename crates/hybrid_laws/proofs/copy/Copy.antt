-- Copy keeps what holds of the process.
use Rattle.hybrid_model.specs.declared.events.Event.TheVariants as Events
use Rattle.hybrid_laws.proofs.maps.Reading.{reads-put}
use Rattle.hybrid_laws.proofs.maps.Tests.{both, not-true}
use Rattle.hybrid_laws.proofs.requests.HeldStep.{held-row, served_step, state-facts}
use Rattle.hybrid_laws.proofs.requests.OneRequest.{files-any, goes_on}
use Rattle.hybrid_model.specs.Claims.{Reaches}
use Rattle.hybrid_model.specs.Coherence.{OfProcess, Covers, PinServes, acked_at, is_faulted, service_at}
use Rattle.hybrid_model.specs.Copy.{copy}
use Rattle.hybrid_model.specs.Events.{after_here, may_here}
use Rattle.hybrid_model.specs.Copy.{copied, is_uncopied, may_copy, moved_by}
use Rattle.hybrid_model.specs.Workers.{stepped_book, stepped_service, state_if, holds, kind_for}
use Rattle.hybrid_model.specs.Pairs.{Here}
use Rattle.hybrid_model.specs.Sides.{Side, Service, service_of, LinuxSide, pin_of}
use Rattle.hybrid_model.specs.Spaces.{frame_bytes}
use Rattle.hybrid_model.specs.Tallies.{Reads, with_at}
use Rattle.ikc_ring.specs.declared.CallRequest.{CallRequest}
use Rattle.kernel_model.specs.Nodes.{Node}
use Rattle.kernel_model.specs.Progress.{After, is_ready, needed_access}
use Rattle.mck_word.specs.Maps.{at, put}
use Rattle.mck_word.specs.declared.Pid.{Pid}
use Rattle.page_pins.specs.declared.Pin.{Pin}
use Rattle.request_book.specs.declared.ReqState.TheVariants.{Held}
use Rattle.request_book.specs.declared.ReqState.{ReqState}
use Rattle.std.proofs.Common.{arith, refl, subst, ap, ◌∙◌}
use Rattle.std.proofs.lemmas.Bool.Decides.{nat_tests}
use Rattle.std.specs.Prelude.{Bool, Some, false, if◌then◌else◌, true, ℕ, ◌==◌, ◌≡◌, None, Option, nat_lt, ◌&&◌, ◌<◌}

module _ (p : ℕ) (side : Side) (node : Node) (worker_count : ℕ) (ring_of : ℕ → ℕ) (h : OfProcess p side node worker_count ring_of) (w : ℕ) (x : Pin) (there : at side.linux.pins w ≡ Some x) (fresh : x.copied ≡ false) (a : After) where
  pub serving : PinServes (at side.linux.workers) (at side.book.rows) (at side.linux.services) w x
  serving = h.served.pins_serve w x there

  pub held : (call : CallRequest) × (at side.book.rows serving.number ≡ Some (Held, call))
  held = held-row (at side.book.rows) serving.number (serving.held fresh)

  from-old : (b : Bool) (v : ℕ) (y : Pin) → (v == w) ≡ b → (if b then Some (record x { copied = true }) else at side.linux.pins v) ≡ Some y → Covers (at side.lwk.table) y.page (y.frame, y.rights)
  from-old true v y f e = let g : record x { copied = true } ≡ y = cc in subst (λ (z : Pin). Covers (at side.lwk.table) z.page (z.frame, z.rights)) g (h.covered.pin_rows w x there)
  from-old false v y f e = h.covered.pin_rows v y e

  outside-old : (b : Bool) (v : ℕ) (y : Pin) → (if b then Some (record x { copied = true }) else at side.linux.pins v) ≡ Some y → acked_at side.round y.page ≡ false
  outside-old true v y e = let g : record x { copied = true } ≡ y = cc in subst (λ (z : Pin). acked_at side.round z.page ≡ false) g (h.rounded.pins_outside w x there)
  outside-old false v y e = h.rounded.pins_outside v y e

  pub keeps_copied : OfProcess p (record side { linux = copied side.linux w a; book = stepped_book side.linux side.book w a }) node worker_count ring_of
  unfolding copied
  keeps_copied =
      let q = serving.number in
      let call = held.0 in
      let is = held.1 in
      let now = state_if a.ended in
      let k = stepped_service (service_of side.linux.services q) a in
      let f = state-facts a.ended w in
      let d = reads-put side.linux.services q k in
      let e = reads-put side.linux.pins w (record x { copied = true }) in
      let linux : LinuxSide = record side.linux { services = put side.linux.services q k; pins = put side.linux.pins w (record x { copied = true }) } in
      rw (serving.serves, there) (goes_on p side node worker_count ring_of h q Held now call is refl f.5 refl f.0 linux side.book.waiting (λ y. rw d (same-interrupted (at side.linux.services) q y))
      (rw e (record { mirror_rows = h.covered.mirror_rows; answers = h.covered.answers; not_ahead = h.covered.not_ahead; pin_rows = λ v y u. from-old (v == w) v y refl u }))
      (rw e (record { clears_are = h.rounded.clears_are; acks_are = h.rounded.acks_are; clear_of = h.rounded.clear_of; fetched = h.rounded.fetched; outside = h.rounded.outside; mirror_outside = h.rounded.mirror_outside; pins_outside = λ v y u. outside-old (v == w) v y u }))
      (rw (d, e) (served_step worker_count (at side.linux.workers) (at side.book.rows) (at side.linux.services) (at side.linux.pins) side.book.waiting (at side.lwk.noted) side.to_linux side.to_lwk h.served w q call serving.serves is (with_at (at side.linux.pins) w (Some (record x { copied = true })))
      (λ v n. grind (arith, nat_tests, n)) now k f.0 f.1 f.2 f.3 f.4 refl (own-pin q call now k f.2 serving.serves))))
    where
      own-pin : (q : ℕ) (call : CallRequest) (now : ReqState) (k : Service) → is_faulted now ≡ 0 → at side.linux.workers w ≡ Some q → (y : Pin) → with_at (at side.linux.pins) w (Some (record x { copied = true })) w ≡ Some y
          → PinServes (at side.linux.workers) (with_at (at side.book.rows) q (Some (now, call))) (with_at (at side.linux.services) q (Some k)) w y
      own-pin q call now k n s y e =
          let z : (w == w) ≡ true = grind (arith, nat_tests) in
          let u = rw z at e in
          let g : record x { copied = true } ≡ y = cc in
          let b : (q == q) ≡ true = grind (arith, nat_tests) in
          subst (λ (j : Pin). PinServes (at side.linux.workers) (with_at (at side.book.rows) q (Some (now, call))) (with_at (at side.linux.services) q (Some k)) w j) g
          (record { number = q; serves = s; not_faulted = rw b n; held = λ a. absurd (grind (arith, a)); left = λ a. absurd (grind (arith, a)); page_is = λ a. absurd (grind (arith, a)); right = λ a. absurd (grind (arith, a)) })

      same-interrupted : (services : Reads Service) (q : ℕ) (y : ℕ) → (service_at (with_at services q (Some (stepped_service (service_at services q) a))) y).interrupted ≡ (service_at services y).interrupted
      same-interrupted services q y = grind (arith, nat_tests)

-- ---- on the event itself
pub record MayCopy (h : Here) (w : ℕ) : Type 0 where
  pub below : w < h.workers
  pub pin : Pin
  pub there : at h.side.linux.pins w ≡ Some pin
  pub fresh : pin.copied ≡ false
  pub ready : is_ready (kind_for h.side.linux h.node.files w) ≡ true

uncopied-pin : (o : Option Pin) → is_uncopied o ≡ true → (x : Pin) × (o ≡ Some x) × (x.copied ≡ false)
uncopied-pin None e = absurd (grind (arith, e))
uncopied-pin (Some x) e = (x, refl, not-true x.copied e)

pub may-copy : (h : Here) (q : Pid) (w : ℕ) → may_here (Events.Copy q w) h ≡ true → MayCopy h w
may-copy h q w e =
    let a = both (nat_lt w h.workers) (may_copy h.side.linux h.side.book h.node.files w) e in
    let b = both (is_uncopied (at h.side.linux.pins w) && holds h.side.linux h.side.book w) (is_ready (kind_for h.side.linux h.node.files w)) a.1 in
    let c = both (is_uncopied (at h.side.linux.pins w)) (holds h.side.linux h.side.book w) b.0 in
    let x = uncopied-pin (at h.side.linux.pins w) c.0 in
    record { below = grind (arith, nat_tests, a.0); pin = x.0; there = x.1; fresh = x.2; ready = b.1 }

module _ (p : ℕ) (h : Here) (ring_number : ℕ → ℕ) (k : OfProcess p h.side h.node h.workers ring_number) (q : Pid) (w : ℕ) (e : may_here (Events.Copy q w) h ≡ true) where
  pub keeps_copy : OfProcess p (after_here (Events.Copy q w) p h).side (after_here (Events.Copy q w) p h).node h.workers ring_number
  unfolding copy
  keeps_copy =
      let m = may-copy h q w e in
      let a = (moved_by p h.side.linux h.node.files w (frame_bytes h.frames (pin_of h.side.linux w).frame.0)).after in
      files-any p (record h.side { linux = copied h.side.linux w a; book = stepped_book h.side.linux h.side.book w a }) h.node h.workers ring_number a.files (keeps_copied p h.side h.node h.workers ring_number k w m.pin m.there m.fresh a)

-- the copy reaches the frame that the process's table gives to the page of the piece, with the right that it needs
pub reaches_copy : (p : ℕ) (h : Here) (ring_number : ℕ → ℕ) → OfProcess p h.side h.node h.workers ring_number → (q : Pid) (w : ℕ) → may_here (Events.Copy q w) h ≡ true → Reaches h.side w
reaches_copy p h ring_number k q w e =
    let m = may-copy h q w e in
    let s = k.served.pins_serve w m.pin m.there in
    let v = k.covered.pin_rows w m.pin m.there in
    let n = s.serves in
    let x = m.there in
    record {
      row = v.row;
      there = rw n (ap (at h.side.lwk.table) (s.page_is m.fresh) ∙ v.there);
      frame = rw x v.frame;
      right = rw n (v.rights (needed_access (service_of h.side.linux.services s.number).progress) (s.right m.fresh));
    }
