-- Pin keeps what holds of the process, and shows nothing.
use Rattle.hybrid_model.specs.declared.events.Event.TheVariants as Events
use Rattle.clear_rounds.specs.declared.Phase.TheVariants.{Posted as RoundPosted, Taken, Acked}
use Rattle.hybrid_laws.proofs.maps.Reading.{reads-put}
use Rattle.hybrid_laws.proofs.maps.Tests.{both, some-is}
use Rattle.hybrid_laws.proofs.requests.Ready.{ready-piece}
use Rattle.hybrid_laws.proofs.requests.Serving.{Serves, free-to-act}
use Rattle.hybrid_laws.proofs.states.Simulated.{simulated-none}
use Rattle.hybrid_laws.specs.Simulated.{Simulated}
use Rattle.hybrid_model.specs.Coherence.{Covers, OfProcess, PinServes, acked_at, is_faulted, state_at, taken_at}
use Rattle.hybrid_model.specs.Events.{after_here, may_here}
use Rattle.hybrid_model.specs.Pin.{may_pin, pin, pinned}
use Rattle.hybrid_model.specs.Workers.{is_free_to_act, kind_for, row_for}
use Rattle.hybrid_model.specs.Pairs.{Here, with_side}
use Rattle.hybrid_model.specs.Shown.{shown_here}
use Rattle.hybrid_model.specs.Sides.{LinuxSide, Round, Row, looked_up, service_of, state_in}
use Rattle.hybrid_model.specs.Tallies.{Reads, with_at}
use Rattle.isa_model.specs.Memory.{allows}
use Rattle.kernel_model.specs.Pages.{range}
use Rattle.kernel_model.specs.Progress.{Progress, is_ready, needed_access, next_kind, next_piece}
use Rattle.mck_word.specs.Maps.{at, put}
use Rattle.mck_word.specs.declared.Access.{Access}
use Rattle.mck_word.specs.declared.Pid.{Pid}
use Rattle.page_pins.specs.declared.Pin.{Pin}
use Rattle.request_book.specs.declared.ReqState.TheVariants.{Held}
use Rattle.std.proofs.Common.{ap, arith, refl, subst, sym, ◌∙◌}
use Rattle.std.proofs.lemmas.Bool.Decides.{nat_tests}
use Rattle.std.specs.Prelude.{Bool, None, Option, Some, false, if◌then◌else◌, is_some, nat_lt, true, unwrap_or, ℕ, ◌&&◌, ◌<◌, ◌==◌, ◌≡◌}

pub record MayPin (h : Here) (w : ℕ) : Type 0 where
  pub below : w < h.workers
  pub request : Serves h.side.linux h.side.book w Held
  pub no_pin : at h.side.linux.pins w ≡ None
  pub ready : is_ready (next_kind h.node.files (service_of h.side.linux.services request.number).progress) ≡ true
  pub row : Row
  pub found : row_for h.side.linux w ≡ Some row
  pub there : at h.side.linux.mirror (next_piece (service_of h.side.linux.services request.number).progress).page ≡ Some row
  pub right : allows (needed_access (service_of h.side.linux.services request.number).progress) row.1 ≡ true

looked-up-is : (o : Option Row) (a : Access) (r : Row) → looked_up o a ≡ Some r → (o ≡ Some r) × (allows a r.1 ≡ true)
looked-up-is None a r e = absurd (grind (arith, e))
looked-up-is (Some x) a r e = go (allows a x.1) refl e
  where
    go : (b : Bool) → allows a x.1 ≡ b → (if b then Some x else None) ≡ Some r → (Some x ≡ Some r) × (allows a r.1 ≡ true)
    go true f u = let g : x ≡ r = cc in (u, ap (λ (y : Row). allows a y.1) (sym g) ∙ f)
    go false f u = absurd (grind (arith, u))

pub may-pin : (h : Here) (q : Pid) (w : ℕ) → may_here (Events.Pin q w) h ≡ true → MayPin h w
may-pin h q w e =
    let a = both (nat_lt w h.workers) (may_pin h.side.linux h.side.book h.node.files w) e in
    let d = both (is_free_to_act h.side.linux h.side.book w && is_ready (kind_for h.side.linux h.node.files w)) (is_some (row_for h.side.linux w)) a.1 in
    let b = both (is_free_to_act h.side.linux h.side.book w) (is_ready (kind_for h.side.linux h.node.files w)) d.0 in
    let c = free-to-act h.side.linux h.side.book w b.0 in
    let s = c.0.serving in
    let x = some-is (row_for h.side.linux w) d.1 in
    let y = looked-up-is (at h.side.linux.mirror (next_piece (service_of h.side.linux.services c.0.number).progress).page) (needed_access (service_of h.side.linux.services c.0.number).progress) x.0
    (ap (λ (o : Option ℕ). looked_up (at h.side.linux.mirror (next_piece (service_of h.side.linux.services (unwrap_or o 0)).progress).page) (needed_access (service_of h.side.linux.services (unwrap_or o 0)).progress)) (sym s) ∙ x.1) in
    record { below = grind (arith, nat_tests, a.0); request = c.0; no_pin = c.1; ready = rw s at b.1; row = x.0; found = x.1; there = y.0; right = y.1 }

-- an acknowledged page is a taken one
acked-taken : (round : Option Round) (page : ℕ) → acked_at round page ≡ true → taken_at round page ≡ true
acked-taken None page e = e
acked-taken (Some (RoundPosted, range)) page e = e
acked-taken (Some (Taken, range)) page e = absurd (grind (arith, e))
acked-taken (Some (Acked, range)) page e = e

module _ (p : ℕ) (h : Here) (ring_number : ℕ → ℕ) (k : OfProcess p h.side h.node h.workers ring_number) (q : Pid) (w : ℕ) (e : may_here (Events.Pin q w) h ≡ true) where
  abbrev m : MayPin h w
  m = may-pin h q w e

  abbrev n : ℕ
  n = m.request.number

  abbrev progress : Progress
  progress = (service_of h.side.linux.services n).progress

  abbrev new : Pin
  new = record { page = (next_piece progress).page; frame = m.row.0; rights = m.row.1; copied = false }

  abbrev pins' : Reads Pin
  pins' = with_at (at h.side.linux.pins) w (Some new)

  covers : Covers (at h.side.lwk.table) new.page (new.frame, new.rights)
  covers = k.covered.mirror_rows (next_piece progress).page m.row m.there

  outside : acked_at h.side.round new.page ≡ false
  outside = go (acked_at h.side.round new.page) refl
    where
      go : (b : Bool) → acked_at h.side.round new.page ≡ b → b ≡ false
      go false f = refl
      go true f = absurd (let u = k.rounded.mirror_outside new.page (acked-taken h.side.round new.page f) in let t = m.there in grind (arith, u, t))

  serves-new : PinServes (at h.side.linux.workers) (at h.side.book.rows) (at h.side.linux.services) w new
  serves-new =
      let is : state_at (at h.side.book.rows) n ≡ Held = ap state_in m.request.is in
      record { number = n; serves = m.request.serving; not_faulted = ap is_faulted is; held = λ u. is; left = λ u. ready-piece h.node.files progress m.ready; page_is = λ u. refl; right = λ u. m.right }

  -- what holds of the new pin and of the old ones holds of each
  of-each : (P : ℕ → Pin → Type 0) → P w new → ((v : ℕ) (x : Pin) → at h.side.linux.pins v ≡ Some x → P v x) → (v : ℕ) (x : Pin) → pins' v ≡ Some x → P v x
  of-each P own old v x u = go (v == w) refl u
    where
      go : (b : Bool) → (v == w) ≡ b → (if b then Some new else at h.side.linux.pins v) ≡ Some x → P v x
      go true f u = let g : new ≡ x = cc in let y : w ≡ v = grind (arith, nat_tests, f) in subst (λ (z : ℕ). P z x) y (subst (λ (z : Pin). P w z) g own)
      go false f u = old v x u

  kept : OfProcess p (record h.side { linux = record h.side.linux { pins = put h.side.linux.pins w new } }) h.node h.workers ring_number
  kept =
      let d = reads-put h.side.linux.pins w new in
      record {
        covered = rw d (record { mirror_rows = k.covered.mirror_rows; answers = k.covered.answers; not_ahead = k.covered.not_ahead; pin_rows = of-each (λ v x. Covers (at h.side.lwk.table) x.page (x.frame, x.rights)) covers k.covered.pin_rows });
        rounded = rw d (record { clears_are = k.rounded.clears_are; acks_are = k.rounded.acks_are; clear_of = k.rounded.clear_of; fetched = k.rounded.fetched; outside = k.rounded.outside; mirror_outside = k.rounded.mirror_outside; pins_outside = of-each (λ v x. acked_at h.side.round x.page ≡ false) outside k.rounded.pins_outside });
        owned = k.owned;
        served = rw d (record {
          worker_below = k.served.worker_below;
          requests = k.served.requests;
          waits = k.served.waits;
          known = k.served.known;
          workers_hold = k.served.workers_hold;
          held_by = k.served.held_by;
          faults = k.served.faults;
          fault_for = k.served.fault_for;
          noted_for = k.served.noted_for;
          answer_for = k.served.answer_for;
          pins_serve = of-each (PinServes (at h.side.linux.workers) (at h.side.book.rows) (at h.side.linux.services)) serves-new k.served.pins_serve;
        });
        answered = k.answered;
        calls = k.calls;
        asked = k.asked;
        interrupts = k.interrupts;
        directions = k.directions;
        messages = k.messages;
        marked = k.marked;
      }

  pub pin-is : pin h.side.linux w ≡ record h.side.linux { pins = put h.side.linux.pins w new }
  unfolding pin
  pin-is = ap (pinned h.side.linux w) m.found
      ∙ ap (λ (o : Option ℕ). record h.side.linux { pins = put h.side.linux.pins w (record { page = (next_piece (service_of h.side.linux.services (unwrap_or o 0)).progress).page; frame = m.row.0; rights = m.row.1; copied = false }) }) m.request.serving

  pub keeps_pin : OfProcess p (after_here (Events.Pin q w) p h).side (after_here (Events.Pin q w) p h).node h.workers ring_number
  keeps_pin = subst (λ (l : LinuxSide). OfProcess p (record h.side { linux = l }) h.node h.workers ring_number) (sym pin-is) kept

  pub simulates_pin : Simulated (Events.Pin q w) p h
  simulates_pin = simulated-none (Events.Pin q w) p h refl (ap (λ (l : LinuxSide). shown_here (with_side h (record h.side { linux = l }))) pin-is)
