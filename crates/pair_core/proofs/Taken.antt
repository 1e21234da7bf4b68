-- What an event of the lightweight kernel finds at the head of the ring back.
use Rattle.hybrid_model.specs.Coherence.{FaultIsFor, OfProcess}
use Rattle.hybrid_model.specs.Globals.{ring_number}
use Rattle.hybrid_model.specs.Intake.{intake, take_fault, take_reply}
use Rattle.hybrid_model.specs.Pairs.{Here, Pair}
use Rattle.hybrid_model.specs.Rings.{head_of, rest_of}
use Rattle.hybrid_model.specs.Sides.{Side}
use Rattle.hybrid_model.specs.Tallies.{Each}
use Rattle.ikc_ring.specs.declared.Msg.{Msg}
use Rattle.ikc_ring.specs.declared.Msg.TheVariants.{Ack, Answer, Clear, Fault, Interrupt, Reply, Request}
use Rattle.lwk_side.specs.Shown.{shown_caller}
use Rattle.lwk_side.specs.Wired.{CallersFit}
use Rattle.lwk_side.specs.declared.task.Caller.{Caller}
use Rattle.mck_word.specs.EachLaws.{at-each}
use Rattle.mck_word.specs.Maps.{Map, at, each}
use Rattle.mck_word.specs.declared.Access.{Access}
use Rattle.mck_word.specs.declared.Req.{Req}
use Rattle.offer_laws.specs.Small.{NumbersFit}
use Rattle.pair_core.proofs.Fetched.{first-some}
use Rattle.std.proofs.Common.{ap, arith, refl, subst, sym, ◌∙◌}
use Rattle.std.specs.Prelude.{List, None, Some, [], option_map, ℕ, ℤ, ◌<◌, ◌∷◌, ◌≡◌, ◌≤◌}

-- the first message is a reply
pub takes-reply : (p : ℕ) (ms : List Msg) (q : Req) (code : ℤ) (h : Here) → head_of ms ≡ Some (Reply q code) → take_reply q.0 code (rest_of ms) h ≡ intake p ms h
takes-reply p ms q code h e =
    let x = first-some ms (Reply q code) e in
    ap (λ (ns : List Msg). take_reply q.0 code (rest_of ns) h) x.1 ∙ sym (ap (λ (ns : List Msg). intake p ns h) x.1)

-- it is a fault
pub takes-fault : (p : ℕ) (ms : List Msg) (w page : ℕ) (a : Access) (h : Here) → head_of ms ≡ Some (Fault w page a) → take_fault w page a (rest_of ms) h ≡ intake p ms h
takes-fault p ms w page a h e =
    let x = first-some ms (Fault w page a) e in
    ap (λ (ns : List Msg). take_fault w page a (rest_of ns) h) x.1 ∙ sym (ap (λ (ns : List Msg). intake p ns h) x.1)

-- it is none that is taken
pub leaves-empty : (p : ℕ) (ms : List Msg) (h : Here) → head_of ms ≡ None → h ≡ intake p ms h
leaves-empty p [] h e = refl
leaves-empty p (m ∷ ms) h e = absurd (grind (arith, e))

leaves-first : (p : ℕ) (m : Msg) (ms : List Msg) (h : Here) → (m ≡ Ack → ⊥) → ((q : Req) (code : ℤ) → m ≡ Reply q code → ⊥) → ((w page : ℕ) (a : Access) → m ≡ Fault w page a → ⊥) → h ≡ intake p (m ∷ ms) h
leaves-first p (Request c) ms h ack reply fault = refl
leaves-first p (Clear r) ms h ack reply fault = refl
leaves-first p (Answer w page number row) ms h ack reply fault = refl
leaves-first p (Interrupt q place) ms h ack reply fault = refl
leaves-first p (Reply q code) ms h ack reply fault = absurd (reply q code refl)
leaves-first p Ack ms h ack reply fault = absurd (ack refl)
leaves-first p (Fault w page a) ms h ack reply fault = absurd (fault w page a refl)

pub leaves-other : (p : ℕ) (ms : List Msg) (m : Msg) (h : Here) → head_of ms ≡ Some m → (m ≡ Ack → ⊥) → ((q : Req) (code : ℤ) → m ≡ Reply q code → ⊥) → ((w page : ℕ) (a : Access) → m ≡ Fault w page a → ⊥) → h ≡ intake p ms h
leaves-other p ms m h e ack reply fault =
    let x = first-some ms m e in
    leaves-first p m x.0 h ack reply fault ∙ sym (ap (λ (ns : List Msg). intake p ns h) x.1)

head-each : (P : Msg → Type 0) (ms : List Msg) (m : Msg) → head_of ms ≡ Some m → Each P ms → P m
head-each P [] m e h = absurd (grind (arith, e))
head-each P (x ∷ ms) m e h = let a : x ≡ m = cc in subst P a h.0

module _ (p : ℕ) (pair : Pair) (side : Side) (k : OfProcess p side pair.node pair.workers (ring_number pair)) where
  -- a fault is of a worker
  pub fault-of-worker : (w page : ℕ) (a : Access) → pair.workers ≤ 4 → head_of side.to_lwk ≡ Some (Fault w page a) → w < 4
  fault-of-worker w page a few e =
      let x = head-each (FaultIsFor (at side.linux.workers) (at side.linux.services)) side.to_lwk (Fault w page a) e k.served.fault_for in
      let b = k.served.worker_below w x.number x.serves in
      omega (arith, b, few)

  -- the threads that call have small numbers
  pub callers-fit : (m : Map Caller) → side.lwk.callers ≡ each shown_caller m → NumbersFit pair → CallersFit m
  callers-fit m is small t c e =
      let x = k.calls.there t (shown_caller c) (ap (λ rows. at rows t) is ∙ at-each shown_caller m t ∙ ap (option_map shown_caller) e) in
      small.threads t x.0 x.1
