-- A message goes back to the lightweight kernel: what stays of replies and rounds. And a worker's request is no other worker's.
use Rattle.hybrid_laws.proofs.copy.Copy.{serving}
use Rattle.hybrid_laws.proofs.maps.Reading.{Each-push, tally-push}
use Rattle.hybrid_model.specs.Coherence.{Answered, ReplyIsAwaited, Rounded, Served, acks, replies_to}
use Rattle.hybrid_model.specs.Sides.{Caller, Noted, Row, Service, Round}
use Rattle.hybrid_model.specs.Tallies.{Reads, tally}
use Rattle.ikc_ring.specs.declared.CallRequest.{CallRequest}
use Rattle.ikc_ring.specs.declared.Msg.{Msg}
use Rattle.page_pins.specs.declared.Pin.{Pin}
use Rattle.request_book.specs.declared.ReqState.{ReqState}
use Rattle.std.proofs.Common.{ap, arith, refl, ◌∙◌}
use Rattle.std.proofs.lemmas.Bool.Decides.{nat_tests}
use Rattle.std.specs.Prelude.{Bool, List, Option, Some, [], false, true, ℕ, ◌++◌, ◌==◌, ◌∷◌, ◌≡◌, ◌≢◌}

module _ (rows : Reads (ReqState × CallRequest)) (callers : Reads Caller) (next : ℕ) (bs : List Msg) (m : Msg) (no_reply : (q : ℕ) → replies_to q m ≡ 0) (awaited : ReplyIsAwaited rows callers m) where
  same-count : (q : ℕ) → tally (replies_to q) (bs ++ m ∷ []) ≡ tally (replies_to q) bs
  same-count q = omega (arith, tally-push (replies_to q) bs m, no_reply q)

  pub Answered-back : Answered rows callers next bs → Answered rows callers next (bs ++ m ∷ [])
  Answered-back c = record {
    awaited = Each-push (ReplyIsAwaited rows callers) bs m c.awaited awaited;
    calls = λ t x e. let k = c.calls t x e in record { given = k.given; named = k.named; replied = λ u. same-count x.request ∙ k.replied u };
    alone = c.alone;
    live = c.live;
    replies = λ q. omega (arith, same-count q, c.replies q);
    fresh = c.fresh;
    not_replied = c.not_replied;
  }

pub Rounded-back : (round : Option Round) (mirror : Reads Row) (pins : Reads Pin) (begun cleared : ℕ) (rings : List (List Msg)) (bs : List Msg) (m : Msg) → acks m ≡ 0 → Rounded round mirror pins begun cleared rings bs → Rounded round mirror pins begun cleared rings (bs ++ m ∷ [])
Rounded-back round mirror pins begun cleared rings bs m n c = record { clears_are = c.clears_are; acks_are = omega (arith, tally-push acks bs m, n, c.acks_are); clear_of = c.clear_of; fetched = c.fetched; outside = c.outside; mirror_outside = c.mirror_outside; pins_outside = c.pins_outside }

module _ (worker_count : ℕ) (workers : Reads ℕ) (rows : Reads (ReqState × CallRequest)) (services : Reads Service) (pins : Reads Pin) (waiting : List ℕ) (noted : Reads Noted) (rings : List (List Msg)) (bs : List Msg) (c : Served worker_count workers rows services pins waiting noted rings bs) where
  pub one-worker : (v w q : ℕ) → workers v ≡ Some q → workers w ≡ Some q → v ≡ w
  one-worker v w q e f = let a = c.workers_hold v q e in let b = c.workers_hold w q f in grind (arith, a, b)

  -- a worker that is another serves another request
  pub other-request : (w q : ℕ) → workers w ≡ Some q → (v n : ℕ) → workers v ≡ Some n → v ≢ w → (n == q) ≡ false
  other-request w q serving v n e ne = go (n == q) refl
    where
      go : (b : Bool) → (n == q) ≡ b → b ≡ false
      go false f = refl
      go true f = absurd (ne (one-worker v w q (let g : n ≡ q = grind (arith, nat_tests, f) in e ∙ ap Some g) serving))
