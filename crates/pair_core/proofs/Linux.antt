-- What the events of the Linux side find in the book, the services and the rings of their process.
use Rattle.hybrid_laws.proofs.assign.Assign.{waiting-first}
use Rattle.hybrid_laws.proofs.requests.Serving.{Serves}
use Rattle.hybrid_laws.proofs.maps.Tests.{not-empty}
use Rattle.hybrid_model.specs.Coherence.{OfProcess, is_fetched, state_at}
use Rattle.hybrid_model.specs.Workers.{holds}
use Rattle.hybrid_model.specs.Sides.{Book, LinuxSide, Side, serves, state_in}
use Rattle.hybrid_model.specs.Spaces.{first_number}
use Rattle.hybrid_model.specs.Tallies.{if_same, tally}
use Rattle.kernel_model.specs.Nodes.{Node}
use Rattle.mck_word.specs.Maps.{at}
use Rattle.request_book.specs.declared.ReqState.{ReqState}
use Rattle.request_book.specs.declared.ReqState.TheVariants.{Held, Waiting}
use Rattle.std.proofs.Common.{ap, refl, sym, ◌∙◌}
use Rattle.std.specs.Prelude.{is_some, length, not, true, unwrap_or, ℕ, ◌==◌, ◌∷◌, ◌≡◌}

-- a worker that serves a request that is Held holds it
pub held-holds : (l : LinuxSide) (b : Book) (w : ℕ) → Serves l b w Held → holds l b w ≡ true
held-holds l b w x =
    let s = x.serving in
    let is = x.is in
    rw s (rw is refl)

module _ (p : ℕ) (side : Side) (node : Node) (worker_count : ℕ) (ring_of : ℕ → ℕ) (k : OfProcess p side node worker_count ring_of) where
  -- a request that was fetched has a service
  pub has-service : (q : ℕ) (s : ReqState) → state_at (at side.book.rows) q ≡ s → is_fetched s ≡ true → is_some (at side.linux.services q) ≡ true
  has-service q s e f = sym (k.served.known q) ∙ ap is_fetched e ∙ f

  -- the oldest of those that wait has one
  pub waiting-served : not (length side.book.waiting == 0) ≡ true → is_some (at side.linux.services (first_number side.book.waiting)) ≡ true
  waiting-served e =
      let a = not-empty side.book.waiting e in
      let list = a.2 in
      let waits : (q : ℕ) → tally (if_same q) (a.0 ∷ a.1) ≡ tally (if_same q) side.book.waiting = (λ q. ap (tally (if_same q)) (sym list)) in
      let b = waiting-first (at side.book.rows) a.0 a.1 (λ q. waits q ∙ k.served.waits q) in
      ap (λ ws. is_some (at side.linux.services (first_number ws))) list ∙ has-service a.0 Waiting (ap state_in b.1) refl

  -- the request that a worker holds has one
  pub held-served : (w : ℕ) → Serves side.linux side.book w Held → is_some (at side.linux.services (serves side.linux w)) ≡ true
  held-served w x = ap (λ o. is_some (at side.linux.services (unwrap_or o 0))) x.serving ∙ has-service x.number Held (ap state_in x.is) refl
