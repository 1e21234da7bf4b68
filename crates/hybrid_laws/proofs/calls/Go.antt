-- What each event leaves of a process's calls: the Interrupts of marked calls stay told of, and a number is gone, given but no more in the book, once its reply is posted.
use Rattle.hybrid_model.specs.declared.events.Event.TheVariants as Events
use Rattle.hybrid_laws.proofs.assign.Assign.{MayAssign, may-assign, waiting-first}
use Rattle.hybrid_laws.proofs.maps.Reading.{reads-stated}
use Rattle.hybrid_laws.proofs.maps.Tests.{both}
use Rattle.hybrid_laws.proofs.requests.Serving.{Serves, ended-it, free-to-act, holds-it, parked-in}
use Rattle.hybrid_laws.specs.Journals.{gone, gone_in}
use Rattle.hybrid_laws.specs.Lasting.{IsTold, MarksTold}
use Rattle.hybrid_model.specs.Coherence.{OfProcess, interrupts_of, is_waiting, state_at}
use Rattle.hybrid_model.specs.AckClear.{ack_clear}
use Rattle.hybrid_model.specs.Act.{act_file}
use Rattle.hybrid_model.specs.Copy.{copy}
use Rattle.hybrid_model.specs.Events.{after_here, may_here}
use Rattle.hybrid_model.specs.Finish.{finish_here}
use Rattle.hybrid_model.specs.Miss.{miss}
use Rattle.hybrid_model.specs.Park.{park_here}
use Rattle.hybrid_model.specs.Unpark.{unpark_here}
use Rattle.hybrid_model.specs.Act.{acted, may_act}
use Rattle.hybrid_model.specs.Assign.{assign}
use Rattle.hybrid_model.specs.Copy.{copied, is_uncopied, may_copy, moved_by}
use Rattle.hybrid_model.specs.Finish.{finish, may_finish}
use Rattle.hybrid_model.specs.Miss.{may_miss}
use Rattle.hybrid_model.specs.Park.{may_park, park_blocks, park_stops, parks}
use Rattle.hybrid_model.specs.Pin.{pin, pinned}
use Rattle.hybrid_model.specs.Unpark.{may_take_turn, unpark}
use Rattle.hybrid_model.specs.Unpin.{unpin}
use Rattle.hybrid_model.specs.Workers.{has_pin, holds, is_ended_or_replied, is_ended_request, is_free_to_act, is_parked, kind_for, row_for, state_if, stepped, stepped_book, stepped_service}
use Rattle.hybrid_model.specs.Pairs.{Here}
use Rattle.hybrid_model.specs.Sides.{Book, Caller, Row, Service, Side, no_service, pin_of, served, serves, service_of, state_in, state_of, stated}
use Rattle.hybrid_model.specs.Spaces.{first_number, frame_bytes}
use Rattle.hybrid_model.specs.Tallies.{Reads, as_number, if_same, sum_rings, tally, with_at}
use Rattle.hybrid_model.specs.declared.events.Event.{Event}
use Rattle.ikc_ring.specs.declared.CallRequest.{CallRequest}
use Rattle.kernel_model.specs.Progress.{After, interrupted_answer, is_file_step, is_not_ready, is_ready, next_kind}
use Rattle.mck_word.specs.MapLaws.{at-cut, at-put}
use Rattle.mck_word.specs.Maps.{Map, at, cut, put}
use Rattle.mck_word.specs.declared.Pid.{Pid}
use Rattle.mck_word.specs.declared.Req.{Req}
use Rattle.request_book.specs.declared.ReqState.TheVariants.{Ended, Faulted, Held, Parked, Waiting}
use Rattle.request_book.specs.declared.ReqState.{ReqState}
use Rattle.std.proofs.Common.{ap, arith, inl, inr, refl, subst, sym, ◌∙◌}
use Rattle.std.proofs.lemmas.Bool.Decides.{nat_tests}
use Rattle.std.proofs.lemmas.Bool.{cases_lt}
use Rattle.std.specs.Prelude.{Bool, List, None, Option, Some, [], cond, false, if◌then◌else◌, is_none, is_some, length, nat_lt, not, true, unwrap_or, ℕ, ◌&&◌, ◌+◌, ◌<◌, ◌==◌, ◌||◌, ◌∷◌, ◌≡◌, ◌≤◌, ◌⊎◌}

abbrev pub posts_none : ℕ → ℕ
posts_none q = 0

-- the reply that an event of the process posts
abbrev pub posts_here : Event → Here → ℕ → ℕ
posts_here (Events.Finish n w) h q = cond (serves h.side.linux w == q) 1 0
posts_here e h q = 0

pub record CallsGo (posts : ℕ → ℕ) (s z : Side) : Type 0 where
  pub told : MarksTold s → MarksTold z
  pub gone_more : (q : ℕ) → gone z q ≡ gone s q + posts q

pub told-by : (s z : Side) (x : ℕ) → (is_ended_or_replied (state_of z.book x) ≡ false → is_ended_or_replied (state_of s.book x) ≡ false)
    → sum_rings (interrupts_of x) s.to_linux ≤ sum_rings (interrupts_of x) z.to_linux → (service_of z.linux.services x).interrupted ≡ (service_of s.linux.services x).interrupted → IsTold s x → IsTold z x
told-by s z x still more same h e = let a = h (still e) in let i = ap as_number same in omega (arith, a, i, more)

-- the callers stay
pub callers-stay : (s z : Side) → z.lwk.callers ≡ s.lwk.callers → ((x : ℕ) → IsTold s x → IsTold z x) → MarksTold s → MarksTold z
callers-stay s z same f h t c e m = f c.request (h t c (ap (λ (y : Map Caller). at y t) (sym same) ∙ e) m)

-- ---- nothing of it changes
pub stays : (s z : Side) → z.lwk.callers ≡ s.lwk.callers → z.book.rows ≡ s.book.rows → z.book.next ≡ s.book.next → ((x : ℕ) → sum_rings (interrupts_of x) s.to_linux ≤ sum_rings (interrupts_of x) z.to_linux)
    → ((x : ℕ) → (service_of z.linux.services x).interrupted ≡ (service_of s.linux.services x).interrupted) → CallsGo posts_none s z
stays s z callers rows next more same = record {
  told = callers-stay s z callers (λ x. told-by s z x (λ e. ap (λ (m : Map (ReqState × CallRequest)). is_ended_or_replied (state_in (at m x))) (sym rows) ∙ e) (more x) (same x));
  gone_more = λ q. (let a : gone z q ≡ gone s q = (λ i. gone_in (at (rows i) q) q (next i)) in omega (arith, a));
}

pub stays-same : (s : Side) → CallsGo posts_none s s
stays-same s = stays s s refl refl refl (λ x. omega arith) (λ x. refl)

-- ---- a request gets another state
module _ (s : Side) (n : ℕ) (was now : ReqState) (call : CallRequest) (is : at s.book.rows n ≡ Some (was, call)) (opens : (is_ended_or_replied was ≡ false) ⊎ (is_ended_or_replied now ≡ true)) where
  now-at : (x : ℕ) → at (stated now (at s.book.rows n) n s.book.rows) x ≡ with_at (at s.book.rows) n (Some (now, call)) x
  now-at x = ap (λ (f : Reads (ReqState × CallRequest)). f x) (reads-stated now n s.book.rows call was is)

  still-open : (x : ℕ) → is_ended_or_replied (state_in (at (stated now (at s.book.rows n) n s.book.rows) x)) ≡ false → is_ended_or_replied (state_in (at s.book.rows x)) ≡ false
  still-open x e = go (x == n) refl (sym (ap (λ o. is_ended_or_replied (state_in o)) (now-at x)) ∙ e)
    where
      by-open : x ≡ n → is_ended_or_replied now ≡ false → (is_ended_or_replied was ≡ false) ⊎ (is_ended_or_replied now ≡ true) → is_ended_or_replied (state_in (at s.book.rows x)) ≡ false
      by-open y f (inl o) = ap (λ (j : ℕ). is_ended_or_replied (state_in (at s.book.rows j))) y ∙ ap (λ o. is_ended_or_replied (state_in o)) is ∙ o
      by-open y f (inr o) = absurd (grind (arith, f, o))

      go : (b : Bool) → (x == n) ≡ b → is_ended_or_replied (state_in (if b then Some (now, call) else at s.book.rows x)) ≡ false → is_ended_or_replied (state_in (at s.book.rows x)) ≡ false
      go false f u = u
      go true f u = by-open (grind (arith, nat_tests, f)) u opens

  same-gone : (x : ℕ) → is_none (at (stated now (at s.book.rows n) n s.book.rows) x) ≡ is_none (at s.book.rows x)
  same-gone x = ap is_none (now-at x) ∙ go (x == n) refl
    where
      go : (b : Bool) → (x == n) ≡ b → is_none (if b then Some (now, call) else at s.book.rows x) ≡ is_none (at s.book.rows x)
      go false f = refl
      go true f = let y : x ≡ n = grind (arith, nat_tests, f) in sym (ap is_none (ap (at s.book.rows) y ∙ is))

  pub restated : (z : Side) → z.lwk.callers ≡ s.lwk.callers → z.book.rows ≡ stated now (at s.book.rows n) n s.book.rows → z.book.next ≡ s.book.next → ((x : ℕ) → sum_rings (interrupts_of x) s.to_linux ≤ sum_rings (interrupts_of x) z.to_linux)
      → ((x : ℕ) → (service_of z.linux.services x).interrupted ≡ (service_of s.linux.services x).interrupted) → CallsGo posts_none s z
  restated z callers rows next more same = record {
    told = callers-stay s z callers (λ x. told-by s z x (λ e. still-open x (ap (λ (m : Map (ReqState × CallRequest)). is_ended_or_replied (state_in (at m x))) (sym rows) ∙ e)) (more x) (same x));
    gone_more = λ q. (let a : gone z q ≡ gone s q = (λ i. as_number (nat_lt q (next i) && is_none (at (rows i) q))) ∙ ap (λ b. as_number (nat_lt q s.book.next && b)) (same-gone q) in omega (arith, a));
  }

-- ---- a request leaves the book
module _ (s : Side) (n : ℕ) (r : ReqState × CallRequest) (is : at s.book.rows n ≡ Some r) (fresh : (x : ℕ) → s.book.next ≤ x → at s.book.rows x ≡ None) where
  below : n < s.book.next
  below = go (cases_lt n s.book.next)
    where
      go : (n < s.book.next) ⊎ (s.book.next ≤ n) → n < s.book.next
      go (inl l) = l
      go (inr l) = absurd (let a = sym (fresh n l) ∙ is in grind (arith, a))

  pub leaves : (z : Side) → z.lwk.callers ≡ s.lwk.callers → z.book.rows ≡ cut s.book.rows n → z.book.next ≡ s.book.next → z.to_linux ≡ s.to_linux → z.linux.services ≡ cut s.linux.services n → CallsGo (λ x. cond (n == x) 1 0) s z
  leaves z callers rows next rings services = record { told = callers-stay s z callers told-left; gone_more = gone-left }
    where
      at-now : (x : ℕ) → at z.book.rows x ≡ cond (x == n) None (at s.book.rows x)
      at-now x = ap (λ (m : Map (ReqState × CallRequest)). at m x) rows ∙ at-cut s.book.rows n x

      told-left : (x : ℕ) → IsTold s x → IsTold z x
      told-left x h e = go (x == n) refl
        where
          go : (b : Bool) → (x == n) ≡ b → 1 ≤ sum_rings (interrupts_of x) z.to_linux + as_number (service_of z.linux.services x).interrupted
          go true f = absurd (let a = sym (ap (λ o. is_ended_or_replied (state_in o)) (at-now x ∙ ap (λ b. cond b None (at s.book.rows x)) f)) ∙ e in grind (arith, a))
          go false f = told-by s z x (λ u. ap (λ o. is_ended_or_replied (state_in o)) (sym (at-now x ∙ ap (λ b. cond b None (at s.book.rows x)) f)) ∙ u)
              (let a = ap (sum_rings (interrupts_of x)) rings in omega (arith, a))
              (ap (λ (m : Map Service). (service_of m x).interrupted) services ∙ ap (λ (o : Option Service). (unwrap_or o no_service).interrupted) (at-cut s.linux.services n x ∙ ap (λ b. cond b None (at s.linux.services x)) f)) h e

      gone-left : (x : ℕ) → gone z x ≡ gone s x + cond (n == x) 1 0
      gone-left x = go (x == n) refl
        where
          go : (b : Bool) → (x == n) ≡ b → gone z x ≡ gone s x + cond (n == x) 1 0
          go true f =
              let y : x ≡ n = grind (arith, nat_tests, f) in
              let u : (n == x) ≡ true = grind (arith, nat_tests, y) in
              let lt : nat_lt x s.book.next ≡ true = (let l = below in grind (arith, nat_tests, l, y)) in
              let a : gone z x ≡ 1 = (λ i. as_number (nat_lt x (next i) && is_none (at-now x i))) ∙ (λ i. as_number (lt i && is_none (cond (f i) None (at s.book.rows x)))) in
              let b : gone s x ≡ 0 = (λ i. as_number (lt i && is_none (at s.book.rows (y i)))) ∙ ap (λ o. as_number (true && is_none o)) is in
              let d = ap {B = ℕ} (λ b. cond b 1 0) u in
              omega (arith, a, b, d)
          go false f =
              let u : (n == x) ≡ false = grind (arith, nat_tests, f) in
              let a : gone z x ≡ gone s x = (λ i. as_number (nat_lt x (next i) && is_none (at-now x i))) ∙ ap (λ b. as_number (nat_lt x s.book.next && is_none (cond b None (at s.book.rows x)))) f in
              let d = ap {B = ℕ} (λ b. cond b 1 0) u in
              omega (arith, a, d)

-- ---- a service is put, as much interrupted as the one before
pub service-put : (services : Map Service) (n : ℕ) (k : Service) → k.interrupted ≡ (service_of services n).interrupted → (x : ℕ) → (service_of (put services n k) x).interrupted ≡ (service_of services x).interrupted
service-put services n k same x = ap (λ (o : Option Service). (unwrap_or o no_service).interrupted) (at-put services n k x) ∙ go (x == n) refl
  where
    go : (b : Bool) → (x == n) ≡ b → (unwrap_or (cond b (Some k) (at services x)) no_service).interrupted ≡ (service_of services x).interrupted
    go false f = refl
    go true f = let y : x ≡ n = grind (arith, nat_tests, f) in same ∙ ap (λ (j : ℕ). (service_of services j).interrupted) (sym y)

-- ---- the events of the proxy's side
module _ (p : ℕ) (h : Here) (worker_count : ℕ) (ring_of : ℕ → ℕ) (k : OfProcess p h.side h.node worker_count ring_of) where
  pub go-assign : (q : Pid) (w : ℕ) → may_here (Events.Assign q w) h ≡ true → CallsGo posts_none h.side (after_here (Events.Assign q w) p h).side
  unfolding assign
  go-assign q w m = go h.side.book.waiting refl
    where
      y : MayAssign h w
      y = may-assign h q w m

      go : (ws : List ℕ) → h.side.book.waiting ≡ ws → CallsGo posts_none h.side (after_here (Events.Assign q w) p h).side
      go [] e = absurd (let a = sym (ap (λ (xs : List ℕ). not (length xs == 0)) e) ∙ y.waits in grind (arith, nat_tests, a))
      go (n ∷ ws) e =
          let f = waiting-first (at h.side.book.rows) n ws (subst (λ (xs : List ℕ). (z : ℕ) → tally (if_same z) xs ≡ is_waiting (state_at (at h.side.book.rows) z)) e k.served.waits) in
          let is : at h.side.book.rows (first_number h.side.book.waiting) ≡ Some (Waiting, f.0) = ap (λ (xs : List ℕ). at h.side.book.rows (first_number xs)) e ∙ f.1 in
          restated h.side (first_number h.side.book.waiting) Waiting Held f.0 is (inl refl) (after_here (Events.Assign q w) p h).side refl refl refl (λ x. omega arith)
          (service-put h.side.linux.services (first_number h.side.book.waiting) (record (service_of h.side.linux.services (first_number h.side.book.waiting)) { worker = w }) refl)

  -- a worker's request that is Held gets another state
  module _ (w : ℕ) (y : Serves h.side.linux h.side.book w Held) where
    held-is : at h.side.book.rows (serves h.side.linux w) ≡ Some (Held, y.call)
    held-is = ap (λ (o : Option ℕ). at h.side.book.rows (unwrap_or o 0)) y.serving ∙ y.is

    pub from-held : (now : ReqState) (z : Side) → z.lwk.callers ≡ h.side.lwk.callers → z.book.rows ≡ stated now (at h.side.book.rows (serves h.side.linux w)) (serves h.side.linux w) h.side.book.rows → z.book.next ≡ h.side.book.next → z.to_linux ≡ h.side.to_linux
        → ((x : ℕ) → (service_of z.linux.services x).interrupted ≡ (service_of h.side.linux.services x).interrupted) → CallsGo posts_none h.side z
    from-held now z callers rows next rings same = restated h.side (serves h.side.linux w) Held now y.call held-is (inl refl) z callers rows next (λ x. (let a = ap (sum_rings (interrupts_of x)) rings in omega (arith, a))) same

    from-step : (a : After) (z : Side) → z.lwk.callers ≡ h.side.lwk.callers → z.book ≡ stepped_book h.side.linux h.side.book w a → z.to_linux ≡ h.side.to_linux → z.linux.services ≡ (stepped h.side.linux w a).services → CallsGo posts_none h.side z
    from-step a z callers book rings services = from-held (state_if a.ended) z callers (ap (λ (b : Book). b.rows) book) (ap (λ (b : Book). b.next) book) rings
        (λ x. ap (λ (m : Map Service). (service_of m x).interrupted) services ∙ service-put h.side.linux.services (serves h.side.linux w) (stepped_service (served h.side.linux w) a) refl x)

  held-of : (w : ℕ) (b : Bool) → (nat_lt w h.workers && b) ≡ true → b ≡ true
  held-of w b e = let a = both (nat_lt w h.workers) b e in a.1

  pub go-miss : (q : Pid) (w : ℕ) → may_here (Events.Miss q w) h ≡ true → CallsGo posts_none h.side (after_here (Events.Miss q w) p h).side
  unfolding miss
  go-miss q w m =
      let a = held-of w (may_miss h.side.linux h.side.book h.node.files w) m in
      let b = both (is_free_to_act h.side.linux h.side.book w && is_ready (kind_for h.side.linux h.node.files w)) (is_none (row_for h.side.linux w)) a in
      let d = both (is_free_to_act h.side.linux h.side.book w) (is_ready (kind_for h.side.linux h.node.files w)) b.0 in
      let y = free-to-act h.side.linux h.side.book w d.0 in
      from-held w y.0 Faulted (after_here (Events.Miss q w) p h).side refl refl refl refl (λ x. refl)

  pub go-copy : (q : Pid) (w : ℕ) → may_here (Events.Copy q w) h ≡ true → CallsGo posts_none h.side (after_here (Events.Copy q w) p h).side
  unfolding copy copied
  go-copy q w m =
      let a = held-of w (may_copy h.side.linux h.side.book h.node.files w) m in
      let b = both (is_uncopied (at h.side.linux.pins w) && holds h.side.linux h.side.book w) (is_ready (kind_for h.side.linux h.node.files w)) a in
      let d = both (is_uncopied (at h.side.linux.pins w)) (holds h.side.linux h.side.book w) b.0 in
      from-step w (holds-it h.side.linux h.side.book w d.1) (moved_by p h.side.linux h.node.files w (frame_bytes h.frames (pin_of h.side.linux w).frame.0)).after (after_here (Events.Copy q w) p h).side refl refl refl refl

  pub go-act : (q : Pid) (w : ℕ) → may_here (Events.Act q w) h ≡ true → CallsGo posts_none h.side (after_here (Events.Act q w) p h).side
  unfolding act_file
  go-act q w m =
      let a = held-of w (may_act h.side.linux h.side.book h.node.files w) m in
      let b = both (is_free_to_act h.side.linux h.side.book w) (is_file_step (kind_for h.side.linux h.node.files w)) a in
      let y = free-to-act h.side.linux h.side.book w b.0 in
      from-step w y.0 (acted p h.side.linux h.node.files w) (after_here (Events.Act q w) p h).side refl refl refl refl

  pub go-park : (q : Pid) (w : ℕ) → may_here (Events.Park q w) h ≡ true → CallsGo posts_none h.side (after_here (Events.Park q w) p h).side
  unfolding park_here park_stops park_blocks
  go-park q w m = go (served h.side.linux w).interrupted
    where
      y : Serves h.side.linux h.side.book w Held
      y = let a = held-of w (may_park h.side.linux h.side.book h.node.files w) m in
          let b = both (is_free_to_act h.side.linux h.side.book w) (is_not_ready (kind_for h.side.linux h.node.files w)) a in
          let d = free-to-act h.side.linux h.side.book w b.0 in d.0

      go : (b : Bool) → CallsGo posts_none h.side (record h.side { linux = (parks b h.side.linux h.side.book w).0; book = (parks b h.side.linux h.side.book w).1 })
      go true = from-held w y Ended (record h.side { linux = (parks true h.side.linux h.side.book w).0; book = (parks true h.side.linux h.side.book w).1 }) refl refl refl refl
          (service-put h.side.linux.services (serves h.side.linux w) (record (served h.side.linux w) { answer = interrupted_answer (served h.side.linux w).progress }) refl)
      go false = from-held w y Parked (record h.side { linux = (parks false h.side.linux h.side.book w).0; book = (parks false h.side.linux h.side.book w).1 }) refl refl refl refl (λ x. refl)

  pub go-unpark : (q : Pid) (n : Req) → may_here (Events.Unpark q n) h ≡ true → CallsGo posts_none h.side (after_here (Events.Unpark q n) p h).side
  unfolding unpark_here unpark
  go-unpark q n m =
      let b = both (is_parked (state_of h.side.book n.0)) ((service_of h.side.linux.services n.0).interrupted || is_file_step (next_kind h.node.files (service_of h.side.linux.services n.0).progress) || may_take_turn q.0 h.side.linux h.node.files h.turns n.0) m in
      let y = parked-in h.side.linux h.side.book n.0 b.0 in
      restated h.side n.0 Parked Waiting y.0 y.1 (inl refl) (after_here (Events.Unpark q n) p h).side refl refl refl (λ x. omega arith) (λ x. refl)

  pub go-pin : (q : Pid) (w : ℕ) → CallsGo posts_none h.side (after_here (Events.Pin q w) p h).side
  unfolding pin
  go-pin q w = go (row_for h.side.linux w)
    where
      go : (o : Option Row) → CallsGo posts_none h.side (record h.side { linux = pinned h.side.linux w o })
      go None = stays-same h.side
      go (Some r) = stays h.side (record h.side { linux = pinned h.side.linux w (Some r) }) refl refl refl (λ x. omega arith) (λ x. refl)

  pub go-finish : (q : Pid) (w : ℕ) → may_here (Events.Finish q w) h ≡ true → CallsGo (posts_here (Events.Finish q w) h) h.side (after_here (Events.Finish q w) p h).side
  unfolding finish_here finish
  go-finish q w m =
      let a = held-of w (may_finish h.side.linux h.side.book w) m in
      let b = both (is_some (at h.side.linux.workers w) && is_ended_request (state_of h.side.book (serves h.side.linux w))) (not (has_pin h.side.linux w)) a in
      let d = both (is_some (at h.side.linux.workers w)) (is_ended_request (state_of h.side.book (serves h.side.linux w))) b.0 in
      let y = ended-it h.side.linux h.side.book w d.0 d.1 in
      leaves h.side (serves h.side.linux w) (Ended, y.call) (ap (λ (o : Option ℕ). at h.side.book.rows (unwrap_or o 0)) y.serving ∙ y.is) k.answered.fresh (after_here (Events.Finish q w) p h).side refl refl refl refl refl

  pub go-ack_clear : (q : Pid) → CallsGo posts_none h.side (after_here (Events.AckClear q) p h).side
  unfolding ack_clear
  go-ack_clear q = stays h.side (after_here (Events.AckClear q) p h).side refl refl refl (λ x. omega arith) (λ x. refl)

  pub go-unpin : (q : Pid) (w : ℕ) → CallsGo posts_none h.side (after_here (Events.Unpin q w) p h).side
  unfolding unpin
  go-unpin q w = stays h.side (after_here (Events.Unpin q w) p h).side refl refl refl (λ x. omega arith) (λ x. refl)
