-- Where no event may happen: rings are empty, there is no pin, no round, no noted fault and no worker that serves, nothing waits, and each call is parked.
use Rattle.hybrid_model.specs.declared.events.Event.TheVariants as Events
use Rattle.clear_rounds.specs.declared.Phase.TheVariants.{Acked, Posted as RoundPosted, Taken}
use Rattle.clear_rounds.specs.declared.Phase.{Phase}
use Rattle.file_model.specs.declared.operations.Readiness.TheVariants.{FileStep, NotReady, Ready}
use Rattle.file_model.specs.declared.operations.Readiness.{Readiness}
use Rattle.hybrid_laws.proofs.maps.Tests.{both}
use Rattle.hybrid_laws.proofs.memory.Written.{each-entry}
use Rattle.hybrid_laws.specs.Lasting.{Lasting}
use Rattle.hybrid_model.specs.Coherence.{OfProcess, acked, acks, answers_to, asks, calls_it, clears, faulting, faults_of, holder, holder_at, interrupts_of, is_faulted, is_live, is_posted, is_waiting, posted, replies_to, service_at, tid_in}
use Rattle.hybrid_model.specs.Events.{may, may_here, process_of_event}
use Rattle.hybrid_model.specs.Globals.{Coherent, ring_number, waits_or_held}
use Rattle.hybrid_model.specs.Journals.{IsOver}
use Rattle.hybrid_model.specs.AckClear.{clear_in, no_pin_in}
use Rattle.hybrid_model.specs.Act.{may_act}
use Rattle.hybrid_model.specs.Assign.{may_assign}
use Rattle.hybrid_model.specs.Copy.{is_uncopied, may_copy}
use Rattle.hybrid_model.specs.Finish.{may_finish}
use Rattle.hybrid_model.specs.Miss.{may_miss}
use Rattle.hybrid_model.specs.Park.{may_park}
use Rattle.hybrid_model.specs.Pin.{may_pin}
use Rattle.hybrid_model.specs.Turns.{is_turn_for, other_has_turn, pipe_end}
use Rattle.hybrid_model.specs.Unpark.{may_take_turn}
use Rattle.hybrid_model.specs.Unpin.{is_copied, may_unpin}
use Rattle.hybrid_model.specs.Workers.{has_pin, holds, is_ended_or_replied, is_ended_request, is_free_to_act, is_held, is_parked, kind_for, row_for}
use Rattle.hybrid_model.specs.Answer.{may_answer, noted_may_be_answered}
use Rattle.hybrid_model.specs.Interrupt.{no_caller}
use Rattle.hybrid_model.specs.Pairs.{Pair, here, side_of}
use Rattle.hybrid_model.specs.Rings.{all_empty, ring}
use Rattle.hybrid_model.specs.Sides.{Caller, Noted, Round, Row, Side, Turn, serves, service_of, state_in, state_of}
use Rattle.hybrid_model.specs.Tallies.{Each, as_number, counted, if_same, sum_rings, tally}
use Rattle.hybrid_model.specs.declared.events.Event.{Event}
use Rattle.ikc_ring.specs.declared.CallRequest.{CallRequest}
use Rattle.ikc_ring.specs.declared.Msg.{Msg}
use Rattle.kernel_model.specs.Nodes.{Node, Process, dying, has_ended, has_process, is_dying, is_ended, is_living, is_there, lives, no_process, process_of, thread_of}
use Rattle.kernel_model.specs.Progress.{is_file_step, is_not_ready, is_ready, next_kind}
use Rattle.kernel_model.specs.Traps.{may_be_called_back, may_be_marked}
use Rattle.kernel_model.specs.declared.Life.TheVariants.{Dying, Ended as LifeEnded, Living}
use Rattle.kernel_model.specs.declared.Life.{Life}
use Rattle.mck_word.specs.Identifiers.{pid, req, tid}
use Rattle.mck_word.specs.Maps.{Map, at, each_row, entries}
use Rattle.mck_word.specs.Pages.{in_range}
use Rattle.mck_word.specs.declared.PageRange.{PageRange}
use Rattle.page_pins.specs.declared.Pin.{Pin}
use Rattle.request_book.specs.declared.ReqState.TheVariants.{Ended, Faulted, Held, Parked, Posted, Replied, Waiting}
use Rattle.request_book.specs.declared.ReqState.{ReqState}
use Rattle.std.proofs.Common.{ap, arith, inl, inr, refl, subst, sym, ◌∙◌}
use Rattle.std.proofs.lemmas.Bool.Decides.{nat_tests}
use Rattle.std.specs.List.{list_all}
use Rattle.std.specs.Prelude.{Bool, List, None, Option, Some, [], cond, false, is_none, is_some, length, nat_lt, not, suc, true, unwrap_or, ℕ, ◌&&◌, ◌==◌, ◌||◌, ◌∷◌, ◌≡◌, ◌⊎◌}

-- ---- words on tests
pub and-true : (a b : Bool) → a ≡ true → b ≡ true → (a && b) ≡ true
and-true true b e f = f
and-true false b e f = absurd (grind (arith, e))

or-left : (a b : Bool) → a ≡ true → (a || b) ≡ true
or-left true b e = refl
or-left false b e = absurd (grind (arith, e))

pub or-right : (a b : Bool) → b ≡ true → (a || b) ≡ true
or-right true b e = refl
or-right false b e = e

not-of : (a : Bool) → a ≡ false → not a ≡ true
not-of false e = refl
not-of true e = absurd (grind (arith, e))

some-left : {A : Type 0} (x : A) (xs : List A) → not (length (x ∷ xs) == 0) ≡ true
some-left x xs = grind (arith, nat_tests)

-- ---- empty rings
empty-sum : (f : Msg → ℕ) (rs : List (List Msg)) → ((r : ℕ) → ring r rs ≡ []) → sum_rings f rs ≡ 0
empty-sum f [] h = refl
empty-sum f (ms ∷ rs) h = let a = ap (tally f) (h 0) in let b = empty-sum f rs (λ r. h (suc r)) in omega (arith, a, b)

pub empty-all : (rs : List (List Msg)) → ((r : ℕ) → ring r rs ≡ []) → all_empty rs ≡ true
empty-all [] h = refl
empty-all (ms ∷ rs) h = and-true (length ms == 0) (all_empty rs) (ap (λ (x : List Msg). length x == 0) (h 0)) (empty-all rs (λ r. h (suc r)))

-- each row of a map without rows passes
rows-pass : {V : Type 0} (test : ℕ → V → Bool) (m : Map V) → ((k : ℕ) → at m k ≡ None) → each_row test m ≡ true
rows-pass {V} test m h = go (entries m) (each-entry m)
  where
    go : (es : List (ℕ × V)) → Each (λ (x : ℕ × V). at m x.0 ≡ Some x.1) es → list_all (λ (e : ℕ × V). test e.0 e.1) es ≡ true
    go [] k = refl
    go (x ∷ xs) k = absurd (let a = sym (h x.0) ∙ k.0 in grind (arith, a))

-- ---- a process that lives or is dying is there
there-life : (o : Option Process) → (lives (unwrap_or o no_process).life ≡ true) ⊎ (dying (unwrap_or o no_process).life ≡ true) → (is_some o && not (has_ended (unwrap_or o no_process).life)) ≡ true
there-life None (inl e) = absurd (grind (arith, e))
there-life None (inr e) = absurd (grind (arith, e))
there-life (Some x) e = go x.life e
  where
    go : (l : Life) → (lives l ≡ true) ⊎ (dying l ≡ true) → not (has_ended l) ≡ true
    go Living u = refl
    go (Dying d) u = refl
    go (LifeEnded d) (inl u) = absurd (grind (arith, u))
    go (LifeEnded d) (inr u) = absurd (grind (arith, u))

pub living-there : (node : Node) (p : ℕ) → is_living node p ≡ true → is_there node p ≡ true
living-there node p e = there-life (at node.processes p) (inl e)

pub dying-there : (node : Node) (p : ℕ) → is_dying node p ≡ true → is_there node p ≡ true
dying-there node p e = there-life (at node.processes p) (inr e)

-- a process that is there lives or is dying
pub there-lives : (node : Node) (p : ℕ) → is_there node p ≡ true → (is_living node p ≡ true) ⊎ (is_dying node p ≡ true)
there-lives node p e = go (process_of node p).life (let a = both (has_process node p) (not (is_ended node p)) e in a.1)
  where
    go : (l : Life) → not (has_ended l) ≡ true → (lives l ≡ true) ⊎ (dying l ≡ true)
    go Living u = inl refl
    go (Dying d) u = inr refl
    go (LifeEnded d) u = absurd (grind (arith, u))

-- a request that waits or is held is live
waits-live : (st : ReqState) → waits_or_held st ≡ true → is_live st ≡ true
waits-live Waiting e = refl
waits-live Held e = refl
waits-live Posted e = refl
waits-live Parked e = refl
waits-live Faulted e = refl
waits-live Ended e = refl
waits-live Replied e = absurd (grind (arith, e))

-- ---- a live request has a caller, whose process is there
module _ (pair : Pair) (c : Coherent pair) where
  pub caller-there : (p t : ℕ) (x : Caller) → at (side_of pair p).lwk.callers t ≡ Some x → is_there pair.node p ≡ true
  caller-there p t x e =
      let a = (c.whole p).calls.there t x e in
      subst (λ (q : ℕ). is_there pair.node q ≡ true) a.2 (c.known.threads_there t a.0 a.1)

  pub live-there : (p q : ℕ) → is_live (state_of (side_of pair p).book q) ≡ true → is_there pair.node p ≡ true
  live-there p q e = go (at (side_of pair p).lwk.callers (tid_in (at (side_of pair p).book.rows q))) refl ((c.whole p).answered.live q e)
    where
      go : (o : Option Caller) → at (side_of pair p).lwk.callers (tid_in (at (side_of pair p).book.rows q)) ≡ o → calls_it q o ≡ true → is_there pair.node p ≡ true
      go None f u = absurd (grind (arith, u))
      go (Some x) f u = caller-there p (tid_in (at (side_of pair p).book.rows q)) x f

module _ (pair : Pair) (c : Coherent pair) (l : Lasting pair) (over : IsOver pair) where
  not-may : (e : Event) → may pair e ≡ true → ⊥
  not-may e m = let o = over e in grind (arith, o, m)

  -- ---- one process
  module _ (p : ℕ) (there : is_there pair.node p ≡ true) where
    abbrev s : Side
    s = side_of pair p

    k : OfProcess p s pair.node pair.workers (ring_number pair)
    k = c.whole p

    -- an event of the process may not happen
    not-here : (e : Event) → process_of_event pair.node e ≡ p → may_here e (here pair p) ≡ true → ⊥
    not-here e f m = not-may e (and-true (is_there pair.node (process_of_event pair.node e)) (may_here e (here pair (process_of_event pair.node e)))
        (ap (is_there pair.node) f ∙ there) (ap (λ (q : ℕ). may_here e (here pair q)) f ∙ m))

    pub no-ring : (r : ℕ) → ring r s.to_linux ≡ []
    no-ring r = go (ring r s.to_linux) refl
      where
        go : (ms : List Msg) → ring r s.to_linux ≡ ms → ring r s.to_linux ≡ []
        go [] e = e
        go (m ∷ ms) e = absurd (not-here (Events.Fetch (pid p) r) refl (ap (λ (xs : List Msg). not (length xs == 0)) e ∙ some-left m ms))

    none-sent : (f : Msg → ℕ) → sum_rings f s.to_linux ≡ 0
    none-sent f = empty-sum f s.to_linux no-ring

    pub no-back : s.to_lwk ≡ []
    no-back = go s.to_lwk refl
      where
        go : (ms : List Msg) → s.to_lwk ≡ ms → s.to_lwk ≡ []
        go [] e = e
        go (m ∷ ms) e = absurd (not-here (Events.Intake (pid p)) refl (ap (λ (xs : List Msg). not (length xs == 0)) e ∙ some-left m ms))

    -- a worker that serves a request is one of the process's
    is-worker : (w q : ℕ) → at s.linux.workers w ≡ Some q → nat_lt w pair.workers ≡ true
    is-worker w q e = let b = k.served.worker_below w q e in grind (arith, nat_tests, b)

    no-pin : (w : ℕ) (x : Pin) → at s.linux.pins w ≡ Some x → ⊥
    no-pin w x e = go x.copied refl (holds s.linux s.book w) refl (is_ready (kind_for s.linux pair.node.files w)) refl
      where
        worker : nat_lt w pair.workers ≡ true
        worker = let g = k.served.pins_serve w x e in is-worker w g.number g.serves

        unpins : (is_copied (at s.linux.pins w) || not (holds s.linux s.book w && is_ready (kind_for s.linux pair.node.files w))) ≡ true → ⊥
        unpins h = not-here (Events.Unpin (pid p) w) refl (and-true (nat_lt w pair.workers) (may_unpin s.linux s.book pair.node.files w) worker
            (and-true (has_pin s.linux w) (is_copied (at s.linux.pins w) || not (holds s.linux s.book w && is_ready (kind_for s.linux pair.node.files w))) (ap is_some e) h))

        idle : (holds s.linux s.book w && is_ready (kind_for s.linux pair.node.files w)) ≡ false → ⊥
        idle h = unpins (or-right (is_copied (at s.linux.pins w)) (not (holds s.linux s.book w && is_ready (kind_for s.linux pair.node.files w))) (not-of (holds s.linux s.book w && is_ready (kind_for s.linux pair.node.files w)) h))

        go : (b : Bool) → x.copied ≡ b → (h : Bool) → holds s.linux s.book w ≡ h → (r : Bool) → is_ready (kind_for s.linux pair.node.files w) ≡ r → ⊥
        go true f h g r i = unpins (or-left (is_copied (at s.linux.pins w)) (not (holds s.linux s.book w && is_ready (kind_for s.linux pair.node.files w))) (ap is_copied e ∙ f))
        go false f false g r i = idle (ap (λ b. b && is_ready (kind_for s.linux pair.node.files w)) g)
        go false f true g false i = idle ((λ j. g j && i j))
        go false f true g true i = not-here (Events.Copy (pid p) w) refl (and-true (nat_lt w pair.workers) (may_copy s.linux s.book pair.node.files w) worker
            ((λ j. is_uncopied (e j) && g j && i j) ∙ ap (λ b. not b && true && true) f))

    pin-none : (w : ℕ) → at s.linux.pins w ≡ None
    pin-none w = go (at s.linux.pins w) refl
      where
        go : (o : Option Pin) → at s.linux.pins w ≡ o → at s.linux.pins w ≡ None
        go None e = e
        go (Some x) e = absurd (no-pin w x e)

    no-pin-rows : (r : PageRange) → no_pin_in r s.linux.pins ≡ true
    no-pin-rows r = rows-pass (λ (w : ℕ) (x : Pin). not (in_range r x.page)) s.linux.pins pin-none

    pub no-round : s.round ≡ None
    no-round = go s.round refl
      where
        phases : (ph : Phase) (r : PageRange) → s.round ≡ Some (ph, r) → ⊥
        phases RoundPosted r e = let a = k.rounded.clears_are in let b = ap posted e in let d = none-sent clears in omega (arith, a, b, d)
        phases Taken r e = not-here (Events.AckClear (pid p)) refl (ap (λ o. clear_in o s.linux) e ∙ no-pin-rows r)
        phases Acked r e = let a = k.rounded.acks_are in let b = ap acked e in let d = ap (tally acks) no-back in omega (arith, a, b, d)

        go : (o : Option Round) → s.round ≡ o → s.round ≡ None
        go None e = e
        go (Some r) e = absurd (phases r.0 r.1 e)

    none-noted : (w : ℕ) → at s.lwk.noted w ≡ None
    none-noted w = go (at s.lwk.noted w) refl
      where
        go : (o : Option Noted) → at s.lwk.noted w ≡ o → at s.lwk.noted w ≡ None
        go None e = e
        go (Some n) e = absurd (let g = k.served.noted_for w n e in not-here (Events.Answer (pid p) w) refl (and-true (nat_lt w pair.workers) (may_answer s w) (is-worker w g.number g.serves)
            (λ j. noted_may_be_answered (no-round j) (e j))))

    -- no worker serves a request
    module _ (w q : ℕ) (e : at s.linux.workers w ≡ Some q) where
      serving : serves s.linux w ≡ q
      serving = ap (λ (o : Option ℕ). unwrap_or o 0) e

      worker-may : (ev : Event) (b : Bool) → process_of_event pair.node ev ≡ p → may_here ev (here pair p) ≡ (nat_lt w pair.workers && b) → b ≡ true → ⊥
      worker-may ev b f g h = not-here ev f (g ∙ and-true (nat_lt w pair.workers) b (is-worker w q e) h)

      state-is : (st : ReqState) → state_of s.book q ≡ st → state_of s.book (serves s.linux w) ≡ st
      state-is st f = ap (state_of s.book) serving ∙ f

      held : state_of s.book q ≡ Held → ⊥
      held f = go (kind_for s.linux pair.node.files w) refl (row_for s.linux w) refl
        where
          free : is_free_to_act s.linux s.book w ≡ true
          free = and-true (holds s.linux s.book w) (not (has_pin s.linux w))
              (and-true (is_some (at s.linux.workers w)) (is_held (state_of s.book (serves s.linux w))) (ap is_some e) (ap is_held (state-is Held f)))
              (ap (λ (o : Option Pin). not (is_some o)) (pin-none w))

          go : (r : Readiness) → kind_for s.linux pair.node.files w ≡ r → (o : Option Row) → row_for s.linux w ≡ o → ⊥
          go FileStep g o i = worker-may (Events.Act (pid p) w) (may_act s.linux s.book pair.node.files w) refl refl (λ j. free j && is_file_step (g j))
          go NotReady g o i = worker-may (Events.Park (pid p) w) (may_park s.linux s.book pair.node.files w) refl refl (λ j. free j && is_not_ready (g j))
          go Ready g None i = worker-may (Events.Miss (pid p) w) (may_miss s.linux s.book pair.node.files w) refl refl (λ j. free j && is_ready (g j) && is_none (i j))
          go Ready g (Some r) i = worker-may (Events.Pin (pid p) w) (may_pin s.linux s.book pair.node.files w) refl refl (λ j. free j && is_ready (g j) && is_some (i j))

      faulted : state_of s.book q ≡ Faulted → ⊥
      faulted f =
          let a = k.served.faults w in
          let b = ap (tally (faults_of w)) no-back in
          let d = ap (λ (o : Option Noted). counted o) (none-noted w) in
          let g = none-sent (answers_to w) in
          let h = ap (faulting (at s.book.rows)) e ∙ ap is_faulted f in
          omega (arith, a, b, d, g, h)

      ended : state_of s.book q ≡ Ended → ⊥
      ended f = worker-may (Events.Finish (pid p) w) (may_finish s.linux s.book w) refl refl
          (λ j. is_some (e j) && is_ended_request (state-is Ended f j) && not (is_some (pin-none w j)))

      no-worker : ⊥
      no-worker = go (state_of s.book q) refl (k.served.workers_hold w q e)
        where
          go : (st : ReqState) → state_of s.book q ≡ st → holder_at (at s.book.rows) (at s.linux.services) q ≡ Some w → ⊥
          go Held f h = held f
          go Faulted f h = faulted f
          go Ended f h = ended f
          go Posted f h = let n = sym (ap (λ st. holder st (service_at (at s.linux.services) q).worker) f) ∙ h in grind (arith, n)
          go Waiting f h = let n = sym (ap (λ st. holder st (service_at (at s.linux.services) q).worker) f) ∙ h in grind (arith, n)
          go Parked f h = let n = sym (ap (λ st. holder st (service_at (at s.linux.services) q).worker) f) ∙ h in grind (arith, n)
          go Replied f h = let n = sym (ap (λ st. holder st (service_at (at s.linux.services) q).worker) f) ∙ h in grind (arith, n)

    idle-all : (w : ℕ) → at s.linux.workers w ≡ None
    idle-all w = go (at s.linux.workers w) refl
      where
        go : (o : Option ℕ) → at s.linux.workers w ≡ o → at s.linux.workers w ≡ None
        go None e = e
        go (Some q) e = absurd (no-worker w q e)

    none-waiting : s.book.waiting ≡ []
    none-waiting = go s.book.waiting refl
      where
        worker : nat_lt 0 pair.workers ≡ true
        worker = let a = l.workers in grind (arith, nat_tests, a)

        go : (xs : List ℕ) → s.book.waiting ≡ xs → s.book.waiting ≡ []
        go [] e = e
        go (x ∷ xs) e = absurd (not-here (Events.Assign (pid p) 0) refl (and-true (nat_lt 0 pair.workers) (may_assign s.linux s.book 0) worker
            ((λ j. is_none (idle-all 0 j) && not (length (e j) == 0)) ∙ some-left x xs)))

    -- ---- each live request is parked
    pub parked : (q : ℕ) → is_live (state_of s.book q) ≡ true → state_of s.book q ≡ Parked
    parked q live = go (state_of s.book q) refl live
      where
        by-worker : (w : ℕ) (st : ReqState) → state_of s.book q ≡ st → holder st (service_at (at s.linux.services) q).worker ≡ Some w → ⊥
        by-worker w st f h = no-worker w q (k.served.held_by q w (ap (λ x. holder x (service_at (at s.linux.services) q).worker) f ∙ h))

        go : (st : ReqState) → state_of s.book q ≡ st → is_live st ≡ true → state_of s.book q ≡ Parked
        go Parked f u = f
        go Posted f u = absurd (let a = k.served.requests q in let b = ap is_posted f in let d = none-sent (asks q) in omega (arith, a, b, d))
        go Waiting f u = absurd (let a = k.served.waits q in let b = ap is_waiting f in let d = ap (tally (if_same q)) none-waiting in omega (arith, a, b, d))
        go Held f u = absurd (by-worker (service_at (at s.linux.services) q).worker Held f refl)
        go Faulted f u = absurd (by-worker (service_at (at s.linux.services) q).worker Faulted f refl)
        go Ended f u = absurd (by-worker (service_at (at s.linux.services) q).worker Ended f refl)
        go Replied f u = absurd (grind (arith, u))

    -- and so is each call
    pub call-parked : (t : ℕ) (x : Caller) → at s.lwk.callers t ≡ Some x → state_of s.book x.request ≡ Parked
    call-parked t x e = go (at s.book.rows x.request) refl
      where
        go : (o : Option (ReqState × CallRequest)) → at s.book.rows x.request ≡ o → state_of s.book x.request ≡ Parked
        go None f = absurd (let a = (k.answered.calls t x e).replied f in let b = ap (tally (replies_to x.request)) no-back in omega (arith, a, b))
        go (Some r) f = parked x.request (ap (λ o. is_live (state_in o)) f ∙ k.answered.not_replied x.request r f)

    -- a parked request that is interrupted, or whose next step is one on files, would be woken
    not-woken : (q : ℕ) → state_of s.book q ≡ Parked → ((service_of s.linux.services q).interrupted || is_file_step (next_kind pair.node.files (service_of s.linux.services q).progress) || may_take_turn p s.linux pair.node.files pair.turns q) ≡ true → ⊥
    not-woken q f h = not-here (Events.Unpark (pid p) (req q)) refl (and-true (is_parked (state_of s.book q))
        ((service_of s.linux.services q).interrupted || is_file_step (next_kind pair.node.files (service_of s.linux.services q).progress) || may_take_turn p s.linux pair.node.files pair.turns q) (ap is_parked f) h)

    -- a call is not marked: it would have been interrupted
    pub unmarked : (t : ℕ) (x : Caller) → at s.lwk.callers t ≡ Some x → x.marked ≡ true → ⊥
    unmarked t x e m = go (service_of s.linux.services x.request).interrupted refl
      where
        f : state_of s.book x.request ≡ Parked
        f = call-parked t x e

        go : (b : Bool) → (service_of s.linux.services x.request).interrupted ≡ b → ⊥
        go true i = not-woken x.request f (or-left ((service_of s.linux.services x.request).interrupted || is_file_step (next_kind pair.node.files (service_of s.linux.services x.request).progress)) (may_take_turn p s.linux pair.node.files pair.turns x.request)
            (or-left (service_of s.linux.services x.request).interrupted (is_file_step (next_kind pair.node.files (service_of s.linux.services x.request).progress)) i))
        go false i = let a = l.told p t x e m (ap is_ended_or_replied f) in let b = ap as_number i in let d = none-sent (interrupts_of x.request) in omega (arith, a, b, d)

    -- no call is asked to be interrupted
    pub not-asked : (t : ℕ) (x : Caller) → (thread_of pair.node t).process ≡ p → at s.lwk.callers t ≡ Some x → may_be_marked pair.node t ≡ true → ⊥
    not-asked t x own e m = go x.marked refl
      where
        go : (b : Bool) → x.marked ≡ b → ⊥
        go true f = unmarked t x e f
        go false f = not-here (Events.Interrupt (tid t)) own
            ((λ j. cond (is_some (e j)) (not (unwrap_or (e j) no_caller).marked && m j) (may_be_called_back pair.node t)) ∙ ap (λ b. not b && true) f)

  -- ---- no request has the turn of a pipe's end, since one that has it waits or is held
  no-turn : (e : ℕ) (t : Turn) → at pair.turns e ≡ Some t → ⊥
  no-turn e t f =
      let a = (c.turns e t f).waits in
      let live = waits-live (state_of (side_of pair t.process).book t.request) a in
      let g = parked t.process (live-there pair c t.process t.request live) t.request live in
      let b = sym (ap waits_or_held g) ∙ a in grind (arith, b)

  turn-free : (p q : ℕ) (o : Option ℕ) → other_has_turn pair.turns o p q ≡ false
  turn-free p q None = refl
  turn-free p q (Some e) = go (at pair.turns e) refl
    where
      go : (t : Option Turn) → at pair.turns e ≡ t → (is_some (at pair.turns e) && not (is_turn_for p q (at pair.turns e))) ≡ false
      go None f = ap (λ (o : Option Turn). is_some o && not (is_turn_for p q o)) f
      go (Some t) f = absurd (no-turn e t f)

  -- the next step of a parked request is not ready
  pub not-ready-now : (p : ℕ) → is_there pair.node p ≡ true → (q : ℕ) → state_of (side_of pair p).book q ≡ Parked → not (is_not_ready (next_kind pair.node.files (service_of (side_of pair p).linux.services q).progress)) ≡ true → ⊥
  not-ready-now p there q f h = go (next_kind pair.node.files (service_of (side_of pair p).linux.services q).progress) refl h
    where
      goes : (a b d : Bool) → (service_of (side_of pair p).linux.services q).interrupted ≡ a → is_file_step (next_kind pair.node.files (service_of (side_of pair p).linux.services q).progress) ≡ b → may_take_turn p (side_of pair p).linux pair.node.files pair.turns q ≡ d → (a || b || d) ≡ true → ⊥
      goes a b d e g i u = not-woken p there q f ((λ j. e j || g j || i j) ∙ u)

      go : (r : Readiness) → next_kind pair.node.files (service_of (side_of pair p).linux.services q).progress ≡ r → not (is_not_ready r) ≡ true → ⊥
      go NotReady e u = grind (arith, u)
      go FileStep e u = goes (service_of (side_of pair p).linux.services q).interrupted true (may_take_turn p (side_of pair p).linux pair.node.files pair.turns q) refl (ap is_file_step e) refl
          (or-left ((service_of (side_of pair p).linux.services q).interrupted || true) (may_take_turn p (side_of pair p).linux pair.node.files pair.turns q) (or-right (service_of (side_of pair p).linux.services q).interrupted true refl))
      go Ready e u = goes (service_of (side_of pair p).linux.services q).interrupted false true refl (ap is_file_step e)
          (λ j. is_ready (e j) && not (turn-free p q (pipe_end pair.node.files (service_of (side_of pair p).linux.services q).progress) j))
          (or-right ((service_of (side_of pair p).linux.services q).interrupted || false) true refl)
