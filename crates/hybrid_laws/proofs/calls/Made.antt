-- What each event of the lightweight kernel leaves of a process's calls: a call that begins is not marked, and a mark goes with its Interrupt.
use Rattle.hybrid_model.specs.declared.events.Event.TheVariants as Events
use Rattle.hybrid_laws.proofs.calls.Go.{CallsGo, posts_none, stays, stays-same, told-by}
use Rattle.hybrid_laws.proofs.maps.Reading.{sum-post}
use Rattle.hybrid_laws.specs.Journals.{gone, gone_in}
use Rattle.hybrid_laws.specs.Lasting.{IsTold, MarksTold}
use Rattle.hybrid_model.specs.Coherence.{OfProcess, interrupts_of}
use Rattle.hybrid_model.specs.Events.{after_here}
use Rattle.hybrid_model.specs.Workers.{is_ended_or_replied}
use Rattle.hybrid_model.specs.Answer.{answer_to, noted_of, post_answer, thread_served}
use Rattle.hybrid_model.specs.BeginVm.{begin_round, begin_vm_of}
use Rattle.hybrid_model.specs.Deliver.{after_deliver}
use Rattle.hybrid_model.specs.Intake.{caller_of, change_made_of, changed, changing_thread, intake, round_over, take_ack, take_fault, take_reply, take_reply_of}
use Rattle.hybrid_model.specs.Interrupt.{caller_at, interrupt_as, is_calling, post_interrupt}
use Rattle.hybrid_model.specs.OneProcess.{memory_here, view_here}
use Rattle.hybrid_model.specs.Reap.{reap}
use Rattle.hybrid_model.specs.Run.{run}
use Rattle.hybrid_model.specs.Trap.{after_trap, begin_call, call_made, trapped}
use Rattle.hybrid_model.specs.Pairs.{Here, ring_of, with_side}
use Rattle.hybrid_model.specs.Sides.{Book, Caller, LinuxSide, Side, service_of, state_in, state_of}
use Rattle.hybrid_model.specs.Tallies.{as_number, if_same, sum_rings}
use Rattle.ikc_ring.specs.declared.Msg.TheVariants.{Ack, Answer, Clear, Fault, Interrupt, Reply, Request}
use Rattle.ikc_ring.specs.declared.Msg.{Msg}
use Rattle.kernel_model.specs.MemoryCalls.{closing_range, refusal_at_end}
use Rattle.kernel_model.specs.Nodes.{change_in, process_of, thread_of}
use Rattle.kernel_model.specs.Progress.{Progress}
use Rattle.kernel_model.specs.Traps.{Begins, Changes, Done, Forks, Trapped, trap}
use Rattle.kernel_model.specs.declared.Change.{Change}
use Rattle.mck_word.specs.MapLaws.{at-cut, at-put}
use Rattle.mck_word.specs.Maps.{Map, at, cut}
use Rattle.mck_word.specs.declared.Access.{Access}
use Rattle.mck_word.specs.declared.Pid.{Pid}
use Rattle.mck_word.specs.declared.Tid.{Tid}
use Rattle.request_book.specs.declared.ReqState.TheVariants.{Posted}
use Rattle.std.proofs.Common.{ap, arith, refl, subst, sym, ◌∙◌}
use Rattle.std.proofs.lemmas.Bool.Decides.{nat_tests}
use Rattle.std.specs.Prelude.{Bool, List, None, Option, Some, [], cond, false, is_none, is_some, length, nat_lt, true, ℕ, ℤ, ◌&&◌, ◌+◌, ◌<◌, ◌==◌, ◌∷◌, ◌≡◌}

-- ---- a call begins
module _ (s : Side) (r t : ℕ) (progress : Progress) (given : (u : ℕ) (c : Caller) → at s.lwk.callers u ≡ Some c → c.request < s.book.next) where
  abbrev z : Side
  z = begin_call r t progress s

  abbrev new_caller : Caller
  new_caller = record { request = s.book.next; marked = false }

  begun-row : (x : ℕ) → (x == s.book.next) ≡ false → at z.book.rows x ≡ at s.book.rows x
  unfolding begin_call
  begun-row x e = at-put s.book.rows s.book.next (Posted, call_made s.book.next t progress) x ∙ ap (λ b. cond b (Some (Posted, call_made s.book.next t progress)) (at s.book.rows x)) e

  begun-told : MarksTold s → MarksTold z
  unfolding begin_call
  begun-told h u c e m = go (u == t) refl (sym (at-put s.lwk.callers t new_caller u) ∙ e)
    where
      go : (b : Bool) → (u == t) ≡ b → cond b (Some new_caller) (at s.lwk.callers u) ≡ Some c → IsTold z c.request
      go true f g = absurd (let y : new_caller ≡ c = cc in let a = ap (λ (v : Caller). v.marked) y ∙ m in grind (arith, a))
      go false f g =
          let l = given u c g in
          let apart : (c.request == s.book.next) ≡ false = grind (arith, nat_tests, l) in
          told-by s z c.request (λ d. ap (λ o. is_ended_or_replied (state_in o)) (sym (begun-row c.request apart)) ∙ d)
          (let a = sum-post (interrupts_of c.request) r (Request (call_made s.book.next t progress)) s.to_linux in omega (arith, a)) refl (h u c g m)

  begun-gone : (x : ℕ) → gone z x ≡ gone s x + 0
  unfolding begin_call
  begun-gone x = go (x == s.book.next) refl
    where
      more : (x == s.book.next) ≡ false → nat_lt x (s.book.next + 1) ≡ nat_lt x s.book.next
      more f = by-less (nat_lt x s.book.next) refl
        where
          by-less : (b : Bool) → nat_lt x s.book.next ≡ b → nat_lt x (s.book.next + 1) ≡ nat_lt x s.book.next
          by-less true g = let a : nat_lt x (s.book.next + 1) ≡ true = grind (arith, nat_tests, g) in a ∙ sym g
          by-less false g = let a : nat_lt x (s.book.next + 1) ≡ false = grind (arith, nat_tests, f, g) in a ∙ sym g

      go : (b : Bool) → (x == s.book.next) ≡ b → gone z x ≡ gone s x + 0
      go true f =
          let y : at z.book.rows x ≡ Some (Posted, call_made s.book.next t progress) = at-put s.book.rows s.book.next (Posted, call_made s.book.next t progress) x ∙ ap (λ b. cond b (Some (Posted, call_made s.book.next t progress)) (at s.book.rows x)) f in
          let l : nat_lt x s.book.next ≡ false = grind (arith, nat_tests, f) in
          let a : gone z x ≡ 0 = ap (λ o. as_number (nat_lt x (s.book.next + 1) && is_none o)) y ∙ and-false (nat_lt x (s.book.next + 1)) in
          let b : gone s x ≡ 0 = ap (λ c. as_number (c && is_none (at s.book.rows x))) l in
          omega (arith, a, b)
        where
          and-false : (b : Bool) → as_number (b && false) ≡ 0
          and-false true = refl
          and-false false = refl
      go false f = let a : gone z x ≡ gone s x = (λ i. as_number (more f i && is_none (begun-row x f i))) in omega (arith, a)

  pub begun : CallsGo posts_none s z
  begun = record { told = begun-told; gone_more = begun-gone }

-- ---- a call is marked
module _ (s : Side) (r t place : ℕ) (c : Caller) (calls : at s.lwk.callers t ≡ Some c) where
  abbrev after_mark : Side
  after_mark = post_interrupt r t place s

  abbrev n : ℕ
  n = (caller_at s t).request

  mark-sum : (x : ℕ) → sum_rings (interrupts_of x) after_mark.to_linux ≡ sum_rings (interrupts_of x) s.to_linux + if_same n x
  unfolding post_interrupt
  mark-sum x = sum-post (interrupts_of x) r (Interrupt (record { 0 = n }) place) s.to_linux

  mark-told : MarksTold s → MarksTold after_mark
  unfolding post_interrupt
  mark-told h u d e m = go (u == t) refl (sym (at-put s.lwk.callers t (record (caller_at s t) { marked = true }) u) ∙ e)
    where
      go : (b : Bool) → (u == t) ≡ b → cond b (Some (record (caller_at s t) { marked = true })) (at s.lwk.callers u) ≡ Some d → IsTold after_mark d.request
      go true f g =
          let y : record (caller_at s t) { marked = true } ≡ d = cc in
          let a : n ≡ d.request = ap (λ (v : Caller). v.request) y in
          let b = mark-sum d.request in
          let same : (n == d.request) ≡ true = grind (arith, nat_tests, a) in
          let i : if_same n d.request ≡ 1 = rw same refl in
          λ o. omega (arith, b, i)
      go false f g = let b = mark-sum d.request in told-by s after_mark d.request (λ o. o) (omega (arith, b)) refl (h u d g m)

  pub marks : CallsGo posts_none s after_mark
  unfolding post_interrupt
  marks = record { told = mark-told; gone_more = λ q. omega arith }

-- ---- a caller goes
pub caller-cut : (s z : Side) (t : ℕ) → z.lwk.callers ≡ cut s.lwk.callers t → z.book ≡ s.book → z.to_linux ≡ s.to_linux → z.linux ≡ s.linux → CallsGo posts_none s z
caller-cut s z t callers book rings linux = record { told = told; gone_more = λ q. (let a : gone z q ≡ gone s q = ap (λ (b : Book). gone_in (at b.rows q) q b.next) book in omega (arith, a)) }
  where
    told : MarksTold s → MarksTold z
    told h u c e m = go (u == t) refl (sym (at-cut s.lwk.callers t u) ∙ ap (λ (y : Map Caller). at y u) (sym callers) ∙ e)
      where
        go : (b : Bool) → (u == t) ≡ b → cond b None (at s.lwk.callers u) ≡ Some c → IsTold z c.request
        go true f g = absurd (grind (arith, g))
        go false f g = told-by s z c.request (λ o. ap (λ (b : Book). is_ended_or_replied (state_of b c.request)) (sym book) ∙ o)
            (let a = ap (sum_rings (interrupts_of c.request)) rings in omega (arith, a)) (ap (λ (l : LinuxSide). (service_of l.services c.request).interrupted) linux) (h u c g m)

module _ (p : ℕ) (h : Here) (worker_count : ℕ) (ring_number : ℕ → ℕ) (k : OfProcess p h.side h.node worker_count ring_number) where
  -- ---- traps
  pub go-trap : (t : Tid) → CallsGo posts_none h.side (after_here (Events.Trap t) p h).side
  unfolding after_trap
  go-trap t = go (trap t.0 (length h.free) (view_here h))
    where
      go : (y : Trapped) → CallsGo posts_none h.side (trapped p t.0 y h).side
      go (Done v) = stays-same h.side
      go (Forks v child stores) = stays-same h.side
      go (Begins node progress) = begun h.side (ring_of h t.0) t.0 progress (λ u c e. (k.answered.calls u c e).given)
      go (Changes node change) = stays h.side (trapped p t.0 (Changes node change) h).side refl refl refl (λ x. omega arith) (λ x. refl)

  pub go-run : (core : ℕ) (t : Tid) (n : ℕ) → CallsGo posts_none h.side (after_here (Events.Run core t n) p h).side
  unfolding run
  go-run core t n = stays-same h.side

  pub go-deliver : (t : Tid) → CallsGo posts_none h.side (after_here (Events.Deliver t) p h).side
  unfolding after_deliver
  go-deliver t = stays-same h.side

  pub go-wait : (t : Tid) → CallsGo posts_none h.side (after_here (Events.Wait t) p h).side
  go-wait t = stays-same h.side

  pub go-script : (i : ℕ) → CallsGo posts_none h.side (after_here (Events.Script i) p h).side
  go-script i = stays-same h.side

  pub go-reap : (q : Pid) → CallsGo posts_none h.side (after_here (Events.Reap q) p h).side
  unfolding reap
  go-reap q = stays h.side (after_here (Events.Reap q) p h).side refl refl refl (λ x. omega arith) (λ x. refl)

  pub go-answer : (q : Pid) (w : ℕ) → CallsGo posts_none h.side (after_here (Events.Answer q w) p h).side
  unfolding post_answer
  go-answer q w = stays h.side (after_here (Events.Answer q w) p h).side refl refl refl
      (λ x. (let a = sum-post (interrupts_of x) (ring_of h (thread_served h.side w)) (Answer w (noted_of h.side w).0 h.side.lwk.begun (answer_to h.side w)) h.side.to_linux in omega (arith, a))) (λ x. refl)

  pub go-begin_vm : (t : Tid) → CallsGo posts_none h.side (after_here (Events.BeginVm t) p h).side
  unfolding begin_round
  go-begin_vm t = go (change_in (thread_of h.node t.0).does)
    where
      go : (o : Option Change) → CallsGo posts_none h.side (begin_vm_of p t.0 o h).side
      go None = stays-same h.side
      go (Some c) = stays h.side (begin_vm_of p t.0 (Some c) h).side refl refl refl
          (λ x. (let a = sum-post (interrupts_of x) (ring_of h t.0) (Clear (closing_range (process_of h.node p) c)) h.side.to_linux in omega (arith, a))) (λ x. refl)

  pub go-interrupt : (t : Tid) → CallsGo posts_none h.side (after_here (Events.Interrupt t) p h).side
  go-interrupt t = go (at h.side.lwk.callers t.0) refl
    where
      go : (o : Option Caller) → at h.side.lwk.callers t.0 ≡ o → CallsGo posts_none h.side (interrupt_as (is_calling h.side t.0) t.0 h).side
      go None e = subst (λ (b : Bool). CallsGo posts_none h.side (interrupt_as b t.0 h).side) (sym (ap is_some e)) (stays-same h.side)
      go (Some c) e = subst (λ (b : Bool). CallsGo posts_none h.side (interrupt_as b t.0 h).side) (sym (ap is_some e)) (marks h.side (ring_of h t.0) t.0 (thread_of h.node t.0).place c e)

  -- ---- intake
  take-reply : (q : ℕ) (code : ℤ) (rest : List Msg) → CallsGo posts_none h.side (take_reply q code rest h).side
  unfolding take_reply
  take-reply q code rest = go (caller_of h.side.lwk.callers q)
    where
      go : (o : Option ℕ) → CallsGo posts_none h.side (take_reply_of o code rest h).side
      go None = stays-same h.side
      go (Some t) = caller-cut h.side (take_reply_of (Some t) code rest h).side t refl refl refl refl

  take-fault : (w page : ℕ) (a : Access) (rest : List Msg) → CallsGo posts_none h.side (take_fault w page a rest h).side
  unfolding take_fault
  take-fault w page a rest = stays h.side (take_fault w page a rest h).side refl refl refl (λ x. omega arith) (λ x. refl)

  take-ack : (rest : List Msg) → CallsGo posts_none h.side (take_ack p rest h).side
  unfolding take_ack
  take-ack rest = go (change_in (thread_of h.node (changing_thread h.side)).does)
    where
      made : (c : Change) (o : Option ℤ) → CallsGo posts_none h.side (changed p (changing_thread h.side) c o (with_side h (round_over rest h.side))).side
      made c None = stays h.side (changed p (changing_thread h.side) c None (with_side h (round_over rest h.side))).side refl refl refl (λ x. omega arith) (λ x. refl)
      made c (Some answer) = stays h.side (changed p (changing_thread h.side) c (Some answer) (with_side h (round_over rest h.side))).side refl refl refl (λ x. omega arith) (λ x. refl)

      go : (o : Option Change) → CallsGo posts_none h.side (change_made_of p (changing_thread h.side) o (with_side h (round_over rest h.side))).side
      go None = stays h.side (round_over rest h.side) refl refl refl (λ x. omega arith) (λ x. refl)
      go (Some c) = made c (refusal_at_end (process_of h.node p) (memory_here (with_side h (round_over rest h.side))) (length h.free) c)

  pub go-intake : (q : Pid) → CallsGo posts_none h.side (after_here (Events.Intake q) p h).side
  go-intake q = go h.side.to_lwk
    where
      go : (ms : List Msg) → CallsGo posts_none h.side (intake p ms h).side
      go [] = stays-same h.side
      go (Request c ∷ ms) = stays-same h.side
      go (Clear range ∷ ms) = stays-same h.side
      go (Answer w page number row ∷ ms) = stays-same h.side
      go (Interrupt n place ∷ ms) = stays-same h.side
      go (Reply n code ∷ ms) = take-reply n.0 code ms
      go (Ack ∷ ms) = take-ack ms
      go (Fault w page a ∷ ms) = take-fault w page a ms
