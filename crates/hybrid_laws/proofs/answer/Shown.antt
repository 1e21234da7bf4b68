-- Answer with a row shows nothing; without one it is the step PieceFault of the one-kernel machine.
use Rattle.kernel_model.specs.Steps as OneSteps
use Rattle.kernel_model.specs.declared.steps.Step.TheVariants as Steps
use Rattle.hybrid_model.specs.declared.events.Event.TheVariants as Events
use Rattle.hybrid_laws.proofs.answer.Answer.{MayAnswer, may_be_answered}
use Rattle.hybrid_laws.proofs.intake.Fault.{at-most}
use Rattle.hybrid_laws.proofs.requests.Showing.{has_empty-post, no_empty, shown-same}
use Rattle.hybrid_laws.proofs.requests.Speaking.{calls-after, shown-call-at, the-caller, thread-served-is}
use Rattle.hybrid_laws.proofs.states.Simulated.{simulated-none, simulated-one}
use Rattle.hybrid_laws.specs.Simulated.{Simulated}
use Rattle.hybrid_model.specs.Coherence.{IsForNext, OfProcess, answers_to, faulting, faults_of, is_faulted}
use Rattle.hybrid_model.specs.Events.{may_here}
use Rattle.hybrid_model.specs.Answer.{image_of_answer}
use Rattle.hybrid_model.specs.Images.{image_here}
use Rattle.hybrid_model.specs.Answer.{answer_to, files_after_answer, give_answer, noted_of, post_answer, thread_served}
use Rattle.hybrid_model.specs.Pairs.{Here, ring_of}
use Rattle.hybrid_model.specs.Rings.{post}
use Rattle.hybrid_model.specs.Shown.{any_empty, has_empty, is_empty_for, reply_code, serves_it, shown_born, shown_call, shown_here, shown_own, status_in, status_of, ended_if}
use Rattle.hybrid_model.specs.Sides.{Row, Side, call_in, looked_up, no_service, served, service_of, state_in}
use Rattle.hybrid_model.specs.Spaces.{shown_memory, shown_row}
use Rattle.hybrid_model.specs.Tallies.{Reads, sum_rings, tally}
use Rattle.ikc_ring.specs.declared.CallRequest.{CallRequest}
use Rattle.ikc_ring.specs.declared.Msg.TheVariants.{Answer}
use Rattle.ikc_ring.specs.declared.Msg.{Msg}
use Rattle.isa_model.specs.Memory.{allows, allows_in}
use Rattle.kernel_model.specs.Nodes.{set_files}
use Rattle.kernel_model.specs.OneKernel.{Active, Over}
use Rattle.kernel_model.specs.Progress.{Progress, fault_answer, given_back, needed_access, next_piece}
use Rattle.mck_word.specs.Identifiers.{tid}
use Rattle.mck_word.specs.MapLaws.{at-collect}
use Rattle.mck_word.specs.Maps.{Map, and_then, at, cut, each, put}
use Rattle.mck_word.specs.declared.Access.{Access}
use Rattle.mck_word.specs.declared.Pid.{Pid}
use Rattle.request_book.specs.declared.ReqState.TheVariants.{Ended, Faulted, Held, Parked, Posted, Replied, Waiting}
use Rattle.request_book.specs.declared.ReqState.{ReqState}
use Rattle.std.proofs.Common.{ap, arith, refl, sym, ◌∙◌}
use Rattle.std.proofs.lemmas.Bool.Decides.{nat_tests}
use Rattle.std.specs.Prelude.{Bool, List, None, Option, Some, [], false, if◌then◌else◌, length, suc, true, unwrap_or, zero, ℕ, ◌++◌, ◌+◌, ◌==◌, ◌||◌, ◌∷◌, ◌≡◌, ◌≤◌}

-- ---- an empty answer that is posted is there
any-push : (workers : Reads ℕ) (q : ℕ) (ms : List Msg) (m : Msg) → is_empty_for workers q m ≡ true → any_empty workers q (ms ++ m ∷ []) ≡ true
any-push workers q [] m e = rw e refl
any-push workers q (x ∷ ms) m e = go (is_empty_for workers q x) (any-push workers q ms m e)
  where
    go : (b : Bool) → any_empty workers q (ms ++ m ∷ []) ≡ true → (b || any_empty workers q (ms ++ m ∷ [])) ≡ true
    go true k = refl
    go false k = k

pub has_empty-posted : (workers : Reads ℕ) (q r : ℕ) (m : Msg) (rs : List (List Msg)) → is_empty_for workers q m ≡ true → has_empty workers q (post r m rs) ≡ true
has_empty-posted workers q zero m [] e = rw e refl
has_empty-posted workers q zero m (ms ∷ rs) e = rw (any-push workers q ms m e) refl
has_empty-posted workers q (suc r) m [] e = rw e refl
has_empty-posted workers q (suc r) m (ms ∷ rs) e = go (any_empty workers q ms) (has_empty-posted workers q r m rs e)
  where
    go : (b : Bool) → has_empty workers q (post r m rs) ≡ true → (b || has_empty workers q (post r m rs)) ≡ true
    go true k = refl
    go false k = k

faulted-only : (o : Option (ReqState × CallRequest)) → is_faulted (state_in o) ≡ 1 → (call : CallRequest) × (o ≡ Some (Faulted, call))
faulted-only None e = absurd (omega (arith, e))
faulted-only (Some r) e = (r.1, (let k = only r.0 e in λ i. Some (k i, r.1)))
  where
    only : (x : ReqState) → is_faulted x ≡ 1 → x ≡ Faulted
    only Faulted f = refl
    only Posted f = absurd (omega (arith, f))
    only Waiting f = absurd (omega (arith, f))
    only Held f = absurd (omega (arith, f))
    only Parked f = absurd (omega (arith, f))
    only Ended f = absurd (omega (arith, f))
    only Replied f = absurd (omega (arith, f))

-- what is not looked up isn't there, or lacks the right
no-right : (frames : Map (List ℕ)) (a : Access) (o : Option Row) → looked_up o a ≡ None → allows_in a (and_then o (λ r. Some (shown_row frames r))) ≡ false
no-right frames a None e = refl
no-right frames a (Some r) e = go (allows a r.1) refl e
  where
    go : (b : Bool) → allows a r.1 ≡ b → (if b then Some r else None) ≡ None → allows a r.1 ≡ false
    go true f k = absurd (grind (arith, k))
    go false f k = f

module _ (p : ℕ) (q : Pid) (w : ℕ) (h : Here) (m : may_here (Events.Answer q w) h ≡ true) where
  abbrev pub n : MayAnswer h.side w
  n = may_be_answered p q w h m

  answer-is : answer_to h.side w ≡ looked_up (at h.side.lwk.table n.noted.0) n.noted.1
  answer-is = let there = n.there in rw there refl

  -- ---- with a row
  pub simulated_answer_row : (row : Row) → answer_to h.side w ≡ Some row → Simulated (Events.Answer q w) p h
  unfolding post_answer
  simulated_answer_row row e = simulated-none (Events.Answer q w) p h (ap (λ (o : Option Row). image_of_answer o (thread_served h.side w)) e) shown
    where
      r : ℕ
      r = ring_of h (thread_served h.side w)

      side' : Side
      side' = record h.side { lwk = record h.side.lwk { noted = cut h.side.lwk.noted w }; to_linux = post r (Answer w (noted_of h.side w).0 h.side.lwk.begun (answer_to h.side w)) h.side.to_linux }

      none : (x : ℕ) → is_empty_for (at h.side.linux.workers) x (Answer w (noted_of h.side w).0 h.side.lwk.begun (answer_to h.side w)) ≡ false
      none x = ap (λ (o : Option Row). is_empty_for (at h.side.linux.workers) x (Answer w (noted_of h.side w).0 h.side.lwk.begun o)) e

      same : shown_own h.frames side' ≡ shown_own h.frames h.side
      same = shown-same h.frames h.side side' refl refl (λ t c f. ap (λ b. status_in (state_in (at h.side.book.rows c.request)) (call_in (at h.side.book.rows c.request)) (unwrap_or (at h.side.linux.services c.request) no_service) b (reply_code c.request h.side.to_lwk))
          (has_empty-post (at h.side.linux.workers) c.request r (Answer w (noted_of h.side w).0 h.side.lwk.begun (answer_to h.side w)) h.side.to_linux (none c.request)))

      files : files_after_answer (answer_to h.side w) (served h.side.linux w).progress h.node.files ≡ h.node.files
      files = ap (λ (o : Option Row). files_after_answer o (served h.side.linux w).progress h.node.files) e

      shown : shown_here (give_answer w h) ≡ shown_here h
      shown = λ i. record { own = same i; node = set_files (files i) h.node; free = length h.free; born = shown_born h.frames h.born }

  -- ---- without a row
  module _ (workers : ℕ) (ring : ℕ → ℕ) (k : OfProcess p h.side h.node workers ring) (none : answer_to h.side w ≡ None) where
    pub next : IsForNext (at h.side.linux.workers) (at h.side.linux.services) w n.noted.0 n.noted.1
    next = k.served.noted_for w n.noted n.there

    abbrev pub number : ℕ
    number = next.number

    faulting-one : faulting (at h.side.book.rows) (Some number) ≡ 1
    faulting-one =
        let f = k.served.faults w in
        let there = n.there in let serves = next.serves in
        one (faulting (at h.side.book.rows) (Some number)) (rw (there, serves) at f) (at-most (at h.side.book.rows) (Some number))
      where
        one : (x : ℕ) → tally (faults_of w) h.side.to_lwk + 1 + sum_rings (answers_to w) h.side.to_linux ≡ x → x ≤ 1 → x ≡ 1
        one x e l = omega (arith, e, l)

    pub faulted : (call : CallRequest) × (at h.side.book.rows number ≡ Some (Faulted, call))
    faulted = faulted-only (at h.side.book.rows number) faulting-one

    no-answers : sum_rings (answers_to w) h.side.to_linux ≡ 0
    no-answers =
        let f = k.served.faults w in
        let there = n.there in let serves = next.serves in
        zero-of (rw (there, serves) at f)
      where
        zero-of : tally (faults_of w) h.side.to_lwk + 1 + sum_rings (answers_to w) h.side.to_linux ≡ faulting (at h.side.book.rows) (Some number) → sum_rings (answers_to w) h.side.to_linux ≡ 0
        zero-of e = omega (arith, e, faulting-one)

    alone : (v : ℕ) → serves_it number (at h.side.linux.workers v) ≡ true → v ≡ w
    alone v e = go (at h.side.linux.workers v) refl e
      where
        go : (o : Option ℕ) → at h.side.linux.workers v ≡ o → serves_it number o ≡ true → v ≡ w
        go None f g = absurd (grind (arith, g))
        go (Some x) f g =
            let x' : x ≡ number = grind (arith, nat_tests, g) in
            let a = k.served.workers_hold v number (f ∙ ap Some x') in
            let b = k.served.workers_hold w number next.serves in
            let c = sym a ∙ b in
            grind (arith, c)

    abbrev progress : Progress
    progress = (service_of h.side.linux.services number).progress

    pub status-now : status_of h.side number ≡ Active progress
    status-now =
        let is = faulted.1 in
        let e = no_empty (at h.side.linux.workers) number w alone h.side.to_linux no-answers in
        rw (is, e) refl

    abbrev pub t : ℕ
    t = faulted.0.tid.0

    shown-at : at (each (shown_call h.side) h.side.lwk.callers) t ≡ Some (record { marked = (the-caller p h.side h.node workers ring k number Faulted faulted.0 faulted.1 refl).0.marked; status = Active progress })
    shown-at = shown-call-at p h.side h.node workers ring k number Faulted faulted.0 faulted.1 refl ∙ (λ i. Some (record { marked = (the-caller p h.side h.node workers ring k number Faulted faulted.0 faulted.1 refl).0.marked; status = status-now i }))

    lacks : allows_in (needed_access progress) (at (shown_memory h.side.lwk.table h.frames) (next_piece progress).page) ≡ false
    lacks =
        let a = next.page_is in let b = next.access_is in
        ap (λ (x : Access). allows_in x (at (shown_memory h.side.lwk.table h.frames) (next_piece progress).page)) b
        ∙ ap (λ (i : ℕ). allows_in n.noted.1 (at (shown_memory h.side.lwk.table h.frames) i)) a
        ∙ ap (allows_in n.noted.1) (at-collect (λ j r. Some (shown_row h.frames r)) h.side.lwk.table n.noted.0)
        ∙ no-right h.frames n.noted.1 (at h.side.lwk.table n.noted.0) (sym answer-is ∙ none)

    pub may_fault : OneSteps.may_here (Steps.PieceFault (tid t)) (shown_here h) ≡ true
    may_fault = let s = shown-at in let l = lacks in let b = next.left in rw (s, b, l) refl

    abbrev r : ℕ
    r = ring_of h (thread_served h.side w)

    abbrev side' : Side
    side' = record h.side { lwk = record h.side.lwk { noted = cut h.side.lwk.noted w }; to_linux = post r (Answer w (noted_of h.side w).0 h.side.lwk.begun (answer_to h.side w)) h.side.to_linux }

    empty-for : (x : ℕ) → is_empty_for (at h.side.linux.workers) x (Answer w (noted_of h.side w).0 h.side.lwk.begun (answer_to h.side w)) ≡ (number == x)
    empty-for x = ap (λ (o : Option Row). is_empty_for (at h.side.linux.workers) x (Answer w (noted_of h.side w).0 h.side.lwk.begun o)) none ∙ ap (serves_it x) next.serves

    pub status-own : status_of side' number ≡ Over (fault_answer progress)
    status-own =
        let same : (number == number) ≡ true = grind (arith, nat_tests) in
        let e = has_empty-posted (at h.side.linux.workers) number r (Answer w (noted_of h.side w).0 h.side.lwk.begun (answer_to h.side w)) h.side.to_linux (empty-for number ∙ same) in
        ap (λ (o : Option (ReqState × CallRequest)). status_in (state_in o) (call_in o) (service_of h.side.linux.services number) (has_empty (at h.side.linux.workers) number side'.to_linux) (reply_code number h.side.to_lwk)) faulted.1
        ∙ ap (λ b. ended_if b progress) e

    pub status-other : (x : ℕ) → (x == number) ≡ false → status_of side' x ≡ status_of h.side x
    status-other x e =
        let d : (number == x) ≡ false = grind (arith, nat_tests, e) in
        ap (λ b. status_in (state_in (at h.side.book.rows x)) (call_in (at h.side.book.rows x)) (service_of h.side.linux.services x) b (reply_code x h.side.to_lwk))
        (has_empty-post (at h.side.linux.workers) x r (Answer w (noted_of h.side w).0 h.side.lwk.begun (answer_to h.side w)) h.side.to_linux (empty-for x ∙ d))

    calls : put (each (shown_call h.side) h.side.lwk.callers) t (record { marked = (the-caller p h.side h.node workers ring k number Faulted faulted.0 faulted.1 refl).0.marked; status = Over (fault_answer progress) }) ≡ each (shown_call side') h.side.lwk.callers
    calls = calls-after p h.side h.node workers ring k number Faulted faulted.0 faulted.1 refl side' (Over (fault_answer progress)) status-own status-other

    pub files : given_back progress h.node.files ≡ files_after_answer (answer_to h.side w) (served h.side.linux w).progress h.node.files
    files = sym (ap (λ (o : Option ℕ). files_after_answer None (service_of h.side.linux.services (unwrap_or o 0)).progress h.node.files) next.serves) ∙ sym (ap (λ (o : Option Row). files_after_answer o (served h.side.linux w).progress h.node.files) none)

    pub leads_fault : OneSteps.after_here (Steps.PieceFault (tid t)) p (shown_here h) ≡ shown_here (give_answer w h)
    unfolding post_answer OneSteps.call_ended
    leads_fault = let s = shown-at in let c = calls in let f = files in
        rw s (λ i. record { own = record { memory = shown_memory h.side.lwk.table h.frames; calls = c i }; node = set_files (f i) h.node; free = length h.free; born = shown_born h.frames h.born })

    pub simulated_answer_empty : Simulated (Events.Answer q w) p h
    simulated_answer_empty = simulated-one (Events.Answer q w) p h (Steps.PieceFault (tid t)) image may_fault leads_fault
      where
        image : image_here (Events.Answer q w) p h ≡ Steps.PieceFault (tid t) ∷ []
        image = ap (λ (o : Option Row). image_of_answer o (thread_served h.side w)) none ∙ ap (λ (x : ℕ). Steps.PieceFault (tid x) ∷ []) (thread-served-is h.side w number Faulted faulted.0 next.serves faulted.1)
