-- What holds of the calls of every process where an event steps one call, that is under way: who holds which description.
use Rattle.file_model.specs.Files.{Files}
use Rattle.hybrid_laws.proofs.maps.Totals.{entries-but, entries-least, entries-two}
use Rattle.hybrid_laws.proofs.requests.Speaking.{the-caller}
use Rattle.hybrid_laws.proofs.states.Pair.{has-side}
use Rattle.hybrid_laws.specs.CallSteps.{Carries, FoundHeld, calls_at, holds_it}
use Rattle.hybrid_model.specs.Coherence.{OfProcess, is_live}
use Rattle.hybrid_model.specs.Globals.{CallsHold, Coherent, IsUnderWay, StatusHolds, description_held, holders, is_number, ring_number, waits_or_held}
use Rattle.hybrid_model.specs.Turns.{end_of_found, end_of_target, is_turn_for, pipe_end}
use Rattle.hybrid_model.specs.Pairs.{Pair, side_of}
use Rattle.hybrid_model.specs.Shown.{has_empty, reply_code, status_in, status_of}
use Rattle.hybrid_model.specs.Sides.{Caller, Service, Side, Turn, call_in, new_side, service_of, state_in, state_of}
use Rattle.ikc_ring.specs.declared.CallRequest.{CallRequest}
use Rattle.kernel_model.specs.Nodes.{Node, is_there}
use Rattle.kernel_model.specs.OneKernel.{Active, CallStatus}
use Rattle.kernel_model.specs.Progress.{Progress}
use Rattle.mck_word.specs.MapLaws.{at-none}
use Rattle.mck_word.specs.Maps.{Map, at, entries, total}
use Rattle.request_book.specs.declared.ReqState.TheVariants.{Ended, Faulted, Held, Parked, Posted, Replied, Waiting}
use Rattle.request_book.specs.declared.ReqState.{ReqState}
use Rattle.std.proofs.Common.{ap, arith, refl, subst, sym, ◌∙◌}
use Rattle.std.proofs.lemmas.Bool.Decides.{nat_tests}
use Rattle.std.specs.Prelude.{Bool, None, Option, Some, cond, false, sum_by, true, unwrap_or, ℕ, ℤ, ◌+◌, ◌<◌, ◌==◌, ◌≡◌, ◌≤◌}

-- a request that waits or is held is under way, and its call holds the description that it found
active-if : (s : ReqState) (call : CallRequest) (k : Service) (b : Bool) (code : ℤ) → waits_or_held s ≡ true → status_in s call k b code ≡ Active k.progress
active-if Waiting call k b code e = refl
active-if Held call k b code e = refl
active-if Posted call k b code e = absurd (grind (arith, e))
active-if Parked call k b code e = absurd (grind (arith, e))
active-if Faulted call k b code e = absurd (grind (arith, e))
active-if Ended call k b code e = absurd (grind (arith, e))
active-if Replied call k b code e = absurd (grind (arith, e))

live-if : (s : ReqState) → waits_or_held s ≡ true → is_live s ≡ true
live-if Waiting e = refl
live-if Held e = refl
live-if Posted e = refl
live-if Parked e = refl
live-if Faulted e = refl
live-if Ended e = refl
live-if Replied e = absurd (grind (arith, e))

-- how many of the calls under a row of the callers hold d
abbrev pub counts_one : ℕ → Side → ℕ × Caller → ℕ
counts_one d s x = cond (is_number d (description_held (status_of s x.1.request))) 1 0

-- the caller of a request that waits or is held, and what it counts
module _ (p : ℕ) (side : Side) (node : Node) (worker_count : ℕ) (ring_of : ℕ → ℕ) (k : OfProcess p side node worker_count ring_of) (n : ℕ) (waits : waits_or_held (state_of side.book n) ≡ true) (d : ℕ) (found : (service_of side.linux.services n).progress.found ≡ Some d) where
  pub record Holder : Type 0 where
    pub thread : ℕ
    pub caller : Caller
    pub there : at side.lwk.callers thread ≡ Some caller
    pub number : caller.request ≡ n
    pub counts : counts_one d side (thread, caller) ≡ 1

  pub holder-of : Holder
  holder-of = go (at side.book.rows n) refl waits
    where
      status-is : status_of side n ≡ Active (service_of side.linux.services n).progress
      status-is = active-if (state_of side.book n) (call_in (at side.book.rows n)) (service_of side.linux.services n) (has_empty (at side.linux.workers) n side.to_linux) (reply_code n side.to_lwk) waits

      one : (is_number d (Some d)) ≡ true
      one = let b : (d == d) ≡ true = grind (arith, nat_tests) in b

      go : (o : Option (ReqState × CallRequest)) → at side.book.rows n ≡ o → waits_or_held (state_in o) ≡ true → Holder
      go None e u = absurd (grind (arith, u))
      go (Some r) e u =
          let c = the-caller p side node worker_count ring_of k n r.0 r.1 e (live-if r.0 u) in
          record {
            thread = r.1.tid.0;
            caller = c.0;
            there = c.1;
            number = c.2;
            counts = ap (λ (j : ℕ). cond (is_number d (description_held (status_of side j))) 1 0) c.2 ∙ ap (λ s. cond (is_number d (description_held s)) 1 0) status-is ∙ ap (λ o. cond (is_number d o) 1 0) found ∙ ap (λ b. cond b 1 0) one;
          }

module _ (pair : Pair) (c : Coherent pair) (p : ℕ) (there : is_there pair.node p ≡ true) (n : ℕ) (state : ReqState) (call : CallRequest) (is : at (side_of pair p).book.rows n ≡ Some (state, call)) (live : is_live state ≡ true) (active : status_of (side_of pair p) n ≡ Active (service_of (side_of pair p).linux.services n).progress) where
  abbrev old : Side
  old = side_of pair p

  abbrev progress : Progress
  progress = (service_of old.linux.services n).progress

  k : OfProcess p old pair.node pair.workers (ring_number pair)
  k = c.whole p

  abbrev caller : Caller
  caller = (the-caller p old pair.node pair.workers (ring_number pair) k n state call is live).0

  caller-there : at old.lwk.callers call.tid.0 ≡ Some caller
  caller-there = (the-caller p old pair.node pair.workers (ring_number pair) k n state call is live).1

  caller-number : caller.request ≡ n
  caller-number = (the-caller p old pair.node pair.workers (ring_number pair) k n state call is live).2

  -- a call under way that a caller has is sound
  pub under-way : IsUnderWay progress
  under-way = subst StatusHolds (ap (status_of old) caller-number ∙ active) (c.calls p call.tid.0 caller caller-there)

  side-least : (d : ℕ) → holders d old ≤ total (holders d) pair.sides
  side-least d = entries-least (λ (x : ℕ × Side). holders d x.1) pair.sides p old (has-side pair c.known p there)

  own-counts : (d : ℕ) → counts_one d old (call.tid.0, caller) ≡ holds_it d progress.found
  own-counts d = ap (λ s. cond (is_number d (description_held s)) 1 0) (ap (status_of old) caller-number ∙ active)

  -- the description that the call holds is held
  pub found-held : FoundHeld pair.node.files progress.found
  found-held d e =
      let a = entries-least (counts_one d old) old.lwk.callers call.tid.0 caller caller-there in
      let b : holds_it d progress.found ≡ 1 = ap (holds_it d) e ∙ (let z : (d == d) ≡ true = grind (arith, nat_tests) in rw z refl) in
      omega (arith, a, own-counts d, b, side-least d, c.held d)

  -- another request that waits or is held and found d makes it one that more calls hold
  other-held : (t : Turn) (e : ℕ) → at pair.turns e ≡ Some t → is_turn_for p n (Some t) ≡ false → (d : ℕ) → (service_of (side_of pair t.process).linux.services t.request).progress.found ≡ Some d → holds_it d progress.found < calls_at pair.node.files.descriptions d
  other-held t e i f d g = by-process (t.process == p) refl
    where
      waits : waits_or_held (state_of (side_of pair t.process).book t.request) ≡ true
      waits = (c.turns e t i).waits

      held-by : Holder t.process (side_of pair t.process) pair.node pair.workers (ring_number pair) (c.whole t.process) t.request waits d g
      held-by = holder-of t.process (side_of pair t.process) pair.node pair.workers (ring_number pair) (c.whole t.process) t.request waits d g

      own : holds_it d progress.found ≤ holders d old
      own = let a = entries-least (counts_one d old) old.lwk.callers call.tid.0 caller caller-there in omega (arith, a, own-counts d)

      theirs : 1 ≤ holders d (side_of pair t.process)
      theirs = let a = entries-least (counts_one d (side_of pair t.process)) (side_of pair t.process).lwk.callers held-by.thread held-by.caller held-by.there in omega (arith, a, held-by.counts)

      present-other : at pair.sides t.process ≡ Some (side_of pair t.process)
      present-other = go (at pair.sides t.process) refl
        where
          go : (o : Option Side) → at pair.sides t.process ≡ o → at pair.sides t.process ≡ Some (side_of pair t.process)
          go (Some s) z = z ∙ ap (λ (o : Option Side). Some (unwrap_or o (new_side 0))) (sym z)
          go None z = absurd (let v = ap (λ (o : Option Side). at (unwrap_or o (new_side 0)).lwk.callers held-by.thread) z in let y = sym held-by.there ∙ v ∙ at-none held-by.thread in grind (arith, y))

      same-process : t.process ≡ p → (t.request == n) ≡ false → holds_it d progress.found < calls_at pair.node.files.descriptions d
      same-process y z =
          let at-p : at old.lwk.callers held-by.thread ≡ Some held-by.caller = ap (λ (j : ℕ). at (side_of pair j).lwk.callers held-by.thread) (sym y) ∙ held-by.there in
          let count : counts_one d old (held-by.thread, held-by.caller) ≡ 1 = ap (λ (j : ℕ). counts_one d (side_of pair j) (held-by.thread, held-by.caller)) (sym y) ∙ held-by.counts in
          let apart : (held-by.thread == call.tid.0) ≡ false = distinct (held-by.thread == call.tid.0) refl at-p in
          let a = entries-two (counts_one d old) old.lwk.callers call.tid.0 held-by.thread caller held-by.caller apart caller-there at-p in
          omega (arith, a, count, own-counts d, side-least d, c.held d)
        where
          distinct : (b : Bool) → (held-by.thread == call.tid.0) ≡ b → at old.lwk.callers held-by.thread ≡ Some held-by.caller → b ≡ false
          distinct false u at-p = refl
          distinct true u at-p = absurd (let j : held-by.thread ≡ call.tid.0 = grind (arith, nat_tests, u) in
              let q : Some held-by.caller ≡ Some caller = sym at-p ∙ ap (at old.lwk.callers) j ∙ caller-there in
              let r : held-by.caller ≡ caller = cc in
              let v : t.request ≡ n = sym held-by.number ∙ ap (λ (x : Caller). x.request) r ∙ caller-number in
              let x : (t.request == n) ≡ true = grind (arith, nat_tests, v) in grind (arith, x, z))

      by-process : (b : Bool) → (t.process == p) ≡ b → holds_it d progress.found < calls_at pair.node.files.descriptions d
      by-process true z = same-process (grind (arith, nat_tests, z)) (let v = rw z at f in v)
      by-process false z =
          let a = entries-two (λ (x : ℕ × Side). holders d x.1) pair.sides p t.process old (side_of pair t.process) z (has-side pair c.known p there) present-other in
          omega (arith, a, own, theirs, c.held d)

  module _ (side : Side) (files : Files) (status : CallStatus) (callers : side.lwk.callers ≡ old.lwk.callers)
      (now : status_of side n ≡ status) (others : (x : ℕ) → (x == n) ≡ false → status_of side x ≡ status_of old x)
      (carries : Carries progress.found (description_held status) pair.node.files.descriptions files.descriptions) (goes : StatusHolds status) where
    pub ends-stay : (t : Turn) (e : ℕ) → at pair.turns e ≡ Some t → is_turn_for p n (Some t) ≡ false → let j = (service_of (side_of pair t.process).linux.services t.request).progress in pipe_end pair.node.files j ≡ Some e → pipe_end files j ≡ Some e
    ends-stay t e i f u = go (service_of (side_of pair t.process).linux.services t.request).progress.found refl u
      where
        go : (o : Option ℕ) → (service_of (side_of pair t.process).linux.services t.request).progress.found ≡ o → end_of_found pair.node.files o ≡ Some e → end_of_found files o ≡ Some e
        go None g u = u
        go (Some d) g u = ap end_of_target (carries.targets d (other-held t e i f d g)) ∙ u

    -- the other callers count as before
    others-count : (d j : ℕ) (x : Caller) → (j == call.tid.0) ≡ false → at old.lwk.callers j ≡ Some x → counts_one d side (j, x) ≡ counts_one d old (j, x)
    others-count d j x v e = ap (λ s. cond (is_number d (description_held s)) 1 0) (others x.request (apart (x.request == n) refl))
      where
        apart : (b : Bool) → (x.request == n) ≡ b → b ≡ false
        apart false g = refl
        apart true g = absurd (let a : x.request ≡ n = grind (arith, nat_tests, g) in let y = k.answered.alone j call.tid.0 x caller e caller-there (a ∙ sym caller-number) in grind (arith, nat_tests, y, v))

    pub holders-now : (d : ℕ) → holders d side + holds_it d progress.found ≡ holders d old + holds_it d (description_held status)
    holders-now d =
        let a = entries-but (counts_one d side) (counts_one d old) old.lwk.callers call.tid.0 caller caller-there (others-count d) in
        let b : counts_one d side (call.tid.0, caller) ≡ holds_it d (description_held status) = ap (λ s. cond (is_number d (description_held s)) 1 0) (ap (status_of side) caller-number ∙ now) in
        let m : holders d side ≡ sum_by (counts_one d side) (entries old.lwk.callers) = ap (λ (x : Map Caller). sum_by (counts_one d side) (entries x)) callers in
        omega (arith, a, b, m, own-counts d)

    pub calls-now : CallsHold side
    calls-now t x e = go (x.request == n) refl
      where
        before : at old.lwk.callers t ≡ Some x
        before = ap (λ (m : Map Caller). at m t) (sym callers) ∙ e

        go : (b : Bool) → (x.request == n) ≡ b → StatusHolds (status_of side x.request)
        go true g = let y : x.request ≡ n = grind (arith, nat_tests, g) in subst (λ (j : ℕ). StatusHolds (status_of side j)) (sym y) (subst StatusHolds (sym now) goes)
        go false g = subst StatusHolds (sym (others x.request g)) (c.calls p t x before)
