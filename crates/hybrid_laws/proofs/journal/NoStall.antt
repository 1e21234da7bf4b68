-- Where no event of the two kernels may happen, no step of the one-kernel machine may.
use Rattle.hybrid_model.specs.declared.events.Event.TheVariants as Events
use Rattle.kernel_model.specs.Steps as OneSteps
use Rattle.kernel_model.specs.declared.steps.Step.TheVariants as Steps
use Rattle.hybrid_laws.proofs.journal.Still.{and-true, call-parked, caller-there, dying-there, empty-all, living-there, no-back, no-ring, no-round, not-asked, not-ready-now, or-right, there-lives, unmarked}
use Rattle.hybrid_laws.proofs.maps.Tests.{both, some-is}
use Rattle.hybrid_laws.proofs.memory.Written.{each-entry}
use Rattle.hybrid_laws.specs.Lasting.{Lasting}
use Rattle.hybrid_model.specs.Claims.{NoAddedStall}
use Rattle.hybrid_model.specs.Events.{may, may_here, of_line, process_of_event}
use Rattle.hybrid_model.specs.Globals.{Coherent}
use Rattle.hybrid_model.specs.Journals.{IsOver}
use Rattle.hybrid_model.specs.Interrupt.{caller_at}
use Rattle.hybrid_model.specs.Pairs.{Pair, here, side_of}
use Rattle.hybrid_model.specs.Shown.{has_empty, one, reply_code, shown_call, shown_own, status_in, status_of}
use Rattle.hybrid_model.specs.Sides.{Caller, Side, call_in, new_side, service_of}
use Rattle.hybrid_model.specs.Tallies.{Each}
use Rattle.hybrid_model.specs.declared.events.Event.{Event}
use Rattle.kernel_model.specs.Nodes.{ScriptLine, Thread, change_in, has_thread, instructions_in_all, is_called, is_dying, is_living, is_stopped, is_there, no_thread, process_of, ready_to_run, rests, thread_of}
use Rattle.kernel_model.specs.OneKernel.{Blocked, Call as OneCall, OneHere, Own, no_own, one_here}
use Rattle.kernel_model.specs.Progress.{Progress, has_piece, is_file_step, is_not_ready, is_ready, next_kind}
use Rattle.kernel_model.specs.Signals.{is_deliverable}
use Rattle.kernel_model.specs.Steps.{active, answer_in, blocked, call_at, has_call, holds_of, is_active, is_blocked, may_change, no_call, piece_has_right, some_called}
use Rattle.kernel_model.specs.Traps.{line_may, line_of, may_be_called_back, may_be_marked, may_deliver, may_end_wait_of, may_run, may_script, may_trap, may_wait, wait_of}
use Rattle.kernel_model.specs.declared.Does.TheVariants.{Asleep, Called, InVm, InWait, Ready, Stopped}
use Rattle.kernel_model.specs.declared.Does.{Does}
use Rattle.kernel_model.specs.declared.steps.Step.{Step}
use Rattle.mck_word.specs.Identifiers.{pid, tid}
use Rattle.mck_word.specs.MapLaws.{at-collect, at-none}
use Rattle.mck_word.specs.Maps.{Map, and_then, at, entries, some_row}
use Rattle.mck_word.specs.declared.Tid.{Tid}
use Rattle.std.proofs.Common.{ap, arith, inl, inr, refl, subst, sym, ◌∙◌}
use Rattle.std.proofs.lemmas.Bool.Decides.{nat_tests}
use Rattle.std.specs.List.{list_any}
use Rattle.std.specs.Prelude.{Bool, List, None, Option, Some, [], cond, false, is_none, is_some, length, nat_le, nat_lt, not, true, unwrap_or, ℕ, ◌%◌, ◌&&◌, ◌-◌, ◌==◌, ◌||◌, ◌∷◌, ◌≡◌, ◌⊎◌}

-- no call, or one that is not marked and is blocked
abbrev pub IsBlocked : Option OneCall → Type 0
IsBlocked None = Unit {0}
IsBlocked (Some x) = (x.marked ≡ false) × ((p : Progress) × (x.status ≡ Blocked p))

not-active : (o : Option OneCall) (test : Progress → Bool) → IsBlocked o → (is_some o && holds_of (active (unwrap_or o no_call).status) test) ≡ false
not-active None test h = refl
not-active (Some x) test h = ap (λ st. holds_of (active st) test) h.1.1

no-answer : (o : Option OneCall) → IsBlocked o → (is_some o && is_some (answer_in (unwrap_or o no_call).status)) ≡ false
no-answer None h = refl
no-answer (Some x) h = ap (λ st. is_some (answer_in st)) h.1.1

false-if : (b : Bool) → (b ≡ true → ⊥) → b ≡ false
false-if false h = refl
false-if true h = absurd (h refl)

or-false : (a b : Bool) → a ≡ false → b ≡ false → (a || b) ≡ false
or-false false b e f = f
or-false true b e f = absurd (grind (arith, e))

-- a map whose rows all fail
none-passes : {V : Type 0} (test : ℕ → V → Bool) (m : Map V) → ((k : ℕ) (v : V) → at m k ≡ Some v → test k v ≡ true → ⊥) → some_row test m ≡ false
none-passes {V} test m h = go (entries m) (each-entry m)
  where
    go : (es : List (ℕ × V)) → Each (λ (x : ℕ × V). at m x.0 ≡ Some x.1) es → list_any (λ (e : ℕ × V). test e.0 e.1) es ≡ false
    go [] k = refl
    go (x ∷ xs) k = or-false (test x.0 x.1) (list_any (λ (e : ℕ × V). test e.0 e.1) xs) (false-if (test x.0 x.1) (h x.0 x.1 k.0)) (go xs k.1)

-- one instruction may be executed where the limit is not reached
runs-one : (b : Bool) (core i limit : ℕ) → b ≡ true → nat_lt i limit ≡ true → (b && core == core && nat_le 1 1 && nat_le 1 64 && nat_le 1 (limit - i)) ≡ true
runs-one b core i limit e f =
    let a : (core == core) ≡ true = grind (arith, nat_tests) in
    let d : nat_le 1 (limit - i) ≡ true = grind (arith, nat_tests, f) in
    λ j. e j && a j && true && true && d j

resting : (d : Does) → rests d ≡ true → is_called d ≡ false
resting (Asleep a) e = refl
resting (InWait pid status) e = refl
resting Ready e = refl
resting (Stopped a) e = refl
resting Called e = absurd (grind (arith, e))
resting (InVm a) e = refl

module _ (pair : Pair) (c : Coherent pair) (l : Lasting pair) (over : IsOver pair) where
  no-event : (e : Event) → may pair e ≡ true → ⊥
  no-event e m = let o = over e in grind (arith, o, m)

  -- an event that the process of a thread may make
  event-may : (e : Event) → is_there pair.node (process_of_event pair.node e) ≡ true → may_here e (here pair (process_of_event pair.node e)) ≡ true → ⊥
  event-may e a b = no-event e (and-true (is_there pair.node (process_of_event pair.node e)) (may_here e (here pair (process_of_event pair.node e))) a b)

  -- ---- one process: what the one-kernel machine sees of it
  abbrev sees : ℕ → OneHere
  sees p = one_here (one pair) p

  -- the calls of a process
  module _ (p : ℕ) where
    call-there : (t : ℕ) (s : Side) → at pair.sides p ≡ Some s → (o : Option Caller) → at s.lwk.callers t ≡ o → at (sees p).own.calls t ≡ and_then o (λ x. Some (shown_call s x))
    call-there t s e o f =
        ap (λ (x : Option Own). at (unwrap_or x no_own).calls t) (at-collect (λ k v. Some (shown_own pair.frames v)) pair.sides p ∙ ap (λ o. and_then o (λ v. Some (shown_own pair.frames v))) e)
        ∙ at-collect (λ k v. Some (shown_call s v)) s.lwk.callers t ∙ ap (λ o. and_then o (λ v. Some (shown_call s v))) f

    call-absent : (t : ℕ) → at pair.sides p ≡ None → at (sees p).own.calls t ≡ None
    call-absent t e =
        ap (λ (x : Option Own). at (unwrap_or x no_own).calls t) (at-collect (λ k v. Some (shown_own pair.frames v)) pair.sides p ∙ ap (λ o. and_then o (λ v. Some (shown_own pair.frames v))) e)
        ∙ at-none t

    blocked-shown : (s : Side) (t : ℕ) (x : Caller) → side_of pair p ≡ s → at (side_of pair p).lwk.callers t ≡ Some x → IsBlocked (Some (shown_call s x))
    blocked-shown s t x same e =
        let there = caller-there pair c p t x e in
        let f = call-parked pair c l over p there t x e in
        let m : x.marked ≡ false = false-if x.marked (unmarked pair c l over p there t x e) in (
          m,
          (
            (service_of s.linux.services x.request).progress,
            ap (λ (z : Side). status_of z x.request) (sym same) ∙ ap (λ st. status_in st (call_in (at (side_of pair p).book.rows x.request)) (service_of (side_of pair p).linux.services x.request) (has_empty (at (side_of pair p).linux.workers) x.request (side_of pair p).to_linux) (reply_code x.request (side_of pair p).to_lwk)) f
                ∙ ap (λ (z : Side). Blocked (service_of z.linux.services x.request).progress) same,
          ),
        )

    -- each call is blocked and not marked
    pub all-blocked : (t : ℕ) → IsBlocked (at (sees p).own.calls t)
    all-blocked t = go (at pair.sides p) refl
      where
        go : (o : Option Side) → at pair.sides p ≡ o → IsBlocked (at (sees p).own.calls t)
        go None e = subst IsBlocked (sym (call-absent t e)) tt
        go (Some s) e = by-caller (at s.lwk.callers t) refl
          where
            same : side_of pair p ≡ s
            same = ap (λ (o : Option Side). unwrap_or o (new_side 0)) e

            by-caller : (o : Option Caller) → at s.lwk.callers t ≡ o → IsBlocked (at (sees p).own.calls t)
            by-caller None f = subst IsBlocked (sym (call-there t s e None f)) tt
            by-caller (Some x) f = subst IsBlocked (sym (call-there t s e (Some x) f)) (blocked-shown s t x same (ap (λ (z : Side). at z.lwk.callers t) same ∙ f))

    no-active : (t : ℕ) (test : Progress → Bool) → is_active (sees p) t test ≡ false
    no-active t test = not-active (at (sees p).own.calls t) test (all-blocked t)

    none-answered : (t : ℕ) → (has_call (sees p) t && is_some (answer_in (call_at (sees p) t).status)) ≡ false
    none-answered t = no-answer (at (sees p).own.calls t) (all-blocked t)

    -- the caller of a call that is seen
    seen-caller : (t : ℕ) → has_call (sees p) t ≡ true → (x : Caller) × (at (side_of pair p).lwk.callers t ≡ Some x) × (call_at (sees p) t ≡ shown_call (side_of pair p) x)
    seen-caller t h = go (at pair.sides p) refl
      where
        go : (o : Option Side) → at pair.sides p ≡ o → (x : Caller) × (at (side_of pair p).lwk.callers t ≡ Some x) × (call_at (sees p) t ≡ shown_call (side_of pair p) x)
        go None e = absurd (let a = sym (ap is_some (call-absent t e)) ∙ h in grind (arith, a))
        go (Some s) e = by-caller (at s.lwk.callers t) refl
          where
            same : s ≡ side_of pair p
            same = sym (ap (λ (o : Option Side). unwrap_or o (new_side 0)) e)

            by-caller : (o : Option Caller) → at s.lwk.callers t ≡ o → (x : Caller) × (at (side_of pair p).lwk.callers t ≡ Some x) × (call_at (sees p) t ≡ shown_call (side_of pair p) x)
            by-caller None f = absurd (let a = sym (ap is_some (call-there t s e None f)) ∙ h in grind (arith, a))
            by-caller (Some x) f = (x, (sym (ap (λ (z : Side). at z.lwk.callers t) same) ∙ f), (ap (λ o. unwrap_or o no_call) (call-there t s e (Some x) f) ∙ ap (λ (z : Side). shown_call z x) same))

    -- ---- waking
    no-wake : (t : ℕ) → is_blocked (sees p) t (λ q. (call_at (sees p) t).marked || not (is_not_ready (next_kind pair.node.files q))) ≡ false
    no-wake t = false-if (is_blocked (sees p) t (λ q. (call_at (sees p) t).marked || not (is_not_ready (next_kind pair.node.files q)))) (λ h. go h)
      where
        go : is_blocked (sees p) t (λ q. (call_at (sees p) t).marked || not (is_not_ready (next_kind pair.node.files q))) ≡ true → ⊥
        go h =
            let a = both (has_call (sees p) t) (holds_of (blocked (call_at (sees p) t).status) (λ q. (call_at (sees p) t).marked || not (is_not_ready (next_kind pair.node.files q)))) h in
            let x = seen-caller t a.0 in
            let there = caller-there pair c p t x.0 x.1 in
            let b : x.0.marked ≡ false = false-if x.0.marked (unmarked pair c l over p there t x.0 x.1) in
            let q = x.0.request in
            let f = call-parked pair c l over p there t x.0 x.1 in
            let st : status_of (side_of pair p) q ≡ Blocked (service_of (side_of pair p).linux.services q).progress = ap (λ st. status_in st (call_in (at (side_of pair p).book.rows q)) (service_of (side_of pair p).linux.services q) (has_empty (at (side_of pair p).linux.workers) q (side_of pair p).to_linux) (reply_code q (side_of pair p).to_lwk)) f in
            let d : not (is_not_ready (next_kind pair.node.files (service_of (side_of pair p).linux.services q).progress)) ≡ true =
            sym (ap (λ (y : OneCall). holds_of (blocked y.status) (λ z. y.marked || not (is_not_ready (next_kind pair.node.files z)))) x.2
            ∙ (λ i. holds_of (blocked (st i)) (λ z. b i || not (is_not_ready (next_kind pair.node.files z))))) ∙ a.1 in
            not-ready-now pair c l over p there q f d

  -- ---- each step
  abbrev of : ℕ → ℕ
  of t = (thread_of pair.node t).process

  no-instr : (t : Tid) → (may_run pair.node t.0 && nat_lt (instructions_in_all pair.node) pair.node.limit) ≡ true → ⊥
  no-instr t h =
      let a = both (may_run pair.node t.0) (nat_lt (instructions_in_all pair.node) pair.node.limit) h in
      let b = both (has_thread pair.node t.0 && ready_to_run (thread_of pair.node t.0).does && is_living pair.node (of t.0)) (not (is_deliverable pair.node t.0)) a.0 in
      let d = both (has_thread pair.node t.0 && ready_to_run (thread_of pair.node t.0).does) (is_living pair.node (of t.0)) b.0 in
      event-may (Events.Run (t.0 % pair.cores) t 1) (living-there pair.node (of t.0) d.1)
      (runs-one (may_run pair.node t.0) (t.0 % pair.cores) (instructions_in_all pair.node) pair.node.limit a.0 a.1)

  -- the end of a process
  ends : (p : ℕ) → is_dying pair.node p ≡ true → (some_called pair.node p ≡ false) → ⊥
  ends p d n =
      let there = dying-there pair.node p d in
      event-may (Events.Reap (pid p)) there ((λ i. d i && not (n i) && is_none (no-round pair c l over p there i) && empty-all (side_of pair p).to_linux (no-ring pair c l over p there) i && length (no-back pair c l over p there i) == 0))

  -- a dying process has no thread that is Called: its call would have been asked to be interrupted
  none-called : (p : ℕ) → is_dying pair.node p ≡ true → some_called pair.node p ≡ false
  none-called p d = none-passes (λ t (x : Thread). x.process == p && is_called x.does) pair.node.threads each
    where
      each : (t : ℕ) (x : Thread) → at pair.node.threads t ≡ Some x → (x.process == p && is_called x.does) ≡ true → ⊥
      each t x e h =
          let a = both (x.process == p) (is_called x.does) h in
          let own : x.process ≡ p = (let z = a.0 in grind (arith, nat_tests, z)) in
          let k = (c.whole p).calls.called t x e own in
          let y = some-is (at (side_of pair p).lwk.callers t) (sym k ∙ a.1) in
          let of-it : of t ≡ p = ap (λ (o : Option Thread). (unwrap_or o no_thread).process) e ∙ own in
          not-asked pair c l over p (dying-there pair.node p d) t y.0 of-it y.1 (or-right (is_deliverable pair.node t) (is_dying pair.node (of t)) (ap (is_dying pair.node) of-it ∙ d))

  pub no-dying : (p : ℕ) → is_dying pair.node p ≡ true → ⊥
  no-dying p d = ends p d (none-called p d)

  no-change : (t : ℕ) → may_change pair.node t ≡ true → ⊥
  no-change t h = go (there-lives pair.node (of t) there)
    where
      a : (has_thread pair.node t ≡ true) × (is_some (change_in (thread_of pair.node t).does) ≡ true)
      a = both (has_thread pair.node t) (is_some (change_in (thread_of pair.node t).does)) h

      there : is_there pair.node (of t) ≡ true
      there = let x = some-is (at pair.node.threads t) a.0 in
          ap (λ (o : Option Thread). is_there pair.node (unwrap_or o no_thread).process) x.1 ∙ c.known.threads_there t x.0 x.1

      go : (is_living pair.node (of t) ≡ true) ⊎ (is_dying pair.node (of t) ≡ true) → ⊥
      go (inr d) = no-dying (of t) d
      go (inl e) = event-may (Events.BeginVm (tid t)) there ((λ i. a.0 i && a.1 i && e i && is_none (no-round pair c l over (of t) there i)))

  no-mark : (t : ℕ) → (has_call (sees (of t)) t && not (call_at (sees (of t)) t).marked && may_be_marked pair.node t) ≡ true → ⊥
  no-mark t h =
      let a = both (has_call (sees (of t)) t && not (call_at (sees (of t)) t).marked) (may_be_marked pair.node t) h in
      let b = both (has_call (sees (of t)) t) (not (call_at (sees (of t)) t).marked) a.0 in
      let x = seen-caller (of t) t b.0 in
      not-asked pair c l over (of t) (caller-there pair c (of t) t x.0 x.1) t x.0 refl x.1 a.1

  no-call-back : (t : ℕ) → may_be_called_back pair.node t ≡ true → ⊥
  no-call-back t h =
      let a = both (has_thread pair.node t && rests (thread_of pair.node t).does && is_living pair.node (of t)) (is_deliverable pair.node t) h in
      let b = both (has_thread pair.node t && rests (thread_of pair.node t).does) (is_living pair.node (of t)) a.0 in
      let d = both (has_thread pair.node t) (rests (thread_of pair.node t).does) b.0 in
      let x = some-is (at pair.node.threads t) d.0 in
      let is : thread_of pair.node t ≡ x.0 = ap (λ o. unwrap_or o no_thread) x.1 in
      let k = (c.whole (of t)).calls.called t x.0 x.1 (ap (λ (y : Thread). y.process) (sym is)) in
      let n : is_some (at (side_of pair (of t)).lwk.callers t) ≡ false = sym k ∙ resting x.0.does (ap (λ (y : Thread). rests y.does) (sym is) ∙ d.1) in
      event-may (Events.Interrupt (tid t)) (living-there pair.node (of t) b.1) (ap (λ b. cond b (not (caller_at (side_of pair (of t)) t).marked && may_be_marked pair.node t) (may_be_called_back pair.node t)) n ∙ h)

  no-trap : (t : Tid) → may_trap pair.node t.0 ≡ true → ⊥
  no-trap t h =
      let a = both (has_thread pair.node t.0 && is_stopped (thread_of pair.node t.0).does) (is_living pair.node (of t.0)) h in
      event-may (Events.Trap t) (living-there pair.node (of t.0) a.1) h

  no-deliver : (t : Tid) → may_deliver pair.node t.0 ≡ true → ⊥
  no-deliver t h =
      let a = both (has_thread pair.node t.0 && ready_to_run (thread_of pair.node t.0).does && is_living pair.node (of t.0)) (is_deliverable pair.node t.0) h in
      let b = both (has_thread pair.node t.0 && ready_to_run (thread_of pair.node t.0).does) (is_living pair.node (of t.0)) a.0 in
      event-may (Events.Deliver t) (living-there pair.node (of t.0) b.1) h

  no-wait : (t : Tid) → may_wait pair.node t.0 ≡ true → ⊥
  no-wait t h =
      let a = both (has_thread pair.node t.0 && is_living pair.node (of t.0)) (may_end_wait_of pair.node (of t.0) (wait_of (thread_of pair.node t.0).does)) h in
      let b = both (has_thread pair.node t.0) (is_living pair.node (of t.0)) a.0 in
      event-may (Events.Wait t) (living-there pair.node (of t.0) b.1) h

  no-script : (k : ℕ) → may_script pair.node k ≡ true → ⊥
  no-script k h = event-may (Events.Script k) (go (line_of pair.node k) h) h
    where
      go : (o : Option ScriptLine) → line_may pair.node o ≡ true → is_there pair.node (of_line o) ≡ true
      go None e = absurd (grind (arith, e))
      go (Some x) e = let a = both (is_living pair.node x.process) (nat_le x.after (process_of pair.node x.process).instructions) e in living-there pair.node x.process a.0

  never : (s : Step) → OneSteps.may (one pair) s ≡ false
  never s = false-if (OneSteps.may (one pair) s) (go s)
    where
      go : (s : Step) → OneSteps.may (one pair) s ≡ true → ⊥
      go (Steps.Instr t) h = no-instr t h
      go (Steps.Trap t) h = no-trap t h
      go (Steps.Deliver t) h = no-deliver t h
      go (Steps.VmFinish t) h = no-change t.0 h
      go (Steps.Piece t) h = let f = no-active (of t.0) t.0 (λ p. is_ready (next_kind pair.node.files p) && piece_has_right (sees (of t.0)) p) in grind (arith, f, h)
      go (Steps.PieceFault t) h = let f = no-active (of t.0) t.0 (λ p. has_piece p && not (piece_has_right (sees (of t.0)) p)) in grind (arith, f, h)
      go (Steps.FileStep t) h = let f = no-active (of t.0) t.0 (λ p. is_file_step (next_kind pair.node.files p)) in grind (arith, f, h)
      go (Steps.Block t) h = let f = no-active (of t.0) t.0 (λ p. is_not_ready (next_kind pair.node.files p)) in grind (arith, f, h)
      go (Steps.Wake t) h = let f = no-wake (of t.0) t.0 in grind (arith, f, h)
      go (Steps.Return t) h = let f = none-answered (of t.0) t.0 in grind (arith, f, h)
      go (Steps.Mark t) h = no-mark t.0 h
      go (Steps.Interrupted t) h =
          let f = or-false (is_active (sees (of t.0)) t.0 (λ p. (call_at (sees (of t.0)) t.0).marked && is_not_ready (next_kind pair.node.files p))) (may_be_called_back pair.node t.0)
          (no-active (of t.0) t.0 (λ p. (call_at (sees (of t.0)) t.0).marked && is_not_ready (next_kind pair.node.files p))) (false-if (may_be_called_back pair.node t.0) (no-call-back t.0)) in grind (arith, f, h)
      go (Steps.Wait t) h = no-wait t h
      go (Steps.Script k) h = no-script k h
      go (Steps.End p) h = let a = both (is_dying pair.node p.0) (not (some_called pair.node p.0)) h in no-dying p.0 a.0

pub no-stall : (pair : Pair) → Coherent pair → Lasting pair → NoAddedStall pair
no-stall pair c l over s = never pair c l over s
