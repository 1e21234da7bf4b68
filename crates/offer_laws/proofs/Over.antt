-- Where no candidate may happen no event may: an event that may happen is a candidate, or a run of more instructions than the candidate's one.
use Rattle.hybrid_laws.proofs.maps.Tests.{both, some-is}
use Rattle.hybrid_laws.proofs.states.Pair.{has-side, there-has}
use Rattle.hybrid_model.specs.Events.{may, may_here, process_of_event}
use Rattle.hybrid_model.specs.Globals.{Coherent}
use Rattle.hybrid_model.specs.Journals.{IsOver, candidates, events_of_process, events_of_thread, events_of_worker, is_at_end}
use Rattle.hybrid_model.specs.Workers.{is_parked}
use Rattle.hybrid_model.specs.Interrupt.{is_calling, may_interrupt}
use Rattle.hybrid_model.specs.Pairs.{Pair, here, side_of}
use Rattle.hybrid_model.specs.Rings.{ring}
use Rattle.hybrid_model.specs.Sides.{state_in, state_of}
use Rattle.hybrid_model.specs.Tallies.{Each}
use Rattle.hybrid_model.specs.declared.events.Event.TheVariants.{Run, Trap, Deliver, Intake, Answer, BeginVm, Interrupt, Wait, Reap, Script, Fetch, Assign, Miss, Pin, Copy, Unpin, Act, Park, Unpark, Finish, AckClear}
use Rattle.hybrid_model.specs.declared.events.Event.{Event}
use Rattle.ikc_ring.specs.declared.CallRequest.{CallRequest}
use Rattle.ikc_ring.specs.declared.Msg.{Msg}
use Rattle.kernel_model.specs.Nodes.{ScriptLine, has_thread, is_there, thread_of}
use Rattle.kernel_model.specs.Traps.{line_is, line_may, line_of, may_be_called_back, may_run}
use Rattle.mck_word.specs.Identifiers.{pid, req, tid}
use Rattle.mck_word.specs.Lists.{count_from}
use Rattle.mck_word.specs.Maps.{at, keys}
use Rattle.offer_laws.proofs.Each.{any-none, count-member, each-all, each-mapped, key-member, none-any, of-member}
use Rattle.offer_laws.proofs.Silence.{IsSilent, NoneMay, ProcessSilent, candidates-parts, process-parts, processes, run-more, threads}
use Rattle.request_book.specs.declared.ReqState.{ReqState}
use Rattle.run_model.specs.Walks.{all_workers}
use Rattle.std.proofs.Common.{ap, arith, refl, subst, sym, ◌∙◌}
use Rattle.std.proofs.lemmas.Bool.Decides.{nat_tests}
use Rattle.std.specs.List.{list_any}
use Rattle.std.specs.Prelude.{zero, suc, Bool, List, None, Option, Some, [], cond, false, find, is_some, length, nat_le, nat_lt, not, true, ℕ, ◌%◌, ◌&&◌, ◌+◌, ◌<◌, ◌==◌, ◌∷◌, ◌≡◌}

-- ---- the first of several tests
first-two : (a b : Bool) → (a && b) ≡ true → a ≡ true
first-two true b e = refl
first-two false b e = absurd (grind (arith, e))

first-three : (a b c : Bool) → (a && b && c) ≡ true → a ≡ true
first-three a b c e = first-two a b (first-two (a && b) c e)

first-four : (a b c d : Bool) → (a && b && c && d) ≡ true → a ≡ true
first-four a b c d e = first-three a b c (first-two (a && b && c) d e)

never : (b : Bool) → b ≡ true → b ≡ false → ⊥
never b e f = let a = sym e ∙ f in grind (arith, a)

-- a ring that has messages is one of those that there are
ring-below : (r : ℕ) (rs : List (List Msg)) → not (length (ring r rs) == 0) ≡ true → r < length rs
ring-below r [] e = absurd (grind (arith, nat_tests, e))
ring-below zero (ms ∷ rs) e = omega arith
ring-below (suc r) (ms ∷ rs) e = let a = ring-below r rs e in omega (arith, a)

-- a state of a request that is in no book is Replied
in-book : (o : Option (ReqState × CallRequest)) → is_parked (state_in o) ≡ true → is_some o ≡ true
in-book None e = absurd (grind (arith, e))
in-book (Some r) e = refl

-- what holds of each line holds of one that is found, and that one passes
record Found (test : ScriptLine → Bool) (P : ScriptLine → Type 0) (l : ScriptLine) : Type 0 where
  passes : test l ≡ true
  holds : P l

found : (test : ScriptLine → Bool) (P : ScriptLine → Type 0) (ls : List ScriptLine) (l : ScriptLine) → Each P ls → find test ls ≡ Some l → Found test P l
found test P [] l h e = absurd (grind (arith, e))
found test P (x ∷ ls) l h e = go (test x) refl e (found test P ls l h.1)
  where
    go : (b : Bool) → test x ≡ b → cond b (Some x) (find test ls) ≡ Some l → (find test ls ≡ Some l → Found test P l) → Found test P l
    go true f k r = let y : x ≡ l = cc in subst (Found test P) y (record { passes = f; holds = h.0 })
    go false f k r = r k

module _ (pair : Pair) (c : Coherent pair) (none : NoneMay pair) where
  abbrev process : ℕ → ℕ
  process t = (thread_of pair.node t).process

  -- ---- what is silent
  thread-silent : (t : ℕ) → has_thread pair.node t ≡ true → Each (IsSilent pair) (events_of_thread pair t)
  thread-silent t e = of-member (λ u. Each (IsSilent pair) (events_of_thread pair u)) (threads pair) t none.of_threads (key-member pair.node.threads t e)

  process-silent : (p : ℕ) → is_there pair.node p ≡ true → ProcessSilent pair p
  process-silent p e = process-parts pair p (of-member (λ q. Each (IsSilent pair) (events_of_process pair q)) (processes pair) p none.of_processes (key-member pair.node.processes p (there-has pair.node p e)))

  worker-silent : (p w : ℕ) → is_there pair.node p ≡ true → nat_lt w pair.workers ≡ true → Each (IsSilent pair) (events_of_worker p w)
  worker-silent p w e f =
      let below : w < 0 + pair.workers = grind (arith, nat_tests, f) in
      of-member (λ v. Each (IsSilent pair) (events_of_worker p v)) (all_workers pair) w (process-silent p e).workers (count-member 0 pair.workers w (omega arith) below)

  -- ---- an event that may happen
  parts : (e : Event) → may pair e ≡ true → (is_there pair.node (process_of_event pair.node e) ≡ true) × (may_here e (here pair (process_of_event pair.node e)) ≡ true)
  parts e m = both (is_there pair.node (process_of_event pair.node e)) (may_here e (here pair (process_of_event pair.node e))) m

  by-worker : (e : Event) (p w : ℕ) (b : Bool) → is_there pair.node p ≡ true → (nat_lt w pair.workers && b) ≡ true → (Each (IsSilent pair) (events_of_worker p w) → IsSilent pair e) → IsSilent pair e
  by-worker e p w b there m f = f (worker-silent p w there (first-two (nat_lt w pair.workers) b m))

  calling-there : (t : ℕ) → (is_calling (side_of pair (process t)) t ≡ true) → has_thread pair.node t ≡ true
  calling-there t e =
      let a = some-is (at (side_of pair (process t)).lwk.callers t) e in
      let x = (c.whole (process t)).calls.there t a.0 a.1 in
      ap is_some x.1

  interrupt-there : (t : ℕ) → may_interrupt t (here pair (process t)) ≡ true → has_thread pair.node t ≡ true
  interrupt-there t m = go (is_calling (side_of pair (process t)) t) refl _ m
    where
      go : (b : Bool) → is_calling (side_of pair (process t)) t ≡ b → (marks : Bool) → cond b marks (may_be_called_back pair.node t) ≡ true → has_thread pair.node t ≡ true
      go true e marks k = calling-there t e
      go false e marks k = first-four (has_thread pair.node t) _ _ _ k

  silent : (e : Event) → may pair e ≡ true → IsSilent pair e
  silent (Run core t n) m =
      let a = (parts (Run core t n) m).1 in
      let left = pair.node.limit in
      let b = both (may_run pair.node t.0 && t.0 % pair.cores == core && nat_le 1 n && nat_le n 64) _ a in
      let d = both (may_run pair.node t.0 && t.0 % pair.cores == core && nat_le 1 n) _ b.0 in
      let e = both (may_run pair.node t.0 && t.0 % pair.cores == core) _ d.0 in
      let f = both (may_run pair.node t.0) (t.0 % pair.cores == core) e.0 in
      let g : t.0 % pair.cores ≡ core = (let h = f.1 in grind (arith, nat_tests, h)) in
      let s = thread-silent t.0 (first-four (has_thread pair.node t.0) _ _ _ f.0) in
      run-more pair core t.0 n (subst (λ (k : ℕ). IsSilent pair (Run k (tid t.0) 1)) g s.0)
  silent (Trap t) m = (thread-silent t.0 (first-three (has_thread pair.node t.0) _ _ (parts (Trap t) m).1)).1.0
  silent (Deliver t) m = (thread-silent t.0 (first-four (has_thread pair.node t.0) _ _ _ (parts (Deliver t) m).1)).1.1.0
  silent (BeginVm t) m = (thread-silent t.0 (first-four (has_thread pair.node t.0) _ _ _ (parts (BeginVm t) m).1)).1.1.1.0
  silent (Interrupt t) m = (thread-silent t.0 (interrupt-there t.0 (parts (Interrupt t) m).1)).1.1.1.1.0
  silent (Wait t) m = (thread-silent t.0 (first-three (has_thread pair.node t.0) _ _ (parts (Wait t) m).1)).1.1.1.1.1.0
  silent (Intake p) m = (process-silent p.0 (parts (Intake p) m).0).intake
  silent (Reap p) m = (process-silent p.0 (parts (Reap p) m).0).reap
  silent (AckClear p) m = (process-silent p.0 (parts (AckClear p) m).0).ack_clear
  silent (Fetch p r) m =
      let a = parts (Fetch p r) m in
      let l = ring-below r (side_of pair p.0).to_linux a.1 in
      let n = c.rings.each p.0 (side_of pair p.0) (has-side pair c.known p.0 a.0) in
      let h = each-mapped (IsSilent pair) (λ k. Fetch (pid p.0) k) (count_from 0 pair.rings) (process-silent p.0 a.0).fetch in
      of-member (λ k. IsSilent pair (Fetch (pid p.0) k)) (count_from 0 pair.rings) r h (count-member 0 pair.rings r (omega arith) (omega (arith, l, n)))
  silent (Unpark p q) m =
      let a = parts (Unpark p q) m in
      let k = first-two (is_parked (state_of (side_of pair p.0).book q.0)) _ a.1 in
      let h = each-mapped (IsSilent pair) (λ n. Unpark (pid p.0) (req n)) (keys (side_of pair p.0).book.rows) (process-silent p.0 a.0).unpark in
      of-member (λ n. IsSilent pair (Unpark (pid p.0) (req n))) (keys (side_of pair p.0).book.rows) q.0 h (key-member (side_of pair p.0).book.rows q.0 (in-book (at (side_of pair p.0).book.rows q.0) k))
  silent (Script i) m = go (line_of pair.node i) refl (parts (Script i) m).1
    where
      go : (o : Option ScriptLine) → line_of pair.node i ≡ o → line_may pair.node o ≡ true → IsSilent pair (Script i)
      go None f k = absurd (grind (arith, k))
      go (Some l) f k =
          let h = each-mapped (IsSilent pair) (λ (x : ScriptLine). Script x.index) pair.node.unsent none.of_script in
          let x = found (line_is i) (λ y. IsSilent pair (Script y.index)) pair.node.unsent l h f in
          let g : l.index ≡ i = (let y = x.passes in grind (arith, nat_tests, y)) in
          subst (λ (n : ℕ). IsSilent pair (Script n)) g x.holds
  silent (Answer p w) m = let a = parts (Answer p w) m in by-worker (Answer p w) p.0 w _ a.0 a.1 (λ h. h.0)
  silent (Assign p w) m = let a = parts (Assign p w) m in by-worker (Assign p w) p.0 w _ a.0 a.1 (λ h. h.1.0)
  silent (Miss p w) m = let a = parts (Miss p w) m in by-worker (Miss p w) p.0 w _ a.0 a.1 (λ h. h.1.1.0)
  silent (Pin p w) m = let a = parts (Pin p w) m in by-worker (Pin p w) p.0 w _ a.0 a.1 (λ h. h.1.1.1.0)
  silent (Copy p w) m = let a = parts (Copy p w) m in by-worker (Copy p w) p.0 w _ a.0 a.1 (λ h. h.1.1.1.1.0)
  silent (Unpin p w) m = let a = parts (Unpin p w) m in by-worker (Unpin p w) p.0 w _ a.0 a.1 (λ h. h.1.1.1.1.1.0)
  silent (Act p w) m = let a = parts (Act p w) m in by-worker (Act p w) p.0 w _ a.0 a.1 (λ h. h.1.1.1.1.1.1.0)
  silent (Park p w) m = let a = parts (Park p w) m in by-worker (Park p w) p.0 w _ a.0 a.1 (λ h. h.1.1.1.1.1.1.1.0)
  silent (Finish p w) m = let a = parts (Finish p w) m in by-worker (Finish p w) p.0 w _ a.0 a.1 (λ h. h.1.1.1.1.1.1.1.1.0)

pub end-is-over : (pair : Pair) → Coherent pair → is_at_end pair ≡ true → IsOver pair
end-is-over pair c e x = go (may pair x) refl
  where
    turned : (b : Bool) → not b ≡ true → b ≡ false
    turned true f = absurd (grind (arith, f))
    turned false f = refl

    none : NoneMay pair
    none = candidates-parts pair (any-none (may pair) (candidates pair) (turned (list_any (may pair) (candidates pair)) e))

    go : (b : Bool) → may pair x ≡ b → may pair x ≡ false
    go false f = f
    go true f = silent pair c none x f

pub over-is-end : (pair : Pair) → IsOver pair → is_at_end pair ≡ true
over-is-end pair over = ap not (none-any (may pair) (candidates pair) (each-all (IsSilent pair) (candidates pair) over))
