-- Reap keeps what holds of every process, and is the step End of the one-kernel machine.
use Rattle.kernel_model.specs.Steps as OneSteps
use Rattle.kernel_model.specs.declared.steps.Step.TheVariants as Steps
use Rattle.hybrid_model.specs.declared.events.Event.TheVariants as Events
use Rattle.std.specs.FinMap as finmap
use Rattle.std.specs.FinMap.Entries as fin
use Rattle.file_model.specs.Files.{close_all}
use Rattle.hybrid_laws.proofs.maps.Lookups.{no-row}
use Rattle.hybrid_laws.proofs.maps.Sums.{none-below}
use Rattle.hybrid_laws.proofs.maps.Tests.{both, none-is, not-true}
use Rattle.hybrid_laws.proofs.memory.Dropping.{length-insert}
use Rattle.hybrid_laws.proofs.memory.Written.{sorted-true}
use Rattle.hybrid_laws.proofs.node.EventKeeps.{ended-keeps}
use Rattle.hybrid_laws.proofs.node.Keeps.{Keeps, node-keeps}
use Rattle.hybrid_laws.proofs.node.Threads.{thread-is}
use Rattle.hybrid_laws.proofs.states.Simulated.{simulated-one}
use Rattle.hybrid_laws.specs.Simulated.{Simulated}
use Rattle.hybrid_model.specs.Coherence.{AnswerCovered, InterruptIs, OfProcess, OnlyOwn, Owned, Placed, calls_it, holder, is_live, service_at, state_at, tid_in}
use Rattle.hybrid_model.specs.Events.{after_here, may_here}
use Rattle.hybrid_model.specs.Reap.{may_reap, reap}
use Rattle.hybrid_model.specs.Pairs.{Here}
use Rattle.hybrid_model.specs.Rings.{all_empty}
use Rattle.hybrid_model.specs.Shown.{shown_born, shown_call, shown_here}
use Rattle.hybrid_model.specs.Sides.{Caller, Round, Row, Side, state_in}
use Rattle.hybrid_model.specs.Spaces.{freed, freed_rows, insert_frame, shown_memory, shown_row}
use Rattle.hybrid_model.specs.Tallies.{EachNumbered, EachRing, Reads}
use Rattle.ikc_ring.specs.declared.CallRequest.{CallRequest}
use Rattle.ikc_ring.specs.declared.Msg.{Msg}
use Rattle.kernel_model.specs.Nodes.{Node, Process, Sleeper, Thread, change_process, is_called, is_dying, is_living, process_of, thread_of}
use Rattle.kernel_model.specs.SignalSets.{with_signal}
use Rattle.kernel_model.specs.Signals.{ignores}
use Rattle.kernel_model.specs.Traps.{life_ended, process_ended}
use Rattle.mck_word.specs.MapLaws.{at-collect, at-collect_entries, at-none, same_rows}
use Rattle.mck_word.specs.Maps.{Map, and_then, at, collect, collect_entries, count, each, entries, no_rows}
use Rattle.mck_word.specs.declared.Pid.{Pid}
use Rattle.page_pins.specs.declared.Pin.{Pin}
use Rattle.request_book.specs.declared.ReqState.{ReqState}
use Rattle.std.proofs.Common.{ap, arith, refl, sym, ◌∙◌}
use Rattle.std.proofs.lemmas.Bool.Decides.{nat_tests}
use Rattle.std.specs.Cmp.{nat_cmp_total}
use Rattle.std.specs.Ordering.{nat_cmp}
use Rattle.std.specs.Prelude.{Bool, List, None, Option, Some, [], cond, false, filter, is_none, is_some, length, not, suc, true, ℕ, ◌&&◌, ◌+◌, ◌==◌, ◌∷◌, ◌≡◌, ◌≢◌, ◌≤◌}

-- ---- rings without a message
pub each-empty : (P : Msg → Type 0) (rs : List (List Msg)) → all_empty rs ≡ true → EachRing P rs
each-empty P [] e = tt
each-empty P ([] ∷ rs) e = (tt, each-empty P rs e)
each-empty P ((m ∷ ms) ∷ rs) e = absurd (grind (arith, nat_tests, e))

pub numbered-empty : (P : ℕ → List Msg → Type 0) → ((r : ℕ) → P r []) → (k : ℕ) (rs : List (List Msg)) → all_empty rs ≡ true → EachNumbered P k rs
numbered-empty P f k [] e = tt
numbered-empty P f k ([] ∷ rs) e = (f k, numbered-empty P f (suc k) rs e)
numbered-empty P f k ((m ∷ ms) ∷ rs) e = absurd (grind (arith, nat_tests, e))

-- ---- rows counted
module _ {V W : Type 0} (f : V → W) where
  abbrev kept : ℕ → V → Option W
  kept k v = Some (f v)

  count-entries : (es : List (ℕ × V)) → fin.is_sorted nat_cmp es ≡ true → count (collect_entries kept es) ≡ length es
  unfolding collect_entries
  count-entries [] s = finmap.len-empty nat_cmp W
  count-entries (e ∷ es) s =
      let a = both (fin.below_all nat_cmp e.0 es) (fin.is_sorted nat_cmp es) s in
      let n : at (collect_entries kept es) e.0 ≡ None = at-collect_entries kept es e.0 ∙ ap (λ o. and_then o (kept e.0)) (none-below (λ (v : ℕ × V). 0) e.0 e.0 es (le-refl e.0) a.0) in
      finmap.len-insert nat_cmp_total (collect_entries kept es) e.0 (f e.1) ∙ ap (λ (o : Option W). cond (is_some o) (count (collect_entries kept es)) (count (collect_entries kept es) + 1)) n ∙ more (count-entries es a.1)
    where
      le-refl : (n : ℕ) → n ≤ n
      le-refl n = omega arith

      more : count (collect_entries kept es) ≡ length es → count (collect_entries kept es) + 1 ≡ suc (length es)
      more e = omega (arith, e)

  pub count-each : (m : Map V) → count (each f m) ≡ count m
  unfolding collect
  count-each m = count-entries (entries m) (sorted-true m) ∙ sym (finmap.len-entries m)

  pub each-none : (m : Map V) → ((k : ℕ) → at m k ≡ None) → each f m ≡ no_rows
  each-none m n = same_rows (each f m) no_rows (λ k. at-collect kept m k ∙ ap (λ o. and_then o (kept k)) (n k) ∙ sym (at-none k))

pub length-freed : (es : List (ℕ × Row)) (free : List ℕ) → length (freed_rows es free) ≡ length free + length es
length-freed [] free = omega arith
length-freed (e ∷ es) free = omega (arith, length-freed es (insert_frame e.1.0.0 free), length-insert e.1.0.0 free)

-- ---- what the test says
pub record MayReap (p : ℕ) (h : Here) : Type 0 where
  pub ends : OneSteps.may_end h.node p ≡ true
  pub called : OneSteps.some_called h.node p ≡ false
  pub round : h.side.round ≡ None
  pub to_linux : all_empty h.side.to_linux ≡ true
  pub to_lwk : h.side.to_lwk ≡ []

pub no-messages : (ms : List Msg) → (length ms == 0) ≡ true → ms ≡ []
no-messages [] e = refl
no-messages (m ∷ ms) e = absurd (grind (arith, nat_tests, e))

pub reaps : (p : ℕ) (h : Here) → may_reap p h ≡ true → MayReap p h
reaps p h e =
    let a = both (OneSteps.may_end h.node p && is_none h.side.round && all_empty h.side.to_linux) (length h.side.to_lwk == 0) e in
    let b = both (OneSteps.may_end h.node p && is_none h.side.round) (all_empty h.side.to_linux) a.0 in
    let c = both (OneSteps.may_end h.node p) (is_none h.side.round) b.0 in
    let d = both (is_dying h.node p) (not (OneSteps.some_called h.node p)) c.0 in
    record { ends = c.0; called = not-true (OneSteps.some_called h.node p) d.1; round = none-is h.side.round c.1; to_linux = b.1; to_lwk = no-messages h.side.to_lwk a.1 }

module _ (p : ℕ) (q : Pid) (h : Here) (m : may_here (Events.Reap q) h ≡ true) (same : q.0 ≡ p) where
  abbrev pub w : MayReap p h
  w = reaps p h (ap (λ (x : ℕ). may_reap x h) (sym same) ∙ m)

  abbrev of_p : ℕ → Bool
  of_p u = (thread_of h.node u).process == p

  keeps : (other : ℕ) → Keeps other of_p h.node (process_ended p h.node)
  keeps other = ended-keeps other of_p p h.node (λ u x e own. (let f = ap (λ (z : Thread). z.process == p) (thread-is h.node u x e) in let g : (x.process == p) ≡ true = grind (arith, nat_tests, own) in f ∙ g))

  pub others_reap : (other : ℕ) (side : Side) (workers : ℕ) (ring : ℕ → ℕ) → p ≢ other → OfProcess other side h.node workers ring → OfProcess other side (after_here (Events.Reap q) p h).node workers ring
  unfolding reap
  others_reap other side workers ring differ k = node-keeps other of_p side h.node (process_ended p h.node) workers ring (keeps other)
      (λ u x f e own. absurd (differ (let g = ap (λ (z : Thread). z.process == p) (sym (thread-is h.node u x e)) ∙ f in let z : x.process ≡ p = grind (arith, nat_tests, g) in sym z ∙ own))) k

  module _ (workers : ℕ) (ring : ℕ → ℕ) (k : OfProcess p h.side h.node workers ring) where
    pub no-caller : (t : ℕ) → at h.side.lwk.callers t ≡ None
    no-caller t = go (at h.side.lwk.callers t) refl
      where
        go : (o : Option Caller) → at h.side.lwk.callers t ≡ o → at h.side.lwk.callers t ≡ None
        go None e = e
        go (Some c) e =
            let x = k.calls.there t c e in
            let l : is_called x.0.does ≡ true = k.calls.called t x.0 x.1 x.2 ∙ ap is_some e in
            let own = x.2 in
            let n = no-row (λ u (y : Thread). y.process == p && is_called y.does) h.node.threads w.called t x.0 x.1 in
            absurd (clash (x.0.process == p) (is_called x.0.does) (let z : (x.0.process == p) ≡ true = grind (arith, nat_tests, own) in z) l n)
          where
            clash : (a b : Bool) → a ≡ true → b ≡ true → (a && b) ≡ false → ⊥
            clash a b e f g = grind (arith, e, f, g)

    -- so no request is live
    pub no-request : (x : ℕ) → at h.side.book.rows x ≡ None
    no-request x = go (at h.side.book.rows x) refl
      where
        go : (o : Option (ReqState × CallRequest)) → at h.side.book.rows x ≡ o → at h.side.book.rows x ≡ None
        go None e = e
        go (Some r) e =
            let l : is_live (state_at (at h.side.book.rows) x) ≡ true = ap (λ (o : Option (ReqState × CallRequest)). is_live (state_in o)) e ∙ k.answered.not_replied x r e in
            let c = k.answered.live x l in
            let n = no-caller (tid_in (at h.side.book.rows x)) in
            absurd (let d = sym (ap (calls_it x) n) ∙ c in grind (arith, d))

    pub no-worker : (v : ℕ) → at h.side.linux.workers v ≡ None
    no-worker v = go (at h.side.linux.workers v) refl
      where
        go : (o : Option ℕ) → at h.side.linux.workers v ≡ o → at h.side.linux.workers v ≡ None
        go None e = e
        go (Some x) e =
            let a = k.served.workers_hold v x e in
            let n = no-request x in
            absurd (let b = sym (ap (λ (o : Option (ReqState × CallRequest)). holder (state_in o) (service_at (at h.side.linux.services) x).worker) n) ∙ a in grind (arith, b))

    pub no-pinned : (v : ℕ) → at h.side.linux.pins v ≡ None
    no-pinned v = go (at h.side.linux.pins v) refl
      where
        go : (o : Option Pin) → at h.side.linux.pins v ≡ o → at h.side.linux.pins v ≡ None
        go None e = e
        go (Some x) e = let s = (k.served.pins_serve v x e).serves in absurd (let b = sym (no-worker v) ∙ s in grind (arith, b))

    not-owned : (round : Option Round) (changing : Option ℕ) → round ≡ None → (process process' : Process) (threads threads' : Reads Thread) → Owned process threads p round changing → Owned process' threads' p round changing
    not-owned None None e process process' threads threads' o = tt
    not-owned None (Some t) e process process' threads threads' o = absurd o
    not-owned (Some r) changing e process process' threads threads' o = absurd (grind (arith, e))

    gone : (u : ℕ) (x : Thread) → at (process_ended p h.node).threads u ≡ Some x → x.process ≡ p → ⊥
    unfolding process_ended
    gone u x e own = go (at h.node.threads u) (sym (rest-of ∙ at-collect (λ t (y : Thread). cond (y.process == p) None (Some y)) h.node.threads u) ∙ e)
      where
        ended : Node
        ended = change_process p (λ (y : Process). record y { life = life_ended y.life }) (record h.node {
          threads = collect (λ t (y : Thread). cond (y.process == p) None (Some y)) h.node.threads;
          sleepers = filter (λ (y : Sleeper). not (y.process == p)) h.node.sleepers;
          files = close_all p h.node.files;
        })

        told : (b c : Bool) → at (cond b (cond c ended (change_process (process_of h.node p).parent (λ (y : Process). record y { pending = with_signal 17 y.pending }) ended)) ended).threads u ≡ at ended.threads u
        told true true = refl
        told true false = refl
        told false c = refl

        rest-of : at (process_ended p h.node).threads u ≡ at ended.threads u
        rest-of = told (is_living ended (process_of h.node p).parent) (ignores (process_of ended (process_of h.node p).parent) 17)

        row : (y : Thread) (b : Bool) → (y.process == p) ≡ b → cond b None (Some y) ≡ Some x → ⊥
        row y true f g = grind (arith, g)
        row y false f g = let z : y ≡ x = cc in let o = ap (λ (v : Thread). v.process == p) z in grind (arith, nat_tests, f, o, own)

        go : (o : Option Thread) → and_then o (λ (y : Thread). cond (y.process == p) None (Some y)) ≡ Some x → ⊥
        go None f = grind (arith, f)
        go (Some y) f = row y (y.process == p) refl f

    pub keeps_reap : OfProcess p (after_here (Events.Reap q) p h).side (after_here (Events.Reap q) p h).node workers ring
    unfolding reap
    keeps_reap =
        let e = w.to_linux in
        record {
          covered = record {
            mirror_rows = λ i r f. absurd (let n = sym (at-none i) ∙ f in grind (arith, n));
            answers = each-empty (AnswerCovered (at no_rows) h.side.linux.cleared) h.side.to_linux e;
            not_ahead = k.covered.not_ahead;
            pin_rows = λ v x f. absurd (let n = sym (no-pinned v) ∙ f in grind (arith, n));
          };
          rounded = record {
            clears_are = k.rounded.clears_are;
            acks_are = k.rounded.acks_are;
            clear_of = k.rounded.clear_of;
            fetched = k.rounded.fetched;
            outside = k.rounded.outside;
            mirror_outside = λ i f. at-none i;
            pins_outside = k.rounded.pins_outside;
          };
          owned = not-owned h.side.round h.side.lwk.changing w.round (process_of h.node p) (process_of (process_ended p h.node) p) (at h.node.threads) (at (process_ended p h.node).threads) k.owned;
          served = k.served;
          answered = k.answered;
          calls = record { called = λ u x f own. absurd (gone u x f own); there = λ u c f. absurd (let n = sym (no-caller u) ∙ f in grind (arith, n)) };
          asked = k.asked;
          interrupts = each-empty (InterruptIs h.side.book.next (at h.side.book.rows) (at (process_ended p h.node).threads)) h.side.to_linux e;
          directions = k.directions;
          messages = record {
            placed = numbered-empty (Placed (at h.side.book.rows) (at (process_ended p h.node).threads) ring) (λ r. record { parts = λ j. tt; own = tt }) 0 h.side.to_linux e;
            only = numbered-empty (OnlyOwn (at h.side.book.rows) (at (process_ended p h.node).threads) ring (at h.side.lwk.callers)) (λ r t x c a b d f. tt) 0 h.side.to_linux e;
          };
          marked = k.marked;
        }

    -- ---- the step
    pub simulated_reap : h.born ≡ None → Simulated (Events.Reap q) p h
    unfolding reap
    simulated_reap none = simulated-one (Events.Reap q) p h (Steps.End q) refl (ap (OneSteps.may_end h.node) same ∙ w.ends) leads
      where
        memory : no_rows ≡ shown_memory no_rows h.frames
        memory = sym (each-none (shown_row h.frames) no_rows (λ i. at-none i))

        calls : no_rows ≡ each (shown_call (record h.side { lwk = record h.side.lwk { table = no_rows }; linux = record h.side.linux { mirror = no_rows } })) h.side.lwk.callers
        calls = sym (each-none (shown_call (record h.side { lwk = record h.side.lwk { table = no_rows }; linux = record h.side.linux { mirror = no_rows } })) h.side.lwk.callers no-caller)

        free : length h.free + count (shown_memory h.side.lwk.table h.frames) ≡ length (freed h.side.lwk.table h.free)
        free = ap (λ (n : ℕ). length h.free + n) (count-each (shown_row h.frames) h.side.lwk.table ∙ finmap.len-entries h.side.lwk.table) ∙ sym (length-freed (entries h.side.lwk.table) h.free)

        leads : OneSteps.after_here (Steps.End q) p (shown_here h) ≡ shown_here (reap p h)
        leads = λ i. record { own = record { memory = memory i; calls = calls i }; node = process_ended p h.node; free = free i; born = shown_born h.frames h.born }
