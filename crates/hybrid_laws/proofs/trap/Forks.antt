-- A trap that makes a process: it keeps what holds of every process, the new one with them, and the one-kernel machine does the same.
use Rattle.kernel_model.specs.Steps as OneSteps
use Rattle.std.specs.FinMap as finmap
use Rattle.hybrid_laws.proofs.maps.Reading.{Each-map, each-same}
use Rattle.hybrid_laws.proofs.memory.Copying.{bytes_copied, frames_copied, length_copied, put_all, put_all-entries, shown_copied}
use Rattle.hybrid_laws.proofs.memory.Effects.{own-apart, own-not-free}
use Rattle.hybrid_laws.proofs.memory.NewSide.{new_side-keeps, no-at}
use Rattle.hybrid_laws.proofs.memory.Shapes.{shown-back, stored_all-rights}
use Rattle.hybrid_laws.proofs.memory.Written.{each-entry, other-frames}
use Rattle.hybrid_laws.proofs.node.EventKeeps.{past_ecall-keeps}
use Rattle.hybrid_laws.proofs.node.Keeps.{Keeps, ThreadKeeps, is_pinned, node-keeps, thread-then}
use Rattle.hybrid_laws.proofs.node.Primitives.{answered-free, at-change, put-new}
use Rattle.hybrid_laws.proofs.reap.Reap.{count-each, each-none}
use Rattle.hybrid_laws.proofs.trap.Says.{ForkSays}
use Rattle.hybrid_laws.specs.OneProcess.{FramesOf, with_table}
use Rattle.hybrid_model.specs.Coherence.{OfProcess}
use Rattle.hybrid_model.specs.Globals.{Frames}
use Rattle.hybrid_model.specs.OneProcess.{memory_here, space_here, view_here}
use Rattle.hybrid_model.specs.Trap.{trapped}
use Rattle.hybrid_model.specs.Pairs.{Here}
use Rattle.hybrid_model.specs.Shown.{shown_call, shown_here}
use Rattle.hybrid_model.specs.Sides.{Row, Side, new_side, no_lwk}
use Rattle.hybrid_model.specs.Spaces.{Space, copied_pages, shown_memory, shown_row, written_back}
use Rattle.hybrid_model.specs.Tallies.{Reads}
use Rattle.isa_model.specs.Memory.{Memory, Page}
use Rattle.kernel_model.specs.CloneCalls.{child_thread, with_child}
use Rattle.kernel_model.specs.Nodes.{Node, Thread, is_called, set_pc, thread_of}
use Rattle.kernel_model.specs.Pages.{zero_page}
use Rattle.kernel_model.specs.Signals.{Store, View, stored_all}
use Rattle.kernel_model.specs.Traps.{Forks, past_ecall}
use Rattle.mck_word.specs.MapLaws.{at-none}
use Rattle.mck_word.specs.Maps.{Map, at, count, each, entries, no_rows}
use Rattle.std.proofs.Common.{ap, arith, refl, subst, sym, ◌∙◌}
use Rattle.std.proofs.lemmas.Bool.Decides.{nat_tests}
use Rattle.std.specs.Prelude.{Bool, List, None, Option, Some, cond, false, if◌then◌else◌, is_some, length, nat_lt, option_map, pos, true, unwrap_or, ℕ, ◌+◌, ◌-◌, ◌==◌, ◌≡◌, ◌≢◌, ◌≤◌}

-- fewer rows
pub frames-fewer : (tables tables' : ℕ → Reads Row) (free : List ℕ) → ((q i : ℕ) (r : Row) → tables' q i ≡ Some r → tables q i ≡ Some r) → Frames tables free → Frames tables' free
frames-fewer tables tables' free f c = record {
  not_free = λ q i r e. c.not_free q i r (f q i r e);
  apart = λ q i r q' i' r' e e' g. c.apart q i r q' i' r' (f q i r e) (f q' i' r' e') g;
  rising = c.rising;
}

-- the frames of other rows keep their bytes where a memory is written back
pub written-other : (table : Map Row) (m : Memory) (frames : Map (List ℕ)) (f : ℕ) → ((j : ℕ) (r : Row) → at table j ≡ Some r → (f == r.0.0) ≡ false) → at (written_back table m frames) f ≡ at frames f
unfolding written_back
written-other table m frames f h = other-frames (entries table) m frames f (Each-map (λ (e : ℕ × Row). at table e.0 ≡ Some e.1) (λ (e : ℕ × Row). (f == e.1.0.0) ≡ false) (entries table) (λ e k. h e.0 e.1 k) (each-entry table))

module _ (p t : ℕ) (h : Here) (v : View) (child : ℕ) (stores : List Store) (says : ForkSays t (length h.free) (view_here h) v child) where
  -- other processes
  pub others_forks : (q : ℕ) (free : ℕ → Bool) (side : Side) (workers : ℕ) (ring : ℕ → ℕ) → (q ≢ child → Keeps q free h.node v.node) → ((u : ℕ) (y : Thread) → free u ≡ true → at h.node.threads u ≡ Some y → y.process ≡ q → is_pinned y.does ≡ false)
      → q ≢ child → OfProcess q side h.node workers ring → OfProcess q side (trapped p t (Forks v child stores) h).node workers ring
  others_forks q free side workers ring keeps idle other k = node-keeps q free side h.node v.node workers ring (keeps other) idle k

  -- the new one
  pub born_forks : (workers : ℕ) (ring : ℕ → ℕ) → at h.node.threads h.node.next_number ≡ None → OfProcess child (new_side 0) h.node workers ring → (table : Map Row) → OfProcess child (record (new_side h.rings) { lwk = record no_lwk { table = table } }) v.node workers ring
  born_forks workers ring fresh k table = new_side-keeps child h.rings table v.node workers ring (λ u y e own. go u y e own (is_called y.does) refl)
    where
      all : ℕ → Bool
      all u = true

      behind : Node
      behind = (past_ecall t (view_here h)).node

      made : Node
      made = with_child t child says.flags says.stack says.tls says.child_tid behind

      new-there : at behind.threads child ≡ None
      new-there =
          let n = says.number in
          ap (at behind.threads) n ∙ at-change h.node.threads t (λ (y : Thread). record y { regs = set_pc (y.regs.pc + 4) y.regs }) h.node.next_number ∙ row (h.node.next_number == t) refl
        where
          row : (b : Bool) → (h.node.next_number == t) ≡ b → cond b (option_map (λ (y : Thread). record y { regs = set_pc (y.regs.pc + 4) y.regs }) (at h.node.threads t)) (at h.node.threads h.node.next_number) ≡ None
          row true f = let g : h.node.next_number ≡ t = grind (arith, nat_tests, f) in let z : at h.node.threads t ≡ None = ap (at h.node.threads) (sym g) ∙ fresh in rw z refl
          row false f = fresh

      rows : (u : ℕ) → ThreadKeeps child true (at h.node.threads u) (at v.node.threads u)
      rows u = thread-then child true (at h.node.threads u) (at behind.threads u) (at v.node.threads u) ((past_ecall-keeps child all h.node t).threads u)
          (thread-then child true (at behind.threads u) (at made.threads u) (at v.node.threads u)
          (put-new child all behind.threads child (child_thread (thread_of behind t) child says.flags says.stack says.tls says.child_tid) new-there refl u)
          (subst (λ (m : Node). ThreadKeeps child true (at made.threads u) (at m.threads u)) (sym says.node) ((answered-free child all made t (pos child) refl).threads u)))

      go : (u : ℕ) (y : Thread) → at v.node.threads u ≡ Some y → y.process ≡ child → (b : Bool) → is_called y.does ≡ b → b ≡ false
      go u y e own false f = refl
      go u y e own true f = absurd (
          let x = (rows u).called y e own f in
          let c = sym x.3 ∙ k.calls.called u x.0 x.1 x.2 ∙ ap is_some (at-none u) in grind (arith, c))

  -- ---- the step
  module _ (tables : ℕ → Reads Row) (frames : FramesOf tables p (space_here h)) (other : p ≢ child) (none : h.born ≡ None) where
    abbrev table : Map Row
    table = h.side.lwk.table

    abbrev stored : Memory
    stored = stored_all v.stores (memory_here h)

    abbrev pub frames1 : Map (List ℕ)
    frames1 = written_back table stored h.frames

    first : shown_memory table frames1 ≡ stored
    first = shown-back table h.frames stored (own-apart tables p (space_here h) frames) (stored_all-rights v.stores (memory_here h))

    abbrev pub begins : Space
    begins = record { table = no_rows; frames = frames1; free = h.free }

    abbrev pub with_p : ℕ → Reads Row
    with_p = with_table tables p (at table)

    begins-frames : FramesOf with_p child begins
    begins-frames = frames-fewer with_p (with_table with_p child (at no_rows)) h.free fewer frames
      where
        fewer : (q i : ℕ) (r : Row) → with_table with_p child (at no_rows) q i ≡ Some r → with_p q i ≡ Some r
        fewer q i r e = go (q == child) e
          where
            go : (b : Bool) → (if b then at no_rows else with_p q) i ≡ Some r → with_p q i ≡ Some r
            go true k = absurd (no-at i r k)
            go false k = k

    abbrev pub pages : List (ℕ × Page)
    pages = entries (shown_memory table frames1)

    pub count-pages : length pages ≡ count table
    count-pages = sym (finmap.len-entries (shown_memory table frames1)) ∙ count-each (shown_row frames1) table

    pub enough : length pages ≤ length h.free
    enough =
        let e = says.enough in
        let a = count-pages in
        let b = count-each (shown_row h.frames) table in
        let l = not-less (length h.free) (count (memory_here h)) e in
        omega (arith, a, b, l)
      where
        not-less : (n k : ℕ) → nat_lt n k ≡ false → k ≤ n
        not-less n k e = grind (arith, nat_tests, e)

    abbrev pub copied : Space
    copied = copied_pages pages begins

    pub copied-frames : FramesOf with_p child copied
    copied-frames = frames_copied with_p child pages begins enough begins-frames

    pub copied-shown : shown_memory copied.table copied.frames ≡ shown_memory table frames1
    copied-shown = shown_copied with_p child pages begins enough begins-frames ∙ ap (put_all pages) (each-none (shown_row frames1) no_rows (λ i. at-none i)) ∙ put_all-entries (shown_memory table frames1)

    abbrev pub frames3 : Map (List ℕ)
    frames3 = written_back copied.table (stored_all stores (shown_memory copied.table copied.frames)) copied.frames

    -- the caller's rows show what they showed
    caller-row : (j : ℕ) (r : Row) → at table j ≡ Some r → at frames3 r.0.0 ≡ at frames1 r.0.0
    caller-row j r e =
        written-other copied.table (stored_all stores (shown_memory copied.table copied.frames)) copied.frames r.0.0 (λ i x f. differ i x f (r.0.0 == x.0.0) refl)
        ∙ bytes_copied with_p child pages r.0.0 begins enough (own-not-free tables p (space_here h) frames j r e)
      where
        at-p : with_table with_p child (at copied.table) p j ≡ Some r
        at-p =
            let a : (p == child) ≡ false = grind (arith, nat_tests, other) in
            let b : (p == p) ≡ true = grind (arith, nat_tests) in
            ap (λ (c : Bool). (if c then at copied.table else with_p p) j) a ∙ ap (λ (c : Bool). (if c then at table else tables p) j) b ∙ e

        at-child : (i : ℕ) (x : Row) → at copied.table i ≡ Some x → with_table with_p child (at copied.table) child i ≡ Some x
        at-child i x f = let b : (child == child) ≡ true = grind (arith, nat_tests) in ap (λ (c : Bool). (if c then at copied.table else with_p child) i) b ∙ f

        differ : (i : ℕ) (x : Row) → at copied.table i ≡ Some x → (b : Bool) → (r.0.0 == x.0.0) ≡ b → b ≡ false
        differ i x f false g = refl
        differ i x f true g =
            let s : r.0.0 ≡ x.0.0 = grind (arith, nat_tests, g) in
            absurd (other (copied-frames.apart p j r child i x at-p (at-child i x f) (λ k. record { 0 = s k })).0)

    caller-memory : shown_memory table frames3 ≡ stored
    caller-memory = each-same (shown_row frames3) (shown_row frames1) table (λ j r e. (let b = ap (λ (o : Option (List ℕ)). unwrap_or o zero_page) (caller-row j r e) in λ k. record { rights = r.1; bytes = b k })) ∙ first

    child-memory : shown_memory copied.table frames3 ≡ stored_all stores stored
    child-memory = shown-back copied.table copied.frames (stored_all stores (shown_memory copied.table copied.frames)) (own-apart with_p child copied copied-frames) (stored_all-rights stores (shown_memory copied.table copied.frames))
        ∙ ap (stored_all stores) (copied-shown ∙ first)

    free-left : length h.free - count (memory_here h) ≡ length copied.free
    free-left =
        let a = length_copied with_p child pages begins enough in
        let b = count-pages in
        let c = count-each (shown_row h.frames) table in
        omega (arith, a, b, c)

    pub shown_forks : OneSteps.one_trapped p t (Forks v child stores) (shown_here h) ≡ shown_here (trapped p t (Forks v child stores) h)
    shown_forks =
        let a = sym caller-memory in
        let b = sym child-memory in
        let f = free-left in
        let c = sym (each-none (shown_call (record (new_side h.rings) { lwk = record no_lwk { table = copied.table } })) no_rows (λ i. at-none i)) in
        λ i. record {
          own = record { memory = a i; calls = each (shown_call h.side) h.side.lwk.callers };
          node = v.node;
          free = f i;
          born = Some (child, record { memory = b i; calls = c i });
        }
