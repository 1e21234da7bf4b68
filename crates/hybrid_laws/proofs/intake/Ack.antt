-- Intake of an Ack, whatever the change: it keeps what holds of every process, and is the step VmFinish of the one-kernel machine.
use Rattle.kernel_model.specs.Steps as OneSteps
use Rattle.kernel_model.specs.declared.steps.Step.TheVariants as Steps
use Rattle.hybrid_model.specs.declared.events.Event.TheVariants as Events
use Rattle.file_model.specs.Errno.{ENOMEM}
use Rattle.hybrid_laws.proofs.intake.RoundOver.{keeps_round_over}
use Rattle.hybrid_laws.proofs.maps.Reading.{each-same}
use Rattle.hybrid_laws.proofs.memory.Effects.{length-dropped, outside_effect, shown_effect}
use Rattle.hybrid_laws.proofs.node.EventKeeps.{set_break-keeps}
use Rattle.hybrid_laws.proofs.node.Keeps.{Keeps, is_pinned, node-keeps}
use Rattle.hybrid_laws.proofs.node.Primitives.{finishes-free, then}
use Rattle.hybrid_laws.proofs.node.Threads.{thread-is}
use Rattle.hybrid_laws.proofs.states.Simulated.{simulated-one}
use Rattle.hybrid_laws.specs.OneProcess.{FramesOf}
use Rattle.hybrid_laws.specs.Simulated.{Simulated}
use Rattle.hybrid_model.specs.Coherence.{OfProcess, Owns, acked, acks}
use Rattle.hybrid_model.specs.Events.{after_here}
use Rattle.hybrid_model.specs.Globals.{HeapHolds}
use Rattle.hybrid_model.specs.Images.{image_here}
use Rattle.hybrid_model.specs.Intake.{image_of_intake}
use Rattle.hybrid_model.specs.Intake.{change_made_of, changed, intake, round_over, take_ack}
use Rattle.hybrid_model.specs.OneProcess.{memory_here, set_break, space_here}
use Rattle.hybrid_model.specs.Pairs.{Here, with_side}
use Rattle.hybrid_model.specs.Shown.{shown_born, shown_call, shown_here}
use Rattle.hybrid_model.specs.Sides.{Round, Row, Side}
use Rattle.hybrid_model.specs.Spaces.{Space, after_effect, drop_page, shown_memory}
use Rattle.hybrid_model.specs.Tallies.{Reads, tally}
use Rattle.ikc_ring.specs.declared.Msg.TheVariants.{Ack}
use Rattle.ikc_ring.specs.declared.Msg.{Msg}
use Rattle.isa_model.specs.Memory.{Memory}
use Rattle.kernel_model.specs.MemoryCalls.{answer_of_change, closing_range, count_present, effect_of, exceeds, most_heap, nothing, refusal_at_end}
use Rattle.kernel_model.specs.Nodes.{Node, Process, Thread, change_in, process_of, thread_of}
use Rattle.kernel_model.specs.Pages.{page_end, page_number, page_size, pages_count, range}
use Rattle.kernel_model.specs.Spaces.{each_in}
use Rattle.kernel_model.specs.Traps.{finishes}
use Rattle.kernel_model.specs.declared.Change.TheVariants.{Brk, Map as ChangeMap, Protect, Unmap}
use Rattle.kernel_model.specs.declared.Change.{Change}
use Rattle.mck_word.specs.Identifiers.{pid, tid}
use Rattle.mck_word.specs.Maps.{Map, at, each}
use Rattle.mck_word.specs.Pages.{in_range}
use Rattle.mck_word.specs.Words.{refused}
use Rattle.mck_word.specs.declared.PageRange.{PageRange}
use Rattle.std.proofs.Common.{ap, arith, refl, subst, sym, ◌∙◌}
use Rattle.std.proofs.lemmas.Bool.Decides.{nat_tests}
use Rattle.std.specs.Prelude.{Bool, List, None, Option, Some, [], cond, false, length, nat_lt, pos, true, unwrap_or, ℕ, ℤ, ◌%◌, ◌+◌, ◌-◌, ◌<◌, ◌==◌, ◌∷◌, ◌≡◌, ◌≢◌, ◌≤◌}

-- ---- the effect of a change that is made at the end of a round
-- a break that falls: no page is added, and the dropped ones lie below the heap's limit
pub falls : (a b : ℕ) → a < b → page_end a ≤ page_end b
falls a b l = omega (arith, l)

pub below-limit : (b base : ℕ) → base % page_size ≡ 0 → b ≤ base + most_heap → page_end b ≤ page_number (base + most_heap)
below-limit b base a l = omega (arith, a, l)

pub not-none : {V : Type 0} (b : Bool) (x : V) → cond b (Some x) None ≡ None → b ≡ false
not-none true x e = absurd (grind (arith, e))
not-none false x e = refl

pub is-none : {V : Type 0} (b : Bool) (x : V) → cond b None (Some x) ≡ None → b ≡ true
is-none true x e = refl
is-none false x e = absurd (grind (arith, e))

in-nothing : (j : ℕ) → in_range nothing j ≡ false
in-nothing j = grind (arith, nat_tests)

module _ (x : Process) (heap : HeapHolds x) where
  -- what the change does lies in the range that its round closes
  pub in-closing : (m : Memory) (free : ℕ) (c : Change) → refusal_at_end x m free c ≡ None → (j : ℕ) → in_range (closing_range x c) j ≡ false
      → (in_range (effect_of x c).dropped j ≡ false) × (in_range (effect_of x c).added j ≡ false) × (in_range (effect_of x c).protected j ≡ false)
  in-closing m free (ChangeMap r rights) none j o = (o, o, in-nothing j)
  in-closing m free (Unmap r) none j o = (o, in-nothing j, in-nothing j)
  in-closing m free (Protect r rights) none j o = (in-nothing j, in-nothing j, o)
  in-closing m free (Brk a) none j o =
      let l : a < x.program_break = (let t = is-none (nat_lt a x.program_break) (pos x.program_break) none in grind (arith, nat_tests, t)) in
      let f = falls a x.program_break l in
      let g = below-limit x.program_break x.heap_base heap.aligned heap.below in
      (narrower (page_end a) (page_end x.program_break) (page_number (x.heap_base + most_heap)) g o, empty (page_end x.program_break) (page_end a) f, in-nothing j)
    where
      narrower : (lo mid hi : ℕ) → mid ≤ hi → in_range (range lo hi) j ≡ false → in_range (range lo mid) j ≡ false
      narrower lo mid hi l o = grind (arith, nat_tests, l, o)

      empty : (lo hi : ℕ) → hi ≤ lo → in_range (range lo hi) j ≡ false
      empty lo hi l = grind (arith, nat_tests, l)

-- and the frames suffice for it
pub fits_at_end : (x : Process) (sp : Space) (c : Change) → refusal_at_end x (shown_memory sp.table sp.frames) (length sp.free) c ≡ None → (effect_of x c).added.hi - (effect_of x c).added.lo ≤ length (each_in drop_page (effect_of x c).dropped sp).free
fits_at_end x sp (ChangeMap r rights) none =
    let e = not-none (exceeds (shown_memory sp.table sp.frames) (length sp.free) r) (refused ENOMEM) none in
    let d = length-dropped r sp in
    enough (length sp.free + count_present (shown_memory sp.table sp.frames) r) (pages_count r) e d
  where
    enough : (n k : ℕ) → nat_lt n k ≡ false → length (each_in drop_page r sp).free ≡ n → k ≤ length (each_in drop_page r sp).free
    enough n k e d = grind (arith, nat_tests, e, d)
fits_at_end x sp (Unmap r) none = omega arith
fits_at_end x sp (Protect r rights) none = omega arith
fits_at_end x sp (Brk a) none =
    let l : a < x.program_break = (let t = is-none (nat_lt a x.program_break) (pos x.program_break) none in grind (arith, nat_tests, t)) in
    let f = falls a x.program_break l in
    less (page_end a) (page_end x.program_break) f
  where
    less : (u v : ℕ) → u ≤ v → u - v ≤ length (each_in drop_page (range (page_end a) (page_end x.program_break)) sp).free
    less u v l = omega (arith, l)

-- ---- what holds where an Ack stands
pub record AckStands (p : ℕ) (h : Here) : Type 0 where
  pub round : Round
  pub is : h.side.round ≡ Some round
  pub thread : ℕ
  pub changing : h.side.lwk.changing ≡ Some thread
  pub owns : Owns (process_of h.node p) (at h.node.threads) p thread round.1

pub ack-stands : (p : ℕ) (h : Here) (workers : ℕ) (ring : ℕ → ℕ) → OfProcess p h.side h.node workers ring → (rest : List Msg) → h.side.to_lwk ≡ Ack ∷ rest → AckStands p h
ack-stands p h workers ring k rest first = go h.side.round refl h.side.lwk.changing refl
  where
    acks-are : tally acks (Ack ∷ rest) ≡ acked h.side.round
    acks-are = ap (tally acks) (sym first) ∙ k.rounded.acks_are

    go : (o : Option Round) → h.side.round ≡ o → (q : Option ℕ) → h.side.lwk.changing ≡ q → AckStands p h
    go None e q f = absurd (let a = rw e at acks-are in omega (arith, a))
    go (Some r) e None f = absurd (rw (e, f) at k.owned)
    go (Some r) e (Some t) f = record { round = r; is = e; thread = t; changing = f; owns = rw (e, f) at k.owned }

module _ (p : ℕ) (h : Here) (workers : ℕ) (ring : ℕ → ℕ) (k : OfProcess p h.side h.node workers ring) (rest : List Msg) (first : h.side.to_lwk ≡ Ack ∷ rest) (heap : HeapHolds (process_of h.node p)) where
  abbrev pub w : AckStands p h
  w = ack-stands p h workers ring k rest first

  abbrev pub t : ℕ
  t = w.thread

  abbrev pub c : Change
  c = w.owns.change

  abbrev pub x : Process
  x = process_of h.node p

  abbrev pub over : Here
  over = with_side h (round_over rest h.side)

  -- what is taken, once thread and change are known
  pub ack-is : take_ack p rest h ≡ changed p t c (refusal_at_end x (memory_here h) (length h.free) c) over
  unfolding take_ack
  ack-is =
      let a = w.changing in
      let there = w.owns.there in
      let does = w.owns.does in
      ap (λ (o : Option ℕ). change_made_of p (unwrap_or o 0) (change_in (thread_of h.node (unwrap_or o 0)).does) over) a
      ∙ ap (λ (o : Option Change). change_made_of p t o over) (ap (λ (z : Thread). change_in z.does) (thread-is h.node t w.owns.thread there) ∙ ap change_in does)

  one-free : (t == t) ≡ true
  one-free = grind (arith, nat_tests)

  abbrev pub refused_node : ℤ → Node
  refused_node answer = finishes t answer h.node

  abbrev pub made_node : Node
  made_node = finishes t (answer_of_change c) (set_break p (effect_of x c).program_break h.node)

  made-keeps : (q : ℕ) → Keeps q (λ u. u == t) h.node made_node
  made-keeps q = then q (λ u. u == t) (set_break-keeps q (λ u. u == t) h.node p (effect_of x c).program_break) (finishes-free q (λ u. u == t) (set_break p (effect_of x c).program_break h.node) t (answer_of_change c) one-free)

  -- the process itself
  pub keeps-changed : (o : Option ℤ) → refusal_at_end x (memory_here h) (length h.free) c ≡ o → OfProcess p (changed p t c o over).side (changed p t c o over).node workers ring
  keeps-changed (Some answer) e = keeps_round_over p h.side h.node (refused_node answer) workers ring k rest first w.round w.is t w.changing h.side.lwk.table (λ i o. refl) (finishes-free p (λ u. u == t) h.node t answer one-free)
  keeps-changed None e = keeps_round_over p h.side h.node made_node workers ring k rest first w.round w.is t w.changing (after_effect (effect_of x c) (space_here h)).table agree (made-keeps p)
    where
      agree : (i : ℕ) → in_range w.round.1 i ≡ false → at (after_effect (effect_of x c) (space_here h)).table i ≡ at h.side.lwk.table i
      agree i o = let f = in-closing x heap (memory_here h) (length h.free) c e i (ap (λ (r : PageRange). in_range r i) w.owns.range_is ∙ o) in outside_effect (effect_of x c) i (space_here h) f.0 f.1 f.2

  pub keeps_ack : OfProcess p (take_ack p rest h).side (take_ack p rest h).node workers ring
  keeps_ack = subst (λ (y : Here). OfProcess p y.side y.node workers ring) (sym ack-is) (keeps-changed (refusal_at_end x (memory_here h) (length h.free) c) refl)

  -- another process
  idle-other : (q : ℕ) → p ≢ q → (u : ℕ) (y : Thread) → (u == t) ≡ true → at h.node.threads u ≡ Some y → y.process ≡ q → is_pinned y.does ≡ false
  idle-other q other u y e f own = absurd (other (
      let g : u ≡ t = grind (arith, nat_tests, e) in
      let there = w.owns.there in
      let o = sym there ∙ ap (at h.node.threads) (sym g) ∙ f in
      let s : w.owns.thread ≡ y = cc in sym w.owns.own ∙ ap (λ (z : Thread). z.process) s ∙ own))

  pub others-changed : (o : Option ℤ) (q : ℕ) (side : Side) (workers : ℕ) (ring : ℕ → ℕ) → p ≢ q → OfProcess q side h.node workers ring → OfProcess q side (changed p t c o over).node workers ring
  others-changed (Some answer) q side workers ring other y = node-keeps q (λ u. u == t) side h.node (refused_node answer) workers ring (finishes-free q (λ u. u == t) h.node t answer one-free) (idle-other q other) y
  others-changed None q side workers ring other y = node-keeps q (λ u. u == t) side h.node made_node workers ring (made-keeps q) (idle-other q other) y

  pub others_ack : (q : ℕ) (side : Side) (workers : ℕ) (ring : ℕ → ℕ) → p ≢ q → OfProcess q side h.node workers ring → OfProcess q side (take_ack p rest h).node workers ring
  others_ack q side workers ring other y = subst (λ (z : Here). OfProcess q side z.node workers ring) (sym ack-is) (others-changed (refusal_at_end x (memory_here h) (length h.free) c) q side workers ring other y)

  -- ---- the step
  pub may_finish_change : OneSteps.may_here (Steps.VmFinish (tid t)) (shown_here h) ≡ true
  may_finish_change = let there = w.owns.there in let does = w.owns.does in rw (there, does) refl

  pub calls-stay : (table : Map Row) → each (shown_call h.side) h.side.lwk.callers ≡ each (shown_call (record h.side { lwk = record h.side.lwk { table = table; changing = None }; round = None; to_lwk = rest })) h.side.lwk.callers
  calls-stay table = each-same (shown_call h.side) (shown_call (record h.side { lwk = record h.side.lwk { table = table; changing = None }; round = None; to_lwk = rest })) h.side.lwk.callers (λ u d e. rw first refl)

  finish-is : OneSteps.after_here (Steps.VmFinish (tid t)) p (shown_here h) ≡ OneSteps.one_changed p t c (refusal_at_end x (memory_here h) (length h.free) c) (shown_here h)
  unfolding OneSteps.vm_finish
  finish-is = let there = w.owns.there in let does = w.owns.does in
      ap (λ (o : Option Change). OneSteps.vm_finish_of p t o (shown_here h)) (ap (λ (z : Thread). change_in z.does) (thread-is h.node t w.owns.thread there) ∙ ap change_in does)

  module _ (tables : ℕ → Reads Row) (frames : FramesOf tables p (space_here h)) (none : h.born ≡ None) where
    shown-changed : (o : Option ℤ) → refusal_at_end x (memory_here h) (length h.free) c ≡ o → OneSteps.one_changed p t c o (shown_here h) ≡ shown_here (changed p t c o over)
    shown-changed (Some answer) e = let a = calls-stay h.side.lwk.table in λ i. record { own = record { memory = memory_here h; calls = a i }; node = refused_node answer; free = length h.free; born = shown_born h.frames h.born }
    shown-changed None e =
        let s = shown_effect tables p (effect_of x c) (space_here h) (fits_at_end x (space_here h) c e) frames in
        let a = calls-stay (after_effect (effect_of x c) (space_here h)).table in
        let b = ap (shown_born h.frames) none ∙ sym (ap (shown_born (after_effect (effect_of x c) (space_here h)).frames) none) in
        λ i. record { own = record { memory = (s i).memory; calls = a i }; node = made_node; free = (s i).free; born = b i }

    pub simulated_ack : Simulated (Events.Intake (pid p)) p h
    simulated_ack = simulated-one (Events.Intake (pid p)) p h (Steps.VmFinish (tid t)) image may_finish_change leads
      where
        image : image_here (Events.Intake (pid p)) p h ≡ Steps.VmFinish (tid t) ∷ []
        image = ap (λ (ms : List Msg). image_of_intake ms h.side) first ∙ ap (λ (o : Option ℕ). Steps.VmFinish (tid (unwrap_or o 0)) ∷ []) w.changing

        leads : OneSteps.after_here (Steps.VmFinish (tid t)) p (shown_here h) ≡ shown_here (intake p h.side.to_lwk h)
        leads = finish-is ∙ shown-changed (refusal_at_end x (memory_here h) (length h.free) c) refl ∙ ap shown_here (sym ack-is) ∙ ap (λ (ms : List Msg). shown_here (intake p ms h)) (sym first)

  pub keeps_intake_ack : OfProcess p (after_here (Events.Intake (pid p)) p h).side (after_here (Events.Intake (pid p)) p h).node workers ring
  keeps_intake_ack = subst (λ (ms : List Msg). OfProcess p (intake p ms h).side (intake p ms h).node workers ring) (sym first) keeps_ack

  pub others_intake_ack : (q : ℕ) (side : Side) (workers : ℕ) (ring : ℕ → ℕ) → p ≢ q → OfProcess q side h.node workers ring → OfProcess q side (after_here (Events.Intake (pid p)) p h).node workers ring
  others_intake_ack q side workers ring other y = subst (λ (ms : List Msg). OfProcess q side (intake p ms h).node workers ring) (sym first) (others_ack q side workers ring other y)
