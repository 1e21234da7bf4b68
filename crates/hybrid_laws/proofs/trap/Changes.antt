-- A trap that changes the memory at once: each page that was there keeps its frame and its rights, or gets more; so it keeps what holds.
use Rattle.kernel_model.specs.Steps as OneSteps
use Rattle.hybrid_laws.proofs.maps.Reading.{EachRing-map}
use Rattle.hybrid_laws.proofs.memory.Adding.{add_other, outside_range, protect_other, protect_own}
use Rattle.hybrid_laws.proofs.memory.Dropping.{drop_other}
use Rattle.hybrid_laws.proofs.memory.Effects.{length-dropped, shown_effect}
use Rattle.hybrid_laws.proofs.node.EventKeeps.{past_ecall-keeps, set_break-keeps}
use Rattle.hybrid_laws.proofs.node.Keeps.{Keeps, is_pinned, node-keeps}
use Rattle.hybrid_laws.proofs.node.Primitives.{finishes-free, then}
use Rattle.hybrid_laws.proofs.node.Threads.{idle-one, thread-changed}
use Rattle.hybrid_laws.proofs.trap.Begins.{Traps}
use Rattle.hybrid_laws.proofs.trap.DecideSays.{DecisionSays, NowSays, decide-says}
use Rattle.hybrid_laws.specs.OneProcess.{FramesOf}
use Rattle.hybrid_model.specs.Coherence.{AnswerCovered, Covered, Covers, Includes, OfProcess}
use Rattle.hybrid_model.specs.OneProcess.{memory_here, set_break, space_here, view_here}
use Rattle.hybrid_model.specs.Trap.{trapped}
use Rattle.hybrid_model.specs.Pairs.{Here}
use Rattle.hybrid_model.specs.Shown.{shown_born, shown_call, shown_here}
use Rattle.hybrid_model.specs.Sides.{Row, Side}
use Rattle.hybrid_model.specs.Spaces.{Space, add_page, after_effect, drop_page, protect_page, shown_memory, shown_row}
use Rattle.hybrid_model.specs.Tallies.{Reads}
use Rattle.ikc_ring.specs.declared.Msg.TheVariants.{Ack, Answer, Clear, Fault, Interrupt, Reply, Request}
use Rattle.ikc_ring.specs.declared.Msg.{Msg}
use Rattle.isa_model.specs.Memory.{allows}
use Rattle.kernel_model.specs.MemoryCalls.{Decision, Effect, Now, answer_of_change, decide, effect_of, lacks_of, lessens}
use Rattle.kernel_model.specs.Nodes.{Node, Process, Thread, no_thread, process_of, set_pc, thread_of}
use Rattle.kernel_model.specs.Pages.{pages_count, range}
use Rattle.kernel_model.specs.Spaces.{each_in, each_page}
use Rattle.kernel_model.specs.Traps.{Changes, past_ecall}
use Rattle.kernel_model.specs.declared.Change.{Change}
use Rattle.mck_flags.specs.declared.rights.Rights.{Rights}
use Rattle.mck_word.specs.MapLaws.{at-collect}
use Rattle.mck_word.specs.Maps.{and_then, at, each}
use Rattle.mck_word.specs.Pages.{in_range}
use Rattle.mck_word.specs.declared.Access.TheVariants.{Exec, Read as ReadAccess, Write as WriteAccess}
use Rattle.mck_word.specs.declared.Access.{Access}
use Rattle.mck_word.specs.declared.PageRange.{PageRange}
use Rattle.page_pins.specs.declared.Pin.{Pin}
use Rattle.std.proofs.Common.{ap, arith, refl, subst, sym, ◌∙◌}
use Rattle.std.proofs.lemmas.Bool.Decides.{nat_tests}
use Rattle.std.specs.Prelude.{Bool, List, None, Option, Some, false, length, not, suc, true, unwrap_or, zero, ℕ, ◌&&◌, ◌+◌, ◌-◌, ◌==◌, ◌||◌, ◌≡◌, ◌≤◌}
use Rattle.system_calls.specs.declared.MemoryCall.{MemoryCall}

-- each row stays at its frame with its rights or more
abbrev pub Grows : Reads Row → Reads Row → Type 0
Grows table table' = (i : ℕ) (r : Row) → table i ≡ Some r → (x : Row) × (table' i ≡ Some x) × (x.0 ≡ r.0) × Includes x.1 r.1

module _ (table table' mirror : Reads Row) (pins : Reads Pin) (begun cleared : ℕ) (rings : List (List Msg)) (grows : Grows table table') where
  covers-grows : (i : ℕ) (r : Row) → Covers table i r → Covers table' i r
  covers-grows i r k =
      let x = grows i k.row k.there in
      record { row = x.0; there = x.1; frame = x.2 ∙ k.frame; rights = λ a e. x.3 a (k.rights a e) }

  answer-grows : (m : Msg) → AnswerCovered table cleared m → AnswerCovered table' cleared m
  answer-grows (Answer w page number (Some r)) h = λ l. covers-grows page r (h l)
  answer-grows (Answer w page number None) h = tt
  answer-grows (Request c) h = tt
  answer-grows (Clear r) h = tt
  answer-grows (Interrupt n place) h = tt
  answer-grows (Reply n code) h = tt
  answer-grows Ack h = tt
  answer-grows (Fault w i a) h = tt

  pub covered-grows : Covered table mirror pins begun cleared rings → Covered table' mirror pins begun cleared rings
  covered-grows c = record {
    mirror_rows = λ i r e. covers-grows i r (c.mirror_rows i r e);
    answers = EachRing-map (AnswerCovered table cleared) (AnswerCovered table' cleared) rings answer-grows c.answers;
    not_ahead = c.not_ahead;
    pin_rows = λ w x e. covers-grows x.page (x.frame, x.rights) (c.pin_rows w x e);
  }

-- rights that do not lessen others include them
pub includes-of : (old new : Rights) → lessens old new ≡ false → Includes new old
includes-of old new e a f = go a f (three (lacks_of old new ReadAccess) (lacks_of old new WriteAccess) (lacks_of old new Exec) e)
  where
    three : (x y z : Bool) → (x || y || z) ≡ false → (x ≡ false) × (y ≡ false) × (z ≡ false)
    three false false false k = (refl, refl, refl)
    three false false true k = absurd (grind (arith, k))
    three false true z k = absurd (grind (arith, k))
    three true y z k = absurd (grind (arith, k))

    one : (b c : Bool) → b ≡ true → (b && not c) ≡ false → c ≡ true
    one b true k l = refl
    one b false k l = absurd (grind (arith, k, l))

    go : (a : Access) → allows a old ≡ true → (lacks_of old new ReadAccess ≡ false) × (lacks_of old new WriteAccess ≡ false) × (lacks_of old new Exec ≡ false) → allows a new ≡ true
    go ReadAccess g k = one (allows ReadAccess old) (allows ReadAccess new) g k.0
    go WriteAccess g k = one (allows WriteAccess old) (allows WriteAccess new) g k.1
    go Exec g k = one (allows Exec old) (allows Exec new) g k.2

-- rights given to the pages of a range
protects-grow : (rights : Rights) (n low j : ℕ) (sp : Space) (r x : Row) → at sp.table j ≡ Some x → x.0 ≡ r.0 → Includes x.1 r.1 → (in_range (range low (low + n)) j ≡ true → Includes rights r.1)
    → (y : Row) × (at (each_page (protect_page rights) n low sp).table j ≡ Some y) × (y.0 ≡ r.0) × Includes y.1 r.1
protects-grow rights zero low j sp r x e f g h = (x, e, f, g)
protects-grow rights (suc n) low j sp r x e f g h = go (j == low) refl (λ y a b d. protects-grow rights n (suc low) j (protect_page rights low sp) r y a b d (λ k. h (wider n low j k)))
  where
    wider : (n low j : ℕ) → in_range (range (suc low) (suc low + n)) j ≡ true → in_range (range low (low + suc n)) j ≡ true
    wider n low j k = grind (arith, nat_tests, k)

    here : (n low : ℕ) → in_range (range low (low + suc n)) low ≡ true
    here n low = grind (arith, nat_tests)

    go : (b : Bool) → (j == low) ≡ b
        → ((y : Row) → at (protect_page rights low sp).table j ≡ Some y → y.0 ≡ r.0 → Includes y.1 r.1 → (z : Row) × (at (each_page (protect_page rights) n (suc low) (protect_page rights low sp)).table j ≡ Some z) × (z.0 ≡ r.0) × Includes z.1 r.1)
        → (z : Row) × (at (each_page (protect_page rights) n (suc low) (protect_page rights low sp)).table j ≡ Some z) × (z.0 ≡ r.0) × Includes z.1 r.1
    go false k i = i x (protect_other rights low j sp k ∙ e) f g
    go true k i =
        let s : j ≡ low = grind (arith, nat_tests, k) in
        i (x.0, rights) (subst (λ (v : ℕ). at (protect_page rights low sp).table v ≡ Some (x.0, rights)) (sym s) (protect_own rights low sp x (ap (at sp.table) (sym s) ∙ e))) f (h (subst (λ (v : ℕ). in_range (range low (low + suc n)) v ≡ true) (sym s) (here n low)))

-- a change that is made at once
module _ (x : Process) (c : Change) (sp : Space) (says : NowSays x (shown_memory sp.table sp.frames) (length sp.free) c) where
  abbrev e : Effect
  e = effect_of x c

  shown-at : (j : ℕ) (r : Row) → at sp.table j ≡ Some r → at (shown_memory sp.table sp.frames) j ≡ Some (shown_row sp.frames r)
  shown-at j r f = at-collect (λ k v. Some (shown_row sp.frames v)) sp.table j ∙ ap (λ o. and_then o (λ v. Some (shown_row sp.frames v))) f

  not-in : (q : PageRange) → ((j : ℕ) → in_range q j ≡ true → at (shown_memory sp.table sp.frames) j ≡ None) → (j : ℕ) (r : Row) → at sp.table j ≡ Some r → in_range q j ≡ false
  not-in q h j r f = go (in_range q j) refl
    where
      go : (b : Bool) → in_range q j ≡ b → in_range q j ≡ false
      go false g = g
      go true g = absurd (let n = sym (h j g) ∙ shown-at j r f in grind (arith, n))

  pub effect-grows : Grows (at sp.table) (at (after_effect e sp).table)
  effect-grows j r f =
      protects-grow e.rights (pages_count e.protected) e.protected.lo j (each_in (add_page e.rights) e.added (each_in drop_page e.dropped sp)) r r
      (outside_range (add_page e.rights) (add_other e.rights) e.added j (each_in drop_page e.dropped sp) (not-in e.added says.added j r f)
      ∙ outside_range drop_page drop_other e.dropped j sp (not-in e.dropped says.dropped j r f) ∙ f)
      refl (λ a k. k) (λ i. includes-of r.1 e.rights (says.rights j (shown_row sp.frames r) (within e.protected.lo e.protected.hi i) (shown-at j r f)))
    where
      within : (lo hi : ℕ) → in_range (range lo (lo + (hi - lo))) j ≡ true → in_range (range lo hi) j ≡ true
      within lo hi i = grind (arith, nat_tests, i)

  pub now-fits : e.added.hi - e.added.lo ≤ length (each_in drop_page e.dropped sp).free
  now-fits = let d = length-dropped e.dropped sp in let l = says.enough in omega (arith, d, l)

module _ (p t : ℕ) (h : Here) (x : Traps h.node t) (mine : x.thread.process ≡ p) (new : Node) (c : Change) (past : new ≡ (past_ecall t (view_here h)).node) (call : MemoryCall) (arguments : List ℕ)
    (decided : decide (process_of new (thread_of new t).process) (memory_here h) (length h.free) call arguments ≡ Now c) where
  abbrev one_free : ℕ → Bool
  one_free u = u == t

  abbrev pub changer : Process
  changer = process_of new p

  new-process : (thread_of new t).process ≡ p
  new-process =
      ap (λ (m : Node). (thread_of m t).process) past
      ∙ ap (λ (o : Option Thread). (unwrap_or o no_thread).process) (thread-changed h.node t (λ (y : Thread). record y { regs = set_pc (y.regs.pc + 4) y.regs }) x.thread x.there) ∙ mine

  pub says : NowSays changer (memory_here h) (length h.free) c
  says = subst (λ (d : Decision). DecisionSays changer (memory_here h) (length h.free) d) (ap (λ (q : ℕ). decide (process_of new q) (memory_here h) (length h.free) call arguments) (sym new-process) ∙ decided)
      (decide-says changer (memory_here h) (length h.free) call arguments)

  keeps : (q : ℕ) → Keeps q one_free h.node (trapped p t (Changes new c) h).node
  keeps q =
      let e : (t == t) ≡ true = grind (arith, nat_tests) in
      let b = (effect_of changer c).program_break in
      then q one_free (subst (Keeps q one_free h.node) (sym past) (past_ecall-keeps q one_free h.node t)) (then q one_free (set_break-keeps q one_free new p b) (finishes-free q one_free (set_break p b new) t (answer_of_change c) e))

  free-one : is_pinned x.thread.does ≡ false
  free-one = let s = x.stopped in rw s refl

  pub others_changes : (q : ℕ) (side : Side) (workers : ℕ) (ring : ℕ → ℕ) → OfProcess q side h.node workers ring → OfProcess q side (trapped p t (Changes new c) h).node workers ring
  others_changes q side workers ring k = node-keeps q one_free side h.node (trapped p t (Changes new c) h).node workers ring (keeps q) (idle-one q t h.node x.thread x.there free-one) k

  pub keeps_changes : (workers : ℕ) (ring : ℕ → ℕ) → OfProcess p h.side h.node workers ring → OfProcess p (trapped p t (Changes new c) h).side (trapped p t (Changes new c) h).node workers ring
  keeps_changes workers ring k =
      let y = others_changes p h.side workers ring k in
      record {
        covered = covered-grows (at h.side.lwk.table) (at (after_effect (effect_of changer c) (space_here h)).table) (at h.side.linux.mirror) (at h.side.linux.pins) h.side.lwk.begun h.side.linux.cleared h.side.to_linux
            (effect-grows changer c (space_here h) says) y.covered;
        rounded = y.rounded;
        owned = y.owned;
        served = y.served;
        answered = y.answered;
        calls = y.calls;
        asked = y.asked;
        interrupts = y.interrupts;
        directions = y.directions;
        messages = y.messages;
        marked = y.marked;
      }

  -- the memory that is shown
  pub shown_changes : (tables : ℕ → Reads Row) → FramesOf tables p (space_here h) → h.born ≡ None → OneSteps.one_trapped p t (Changes new c) (shown_here h) ≡ shown_here (trapped p t (Changes new c) h)
  shown_changes tables frames none =
      let s = shown_effect tables p (effect_of changer c) (space_here h) (now-fits changer c (space_here h) says) frames in
      let b = ap (shown_born h.frames) none ∙ sym (ap (shown_born (after_effect (effect_of changer c) (space_here h)).frames) none) in
      λ i. record { own = record { memory = (s i).memory; calls = each (shown_call h.side) h.side.lwk.callers }; node = (trapped p t (Changes new c) h).node; free = (s i).free; born = b i }
