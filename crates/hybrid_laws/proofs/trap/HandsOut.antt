-- Frames that Trap hands out: by a change that is made at once, and to a process that begins.
use Rattle.hybrid_model.specs.declared.events.Event.TheVariants as Events
use Rattle.std.specs.FinMap as finmap
use Rattle.hybrid_laws.proofs.every.HandsOutLwk.{in-range, tables-put}
use Rattle.hybrid_laws.proofs.every.Linux.{none-handed, tables-stay}
use Rattle.hybrid_laws.proofs.maps.Tests.{both, some-is}
use Rattle.hybrid_laws.proofs.memory.FreshFrames.{free-alone, free-once, fresh-effect, unreferenced}
use Rattle.hybrid_laws.proofs.memory.NewSide.{no-at}
use Rattle.hybrid_laws.proofs.node.Threads.{thread-is}
use Rattle.hybrid_laws.proofs.reap.Reap.{count-each}
use Rattle.hybrid_laws.proofs.states.Pair.{there-has}
use Rattle.hybrid_laws.proofs.states.Quiet.{own-frames}
use Rattle.hybrid_laws.proofs.trap.Begins.{Traps, may-traps}
use Rattle.hybrid_laws.proofs.trap.Changes.{now-fits, says}
use Rattle.hybrid_laws.proofs.trap.DecideSays.{NowSays}
use Rattle.hybrid_laws.proofs.trap.Forks.{shown_forks}
use Rattle.hybrid_laws.proofs.trap.Says.{ForkSays, TrappedSays, call_regs, trap-says}
use Rattle.hybrid_laws.proofs.trap.WholeChanges.{coherent_trap_changes}
use Rattle.hybrid_model.specs.Claims.{HandsOutFresh, IsFresh}
use Rattle.hybrid_model.specs.Events.{after, may, may_here}
use Rattle.hybrid_model.specs.Globals.{Coherent, copies, table_of}
use Rattle.hybrid_model.specs.OneProcess.{memory_here, ran_last, space_here, view_here, with_view}
use Rattle.hybrid_model.specs.Trap.{after_trap, begin_call, child_side, trapped, with_stores}
use Rattle.hybrid_model.specs.Pairs.{Here, Pair, here, put_here}
use Rattle.hybrid_model.specs.Sides.{Row, Side, new_side}
use Rattle.hybrid_model.specs.Spaces.{Space, copied_pages, first_number, frame_bytes, page_at_lowest, rest_numbers, shown_memory, shown_row}
use Rattle.hybrid_model.specs.Tallies.{if_same}
use Rattle.isa_model.specs.Memory.{Memory, Page}
use Rattle.kernel_model.specs.MemoryCalls.{Effect, effect_of}
use Rattle.kernel_model.specs.Nodes.{Node, Thread, is_there, process_of, thread_of}
use Rattle.kernel_model.specs.OneKernel.{OneHere, Own}
use Rattle.kernel_model.specs.Signals.{Store, View, stored_all}
use Rattle.kernel_model.specs.Traps.{Begins, Changes, Done, Forks, Trapped, arguments_of, trap}
use Rattle.kernel_model.specs.declared.Change.{Change}
use Rattle.mck_word.specs.MapLaws.{at-collect, at-put}
use Rattle.mck_word.specs.Maps.{and_then, at, count, entries, no_rows, put}
use Rattle.mck_word.specs.Pages.{in_range}
use Rattle.mck_word.specs.declared.Tid.{Tid}
use Rattle.std.proofs.Common.{ap, arith, inl, inr, refl, subst, sym, ◌∙◌}
use Rattle.std.proofs.lemmas.Bool.Decides.{nat_tests}
use Rattle.std.specs.Prelude.{Bool, List, None, Option, Some, [], cond, false, length, nat_lt, suc, true, unwrap_or, ℕ, ◌==◌, ◌∷◌, ◌≡◌, ◌≢◌, ◌≤◌, ◌⊎◌}

-- a row of copied pages was there, or has a frame that was free
was-copied : (es : List (ℕ × Page)) (sp : Space) → length es ≤ length sp.free → (j : ℕ) (r : Row) → at (copied_pages es sp).table j ≡ Some r → (at sp.table j ≡ Some r) ⊎ (1 ≤ copies r.0.0 sp.free)
was-copied [] sp l j r e = inl e
was-copied (x ∷ es) sp l j r e = go (was-copied es (page_at_lowest x.1.rights x.1.bytes x.0 sp) (less sp.free l) j r e)
  where
    less : (o : List ℕ) → suc (length es) ≤ length o → length es ≤ length (rest_numbers o)
    less [] k = absurd (omega (arith, k))
    less (f ∷ free) k = omega (arith, k)

    first-copies : (o : List ℕ) → suc (length es) ≤ length o → 1 ≤ copies (first_number o) o
    first-copies [] k = absurd (omega (arith, k))
    first-copies (f ∷ free) k = let s : if_same f f ≡ 1 = grind (arith, nat_tests) in omega (arith, s)

    more : (o : List ℕ) (f : ℕ) → 1 ≤ copies f (rest_numbers o) → 1 ≤ copies f o
    more [] f k = k
    more (g ∷ free) f k = omega (arith, k)

    row : (b : Bool) → cond b (Some (record { 0 = first_number sp.free }, x.1.rights)) (at sp.table j) ≡ Some r → (at sp.table j ≡ Some r) ⊎ (1 ≤ copies r.0.0 sp.free)
    row false k = inl k
    row true k = let y : (record { 0 = first_number sp.free }, x.1.rights) ≡ r = cc in inr (subst (λ (z : Row). 1 ≤ copies z.0.0 sp.free) y (first-copies sp.free l))

    go : (at (page_at_lowest x.1.rights x.1.bytes x.0 sp).table j ≡ Some r) ⊎ (1 ≤ copies r.0.0 (rest_numbers sp.free)) → (at sp.table j ≡ Some r) ⊎ (1 ≤ copies r.0.0 sp.free)
    go (inl k) = row (j == x.0) (sym (at-put sp.table x.0 (record { 0 = first_number sp.free }, x.1.rights) j) ∙ k)
    go (inr k) = inr (more sp.free r.0.0 k)

abbrev born-memory : Option (ℕ × Own) → Memory
born-memory None = no_rows
born-memory (Some b) = b.1.memory

module _ (pair : Pair) (c : Coherent pair) (t : Tid) (allowed : may pair (Events.Trap t) ≡ true) where
  abbrev p : ℕ
  p = (thread_of pair.node t.0).process

  abbrev h : Here
  h = here pair p

  there : is_there pair.node p ≡ true
  there = (both (is_there pair.node p) (may_here (Events.Trap t) h) allowed).0

  x : Traps pair.node t.0
  x = may-traps pair.node t.0 (both (is_there pair.node p) (may_here (Events.Trap t) h) allowed).1

  own-process : x.thread.process ≡ p
  own-process = sym (ap (λ (z : Thread). z.process) (thread-is pair.node t.0 x.thread x.there))

  abbrev left : Trapped → Pair
  left y = put_here pair p (ran_last t.0 (trapped p t.0 y h))

  after-is : (y : Trapped) → trap t.0 (length pair.free) (view_here h) ≡ y → after pair (Events.Trap t) ≡ left y
  unfolding after_trap
  after-is y e = ap left e

  -- ---- a change that is made at once
  module _ (node : Node) (change : Change) (is : trap t.0 (length pair.free) (view_here h) ≡ Changes node change) where
    said : TrappedSays t.0 (length pair.free) (view_here h) (Changes node change)
    said = subst (TrappedSays t.0 (length pair.free) (view_here h)) is (trap-says t.0 (length pair.free) (view_here h))

    now : NowSays (process_of node p) (memory_here h) (length h.free) change
    now = says p t.0 h x own-process node change said.0 said.1 (arguments_of (call_regs t.0 pair.node)) said.2

    abbrev eff : Effect
    eff = effect_of (process_of node p) change

    none-there : (i : ℕ) (r : Row) → table_of pair p i ≡ Some r → in_range eff.dropped i ≡ true → ⊥
    none-there i r e d =
        let a = now.dropped i d in
        let b = at-collect (λ n v. Some (shown_row pair.frames v)) h.side.lwk.table i ∙ ap (λ o. and_then o (λ v. Some (shown_row pair.frames v))) e in
        let n = sym a ∙ b in grind (arith, n)

    pub handed_changes : HandsOutFresh pair (Events.Trap t)
    handed_changes = fresh-effect pair c (Events.Trap t) (coherent_trap_changes pair c t allowed change node is) p eff (now-fits (process_of node p) change (space_here h) now)
        (λ z i. ap (λ (y : Pair). table_of y z i) (after-is (Changes node change) is) ∙ tables-put pair p (ran_last t.0 (trapped p t.0 (Changes node change) h)) refl z i)
        (ap (λ (y : Pair). y.frames) (after-is (Changes node change) is))
        (λ i r e l m. absurd (none-there i r e (in-range eff.dropped i l m)))

  -- ---- a process that begins
  module _ (v : View) (child : ℕ) (stores : List Store) (is : trap t.0 (length pair.free) (view_here h) ≡ Forks v child stores) where
    forks-said : ForkSays t.0 (length pair.free) (view_here h) v child
    forks-said = subst (TrappedSays t.0 (length pair.free) (view_here h)) is (trap-says t.0 (length pair.free) (view_here h))

    other : p ≢ child
    other e = let y = some-is (at pair.node.processes p) (there-has pair.node p there) in let a = c.known.processes_below p y.0 y.1 in let n = forks-said.number in omega (arith, a, n, e)

    abbrev begins : Space
    begins = record (space_here (with_view v h)) { table = no_rows }

    abbrev pages : List (ℕ × Page)
    pages = entries (memory_here (with_view v h))

    abbrev sp : Space
    sp = with_stores stores (copied_pages pages begins)

    enough : length pages ≤ length pair.free
    enough =
        let a = sym (finmap.len-entries (memory_here (with_view v h))) ∙ count-each (shown_row (with_view v h).frames) h.side.lwk.table in
        let b = count-each (shown_row pair.frames) h.side.lwk.table in
        let e = forks-said.enough in
        not-less (length pages) (count (memory_here h)) (length pair.free) (a ∙ sym b) e
      where
        not-less : (n k free : ℕ) → n ≡ k → nat_lt free k ≡ false → n ≤ free
        not-less n k free e f = grind (arith, nat_tests, e, f)

    tables : (z i : ℕ) → table_of (left (Forks v child stores)) z i ≡ cond (z == child) (at sp.table i) (table_of pair z i)
    tables z i = ap (λ (o : Option Side). at (unwrap_or o (new_side 0)).lwk.table i) (at-put (put pair.sides p h.side) child (child_side (with_view v h) sp) z) ∙ go (z == child)
      where
        go : (b : Bool) → at (unwrap_or (cond b (Some (child_side (with_view v h) sp)) (at (put pair.sides p h.side) z)) (new_side 0)).lwk.table i ≡ cond b (at sp.table i) (table_of pair z i)
        go true = refl
        go false = tables-stay pair c p h refl refl z i

    child-shows : stored_all stores (stored_all v.stores (memory_here h)) ≡ shown_memory sp.table sp.frames
    child-shows = ap (λ (z : OneHere). born-memory z.born) (shown_forks p t.0 h v child stores forks-said (table_of pair) (own-frames pair c p) other refl)

    new-row : (i : ℕ) (row : Row) → at sp.table i ≡ Some row → IsFresh pair (Events.Trap t) child i row.0.0
    new-row i row e = go (was-copied pages begins enough i row e)
      where
        go : (at no_rows i ≡ Some row) ⊎ (1 ≤ copies row.0.0 pair.free) → IsFresh pair (Events.Trap t) child i row.0.0
        go (inl k) = absurd (no-at i row k)
        go (inr k) = record {
          was_free = inl (free-once pair c row.0.0 k);
          unreferenced = unreferenced pair c row.0.0 (λ q j r f g. absurd (free-alone pair c row.0.0 k q j r f g));
          bytes = inr (record {
            thread = t.0;
            traps = refl;
            caller = p;
            calls = refl;
            told = v;
            stores = stores;
            forks = is;
            copy = shown_row sp.frames row;
            there = ap (λ (m : Memory). at m i) child-shows ∙ at-collect (λ n y. Some (shown_row sp.frames y)) sp.table i ∙ ap (λ o. and_then o (λ y. Some (shown_row sp.frames y))) e;
            bytes = ap (λ (y : Pair). frame_bytes y.frames row.0.0) (after-is (Forks v child stores) is);
          });
        }

    pub handed_forks : HandsOutFresh pair (Events.Trap t)
    handed_forks z i f o = subst (λ (y : ℕ). IsFresh pair (Events.Trap t) z i y) o.frame (go (z == child) refl)
      where
        there-now : cond (z == child) (at sp.table i) (table_of pair z i) ≡ Some o.row
        there-now = sym (tables z i) ∙ sym (ap (λ (y : Pair). table_of y z i) (after-is (Forks v child stores) is)) ∙ o.there

        go : (b : Bool) → (z == child) ≡ b → IsFresh pair (Events.Trap t) z i o.row.0.0
        go true d =
            let y : z ≡ child = grind (arith, nat_tests, d) in
            subst (λ (n : ℕ). IsFresh pair (Events.Trap t) n i o.row.0.0) (sym y) (new-row i o.row (sym (ap (λ b. cond b (at sp.table i) (table_of pair z i)) d) ∙ there-now))
        go false d = absurd (o.new o.row (sym (ap (λ b. cond b (at sp.table i) (table_of pair z i)) d) ∙ there-now) o.frame)

  -- ---- whatever the trap comes to
  pub handed_trap : HandsOutFresh pair (Events.Trap t)
  unfolding begin_call
  handed_trap = go (trap t.0 (length pair.free) (view_here h)) refl
    where
      go : (y : Trapped) → trap t.0 (length pair.free) (view_here h) ≡ y → HandsOutFresh pair (Events.Trap t)
      go (Done v) e = none-handed pair (Events.Trap t) (λ z i. ap (λ (y : Pair). table_of y z i) (after-is (Done v) e) ∙ tables-stay pair c p (ran_last t.0 (trapped p t.0 (Done v) h)) refl refl z i)
      go (Begins node progress) e = none-handed pair (Events.Trap t) (λ z i. ap (λ (y : Pair). table_of y z i) (after-is (Begins node progress) e) ∙ tables-stay pair c p (ran_last t.0 (trapped p t.0 (Begins node progress) h)) refl refl z i)
      go (Changes node change) e = handed_changes node change e
      go (Forks v child stores) e = handed_forks v child stores e
