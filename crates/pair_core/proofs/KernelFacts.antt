-- What an event of the lightweight kernel finds: sound frames, a channel with the job's rings, and a place in the ring of its thread.
use Rattle.file_model.specs.Files.{Files}
use Rattle.guest_laws.specs.RingRoom.{FindsRoom}
use Rattle.hybrid_model.specs.Events.{after, after_here, of_line, process_of_event}
use Rattle.hybrid_model.specs.Globals.{Coherent, copies, table_of}
use Rattle.hybrid_laws.proofs.maps.Tests.{both}
use Rattle.hybrid_model.specs.Run.{left_of_limit, may_run_for}
use Rattle.hybrid_model.specs.Pairs.{Here, Pair, here, put_here, side_of, with_born}
use Rattle.hybrid_model.specs.Rings.{post, ring}
use Rattle.hybrid_model.specs.Sides.{Row, Side as SideOf, new_side}
use Rattle.hybrid_model.specs.declared.events.Event.{Event}
use Rattle.ikc_ring.specs.declared.Msg.{Msg}
use Rattle.kernel_model.specs.Nodes.{has_thread, thread_of}
use Rattle.kernel_model.specs.Traps.{line_of, may_run}
use Rattle.kernel_tables.specs.declared.tables.KernelTables.{KernelTables}
use Rattle.lwk_side.specs.Sound.{IsSound as IsSoundTable}
use Rattle.lwk_side.specs.Wired.{Wired}
use Rattle.mck_word.specs.EachLaws.{at-each}
use Rattle.mck_word.specs.Lists.{member}
use Rattle.mck_word.specs.MapLaws.{at-put}
use Rattle.mck_word.specs.Maps.{Map, at, put}
use Rattle.pair_core.proofs.Found.{here-is}
use Rattle.offer_laws.proofs.Sizes.{frame-count-stays}
use Rattle.kernel_tables.specs.Shown.{node_of}
use Rattle.pair_core.specs.Kept.{Kept, Takes}
use Rattle.node_machine.specs.Reached.{IsSound}
use Rattle.pair_core.specs.Shown.{here_in, pair_of, shown_side}
use Rattle.pair_core.specs.declared.parts.Parts.{Parts}
use Rattle.pair_core.specs.declared.parts.Side.{Side}
use Rattle.std.proofs.Common.{ap, arith, refl, subst, sym, ◌∙◌}
use Rattle.std.proofs.lemmas.Bool.Decides.{nat_tests}
use Rattle.std.proofs.lemmas.List.{length-append}
use Rattle.std.specs.Prelude.{zero, suc, Bool, List, None, Some, [], cond, false, length, if◌then◌else◌, nat_le, ◌≤◌, option_map, true, unwrap_or, ℕ, ◌||◌, ◌+◌, ◌<◌, ◌==◌, ◌∷◌, ◌≡◌}

-- a frame without a copy among the free ones is none of them
no-member : (f : ℕ) (free : List ℕ) → copies f free ≡ 0 → member f free ≡ false
no-member f [] e = refl
no-member f (g ∷ gs) e = go (f == g) refl e (no-member f gs)
  where
    go : (b : Bool) → (f == g) ≡ b → (if b then 1 else 0) + copies f gs ≡ 0 → (copies f gs ≡ 0 → member f gs ≡ false) → ((g == f) || member f gs) ≡ false
    go true i h k = absurd (omega (arith, h))
    go false i h k = let a : (g == f) ≡ false = grind (arith, nat_tests, i) in rw a (k (omega (arith, h)))

-- a ring with a message more is longer
pub post-longer : (r : ℕ) (m : Msg) (rs : List (List Msg)) → r < length rs → length (ring r (post r m rs)) ≡ length (ring r rs) + 1
post-longer zero m [] h = absurd (omega (arith, h))
post-longer zero m (ms ∷ rs) h = length-append ms (m ∷ [])
post-longer (suc r) m [] h = absurd (omega (arith, h))
post-longer (suc r) m (ms ∷ rs) h = post-longer r m rs (omega (arith, h))

-- what the test of a Run says
pub record MayRun (t n : ℕ) (h : Here) : Type 0 where
  pub lives : has_thread h.node t ≡ true
  pub some : 1 ≤ n
  pub within : n ≤ left_of_limit h.node

pub may-run-is : (core t n : ℕ) (h : Here) → may_run_for core t n h ≡ true → MayRun t n h
may-run-is core t n h e =
    let a = both _ (nat_le n (left_of_limit h.node)) e in
    let b = both _ (nat_le n 64) a.0 in
    let c = both _ (nat_le 1 n) b.0 in
    let d = both (may_run h.node t) _ c.0 in
    let f = both _ _ d.0 in
    let g = both _ _ f.0 in
    let k = both _ _ g.0 in
    record { lives = k.0; some = grind (arith, nat_tests, c.1); within = grind (arith, nat_tests, a.1) }

-- whether a thread lives, and of which process it is, has nothing to do with the files
pub lives-any : (n : KernelTables) (t : ℕ) (files other : Files) → has_thread (node_of n files) t ≡ true → has_thread (node_of n other) t ≡ true
unfolding node_of
lives-any n t files other e = e

module _ {T F : Type 0} (rows : T → Map Row) (files : F → Files) (x : Parts T F) where
  pub process-is : (t q : ℕ) → ((other : Files) → q ≡ (thread_of (node_of x.lwk.node other) t).process) → (thread_of (pair_of rows files x).node t).process ≡ q
  unfolding pair_of
  process-is t q e = sym (e (files x.files))

  pub line-is : (k q : ℕ) → ((other : Files) → q ≡ of_line (line_of (node_of x.lwk.node other) k)) → of_line (line_of (pair_of rows files x).node k) ≡ q
  unfolding pair_of
  line-is k q e = sym (e (files x.files))

module _ {T F : Type 0} (rows : T → Map Row) (files : F → Files) (x : Parts T F) (p : ℕ) (s : Side T) (there : at x.sides.map p ≡ Some s) where
  -- the side that the state has of the process
  pub side-is : side_of (pair_of rows files x) p ≡ shown_side rows s
  unfolding pair_of
  side-is = ap (λ o. unwrap_or o (new_side 0)) (at-each (shown_side rows) x.sides.map p ∙ ap (option_map (shown_side rows)) there)

  row-of : (i : ℕ) (w : Row) → at (rows s.task.space.table) i ≡ Some w → table_of (pair_of rows files x) p i ≡ Some w
  row-of i w e = ap (λ (side : SideOf). at side.lwk.table i) side-is ∙ e

  pub sound-table : Coherent (pair_of rows files x) → Kept x → IsSoundTable x.lwk (rows s.task.space.table)
  unfolding pair_of node_of
  sound-table k kept = record {
    inside = λ i w e. below i w e;
    apart = λ i j v w a b e. (k.frames.apart p i v p j w (row-of i v a) (row-of j w b) (λ q. record { 0 = e q })).1;
    taken = λ i w e. (let b = below i w e in let c = kept.pages in let d = kept.pool in omega (arith, b, c, d), no-member w.0.0 x.lwk.pool.free (free i w e));
    frames = kept.pool ∙ sym kept.pages;
  }
    where
      below : (i : ℕ) (w : Row) → at (rows s.task.space.table) i ≡ Some w → w.0.0 < length x.lwk.frames
      below i w e = let a = k.counted.rows_below p i w (row-of i w e) in let b = kept.pages in omega (arith, a, b)

      free : (i : ℕ) (w : Row) → at (rows s.task.space.table) i ≡ Some w → copies w.0.0 x.lwk.pool.free ≡ 0
      free i w e = k.frames.not_free p i w (row-of i w e)

  pub wired : IsSound (pair_of rows files x) → Wired x.lwk s.channel.to_linux
  unfolding pair_of
  wired k = record {
    some_core = k.coherent.rings.cores;
    few_cores = k.small.cores;
    some_ring = k.coherent.rings.rings;
    many = k.coherent.rings.each p (shown_side rows s) (at-each (shown_side rows) x.sides.map p ∙ ap (option_map (shown_side rows)) there);
  }

  -- the side that an event which begins no process leaves
  pub after-side : (e : Event) → process_of_event (pair_of rows files x).node e ≡ p → (after_here e p (here_in rows files x s)).born ≡ None → side_of (after (pair_of rows files x) e) p ≡ (after_here e p (here_in rows files x s)).side
  after-side e process none =
      let pair = pair_of rows files x in
      ap (λ q. side_of (put_here pair q (after_here e q (here pair q))) p) process
      ∙ ap (λ (h : Here). side_of (put_here pair p (after_here e p h)) p) (here-is rows files x p s there)
      ∙ ap (λ b. unwrap_or (at (with_born (put pair.sides p (after_here e p (here_in rows files x s)).side) b) p) (new_side 0)) none
      ∙ ap (λ o. unwrap_or o (new_side 0)) (at-put pair.sides p (after_here e p (here_in rows files x s)).side p ∙ own)
    where
      own : cond (p == p) (Some (after_here e p (here_in rows files x s)).side) (at (pair_of rows files x).sides p) ≡ Some (after_here e p (here_in rows files x s)).side
      own = let a : (p == p) ≡ true = grind (arith, nat_tests) in rw a refl

  -- the ring that the event makes longer has a place
  pub place-in : (e : Event) (r : ℕ) → process_of_event (pair_of rows files x).node e ≡ p → (after_here e p (here_in rows files x s)).born ≡ None → FindsRoom (pair_of rows files x) e
      → length (ring r s.channel.to_linux.messages) < length (ring r (after_here e p (here_in rows files x s)).side.to_linux) → length (ring r s.channel.to_linux.messages) < 49 + x.workers
  unfolding pair_of
  place-in e r process none room longer =
      let before = ap (λ (side : SideOf). length (ring r side.to_linux)) side-is in
      let later = ap (λ (side : SideOf). length (ring r side.to_linux)) (after-side e process none) in
      let a = room.to_linux p r (omega (arith, before, later, longer)) in
      omega (arith, before, a)

module _ {T F : Type 0} (rows : T → Map Row) (files : F → Files) (x y : Parts T F) where
  -- the number of frames stays
  pub frame-count : (e : Event) → pair_of rows files y ≡ after (pair_of rows files x) e → y.lwk.node.frame_count ≡ x.lwk.node.frame_count
  unfolding pair_of node_of
  frame-count e is = ap (λ (pair : Pair). pair.node.frame_count) is ∙ frame-count-stays e (process_of_event (pair_of rows files x).node e) (here (pair_of rows files x) (process_of_event (pair_of rows files x).node e))

module _ {T F : Type 0} (rows : T → Map Row) (files : F → Files) (x y : Parts T F) (p : ℕ) (s t : Side T) where
  -- what the parts keep stays over an event that makes and drops no frame
  pub kept-after : (e : Event) → Kept x → at x.sides.map p ≡ Some s → y.sides.map ≡ put x.sides.map p t → y.workers ≡ x.workers → pair_of rows files y ≡ after (pair_of rows files x) e
      → length y.lwk.frames ≡ length x.lwk.frames → y.lwk.pool.frames ≡ x.lwk.pool.frames
      → t.channel.to_linux.capacity ≡ s.channel.to_linux.capacity → t.channel.to_lwk.capacity ≡ s.channel.to_lwk.capacity → Kept y
  kept-after e k there puts workers is pages pool linux lwk = record {
    rings = λ j u f. subst (λ n. Takes (49 + n) u.channel) (sym workers) (go j u (j == p) refl (sym (at-put x.sides.map p t j) ∙ ap (λ m. at m j) (sym puts) ∙ f));
    pages = pages ∙ k.pages ∙ sym frames;
    pool = pool ∙ k.pool ∙ sym frames;
  }
    where
      frames : y.lwk.node.frame_count ≡ x.lwk.node.frame_count
      frames = frame-count rows files x y e is

      own : Takes (49 + x.workers) t.channel
      own = let a = k.rings p s there in record { to_linux = linux ∙ a.to_linux; to_lwk = lwk ∙ a.to_lwk }

      go : (j : ℕ) (u : Side T) (b : Bool) → (j == p) ≡ b → cond b (Some t) (at x.sides.map j) ≡ Some u → Takes (49 + x.workers) u.channel
      go j u true e f = let g : t ≡ u = cc in subst (λ (v : Side T). Takes (49 + x.workers) v.channel) g own
      go j u false e f = k.rings j u f
