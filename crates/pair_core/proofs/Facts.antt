-- What an event of the Linux side finds: its test, what coherence says of the process, and room in the ring back.
use Rattle.file_calls.specs.FileSteps.{FewCalls}
use Rattle.file_model.specs.Files.{Files}
use Rattle.guest_laws.proofs.RingRoom.{lwk-fits}
use Rattle.hybrid_model.specs.Coherence.{OfProcess}
use Rattle.hybrid_model.specs.Events.{may_here, process_of_event}
use Rattle.hybrid_model.specs.Globals.{Places, ring_number}
use Rattle.hybrid_model.specs.Pairs.{Here}
use Rattle.hybrid_model.specs.Sides.{Row}
use Rattle.hybrid_model.specs.declared.events.Event.{Event}
use Rattle.kernel_tables.specs.Shown.{node_of}
use Rattle.mck_word.specs.MapLaws.{at-put}
use Rattle.mck_word.specs.Maps.{Map, at, put}
use Rattle.pair_core.proofs.FewCalls.{few-calls}
use Rattle.pair_core.proofs.Found.{here-is, may-here, of-process}
use Rattle.pair_core.specs.Kept.{Kept, Takes}
use Rattle.node_machine.specs.Reached.{IsSound}
use Rattle.pair_core.specs.Ready.{Ready}
use Rattle.pair_core.specs.Shown.{here_in, pair_of}
use Rattle.pair_core.specs.declared.parts.Parts.{Parts}
use Rattle.pair_core.specs.declared.parts.Side.{Side}
use Rattle.std.proofs.Common.{ap, arith, refl, subst, sym, ◌∙◌}
use Rattle.std.specs.Prelude.{Bool, Some, cond, false, length, true, ℕ, ◌+◌, ◌<◌, ◌==◌, ◌≡◌, ◌≤◌}

module _ {T F : Type 0} (rows : T → Map Row) (files : F → Files) (x : Parts T F) (p : ℕ) (s : Side T) where
  pub record Finds (e : Event) : Type 0 where
    pub there : at x.sides.map p ≡ Some s
    pub may : may_here e (here_in rows files x s) ≡ true
    pub whole : OfProcess p (here_in rows files x s).side (here_in rows files x s).node x.workers (ring_number (pair_of rows files x))
    pub places : Places (here_in rows files x s).node
    pub workers : x.workers ≤ 4
    pub sound : IsSound (pair_of rows files x)

  pub finds : (e : Event) → at x.sides.map p ≡ Some s → process_of_event (pair_of rows files x).node e ≡ p → Ready (pair_of rows files x) e → Finds e
  unfolding pair_of
  finds e there process r = record {
    there = there;
    may = may-here rows files x p s e there process r;
    whole = of-process rows files x p s there r.sound.coherent;
    places = r.sound.coherent.places;
    workers = r.sound.small.workers;
    sound = r.sound;
  }

  -- a worker's number is below four
  pub worker-small : {e : Event} (w : ℕ) → Finds e → w < x.workers → w < 4
  worker-small w f below = let a = f.workers in omega (arith, a, below)

  -- the ring back takes one more message
  pub has-place : {e : Event} → Finds e → Kept x → length s.channel.to_lwk.items < s.channel.to_lwk.capacity
  has-place f k =
      let a = lwk-fits p (here_in rows files x s).side (here_in rows files x s).node x.workers (ring_number (pair_of rows files x)) f.whole f.places in
      let b = (k.rings p s f.there).to_lwk in
      omega (arith, a, b)

  -- a frame of the table is below the number of pages
  pub frame-below : {e : Event} → Finds e → Kept x → (i : ℕ) (r : Row) → at (rows s.task.space.table) i ≡ Some r → r.0.0 < length x.lwk.frames
  unfolding pair_of node_of
  frame-below f k i r e =
      let a = f.sound.coherent.counted.rows_below p i r (ap (λ (h : Here). at h.side.lwk.table i) (here-is rows files x p s f.there) ∙ e) in
      let b = k.pages in
      omega (arith, a, b)

  -- no description is held by too many calls
  pub few-held : {e : Event} → Finds e → FewCalls (files x.files)
  unfolding pair_of node_of
  few-held f = few-calls (pair_of rows files x) f.sound.coherent f.sound.small

module _ {T F : Type 0} (x y : Parts T F) (p : ℕ) (s t : Side T) where
  -- what the parts keep stays where one process's rings take as many as before, and there are as many frames
  pub kept-put : Kept x → at x.sides.map p ≡ Some s → y.sides.map ≡ put x.sides.map p t → y.workers ≡ x.workers → y.lwk.node.frame_count ≡ x.lwk.node.frame_count → y.lwk.pool.frames ≡ x.lwk.pool.frames → length y.lwk.frames ≡ length x.lwk.frames
      → t.channel.to_linux.capacity ≡ s.channel.to_linux.capacity → t.channel.to_lwk.capacity ≡ s.channel.to_lwk.capacity → Kept y
  kept-put k there puts workers node pool pages linux lwk = record {
    rings = λ j u e. subst (λ n. Takes (49 + n) u.channel) (sym workers) (go j u (j == p) refl (sym (at-put x.sides.map p t j) ∙ ap (λ m. at m j) (sym puts) ∙ e));
    pages = pages ∙ k.pages ∙ sym node;
    pool = pool ∙ k.pool ∙ sym node;
  }
    where
      own : Takes (49 + x.workers) t.channel
      own = let a = k.rings p s there in record { to_linux = linux ∙ a.to_linux; to_lwk = lwk ∙ a.to_lwk }

      go : (j : ℕ) (u : Side T) (b : Bool) → (j == p) ≡ b → cond b (Some t) (at x.sides.map j) ≡ Some u → Takes (49 + x.workers) u.channel
      go j u true e f = let g : t ≡ u = cc in subst (λ (v : Side T). Takes (49 + x.workers) v.channel) g own
      go j u false e f = k.rings j u f
