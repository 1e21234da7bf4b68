-- An event by which a process begins: its side is put in beside the others, and what the parts keep holds of it.
use Rattle.file_calls.specs.Rooms.{Room}
use Rattle.file_model.specs.Files.{Files}
use Rattle.hybrid_laws.proofs.maps.Tests.{both}
use Rattle.hybrid_model.specs.Events.{after, after_here, may_here, of_thread, process_of_event}
use Rattle.hybrid_model.specs.Pairs.{Here, Pair, here, put_here}
use Rattle.hybrid_model.specs.Sides.{Row}
use Rattle.hybrid_model.specs.declared.events.Event.{Event}
use Rattle.hybrid_model.specs.declared.events.Event.TheVariants.{Trap}
use Rattle.kernel_model.specs.Nodes.{has_process, is_ended, is_there, thread_of}
use Rattle.kernel_model.specs.Traps.{may_trap}
use Rattle.kernel_tables.specs.Shown.{node_of}
use Rattle.lwk_side.specs.Cloning.{calls_fork}
use Rattle.lwk_side.specs.Forked.{MayFork}
use Rattle.mck_word.specs.EachLaws.{at-each, each-put}
use Rattle.mck_word.specs.MapLaws.{at-put}
use Rattle.mck_word.specs.Maps.{Map, at, each, put}
use Rattle.mck_word.specs.declared.PageRange.{PageRange}
use Rattle.mck_word.specs.declared.Tid.{Tid}
use Rattle.pair_core.proofs.Clones.{may-clone}
use Rattle.pair_core.proofs.Found.{here-is}
use Rattle.pair_core.proofs.KernelFacts.{frame-count, process-is}
use Rattle.pair_core.specs.Kept.{Kept, Takes}
use Rattle.pair_core.specs.KernelRoom.{HasKernelRoom}
use Rattle.pair_core.specs.Newborn.{HasForkRoom, HasRoomWhen, HasTrapOrForkRoom, IsNewborn}
use Rattle.pair_core.specs.Ready.{Ready}
use Rattle.pair_core.specs.Shown.{here_in, pair_of, shown_side}
use Rattle.pair_core.specs.declared.parts.Parts.{Parts}
use Rattle.pair_core.specs.declared.parts.Side.{Side}
use Rattle.proxy_worker.proofs.Parts.{put-same}
use Rattle.std.proofs.Common.{ap, subst, sym, ◌∙◌}
use Rattle.std.specs.Prelude.{Bool, List, Some, cond, false, length, not, option_map, true, ℕ, ◌&&◌, ◌+◌, ◌==◌, ◌≡◌, ◌≤◌}

module _ {T F : Type 0} (rows : T → Map Row) (files : F → Files) (x y : Parts T F) (p q : ℕ) (s n : Side T) where
  abbrev pub with_newborn : Here
  with_newborn = record (here_in rows files y s) { born = Some (q, shown_side rows n) }

  begun : at x.sides.map p ≡ Some s → y.sides.map ≡ put x.sides.map q n → pair_of rows files y ≡ put_here (pair_of rows files x) p with_newborn
  unfolding pair_of
  begun there puts =
      let own = put-same (each (shown_side rows) x.sides.map) p (shown_side rows s) (at-each (shown_side rows) x.sides.map p ∙ ap (option_map (shown_side rows)) there) in
      ap (λ sides. record (pair_of rows files y) { sides = sides })
      (ap (each (shown_side rows)) puts ∙ each-put (shown_side rows) x.sides.map q n ∙ ap (λ m. put m q (shown_side rows n)) (sym own))

  -- the event is what it leaves of its process, and the process that begins
  pub after-born : (e : Event) → at x.sides.map p ≡ Some s → y.sides.map ≡ put x.sides.map q n → process_of_event (pair_of rows files x).node e ≡ p
      → with_newborn ≡ after_here e p (here_in rows files x s) → pair_of rows files y ≡ after (pair_of rows files x) e
  after-born e there puts process h =
      begun there puts ∙ ap (put_here (pair_of rows files x) p) (h ∙ ap (after_here e p) (sym (here-is rows files x p s there)))
      ∙ (λ i. let z = sym process i in put_here (pair_of rows files x) z (after_here e z (here (pair_of rows files x) z)))

  pub kept-born : (e : Event) → Kept x → y.sides.map ≡ put x.sides.map q n → Takes (49 + x.workers) n.channel → y.workers ≡ x.workers → pair_of rows files y ≡ after (pair_of rows files x) e
      → length y.lwk.frames ≡ length x.lwk.frames → y.lwk.pool.frames ≡ x.lwk.pool.frames → Kept y
  kept-born e k puts takes workers is pages pool = record {
    rings = λ j u f. subst (λ w. Takes (49 + w) u.channel) (sym workers) (go j u (j == q) (sym (at-put x.sides.map q n j) ∙ ap (λ m. at m j) (sym puts) ∙ f));
    pages = pages ∙ k.pages ∙ sym frames;
    pool = pool ∙ k.pool ∙ sym frames;
  }
    where
      frames : y.lwk.node.frame_count ≡ x.lwk.node.frame_count
      frames = frame-count rows files x y e is

      go : (j : ℕ) (u : Side T) (b : Bool) → cond b (Some n) (at x.sides.map j) ≡ Some u → Takes (49 + x.workers) u.channel
      go j u true f = let g : n ≡ u = cc in subst (λ (v : Side T). Takes (49 + x.workers) v.channel) g takes
      go j u false f = k.rings j u f

module _ {T F : Type 0} (rows : T → Map Row) (files : F → Files) (x : Parts T F) (p : ℕ) where
  -- the process of an event that may happen was made
  pub made : (e : Event) → process_of_event (pair_of rows files x).node e ≡ p → Ready (pair_of rows files x) e → (other : Files) → has_process (node_of x.lwk.node other) p ≡ true
  unfolding pair_of node_of
  made e process r = λ other.
      (both (has_process (pair_of rows files x).node p) (not (is_ended (pair_of rows files x).node p))
      (both (is_there (pair_of rows files x).node p) (may_here e (here (pair_of rows files x) p)) (ap (λ z. is_there (pair_of rows files x).node z && may_here e (here (pair_of rows files x) z)) (sym process) ∙ r.may)).0).0

  -- the thread of a trap may fork
  pub may-fork : (t : Tid) (room : 1 ≤ x.lwk.node.processes.spare) (threads : 1 ≤ x.lwk.node.threads.spare) → ((other : Files) → p ≡ (thread_of (node_of x.lwk.node other) t.0).process) → Ready (pair_of rows files x) (Trap t)
      → may_trap (node_of x.lwk.node (files x.files)) t.0 ≡ true → MayFork x.lwk p t.0
  unfolding pair_of
  may-fork t room threads own r may = record {
    clone = may-clone rows files x t.0 r.sound may threads;
    room = room;
    own = λ other. sym (own other);
    there = made (Trap t) (process-is rows files x t.0 p own) r;
    rising = r.sound.coherent.frames.rising;
  }

module _ {T F : Type 0} (rows : T → Map Row) (has_room : T → List PageRange → Type 0) (room : F → Room) (x : Parts T F) (p own : ℕ) (s child : Side T) where
  -- the side that is kept aside is one for a child of the process
  pub is-newborn : HasForkRoom rows has_room room x own → own ≡ p → at x.sides.map p ≡ Some s → x.newborn ≡ Some child → IsNewborn rows has_room s.task.space x.lwk.rings x.workers child
  is-newborn h same there kept =
      let n = h.newborn s (ap (at x.sides.map) same ∙ there) in
      let k = n.kept in
      let e : n.child ≡ child = cc in
      subst (λ (z : Side T). IsNewborn rows has_room s.task.space x.lwk.rings x.workers z) e n.is

module _ {T F : Type 0} (rows : T → Map Row) (has_room : T → List PageRange → Type 0) (room : F → Room) (files : F → Files) (x : Parts T F) (t : Tid) where
  -- room for the trap of a thread of which it is known whether it is a fork, whatever the files are
  pub room-to-fork : (b : Bool) → b ≡ calls_fork (node_of x.lwk.node (files x.files)) t.0 → b ≡ true → HasTrapOrForkRoom rows has_room room files t x
      → (other : Files) → HasForkRoom rows has_room room x (of_thread (node_of x.lwk.node other) t.0)
  unfolding node_of
  room-to-fork b is e h = λ other. subst (λ c. HasRoomWhen rows has_room room files c t x) (sym is ∙ e) h

  pub room-to-trap : (b : Bool) → b ≡ calls_fork (node_of x.lwk.node (files x.files)) t.0 → b ≡ false → HasTrapOrForkRoom rows has_room room files t x → HasKernelRoom rows has_room files (Trap t) x
  room-to-trap b is e h = subst (λ c. HasRoomWhen rows has_room room files c t x) (sym is ∙ e) h

  -- and the other way round
  pub room-for-fork : (b : Bool) → b ≡ calls_fork (node_of x.lwk.node (files x.files)) t.0 → b ≡ true → HasForkRoom rows has_room room x (of_thread (node_of x.lwk.node (files x.files)) t.0) → HasTrapOrForkRoom rows has_room room files t x
  room-for-fork b is e h = subst (λ c. HasRoomWhen rows has_room room files c t x) (sym e ∙ is) h

  pub room-for-trap : (b : Bool) → b ≡ calls_fork (node_of x.lwk.node (files x.files)) t.0 → b ≡ false → HasKernelRoom rows has_room files (Trap t) x → HasTrapOrForkRoom rows has_room room files t x
  room-for-trap b is e h = subst (λ c. HasRoomWhen rows has_room room files c t x) (sym e ∙ is) h

-- parts that show the same have the same forks
pub forks-still : {T F : Type 0} (rows : T → Map Row) (files : F → Files) (x y : Parts T F) (t : Tid) (b : Bool) → pair_of rows files y ≡ pair_of rows files x → b ≡ calls_fork (node_of x.lwk.node (files x.files)) t.0 → b ≡ calls_fork (node_of y.lwk.node (files y.files)) t.0
unfolding pair_of
forks-still rows files x y t b same is = is ∙ ap (λ (pair : Pair). calls_fork pair.node t.0) (sym same)
