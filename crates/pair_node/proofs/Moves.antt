-- Which threads an event leaves, from those that it may have made or ended; and what the lists answer.
use Rattle.hybrid_laws.proofs.maps.Tests.{both}
use Rattle.hybrid_model.specs.Events.{after, may, may_here, of_thread}
use Rattle.hybrid_model.specs.Globals.{Coherent}
use Rattle.hybrid_model.specs.Pairs.{Pair, here}
use Rattle.hybrid_model.specs.declared.events.Event.TheVariants.{Intake, Reap, Trap}
use Rattle.hybrid_model.specs.declared.events.Event.{Event}
use Rattle.kernel_model.specs.Nodes.{Thread, has_thread, is_living, is_stopped, is_there, no_thread, thread_of}
use Rattle.mck_word.specs.Maps.{at}
use Rattle.mck_word.specs.declared.Pid.{Pid}
use Rattle.mck_word.specs.declared.Tid.{Tid}
use Rattle.pair_node.specs.Listed.{HasRoomToList, Moves, Owners, touched_by, without_gone}
use Rattle.pair_node.specs.Room.{HasListPlace}
use Rattle.pair_node.specs.declared.members.Members.{Members}
use Rattle.pair_node.specs.declared.members.Touched.TheVariants.{Group, Nothing}
use Rattle.std.proofs.Common.{ap, arith, refl, sym, ◌∙◌}
use Rattle.std.specs.Prelude.{Bool, None, Option, Some, cond, false, is_some, true, unwrap_or, ℕ, ◌&&◌, ◌≡◌}
use Rattle.thread_laws.proofs.Laws.{intake-keeps, intake-living, intake-stays, none-next, other-keeps, reap-takes, trap-found, trap-keeps}
use Rattle.thread_laws.specs.Members.{is_in as is_of, process_at, process_in}

-- those that are gone are not where they were
gone-is : (p : ℕ) (f now : Owners) (u : ℕ) → (is_of p (f u) ≡ false → now u ≡ f u) → ((q : ℕ) → now u ≡ Some q → f u ≡ Some q) → now u ≡ without_gone p now f u
gone-is p f now u others stays = go (is_of p (f u)) refl (now u) refl
  where
    go : (b : Bool) → is_of p (f u) ≡ b → (o : Option ℕ) → now u ≡ o → o ≡ cond b (cond (is_some o) (f u) None) (f u)
    go false e o g = sym g ∙ others e
    go true e None g = refl
    go true e (Some q) g = sym (stays q g)

outside-stays : (p : ℕ) (o : Option ℕ) (q : ℕ) → cond (is_of p o) None o ≡ Some q → o ≡ Some q
outside-stays p o q e = go (is_of p o) e
  where
    go : (b : Bool) → cond b None o ≡ Some q → o ≡ Some q
    go true e = absurd (grind (arith, e))
    go false e = e

module _ (pair : Pair) (c : Coherent pair) where
  -- the thread of a trap is there
  trapped-there : (t : Tid) → may pair (Trap t) ≡ true → process_at pair.node t.0 ≡ Some (of_thread pair.node t.0)
  trapped-there t m =
      let x = thread_of pair.node t.0 in
      let a = both (is_there pair.node x.process) (may_here (Trap t) (here pair x.process)) m in
      let b = both (has_thread pair.node t.0 && is_stopped x.does) (is_living pair.node x.process) a.1 in
      let d = both (has_thread pair.node t.0) (is_stopped x.does) b.0 in
      named (at pair.node.threads t.0) d.0
    where
      named : (o : Option Thread) → is_some o ≡ true → process_in o ≡ Some (unwrap_or o no_thread).process
      named None e = absurd (grind (arith, e))
      named (Some x) e = refl

  intake-moves : (p : Pid) (b : Bool) → is_living pair.node p.0 ≡ b → Moves (cond b Nothing (Group p)) pair.node.next_number (process_at pair.node) (process_at (after pair (Intake p)).node)
  intake-moves p true l = intake-living pair p c l
  intake-moves p false l = λ u. gone-is p.0 (process_at pair.node) (process_at (after pair (Intake p)).node) u ((intake-keeps pair p c).others u) (intake-stays pair p c u)

  pub moves-after : (e : Event) → may pair e ≡ true → Moves (touched_by pair.node e) pair.node.next_number (process_at pair.node) (process_at (after pair e).node)
  moves-after (Trap t) m = record {
    there = trapped-there t m;
    fresh = none-next pair c.known;
    stays = (trap-keeps pair t c.known m).own;
    moves = trap-found pair t c.known m;
  }
  moves-after (Intake p) m = intake-moves p (is_living pair.node p.0) refl
  moves-after (Reap p) m = λ u.
      let taken = reap-takes pair p u in
      gone-is p.0 (process_at pair.node) (process_at (after pair (Reap p)).node) u (λ e. taken ∙ ap (λ b. cond b None (process_at pair.node u)) e) (λ q e. outside-stays p.0 (process_at pair.node u) q (sym taken ∙ e))
  moves-after e m = other-keeps pair e refl

-- the room that was made is that which is needed
pub room-to-list : (pair : Pair) (e : Event) (m : Members) → HasListPlace e m → HasRoomToList (touched_by pair.node e) m
room-to-list pair (Trap t) m r = r
room-to-list pair (Intake p) m r = go (is_living pair.node p.0)
  where
    go : (b : Bool) → HasRoomToList (cond b Nothing (Group p)) m
    go true = tt
    go false = tt
room-to-list pair (Reap p) m r = tt
room-to-list pair e m r = tt
