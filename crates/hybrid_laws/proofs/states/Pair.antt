-- From one process to the whole state, where an event changes the side of one process, the files, the turns and bytes of frames, and leaves all else.
use Rattle.file_model.specs.Files.{Files, description_of}
use Rattle.hybrid_laws.proofs.act.Act.{others}
use Rattle.hybrid_laws.proofs.copy.Copy.{held}
use Rattle.hybrid_laws.proofs.maps.Tests.{both, not-true}
use Rattle.hybrid_laws.proofs.maps.Totals.{total-put}
use Rattle.hybrid_laws.proofs.requests.OneRequest.{files-any}
use Rattle.hybrid_model.specs.Coherence.{OfProcess}
use Rattle.hybrid_model.specs.Globals.{Coherent, DescriptionsHeld, Empty, Frames, FramesCounted, Known, TurnsHold, holders, ring_number, table_of, CallsHold}
use Rattle.hybrid_model.specs.Pairs.{Here, Pair, here, put_here, side_of}
use Rattle.hybrid_model.specs.Sides.{Row, Side, Turn, new_side}
use Rattle.hybrid_model.specs.Tallies.{Reads}
use Rattle.kernel_model.specs.Nodes.{Node, Thread, has_process, instructions_in_all, is_ended, is_stopped, is_there, set_files}
use Rattle.kernel_model.specs.OneKernel.{first_free_number}
use Rattle.mck_word.specs.MapLaws.{at-put}
use Rattle.mck_word.specs.Maps.{Map, at, count, total, values}
use Rattle.std.proofs.Common.{ap, arith, refl, subst, sym, ◌∙◌}
use Rattle.std.proofs.lemmas.Bool.Decides.{nat_tests}
use Rattle.std.specs.Prelude.{Bool, List, None, Option, Some, cond, false, filter, is_some, length, not, true, unwrap_or, ℕ, ◌+◌, ◌-◌, ◌<◌, ◌==◌, ◌≡◌, ◌≤◌}
use mathlib.Core.Path.{fun_ext}

-- one process after such an event
abbrev pub left_by : Pair → ℕ → Side → Files → Map (List ℕ) → Map Turn → Here
left_by pair p side files frames turns = record (here pair p) { side = side; node = set_files files pair.node; frames = frames; turns = turns }

pub there-has : (node : Node) (p : ℕ) → is_there node p ≡ true → has_process node p ≡ true
there-has node p e = let a = both (has_process node p) (not (is_ended node p)) e in a.0

pub there-open : (node : Node) (p : ℕ) → is_there node p ≡ true → is_ended node p ≡ false
there-open node p e = let a = both (has_process node p) (not (is_ended node p)) e in not-true (is_ended node p) a.1

-- a process that is there has a side
pub has-side : (pair : Pair) → Known pair → (p : ℕ) → is_there pair.node p ≡ true → at pair.sides p ≡ Some (side_of pair p)
has-side pair k p e = go (at pair.sides p) refl
  where
    go : (o : Option Side) → at pair.sides p ≡ o → at pair.sides p ≡ Some (side_of pair p)
    go None f = absurd (let a = k.sides_are p in let b = there-has pair.node p e in grind (arith, a, b, f))
    go (Some s) f = f ∙ ap (λ (o : Option Side). Some (unwrap_or o (new_side 0))) (sym f)

module _ (pair : Pair) (c : Coherent pair) (p : ℕ) (there : is_there pair.node p ≡ true) (side : Side) (files : Files) (frames : Map (List ℕ)) (turns : Map Turn) where
  abbrev pub pair_after : Pair
  pair_after = put_here pair p (left_by pair p side files frames turns)

  abbrev old : Side
  old = side_of pair p

  pub present : at pair.sides p ≡ Some old
  present = has-side pair c.known p there

  pub side-own : (q : ℕ) → (q == p) ≡ true → side_of pair_after q ≡ side
  side-own q e = ap (λ (o : Option Side). unwrap_or o (new_side 0)) (at-put pair.sides p side q ∙ ap (λ b. cond b (Some side) (at pair.sides q)) e)

  pub side-other : (q : ℕ) → (q == p) ≡ false → side_of pair_after q ≡ side_of pair q
  side-other q e = ap (λ (o : Option Side). unwrap_or o (new_side 0)) (at-put pair.sides p side q ∙ ap (λ b. cond b (Some side) (at pair.sides q)) e)

  -- what holds of the new side, and held of the old ones, holds of each
  pub of-sides : (P : ℕ → Side → Type 0) → P p side → ((q : ℕ) → (q == p) ≡ false → P q (side_of pair q)) → (q : ℕ) → P q (side_of pair_after q)
  of-sides P own others q = go (q == p) refl
    where
      go : (b : Bool) → (q == p) ≡ b → P q (side_of pair_after q)
      go true e = let y : p ≡ q = grind (arith, nat_tests, e) in subst (λ (s : Side). P q s) (sym (side-own q e)) (subst (λ (x : ℕ). P x side) y own)
      go false e = subst (λ (s : Side). P q s) (sym (side-other q e)) (others q e)

  -- a sum over the sides
  pub sum-sides : (f : Side → ℕ) → total f pair_after.sides + f old ≡ total f pair.sides + f side
  sum-sides f = total-put f pair.sides p side old present

  sum-stays : (f : Side → ℕ) → f side ≡ f old → total f pair_after.sides ≡ total f pair.sides
  sum-stays f e = omega (arith, sum-sides f, e)

  -- the descriptions, where the files count the calls that hold them as the sides do
  pub held-after : ((d : ℕ) → (description_of files d).calls + holders d old ≡ (description_of pair.node.files d).calls + holders d side) → DescriptionsHeld pair_after
  held-after f d = omega (arith, f d, c.held d, sum-sides (holders d))

  module _ (kept : OfProcess p side (set_files files pair.node) pair.workers (ring_number pair)) (table : side.lwk.table ≡ old.lwk.table) (next : side.book.next ≡ old.book.next) (rings : length side.to_linux ≡ length old.to_linux) where
    tables-same : table_of pair_after ≡ table_of pair
    tables-same = fun_ext (λ q. of-sides (λ x (s : Side). at s.lwk.table ≡ table_of pair x) (ap at table) (λ x e. refl) q)

    counted : FramesCounted pair_after
    counted = record {
      rows_below = subst (λ (t : ℕ → Reads Row). (q i : ℕ) (r : Row) → t q i ≡ Some r → r.0.0 < pair.node.frame_count) (sym tables-same) c.counted.rows_below;
      free_below = c.counted.free_below;
      counted = ap (λ n. length pair.free + n) (sum-stays (λ (s : Side). count s.lwk.table) (ap count table)) ∙ c.counted.counted;
    }

    each-rings : (q : ℕ) (s : Side) → at pair_after.sides q ≡ Some s → length s.to_linux ≡ pair.rings
    each-rings q s e = go (q == p) (sym (at-put pair.sides p side q) ∙ e)
      where
        go : (b : Bool) → cond b (Some side) (at pair.sides q) ≡ Some s → length s.to_linux ≡ pair.rings
        go true u = let y : side ≡ s = cc in ap (λ (x : Side). length x.to_linux) (sym y) ∙ rings ∙ c.rings.each p old present
        go false u = c.rings.each q s u

    sides-are : (q : ℕ) → is_some (at pair_after.sides q) ≡ has_process pair.node q
    sides-are q = ap is_some (at-put pair.sides p side q) ∙ go (q == p) refl
      where
        go : (b : Bool) → (q == p) ≡ b → is_some (cond b (Some side) (at pair.sides q)) ≡ has_process pair.node q
        go true e = let y : p ≡ q = grind (arith, nat_tests, e) in sym (there-has pair.node p there) ∙ ap (has_process pair.node) y
        go false e = c.known.sides_are q

    pub coherent-after : TurnsHold pair_after → DescriptionsHeld pair_after → CallsHold side → Coherent pair_after
    coherent-after turns_hold held calls = record {
      whole = of-sides (λ q s. OfProcess q s (set_files files pair.node) pair.workers (ring_number pair)) kept (λ q e. files-any q (side_of pair q) pair.node pair.workers (ring_number pair) files (c.whole q));
      frames = subst (λ (t : ℕ → Reads Row). Frames t pair.free) (sym tables-same) c.frames;
      counted = counted;
      ended = λ q e. of-sides (λ x s. is_ended pair.node x ≡ true → Empty s) (λ u. absurd (let a = there-open pair.node p there in grind (arith, a, u))) (λ x n u. c.ended x u) q e;
      turns = turns_hold;
      rings = record { cores = c.rings.cores; rings = c.rings.rings; each = each-rings };
      held = held;
      calls = of-sides (λ q s. CallsHold s) calls (λ q e. c.calls q);
      known = record { threads_below = c.known.threads_below; threads_there = c.known.threads_there; processes_below = c.known.processes_below; sides_are = sides-are };
      sleeping = record { asleep = c.sleeping.asleep; once = c.sleeping.once };
      places = record { below = c.places.below; apart = c.places.apart };
      heaps = c.heaps;
      numbers = record {
        paid = let s = sum-stays (λ (x : Side). x.book.next - 1) (ap (λ n. n - 1) next) in subst (λ (n : ℕ). n + (pair.node.next_number - first_free_number) + length (filter (λ (x : Thread). is_stopped x.does) (values pair.node.threads)) ≤ instructions_in_all pair.node) (sym s) c.numbers.paid;
        limit = c.numbers.limit;
      };
    }
