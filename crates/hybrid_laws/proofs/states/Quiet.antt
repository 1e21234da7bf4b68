-- The step to the whole state for an event after which the side is as it was, and the node goes as a call or a signal makes it go.
use Rattle.file_model.specs.Files.{Files, description_of}
use Rattle.hybrid_laws.proofs.maps.Reading.{each-same}
use Rattle.hybrid_laws.proofs.node.Goes.{Goes, GoesAwake, IsAwake}
use Rattle.hybrid_laws.proofs.node.Sound.{goes-sound, goes-stays, same-ended, same-instructions, same-made, sleep-once, sleepers-are, sleeping-of, sound-of, stopped-less}
use Rattle.hybrid_laws.proofs.run.Run.{TableApart}
use Rattle.hybrid_laws.proofs.states.Node.{Keeping}
use Rattle.hybrid_laws.proofs.states.Pair.{there-open}
use Rattle.hybrid_laws.proofs.trap.Forks.{written-other}
use Rattle.hybrid_laws.specs.OneProcess.{with_table}
use Rattle.hybrid_model.specs.Coherence.{OfProcess}
use Rattle.hybrid_model.specs.Globals.{Coherent, Frames, Sleeping, holders, ring_number, table_of}
use Rattle.hybrid_model.specs.Turns.{pipe_end}
use Rattle.hybrid_model.specs.Pairs.{Pair, side_of}
use Rattle.hybrid_model.specs.Shown.{shown_call, shown_own}
use Rattle.hybrid_model.specs.Sides.{Row, Side, new_side, service_of}
use Rattle.hybrid_model.specs.Spaces.{shown_row, written_back}
use Rattle.hybrid_model.specs.Tallies.{Reads}
use Rattle.isa_model.specs.Memory.{Memory}
use Rattle.kernel_model.specs.Nodes.{Node, is_there}
use Rattle.kernel_model.specs.Pages.{zero_page}
use Rattle.mck_word.specs.Maps.{Map, at, each}
use Rattle.std.proofs.Common.{ap, arith, refl, subst, sym, ◌∙◌}
use Rattle.std.proofs.lemmas.Bool.Decides.{nat_tests}
use Rattle.std.specs.Prelude.{Bool, List, Option, Some, false, if◌then◌else◌, true, unwrap_or, ℕ, ◌+◌, ◌==◌, ◌≡◌, ◌≢◌}
use mathlib.Core.Path.{fun_ext}

-- the frames of other processes keep their bytes where a process's memory is written back
module _ (pair : Pair) (c : Coherent pair) (p : ℕ) where
  pub other-frame : (m : Memory) (q i : ℕ) (r : Row) → p ≢ q → table_of pair q i ≡ Some r → at (written_back (side_of pair p).lwk.table m pair.frames) r.0.0 ≡ at pair.frames r.0.0
  other-frame m q i r n e = written-other (side_of pair p).lwk.table m pair.frames r.0.0 (λ j x f. differ j x f (r.0.0 == x.0.0) refl)
    where
      differ : (j : ℕ) (x : Row) → at (side_of pair p).lwk.table j ≡ Some x → (b : Bool) → (r.0.0 == x.0.0) ≡ b → b ≡ false
      differ j x f false g = refl
      differ j x f true g =
          let s : r.0.0 ≡ x.0.0 = grind (arith, nat_tests, g) in
          absurd (n (sym (c.frames.apart q i r p j x e f (λ k. record { 0 = s k })).0))

  pub other-shown : (m : Memory) (q : ℕ) (s : Side) → (q == p) ≡ false → at pair.sides q ≡ Some s → shown_own (written_back (side_of pair p).lwk.table m pair.frames) s ≡ shown_own pair.frames s
  other-shown m q s n e =
      let f = ap (λ (o : Option Side). at (unwrap_or o (new_side 0)).lwk.table) e in
      let a = each-same (shown_row (written_back (side_of pair p).lwk.table m pair.frames)) (shown_row pair.frames) s.lwk.table (λ i r g.
      (let b = ap (λ (o : Option (List ℕ)). unwrap_or o zero_page) (other-frame m q i r (λ z. grind (arith, nat_tests, n, z)) (ap (λ (t : Reads Row). t i) f ∙ g)) in λ k. record { rights = r.1; bytes = b k })) in
      λ i. record { memory = a i; calls = each (shown_call s) s.lwk.callers }

  -- the tables as one of them
  pub own-table : with_table (table_of pair) p (at (side_of pair p).lwk.table) ≡ table_of pair
  own-table = fun_ext (λ q. go q (q == p) refl)
    where
      go : (q : ℕ) (b : Bool) → (q == p) ≡ b → (if b then at (side_of pair p).lwk.table else table_of pair q) ≡ table_of pair q
      go q true e = let y : p ≡ q = grind (arith, nat_tests, e) in ap (table_of pair) y
      go q false e = refl

  pub own-frames : Frames (with_table (table_of pair) p (at (side_of pair p).lwk.table)) pair.free
  own-frames = subst (λ (t : ℕ → Reads Row). Frames t pair.free) (sym own-table) c.frames

  pub apart-own : TableApart (side_of pair p).lwk.table
  apart-own i j r t e f g = (c.frames.apart p i r p j t e f (λ k. record { 0 = g k })).1

module _ (pair : Pair) (c : Coherent pair) (p : ℕ) (there : is_there pair.node p ≡ true) (node : Node) (frames : Map (List ℕ)) (last : Map ℕ) where
  pub keeping-quiet : ((q : ℕ) → OfProcess q (side_of pair q) node pair.workers (ring_number pair)) → Goes pair.node node → Sleeping node → Keeping pair c p there (side_of pair p) node frames pair.free last
  keeping-quiet whole g sleep = record {
    own = whole p;
    others = λ q n. whole q;
    framed = own-frames pair c p;
    rows_below = c.counted.rows_below p;
    free_below = c.counted.free_below;
    counted = refl;
    frame_count = g.frames;
    made = same-made pair.node node (goes-stays pair.node node g);
    ended_others = λ q n e. sym (same-ended pair.node node (goes-stays pair.node node g) q) ∙ e;
    ended_own = λ e. absurd (let a = there-open pair.node p there in let b = sym (same-ended pair.node node (goes-stays pair.node node g) p) ∙ e in grind (arith, a, b));
    rings = refl;
    turns = λ x u. (u, refl);
    ends = λ t e i u. ap (λ (f : Files). pipe_end f (service_of (side_of pair t.process).linux.services t.request).progress) g.files ∙ u;
    held = λ d. ap (λ (f : Files). (description_of f d).calls + holders d (side_of pair p)) g.files;
    calls = c.calls p;
    sound = goes-sound pair.node node g (sound-of pair c) sleep;
    paid = (let a = stopped-less pair.node node g in let b = same-instructions pair.node node g in let n = g.next in omega (arith, a, b, n));
    limit = (let a = same-instructions pair.node node g in let b = g.limit in let d = c.numbers.limit in omega (arith, a, b, d));
  }

-- sleeping after a step that t awake makes
pub sleeping-after : (t : ℕ) (a b : Node) → GoesAwake t a b → IsAwake t a → Sleeping a → Sleeping b
sleeping-after t a b g w s = let x = g.sleep w (sleepers-are a s) (sleep-once a s) in sleeping-of b x.1 x.2
