-- Parts of which one process with what all share is as before.
use Rattle.file_model.specs.Files.{Files}
use Rattle.hybrid_model.specs.Events.{after}
use Rattle.hybrid_model.specs.Pairs.{Pair, put_here}
use Rattle.hybrid_model.specs.Sides.{Row}
use Rattle.hybrid_model.specs.declared.events.Event.TheVariants.{Run}
use Rattle.kernel_tables.specs.Shown.{node_of}
use Rattle.mck_word.specs.MapLaws.{at-put, same_rows}
use Rattle.mck_word.specs.Maps.{Map, at, put}
use Rattle.mck_word.specs.declared.Tid.{Tid}
use Rattle.pair_core.proofs.Found.{put-back}
use Rattle.pair_core.proofs.KernelFacts.{kept-after}
use Rattle.pair_core.specs.Kept.{Kept, Takes}
use Rattle.pair_core.specs.Shown.{here_in, pair_of}
use Rattle.pair_core.specs.declared.parts.Parts.{Parts}
use Rattle.pair_core.specs.declared.parts.Side.{Side}
use Rattle.std.proofs.Common.{ap, arith, refl, subst, sym, ◌∙◌}
use Rattle.std.proofs.lemmas.Bool.Decides.{nat_tests}
use Rattle.std.specs.Prelude.{Bool, Some, cond, false, length, true, ℕ, ◌+◌, ◌==◌, ◌≡◌}

pub put-same : {V : Type 0} (m : Map V) (k : ℕ) (v : V) → at m k ≡ Some v → m ≡ put m k v
put-same m k v there = same_rows m (put m k v) (λ q. by-test q (q == k) refl ∙ sym (at-put m k v q))
  where
    by-test : (q : ℕ) (b : Bool) → (q == k) ≡ b → at m q ≡ cond b (Some v) (at m q)
    by-test q true e = let same : q ≡ k = grind (arith, nat_tests, e) in ap (at m) same ∙ there
    by-test q false e = refl

module _ {T F : Type 0} (rows : T → Map Row) (files : F → Files) (x y : Parts T F) where
  pub same-pair : (p : ℕ) (s : Side T) → at x.sides.map p ≡ Some s → y.sides.map ≡ x.sides.map → here_in rows files y s ≡ here_in rows files x s
      → pair_of rows files y ≡ pair_of rows files x
  same-pair p s there sides h =
      put-back rows files x y p s (sides ∙ put-same x.sides.map p s there)
      ∙ ap (put_here (pair_of rows files x) p) h
      ∙ sym (put-back rows files x x p s (put-same x.sides.map p s there))

  pub kept-same : Kept x → y.sides.map ≡ x.sides.map → y.workers ≡ x.workers → pair_of rows files y ≡ pair_of rows files x
      → length y.lwk.frames ≡ length x.lwk.frames → y.lwk.pool.frames ≡ x.lwk.pool.frames → Kept y
  unfolding pair_of node_of
  kept-same k sides workers same pages pool =
      let frames : y.lwk.node.frame_count ≡ x.lwk.node.frame_count = ap (λ (pair : Pair). pair.node.frame_count) same in
      record {
        rings = λ q s there. subst (λ n. Takes (49 + n) s.channel) (sym workers) (k.rings q s (ap (λ m. at m q) (sym sides) ∙ there));
        pages = pages ∙ k.pages ∙ sym frames;
        pool = pool ∙ k.pool ∙ sym frames;
      }

  -- and what they keep stays over a run
  pub kept-after-run : (p : ℕ) (s : Side T) (core : ℕ) (t : Tid) (n : ℕ) → Kept x → at x.sides.map p ≡ Some s → y.sides.map ≡ x.sides.map → y.workers ≡ x.workers
      → pair_of rows files y ≡ after (pair_of rows files x) (Run core t n) → length y.lwk.frames ≡ length x.lwk.frames → y.lwk.pool.frames ≡ x.lwk.pool.frames → Kept y
  kept-after-run p s core t n k there sides workers is pages pool =
      kept-after rows files x y p s s (Run core t n) k there (sides ∙ put-same x.sides.map p s there) workers is pages pool refl refl
