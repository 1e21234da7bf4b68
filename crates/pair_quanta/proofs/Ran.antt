-- What comes of quanta in one process, as what comes of them in the state.
use Rattle.file_model.specs.Files.{Files}
use Rattle.hybrid_model.specs.Events.{of_thread}
use Rattle.hybrid_model.specs.OneProcess.{memory_here}
use Rattle.hybrid_model.specs.Pairs.{Here, here}
use Rattle.hybrid_model.specs.Run.{executed_in_run, left_of_limit}
use Rattle.hybrid_model.specs.Sides.{Row}
use Rattle.hybrid_model.specs.declared.events.Event.TheVariants.{Run}
use Rattle.kernel_model.specs.Nodes.{thread_of}
use Rattle.lwk_quanta.specs.Coming.{RanOver as RanHere}
use Rattle.mck_word.specs.Maps.{at}
use Rattle.mck_word.specs.Maps.{Map}
use Rattle.mck_word.specs.declared.Tid.{Tid}
use Rattle.node_quanta.specs.Happening.{may_run_on, memory_of, regs_of}
use Rattle.pair_core.proofs.Found.{after-is, here-is}
use Rattle.pair_core.specs.Shown.{here_in, pair_of}
use Rattle.pair_core.specs.declared.parts.Parts.{Parts}
use Rattle.pair_core.specs.declared.parts.Side.{Side}
use Rattle.pair_quanta.proofs.Same.{put-same}
use Rattle.pair_quanta.specs.Coming.{RanOver}
use Rattle.rv_quantum.specs.Differing.{FirstDiffers}
use Rattle.rv_quantum.specs.Promised.{Agrees}
use Rattle.rv_quantum.specs.Told.{first_regs, pages_seen, total}
use Rattle.rv_quantum.specs.declared.differs.Differs.{Differs}
use Rattle.rv_quantum.specs.declared.quanta.Quanta.{Quanta}
use Rattle.std.proofs.Common.{ap, subst, sym, ◌∙◌}
use Rattle.std.specs.Prelude.{Some, true, ℕ, ◌≡◌, ◌≤◌}

module _ {T F : Type 0} (rows : T → Map Row) (files : F → Files) (x : Parts T F) (t : Tid) (p : ℕ) (s : Side T) (there : at x.sides.map p ≡ Some s)
    (process : of_thread (pair_of rows files x).node t.0 ≡ p) where
  -- what holds of the process holds of the thread's process in the state
  of-state : (P : Here → Type 0) → P (here_in rows files x s) → P (here (pair_of rows files x) (of_thread (pair_of rows files x).node t.0))
  of-state P h =
      let pair = pair_of rows files x in
      subst (λ q. P (here pair q)) (sym process) (subst P (sym (here-is rows files x p s there)) h)

  pub differs-is : (q : Quanta) (d : Differs)
      → FirstDiffers (first_regs q) (pages_seen q) (thread_of (here_in rows files x s).node t.0).regs (memory_here (here_in rows files x s)) d
      → FirstDiffers (first_regs q) (pages_seen q) (regs_of (pair_of rows files x) t.0) (memory_of (pair_of rows files x) (of_thread (pair_of rows files x).node t.0)) d
  differs-is q d h = of-state (λ k. FirstDiffers (first_regs q) (pages_seen q) (thread_of k.node t.0).regs (memory_here k) d) h

  pub ran-is : (y : Parts T F) (core : ℕ) (q : Quanta) → may_run_on (pair_of rows files x) core t.0 ≡ true → total q ≤ left_of_limit (pair_of rows files x).node
      → y.sides.map ≡ x.sides.map → RanHere t.0 q (here_in rows files x s) (here_in rows files y s) → RanOver core t q (pair_of rows files x) (pair_of rows files y)
  ran-is y core q may within sides h = record {
    fits = record {
      may = may;
      limit = within;
      regs = of-state (λ k. (thread_of k.node t.0).regs ≡ first_regs q) h.regs;
      pages = of-state (λ k. Agrees (pages_seen q) (memory_here k)) h.pages;
    };
    executed = of-state (λ k. total q ≡ executed_in_run t.0 (total q) k) h.executed;
    event = after-is rows files x y p s s (Run core t (total q)) there (sides ∙ put-same x.sides.map p s there) process h.event;
  }
