-- Runs of one process with what all share, one after another.
use Rattle.hybrid_laws.proofs.memory.Shapes.{run_for-rights, shown-back}
use Rattle.hybrid_laws.proofs.run.Run.{TableApart}
use Rattle.hybrid_model.specs.OneProcess.{memory_here}
use Rattle.hybrid_model.specs.Pairs.{Here}
use Rattle.hybrid_model.specs.Run.{executed_in_run, length_of_run, ran, run, run_for}
use Rattle.hybrid_model.specs.Spaces.{written_back}
use Rattle.isa_model.specs.Memory.{Memory}
use Rattle.kernel_model.specs.Traps.{Ran}
use Rattle.mck_word.specs.Maps.{put}
use Rattle.run_laws.proofs.Joined.{length-joins, length-stops, ready_in, run-joins, run-stops}
use Rattle.run_laws.proofs.Twice.{put-twice, written-twice}
use Rattle.std.proofs.Common.{ap, sym, ◌∙◌}
use Rattle.std.specs.Prelude.{false, true, ℕ, ◌%◌, ◌+◌, ◌≡◌}

module _ (t n k : ℕ) (h : Here) where
  abbrev begins : Ran
  begins = record { node = h.node; memory = memory_here h }

  abbrev first : Ran
  first = run_for n t begins

  abbrev whole : Ran
  whole = run_for (n + k) t begins

  module _ (apart : TableApart h.side.lwk.table) (ready : ready_in t (run_for n t begins) ≡ true) where
    -- the second begins with what the first left
    shown : memory_here (run t n h) ≡ first.memory
    unfolding run
    shown = shown-back h.side.lwk.table h.frames first.memory apart (run_for-rights n t begins)

    second : ran t k (run t n h) ≡ whole
    unfolding run
    second = ap (λ (m : Memory). run_for k t (record { node = first.node; memory = m })) shown ∙ sym (run-joins t n k begins ready)

    pub here-joins : run t k (run t n h) ≡ run t (n + k) h
    unfolding run
    here-joins =
        let table = h.side.lwk.table in
        let f = ap (λ (v : Ran). written_back table v.memory (written_back table first.memory h.frames)) second ∙ written-twice table first.memory whole.memory h.frames in
        let l = put-twice h.last (t % h.cores) t t in
        λ i. record h { node = (second i).node; frames = f i; last = l i }

    pub executed-joins : executed_in_run t (n + k) h ≡ n + executed_in_run t k (run t n h)
    unfolding run
    executed-joins = length-joins t n k begins ready ∙ ap (λ (m : Memory). n + length_of_run k t (record { node = first.node; memory = m })) (sym shown)

  module _ (begun : ready_in t begins ≡ true) (stopped : ready_in t (run_for n t begins) ≡ false) where
    pub here-stops : run t (n + k) h ≡ run t n h
    unfolding run
    here-stops =
        let e = run-stops t n k begins begun stopped in
        let table = h.side.lwk.table in
        λ i. record h { node = (e i).node; frames = written_back table (e i).memory h.frames; last = put h.last (t % h.cores) t }

    pub executed-stops : executed_in_run t (n + k) h ≡ executed_in_run t n h
    executed-stops = length-stops t n k begins begun stopped
