-- Heaps, changes and frames of a state that the two kernels show lie in their bounds.
use Rattle.file_model.specs.Files.{Files}
use Rattle.hybrid_model.specs.Globals.{HeapsHold}
use Rattle.job_model.specs.Images.{highest}
use Rattle.kernel_model.specs.MemoryCalls.{most_heap}
use Rattle.kernel_model.specs.Nodes.{Node, Process, change_in, no_process, process_of, thread_of}
use Rattle.kernel_model.specs.OneKernel.{OneKernel}
use Rattle.kernel_model.specs.declared.Change.TheVariants.{Brk, Map as ChangeMap, Protect, Unmap}
use Rattle.kernel_model.specs.declared.Change.{Change}
use Rattle.kernel_tables.specs.Shown.{node_of}
use Rattle.mck_word.specs.EachLaws.{at-each}
use Rattle.mck_word.specs.Maps.{at, count}
use Rattle.offer_laws.proofs.ChangeFits.{low-heap, wanted-fits}
use Rattle.offer_laws.specs.ChangeFits.{ChangeFits}
use Rattle.one_kernel.proofs.Facts.{frames-fit}
use Rattle.one_kernel.proofs.Told.{le-told}
use Rattle.one_kernel.specs.Due.{HeapFits}
use Rattle.one_kernel.specs.Parts.{one_of, shown_own}
use Rattle.node_machine.specs.Reached.{IsShown}
use Rattle.one_kernel.specs.declared.parts.One.{One}
use Rattle.one_kernel.specs.declared.parts.Own.{Own}
use Rattle.std.proofs.Common.{ap, arith, refl, subst, ◌∙◌}
use Rattle.std.specs.Prelude.{None, Option, Some, option_map, unwrap_or, ℕ, ◌+◌, ◌≡◌, ◌≤◌}

low-break : (node : Node) (p : ℕ) → HeapsHold node → (process_of node p).program_break ≤ (process_of node p).heap_base + most_heap
low-break node p holds = go (at node.processes p) refl
  where
    go : (o : Option Process) → at node.processes p ≡ o → (unwrap_or o no_process).program_break ≤ (unwrap_or o no_process).heap_base + most_heap
    go None e = omega arith
    go (Some x) e = (holds p x e).below

told-fits : {A : Type 0} → ∥ A ∥₁ → (c : Change) → (A → ChangeFits c) → ChangeFits c
told-fits t (ChangeMap r rights) f = (le-told t (λ a. (f a).0), le-told t (λ a. (f a).1))
told-fits t (Unmap r) f = le-told t f
told-fits t (Protect r rights) f = le-told t f
told-fits t (Brk a) f = le-told t f

module _ (o : OneKernel) (shown : IsShown o) where
  told-heap : (p : ℕ) → HeapFits (process_of o.node p)
  told-heap p = record {
    base = le-told shown (λ s. subst (λ (y : OneKernel). (process_of y.node p).heap_base ≤ highest) s.shows (low-heap s.pair.node p s.sound.small.memory));
    limit = le-told shown (λ s. subst (λ (y : OneKernel). (process_of y.node p).program_break ≤ (process_of y.node p).heap_base + most_heap) s.shows (low-break s.pair.node p s.sound.coherent.heaps));
  }

  pub told-change : (t : ℕ) (c : Change) → change_in (thread_of o.node t).does ≡ Some c → ChangeFits c
  told-change t c e = told-fits shown c (λ s. subst (λ (y : OneKernel). change_in (thread_of y.node t).does ≡ Some c → ChangeFits c) s.shows (wanted-fits s.pair.node t c s.sound.small.memory) e)

-- whatever the files are
pub heap-in : (x : One) (p : ℕ) → IsShown (one_of x) → (files : Files) → HeapFits (process_of (node_of x.node files) p)
unfolding one_of node_of
heap-in x p shown files = told-heap (one_of x) shown p

-- the frames that are free and those of a row are no more than there are
pub row-fits : (x : One) (p : ℕ) (w : Own) → IsShown (one_of x) → at x.own.map p ≡ Some w → x.free + count w.memory.map ≤ x.node.frame_count
unfolding one_of node_of
row-fits x p w shown there = frames-fit (one_of x) shown p (shown_own w) (at-each shown_own x.own.map p ∙ ap (option_map shown_own) there)
