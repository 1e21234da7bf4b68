-- Steps on views, put together.
use Rattle.file_model.specs.Files.{Files}
use Rattle.isa_model.specs.Memory.{Memory}
use Rattle.kernel_model.specs.Nodes.{Node as KernelNode}
use Rattle.kernel_model.specs.Signals.{View, on_node, stored_all, view}
use Rattle.kernel_tables.specs.declared.tables.KernelTables.{KernelTables}
use Rattle.one_calls.specs.Views.{Did, DidAlone, Stepped, seen}
use Rattle.std.proofs.Common.{ap, refl, sym, ◌∙◌}
use Rattle.std.specs.Prelude.{◌≡◌}

module _ (m : Memory) where
  -- a word that comes to another where the step begins
  pub did_as : (before after : KernelTables) (left : Memory) (word other : View → View) → ((files : Files) → other (seen before m files) ≡ word (seen before m files)) → Did before m after left word → Did before m after left other
  did_as before after left word other e h = record {
    node = λ files. h.node files ∙ ap (λ (v : View). v.node) (sym (e files));
    memory = λ files. h.memory files ∙ ap (λ (v : View). stored_all v.stores m) (sym (e files));
  }

  -- a step that touches no memory
  pub alone_did : (before after : KernelTables) (word : View → View) → DidAlone before after word → Did before m after m word
  alone_did before after word h = record { node = λ files. ap (λ (v : View). v.node) (h files m); memory = λ files. ap (λ (v : View). stored_all v.stores m) (h files m) }

  -- the node alone is changed
  pub did_on_node : (before after : KernelTables) (f : KernelNode → KernelNode) → Stepped before after f → Did before m after m (on_node f)
  did_on_node before after f h = record { node = h; memory = λ files. refl }

  -- the node is stepped, and a word goes on from there
  pub did_after : (before middle after : KernelTables) (left : Memory) (f : KernelNode → KernelNode) (word : View → View) → Stepped before middle f → Did middle m after left word → Did before m after left (λ v. word (on_node f v))
  did_after before middle after left f word step d = record {
    node = λ files. d.node files ∙ ap (λ (k : KernelNode). (word (view k m)).node) (step files);
    memory = λ files. d.memory files ∙ ap (λ (k : KernelNode). stored_all (word (view k m)).stores m) (step files);
  }
