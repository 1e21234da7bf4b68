-- Steps on views, put together.
use Rattle.file_model.specs.Files.{Files}
use Rattle.hybrid_model.specs.Sides.{Row}
use Rattle.hybrid_model.specs.Spaces.{written_back}
use Rattle.isa_model.specs.Memory.{Memory, may_access, write_bytes}
use Rattle.kernel_model.specs.Nodes.{Node as KernelNode}
use Rattle.kernel_model.specs.Signals.{Store, View, on_node, store, stored_all, try_store, view}
use Rattle.kernel_tables.specs.Shown.{node_of}
use Rattle.kernel_tables.specs.declared.tables.KernelTables.{KernelTables}
use Rattle.lwk_space.proofs.WrittenBack.{written-back}
use Rattle.lwk_space.specs.Frames.{frames_map}
use Rattle.lwk_space.specs.Lacks.{OthersStay, memory}
use Rattle.lwk_space.specs.Rows.{FramesIn}
use Rattle.lwk_views.proofs.Reading.{may_any}
use Rattle.lwk_views.specs.Views.{Did, DidAlone, Stepped, seen, tried}
use Rattle.mck_word.specs.Maps.{Map}
use Rattle.mck_word.specs.declared.Access.TheVariants.{Write}
use Rattle.std.proofs.Common.{ap, refl, sym, ◌∙◌}
use Rattle.std.specs.Prelude.{Bool, List, [], cond, false, length, true, ℕ, ◌++◌, ◌∷◌, ◌≡◌}

-- A node and frames are where a view has come to, whose step began with some frames.
pub record Stands (rows : Map Row) (pages : List (List ℕ)) (node : KernelNode) (left : List (List ℕ)) (v : View) : Type 0 where
  pub began : v.memory ≡ memory rows pages
  pub now : node ≡ v.node
  pub stored : memory rows left ≡ stored_all v.stores (memory rows pages)

stored_more : (ss : List Store) (s : Store) (m : Memory) → stored_all (ss ++ s ∷ []) m ≡ write_bytes (stored_all ss m) s.address s.bytes
stored_more [] s m = refl
stored_more (x ∷ ss) s m = stored_more ss s (write_bytes m x.address x.bytes)

module _ (rows : Map Row) (pages : List (List ℕ)) where
  pub begins : (node : KernelNode) → Stands rows pages node pages (view node (memory rows pages))
  begins node = record { began = refl; now = refl; stored = refl }

  -- the node alone is changed
  pub steps : (f : KernelNode → KernelNode) (node after : KernelNode) (left : List (List ℕ)) (v : View) → after ≡ f node → Stands rows pages node left v → Stands rows pages after left (on_node f v)
  steps f node after left v e h = record { began = h.began; now = e ∙ ap f h.now; stored = h.stored }

  -- bytes are stored
  pub stores : (address : ℕ) (bytes : List ℕ) (node : KernelNode) (left next : List (List ℕ)) (v : View) → memory rows next ≡ write_bytes (memory rows left) address bytes
      → Stands rows pages node left v → Stands rows pages node next (store address bytes v)
  stores address bytes node left next v e h = record {
    began = h.began;
    now = h.now;
    stored = e ∙ ap (λ m. write_bytes m address bytes) h.stored ∙ sym (stored_more v.stores (record { address = address; bytes = bytes }) (memory rows pages));
  }

  -- bytes are stored, where they may be
  pub tries : (address : ℕ) (bytes : List ℕ) (node : KernelNode) (left next : List (List ℕ)) (v : View) → memory rows next ≡ tried address bytes (memory rows left)
      → Stands rows pages node left v → Stands rows pages node next (try_store address bytes v)
  tries address bytes node left next v e h = go (may_access v.memory Write address (length bytes)) refl
    where
      same : (b : Bool) → may_access v.memory Write address (length bytes) ≡ b → may_access (memory rows left) Write address (length bytes) ≡ b
      same b is = may_any rows left pages Write address (length bytes) ∙ (ap (λ m. may_access m Write address (length bytes)) (sym h.began) ∙ is)

      go : (b : Bool) → may_access v.memory Write address (length bytes) ≡ b → Stands rows pages node next (cond b (store address bytes v) v)
      go true is = stores address bytes node left next v (e ∙ ap (λ b. cond b (write_bytes (memory rows left) address bytes) (memory rows left)) (same true is)) h
      go false is = record {
        began = h.began;
        now = h.now;
        stored = (e ∙ ap (λ b. cond b (write_bytes (memory rows left) address bytes) (memory rows left)) (same false is)) ∙ h.stored;
      }

  -- the memory is what it was
  pub unstored : (node : KernelNode) (left : List (List ℕ)) (v : View) → memory rows left ≡ memory rows pages → Stands rows pages node pages v → Stands rows pages node left v
  unstored node left v e h = record { began = h.began; now = h.now; stored = e ∙ h.stored }

  -- a step is done
  pub did : (before after : KernelTables) (left : List (List ℕ)) (word : View → View) → FramesIn rows pages → OthersStay rows pages left → length left ≡ length pages
      → ((files : Files) → Stands rows pages (node_of after files) left (word (seen rows before pages files))) → Did rows before pages after left word
  did before after left word inside others len h = record {
    node = λ files. (h files).now;
    frames = λ files. written-back rows pages left inside others len ∙ ap (λ m. written_back rows m (frames_map pages)) (h files).stored;
    count = len;
  }

  -- a step of the node alone
  pub did_on_node : (before after : KernelTables) (f : KernelNode → KernelNode) → FramesIn rows pages → Stepped before after f → Did rows before pages after pages (on_node f)
  did_on_node before after f inside h = did before after pages (on_node f) inside (λ k none. refl) refl
      (λ files. steps f (node_of before files) (node_of after files) pages (seen rows before pages files) (h files) (begins (node_of before files)))

  -- and of the node after a step
  pub did_then : (before middle after : KernelTables) (left : List (List ℕ)) (word : View → View) (f : KernelNode → KernelNode) → Did rows before pages middle left word → Stepped middle after f
      → Did rows before pages after left (λ v. on_node f (word v))
  did_then before middle after left word f h g = record { node = λ files. g files ∙ ap f (h.node files); frames = h.frames; count = h.count }

  -- a word that comes to another where the step begins
  pub did_as : (before after : KernelTables) (left : List (List ℕ)) (word other : View → View) → ((files : Files) → other (seen rows before pages files) ≡ word (seen rows before pages files))
      → Did rows before pages after left word → Did rows before pages after left other
  did_as before after left word other e h = record {
    node = λ files. h.node files ∙ ap (λ (v : View). v.node) (sym (e files));
    frames = λ files. h.frames files ∙ ap (λ (v : View). written_back rows (stored_all v.stores (memory rows pages)) (frames_map pages)) (sym (e files));
    count = h.count;
  }

-- a step that touches no memory
pub did_alone : (before after : KernelTables) (f : KernelNode → KernelNode) → Stepped before after f → DidAlone before after (on_node f)
did_alone before after f h = λ rows pages inside. did_on_node rows pages before after f inside h

pub did_alone_as : (before after : KernelTables) (word other : View → View) → ((rows : Map Row) (pages : List (List ℕ)) (files : Files) → other (seen rows before pages files) ≡ word (seen rows before pages files))
    → DidAlone before after word → DidAlone before after other
did_alone_as before after word other e h = λ rows pages inside. did_as rows pages before after pages word other (e rows pages) (h rows pages inside)
