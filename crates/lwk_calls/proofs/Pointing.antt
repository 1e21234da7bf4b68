-- Stores through pointers that may be 0, and a word from where a step of the node ends.
use Rattle.hybrid_model.specs.Sides.{Row}
use Rattle.hybrid_model.specs.Spaces.{written_back}
use Rattle.isa_model.specs.Memory.{Memory, may_access, read_bytes}
use Rattle.kernel_model.specs.Nodes.{Node as KernelNode}
use Rattle.kernel_model.specs.Signals.{View, on_node, store, stored_all, view}
use Rattle.lwk_calls.specs.SignalWords.{put_at, readable, stores_at, writable}
use Rattle.kernel_tables.specs.declared.tables.KernelTables.{KernelTables}
use Rattle.lwk_space.specs.Frames.{frames_map}
use Rattle.lwk_space.specs.Lacks.{memory}
use Rattle.lwk_views.proofs.Doing.{Stands, stores}
use Rattle.lwk_views.proofs.Reading.{tried_done}
use Rattle.lwk_views.specs.Views.{Did, Stepped, read_or, tried}
use Rattle.mck_word.specs.Maps.{Map}
use Rattle.mck_word.specs.declared.Access.TheVariants.{Read, Write}
use Rattle.std.proofs.Common.{ap, sym, ◌∙◌}
use Rattle.std.proofs.lemmas.Bool.{ne_eqb}
use Rattle.std.specs.Prelude.{Bool, List, None, Some, cond, false, length, true, ℕ, ◌==◌, ◌||◌, ◌≡◌, ◌≢◌}

-- what is asked for is what stands there
pub reads_there : {A : Type 0} (f : List ℕ → A) (m : Memory) (address : ℕ) (old bytes : List ℕ) → address ≢ 0 → readable m address (length old) ≡ true → bytes ≡ read_or old address m
    → Some (f bytes) ≡ cond (address == 0) None (Some (f (read_bytes m address (length old))))
reads_there f m address old bytes some may read =
    let there = ne_eqb address 0 some in
    let allowed : may_access m Read address (length old) ≡ true = ap (λ b. b || may_access m Read address (length old)) (sym there) ∙ may in
    let now : bytes ≡ read_bytes m address (length old) = read ∙ ap (λ b. cond b (read_bytes m address (length old)) old) allowed in
    ap (λ bs. Some (f bs)) now ∙ sym (ap (λ b. cond b None (Some (f (read_bytes m address (length old))))) there)

module _ (rows : Map Row) (pages : List (List ℕ)) where
  -- bytes are stored, where they are asked for
  pub stores_there : (address : ℕ) (bytes : List ℕ) (node : KernelNode) (left next : List (List ℕ)) (v : View) → writable (memory rows left) address (length bytes) ≡ true
      → memory rows next ≡ put_at address bytes (memory rows left) → Stands rows pages node left v → Stands rows pages node next (stores_at address bytes v)
  stores_there address bytes node left next v may e h = go (address == 0) may e
    where
      go : (b : Bool) → (b || may_access (memory rows left) Write address (length bytes)) ≡ true → memory rows next ≡ cond b (memory rows left) (tried address bytes (memory rows left))
          → Stands rows pages node next (cond b v (store address bytes v))
      go true may e = record { began = h.began; now = h.now; stored = e ∙ h.stored }
      go false may e = stores rows pages address bytes node left next v (e ∙ tried_done (memory rows left) address bytes may) h

  -- the node is stepped, and a word goes on from there
  pub did_after : (before middle after : KernelTables) (left : List (List ℕ)) (f : KernelNode → KernelNode) (word : View → View)
      → Stepped before middle f → Did rows middle pages after left word → Did rows before pages after left (λ v. word (on_node f v))
  did_after before middle after left f word step d = record {
    node = λ files. d.node files ∙ ap (λ (k : KernelNode). (word (view k (memory rows pages))).node) (step files);
    frames = λ files. d.frames files ∙ ap (λ (k : KernelNode). written_back rows (stored_all (word (view k (memory rows pages))).stores (memory rows pages)) (frames_map pages)) (step files);
    count = d.count;
  }
