-- What the parts say of a thread and of a process's memory is what the state says.
use Rattle.file_model.specs.Files.{Files}
use Rattle.hybrid_model.specs.OneProcess.{memory_here}
use Rattle.hybrid_model.specs.Pairs.{here, side_of}
use Rattle.hybrid_model.specs.Run.{left_of_limit}
use Rattle.hybrid_model.specs.Sides.{Row, Side as SideOf, new_side}
use Rattle.hybrid_model.specs.Spaces.{shown_memory, shown_row}
use Rattle.isa_model.specs.Memory.{page_at}
use Rattle.kernel_model.specs.Nodes.{has_thread, instructions_in_all, is_there, thread_of}
use Rattle.kernel_model.specs.Traps.{may_run}
use Rattle.kernel_tables.specs.Shown.{node_of}
use Rattle.mck_word.specs.EachLaws.{at-each}
use Rattle.mck_word.specs.MapLaws.{at-none}
use Rattle.mck_word.specs.Maps.{Map, at}
use Rattle.node_quanta.specs.Happening.{may_run_on, memory_of}
use Rattle.pair_core.proofs.KernelFacts.{lives-any}
use Rattle.pair_core.specs.Shown.{pair_of, shown_side}
use Rattle.pair_core.specs.declared.parts.Parts.{Parts}
use Rattle.pair_core.specs.declared.parts.Side.{Side}
use Rattle.std.proofs.Common.{ap, refl, sym, ◌∙◌}
use Rattle.std.specs.Prelude.{Bool, None, false, option_map, true, unwrap_or, ℕ, ◌%◌, ◌&&◌, ◌-◌, ◌==◌, ◌≡◌}

first-of : (a b : Bool) → (a && b) ≡ true → a ≡ true
first-of true b e = refl
first-of false b e = absurd (cc)

last-of : (a b : Bool) → (a && b) ≡ true → b ≡ true
last-of true b e = e
last-of false b e = absurd (cc)

module _ {T F : Type 0} (rows : T → Map Row) (files : F → Files) (x : Parts T F) where
  pub may-is : (core t p : ℕ) (b : Bool) → ((other : Files) → b ≡ (is_there (node_of x.lwk.node other) p && may_run (node_of x.lwk.node other) t && t % x.lwk.cores == core))
      → ((other : Files) → p ≡ (thread_of (node_of x.lwk.node other) t).process) → b ≡ may_run_on (pair_of rows files x) core t
  unfolding pair_of
  may-is core t p b e process =
      let node = node_of x.lwk.node (files x.files) in
      e (files x.files) ∙ ap (λ k. is_there node k && may_run node t && t % x.lwk.cores == core) (process (files x.files))

  pub left-is : (n : ℕ) → ((other : Files) → n ≡ (node_of x.lwk.node other).limit - instructions_in_all (node_of x.lwk.node other)) → n ≡ left_of_limit (pair_of rows files x).node
  unfolding pair_of
  left-is n e = e (files x.files)

  -- the process is there, and the thread lives, whatever the files are
  pub there-is : (core t p : ℕ) → may_run_on (pair_of rows files x) core t ≡ true → (thread_of (pair_of rows files x).node t).process ≡ p
      → is_there (pair_of rows files x).node p ≡ true
  there-is core t p e process =
      let pair = pair_of rows files x in
      ap (is_there pair.node) (sym process)
      ∙ first-of (is_there pair.node (thread_of pair.node t).process) (may_run pair.node t) (first-of _ (t % pair.cores == core) e)

  pub lives-is : (core t : ℕ) → may_run_on (pair_of rows files x) core t ≡ true → (other : Files) → has_thread (node_of x.lwk.node other) t ≡ true
  unfolding pair_of
  lives-is core t e other =
      let node = node_of x.lwk.node (files x.files) in
      let runs : may_run node t ≡ true = last-of (is_there node (thread_of node t).process) (may_run node t) (first-of _ (t % x.lwk.cores == core) e) in
      lives-any x.lwk.node t (files x.files) other (first-of _ _ (first-of _ _ (first-of _ _ runs)))

  -- a process without a side has no page
  none-side : (p : ℕ) → at x.sides.map p ≡ None → side_of (pair_of rows files x) p ≡ new_side 0
  unfolding pair_of
  none-side p e = ap (λ o. unwrap_or o (new_side 0)) (at-each (shown_side rows) x.sides.map p ∙ ap (option_map (shown_side rows)) e)

  pub no-page : (p page : ℕ) → at x.sides.map p ≡ None → page_at (memory_of (pair_of rows files x) p) page ≡ None
  no-page p page e =
      let pair = pair_of rows files x in
      ap (λ (s : SideOf). page_at (shown_memory s.lwk.table pair.frames) page) (none-side p e)
      ∙ at-each (shown_row pair.frames) (new_side 0).lwk.table page
      ∙ ap (option_map (shown_row pair.frames)) (at-none page)
