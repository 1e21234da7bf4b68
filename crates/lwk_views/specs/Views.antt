-- What a step of the definitions makes of the tables of a node and of the frames, through the table of one process.
use Rattle.file_model.specs.Files.{Files}
use Rattle.hybrid_model.specs.Sides.{Row}
use Rattle.hybrid_model.specs.Spaces.{written_back}
use Rattle.isa_model.specs.Memory.{Memory, may_access, read_bytes, write_bytes}
use Rattle.kernel_model.specs.Nodes.{Node as KernelNode}
use Rattle.kernel_model.specs.Signals.{View, stored_all, view}
use Rattle.kernel_tables.specs.Shown.{node_of}
use Rattle.kernel_tables.specs.declared.tables.KernelTables.{KernelTables}
use Rattle.lwk_space.specs.Frames.{frames_map}
use Rattle.lwk_space.specs.Lacks.{memory}
use Rattle.lwk_space.specs.Rows.{FramesIn}
use Rattle.mck_word.specs.Maps.{Map}
use Rattle.mck_word.specs.declared.Access.TheVariants.{Read, Write}
use Rattle.std.specs.Prelude.{List, cond, length, ℕ, ◌≡◌}

-- what the tables and the frames show of a process: the node, its memory, and nothing stored yet
abbrev pub seen : Map Row → KernelTables → List (List ℕ) → Files → View
seen rows node pages files = view (node_of node files) (memory rows pages)

-- the memory after a store that is left out where it can't be made
abbrev pub tried : ℕ → List ℕ → Memory → Memory
tried address bytes m = cond (may_access m Write address (length bytes)) (write_bytes m address bytes) m

-- the bytes at an address, or those that were there before, where they can't be read
abbrev pub read_or : List ℕ → ℕ → Memory → List ℕ
read_or old address m = cond (may_access m Read address (length old)) (read_bytes m address (length old)) old

-- The tables and the frames after a step are those that its word makes of what they showed before: the node is the word's, and
-- the frames are those before with the word's stores written back through the table's rows.
pub record Did (rows : Map Row) (before : KernelTables) (pages : List (List ℕ)) (after : KernelTables) (left : List (List ℕ)) (word : View → View) : Type 0 where
  pub node : (files : Files) → node_of after files ≡ (word (seen rows before pages files)).node
  pub frames : (files : Files) → frames_map left ≡ written_back rows (stored_all (word (seen rows before pages files)).stores (memory rows pages)) (frames_map pages)
  pub count : length left ≡ length pages

-- A node is stepped by a word of the definitions on nodes.
abbrev pub Stepped : KernelTables → KernelTables → (KernelNode → KernelNode) → Type 0
Stepped before after f = (files : Files) → node_of after files ≡ f (node_of before files)

-- a step that touches no memory, whatever the table and the frames are
abbrev pub DidAlone : KernelTables → KernelTables → (View → View) → Type 0
DidAlone before after word = (rows : Map Row) (pages : List (List ℕ)) → FramesIn rows pages → Did rows before pages after pages word
