-- What a step of the definitions makes of the tables of a node and of the memory of one process.
use Rattle.file_model.specs.Files.{Files}
use Rattle.isa_model.specs.Memory.{Memory}
use Rattle.kernel_model.specs.Nodes.{Node as KernelNode}
use Rattle.kernel_model.specs.Signals.{View, stored_all, view}
use Rattle.kernel_tables.specs.Shown.{node_of}
use Rattle.kernel_tables.specs.declared.tables.KernelTables.{KernelTables}
use Rattle.std.specs.Prelude.{◌≡◌}

-- what the tables and the memory show of a process: the node, its memory, and nothing stored yet
abbrev pub seen : KernelTables → Memory → Files → View
seen node m files = view (node_of node files) m

-- The tables and the memory after a step are those that its word makes of what they showed before: the node is the
-- word's, and the memory is the one before with the word's stores in it, one after another.
pub record Did (before : KernelTables) (m : Memory) (after : KernelTables) (left : Memory) (word : View → View) : Type 0 where
  pub node : (files : Files) → node_of after files ≡ (word (seen before m files)).node
  pub memory : (files : Files) → left ≡ stored_all (word (seen before m files)).stores m

-- a step that touches no memory, whatever it is
abbrev pub DidAlone : KernelTables → KernelTables → (View → View) → Type 0
DidAlone before after word = (files : Files) (m : Memory) → seen after m files ≡ word (seen before m files)

-- a node is stepped by a word of the definitions on nodes
abbrev pub Stepped : KernelTables → KernelTables → (KernelNode → KernelNode) → Type 0
Stepped before after f = (files : Files) → node_of after files ≡ f (node_of before files)
