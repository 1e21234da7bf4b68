-- What the tables of a node show, in the words of the definitions.
use Rattle.file_model.specs.Files.{Files}
use Rattle.kernel_model.specs.Nodes.{Node as KernelNode, Process as KernelProcess, ScriptLine as KernelLine}
use Rattle.kernel_model.specs.declared.Does.{Does}
use Rattle.kernel_tables.specs.declared.process_rows.Process.{Process}
use Rattle.kernel_tables.specs.declared.tables.KernelTables.{KernelTables}
use Rattle.kernel_tables.specs.declared.script_lines.ScriptLine.{ScriptLine}
use Rattle.lwk_threads.specs.Shown.{shown_threads}
use Rattle.mck_word.specs.Maps.{each}
use Rattle.std.specs.Prelude.{map}

abbrev pub shown_process : Process → KernelProcess
shown_process x = record {
  parent = x.parent.0;
  waited = x.waited;
  first_code = x.first_code;
  life = x.life;
  instructions = x.instructions;
  actions = x.actions;
  pending = x.pending.0;
  program_break = x.program_break;
  heap_base = x.heap_base;
}

abbrev pub shown_line : ScriptLine → KernelLine
shown_line x = record { index = x.index; line = x.line; process = x.process.0; signal = x.signal; after = x.after }

-- the node that the tables show, beside the files, which the kernel's tables don't hold
unfoldable pub node_of : KernelTables → Files → KernelNode
node_of n files = record {
  processes = each shown_process n.processes.map;
  threads = shown_threads (λ (d : Does). d) n.threads.threads;
  sleepers = n.sleepers.list;
  files = files;
  unsent = map shown_line n.unsent.items;
  next_number = n.threads.threads.next;
  frame_count = n.frame_count;
  limit = n.limit;
}
