-- The guests at the boot, one after another: the node before the first guest, and with a guest more.
use Rattle.job_model.specs.declared.image.Image.{Image}
use Rattle.job_model.specs.declared.job.GuestLine.{GuestLine}
use Rattle.job_model.specs.declared.job.Job.{Job}
use Rattle.kernel_model.specs.Layout.{guest_regs, heap_base_of}
use Rattle.kernel_model.specs.Nodes.{Node, Process, Thread, no_action, no_process, no_thread}
use Rattle.kernel_model.specs.OneKernel.{Guest, boot_files, first_free_number, script_lines}
use Rattle.kernel_model.specs.declared.Life.TheVariants.{Living}
use Rattle.mck_word.specs.Maps.{at, no_rows, put}
use Rattle.mck_word.specs.declared.Regs.{Regs}
use Rattle.std.specs.Prelude.{None, Some, [], replicate, ℕ, ◌≡◌, ◌≤◌}

abbrev pub guest_at : ℕ → GuestLine → Image → Guest
guest_at n line image = record { number = n; arguments = line.args; image = image }

-- a process whose heap begins at the base, and its first thread
abbrev pub new_process : ℕ → Process
new_process base = record no_process { life = Living; actions = replicate 64 no_action; program_break = base; heap_base = base }

abbrev pub new_thread : ℕ → Regs → Thread
new_thread n regs = record no_thread { process = n; regs = regs }

-- the node with them
abbrev pub begun : ℕ → Regs → ℕ → Node → Node
begun n regs base node = record node { processes = put node.processes n (new_process base); threads = put node.threads n (new_thread n regs) }

-- the node with a guest more
abbrev pub node_with : Guest → Node → Node
node_with g node = begun g.number (guest_regs g.image g.arguments) (heap_base_of g.image) node

-- before the first guest
abbrev pub without_guests : Job → Node
without_guests job = record {
  processes = no_rows;
  threads = no_rows;
  sleepers = [];
  files = boot_files job;
  unsent = script_lines 0 job.signals;
  next_number = first_free_number;
  frame_count = job.frames;
  limit = job.limit;
}

-- no thread was made but the first ones of the guests below n
pub record IsBefore (n : ℕ) (node : Node) : Type 0 where
  pub next : node.next_number ≡ first_free_number
  pub none : (t : ℕ) → n ≤ t → at node.threads t ≡ None
  pub own : (t : ℕ) (y : Thread) → at node.threads t ≡ Some y → y.process ≡ t
