-- The boot, guest by guest: the two kernels before the first guest, and with a guest more.
use Rattle.hybrid_model.specs.Boot.{Booted, with_guest, zero_frames}
use Rattle.hybrid_model.specs.Pairs.{Pair}
use Rattle.job_model.specs.declared.image.Image.{Image}
use Rattle.job_model.specs.declared.job.GuestLine.{GuestLine}
use Rattle.job_model.specs.declared.job.Job.{Job}
use Rattle.kernel_model.specs.Nodes.{Node, Thread}
use Rattle.kernel_model.specs.OneKernel.{Guest, boot_files, first_free_number, guest_process, guest_thread, script_lines}
use Rattle.mck_word.specs.Lists.{count_from}
use Rattle.mck_word.specs.Maps.{at, no_rows, put}
use Rattle.std.specs.Prelude.{None, Some, [], ℕ, ◌≡◌, ◌≤◌}

abbrev pub guest_at : ℕ → GuestLine → Image → Guest
guest_at n line image = record { number = n; arguments = line.args; image = image }

-- the node with a guest's process and its thread
abbrev pub node_with : Guest → Node → Node
node_with g node = record node { processes = put node.processes g.number (guest_process g); threads = put node.threads g.number (guest_thread g) }

abbrev pub booted_in : Pair → Booted
booted_in x = record { sides = x.sides; frames = x.frames; free = x.free }

-- the two kernels with a guest more
abbrev pub pair_with : Pair → Guest → Pair
pair_with x g =
    let b = with_guest x.rings (booted_in x) g in
    record x { node = node_with g x.node; sides = b.sides; frames = b.frames; free = b.free }

-- before the first guest
abbrev pub no_guests : Job → Pair
no_guests job = record {
  node = record {
    processes = no_rows;
    threads = no_rows;
    sleepers = [];
    files = boot_files job;
    unsent = script_lines 0 job.signals;
    next_number = first_free_number;
    frame_count = job.frames;
    limit = job.limit;
  };
  sides = no_rows;
  frames = zero_frames (count_from 0 job.frames);
  free = count_from 0 job.frames;
  turns = no_rows;
  last = no_rows;
  cores = job.cores;
  workers = job.workers;
  rings = job.rings;
}

-- no thread was made but the first ones of the guests below n
pub record IsBefore (n : ℕ) (node : Node) : Type 0 where
  pub next : node.next_number ≡ first_free_number
  pub none : (t : ℕ) → n ≤ t → at node.threads t ≡ None
  pub own : (t : ℕ) (y : Thread) → at node.threads t ≡ Some y → y.process ≡ t
