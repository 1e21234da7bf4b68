-- The one-kernel machine: its state, one process at a time, and its state at the boot.
-- Source: this project's own.
use Rattle.file_model.specs.Files.{Files, root_only, with_console}
use Rattle.file_model.specs.Paths.{with_file}
use Rattle.isa_model.specs.Memory.{Memory}
use Rattle.job_model.specs.declared.image.Image.{Image}
use Rattle.job_model.specs.declared.job.FileLine.{FileLine}
use Rattle.job_model.specs.declared.job.GuestLine.{GuestLine}
use Rattle.job_model.specs.declared.job.InputLine.{InputLine}
use Rattle.job_model.specs.declared.job.Job.{Job}
use Rattle.job_model.specs.declared.job.SignalLine.{SignalLine}
use Rattle.kernel_model.specs.Layout.{guest_memory, guest_regs, heap_base_of}
use Rattle.kernel_model.specs.Nodes.{Node, Process, ScriptLine, Thread, no_action, no_process, no_thread}
use Rattle.kernel_model.specs.Progress.{Progress}
use Rattle.kernel_model.specs.declared.Life.TheVariants.{Living}
use Rattle.mck_word.specs.Lists.{count_from}
use Rattle.mck_word.specs.Maps.{Map, at, put, count, no_rows}
use Rattle.std.specs.Prelude.{Bool, List, None, Option, Some, [], find, fold, length, replicate, sum_by, unwrap_or, ℕ, ℤ, ◌+◌, ◌-◌, ◌==◌, ◌∷◌}

-- ---- the state

-- a delegated call: under way, waiting, or ended with its answer
pub data CallStatus : Type 0 where
  Active : Progress → CallStatus
  Blocked : Progress → CallStatus
  Over : (answer : ℤ) → CallStatus

-- the call of a thread that is Called; it is marked once its interruption was asked for
pub record Call : Type 0 where
  pub marked : Bool
  pub status : CallStatus

-- what a process has beside its part of the node: its memory, and the calls of its threads
pub record Own : Type 0 where
  pub memory : Memory
  pub calls : Map Call

-- `free` is the frame count less the rows of all processes
pub record OneKernel : Type 0 where
  pub node : Node
  pub own : Map Own
  pub free : ℕ

-- ---- one process with what all share; and the process that a step makes

pub record OneHere : Type 0 where
  pub own : Own
  pub node : Node
  pub free : ℕ
  pub born : Option (ℕ × Own)

abbrev pub no_own : Own
no_own = record { memory = no_rows; calls = no_rows }

abbrev pub one_here : OneKernel → ℕ → OneHere
one_here one p = record { own = unwrap_or (at one.own p) no_own; node = one.node; free = one.free; born = None }

abbrev pub with_born : Map Own → Option (ℕ × Own) → Map Own
with_born m None = m
with_born m (Some b) = put m b.0 b.1

abbrev pub put_one_here : OneKernel → ℕ → OneHere → OneKernel
put_one_here one p h = record { own = with_born (put one.own p h.own) h.born; node = h.node; free = h.free }

-- ---- files at the boot

abbrev pub bytes_of_input : Option InputLine → List ℕ
bytes_of_input None = []
bytes_of_input (Some l) = l.bytes

abbrev pub input_of : Job → ℕ → List ℕ
input_of job guest = bytes_of_input (find (λ (l : InputLine). l.guest == guest) job.inputs)

abbrev pub with_line : Files → FileLine → Files
with_line files line = with_file line.path line.bytes files

abbrev pub with_consoles : Job → List ℕ → Files → Files
with_consoles job [] files = files
with_consoles job (guest ∷ guests) files = with_consoles job guests (with_console guest (input_of job guest) files)

unfoldable pub boot_files : Job → Files
boot_files job = with_consoles job (count_from 1 (length job.guests)) (fold with_line root_only job.files)

-- ---- processes and threads at the boot

-- a guest: its number, its arguments and its image
pub record Guest : Type 0 where
  pub number : ℕ
  pub arguments : List (List ℕ)
  pub image : Image

abbrev pub guests_from : ℕ → List GuestLine → List Image → List Guest
guests_from n [] images = []
guests_from n (a ∷ as_) [] = []
guests_from n (a ∷ as_) (image ∷ images) = record { number = n; arguments = a.args; image = image } ∷ guests_from (n + 1) as_ images

unfoldable pub guests_of : Job → List Image → List Guest
guests_of job images = guests_from 1 job.guests images

abbrev pub guest_process : Guest → Process
guest_process g = record no_process { life = Living; actions = replicate 64 no_action; program_break = heap_base_of g.image; heap_base = heap_base_of g.image }

abbrev pub guest_thread : Guest → Thread
guest_thread g = record no_thread { process = g.number; regs = guest_regs g.image g.arguments }

abbrev pub script_lines : ℕ → List SignalLine → List ScriptLine
script_lines k [] = []
script_lines k (l ∷ ls) = record { index = k; line = l.line; process = l.guest; signal = l.sig; after = l.after } ∷ script_lines (k + 1) ls

abbrev pub first_free_number : ℕ
first_free_number = 17

-- a row for each guest, by its number
abbrev pub by_guest : {V : Type 0} → (Guest → V) → List Guest → Map V
by_guest f [] = no_rows
by_guest f (g ∷ gs) = put (by_guest f gs) g.number (f g)

abbrev pub boot_node : Job → List Image → Node
boot_node job images = record {
  processes = by_guest guest_process (guests_of job images);
  threads = by_guest guest_thread (guests_of job images);
  sleepers = [];
  files = boot_files job;
  unsent = script_lines 0 job.signals;
  next_number = first_free_number;
  frame_count = job.frames;
  limit = job.limit;
}

abbrev pub guest_own : Guest → Own
guest_own g = record { memory = guest_memory g.image g.arguments; calls = no_rows }

abbrev pub rows_of_guests : List Guest → ℕ
rows_of_guests gs = sum_by (λ (g : Guest). count (guest_memory g.image g.arguments)) gs

-- the one-kernel state of a job and its images
abbrev pub boot : Job → List Image → OneKernel
boot job images = record {
  node = boot_node job images;
  own = by_guest guest_own (guests_of job images);
  free = job.frames - rows_of_guests (guests_of job images);
}
