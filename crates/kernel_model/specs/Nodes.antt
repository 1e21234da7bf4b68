-- The state that both machines have in common, as one value: processes, threads, sleepers, files, the script. What a machine keeps of memory and of calls stands beside it.
-- Source: this project's own.
use Rattle.file_model.specs.Files.{Files}
use Rattle.isa_model.specs.Registers.{with_reg}
use Rattle.isa_model.specs.declared.stops.Stop.{Stop}
use Rattle.kernel_model.specs.declared.Action.{Action}
use Rattle.kernel_model.specs.declared.Change.{Change}
use Rattle.kernel_model.specs.declared.Does.{Does}
use Rattle.kernel_model.specs.declared.Does.TheVariants.{Asleep, Called, InVm, InWait, Stopped, Ready}
use Rattle.kernel_model.specs.declared.Life.{Life}
use Rattle.kernel_model.specs.declared.Life.TheVariants.{Dying, Ended, Living}
use Rattle.mck_word.specs.Lists.{lowest_not_in}
use Rattle.mck_word.specs.Maps.{Map, at, cut, change, values, total}
use Rattle.mck_word.specs.Words.{word_of}
use Rattle.mck_word.specs.declared.End.{End}
use Rattle.mck_word.specs.declared.End.TheVariants.{Exit}
use Rattle.mck_word.specs.declared.Regs.{Regs}
use Rattle.std.specs.Prelude.{Bool, List, None, Option, Some, [], false, filter, is_some, map, not, replicate, slice_index_or, true, unwrap_or, ℕ, ℤ, ◌%◌, ◌&&◌, ◌+◌, ◌-◌, ◌==◌, ◌^◌}

-- ---- processes

-- `parent` is 0 for a guest. `waited` says that the end was waited for, `first_code` is the code that the first thread gave to exit.
pub record Process : Type 0 where
  pub parent : ℕ
  pub waited : Bool
  pub first_code : Option ℕ
  pub life : Life
  pub instructions : ℕ
  pub actions : List Action
  pub pending : ℕ
  pub program_break : ℕ
  pub heap_base : ℕ

-- `back` says that the thread stands back on an interrupted ecall. `place` is one of sixteen in its process.
pub record Thread : Type 0 where
  pub process : ℕ
  pub place : ℕ
  pub regs : Regs
  pub mask : ℕ
  pub pending : ℕ
  pub clear_address : ℕ
  pub back : Bool
  pub does : Does

pub record Sleeper : Type 0 where
  pub process : ℕ
  pub address : ℕ
  pub thread : ℕ

-- an unsent line of the script: its place among the signal lines, its line in the job, and what it sends once the process has executed so many instructions
pub record ScriptLine : Type 0 where
  pub index : ℕ
  pub line : ℕ
  pub process : ℕ
  pub signal : ℕ
  pub after : ℕ

pub record Node : Type 0 where
  pub processes : Map Process
  pub threads : Map Thread
  pub sleepers : List Sleeper
  pub files : Files
  pub unsent : List ScriptLine
  pub next_number : ℕ
  pub frame_count : ℕ
  pub limit : ℕ

abbrev pub most_threads : ℕ
most_threads = 16

abbrev pub most_processes : ℕ
most_processes = 1_024

-- ---- looking up

abbrev pub no_action : Action
no_action = record { handler = 0; flags = 0; mask = record { 0 = 0 } }

abbrev pub no_process : Process
no_process = record { parent = 0; waited = false; first_code = None; life = Ended (Exit 0); instructions = 0; actions = []; pending = 0; program_break = 0; heap_base = 0 }

-- all 32 registers are 0
abbrev pub no_regs : Regs
no_regs = record { pc = 0; x = replicate 32 0 }

abbrev pub no_thread : Thread
no_thread = record { process = 0; place = 0; regs = no_regs; mask = 0; pending = 0; clear_address = 0; back = false; does = Ready }

abbrev pub process_of : Node → ℕ → Process
process_of node p = unwrap_or (at node.processes p) no_process

abbrev pub has_process : Node → ℕ → Bool
has_process node p = is_some (at node.processes p)

abbrev pub thread_of : Node → ℕ → Thread
thread_of node t = unwrap_or (at node.threads t) no_thread

-- a live thread
abbrev pub has_thread : Node → ℕ → Bool
has_thread node t = is_some (at node.threads t)

abbrev pub threads_of : Node → ℕ → List Thread
threads_of node p = filter (λ (x : Thread). x.process == p) (values node.threads)

abbrev pub lives : Life → Bool
lives Living = true
lives _ = false

abbrev pub dying : Life → Bool
dying (Dying e) = true
dying _ = false

abbrev pub has_ended : Life → Bool
has_ended (Ended e) = true
has_ended _ = false

abbrev pub is_living : Node → ℕ → Bool
is_living node p = lives (process_of node p).life

abbrev pub is_dying : Node → ℕ → Bool
is_dying node p = dying (process_of node p).life

abbrev pub is_ended : Node → ℕ → Bool
is_ended node p = has_ended (process_of node p).life

-- a process that was made and is not Ended
abbrev pub is_there : Node → ℕ → Bool
is_there node p = has_process node p && not (is_ended node p)

abbrev pub action_of : Process → ℕ → Action
action_of p signal = slice_index_or p.actions (signal - 1) no_action

abbrev pub ready_to_run : Does → Bool
ready_to_run Ready = true
ready_to_run _ = false

abbrev pub is_called : Does → Bool
is_called Called = true
is_called _ = false

abbrev pub is_asleep : Does → Bool
is_asleep (Asleep a) = true
is_asleep _ = false

abbrev pub is_stopped : Does → Bool
is_stopped (Stopped s) = true
is_stopped _ = false

-- asleep at an address or waiting for a child
abbrev pub rests : Does → Bool
rests (Asleep a) = true
rests (InWait pid status) = true
rests _ = false

abbrev pub change_in : Does → Option Change
change_in (InVm c) = Some c
change_in _ = None

abbrev pub stop_in : Does → Option Stop
stop_in (Stopped s) = Some s
stop_in _ = None

-- the instructions of all processes together
abbrev pub instructions_in_all : Node → ℕ
instructions_in_all node = total (λ (p : Process). p.instructions) node.processes

-- ---- changing

abbrev pub change_process : ℕ → (Process → Process) → Node → Node
change_process p f node = record node { processes = change node.processes p f }

abbrev pub change_thread : ℕ → (Thread → Thread) → Node → Node
change_thread t f node = record node { threads = change node.threads t f }

abbrev pub set_files : Files → Node → Node
set_files files node = record node { files = files }

abbrev pub set_does : ℕ → Does → Node → Node
set_does t does node = change_thread t (λ x. record x { does = does }) node

abbrev pub set_a0 : ℕ → Regs → Regs
set_a0 value r = with_reg r 10 value

abbrev pub set_reg : ℕ → ℕ → Regs → Regs
set_reg n value r = with_reg r n value

abbrev pub set_pc : ℕ → Regs → Regs
set_pc pc r = record r { pc = pc % 2 ^ 64 }

-- the thread has its answer in a0 and is Ready
abbrev pub answered : ℕ → ℤ → Node → Node
answered t answer node = change_thread t (λ x. record x { regs = set_a0 (word_of answer) x.regs; does = Ready }) node

-- the thread is back on its ecall with a0 as it was, and Ready
abbrev pub sent_back : ℕ → Node → Node
sent_back t node = change_thread t (λ x. record x { regs = set_pc (x.regs.pc + (2 ^ 64 - 4)) x.regs; back = true; does = Ready }) node

-- the first end that is given stays
abbrev pub dies_from : End → Life → Life
dies_from end Living = Dying end
dies_from end life = life

abbrev pub dies : End → Process → Process
dies end p = record p { life = dies_from end p.life }

abbrev pub without_thread : ℕ → Node → Node
without_thread t node = record node { threads = cut node.threads t }

abbrev pub without_sleeper : ℕ → Node → Node
without_sleeper t node = record node { sleepers = filter (λ (x : Sleeper). not (x.thread == t)) node.sleepers }

-- the lowest place that no live thread of the process has
abbrev pub lowest_free_place : Node → ℕ → ℕ
lowest_free_place node p = lowest_not_in (map (λ (x : Thread). x.place) (threads_of node p))
