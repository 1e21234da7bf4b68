-- What holds of the whole state: frames, turns, sleepers, numbers; and coherence.
-- Source: this project's own, after the idea of IHK/McKernel.
use Rattle.hybrid_model.specs.Coherence.{OfProcess}
use Rattle.hybrid_model.specs.Pairs.{Pair, side_of}
use Rattle.hybrid_model.specs.Rings.{all_empty}
use Rattle.file_model.specs.Files.{description_of}
use Rattle.hybrid_model.specs.Turns.{pipe_end}
use Rattle.hybrid_model.specs.Shown.{status_of}
use Rattle.hybrid_model.specs.Sides.{Side, Row, Turn, Caller, state_of, service_of}
use Rattle.hybrid_model.specs.Tallies.{Reads, tally, if_same, counted}
use Rattle.kernel_model.specs.MemoryCalls.{most_heap}
use Rattle.kernel_model.specs.Nodes.{Node, Thread, Process, Sleeper, is_ended, is_there, has_process, is_stopped, instructions_in_all}
use Rattle.kernel_model.specs.OneKernel.{first_free_number, CallStatus, Active, Blocked, Over}
use Rattle.kernel_model.specs.Pages.{page_size}
use Rattle.kernel_model.specs.declared.Does.TheVariants.{Asleep}
use Rattle.kernel_model.specs.CallPhases.{Phase, Gather, Act, Scatter, Stream}
use Rattle.kernel_model.specs.Progress.{Progress}
use Rattle.mck_word.specs.Maps.{at, no_rows, total, values, count, entries}
use Rattle.request_book.specs.declared.ReqState.{ReqState}
use Rattle.request_book.specs.declared.ReqState.TheVariants.{Waiting, Held}
use Rattle.std.specs.Prelude.{Bool, List, None, Option, Some, [], ◌∷◌, is_some, count_by, false, filter, length, slice_get, true, ℕ, ◌%◌, ◌+◌, ◌-◌, ◌<◌, ◌==◌, ◌≡◌, ◌≤◌}

abbrev pub copies : ℕ → List ℕ → ℕ
copies f free = tally (if_same f) free

-- each number is above the one before it
abbrev pub Rising : List ℕ → Type 0
Rising [] = Unit {0}
Rising (f ∷ []) = Unit {0}
Rising (f ∷ g ∷ fs) = (f < g) × Rising (g ∷ fs)

-- Each row's frame is below the count, isn't free and stands in no other row; the free frames rise, so the first is the lowest. With the count, each frame is free or in exactly one row.
pub record Frames (tables : ℕ → Reads Row) (free : List ℕ) : Type 0 where
  pub not_free : (p i : ℕ) (r : Row) → tables p i ≡ Some r → copies r.0.0 free ≡ 0
  pub apart : (p i : ℕ) (r : Row) (q j : ℕ) (t : Row) → tables p i ≡ Some r → tables q j ≡ Some t → r.0 ≡ t.0 → (p ≡ q) × (i ≡ j)
  pub rising : Rising free

pub record FramesCounted (pair : Pair) : Type 0 where
  pub rows_below : (p i : ℕ) (r : Row) → at (side_of pair p).lwk.table i ≡ Some r → r.0.0 < pair.node.frame_count
  pub free_below : (f : ℕ) → 1 ≤ copies f pair.free → f < pair.node.frame_count
  pub counted : length pair.free + total (λ (s : Side). count s.lwk.table) pair.sides ≡ pair.node.frame_count

-- an Ended process has no table row, mirror row, pin, round, message, noted fault or busy worker
pub record Empty (s : Side) : Type 0 where
  pub table : s.lwk.table ≡ no_rows
  pub mirror : s.linux.mirror ≡ no_rows
  pub pins : s.linux.pins ≡ no_rows
  pub round : s.round ≡ None
  pub to_linux : all_empty s.to_linux ≡ true
  pub to_lwk : s.to_lwk ≡ []
  pub noted : s.lwk.noted ≡ no_rows
  pub workers : s.linux.workers ≡ no_rows

abbrev pub waits_or_held : ReqState → Bool
waits_or_held Waiting = true
waits_or_held Held = true
waits_or_held _ = false

-- the request that has the turn of a pipe's end is Waiting or Held, and its description is open on that end
pub record TurnHolds (pair : Pair) (e : ℕ) (t : Turn) : Type 0 where
  pub waits : waits_or_held (state_of (side_of pair t.process).book t.request) ≡ true
  pub own : pipe_end pair.node.files (service_of (side_of pair t.process).linux.services t.request).progress ≡ Some e

abbrev pub TurnsHold : Pair → Type 0
TurnsHold pair = (e : ℕ) (t : Turn) → at pair.turns e ≡ Some t → TurnHolds pair e t

-- the description that a call holds: an ended one holds none
abbrev pub description_held : CallStatus → Option ℕ
description_held (Active p) = p.found
description_held (Blocked p) = p.found
description_held (Over answer) = None

abbrev pub is_number : ℕ → Option ℕ → Bool
is_number d None = false
is_number d (Some n) = n == d

-- how many calls of a process hold description d
abbrev pub holders : ℕ → Side → ℕ
holders d s = count_by (λ (c : ℕ × Caller). is_number d (description_held (status_of s c.1.request))) (entries s.lwk.callers)

-- a description knows how many calls hold it
abbrev pub DescriptionsHeld : Pair → Type 0
DescriptionsHeld pair = (d : ℕ) → (description_of pair.node.files d).calls ≡ total (holders d) pair.sides

-- ---- calls

-- the acts that are before a call
abbrev pub acts_left : List Phase → ℕ
acts_left [] = 0
acts_left (Gather rs ∷ phases) = acts_left phases
acts_left (Act ∷ phases) = 1 + acts_left phases
acts_left (Scatter rs ∷ phases) = acts_left phases
acts_left (Stream rs ∷ phases) = acts_left phases

-- a call under way has a phase left, and found its description only by the one act that it had
pub record IsUnderWay (p : Progress) : Type 0 where
  pub phases : 1 ≤ length p.phases
  pub acts : acts_left p.phases + counted p.found ≤ 1

abbrev pub StatusHolds : CallStatus → Type 0
StatusHolds (Active p) = IsUnderWay p
StatusHolds (Blocked p) = IsUnderWay p
StatusHolds (Over answer) = Unit {0}

abbrev pub CallsHold : Side → Type 0
CallsHold s = (t : ℕ) (c : Caller) → at s.lwk.callers t ≡ Some c → StatusHolds (status_of s c.request)

-- Numbers of threads and processes are below the next one. Each thread's process was made and is not Ended, and each process that was made has a side.
pub record Known (pair : Pair) : Type 0 where
  pub threads_below : (t : ℕ) (x : Thread) → at pair.node.threads t ≡ Some x → t < pair.node.next_number
  pub threads_there : (t : ℕ) (x : Thread) → at pair.node.threads t ≡ Some x → is_there pair.node x.process ≡ true
  pub processes_below : (p : ℕ) (x : Process) → at pair.node.processes p ≡ Some x → p < pair.node.next_number
  pub sides_are : (p : ℕ) → is_some (at pair.sides p) ≡ has_process pair.node p

-- each sleeper's thread is Asleep there, and sleeps once
pub record Sleeping (node : Node) : Type 0 where
  pub asleep : (k : ℕ) (s : Sleeper) → slice_get node.sleepers k ≡ Some s → (x : Thread) × (at node.threads s.thread ≡ Some x) × (x.does ≡ Asleep s.address) × (x.process ≡ s.process)
  pub once : (t : ℕ) → count_by (λ (s : Sleeper). s.thread == t) node.sleepers ≤ 1

-- threads of one process have different places below 16
pub record Places (node : Node) : Type 0 where
  pub below : (t : ℕ) (x : Thread) → at node.threads t ≡ Some x → x.place < 16
  pub apart : (t u : ℕ) (x y : Thread) → at node.threads t ≡ Some x → at node.threads u ≡ Some y → x.process ≡ y.process → x.place ≡ y.place → t ≡ u

-- a heap begins at a page, and no break is above the heap's limit
pub record HeapHolds (x : Process) : Type 0 where
  pub aligned : x.heap_base % page_size ≡ 0
  pub below : x.program_break ≤ x.heap_base + most_heap

abbrev pub HeapsHold : Node → Type 0
HeapsHold node = (p : ℕ) (x : Process) → at node.processes p ≡ Some x → HeapHolds x

-- the numbers given, the threads and processes made and the Stopped threads are together at most the instructions, and these at most the limit
pub record NumbersPaid (pair : Pair) : Type 0 where
  pub paid : total (λ (s : Side). s.book.next - 1) pair.sides + (pair.node.next_number - first_free_number) + length (filter (λ (x : Thread). is_stopped x.does) (values pair.node.threads)) ≤ instructions_in_all pair.node
  pub limit : instructions_in_all pair.node ≤ pair.node.limit

-- there is a core, and each process has the job's number of rings, at least one
pub record RingsAre (pair : Pair) : Type 0 where
  pub cores : 1 ≤ pair.cores
  pub rings : 1 ≤ pair.rings
  pub each : (p : ℕ) (s : Side) → at pair.sides p ≡ Some s → length s.to_linux ≡ pair.rings

abbrev pub ring_number : Pair → ℕ → ℕ
ring_number pair t = t % pair.cores % pair.rings

abbrev pub table_of : Pair → ℕ → Reads Row
table_of pair p = at (side_of pair p).lwk.table

pub record Coherent (pair : Pair) : Type 0 where
  pub whole : (p : ℕ) → OfProcess p (side_of pair p) pair.node pair.workers (ring_number pair)
  pub frames : Frames (table_of pair) pair.free
  pub counted : FramesCounted pair
  pub ended : (p : ℕ) → is_ended pair.node p ≡ true → Empty (side_of pair p)
  pub turns : TurnsHold pair
  pub rings : RingsAre pair
  pub held : DescriptionsHeld pair
  pub calls : (p : ℕ) → CallsHold (side_of pair p)
  pub known : Known pair
  pub sleeping : Sleeping pair.node
  pub places : Places pair.node
  pub heaps : HeapsHold pair.node
  pub numbers : NumbersPaid pair
