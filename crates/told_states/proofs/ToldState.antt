-- Coherence of a whole state is had from there being some proof of it, and so is what lasts and what is small.
use Rattle.kernel_model.specs.contracts.Does as does
use Rattle.mck_flags.specs.contracts.rights.Rights as rights
use Rattle.mck_word.specs.contracts.Access as access
use Rattle.mck_word.specs.contracts.Frame as frame
use Rattle.page_pins.specs.contracts.Pin as pin
use Rattle.std.specs.FinMap as finmap
use Rattle.hybrid_laws.specs.Lasting.{Lasting}
use Rattle.hybrid_model.specs.Coherence.{OfProcess}
use Rattle.hybrid_model.specs.Globals.{Coherent, Empty, Frames, FramesCounted, HeapHolds, IsUnderWay, Known, Places, Rising, Sleeping, StatusHolds, TurnHolds, ring_number, table_of}
use Rattle.hybrid_model.specs.Pairs.{Pair, side_of}
use Rattle.hybrid_model.specs.Shown.{status_of}
use Rattle.hybrid_model.specs.Sides.{Row, Side, Turn}
use Rattle.hybrid_model.specs.Tallies.{Reads}
use Rattle.ikc_ring.specs.declared.Msg.{Msg}
use Rattle.kernel_model.specs.Nodes.{Node, Process, Sleeper, Thread, process_of}
use Rattle.kernel_model.specs.OneKernel.{Active, Blocked, CallStatus, Over}
use Rattle.kernel_model.specs.Progress.{Progress}
use Rattle.kernel_model.specs.declared.Change.TheVariants.{Brk, Map as ChangeMap, Protect, Unmap}
use Rattle.kernel_model.specs.declared.Change.{Change}
use Rattle.kernel_model.specs.declared.Does.TheVariants.{Asleep}
use Rattle.mck_word.specs.Maps.{Map, at, no_rows}
use Rattle.offer_laws.specs.ChangeFits.{ChangeFits, MemoryFits}
use Rattle.offer_laws.specs.Small.{Small}
use Rattle.std.proofs.Common.{ap, arith, refl}
use Rattle.std.proofs.Math.Logic.{∥∥₁_map}
use Rattle.std.specs.Coded.{coded_ℕ, coded×}
use Rattle.std.specs.Prelude.{List, [], length, ℕ, ◌∷◌, ◌≡◌}
use Rattle.told_states.proofs.Told.{Found, Told, bool-told, data-told, found-told, le-told, lt-told, maybe-told, nat-told, never-told, none-told, rings-told}
use Rattle.told_states.proofs.ToldProcess.{calls-told, covered-told, directions-told, interrupt-told, marked-told, messages-told, owned-told, request-told, rounded-told}
use Rattle.told_states.proofs.ToldRequests.{answered-told, served-told}

-- ---- one process

of-process-told : (p : ℕ) (side : Side) (node : Node) (worker_count : ℕ) (ring_of : ℕ → ℕ) → Told (OfProcess p side node worker_count ring_of)
of-process-told p side node worker_count ring_of t = record {
  covered = covered-told (at side.lwk.table) (at side.linux.mirror) (at side.linux.pins) side.lwk.begun side.linux.cleared side.to_linux (∥∥₁_map t (λ x. x.covered));
  rounded = rounded-told side.round (at side.linux.mirror) (at side.linux.pins) side.lwk.begun side.linux.cleared side.to_linux side.to_lwk (∥∥₁_map t (λ x. x.rounded));
  owned = owned-told (process_of node p) (at node.threads) p side.round side.lwk.changing (∥∥₁_map t (λ x. x.owned));
  served = served-told worker_count (at side.linux.workers) (at side.book.rows) (at side.linux.services) (at side.linux.pins) side.book.waiting (at side.lwk.noted) side.to_linux side.to_lwk (∥∥₁_map t (λ x. x.served));
  answered = answered-told (at side.book.rows) (at side.lwk.callers) side.book.next side.to_lwk (∥∥₁_map t (λ x. x.answered));
  calls = calls-told p (at node.threads) (at side.lwk.callers) (∥∥₁_map t (λ x. x.calls));
  asked = rings-told (request-told (at side.book.rows)) side.to_linux (∥∥₁_map t (λ x. x.asked));
  interrupts = rings-told (interrupt-told side.book.next (at side.book.rows) (at node.threads)) side.to_linux (∥∥₁_map t (λ x. x.interrupts));
  directions = directions-told side.to_linux side.to_lwk (∥∥₁_map t (λ x. x.directions));
  messages = messages-told (at side.book.rows) (at node.threads) ring_of (at side.lwk.callers) side.to_linux (∥∥₁_map t (λ x. x.messages));
  marked = marked-told (at side.linux.services) (at side.lwk.callers) side.to_linux (∥∥₁_map t (λ x. x.marked));
}

-- ---- the whole state

rising-told : (fs : List ℕ) → Told (Rising fs)
rising-told [] t = tt
rising-told (f ∷ []) t = tt
rising-told (f ∷ g ∷ fs) t = (lt-told (∥∥₁_map t (λ x. x.0)), rising-told (g ∷ fs) (∥∥₁_map t (λ x. x.1)))

frames-told : (tables : ℕ → Reads Row) (free : List ℕ) → Told (Frames tables free)
frames-told tables free t = record {
  not_free = λ p i r e. nat-told (∥∥₁_map t (λ x. x.not_free p i r e));
  apart = λ p i r q j u e f g. (nat-told (∥∥₁_map t (λ x. (x.apart p i r q j u e f g).0)), nat-told (∥∥₁_map t (λ x. (x.apart p i r q j u e f g).1)));
  rising = rising-told free (∥∥₁_map t (λ x. x.rising));
}

frames-counted-told : (pair : Pair) → Told (FramesCounted pair)
frames-counted-told pair t = record {
  rows_below = λ p i r e. lt-told (∥∥₁_map t (λ x. x.rows_below p i r e));
  free_below = λ f l. lt-told (∥∥₁_map t (λ x. x.free_below f l));
  counted = nat-told (∥∥₁_map t (λ x. x.counted));
}

no-messages-told : (ms : List Msg) → Told (ms ≡ [])
no-messages-told [] t = refl
no-messages-told (m ∷ ms) t = absurd (never-told t (λ e. absurd (let a = ap length e in omega (arith, a))))

empty-told : (s : Side) → Told (Empty s)
empty-told s t = record {
  table = data-told (finmap.code coded_ℕ (coded× frame.the_row.coded rights.the_row.coded)) s.lwk.table no_rows (∥∥₁_map t (λ x. x.table));
  mirror = data-told (finmap.code coded_ℕ (coded× frame.the_row.coded rights.the_row.coded)) s.linux.mirror no_rows (∥∥₁_map t (λ x. x.mirror));
  pins = data-told (finmap.code coded_ℕ pin.the_row.coded) s.linux.pins no_rows (∥∥₁_map t (λ x. x.pins));
  round = none-told s.round (∥∥₁_map t (λ x. x.round));
  to_linux = bool-told (∥∥₁_map t (λ x. x.to_linux));
  to_lwk = no-messages-told s.to_lwk (∥∥₁_map t (λ x. x.to_lwk));
  noted = data-told (finmap.code coded_ℕ (coded× coded_ℕ access.the_row.coded)) s.lwk.noted no_rows (∥∥₁_map t (λ x. x.noted));
  workers = data-told (finmap.code coded_ℕ coded_ℕ) s.linux.workers no_rows (∥∥₁_map t (λ x. x.workers));
}

turn-told : (pair : Pair) (e : ℕ) (x : Turn) → Told (TurnHolds pair e x)
turn-told pair e x t = record { waits = bool-told (∥∥₁_map t (λ y. y.waits)); own = maybe-told (∥∥₁_map t (λ y. y.own)) }

under-way-told : (p : Progress) → Told (IsUnderWay p)
under-way-told p t = record { phases = le-told (∥∥₁_map t (λ x. x.phases)); acts = le-told (∥∥₁_map t (λ x. x.acts)) }

status-told : (c : CallStatus) → Told (StatusHolds c)
status-told (Active p) t = under-way-told p t
status-told (Blocked p) t = under-way-told p t
status-told (Over answer) t = tt

known-told : (pair : Pair) → Told (Known pair)
known-told pair t = record {
  threads_below = λ k x e. lt-told (∥∥₁_map t (λ y. y.threads_below k x e));
  threads_there = λ k x e. bool-told (∥∥₁_map t (λ y. y.threads_there k x e));
  processes_below = λ p x e. lt-told (∥∥₁_map t (λ y. y.processes_below p x e));
  sides_are = λ p. bool-told (∥∥₁_map t (λ y. y.sides_are p));
}

pub record SleepsThere (s : Sleeper) (x : Thread) : Type 0 where
  pub asleep : x.does ≡ Asleep s.address
  pub process : x.process ≡ s.process

sleeps-told : (s : Sleeper) (x : Thread) → Told (SleepsThere s x)
sleeps-told s x t = record { asleep = data-told does.the_row.coded x.does _ (∥∥₁_map t (λ y. y.asleep)); process = nat-told (∥∥₁_map t (λ y. y.process)) }

sleeping-told : (node : Node) → Told (Sleeping node)
sleeping-told node t = record {
  asleep = λ k s e. (let x : Found (at node.threads s.thread) (SleepsThere s) = found-told (sleeps-told s) (at node.threads s.thread)
      (∥∥₁_map t (λ y. let z = y.asleep k s e in record { value = z.0; there = z.1; rest = record { asleep = z.2; process = z.3 } })) in (x.value, x.there, x.rest.asleep, x.rest.process));
  once = λ k. le-told (∥∥₁_map t (λ y. y.once k));
}

places-told : (node : Node) → Told (Places node)
places-told node t = record { below = λ k x e. lt-told (∥∥₁_map t (λ y. y.below k x e)); apart = λ k u x y e f g h. nat-told (∥∥₁_map t (λ z. z.apart k u x y e f g h)) }

heap-told : (x : Process) → Told (HeapHolds x)
heap-told x t = record { aligned = nat-told (∥∥₁_map t (λ y. y.aligned)); below = le-told (∥∥₁_map t (λ y. y.below)) }

pub coherent-told : (pair : Pair) → Told (Coherent pair)
coherent-told pair t = record {
  whole = λ p. of-process-told p (side_of pair p) pair.node pair.workers (ring_number pair) (∥∥₁_map t (λ x. x.whole p));
  frames = frames-told (table_of pair) pair.free (∥∥₁_map t (λ x. x.frames));
  counted = frames-counted-told pair (∥∥₁_map t (λ x. x.counted));
  ended = λ p e. empty-told (side_of pair p) (∥∥₁_map t (λ x. x.ended p e));
  turns = λ e x h. turn-told pair e x (∥∥₁_map t (λ y. y.turns e x h));
  rings = record {
    cores = le-told (∥∥₁_map t (λ x. x.rings.cores));
    rings = le-told (∥∥₁_map t (λ x. x.rings.rings));
    each = λ p s e. nat-told (∥∥₁_map t (λ x. x.rings.each p s e));
  };
  held = λ d. nat-told (∥∥₁_map t (λ x. x.held d));
  calls = λ p k c e. status-told (status_of (side_of pair p) c.request) (∥∥₁_map t (λ x. x.calls p k c e));
  known = known-told pair (∥∥₁_map t (λ x. x.known));
  sleeping = sleeping-told pair.node (∥∥₁_map t (λ x. x.sleeping));
  places = places-told pair.node (∥∥₁_map t (λ x. x.places));
  heaps = λ p x e. heap-told x (∥∥₁_map t (λ y. y.heaps p x e));
  numbers = record { paid = le-told (∥∥₁_map t (λ x. x.numbers.paid)); limit = le-told (∥∥₁_map t (λ x. x.numbers.limit)) };
}

-- ---- what lasts, and what is small

pub lasting-told : (pair : Pair) → Told (Lasting pair)
lasting-told pair t = record { workers = le-told (∥∥₁_map t (λ x. x.workers)); told = λ p k c e m f. le-told (∥∥₁_map t (λ x. x.told p k c e m f)) }

change-told : (c : Change) → Told (ChangeFits c)
change-told (ChangeMap r rights) t = (le-told (∥∥₁_map t (λ x. x.0)), le-told (∥∥₁_map t (λ x. x.1)))
change-told (Unmap r) t = le-told t
change-told (Protect r rights) t = le-told t
change-told (Brk a) t = le-told t

memory-told : (processes : Map Process) (threads : Map Thread) → Told (MemoryFits processes threads)
memory-told processes threads t = record {
  heaps = λ p x e. le-told (∥∥₁_map t (λ y. y.heaps p x e));
  changes = λ k c e. change-told c (∥∥₁_map t (λ y. y.changes k c e));
}

pub small-told : (pair : Pair) → Told (Small pair)
small-told pair t = record {
  cores = le-told (∥∥₁_map t (λ x. x.cores));
  some_worker = le-told (∥∥₁_map t (λ x. x.some_worker));
  workers = le-told (∥∥₁_map t (λ x. x.workers));
  rings = le-told (∥∥₁_map t (λ x. x.rings));
  processes = le-told (∥∥₁_map t (λ x. x.processes));
  positive = bool-told (∥∥₁_map t (λ x. x.positive));
  limit = le-told (∥∥₁_map t (λ x. x.limit));
  memory = memory-told pair.node.processes pair.node.threads (∥∥₁_map t (λ x. x.memory));
}
