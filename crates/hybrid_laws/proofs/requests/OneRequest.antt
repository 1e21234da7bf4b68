-- One fetched request gets another state: the process is whole again once its table, its round and its workers are.
use Rattle.file_model.specs.Files.{Files}
use Rattle.hybrid_laws.proofs.maps.Reading.{reads-stated}
use Rattle.hybrid_laws.proofs.requests.Requests.{Answered-state}
use Rattle.hybrid_laws.proofs.rings.InRings.{InRings, in_rings, rings-services, rings-state}
use Rattle.hybrid_model.specs.Coherence.{Answered, Covered, OfProcess, Rounded, Served, is_live, is_posted, service_at}
use Rattle.hybrid_model.specs.Sides.{Book, LinuxSide, Side, with_state}
use Rattle.hybrid_model.specs.Tallies.{Reads, with_at}
use Rattle.ikc_ring.specs.declared.CallRequest.{CallRequest}
use Rattle.ikc_ring.specs.declared.Msg.{Msg}
use Rattle.kernel_model.specs.Nodes.{Node, set_files}
use Rattle.mck_word.specs.Maps.{at}
use Rattle.request_book.specs.declared.ReqState.{ReqState}
use Rattle.std.specs.Prelude.{List, Some, true, ℕ, ◌≡◌}

module _ (p : ℕ) (side : Side) (node : Node) (worker_count : ℕ) (ring_of : ℕ → ℕ) (h : OfProcess p side node worker_count ring_of)
    (q : ℕ) (was now : ReqState) (call : CallRequest) (is : at side.book.rows q ≡ Some (was, call)) (live : is_live was ≡ true) (still : is_live now ≡ true) (a : is_posted was ≡ 0) (b : is_posted now ≡ 0) (linux : LinuxSide) (waiting : List ℕ) where
  abbrev pub rows_now : Reads (ReqState × CallRequest)
  rows_now = with_at (at side.book.rows) q (Some (now, call))

  abbrev pub book_now : Book
  book_now = record (with_state side.book q now) { waiting = waiting }

  -- the rings and the messages that come back are others, too
  pub with_messages : (rings : List (List Msg)) (bs : List Msg)
      → Covered (at side.lwk.table) (at linux.mirror) (at linux.pins) side.lwk.begun linux.cleared rings
      → Rounded side.round (at linux.mirror) (at linux.pins) side.lwk.begun linux.cleared rings bs
      → Served worker_count (at linux.workers) rows_now (at linux.services) (at linux.pins) waiting (at side.lwk.noted) rings bs
      → Answered (at side.book.rows) (at side.lwk.callers) side.book.next bs
      → InRings (at side.book.rows) side.book.next (at node.threads) ring_of (at side.lwk.callers) (at linux.services) rings bs
      → OfProcess p (record side { linux = linux; book = book_now; to_linux = rings; to_lwk = bs }) node worker_count ring_of
  with_messages rings bs c d s k i =
      let e = reads-stated now q side.book.rows call was is in
      let j = rings-state (at side.book.rows) side.book.next (at node.threads) ring_of (at side.lwk.callers) (at linux.services) rings bs i q was now call is live still a b in
      record {
        covered = c;
        rounded = d;
        owned = h.owned;
        calls = h.calls;
        served = rw e s;
        answered = rw e (Answered-state (at side.book.rows) q was now call is live still (at side.lwk.callers) side.book.next bs k);
        asked = rw e j.asked;
        interrupts = rw e j.interrupts;
        directions = j.directions;
        messages = rw e j.messages;
        marked = j.marked;
      }

  -- they stay
  pub goes_on : ((x : ℕ) → (service_at (at linux.services) x).interrupted ≡ (service_at (at side.linux.services) x).interrupted)
      → Covered (at side.lwk.table) (at linux.mirror) (at linux.pins) side.lwk.begun linux.cleared side.to_linux
      → Rounded side.round (at linux.mirror) (at linux.pins) side.lwk.begun linux.cleared side.to_linux side.to_lwk
      → Served worker_count (at linux.workers) rows_now (at linux.services) (at linux.pins) waiting (at side.lwk.noted) side.to_linux side.to_lwk
      → OfProcess p (record side { linux = linux; book = book_now }) node worker_count ring_of
  goes_on f c d s = with_messages side.to_linux side.to_lwk c d s h.answered
      (rings-services (at side.book.rows) side.book.next (at node.threads) ring_of (at side.lwk.callers) (at side.linux.services) side.to_linux side.to_lwk (in_rings h) (at linux.services) f)

-- nothing of a process speaks of the files
pub files-any : (p : ℕ) (side : Side) (node : Node) (worker_count : ℕ) (ring_of : ℕ → ℕ) (files : Files) → OfProcess p side node worker_count ring_of → OfProcess p side (set_files files node) worker_count ring_of
files-any p side node worker_count ring_of files h = record { covered = h.covered; rounded = h.rounded; owned = h.owned; served = h.served; answered = h.answered; calls = h.calls; asked = h.asked; interrupts = h.interrupts; directions = h.directions; messages = h.messages; marked = h.marked }
