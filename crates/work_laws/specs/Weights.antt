-- What is left to do for the requests, messages, faults, pins and rounds of the processes, as a number. What the calls, threads and processes count stands in KernelLeft.
use Rattle.ikc_ring.specs.declared.Msg.TheVariants as Messages
use Rattle.request_book.specs.declared.ReqState.TheVariants as States
use Rattle.clear_rounds.specs.declared.Phase.{Phase}
use Rattle.clear_rounds.specs.declared.Phase.TheVariants.{Posted, Taken, Acked}
use Rattle.file_model.specs.Files.{Files}
use Rattle.hybrid_model.specs.Copy.{is_uncopied}
use Rattle.hybrid_model.specs.Pairs.{Pair}
use Rattle.hybrid_model.specs.Sides.{LinuxSide, Noted, Round, Row, Service, Side, looked_up, service_of}
use Rattle.hybrid_model.specs.Tallies.{Reads, sum_rings, tally}
use Rattle.ikc_ring.specs.declared.CallRequest.{CallRequest}
use Rattle.ikc_ring.specs.declared.Msg.{Msg}
use Rattle.kernel_model.specs.Progress.{is_not_ready, is_ready, needed_access, next_kind, next_piece}
use Rattle.mck_word.specs.Maps.{at, entries, total}
use Rattle.page_pins.specs.declared.Pin.{Pin}
use Rattle.request_book.specs.declared.ReqState.{ReqState}
use Rattle.std.specs.Prelude.{Bool, None, Option, Some, cond, is_none, nat_lt, not, sum_by, ℕ, ◌*◌, ◌+◌, ◌==◌, ◌||◌}

-- ---- a request

-- of a request that is Held: from a miss to the copy of a piece
abbrev pub rank_held : Bool → Bool → Bool → ℕ
rank_held ready without_row uncopied = cond ready (cond uncopied 2 (cond without_row 12 4)) 1

abbrev pub rank_of : Files → Service → Reads Pin → Reads Row → ℕ
rank_of files k pins mirror =
    rank_held (is_ready (next_kind files k.progress)) (is_none (looked_up (mirror (next_piece k.progress).page) (needed_access k.progress))) (is_uncopied (pins k.worker))

-- whether it may leave the state Parked
abbrev pub wakes : Files → Service → Bool
wakes files k = k.interrupted || not (is_not_ready (next_kind files k.progress))

-- the part of a request that no answer takes away until it is Replied, and what is above it at most
abbrev pub of_reply : ℕ
of_reply = 20

abbrev pub most_rank : ℕ
most_rank = 14

abbrev pub of_state : Files → Service → Reads Pin → Reads Row → ReqState → ℕ
of_state files k pins mirror States.Posted = of_reply + 14
of_state files k pins mirror States.Waiting = of_reply + 13
of_state files k pins mirror States.Held = of_reply + rank_of files k pins mirror
of_state files k pins mirror States.Faulted = of_reply + 2
of_state files k pins mirror States.Parked = of_reply + cond (wakes files k) 14 0
of_state files k pins mirror States.Ended = of_reply
of_state files k pins mirror States.Replied = of_reply

abbrev pub of_request : Files → LinuxSide → ℕ × (ReqState × CallRequest) → ℕ
of_request files l e = of_state files (service_of l.services e.0) (at l.pins) (at l.mirror) e.1.0

-- the requests of a process at most, one for each place of a thread
abbrev pub most_requests : ℕ
most_requests = 16

-- by how much the requests of a process may count more after any change
abbrev pub any_change : ℕ
any_change = most_rank * most_requests

-- ---- messages, faults, pins and rounds

-- what a Clear may set back, for so many workers: every request, and the answer to each worker
abbrev pub of_clear : ℕ → ℕ
of_clear workers = any_change + 8 * workers + 1

-- an answer whose row has other rights than the table now gives may, once it is installed, take a right from the mirror that a request needs
abbrev pub of_late : Option Row → Row → ℕ
of_late None r = any_change
of_late (Some now) r = cond (now.1.0 == r.1.0) 0 any_change

abbrev pub of_row : Option Row → Option Row → ℕ
of_row now None = 0
of_row now (Some r) = of_late now r

-- a message to Linux; an answer that a fetched Clear has overtaken sends its worker back to the miss
abbrev pub of_message : ℕ → ℕ → Reads Row → Msg → ℕ
of_message workers cleared table (Messages.Clear r) = of_clear workers
of_message workers cleared table (Messages.Answer w page number row) = cond (nat_lt number cleared) 11 (3 + of_row (table page) row)
of_message workers cleared table (Messages.Interrupt q place) = 15
of_message workers cleared table _ = 0

-- a message back to the lightweight kernel
abbrev pub of_back : Msg → ℕ
of_back (Messages.Reply q code) = 19
of_back Messages.Ack = 1
of_back (Messages.Fault w page a) = 9
of_back _ = 0

-- a noted fault lies above its answer
abbrev pub of_noted : Noted → ℕ
of_noted n = 8

abbrev pub of_pin : Pin → ℕ
of_pin x = 1

abbrev pub of_phase : Phase → ℕ
of_phase Posted = 3
of_phase Taken = 3
of_phase Acked = 1

-- before a round begins there is its Clear to come; the thread that changes memory pays for it again when a round is over
abbrev pub of_round : ℕ → Option Round → ℕ
of_round workers None = of_clear workers + 4
of_round workers (Some r) = of_phase r.0

-- what the end of a round raises at most
abbrev pub of_change : ℕ → ℕ
of_change workers = of_clear workers + 4 + any_change * workers

-- ---- a side, and all sides

abbrev pub of_requests : Files → Side → ℕ
of_requests files s = sum_by (of_request files s.linux) (entries s.book.rows)

abbrev pub of_rings : ℕ → Side → ℕ
of_rings workers s = sum_rings (of_message workers s.linux.cleared (at s.lwk.table)) s.to_linux

abbrev pub of_side : ℕ → Files → Side → ℕ
of_side workers files s = of_requests files s + of_rings workers s + (tally of_back s.to_lwk + total of_noted s.lwk.noted + total of_pin s.linux.pins + of_round workers s.round)

abbrev pub sides_left : Pair → ℕ
sides_left pair = total (of_side pair.workers pair.node.files) pair.sides
