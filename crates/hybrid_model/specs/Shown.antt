-- The one-kernel state that the two kernels show: read without proxies, mirrors and rounds.
-- Source: this project's own, after the idea of IHK/McKernel.
use Rattle.hybrid_model.specs.Fetch.{first_progress}
use Rattle.hybrid_model.specs.Pairs.{Pair, Here}
use Rattle.hybrid_model.specs.Sides.{Side, Caller, Service, call_in, no_service, state_in}
use Rattle.hybrid_model.specs.Spaces.{shown_memory}
use Rattle.hybrid_model.specs.Tallies.{Reads}
use Rattle.ikc_ring.specs.declared.CallRequest.{CallRequest}
use Rattle.ikc_ring.specs.declared.Msg.{Msg}
use Rattle.ikc_ring.specs.declared.Msg.TheVariants.{Request, Clear, Answer, Interrupt, Reply, Ack, Fault}
use Rattle.kernel_model.specs.OneKernel.{OneKernel, OneHere, Own, Call as OneCall, CallStatus, Active, Blocked, Over}
use Rattle.kernel_model.specs.Progress.{Progress, fault_answer}
use Rattle.mck_word.specs.Maps.{Map, at, each}
use Rattle.request_book.specs.declared.ReqState.{ReqState}
use Rattle.request_book.specs.declared.ReqState.TheVariants.{Posted, Waiting, Held, Parked, Faulted, Ended, Replied}
use Rattle.std.specs.Prelude.{Bool, List, None, Option, Some, [], false, if◌then◌else◌, length, pos, true, ℕ, ℤ, ◌==◌, ◌||◌, ◌∷◌, unwrap_or}

abbrev pub serves_it : ℕ → Option ℕ → Bool
serves_it q None = false
serves_it q (Some n) = n == q

-- an answer with nothing for the worker that serves the request
abbrev pub is_empty_for : Reads ℕ → ℕ → Msg → Bool
is_empty_for workers q (Answer w page number None) = serves_it q (workers w)
is_empty_for workers q _ = false

abbrev pub any_empty : Reads ℕ → ℕ → List Msg → Bool
any_empty workers q [] = false
any_empty workers q (m ∷ ms) = is_empty_for workers q m || any_empty workers q ms

abbrev pub has_empty : Reads ℕ → ℕ → List (List Msg) → Bool
has_empty workers q [] = false
has_empty workers q (ms ∷ rs) = any_empty workers q ms || has_empty workers q rs

-- the answer in the Reply of a number
abbrev pub reply_code : ℕ → List Msg → ℤ
reply_code q [] = pos 0
reply_code q (Reply n code ∷ ms) = if n.0 == q then code else reply_code q ms
reply_code q (Request c ∷ ms) = reply_code q ms
reply_code q (Clear r ∷ ms) = reply_code q ms
reply_code q (Answer w page number row ∷ ms) = reply_code q ms
reply_code q (Interrupt n place ∷ ms) = reply_code q ms
reply_code q (Ack ∷ ms) = reply_code q ms
reply_code q (Fault w page a ∷ ms) = reply_code q ms

abbrev pub ended_if : Bool → Progress → CallStatus
ended_if true p = Over (fault_answer p)
ended_if false p = Active p

-- A call is over where its request is Ended, its Reply is in the ring, or an empty answer to its worker is. It is Blocked where its request is Parked, and else Active.
abbrev pub status_in : ReqState → CallRequest → Service → Bool → ℤ → CallStatus
status_in Posted c k empty code = Active (first_progress c)
status_in Waiting c k empty code = Active k.progress
status_in Held c k empty code = Active k.progress
status_in Parked c k empty code = Blocked k.progress
status_in Faulted c k empty code = ended_if empty k.progress
status_in Ended c k empty code = Over k.answer
status_in Replied c k empty code = Over code

abbrev pub status_by : Reads (ReqState × CallRequest) → Reads Service → Reads ℕ → List (List Msg) → List Msg → ℕ → CallStatus
status_by rows services workers rings bs q =
    status_in (state_in (rows q)) (call_in (rows q)) (unwrap_or (services q) no_service) (has_empty workers q rings) (reply_code q bs)

abbrev pub status_of : Side → ℕ → CallStatus
status_of s q = status_by (at s.book.rows) (at s.linux.services) (at s.linux.workers) s.to_linux s.to_lwk q

abbrev pub shown_call : Side → Caller → OneCall
shown_call s c = record { marked = c.marked; status = status_of s c.request }

abbrev pub shown_own : Map (List ℕ) → Side → Own
shown_own frames s = record { memory = shown_memory s.lwk.table frames; calls = each (shown_call s) s.lwk.callers }

abbrev pub shown_born : Map (List ℕ) → Option (ℕ × Side) → Option (ℕ × Own)
shown_born frames None = None
shown_born frames (Some b) = Some (b.0, shown_own frames b.1)

abbrev pub shown_here : Here → OneHere
shown_here h = record { own = shown_own h.frames h.side; node = h.node; free = length h.free; born = shown_born h.frames h.born }

-- The node is the same. The rows of a process are its table's pages with their rights and their frames' bytes; the calls are those of the requests.
abbrev pub one : Pair → OneKernel
one pair = record { node = pair.node; own = each (shown_own pair.frames) pair.sides; free = length pair.free }
