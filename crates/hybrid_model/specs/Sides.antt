-- What the two kernels keep of one process, beside its part of the node.
-- Source: this project's own, after the idea of IHK/McKernel.
use Rattle.clear_rounds.specs.declared.Phase.{Phase}
use Rattle.ikc_ring.specs.declared.CallRequest.{CallRequest}
use Rattle.ikc_ring.specs.declared.Msg.{Msg}
use Rattle.isa_model.specs.Memory.{allows}
use Rattle.kernel_model.specs.Progress.{Progress, no_progress}
use Rattle.mck_flags.specs.declared.rights.Rights.{Rights}
use Rattle.mck_word.specs.Maps.{Map, at, put, no_rows}
use Rattle.mck_word.specs.Pages.{in_range}
use Rattle.mck_word.specs.declared.Access.{Access}
use Rattle.mck_word.specs.declared.Frame.{Frame}
use Rattle.mck_word.specs.declared.PageRange.{PageRange}
use Rattle.page_pins.specs.declared.Pin.{Pin}
use Rattle.request_book.specs.Requests.{Requests}
use Rattle.request_book.specs.declared.ReqState.{ReqState}
use Rattle.request_book.specs.declared.ReqState.TheVariants.{Replied}
use Rattle.std.specs.Prelude.{Bool, List, None, Option, Some, [], false, if◌then◌else◌, pos, replicate, true, unwrap_or, ℕ, ℤ}
use Rattle.system_calls.specs.declared.file_calls.FileCall.TheVariants.{Close}

-- a row of a table or of a mirror
abbrev pub Row : Type 0
Row = Frame × Rights

-- a fault that the lightweight kernel has taken from the ring: its page and its access
abbrev pub Noted : Type 0
Noted = ℕ × Access

-- the request of a thread that is Called
pub record Caller : Type 0 where
  pub request : ℕ
  pub marked : Bool

-- the round that is under way
abbrev pub Round : Type 0
Round = Phase × PageRange

-- what the lightweight kernel keeps: the table, the noted faults by worker, the number of rounds begun, the thread to which the round belongs, and the calls of its threads
pub record LwkSide : Type 0 where
  pub table : Map Row
  pub noted : Map Noted
  pub begun : ℕ
  pub changing : Option ℕ
  pub callers : Map Caller

-- how far a fetched request is: `worker` is the one that took it last, `answer` its answer once it is Ended
pub record Service : Type 0 where
  pub progress : Progress
  pub interrupted : Bool
  pub worker : ℕ
  pub answer : ℤ

-- what the proxy keeps: the mirror, the pins by worker, the request of each worker that serves one, the services by request, and the number of Clears fetched
pub record LinuxSide : Type 0 where
  pub mirror : Map Row
  pub pins : Map Pin
  pub workers : Map ℕ
  pub services : Map Service
  pub cleared : ℕ

-- the requests that are not replied, by number, and those that wait, in order
abbrev pub Book : Type 0
Book = Requests

pub record Side : Type 0 where
  pub lwk : LwkSide
  pub linux : LinuxSide
  pub book : Book
  pub round : Option Round
  pub to_linux : List (List Msg)
  pub to_lwk : List Msg

-- the request that has the turn of a pipe's end
pub record Turn : Type 0 where
  pub process : ℕ
  pub request : ℕ

-- ---- looking up

abbrev pub no_lwk : LwkSide
no_lwk = record { table = no_rows; noted = no_rows; begun = 0; changing = None; callers = no_rows }

abbrev pub no_linux : LinuxSide
no_linux = record { mirror = no_rows; pins = no_rows; workers = no_rows; services = no_rows; cleared = 0 }

abbrev pub no_book : Book
no_book = record { next = 1; rows = no_rows; waiting = [] }

-- a side at its beginning, with so many rings
abbrev pub new_side : ℕ → Side
new_side rings = record { lwk = no_lwk; linux = no_linux; book = no_book; round = None; to_linux = replicate rings []; to_lwk = [] }

abbrev pub no_service : Service
no_service = record { progress = no_progress; interrupted = false; worker = 0; answer = pos 0 }

abbrev pub service_of : Map Service → ℕ → Service
service_of services q = unwrap_or (at services q) no_service

abbrev pub no_call : CallRequest
no_call = record { q = record { 0 = 0 }; tid = record { 0 = 0 }; call = Close; args = replicate 6 0 }

abbrev pub state_in : Option (ReqState × CallRequest) → ReqState
state_in None = Replied
state_in (Some r) = r.0

abbrev pub call_in : Option (ReqState × CallRequest) → CallRequest
call_in None = no_call
call_in (Some r) = r.1

-- the state of a number that was given; one that left the book is replied
abbrev pub state_of : Book → ℕ → ReqState
state_of b q = state_in (at b.rows q)

abbrev pub call_of : Book → ℕ → CallRequest
call_of b q = call_in (at b.rows q)

-- the book with another state at a number that stands in it
abbrev pub stated : ReqState → Option (ReqState × CallRequest) → ℕ → Map (ReqState × CallRequest) → Map (ReqState × CallRequest)
stated s None q rows = rows
stated s (Some r) q rows = put rows q (s, r.1)

abbrev pub with_state : Book → ℕ → ReqState → Book
with_state b q s = record b { rows = stated s (at b.rows q) q b.rows }

-- the request that a worker serves
abbrev pub serves : LinuxSide → ℕ → ℕ
serves l w = unwrap_or (at l.workers w) 0

abbrev pub served : LinuxSide → ℕ → Service
served l w = service_of l.services (serves l w)

abbrev pub with_service : LinuxSide → ℕ → Service → LinuxSide
with_service l q k = record l { services = put l.services q k }

-- the row, where it has the right
abbrev pub looked_up : Option Row → Access → Option Row
looked_up None a = None
looked_up (Some r) a = if allows a r.1 then Some r else None

abbrev pub no_row : Row
no_row = (record { 0 = 0 }, record { 0 = 0 })

abbrev pub no_pin : Pin
no_pin = record { page = 0; frame = record { 0 = 0 }; rights = record { 0 = 0 }; copied = true }

abbrev pub pin_of : LinuxSide → ℕ → Pin
pin_of l w = unwrap_or (at l.pins w) no_pin

-- the round in another phase, and whether it closes a page
abbrev pub with_phase : Option Round → Phase → Option Round
with_phase None p = None
with_phase (Some r) p = Some (p, r.1)

abbrev pub closes : Option Round → ℕ → Bool
closes None page = false
closes (Some r) page = in_range r.1 page
