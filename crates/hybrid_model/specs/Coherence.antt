-- What holds of one process in each state that the two kernels reach: one fact a line, each over just what it speaks of.
-- Source: this project's own, after the idea of IHK/McKernel.
use Rattle.clear_rounds.specs.declared.Phase.{Phase}
use Rattle.clear_rounds.specs.declared.Phase.TheVariants.{Posted as RoundPosted, Taken, Acked}
use Rattle.hybrid_model.specs.Sides.{Row, Noted, Round, Caller, Service, Side, state_in, call_in, closes, no_service}
use Rattle.hybrid_model.specs.Tallies.{Reads, tally, Each, sum_rings, EachRing, EachNumbered, if_same, as_number, counted}
use Rattle.ikc_ring.specs.declared.CallRequest.{CallRequest}
use Rattle.ikc_ring.specs.declared.Msg.{Msg}
use Rattle.ikc_ring.specs.declared.Msg.TheVariants.{Request, Clear, Answer, Interrupt, Reply, Ack, Fault}
use Rattle.isa_model.specs.Memory.{allows}
use Rattle.kernel_model.specs.MemoryCalls.{closing_range}
use Rattle.kernel_model.specs.Nodes.{Node, Thread, Process, process_of, is_called}
use Rattle.kernel_model.specs.Progress.{has_piece, next_piece, needed_access}
use Rattle.kernel_model.specs.declared.Change.{Change}
use Rattle.kernel_model.specs.declared.Does.TheVariants.{InVm}
use Rattle.mck_flags.specs.declared.rights.Rights.{Rights}
use Rattle.mck_word.specs.Maps.{at}
use Rattle.mck_word.specs.Pages.{in_range}
use Rattle.mck_word.specs.declared.Access.{Access}
use Rattle.mck_word.specs.declared.PageRange.{PageRange}
use Rattle.page_pins.specs.declared.Pin.{Pin}
use Rattle.request_book.specs.declared.ReqState.{ReqState}
use Rattle.request_book.specs.declared.ReqState.TheVariants.{Posted, Waiting, Held, Faulted, Ended, Replied}
use Rattle.std.specs.Prelude.{Bool, List, None, Option, Some, [], false, if◌then◌else◌, is_some, true, unwrap_or, ℕ, ◌&&◌, ◌+◌, ◌<◌, ◌==◌, ◌∷◌, ◌≡◌, ◌≤◌}

-- ---- what the proxy may reach is in the table

-- the rights a include the rights b
abbrev pub Includes : Rights → Rights → Type 0
Includes a b = (x : Access) → allows x b ≡ true → allows x a ≡ true

pub record Covers (table : Reads Row) (page : ℕ) (r : Row) : Type 0 where
  pub row : Row
  pub there : table page ≡ Some row
  pub frame : row.0 ≡ r.0
  pub rights : Includes row.1 r.1

abbrev pub MirrorCovered : Reads Row → Reads Row → Type 0
MirrorCovered table mirror = (page : ℕ) (r : Row) → mirror page ≡ Some r → Covers table page r

-- an answer that is not overtaken
abbrev pub AnswerCovered : Reads Row → ℕ → Msg → Type 0
AnswerCovered table cleared (Answer w page number (Some r)) = cleared ≤ number → Covers table page r
AnswerCovered table cleared _ = Unit {0}

abbrev pub PinsCovered : Reads Row → Reads Pin → Type 0
PinsCovered table pins = (w : ℕ) (x : Pin) → pins w ≡ Some x → Covers table x.page (x.frame, x.rights)

abbrev pub NotAhead : ℕ → Msg → Type 0
NotAhead begun (Answer w page number row) = number ≤ begun
NotAhead begun _ = Unit {0}

pub record Covered (table mirror : Reads Row) (pins : Reads Pin) (begun cleared : ℕ) (rings : List (List Msg)) : Type 0 where
  pub mirror_rows : MirrorCovered table mirror
  pub answers : EachRing (AnswerCovered table cleared) rings
  pub not_ahead : EachRing (NotAhead begun) rings
  pub pin_rows : PinsCovered table pins

-- ---- rounds

abbrev pub clears : Msg → ℕ
clears (Clear r) = 1
clears _ = 0

abbrev pub acks : Msg → ℕ
acks Ack = 1
acks _ = 0

abbrev pub is_posted_phase : Phase → ℕ
is_posted_phase RoundPosted = 1
is_posted_phase _ = 0

abbrev pub is_acked_phase : Phase → ℕ
is_acked_phase Acked = 1
is_acked_phase _ = 0

abbrev pub posted : Option Round → ℕ
posted None = 0
posted (Some r) = is_posted_phase r.0

abbrev pub acked : Option Round → ℕ
acked None = 0
acked (Some r) = is_acked_phase r.0

-- a Clear is that of the round, which is Posted
abbrev pub ClearIsOf : Option Round → Msg → Type 0
ClearIsOf None (Clear range) = ⊥
ClearIsOf (Some r) (Clear range) = (r.1 ≡ range) × (r.0 ≡ RoundPosted)
ClearIsOf _ _ = Unit {0}

-- an answer with a row that was posted since the last round began lies outside the closing range
abbrev pub IsOutside : Option Round → ℕ → Msg → Type 0
IsOutside round begun (Answer w page number (Some r)) = number ≡ begun → closes round page ≡ false
IsOutside round begun _ = Unit {0}

abbrev pub phase_taken : Phase → Bool
phase_taken RoundPosted = false
phase_taken Taken = true
phase_taken Acked = true

abbrev pub phase_acked : Phase → Bool
phase_acked Acked = true
phase_acked _ = false

-- the page lies in the range of a round that is Taken or Acked; that is Acked
abbrev pub taken_at : Option Round → ℕ → Bool
taken_at None page = false
taken_at (Some r) page = phase_taken r.0 && in_range r.1 page

abbrev pub acked_at : Option Round → ℕ → Bool
acked_at None page = false
acked_at (Some r) page = phase_acked r.0 && in_range r.1 page

abbrev pub MirrorOutside : Option Round → Reads Row → Type 0
MirrorOutside round mirror = (page : ℕ) → taken_at round page ≡ true → mirror page ≡ None

abbrev pub PinsOutside : Option Round → Reads Pin → Type 0
PinsOutside round pins = (w : ℕ) (x : Pin) → pins w ≡ Some x → acked_at round x.page ≡ false

pub record Rounded (round : Option Round) (mirror : Reads Row) (pins : Reads Pin) (begun cleared : ℕ) (rings : List (List Msg)) (bs : List Msg) : Type 0 where
  pub clears_are : sum_rings clears rings ≡ posted round
  pub acks_are : tally acks bs ≡ acked round
  pub clear_of : EachRing (ClearIsOf round) rings
  pub fetched : cleared + posted round ≡ begun
  pub outside : EachRing (IsOutside round begun) rings
  pub mirror_outside : MirrorOutside round mirror
  pub pins_outside : PinsOutside round pins

-- ---- the change of a round

-- the thread t of process p is InVm with a change whose closing range this is
pub record Owns (process : Process) (threads : Reads Thread) (p t : ℕ) (range : PageRange) : Type 0 where
  pub thread : Thread
  pub there : threads t ≡ Some thread
  pub own : thread.process ≡ p
  pub change : Change
  pub does : thread.does ≡ InVm change
  pub range_is : closing_range process change ≡ range

abbrev pub Owned : Process → Reads Thread → ℕ → Option Round → Option ℕ → Type 0
Owned process threads p None None = Unit {0}
Owned process threads p None (Some t) = ⊥
Owned process threads p (Some r) None = ⊥
Owned process threads p (Some r) (Some t) = Owns process threads p t r.1

-- ---- requests

abbrev pub state_at : Reads (ReqState × CallRequest) → ℕ → ReqState
state_at rows q = state_in (rows q)

abbrev pub service_at : Reads Service → ℕ → Service
service_at services q = unwrap_or (services q) no_service

abbrev pub asks : ℕ → Msg → ℕ
asks q (Request c) = if_same c.q.0 q
asks q _ = 0

abbrev pub answers_to : ℕ → Msg → ℕ
answers_to w (Answer v page number row) = if_same v w
answers_to w _ = 0

abbrev pub faults_of : ℕ → Msg → ℕ
faults_of w (Fault v page a) = if_same v w
faults_of w _ = 0

abbrev pub replies_to : ℕ → Msg → ℕ
replies_to q (Reply n code) = if_same n.0 q
replies_to q _ = 0

abbrev pub interrupts_of : ℕ → Msg → ℕ
interrupts_of q (Interrupt n place) = if_same n.0 q
interrupts_of q _ = 0

abbrev pub is_posted : ReqState → ℕ
is_posted Posted = 1
is_posted _ = 0

abbrev pub is_waiting : ReqState → ℕ
is_waiting Waiting = 1
is_waiting _ = 0

abbrev pub is_faulted : ReqState → ℕ
is_faulted Faulted = 1
is_faulted _ = 0

abbrev pub is_live : ReqState → Bool
is_live Replied = false
is_live _ = true

-- fetched and not replied: the proxy has a work for it
abbrev pub is_fetched : ReqState → Bool
is_fetched Posted = false
is_fetched Replied = false
is_fetched _ = true

-- the worker of a request that has one
abbrev pub holder : ReqState → ℕ → Option ℕ
holder Held w = Some w
holder Faulted w = Some w
holder Ended w = Some w
holder _ w = None

abbrev pub holder_at : Reads (ReqState × CallRequest) → Reads Service → ℕ → Option ℕ
holder_at rows services q = holder (state_at rows q) (service_at services q).worker

abbrev pub faulting : Reads (ReqState × CallRequest) → Option ℕ → ℕ
faulting rows None = 0
faulting rows (Some q) = is_faulted (state_at rows q)

-- the page and the access are those of the next piece of w's request
pub record IsForNext (workers : Reads ℕ) (services : Reads Service) (w page : ℕ) (a : Access) : Type 0 where
  pub number : ℕ
  pub serves : workers w ≡ Some number
  pub left : has_piece (service_at services number).progress ≡ true
  pub page_is : (next_piece (service_at services number).progress).page ≡ page
  pub access_is : needed_access (service_at services number).progress ≡ a

abbrev pub FaultIsFor : Reads ℕ → Reads Service → Msg → Type 0
FaultIsFor workers services (Fault w page a) = IsForNext workers services w page a
FaultIsFor workers services _ = Unit {0}

abbrev pub NotedIsFor : Reads ℕ → Reads Service → Reads Noted → Type 0
NotedIsFor workers services noted = (w : ℕ) (n : Noted) → noted w ≡ Some n → IsForNext workers services w n.0 n.1

-- an answer is for the next piece; one with a row has the right needed
pub record AnswersNext (workers : Reads ℕ) (services : Reads Service) (w page : ℕ) (row : Option Row) : Type 0 where
  pub access : Access
  pub next : IsForNext workers services w page access
  pub right : (r : Row) → row ≡ Some r → allows access r.1 ≡ true

abbrev pub AnswerIsFor : Reads ℕ → Reads Service → Msg → Type 0
AnswerIsFor workers services (Answer w page number row) = AnswersNext workers services w page row
AnswerIsFor workers services _ = Unit {0}

pub record PinServes (workers : Reads ℕ) (rows : Reads (ReqState × CallRequest)) (services : Reads Service) (w : ℕ) (x : Pin) : Type 0 where
  pub number : ℕ
  pub serves : workers w ≡ Some number
  pub not_faulted : is_faulted (state_at rows number) ≡ 0
  pub held : x.copied ≡ false → state_at rows number ≡ Held
  pub left : x.copied ≡ false → has_piece (service_at services number).progress ≡ true
  pub page_is : x.copied ≡ false → (next_piece (service_at services number).progress).page ≡ x.page
  pub right : x.copied ≡ false → allows (needed_access (service_at services number).progress) x.rights ≡ true

pub record Served (worker_count : ℕ) (workers : Reads ℕ) (rows : Reads (ReqState × CallRequest)) (services : Reads Service) (pins : Reads Pin) (waiting : List ℕ) (noted : Reads Noted) (rings : List (List Msg)) (bs : List Msg) : Type 0 where
  pub worker_below : (w q : ℕ) → workers w ≡ Some q → w < worker_count
  pub requests : (q : ℕ) → sum_rings (asks q) rings ≡ is_posted (state_at rows q)
  pub waits : (q : ℕ) → tally (if_same q) waiting ≡ is_waiting (state_at rows q)
  pub known : (q : ℕ) → is_fetched (state_at rows q) ≡ is_some (services q)
  pub workers_hold : (w q : ℕ) → workers w ≡ Some q → holder_at rows services q ≡ Some w
  pub held_by : (q w : ℕ) → holder_at rows services q ≡ Some w → workers w ≡ Some q
  pub faults : (w : ℕ) → tally (faults_of w) bs + counted (noted w) + sum_rings (answers_to w) rings ≡ faulting rows (workers w)
  pub fault_for : Each (FaultIsFor workers services) bs
  pub noted_for : NotedIsFor workers services noted
  pub answer_for : EachRing (AnswerIsFor workers services) rings
  pub pins_serve : (w : ℕ) (x : Pin) → pins w ≡ Some x → PinServes workers rows services w x

-- ---- replies and callers

-- a message to the lightweight kernel that is a Reply is for a number that left the book and that some thread still calls
pub record IsAwaited (rows : Reads (ReqState × CallRequest)) (callers : Reads Caller) (q : ℕ) : Type 0 where
  pub gone : rows q ≡ None
  pub thread : ℕ
  pub caller : Caller
  pub calls : callers thread ≡ Some caller
  pub number : caller.request ≡ q

abbrev pub ReplyIsAwaited : Reads (ReqState × CallRequest) → Reads Caller → Msg → Type 0
ReplyIsAwaited rows callers (Reply q code) = IsAwaited rows callers q.0
ReplyIsAwaited rows callers _ = Unit {0}

abbrev pub tid_in : Option (ReqState × CallRequest) → ℕ
tid_in o = (call_in o).tid.0

-- a thread that calls with q: it is the one that the book names, or q is replied and its one Reply is under way
pub record CallHolds (rows : Reads (ReqState × CallRequest)) (next t q : ℕ) (bs : List Msg) : Type 0 where
  pub given : q < next
  pub named : is_live (state_at rows q) ≡ true → tid_in (rows q) ≡ t
  pub replied : rows q ≡ None → tally (replies_to q) bs ≡ 1

abbrev pub calls_it : ℕ → Option Caller → Bool
calls_it q None = false
calls_it q (Some c) = c.request == q

pub record Answered (rows : Reads (ReqState × CallRequest)) (callers : Reads Caller) (next : ℕ) (bs : List Msg) : Type 0 where
  pub awaited : Each (ReplyIsAwaited rows callers) bs
  pub calls : (t : ℕ) (c : Caller) → callers t ≡ Some c → CallHolds rows next t c.request bs
  pub alone : (t u : ℕ) (c d : Caller) → callers t ≡ Some c → callers u ≡ Some d → c.request ≡ d.request → t ≡ u
  pub live : (q : ℕ) → is_live (state_at rows q) ≡ true → calls_it q (callers (tid_in (rows q))) ≡ true
  pub replies : (q : ℕ) → tally (replies_to q) bs ≤ 1
  pub fresh : (q : ℕ) → next ≤ q → rows q ≡ None
  pub not_replied : (q : ℕ) (r : ReqState × CallRequest) → rows q ≡ Some r → is_live r.0 ≡ true

-- the threads of the process that are Called are those with a caller's row
pub record CallsAgree (p : ℕ) (threads : Reads Thread) (callers : Reads Caller) : Type 0 where
  pub called : (t : ℕ) (x : Thread) → threads t ≡ Some x → x.process ≡ p → is_called x.does ≡ is_some (callers t)
  pub there : (t : ℕ) (c : Caller) → callers t ≡ Some c → (x : Thread) × (threads t ≡ Some x) × (x.process ≡ p)

-- a Request in a ring has the book's call, which is Posted
abbrev pub RequestIs : Reads (ReqState × CallRequest) → Msg → Type 0
RequestIs rows (Request c) = rows c.q.0 ≡ Some (Posted, c)
RequestIs rows _ = Unit {0}

-- ---- the messages of a place

abbrev pub place_in : ℕ → Option Thread → Bool
place_in k None = false
place_in k (Some x) = x.place == k

abbrev pub is_of_place : Reads Thread → ℕ → Msg → Bool
is_of_place threads k (Request c) = place_in k (threads c.tid.0)
is_of_place threads k (Interrupt q place) = place == k
is_of_place threads k _ = false

abbrev pub of_place : Reads Thread → ℕ → List Msg → List Msg
of_place threads k [] = []
of_place threads k (m ∷ ms) = if is_of_place threads k m then m ∷ of_place threads k ms else of_place threads k ms

-- nothing, or the Interrupt of q
abbrev pub AtMostInterrupt : ℕ → List Msg → Type 0
AtMostInterrupt q [] = Unit {0}
AtMostInterrupt q (Interrupt n place ∷ []) = n.0 ≡ q
AtMostInterrupt q _ = ⊥

-- nothing, or a Request and at most its Interrupt
abbrev pub AtMostRequest : List Msg → Type 0
AtMostRequest [] = Unit {0}
AtMostRequest (Request c ∷ ms) = AtMostInterrupt c.q.0 ms
AtMostRequest _ = ⊥

-- a contiguous part of: an Interrupt of a request that was fetched; a Request; an Interrupt of that request
abbrev pub IsPart : (ℕ → ReqState) → List Msg → Type 0
IsPart state (Interrupt n place ∷ ms) = (is_posted (state n.0) ≡ 0) × AtMostRequest ms
IsPart state ms = AtMostRequest ms

-- the Request of a call stands in the ring of its thread, and so does its Interrupt
abbrev pub InOwnRing : (ring_of : ℕ → ℕ) → Reads (ReqState × CallRequest) → ℕ → Msg → Type 0
InOwnRing ring_of rows r (Request c) = ring_of c.tid.0 ≡ r
InOwnRing ring_of rows r (Interrupt q place) = is_live (state_at rows q.0) ≡ true → ring_of (tid_in (rows q.0)) ≡ r
InOwnRing ring_of rows r _ = Unit {0}

pub record Placed (rows : Reads (ReqState × CallRequest)) (threads : Reads Thread) (ring_of : ℕ → ℕ) (r : ℕ) (ms : List Msg) : Type 0 where
  pub parts : (k : ℕ) → IsPart (state_at rows) (of_place threads k ms)
  pub own : Each (InOwnRing ring_of rows r) ms

-- where the Request of a thread's call was fetched, an Interrupt of that call alone may stand in its ring for its place
abbrev pub OnlyOwn : Reads (ReqState × CallRequest) → Reads Thread → (ℕ → ℕ) → Reads Caller → ℕ → List Msg → Type 0
OnlyOwn rows threads ring_of callers r ms =
    (t : ℕ) (x : Thread) (c : Caller) → threads t ≡ Some x → callers t ≡ Some c → ring_of t ≡ r → is_posted (state_at rows c.request) ≡ 0
    → AtMostInterrupt c.request (of_place threads x.place ms)

pub record Messages (rows : Reads (ReqState × CallRequest)) (threads : Reads Thread) (ring_of : ℕ → ℕ) (callers : Reads Caller) (rings : List (List Msg)) : Type 0 where
  pub placed : EachNumbered (Placed rows threads ring_of) 0 rings
  pub only : EachNumbered (OnlyOwn rows threads ring_of callers) 0 rings

-- An Interrupt is of a number that was given. Its place is one of sixteen, and while the request is live it is that of the calling thread.
abbrev pub InterruptIs : ℕ → Reads (ReqState × CallRequest) → Reads Thread → Msg → Type 0
InterruptIs next rows threads (Interrupt q place) =
    (q.0 < next) × (place < 16) × (is_live (state_at rows q.0) ≡ true → place_in place (threads (tid_in (rows q.0))) ≡ true)
InterruptIs next rows threads _ = Unit {0}

-- Requests, Clears, Answers and Interrupts go to Linux, all others come back
abbrev pub goes_to_linux : Msg → Bool
goes_to_linux (Request c) = true
goes_to_linux (Clear r) = true
goes_to_linux (Answer w page number row) = true
goes_to_linux (Interrupt q place) = true
goes_to_linux (Reply q code) = false
goes_to_linux Ack = false
goes_to_linux (Fault w page a) = false

pub record Directions (rings : List (List Msg)) (bs : List Msg) : Type 0 where
  pub to_linux : EachRing (λ m. goes_to_linux m ≡ true) rings
  pub to_lwk : Each (λ m. goes_to_linux m ≡ false) bs

-- a call whose Interrupt was posted is marked
pub record Marked (services : Reads Service) (callers : Reads Caller) (rings : List (List Msg)) : Type 0 where
  pub fetched : (t : ℕ) (c : Caller) → callers t ≡ Some c → (service_at services c.request).interrupted ≡ true → c.marked ≡ true
  pub posted : (t : ℕ) (c : Caller) → callers t ≡ Some c → sum_rings (interrupts_of c.request) rings ≤ as_number c.marked

-- ---- one process

pub record OfProcess (p : ℕ) (side : Side) (node : Node) (worker_count : ℕ) (ring_of : ℕ → ℕ) : Type 0 where
  pub covered : Covered (at side.lwk.table) (at side.linux.mirror) (at side.linux.pins) side.lwk.begun side.linux.cleared side.to_linux
  pub rounded : Rounded side.round (at side.linux.mirror) (at side.linux.pins) side.lwk.begun side.linux.cleared side.to_linux side.to_lwk
  pub owned : Owned (process_of node p) (at node.threads) p side.round side.lwk.changing
  pub served : Served worker_count (at side.linux.workers) (at side.book.rows) (at side.linux.services) (at side.linux.pins) side.book.waiting (at side.lwk.noted) side.to_linux side.to_lwk
  pub answered : Answered (at side.book.rows) (at side.lwk.callers) side.book.next side.to_lwk
  pub calls : CallsAgree p (at node.threads) (at side.lwk.callers)
  pub asked : EachRing (RequestIs (at side.book.rows)) side.to_linux
  pub interrupts : EachRing (InterruptIs side.book.next (at side.book.rows) (at node.threads)) side.to_linux
  pub directions : Directions side.to_linux side.to_lwk
  pub messages : Messages (at side.book.rows) (at node.threads) ring_of (at side.lwk.callers) side.to_linux
  pub marked : Marked (at side.linux.services) (at side.lwk.callers) side.to_linux
