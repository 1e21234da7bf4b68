-- What holds of one process is had from there being some proof of it: mirror, rounds and messages.
use Rattle.clear_rounds.specs.contracts.Phase as phase
use Rattle.ikc_ring.specs.contracts.CallRequest as call
use Rattle.kernel_model.specs.contracts.Does as does
use Rattle.mck_word.specs.contracts.Frame as frame
use Rattle.mck_word.specs.contracts.PageRange as page_range
use Rattle.request_book.specs.contracts.ReqState as request_state
use Rattle.hybrid_model.specs.Coherence.{AnswerCovered, AtMostInterrupt, AtMostRequest, CallsAgree, ClearIsOf, Covered, Covers, Directions, InOwnRing, Includes, InterruptIs, IsOutside, IsPart, Marked, Messages, NotAhead, OnlyOwn, Owned, Owns, Placed, RequestIs, Rounded, of_place, state_at}
use Rattle.hybrid_model.specs.Sides.{Caller, Round, Row, Service}
use Rattle.hybrid_model.specs.Tallies.{Reads}
use Rattle.ikc_ring.specs.declared.CallRequest.{CallRequest}
use Rattle.ikc_ring.specs.declared.Msg.TheVariants.{Request, Clear, Answer, Interrupt}
use Rattle.ikc_ring.specs.declared.Msg.{Msg}
use Rattle.kernel_model.specs.MemoryCalls.{closing_range}
use Rattle.kernel_model.specs.Nodes.{Process, Thread, change_in}
use Rattle.kernel_model.specs.declared.Change.{Change}
use Rattle.kernel_model.specs.declared.Does.TheVariants.{InVm}
use Rattle.mck_word.specs.declared.PageRange.{PageRange}
use Rattle.page_pins.specs.declared.Pin.{Pin}
use Rattle.request_book.specs.declared.ReqState.{ReqState}
use Rattle.std.proofs.Common.{ap}
use Rattle.std.proofs.Math.Logic.{∥∥₁_map}
use Rattle.std.specs.Coded.{coded_option, coded×}
use Rattle.std.specs.Prelude.{List, None, Option, Some, [], ℕ, ◌∷◌, ◌≡◌}
use Rattle.told_states.proofs.Told.{Found, Told, bool-told, data-told, each-told, found-told, le-told, lt-told, nat-told, never-told, none-told, numbered-told, rings-told}

-- ---- what the proxy may reach

pub record RowIs (r row : Row) : Type 0 where
  pub frame : row.0 ≡ r.0
  pub rights : Includes row.1 r.1

row-told : (r row : Row) → Told (RowIs r row)
row-told r row t = record { frame = data-told frame.the_row.coded row.0 r.0 (∥∥₁_map t (λ x. x.frame)); rights = λ a e. bool-told (∥∥₁_map t (λ x. x.rights a e)) }

pub covers-told : (table : Reads Row) (page : ℕ) (r : Row) → Told (Covers table page r)
covers-told table page r t =
    let x : Found (table page) (RowIs r) = found-told (row-told r) (table page) (∥∥₁_map t (λ y. record { value = y.row; there = y.there; rest = record { frame = y.frame; rights = y.rights } })) in
    record { row = x.value; there = x.there; frame = x.rest.frame; rights = x.rest.rights }

answer-covered-told : (table : Reads Row) (cleared : ℕ) (m : Msg) → Told (AnswerCovered table cleared m)
answer-covered-told table cleared (Answer w page number (Some r)) t = λ l. covers-told table page r (∥∥₁_map t (λ x. x l))
answer-covered-told table cleared _ t = tt

not-ahead-told : (begun : ℕ) (m : Msg) → Told (NotAhead begun m)
not-ahead-told begun (Answer w page number row) t = le-told t
not-ahead-told begun _ t = tt

pub covered-told : (table mirror : Reads Row) (pins : Reads Pin) (begun cleared : ℕ) (rings : List (List Msg)) → Told (Covered table mirror pins begun cleared rings)
covered-told table mirror pins begun cleared rings t = record {
  mirror_rows = λ page r e. covers-told table page r (∥∥₁_map t (λ x. x.mirror_rows page r e));
  answers = rings-told (answer-covered-told table cleared) rings (∥∥₁_map t (λ x. x.answers));
  not_ahead = rings-told (not-ahead-told begun) rings (∥∥₁_map t (λ x. x.not_ahead));
  pin_rows = λ w x e. covers-told table x.page (x.frame, x.rights) (∥∥₁_map t (λ y. y.pin_rows w x e));
}

-- ---- rounds

clear-told : (o : Option Round) (m : Msg) → Told (ClearIsOf o m)
clear-told None (Clear range) t = never-told t (λ x. x)
clear-told (Some r) (Clear range) t = (data-told page_range.the_row.coded r.1 range (∥∥₁_map t (λ x. x.0)), data-told phase.the_row.coded r.0 _ (∥∥₁_map t (λ x. x.1)))
clear-told _ _ t = tt

outside-told : (o : Option Round) (begun : ℕ) (m : Msg) → Told (IsOutside o begun m)
outside-told o begun (Answer w page number (Some r)) t = λ e. bool-told (∥∥₁_map t (λ x. x e))
outside-told o begun _ t = tt

pub rounded-told : (o : Option Round) (mirror : Reads Row) (pins : Reads Pin) (begun cleared : ℕ) (rings : List (List Msg)) (bs : List Msg) → Told (Rounded o mirror pins begun cleared rings bs)
rounded-told o mirror pins begun cleared rings bs t = record {
  clears_are = nat-told (∥∥₁_map t (λ x. x.clears_are));
  acks_are = nat-told (∥∥₁_map t (λ x. x.acks_are));
  clear_of = rings-told (clear-told o) rings (∥∥₁_map t (λ x. x.clear_of));
  fetched = nat-told (∥∥₁_map t (λ x. x.fetched));
  outside = rings-told (outside-told o begun) rings (∥∥₁_map t (λ x. x.outside));
  mirror_outside = λ page e. none-told (mirror page) (∥∥₁_map t (λ x. x.mirror_outside page e));
  pins_outside = λ w x e. bool-told (∥∥₁_map t (λ y. y.pins_outside w x e));
}

-- ---- the change of a round

pub record ChangeIs (process : Process) (range : PageRange) (x : Thread) (change : Change) : Type 0 where
  pub does : x.does ≡ InVm change
  pub range_is : closing_range process change ≡ range

pub record OwnIs (process : Process) (p : ℕ) (range : PageRange) (x : Thread) : Type 0 where
  pub own : x.process ≡ p
  pub change : Found (change_in x.does) (ChangeIs process range x)

change-told : (process : Process) (range : PageRange) (x : Thread) (change : Change) → Told (ChangeIs process range x change)
change-told process range x change t = record {
  does = data-told does.the_row.coded x.does _ (∥∥₁_map t (λ y. y.does));
  range_is = data-told page_range.the_row.coded _ range (∥∥₁_map t (λ y. y.range_is));
}

own-told : (process : Process) (p : ℕ) (range : PageRange) (x : Thread) → Told (OwnIs process p range x)
own-told process p range x t = record {
  own = nat-told (∥∥₁_map t (λ y. y.own));
  change = found-told (change-told process range x) (change_in x.does) (∥∥₁_map t (λ y. y.change));
}

owns-told : (process : Process) (threads : Reads Thread) (p k : ℕ) (range : PageRange) → Told (Owns process threads p k range)
owns-told process threads p k range t =
    let x : Found (threads k) (OwnIs process p range) = found-told (own-told process p range) (threads k)
    (∥∥₁_map t (λ y. record { value = y.thread; there = y.there; rest = record { own = y.own; change = record { value = y.change; there = ap change_in y.does; rest = record { does = y.does; range_is = y.range_is } } } })) in
    record { thread = x.value; there = x.there; own = x.rest.own; change = x.rest.change.value; does = x.rest.change.rest.does; range_is = x.rest.change.rest.range_is }

pub owned-told : (process : Process) (threads : Reads Thread) (p : ℕ) (o : Option Round) (c : Option ℕ) → Told (Owned process threads p o c)
owned-told process threads p None None t = tt
owned-told process threads p None (Some k) t = never-told t (λ x. x)
owned-told process threads p (Some r) None t = never-told t (λ x. x)
owned-told process threads p (Some r) (Some k) t = owns-told process threads p k r.1 t

-- ---- messages

pub calls-told : (p : ℕ) (threads : Reads Thread) (callers : Reads Caller) → Told (CallsAgree p threads callers)
calls-told p threads callers t = record {
  called = λ k x e o. bool-told (∥∥₁_map t (λ y. y.called k x e o));
  there = λ k c e. (let x : Found (threads k) (λ x. x.process ≡ p) = found-told (λ x. nat-told) (threads k) (∥∥₁_map t (λ y. let z = y.there k c e in record { value = z.0; there = z.1; rest = z.2 })) in (x.value, x.there, x.rest));
}

pub request-told : (rows : Reads (ReqState × CallRequest)) (m : Msg) → Told (RequestIs rows m)
request-told rows (Request c) t = data-told (coded_option (coded× request_state.the_row.coded call.the_row.coded)) (rows c.q.0) _ t
request-told rows _ t = tt

pub interrupt-told : (next : ℕ) (rows : Reads (ReqState × CallRequest)) (threads : Reads Thread) (m : Msg) → Told (InterruptIs next rows threads m)
interrupt-told next rows threads (Interrupt q place) t = (lt-told (∥∥₁_map t (λ x. x.0)), lt-told (∥∥₁_map t (λ x. x.1)), λ e. bool-told (∥∥₁_map t (λ x. x.2 e)))
interrupt-told next rows threads _ t = tt

pub directions-told : (rings : List (List Msg)) (bs : List Msg) → Told (Directions rings bs)
directions-told rings bs t = record {
  to_linux = rings-told (λ m. bool-told) rings (∥∥₁_map t (λ x. x.to_linux));
  to_lwk = each-told (λ m. bool-told) bs (∥∥₁_map t (λ x. x.to_lwk));
}

at-most-interrupt-told : (q : ℕ) (ms : List Msg) → Told (AtMostInterrupt q ms)
at-most-interrupt-told q [] t = tt
at-most-interrupt-told q (Interrupt n place ∷ []) t = nat-told t
at-most-interrupt-told q _ t = never-told t (λ x. x)

at-most-request-told : (ms : List Msg) → Told (AtMostRequest ms)
at-most-request-told [] t = tt
at-most-request-told (Request c ∷ ms) t = at-most-interrupt-told c.q.0 ms t
at-most-request-told _ t = never-told t (λ x. x)

is-part-told : (state : ℕ → ReqState) (ms : List Msg) → Told (IsPart state ms)
is-part-told state (Interrupt n place ∷ ms) t = (nat-told (∥∥₁_map t (λ x. x.0)), at-most-request-told ms (∥∥₁_map t (λ x. x.1)))
is-part-told state ms t = at-most-request-told ms t

own-ring-told : (ring_of : ℕ → ℕ) (rows : Reads (ReqState × CallRequest)) (r : ℕ) (m : Msg) → Told (InOwnRing ring_of rows r m)
own-ring-told ring_of rows r (Request c) t = nat-told t
own-ring-told ring_of rows r (Interrupt q place) t = λ e. nat-told (∥∥₁_map t (λ x. x e))
own-ring-told ring_of rows r _ t = tt

placed-told : (rows : Reads (ReqState × CallRequest)) (threads : Reads Thread) (ring_of : ℕ → ℕ) (r : ℕ) (ms : List Msg) → Told (Placed rows threads ring_of r ms)
placed-told rows threads ring_of r ms t = record {
  parts = λ k. is-part-told (state_at rows) (of_place threads k ms) (∥∥₁_map t (λ x. x.parts k));
  own = each-told (own-ring-told ring_of rows r) ms (∥∥₁_map t (λ x. x.own));
}

only-told : (rows : Reads (ReqState × CallRequest)) (threads : Reads Thread) (ring_of : ℕ → ℕ) (callers : Reads Caller) (r : ℕ) (ms : List Msg) → Told (OnlyOwn rows threads ring_of callers r ms)
only-told rows threads ring_of callers r ms t = λ k x c e f g h. at-most-interrupt-told c.request (of_place threads x.place ms) (∥∥₁_map t (λ y. y k x c e f g h))

pub messages-told : (rows : Reads (ReqState × CallRequest)) (threads : Reads Thread) (ring_of : ℕ → ℕ) (callers : Reads Caller) (rings : List (List Msg)) → Told (Messages rows threads ring_of callers rings)
messages-told rows threads ring_of callers rings t = record {
  placed = numbered-told (placed-told rows threads ring_of) 0 rings (∥∥₁_map t (λ x. x.placed));
  only = numbered-told (only-told rows threads ring_of callers) 0 rings (∥∥₁_map t (λ x. x.only));
}

pub marked-told : (services : Reads Service) (callers : Reads Caller) (rings : List (List Msg)) → Told (Marked services callers rings)
marked-told services callers rings t = record {
  fetched = λ k c e i. bool-told (∥∥₁_map t (λ x. x.fetched k c e i));
  posted = λ k c e. le-told (∥∥₁_map t (λ x. x.posted k c e));
}
