-- What holds of the requests of one process is had from there being some proof of it.
use Rattle.mck_word.specs.contracts.Access as access
use Rattle.request_book.specs.contracts.ReqState as request_state
use Rattle.hybrid_model.specs.Coherence.{Answered, AnswerIsFor, AnswersNext, CallHolds, FaultIsFor, IsAwaited, IsForNext, PinServes, ReplyIsAwaited, Served, calls_it, is_faulted, service_at, state_at}
use Rattle.hybrid_model.specs.Sides.{Caller, Noted, Row, Service}
use Rattle.hybrid_model.specs.Tallies.{Reads}
use Rattle.ikc_ring.specs.declared.CallRequest.{CallRequest}
use Rattle.ikc_ring.specs.declared.Msg.TheVariants.{Answer, Fault, Reply}
use Rattle.ikc_ring.specs.declared.Msg.{Msg}
use Rattle.isa_model.specs.Memory.{allows}
use Rattle.kernel_model.specs.Progress.{has_piece, needed_access, next_piece}
use Rattle.mck_word.specs.declared.Access.{Access}
use Rattle.page_pins.specs.declared.Pin.{Pin}
use Rattle.request_book.specs.declared.ReqState.TheVariants.{Held}
use Rattle.request_book.specs.declared.ReqState.{ReqState}
use Rattle.std.proofs.Common.{ap, arith, refl, subst, sym, ◌∙◌}
use Rattle.std.proofs.Math.Logic.{∥∥₁_map}
use Rattle.std.proofs.lemmas.Bool.Decides.{nat_tests}
use Rattle.std.specs.Prelude.{List, None, Option, Some, false, true, ℕ, ◌≡◌}
use Rattle.told_states.proofs.Told.{Found, Passes, Told, bool-told, data-told, each-told, found-told, le-told, lt-told, maybe-told, nat-told, none-told, passes-told, rings-told}

-- ---- what faults, answers and pins are for

pub record NextIs (services : Reads Service) (page : ℕ) (a : Access) (number : ℕ) : Type 0 where
  pub left : has_piece (service_at services number).progress ≡ true
  pub page_is : (next_piece (service_at services number).progress).page ≡ page
  pub access_is : needed_access (service_at services number).progress ≡ a

next-told : (services : Reads Service) (page : ℕ) (a : Access) (number : ℕ) → Told (NextIs services page a number)
next-told services page a number t = record {
  left = bool-told (∥∥₁_map t (λ x. x.left));
  page_is = nat-told (∥∥₁_map t (λ x. x.page_is));
  access_is = data-told access.the_row.coded _ a (∥∥₁_map t (λ x. x.access_is));
}

for-next-told : (workers : Reads ℕ) (services : Reads Service) (w page : ℕ) (a : Access) → Told (IsForNext workers services w page a)
for-next-told workers services w page a t =
    let x : Found (workers w) (NextIs services page a) = found-told (next-told services page a) (workers w)
    (∥∥₁_map t (λ y. record { value = y.number; there = y.serves; rest = record { left = y.left; page_is = y.page_is; access_is = y.access_is } })) in
    record { number = x.value; serves = x.there; left = x.rest.left; page_is = x.rest.page_is; access_is = x.rest.access_is }

fault-for-told : (workers : Reads ℕ) (services : Reads Service) (m : Msg) → Told (FaultIsFor workers services m)
fault-for-told workers services (Fault w page a) t = for-next-told workers services w page a t
fault-for-told workers services _ t = tt

pub record AnswerNextIs (services : Reads Service) (page : ℕ) (row : Option Row) (number : ℕ) : Type 0 where
  pub left : has_piece (service_at services number).progress ≡ true
  pub page_is : (next_piece (service_at services number).progress).page ≡ page
  pub right : (r : Row) → row ≡ Some r → allows (needed_access (service_at services number).progress) r.1 ≡ true

answer-next-told : (services : Reads Service) (page : ℕ) (row : Option Row) (number : ℕ) → Told (AnswerNextIs services page row number)
answer-next-told services page row number t = record {
  left = bool-told (∥∥₁_map t (λ x. x.left));
  page_is = nat-told (∥∥₁_map t (λ x. x.page_is));
  right = λ r e. bool-told (∥∥₁_map t (λ x. x.right r e));
}

answers-next-told : (workers : Reads ℕ) (services : Reads Service) (w page : ℕ) (row : Option Row) → Told (AnswersNext workers services w page row)
answers-next-told workers services w page row t =
    let x : Found (workers w) (AnswerNextIs services page row) = found-told (answer-next-told services page row) (workers w)
    (∥∥₁_map t (λ y. record {
      value = y.next.number;
      there = y.next.serves;
      rest = record { left = y.next.left; page_is = y.next.page_is; right = λ r e. subst (λ (a : Access). allows a r.1 ≡ true) (sym y.next.access_is) (y.right r e) };
    })) in
    record {
      access = needed_access (service_at services x.value).progress;
      next = record { number = x.value; serves = x.there; left = x.rest.left; page_is = x.rest.page_is; access_is = refl };
      right = x.rest.right;
    }

answer-for-told : (workers : Reads ℕ) (services : Reads Service) (m : Msg) → Told (AnswerIsFor workers services m)
answer-for-told workers services (Answer w page number row) t = answers-next-told workers services w page row t
answer-for-told workers services _ t = tt

pub record PinNextIs (rows : Reads (ReqState × CallRequest)) (services : Reads Service) (x : Pin) (number : ℕ) : Type 0 where
  pub not_faulted : is_faulted (state_at rows number) ≡ 0
  pub held : x.copied ≡ false → state_at rows number ≡ Held
  pub left : x.copied ≡ false → has_piece (service_at services number).progress ≡ true
  pub page_is : x.copied ≡ false → (next_piece (service_at services number).progress).page ≡ x.page
  pub right : x.copied ≡ false → allows (needed_access (service_at services number).progress) x.rights ≡ true

pin-next-told : (rows : Reads (ReqState × CallRequest)) (services : Reads Service) (x : Pin) (number : ℕ) → Told (PinNextIs rows services x number)
pin-next-told rows services x number t = record {
  not_faulted = nat-told (∥∥₁_map t (λ y. y.not_faulted));
  held = λ e. data-told request_state.the_row.coded (state_at rows number) Held (∥∥₁_map t (λ y. y.held e));
  left = λ e. bool-told (∥∥₁_map t (λ y. y.left e));
  page_is = λ e. nat-told (∥∥₁_map t (λ y. y.page_is e));
  right = λ e. bool-told (∥∥₁_map t (λ y. y.right e));
}

pin-serves-told : (workers : Reads ℕ) (rows : Reads (ReqState × CallRequest)) (services : Reads Service) (w : ℕ) (x : Pin) → Told (PinServes workers rows services w x)
pin-serves-told workers rows services w x t =
    let y : Found (workers w) (PinNextIs rows services x) = found-told (pin-next-told rows services x) (workers w)
    (∥∥₁_map t (λ z. record { value = z.number; there = z.serves; rest = record { not_faulted = z.not_faulted; held = z.held; left = z.left; page_is = z.page_is; right = z.right } })) in
    record { number = y.value; serves = y.there; not_faulted = y.rest.not_faulted; held = y.rest.held; left = y.rest.left; page_is = y.rest.page_is; right = y.rest.right }

pub served-told : (worker_count : ℕ) (workers : Reads ℕ) (rows : Reads (ReqState × CallRequest)) (services : Reads Service) (pins : Reads Pin) (waiting : List ℕ) (noted : Reads Noted) (rings : List (List Msg)) (bs : List Msg)
    → Told (Served worker_count workers rows services pins waiting noted rings bs)
served-told worker_count workers rows services pins waiting noted rings bs t = record {
  worker_below = λ w q e. lt-told (∥∥₁_map t (λ x. x.worker_below w q e));
  requests = λ q. nat-told (∥∥₁_map t (λ x. x.requests q));
  waits = λ q. nat-told (∥∥₁_map t (λ x. x.waits q));
  known = λ q. bool-told (∥∥₁_map t (λ x. x.known q));
  workers_hold = λ w q e. maybe-told (∥∥₁_map t (λ x. x.workers_hold w q e));
  held_by = λ q w e. maybe-told (∥∥₁_map t (λ x. x.held_by q w e));
  faults = λ w. nat-told (∥∥₁_map t (λ x. x.faults w));
  fault_for = each-told (fault-for-told workers services) bs (∥∥₁_map t (λ x. x.fault_for));
  noted_for = λ w n e. for-next-told workers services w n.0 n.1 (∥∥₁_map t (λ x. x.noted_for w n e));
  answer_for = rings-told (answer-for-told workers services) rings (∥∥₁_map t (λ x. x.answer_for));
  pins_serve = λ w x e. pin-serves-told workers rows services w x (∥∥₁_map t (λ y. y.pins_serve w x e));
}

-- ---- replies and callers

calls-same : (callers : Reads Caller) (q k : ℕ) (c : Caller) → callers k ≡ Some c → c.request ≡ q → calls_it q (callers k) ≡ true
calls-same callers q k c e h = ap (calls_it q) e ∙ grind (arith, nat_tests, h)

calls-caller : (q : ℕ) (o : Option Caller) → calls_it q o ≡ true → Found o (λ c. c.request ≡ q)
calls-caller q None e = absurd (grind (arith, e))
calls-caller q (Some c) e = record { value = c; there = refl; rest = grind (arith, nat_tests, e) }

awaited-told : (rows : Reads (ReqState × CallRequest)) (callers : Reads Caller) (q : ℕ) → Told (IsAwaited rows callers q)
awaited-told rows callers q t =
    let x : Passes (λ k. calls_it q (callers k)) = passes-told (λ k. calls_it q (callers k)) (∥∥₁_map t (λ y. record { number = y.thread; passes = calls-same callers q y.thread y.caller y.calls y.number })) in
    let c : Found (callers x.number) (λ c. c.request ≡ q) = calls-caller q (callers x.number) x.passes in
    record { gone = none-told (rows q) (∥∥₁_map t (λ y. y.gone)); thread = x.number; caller = c.value; calls = c.there; number = c.rest }

reply-told : (rows : Reads (ReqState × CallRequest)) (callers : Reads Caller) (m : Msg) → Told (ReplyIsAwaited rows callers m)
reply-told rows callers (Reply q code) t = awaited-told rows callers q.0 t
reply-told rows callers _ t = tt

call-told : (rows : Reads (ReqState × CallRequest)) (next k q : ℕ) (bs : List Msg) → Told (CallHolds rows next k q bs)
call-told rows next k q bs t = record {
  given = lt-told (∥∥₁_map t (λ x. x.given));
  named = λ e. nat-told (∥∥₁_map t (λ x. x.named e));
  replied = λ e. nat-told (∥∥₁_map t (λ x. x.replied e));
}

pub answered-told : (rows : Reads (ReqState × CallRequest)) (callers : Reads Caller) (next : ℕ) (bs : List Msg) → Told (Answered rows callers next bs)
answered-told rows callers next bs t = record {
  awaited = each-told (reply-told rows callers) bs (∥∥₁_map t (λ x. x.awaited));
  calls = λ k c e. call-told rows next k c.request bs (∥∥₁_map t (λ x. x.calls k c e));
  alone = λ k u c d e f g. nat-told (∥∥₁_map t (λ x. x.alone k u c d e f g));
  live = λ q e. bool-told (∥∥₁_map t (λ x. x.live q e));
  replies = λ q. le-told (∥∥₁_map t (λ x. x.replies q));
  fresh = λ q l. none-told (rows q) (∥∥₁_map t (λ x. x.fresh q l));
  not_replied = λ q r e. bool-told (∥∥₁_map t (λ x. x.not_replied q r e));
}
