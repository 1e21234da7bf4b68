-- What a request counts lies between two numbers, so no change makes the requests of a process count more than so much; and what another order of readiness does.
use Rattle.request_book.specs.declared.ReqState.TheVariants as States
use Rattle.file_model.specs.Files.{Files}
use Rattle.hybrid_model.specs.Copy.{is_uncopied}
use Rattle.hybrid_model.specs.Sides.{LinuxSide, Row, Service, looked_up, service_of}
use Rattle.hybrid_model.specs.Tallies.{Reads}
use Rattle.ikc_ring.specs.declared.CallRequest.{CallRequest}
use Rattle.kernel_model.specs.Progress.{is_ready, needed_access, next_kind, next_piece}
use Rattle.mck_word.specs.Maps.{Map, at, count, entries}
use Rattle.page_pins.specs.declared.Pin.{Pin}
use Rattle.request_book.specs.declared.ReqState.{ReqState}
use Rattle.std.proofs.Common.{arith}
use Rattle.std.specs.Prelude.{Bool, cond, false, is_none, sum_by, true, ◌+◌, ◌≤◌}
use Rattle.work_laws.proofs.sides.Rows.{entries-most}
use Rattle.work_laws.specs.Weights.{any_change, most_rank, of_reply, of_request, of_state, rank_held, rank_of, wakes}

pub rank-most : (a b c : Bool) → rank_held a b c ≤ 12
rank-most true b true = omega arith
rank-most true true false = omega arith
rank-most true false false = omega arith
rank-most false b c = omega arith

-- with a row, and with a row or copied
pub rank-with_row : (a c : Bool) → rank_held a false c ≤ 4
rank-with_row true true = omega arith
rank-with_row true false = omega arith
rank-with_row false c = omega arith

pub rank-some : (a b c : Bool) → 1 ≤ rank_held a b c
rank-some true b true = omega arith
rank-some true true false = omega arith
rank-some true false false = omega arith
rank-some false b c = omega arith

awake-most : (b : Bool) → cond b 14 0 ≤ 14
awake-most true = omega arith
awake-most false = omega arith

module _ (files : Files) (k : Service) (pins : Reads Pin) (mirror : Reads Row) where
  own-rank : rank_of files k pins mirror ≤ 12
  own-rank = rank-most (is_ready (next_kind files k.progress)) (is_none (looked_up (mirror (next_piece k.progress).page) (needed_access k.progress))) (is_uncopied (pins k.worker))

  pub state-least : (s : ReqState) → of_reply ≤ of_state files k pins mirror s
  state-least States.Posted = omega arith
  state-least States.Waiting = omega arith
  state-least States.Held = omega arith
  state-least States.Faulted = omega arith
  state-least States.Parked = omega arith
  state-least States.Ended = omega arith
  state-least States.Replied = omega arith

  pub state-most : (s : ReqState) → of_state files k pins mirror s ≤ of_reply + most_rank
  state-most States.Posted = omega arith
  state-most States.Waiting = omega arith
  state-most States.Held = let a = own-rank in omega (arith, a)
  state-most States.Faulted = omega arith
  state-most States.Parked = let a = awake-most (wakes files k) in omega (arith, a)
  state-most States.Ended = omega arith
  state-most States.Replied = omega arith

-- any change of the files, the mirror, the pins, the services and the states
pub requests-any : (files files' : Files) (l l' : LinuxSide) (rows rows' : Map (ReqState × CallRequest)) → count rows' ≤ count rows → count rows ≤ 16 → sum_by (of_request files' l') (entries rows') ≤ sum_by (of_request files l) (entries rows) + any_change
requests-any files files' l l' rows rows' fewer few =
    let a = entries-most (of_request files l) of_reply 34 rows (λ e. state-least files (service_of l.services e.0) (at l.pins) (at l.mirror) e.1.0) (λ e. state-most files (service_of l.services e.0) (at l.pins) (at l.mirror) e.1.0) in
    let b = entries-most (of_request files' l') of_reply 34 rows' (λ e. state-least files' (service_of l'.services e.0) (at l'.pins) (at l'.mirror) e.1.0) (λ e. state-most files' (service_of l'.services e.0) (at l'.pins) (at l'.mirror) e.1.0) in
    let x = a.0 in
    let y = b.1 in
    omega (arith, x, y, fewer, few)
