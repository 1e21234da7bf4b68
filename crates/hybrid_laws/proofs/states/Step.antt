-- The step from one process to the whole state for an event that steps the call of a worker: its request was Held, the files change, and the turn of its end is given up.
use Rattle.hybrid_laws.proofs.states.Calls as calls
use Rattle.file_model.specs.Files.{Files}
use Rattle.hybrid_laws.proofs.states.Calls.{calls-now}
use Rattle.hybrid_laws.proofs.states.Pair.{coherent-after, held-after, pair_after}
use Rattle.hybrid_laws.proofs.states.Turns.{turns-given-up}
use Rattle.hybrid_laws.specs.CallSteps.{Carries, FoundHeld}
use Rattle.hybrid_model.specs.Coherence.{OfProcess}
use Rattle.hybrid_model.specs.Globals.{Coherent, IsUnderWay, StatusHolds, description_held, ring_number, waits_or_held}
use Rattle.hybrid_model.specs.Turns.{turn_given_up}
use Rattle.hybrid_model.specs.Pairs.{Pair, side_of}
use Rattle.hybrid_model.specs.Shown.{status_of}
use Rattle.hybrid_model.specs.Sides.{Side, Turn, service_of, state_of}
use Rattle.ikc_ring.specs.declared.CallRequest.{CallRequest}
use Rattle.kernel_model.specs.Nodes.{is_there, set_files}
use Rattle.kernel_model.specs.OneKernel.{Active, CallStatus}
use Rattle.kernel_model.specs.Progress.{Progress}
use Rattle.mck_word.specs.Maps.{Map, at}
use Rattle.request_book.specs.declared.ReqState.TheVariants.{Held}
use Rattle.std.proofs.Common.{arith, refl}
use Rattle.std.specs.Prelude.{List, Some, false, length, true, ℕ, ◌==◌, ◌≡◌}

module _ (pair : Pair) (c : Coherent pair) (p : ℕ) (there : is_there pair.node p ≡ true) (w n : ℕ) (call : CallRequest) (serving : at (side_of pair p).linux.workers w ≡ Some n) (is : at (side_of pair p).book.rows n ≡ Some (Held, call)) where
  abbrev old : Side
  old = side_of pair p

  abbrev progress : Progress
  progress = (service_of old.linux.services n).progress

  pub status-before : status_of old n ≡ Active progress
  status-before = rw is refl

  -- a call under way that a caller has is sound
  pub under-way : IsUnderWay progress
  under-way = calls.under-way pair c p there n Held call is refl status-before

  -- the description that the call holds is held
  pub found-held : FoundHeld pair.node.files progress.found
  found-held = calls.found-held pair c p there n Held call is refl status-before

  module _ (side : Side) (files : Files) (frames : Map (List ℕ)) (status : CallStatus) (callers : side.lwk.callers ≡ old.lwk.callers)
      (now : status_of side n ≡ status) (others : (x : ℕ) → (x == n) ≡ false → status_of side x ≡ status_of old x)
      (carries : Carries progress.found (description_held status) pair.node.files.descriptions files.descriptions) (goes : StatusHolds status)
      (kept : OfProcess p side (set_files files pair.node) pair.workers (ring_number pair)) (table : side.lwk.table ≡ old.lwk.table) (next : side.book.next ≡ old.book.next) (rings : length side.to_linux ≡ length old.to_linux)
      (states : (x : ℕ) → (x == n) ≡ false → waits_or_held (state_of old.book x) ≡ true → waits_or_held (state_of side.book x) ≡ true)
      (services : (x : ℕ) → (x == n) ≡ false → (service_of side.linux.services x).progress ≡ (service_of old.linux.services x).progress) where
    abbrev given : Map Turn
    given = turn_given_up p old.linux pair.node.files w pair.turns

    pub coherent-step : Coherent (pair_after pair c p there side files frames given)
    coherent-step = coherent-after pair c p there side files frames given kept table next rings
        (turns-given-up pair c p there side files frames w n serving states services (calls.ends-stay pair c p there n Held call is refl status-before side files status callers now others carries goes))
        (held-after pair c p there side files frames given (λ d. let a = carries.calls d in let b = calls.holders-now pair c p there n Held call is refl status-before side files status callers now others carries goes d in omega (arith, a, b)))
        (calls.calls-now pair c p there n Held call is refl status-before side files status callers now others carries goes)
