-- The step from one process to the whole state for an event that shows nothing: files and frames stay, and each call holds the description that it held.
use Rattle.file_model.specs.Files.{description_of}
use Rattle.hybrid_laws.proofs.states.Pair.{coherent-after, held-after, of-sides, pair_after}
use Rattle.hybrid_laws.proofs.states.Turns.{holders-same}
use Rattle.hybrid_model.specs.Coherence.{OfProcess}
use Rattle.hybrid_model.specs.Globals.{Coherent, TurnsHold, description_held, holders, ring_number, waits_or_held, CallsHold, StatusHolds}
use Rattle.hybrid_model.specs.Turns.{pipe_end}
use Rattle.hybrid_model.specs.Pairs.{Pair, side_of}
use Rattle.hybrid_model.specs.Shown.{shown_call, shown_own, status_of}
use Rattle.hybrid_model.specs.Sides.{Caller, Side, Turn, service_of, state_of}
use Rattle.kernel_model.specs.Nodes.{is_there}
use Rattle.kernel_model.specs.OneKernel.{Call as OneCall, CallStatus, Over, Own}
use Rattle.mck_word.specs.MapLaws.{at-collect}
use Rattle.mck_word.specs.Maps.{Map, and_then, at}
use Rattle.std.proofs.Common.{ap, refl, sym, ◌∙◌, subst}
use Rattle.std.specs.Prelude.{List, None, Option, Some, length, pos, true, ℕ, ◌+◌, ◌≡◌}

-- calls that show the same have the same status
pub statuses-shown : (frames : Map (List ℕ)) (side old : Side) → side.lwk.callers ≡ old.lwk.callers → shown_own frames side ≡ shown_own frames old → (t : ℕ) (x : Caller) → at old.lwk.callers t ≡ Some x → status_of side x.request ≡ status_of old x.request
statuses-shown frames side old callers shown = same
  where
    shown-at : (s : Side) (t : ℕ) (x : Caller) → at s.lwk.callers t ≡ Some x → at (shown_own frames s).calls t ≡ Some (shown_call s x)
    shown-at s t x e = at-collect (λ k v. Some (shown_call s v)) s.lwk.callers t ∙ ap (λ o. and_then o (λ v. Some (shown_call s v))) e

    in-call : Option OneCall → CallStatus
    in-call None = Over (pos 0)
    in-call (Some y) = y.status

    same : (t : ℕ) (x : Caller) → at old.lwk.callers t ≡ Some x → status_of side x.request ≡ status_of old x.request
    same t x e = ap in-call (sym (shown-at side t x (ap (λ (m : Map Caller). at m t) callers ∙ e)) ∙ ap (λ (o : Own). at o.calls t) shown ∙ shown-at old t x e)

-- they hold the same descriptions
pub holders-shown : (frames : Map (List ℕ)) (side old : Side) → side.lwk.callers ≡ old.lwk.callers → shown_own frames side ≡ shown_own frames old → (d : ℕ) → holders d side ≡ holders d old
holders-shown frames side old callers shown = holders-same side old callers (λ t x e. ap description_held (statuses-shown frames side old callers shown t x e))

-- what holds of the statuses stays where each is as it was
pub calls-stay : (side old : Side) → side.lwk.callers ≡ old.lwk.callers → ((t : ℕ) (x : Caller) → at old.lwk.callers t ≡ Some x → status_of side x.request ≡ status_of old x.request) → CallsHold old → CallsHold side
calls-stay side old callers same h t x e =
    let f = ap (λ (m : Map Caller). at m t) (sym callers) ∙ e in subst StatusHolds (sym (same t x f)) (h t x f)

module _ (pair : Pair) (c : Coherent pair) (p : ℕ) (there : is_there pair.node p ≡ true) (side : Side) (turns : Map Turn)
    (kept : OfProcess p side pair.node pair.workers (ring_number pair)) (table : side.lwk.table ≡ (side_of pair p).lwk.table) (callers : side.lwk.callers ≡ (side_of pair p).lwk.callers) (next : side.book.next ≡ (side_of pair p).book.next) (rings : length side.to_linux ≡ length (side_of pair p).to_linux)
    (shown : shown_own pair.frames side ≡ shown_own pair.frames (side_of pair p)) where
  pub coherent-silent : TurnsHold (pair_after pair c p there side pair.node.files pair.frames turns) → Coherent (pair_after pair c p there side pair.node.files pair.frames turns)
  coherent-silent turns_hold = coherent-after pair c p there side pair.node.files pair.frames turns kept table next rings turns_hold
      (held-after pair c p there side pair.node.files pair.frames turns (λ d. ap (λ n. (description_of pair.node.files d).calls + n) (sym (holders-shown pair.frames side (side_of pair p) callers shown d))))
      (calls-stay side (side_of pair p) callers (statuses-shown pair.frames side (side_of pair p) callers shown) (c.calls p))

-- the turns stay, where each request that waits or is held stays so, and is as far as it was
module _ (pair : Pair) (c : Coherent pair) (p : ℕ) (there : is_there pair.node p ≡ true) (side : Side) where
  pub turns-stay : ((x : ℕ) → waits_or_held (state_of (side_of pair p).book x) ≡ true → (waits_or_held (state_of side.book x) ≡ true) × ((service_of side.linux.services x).progress ≡ (service_of (side_of pair p).linux.services x).progress))
      → TurnsHold (pair_after pair c p there side pair.node.files pair.frames pair.turns)
  turns-stay f e t is =
      let k = c.turns e t is in
      let a = of-sides pair c p there side pair.node.files pair.frames pair.turns
      (λ q (s : Side). waits_or_held (state_of (side_of pair q).book t.request) ≡ true → (waits_or_held (state_of s.book t.request) ≡ true) × ((service_of s.linux.services t.request).progress ≡ (service_of (side_of pair q).linux.services t.request).progress))
      (f t.request) (λ q n u. (u, refl)) t.process k.waits in
      record { waits = a.0; own = ap (pipe_end pair.node.files) a.1 ∙ k.own }
