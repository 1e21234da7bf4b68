-- What a copy finds: the pinned frame is below the count, and the piece's page is low.
use Rattle.hybrid_laws.proofs.copy.Copy.{may-copy}
use Rattle.hybrid_model.specs.Coherence.{OfProcess}
use Rattle.hybrid_model.specs.Events.{may_here}
use Rattle.hybrid_model.specs.Pairs.{Here}
use Rattle.hybrid_model.specs.Sides.{served}
use Rattle.hybrid_model.specs.declared.events.Event.TheVariants.{Copy}
use Rattle.kernel_model.specs.Progress.{next_piece}
use Rattle.mck_word.specs.Maps.{at}
use Rattle.mck_word.specs.declared.Pid.{Pid}
use Rattle.page_pins.specs.declared.Pin.{Pin}
use Rattle.std.proofs.Common.{ap, sym, ◌∙◌}
use Rattle.std.specs.Prelude.{Some, false, true, ℕ, ◌≡◌}

same-pin : (x y : Pin) → Some x ≡ Some y → x ≡ y
same-pin x y e = cc

module _ (p : ℕ) (h : Here) (ring_number : ℕ → ℕ) (k : OfProcess p h.side h.node h.workers ring_number) (q : Pid) (w : ℕ) (e : may_here (Copy q w) h ≡ true) (x : Pin) (pinned : at h.side.linux.pins w ≡ Some x) where
  fresh : x.copied ≡ false
  fresh = let m = may-copy h q w e in ap (λ (y : Pin). y.copied) (sym (same-pin m.pin x (sym m.there ∙ pinned))) ∙ m.fresh

  -- the piece is of the pinned page
  pub next-page : (next_piece (served h.side.linux w).progress).page ≡ x.page
  next-page =
      let s = k.served.pins_serve w x pinned in
      let n = s.serves in
      rw n (s.page_is fresh)
