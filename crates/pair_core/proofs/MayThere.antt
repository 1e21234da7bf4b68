-- An event of a process that is there, by its side.
use Rattle.file_model.specs.Files.{Files}
use Rattle.hybrid_model.specs.Events.{may, may_here, process_of_event}
use Rattle.hybrid_model.specs.Pairs.{here}
use Rattle.hybrid_model.specs.Sides.{Row}
use Rattle.hybrid_model.specs.declared.events.Event.{Event}
use Rattle.mck_word.specs.Maps.{Map}
use Rattle.pair_core.proofs.Found.{here-is}
use Rattle.pair_core.specs.Shown.{here_in, pair_of}
use Rattle.pair_core.specs.There.{IsThere}
use Rattle.pair_core.specs.declared.parts.Parts.{Parts}
use Rattle.pair_core.specs.declared.parts.Side.{Side}
use Rattle.std.proofs.Common.{ap, arith, refl, sym, ◌∙◌}
use Rattle.std.proofs.lemmas.Bool.{true≢false}
use Rattle.std.specs.Prelude.{Bool, IsSome, None, Option, Some, false, not, true, ℕ, ◌&&◌, ◌≡◌}

module _ {T F : Type 0} (rows : T → Map Row) (files : F → Files) (x : Parts T F) (e : Event) (s : Side T) where
  abbrev own : ℕ
  own = process_of_event (pair_of rows files x).node e

  pub may-there : IsThere rows files x own s → may_here e (here_in rows files x s) ≡ may (pair_of rows files x) e
  may-there h = ap (may_here e) (sym (here-is rows files x own s h.side)) ∙ ap (λ b. b && may_here e (here (pair_of rows files x) own)) (sym h.there)

-- one of the two kernels is asked
pub asked-linux : (linux here result a : Bool) → a ≡ true → a ≡ (linux && here) → here ≡ result → a ≡ result
asked-linux true here result a is first same = first ∙ same
asked-linux false here result a is first same = absurd (true≢false (sym is ∙ first))

pub asked-kernel : (linux here result a b : Bool) → a ≡ false → a ≡ (linux && here) → b ≡ (not linux && here) → here ≡ result → b ≡ result
asked-kernel true here result a b isnt first last same = last ∙ (sym isnt ∙ (first ∙ same))
asked-kernel false here result a b isnt first last same = last ∙ same

pub some-row : {V : Type 0} (o : Option V) → IsSome o → o ≡ None → ⊥
some-row None h e = absurd (grind (arith, h))
some-row (Some v) h e = cc
