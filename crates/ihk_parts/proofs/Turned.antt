-- Turns and the choices of a walk's definition.
use Rattle.ihk_parts.specs.Turns.{chosen, generator, turn_after, word}
use Rattle.ihk_parts.specs.declared.turn.Turn.TheVariants.{Drawn, Round}
use Rattle.run_model.specs.Walks.{Chosen, Walker, next_choice}
use Rattle.std.proofs.Common.{Bool, None, Some, add-one, ap, cond, false, refl, sym, true, ℕ, ◌+◌, ◌≡◌}

pub choice : (order : ℕ) (w : Walker) (t : Bool) → chosen (cond t (Round w.last) (Drawn (generator order w.drawn))) w.pair ≡ next_choice (cond t None (Some (word order))) w
choice order w true = refl
choice order w false = refl

pub moved_on : (order : ℕ) (w : Walker) (c : Chosen) (t : Bool) →
    turn_after (cond t (Round w.last) (Drawn (generator order w.drawn))) c ≡ cond t (Round (Some c.actor)) (Drawn (generator order (w.drawn + 1)))
moved_on order w c true = refl
moved_on order w c false = ap (λ n. Drawn (generator order n)) (sym (add-one w.drawn))
