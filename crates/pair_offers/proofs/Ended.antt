-- Whether some actor has an offer, number by number, and how a run stands by that.
use Rattle.hybrid_model.specs.Journals.{ending, ending_of_run}
use Rattle.hybrid_model.specs.Pairs.{Pair}
use Rattle.hybrid_model.specs.declared.events.Ending.{Ending}
use Rattle.hybrid_model.specs.declared.events.Ending.TheVariants.{Unfinished}
use Rattle.hybrid_model.specs.declared.events.Event.{Event}
use Rattle.offer_laws.proofs.AnOffer.{at-end-is}
use Rattle.offer_laws.proofs.NoOffer.{ends, no-offer-ends}
use Rattle.pair_offers.proofs.First.{below, below-split}
use Rattle.pair_offers.specs.Standing.{offers, some_offers}
use Rattle.run_model.specs.Walks.{Chosen, actors, first_chosen, offer}
use Rattle.run_model.specs.declared.actors.Actor.{Actor}
use Rattle.std.proofs.Common.{ap, refl, ◌∙◌}
use Rattle.std.specs.Prelude.{Bool, List, None, Option, Some, [], cond, false, is_none, is_some, map, not, true, ℕ, ◌+◌, ◌<◌, ◌||◌, ◌∷◌, ◌≡◌, ◌≢◌, ◌≤◌}

module _ (pair : Pair) where
  pub next-number : (f : ℕ → Actor) (from total : ℕ) → from < total → offers pair (f from) ≡ false → some_offers pair (map f (below from total)) ≡ some_offers pair (map f (below (from + 1) total))
  next-number f from total l e =
      ap (λ (ns : List ℕ). some_offers pair (map f ns)) (below-split from total l) ∙ ap (λ b. b || some_offers pair (map f (below (from + 1) total))) e

  pub none-offers : (all : List Actor) → is_none (first_chosen pair all) ≡ not (some_offers pair all)
  none-offers [] = refl
  none-offers (a ∷ all) = go (offer pair a) (none-offers all)
    where
      go : (o : Option Event) → is_none (first_chosen pair all) ≡ not (some_offers pair all)
          → is_none (elim (elim o as (λ _. Option Chosen) [ None ↦ None | Some e ↦ Some (record { actor = a; event = e }) ]) as (λ _. Option Chosen) [ None ↦ first_chosen pair all | Some c ↦ Some c ]) ≡ not (is_some o || some_offers pair all)
      go None h = h
      go (Some e) h = refl

  pub stands : 1 ≤ pair.cores → ending pair ≡ cond (some_offers pair (actors pair)) Unfinished (ending_of_run pair)
  stands some_core =
      ap (λ b. cond b (ending_of_run pair) Unfinished) (at-end-is pair some_core ∙ none-offers (actors pair)) ∙ go (some_offers pair (actors pair))
    where
      go : (b : Bool) → cond {A = Ending} (not b) (ending_of_run pair) Unfinished ≡ cond b Unfinished (ending_of_run pair)
      go true = refl
      go false = refl

  pub over-where-none : 1 ≤ pair.cores → first_chosen pair (actors pair) ≡ None → ending pair ≢ Unfinished
  over-where-none some_core none = ends pair (no-offer-ends pair some_core none)
