-- Histories that grow by one event.
use Rattle.hybrid_model.specs.Events.{after, may}
use Rattle.hybrid_model.specs.Pairs.{Pair}
use Rattle.hybrid_model.specs.declared.events.Event.{Event}
use Rattle.ihk_parts.proofs.Walked.{legal_on, state_on}
use Rattle.mck_node.specs.Histories.{Begins, IsHistory}
use Rattle.std.proofs.Common.{List, [], ap, true, ◌++◌, ◌∙◌, ◌∷◌, ◌≡◌}
use Rattle.std.proofs.lemmas.List.{append_assoc}

begins_on : (before js js' : List Event) (e : Event) → Begins before js → js' ≡ js ++ e ∷ [] → Begins before js'
begins_on before js js' e b j = record { rest = b.rest ++ e ∷ []; same = j ∙ (ap (λ xs. xs ++ e ∷ []) b.same ∙ append_assoc before b.rest (e ∷ [])) }

pub one_more : (start : Pair) (before : List Event) (pair pair' : Pair) (js js' : List Event) (e : Event)
    → IsHistory start before (record { pair = pair; journal = js }) → may pair e ≡ true → pair' ≡ after pair e → js' ≡ js ++ e ∷ []
    → IsHistory start before (record { pair = pair'; journal = js' })
one_more start before pair pair' js js' e h m p j = record {
  legal = legal_on start pair js js' e h.legal h.state m j;
  state = state_on start pair pair' js js' e h.state p j;
  goes_on = begins_on before js js' e h.goes_on j;
}
