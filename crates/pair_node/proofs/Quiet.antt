-- An event that neither makes nor ends a thread makes no process.
use Rattle.hybrid_model.specs.Events.{after, may}
use Rattle.hybrid_model.specs.Globals.{Coherent}
use Rattle.hybrid_model.specs.Pairs.{Pair}
use Rattle.hybrid_model.specs.declared.events.Event.{Event}
use Rattle.hybrid_model.specs.declared.events.Event.TheVariants.{Trap}
use Rattle.kernel_model.specs.Nodes.{has_process}
use Rattle.mck_word.specs.Maps.{keys}
use Rattle.mck_word.specs.declared.Tid.{Tid}
use Rattle.pair_node.proofs.Numbered.{begins-by-trap, keys-after}
use Rattle.pair_node.specs.Listed.{touched_by}
use Rattle.pair_node.specs.declared.members.Touched.TheVariants.{Nothing}
use Rattle.pair_node.specs.declared.members.Touched.{Touched}
use Rattle.std.proofs.Common.{ap, refl, sym, ◌∙◌}
use Rattle.std.specs.Prelude.{Bool, [], cond, false, true, ℕ, List, ◌++◌, ◌∷◌, ◌≡◌}

no-trap : (pair : Pair) (t : Tid) → touched_by pair.node (Trap t) ≡ Nothing → ⊥
no-trap pair t e = cc

pub keys-stay : (pair : Pair) (c : Coherent pair) (e : Event) → may pair e ≡ true → touched_by pair.node e ≡ Nothing → keys (after pair e).node.processes ≡ keys pair.node.processes
keys-stay pair c e m quiet = keys-after pair c e m ∙ go (has_process (after pair e).node pair.node.next_number) refl
  where
    go : (b : Bool) → has_process (after pair e).node pair.node.next_number ≡ b → cond b (keys pair.node.processes ++ pair.node.next_number ∷ []) (keys pair.node.processes) ≡ keys pair.node.processes
    go false h = refl
    go true h = let trap = begins-by-trap pair c e m h in absurd (no-trap pair trap.0 (ap (λ (x : Event). touched_by pair.node x) (sym trap.1) ∙ quiet))
