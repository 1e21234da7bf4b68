-- A call of the program is the call of its command.
use Rattle.hybrid_model.specs.declared.events.Event.{Event}
use Rattle.mcexec_run.specs.declared.command.Command.{Command}
use Rattle.mck_report.specs.declared.status.Status.{Status}
use Rattle.std.proofs.Common.{List, Option, subst, sym, ℕ, ◌≡◌}

-- what holds of the command, its names, its status and its journal
pub called : (P : Option Command → List ℕ → List ℕ → Status → List Event → Type 0) (given asked : Option Command) (a a' b b' : List ℕ) (s s' : Status) (j j' : List Event) → given ≡ asked → a ≡ a' → b ≡ b' → s' ≡ s → j' ≡ j → P given a b s j → P asked a' b' s' j'
called P given asked a a' b b' s s' j j' e f h k l holds =
    subst (P asked a' b' s') (sym l) (subst (λ x. P asked a' b' x j) (sym k) (subst (λ x. P asked a' x s j) h (subst (λ x. P asked x b s j) f (subst (λ x. P x a b s j) e holds))))
