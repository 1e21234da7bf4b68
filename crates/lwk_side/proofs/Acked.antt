-- A round that is over, and what its thread then does.
use Rattle.hybrid_model.specs.Intake.{change_made_of, changing_thread, round_over, take_ack}
use Rattle.hybrid_model.specs.Pairs.{Here, with_side}
use Rattle.hybrid_model.specs.Rings.{rest_of}
use Rattle.hybrid_model.specs.Sides.{Row, Round}
use Rattle.ikc_channel.specs.declared.Channel.{Channel}
use Rattle.ikc_ring.specs.Rings as one_ring
use Rattle.ikc_ring.specs.declared.Msg.{Msg}
use Rattle.kernel_model.specs.Nodes.{change_in, thread_of}
use Rattle.kernel_model.specs.declared.Change.{Change}
use Rattle.kernel_model.specs.declared.Does.TheVariants.{Asleep, Called, InVm, InWait, Ready, Stopped}
use Rattle.kernel_model.specs.declared.Does.{Does}
use Rattle.lwk_side.specs.Shown.{Rest, here_of}
use Rattle.lwk_side.specs.declared.kernel.Lwk.{Lwk}
use Rattle.lwk_side.specs.declared.task.Task.{Task}
use Rattle.mck_word.specs.Maps.{Map}
use Rattle.std.proofs.Common.{ap, refl, ◌∙◌, ◌≡◌}
use Rattle.std.specs.Prelude.{List, None, Option, [], ℕ, ◌∷◌}

rest-same : (ms : List Msg) → one_ring.rest_of ms ≡ rest_of ms
rest-same [] = refl
rest-same (m ∷ ms) = refl

-- a thread that does something else wants no change
pub no-change : (d : Does) → ((c : Change) → d ≡ InVm c → ⊥) → change_in d ≡ None
no-change (InVm c) none = absurd (none c refl)
no-change Ready none = refl
no-change (Stopped s) none = refl
no-change Called none = refl
no-change (Asleep a) none = refl
no-change (InWait a b) none = refl

-- what the thread of the round wants is what the event makes
pub ack-is : (p t : ℕ) (rest : List Msg) (h : Here) (d : Does) → d ≡ (thread_of h.node t).does → t ≡ changing_thread h.side → change_made_of p t (change_in d) (with_side h (round_over rest h.side)) ≡ take_ack p rest h
unfolding take_ack
ack-is p t rest h d does same =
    ap (λ (x : Does). change_made_of p t (change_in x) (with_side h (round_over rest h.side))) does
    ∙ ap (λ (u : ℕ). change_made_of p u (change_in (thread_of h.node u).does) (with_side h (round_over rest h.side))) same

-- the channel without its round and its first message
module _ {T : Type 0} (lwk : Lwk) (rows : Map Row) (t : Task T) (c : Channel) (round : Option Round) (ring : one_ring.RingState) (r : Rest) where
  pub over-is : round ≡ None → ring ≡ one_ring.without_head c.to_lwk
      → here_of lwk rows (record t { changing = None }) (record c { round = round; to_lwk = ring }) r
      ≡ (let h = here_of lwk rows t c r in with_side h (round_over (rest_of c.to_lwk.items) h.side))
  over-is none first = λ i.
      let h = here_of lwk rows t c r in
      record h { side = record h.side { lwk = record h.side.lwk { changing = None }; round = none i; to_lwk = (ap (λ (x : one_ring.RingState). x.items) first ∙ rest-same c.to_lwk.items) i } }
