-- A state stays coherent, lasting and small, and the boot is all three.
use Rattle.hybrid_laws.proofs.boot.Coherent.{begins, boot-coherent}
use Rattle.hybrid_laws.proofs.calls.Last.{lasting-after}
use Rattle.hybrid_laws.proofs.every.Event.{whole_event}
use Rattle.hybrid_model.specs.Boot.{boot, shortage}
use Rattle.hybrid_model.specs.Events.{after}
use Rattle.hybrid_model.specs.Pairs.{Pair}
use Rattle.hybrid_model.specs.declared.events.Event.{Event}
use Rattle.job_model.specs.Prepared.{IsPrepared}
use Rattle.job_model.specs.declared.image.Image.{Image}
use Rattle.job_model.specs.declared.job.Job.{Job}
use Rattle.node_machine.specs.Reached.{IsSound}
use Rattle.offer_laws.proofs.Small.{boot-small, small-after}
use Rattle.pair_core.specs.Ready.{Ready}
use Rattle.std.proofs.Common.{subst, sym}
use Rattle.std.proofs.Math.Logic.{∥∥₁_map}
use Rattle.std.specs.Prelude.{List, None, ◌≡◌}
use Rattle.told_states.proofs.ToldState.{coherent-told, lasting-told, small-told}

pub sound-told : (pair : Pair) → ∥ IsSound pair ∥₁ → IsSound pair
sound-told pair t = record {
  coherent = coherent-told pair (∥∥₁_map t (λ x. x.coherent));
  lasting = lasting-told pair (∥∥₁_map t (λ x. x.lasting));
  small = small-told pair (∥∥₁_map t (λ x. x.small));
}

pub sound-after : (pair : Pair) (e : Event) → Ready pair e → IsSound (after pair e)
sound-after pair e r = record {
  coherent = (whole_event pair r.sound.coherent e r.may).0;
  lasting = lasting-after pair r.sound.coherent e r.may r.sound.lasting;
  small = small-after pair r.sound.coherent e r.may r.sound.small;
}

pub sound-boot : (job : Job) (imgs : List Image) → IsPrepared job imgs → shortage job imgs ≡ None → IsSound (boot job imgs)
sound-boot job imgs prepared enough = record {
  coherent = boot-coherent job imgs prepared enough;
  lasting = (begins job imgs prepared enough).lasting;
  small = boot-small job imgs prepared;
}

-- of an equal state
pub told-along : {x y : Pair} → y ≡ x → IsSound x → ∥ IsSound y ∥₁
told-along e s = ∣ subst IsSound (sym e) s ∣₁
