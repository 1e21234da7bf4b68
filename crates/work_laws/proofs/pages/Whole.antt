-- Each page that is shown has its 4,096 bytes, from the boot on.
use Rattle.hybrid_laws.proofs.boot.Coherent.{boots}
use Rattle.hybrid_laws.proofs.every.Event.{whole_event}
use Rattle.hybrid_laws.proofs.maps.Tests.{both}
use Rattle.hybrid_model.specs.Boot.{boot, shortage}
use Rattle.hybrid_model.specs.Events.{after, may}
use Rattle.hybrid_model.specs.Globals.{Coherent}
use Rattle.hybrid_model.specs.Images.{image}
use Rattle.hybrid_model.specs.Journals.{may_all, state}
use Rattle.hybrid_model.specs.Pairs.{Pair}
use Rattle.hybrid_model.specs.Shown.{one}
use Rattle.hybrid_model.specs.declared.events.Event.{Event}
use Rattle.job_model.specs.Prepared.{IsPrepared}
use Rattle.job_model.specs.declared.image.Image.{Image}
use Rattle.job_model.specs.declared.job.Job.{Job}
use Rattle.std.proofs.Common.{subst, sym}
use Rattle.std.specs.Prelude.{List, None, [], true, ◌∷◌, ◌≡◌}
use Rattle.work_laws.proofs.pages.Boot.{boot-full}
use Rattle.work_laws.proofs.pages.Steps.{after_all-full}
use Rattle.work_laws.specs.WholePages.{AllFull, WholePages}

pub whole-boot : (job : Job) (imgs : List Image) → IsPrepared job imgs → shortage job imgs ≡ None → WholePages (boot job imgs)
whole-boot job imgs prepared enough = subst AllFull (sym (boots job imgs prepared enough)) (boot-full job imgs)

pub whole-after : (pair : Pair) (e : Event) → Coherent pair → may pair e ≡ true → WholePages pair → WholePages (after pair e)
whole-after pair e c m whole = subst AllFull (whole_event pair c e m).1.leaves (after_all-full (image pair e) (one pair) whole)

pub whole-journal : (es : List Event) (pair : Pair) → Coherent pair → may_all pair es ≡ true → WholePages pair → WholePages (state pair es)
whole-journal [] pair c m whole = whole
whole-journal (e ∷ es) pair c m whole =
    let a = both (may pair e) (may_all (after pair e) es) m in
    whole-journal es (after pair e) (whole_event pair c e a.0).0 a.1 (whole-after pair e c a.0 whole)
