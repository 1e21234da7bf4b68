-- A journal's instructions are those of its Runs.
use Rattle.hybrid_laws.proofs.boot.Coherent.{boot-coherent, zero-total}
use Rattle.hybrid_laws.proofs.boot.Sides.{by-guest-at}
use Rattle.hybrid_laws.proofs.every.Event.{whole_event}
use Rattle.hybrid_laws.proofs.maps.Tests.{both}
use Rattle.hybrid_model.specs.Boot.{boot}
use Rattle.hybrid_model.specs.Events.{after, may, may_here, process_of_event}
use Rattle.hybrid_model.specs.Globals.{Coherent}
use Rattle.hybrid_model.specs.Journals.{IsLegal, may_all, state}
use Rattle.hybrid_model.specs.Pairs.{Pair, here}
use Rattle.hybrid_model.specs.declared.events.Event.{Event}
use Rattle.job_model.specs.Prepared.{IsPrepared}
use Rattle.job_model.specs.declared.image.Image.{Image}
use Rattle.job_model.specs.declared.job.Job.{Job}
use Rattle.kernel_model.specs.Nodes.{Process, instructions_in_all, is_there}
use Rattle.kernel_model.specs.OneKernel.{guest_process, guests_of}
use Rattle.mck_word.specs.Maps.{at}
use Rattle.reached_laws.proofs.EventCounts.{counts}
use Rattle.reached_laws.specs.Executed.{executed_by, executed_in}
use Rattle.std.proofs.Common.{ap, arith, refl, sym}
use Rattle.std.specs.Prelude.{List, None, Option, Some, [], true, ◌+◌, ◌∷◌, ◌≡◌}

pub begins-with-none : (job : Job) (imgs : List Image) → instructions_in_all (boot job imgs).node ≡ 0
unfolding guests_of
begins-with-none job imgs = zero-total (λ (x : Process). x.instructions) (boot job imgs).node.processes (λ p x e. (let r = by-guest-at guest_process 1 job.guests imgs p x e in sym (ap (λ (y : Process). y.instructions) r.1)))

-- no process has the next number
fresh : (pair : Pair) → Coherent pair → at pair.node.processes pair.node.next_number ≡ None
fresh pair c = go (at pair.node.processes pair.node.next_number) refl
  where
    go : (o : Option Process) → at pair.node.processes pair.node.next_number ≡ o → o ≡ None
    go None e = refl
    go (Some x) e = absurd (let l = c.known.processes_below pair.node.next_number x e in omega (arith, l))

pub event-counts : (pair : Pair) → Coherent pair → (e : Event) → may pair e ≡ true → instructions_in_all (after pair e).node ≡ instructions_in_all pair.node + executed_by pair e
event-counts pair c e m =
    let p = process_of_event pair.node e in
    let a = both (is_there pair.node p) (may_here e (here pair p)) m in
    counts e p (here pair p) (fresh pair c) a.1

counted : (es : List Event) (pair : Pair) → Coherent pair → may_all pair es ≡ true → instructions_in_all (state pair es).node ≡ instructions_in_all pair.node + executed_in pair es
counted [] pair c m = omega arith
counted (e ∷ es) pair c m =
    let a = both (may pair e) (may_all (after pair e) es) m in
    let b = event-counts pair c e a.0 in
    let d = counted es (after pair e) (whole_event pair c e a.0).0 a.1 in
    omega (arith, b, d)

pub journal-counts : (job : Job) (imgs : List Image) (journal : List Event) → IsPrepared job imgs → IsLegal job imgs journal → instructions_in_all (state (boot job imgs) journal).node ≡ executed_in (boot job imgs) journal
journal-counts job imgs journal prepared legal =
    let a = counted journal (boot job imgs) (boot-coherent job imgs prepared legal.0) legal.1 in
    let b = begins-with-none job imgs in
    omega (arith, a, b)
