-- Events of the two kernels, and stretches of journals: no addition to a doubleword is lost.
use Rattle.kernel_model.specs.OneKernel as One
use Rattle.atomic_laws.proofs.AddingSteps.{steps-add, whole-pages}
use Rattle.atomic_laws.specs.Additions.{HasWholePages, IsDoubleword, IsMore, OnlyAdds, PagesWhole, adds, doubleword, doubleword_of, memory_of}
use Rattle.hybrid_laws.proofs.boot.Coherent.{begins}
use Rattle.hybrid_laws.proofs.every.Lwk.{each-lwk}
use Rattle.hybrid_laws.proofs.journal.Journal.{each-event, follows}
use Rattle.hybrid_laws.proofs.journal.Still.{and-true}
use Rattle.hybrid_laws.proofs.maps.Tests.{both}
use Rattle.hybrid_model.specs.Boot.{boot}
use Rattle.hybrid_model.specs.Claims.{Runs}
use Rattle.hybrid_model.specs.Events.{after, may}
use Rattle.hybrid_model.specs.Globals.{Coherent}
use Rattle.hybrid_model.specs.Images.{image}
use Rattle.hybrid_model.specs.Journals.{IsLegal, images, may_all, state}
use Rattle.hybrid_model.specs.OneProcess.{memory_here}
use Rattle.hybrid_model.specs.Pairs.{Pair, here}
use Rattle.hybrid_model.specs.Shown.{one, shown_own}
use Rattle.hybrid_model.specs.Sides.{Side, new_side}
use Rattle.hybrid_model.specs.Spaces.{shown_memory, shown_row}
use Rattle.hybrid_model.specs.declared.events.Event.{Event}
use Rattle.isa_model.specs.Memory.{Memory, Page}
use Rattle.job_model.specs.Prepared.{IsPrepared}
use Rattle.job_model.specs.declared.image.Image.{Image}
use Rattle.job_model.specs.declared.job.Job.{Job}
use Rattle.kernel_model.specs.declared.steps.Step.{Step}
use Rattle.mck_word.specs.EachLaws.{at-each, each-none}
use Rattle.mck_word.specs.Maps.{at}
use Rattle.std.proofs.Common.{ap, refl, subst, sym, ◌∙◌}
use Rattle.std.specs.Prelude.{List, None, Option, Some, [], option_map, true, unwrap_or, ℕ, ◌++◌, ◌∷◌, ◌≡◌}
use Rattle.work_laws.proofs.pages.Boot.{boot-full}
use Rattle.work_laws.proofs.pages.Steps.{after_all-full, here-full}
use Rattle.work_laws.specs.WholePages.{AllFull, Full, IsFull}

-- ---- a process's memory is the one that is shown
shown-is : (pair : Pair) (p : ℕ) → memory_of (one pair) p ≡ memory_here (here pair p)
shown-is pair p = ap (λ o. (unwrap_or o One.no_own).memory) (at-each (shown_own pair.frames) pair.sides p) ∙ go (at pair.sides p) refl
  where
    go : (o : Option Side) → at pair.sides p ≡ o → (unwrap_or (option_map (shown_own pair.frames) o) One.no_own).memory ≡ memory_here (here pair p)
    go None e = sym (ap (λ o. shown_memory (unwrap_or o (new_side 0)).lwk.table pair.frames) e ∙ each-none (shown_row pair.frames))
    go (Some s) e = sym (ap (λ o. shown_memory (unwrap_or o (new_side 0)).lwk.table pair.frames) e)

full-pages : (m : Memory) → HasWholePages m → Full m
full-pages m whole i = go (at m i) refl
  where
    go : (o : Option Page) → at m i ≡ o → IsFull o
    go None e = tt
    go (Some x) e = whole i x e

all-full : (pair : Pair) → PagesWhole pair → AllFull (one pair)
all-full pair whole p o e = subst Full (sym (shown-is pair p) ∙ ap (λ x. (unwrap_or x One.no_own).memory) e) (full-pages (memory_here (here pair p)) (whole p))

pages-whole : (pair : Pair) → AllFull (one pair) → PagesWhole pair
pages-whole pair all p = subst HasWholePages (shown-is pair p) (whole-pages (memory_of (one pair) p) (here-full (one pair) all p).0)

-- ---- steps that lead from what one state shows to what another shows
run-adds : (before now : Pair) (ss : List Step) (p a : ℕ) → IsDoubleword a → AllFull (one before) → Runs (one before) ss (one now) → OnlyAdds p a (one before) ss
    → IsMore (doubleword_of before p a) (adds p a (one before) ss) (doubleword_of now p a)
run-adds before now ss p a is all runs only =
    subst (λ (m : Memory). IsMore (doubleword m a) (adds p a (one before) ss) (doubleword_of now p a)) (shown-is before p)
    (subst (λ (m : Memory). IsMore (doubleword (memory_of (one before) p) a) (adds p a (one before) ss) (doubleword m a)) (ap (λ (o : One.OneKernel). memory_of o p) runs.leaves ∙ shown-is now p)
    (steps-add p a is ss (one before) all only))

-- ---- one event
pub event-adds : (pair : Pair) (e : Event) (p a : ℕ) → IsDoubleword a → Coherent pair → PagesWhole pair → may pair e ≡ true → OnlyAdds p a (one pair) (image pair e)
    → IsMore (doubleword_of pair p a) (adds p a (one pair) (image pair e)) (doubleword_of (after pair e) p a)
event-adds pair e p a is c full m only = run-adds pair (after pair e) (image pair e) p a is (all-full pair full) (each-event each-lwk pair e c m).simulated only

pub event-whole : (pair : Pair) (e : Event) → Coherent pair → PagesWhole pair → may pair e ≡ true → PagesWhole (after pair e)
event-whole pair e c full m =
    let h = each-event each-lwk pair e c m in
    pages-whole (after pair e) (subst AllFull h.simulated.leaves (after_all-full (image pair e) (one pair) (all-full pair full)))

-- ---- stretches of journals
two-parts : (xs ys : List Event) (pair : Pair) → may_all pair (xs ++ ys) ≡ true → (may_all pair xs ≡ true) × (may_all (state pair xs) ys ≡ true)
two-parts [] ys pair m = (refl, m)
two-parts (x ∷ xs) ys pair m =
    let b = both (may pair x) (may_all (after pair x) (xs ++ ys)) m in
    let rest = two-parts xs ys (after pair x) b.1 in
    (and-true (may pair x) (may_all (after pair x) xs) b.0 rest.0, rest.1)

one-after-other : (xs ys : List Event) (pair : Pair) → state (state pair xs) ys ≡ state pair (xs ++ ys)
one-after-other [] ys pair = refl
one-after-other (x ∷ xs) ys pair = one-after-other xs ys (after pair x)

-- in each state that a journal leaves, pages are full
pub journal-whole : (job : Job) (imgs : List Image) (journal : List Event) → IsPrepared job imgs → IsLegal job imgs journal → PagesWhole (state (boot job imgs) journal)
journal-whole job imgs journal prepared legal =
    let b = begins job imgs prepared legal.0 in
    let f = follows (each-event each-lwk) journal (boot job imgs) b.coherent b.lasting legal.1 in
    let all = subst AllFull (sym b.boots) (boot-full job imgs) in
    pages-whole (state (boot job imgs) journal) (subst AllFull f.simulated.leaves (after_all-full (images (boot job imgs) journal) (one (boot job imgs)) all))

pub stretch-adds : (job : Job) (imgs : List Image) (before during : List Event) (p a : ℕ) → IsDoubleword a → IsPrepared job imgs → IsLegal job imgs (before ++ during)
    → OnlyAdds p a (one (state (boot job imgs) before)) (images (state (boot job imgs) before) during)
    → IsMore (doubleword_of (state (boot job imgs) before) p a) (adds p a (one (state (boot job imgs) before)) (images (state (boot job imgs) before) during)) (doubleword_of (state (boot job imgs) (before ++ during)) p a)
stretch-adds job imgs before during p a is prepared legal only =
    let parts = two-parts before during (boot job imgs) legal.1 in
    let b = begins job imgs prepared legal.0 in
    let f = follows (each-event each-lwk) before (boot job imgs) b.coherent b.lasting parts.0 in
    let g = follows (each-event each-lwk) during (state (boot job imgs) before) f.coherent f.lasting parts.1 in
    let full = journal-whole job imgs before prepared (legal.0, parts.0) in
    subst (λ (now : Pair). IsMore (doubleword_of (state (boot job imgs) before) p a) (adds p a (one (state (boot job imgs) before)) (images (state (boot job imgs) before) during)) (doubleword_of now p a)) (one-after-other before during (boot job imgs))
    (run-adds (state (boot job imgs) before) (state (state (boot job imgs) before) during) (images (state (boot job imgs) before) during) p a is (all-full (state (boot job imgs) before) full) g.simulated only)
