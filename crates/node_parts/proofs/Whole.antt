-- The whole walk of an instance.
use Rattle.hybrid_model.specs.Boot.{boot}
use Rattle.hybrid_model.specs.Journals.{ending, may_all, state}
use Rattle.hybrid_model.specs.Pairs.{Pair}
use Rattle.hybrid_model.specs.declared.events.Ending.TheVariants.{Unfinished}
use Rattle.hybrid_model.specs.declared.events.Event.{Event}
use Rattle.ihk_parts.specs.Turns.{words_of}
use Rattle.ihk_parts.specs.Walking.{walker_at}
use Rattle.job_model.specs.declared.image.Image.{Image}
use Rattle.job_model.specs.declared.job.Job.{Job}
use Rattle.node_parts.proofs.Going.{walk_for-end}
use Rattle.node_parts.specs.Courses.{Course, IsAtEnd, events, place}
use Rattle.node_parts.specs.Instances.{IsOfJob, IsWholeWalk}
use Rattle.node_parts.specs.Partitions.{Booted, stands, walked}
use Rattle.run_model.specs.Walks.{start, walk_for}
use Rattle.std.proofs.Common.{List, add-one, ap, subst, sym, true, ◌∙◌, ◌≡◌, ◌≢◌}

-- what an instance shows
abbrev pub seen_as : Job → List Image → Course → Booted
seen_as job images walk = record { job = job; images = images; order = walk.order; made = walk.made }

whole-seen : (job : Job) (images : List Image) (walk : Course) (pair : Pair) (journal : List Event)
    → IsOfJob job images walk → IsAtEnd (words_of walk.order) (stands (seen_as job images walk))
    → pair ≡ (place walk).pair → journal ≡ events walk → may_all walk.start journal ≡ true
    → pair ≡ state walk.start journal → IsWholeWalk (seen_as job images walk) pair journal
whole-seen job images walk pair journal of end there told legal led =
    let words = words_of walk.order in
    let begins : walk.start ≡ boot job images = of.start in
    let all : walk_for words walk.made (start job images) ≡ journal = sym
    (told ∙ ap (λ p. walk_for words walk.made (walker_at p)) begins) in
    let more = ap (λ n. walk_for words n (start job images)) (add-one walk.made)
    ∙ (walk_for-end words walk.made (start job images) end.none ∙ all) in
    let here : pair ≡ (stands (seen_as job images walk)).pair = there ∙ ap
    (λ p. (walked words walk.made (walker_at p)).pair) begins in
    record {
      prepared = of.prepared;
      legal = (of.frames, subst (λ p. may_all p journal ≡ true) begins legal);
      walked = (walk.made, all, more);
      state = led ∙ ap (λ p. state p journal) begins;
      over = subst (λ p. ending p ≢ Unfinished) (sym here) end.over;
    }

pub whole : (job : Job) (images : List Image) (walk : Course) (b : Booted) (pair : Pair) (journal : List Event)
    → seen_as job images walk ≡ b → IsOfJob job images walk → IsAtEnd (words_of b.order) (stands b)
    → pair ≡ (place walk).pair → journal ≡ events walk → may_all walk.start journal ≡ true
    → pair ≡ state walk.start journal → IsWholeWalk b pair journal
whole job images walk b pair journal is of end there told legal led =
    subst (λ x. IsWholeWalk x pair journal) is
    (whole-seen job images walk pair journal of (subst (λ x. IsAtEnd (words_of x.order) (stands x)) (sym is) end) there
    told legal led)
