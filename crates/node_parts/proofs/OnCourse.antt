-- What a walk keeps while it looks for an event, and when the event happens.
use Rattle.hybrid_model.specs.Events.{after, may}
use Rattle.hybrid_model.specs.Journals.{ending}
use Rattle.hybrid_model.specs.Pairs.{Pair}
use Rattle.hybrid_model.specs.declared.events.Ending.TheVariants.{Unfinished}
use Rattle.hybrid_model.specs.declared.events.Event.{Event}
use Rattle.ihk_parts.proofs.Offered.{chosen_none, chosen_offered}
use Rattle.ihk_parts.proofs.Turned.{choice}
use Rattle.ihk_parts.proofs.Walked.{legal_on, state_on}
use Rattle.ihk_parts.specs.Turns.{first_turn, turn_at, words_of}
use Rattle.ihk_parts.specs.Walking.{LeavesLess, walker_at}
use Rattle.ihk_parts.specs.declared.turn.Turn.{Turn}
use Rattle.node_parts.proofs.Going.{walk_for-more, walked-more}
use Rattle.node_parts.specs.Courses.{Course, IsAtEnd, IsOn, Waits, events, has_next, one_further, place}
use Rattle.node_parts.specs.Partitions.{walked}
use Rattle.quiet_laws.specs.Quiet.{IsQuiet}
use Rattle.run_model.specs.Walks.{Chosen, Walker, actors, first_chosen, moved, next_choice, offer, walk_for}
use Rattle.run_model.specs.declared.actors.Actor.{Actor}
use Rattle.std.proofs.Common.{Bool, List, None, Option, Some, [], ap, arith, cond, false, is_some, length}
use Rattle.std.proofs.Common.{length-append, refl, subst, suc, sym, true, ℕ, ◌+◌, ◌++◌, ◌<◌, ◌==◌, ◌∙◌, ◌∷◌, ◌≡◌, ◌≢◌}
use Rattle.std.proofs.lemmas.Bool.{false≢true}
use Rattle.work_laws.specs.Left.{left}

-- the course of a walk with this journal
abbrev pub on_course : Pair → ℕ → List Event → Course
on_course start order noted = record { start = start; order = order; made = length noted }

pub begins : (start now : Pair) (order : ℕ) (turn : Turn) (noted : List Event) → start ≡ now → turn ≡ first_turn order
    → noted ≡ [] → LeavesLess now
    → IsOn (on_course start order noted) now turn None noted false
begins start now order turn noted same first none less =
    subst (λ js. IsOn (on_course start order js) now turn None js false) (sym none) (record {
      ends = subst LeavesLess (sym same) less;
      pair = sym same;
      turn = first;
      journal = refl;
      legal = refl;
      state = sym same;
      quiet = λ is. absurd (false≢true is);
    })

-- ---- looking for an event

-- another turn, event and knowledge of quiet, over a machine in the same state and an equal journal
pub looked : (start now now' : Pair) (order : ℕ) (whose whose' : Turn) (waiting waiting' : Option Event)
    (noted noted' : List Event) (still still' : Bool)
    → IsOn (on_course start order noted) now whose waiting noted still → now' ≡ now → noted' ≡ noted
    → Waits order (place (on_course start order noted)) whose' waiting' → (still' ≡ true → IsQuiet now)
    → IsOn (on_course start order noted') now' whose' waiting' noted' still'
looked start now now' order whose whose' waiting waiting' noted noted' still still' on same journal waits quiet =
    subst (λ js. IsOn (on_course start order js) now' whose' waiting' js still') (sym journal) (record {
      ends = on.ends;
      pair = same ∙ on.pair;
      turn = waits;
      journal = on.journal;
      legal = on.legal;
      state = same ∙ on.state;
      quiet = λ is. subst IsQuiet (sym same) (quiet is);
    })

-- the event that waits may happen, since an actor offers it
pub waits_may : (order : ℕ) (w : Walker) (turn : Turn) (e : Event) (now : Pair) → Waits order w turn (Some e)
    → now ≡ w.pair → ((a : Actor) → offer now a ≡ Some e → may now e ≡ true) → may now e ≡ true
waits_may order w turn e now waits same offered =
    let o = chosen_offered (turn_at order w.last w.drawn) w.pair waits.0 (choice order w (order == 0) ∙ waits.1) in
    offered o.0 (ap (λ p. offer p o.0) same ∙ (o.1 ∙ ap (λ x. Some x) (sym waits.2)))

-- ---- one event more

pub gone : (start now now' : Pair) (order : ℕ) (whose : Turn) (e : Event) (noted noted' : List Event)
    (still still' : Bool)
    → IsOn (on_course start order noted) now whose (Some e) noted still → may now e ≡ true → now' ≡ after now e
    → noted' ≡ noted ++ e ∷ [] → (still' ≡ true → IsQuiet now')
    → IsOn (on_course start order noted') now' whose None noted' still'
gone start now now' order whose e noted noted' still still' on may_it next journal quiet =
    let c = on_course start order noted in
    let words = words_of order in
    let w = walker_at start in
    let ch = on.turn.0 in
    let one : length noted' ≡ suc (length noted) = omega (arith, ap length journal, length-append noted (e ∷ [])) in
    let there : walked words (length noted') w ≡ moved ch (place c) = ap (λ n. walked words n w) one ∙ walked-more words
    (length noted) w ch on.turn.1 in
    let event : e ≡ ch.event = on.turn.2 in
    record {
      ends = on.ends;
      pair =
          next ∙ (ap (λ p. after p e) on.pair
          ∙ (ap (after (place c).pair) event ∙ ap (λ (x : Walker). x.pair) (sym there)));
      turn = subst (λ (x : Walker). Waits order x whose None) (sym there) on.turn.3;
      journal =
          journal ∙ (ap (λ es. es ++ e ∷ []) on.journal
          ∙ (ap (λ x. events c ++ x ∷ []) event
          ∙ (sym (walk_for-more words (length noted) w ch on.turn.1) ∙ ap (λ n. walk_for words n w) (sym one))));
      legal = legal_on start now noted noted' e on.legal on.state may_it journal;
      state = state_on start now now' noted noted' e on.state next journal;
      quiet = quiet;
    }

-- the event lessens what is left to do
pub lessens : (start now : Pair) (order : ℕ) (whose : Turn) (waiting : Option Event) (e : Event) (noted : List Event)
    (still : Bool)
    → IsOn (on_course start order noted) now whose waiting noted still → may now e ≡ true
    → left (after now e) < left now
lessens start now order whose waiting e noted still on may_it =
    let less = on.ends noted e on.legal (ap (λ p. may p e) (sym on.state) ∙ may_it) in
    subst (λ p. left (after p e) < left p) (sym on.state) less

pub less_on : (now now' p q : Pair) (e : Event) → left (after now e) < left now → now' ≡ after now e → now' ≡ p
    → now ≡ q → left p < left q
less_on now now' p q e less next there here = omega (arith, less, ap left next, ap left there, ap left here)

-- ---- the end

no_choice : (o : Option Chosen) → false ≡ is_some o → o ≡ None
no_choice None h = refl
no_choice (Some c) h = cc

pub at_end : (old new : Course) (now : Pair) → false ≡ has_next old → new ≡ one_further old → now ≡ (place new).pair
    → (first_chosen now (actors now) ≡ None → ending now ≢ Unfinished)
    → IsAtEnd (words_of new.order) (place new)
at_end old new now none further there over =
    let stays : new ≡ old = further ∙ ap (λ b. cond b (record old { made = old.made + 1 }) old) (sym none) in
    let here = no_choice (next_choice (words_of old.order) (place old)) none in
    let w = place new in
    let end : next_choice (words_of new.order) w ≡ None = ap (λ c. next_choice (words_of c.order) (place c)) stays
    ∙ here in
    let nobody = chosen_none (turn_at new.order w.last w.drawn) w.pair (choice new.order w (new.order == 0) ∙ end) in
    record {
      none = end;
      over =
          subst (λ p. ending p ≢ Unfinished) there
          (over (subst (λ p. first_chosen p (actors p) ≡ None) (sym there) nobody));
    }
