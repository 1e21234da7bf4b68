-- A walk: what it chooses may happen, and it chooses nothing exactly where the run is over. So its events are a legal journal, at the end of which the run is over.
use Rattle.hybrid_laws.proofs.boot.Coherent.{boot-coherent}
use Rattle.hybrid_model.specs.Boot.{boot, shortage}
use Rattle.hybrid_model.specs.Events.{after, may}
use Rattle.hybrid_model.specs.Globals.{Coherent}
use Rattle.hybrid_model.specs.Journals.{IsOver, is_at_end, may_all, state}
use Rattle.hybrid_model.specs.Pairs.{Pair}
use Rattle.hybrid_model.specs.Tallies.{Each}
use Rattle.hybrid_model.specs.declared.events.Event.{Event}
use Rattle.job_model.specs.Prepared.{IsPrepared}
use Rattle.job_model.specs.declared.image.Image.{Image}
use Rattle.job_model.specs.declared.job.Job.{Job}
use Rattle.offer_laws.proofs.AnOffer.{none-at-end}
use Rattle.offer_laws.proofs.Each.{each-join, each-parts}
use Rattle.offer_laws.proofs.NoOffer.{none-ends}
use Rattle.offer_laws.proofs.OffersMay.{offer-may}
use Rattle.offer_laws.proofs.Over.{end-is-over}
use Rattle.offer_laws.proofs.Silence.{OffersNone, chosen-none, none-chosen}
use Rattle.offer_laws.proofs.Small.{coherent-journal}
use Rattle.run_model.specs.Walks.{Chosen, IsWalked, Walker, actors, behind, chosen_by, first_chosen, in_turn, is_same_actor, moved, next_by_word, next_choice, offer, start, walk_for}
use Rattle.run_model.specs.declared.actors.Actor.{Actor}
use Rattle.std.proofs.Common.{ap, arith, refl, subst, sym, ◌∙◌}
use Rattle.std.proofs.lemmas.Bool.Decides.{nat_tests}
use Rattle.std.specs.List.{cons_option, filter_map}
use Rattle.std.specs.Prelude.{zero, suc, Bool, List, None, Option, Some, [], cond, false, get_or, is_none, length, map, true, ℕ, ◌%◌, ◌&&◌, ◌++◌, ◌+◌, ◌<◌, ◌==◌, ◌∷◌, ◌≡◌, ◌≤◌}

-- ---- what is chosen may happen
abbrev chosen : Actor → Event → Chosen
chosen a e = record { actor = a; event = e }

module _ (pair : Pair) where
  abbrev MayHappen : Option Chosen → Type 0
  MayHappen o = (c : Chosen) → o ≡ Some c → may pair c.event ≡ true

  none-may : MayHappen None
  none-may c e = absurd (grind (arith, e))

  by-actor : (a : Actor) → MayHappen (chosen_by pair a)
  by-actor a = go (offer pair a) refl
    where
      go : (o : Option Event) → offer pair a ≡ o → MayHappen (elim o as (λ _. Option Chosen) [ None ↦ None | Some e ↦ Some (record { actor = a; event = e }) ])
      go None f = none-may
      go (Some e) f = λ c g. (let y : chosen a e ≡ c = cc in ap (λ (z : Chosen). may pair z.event) (sym y) ∙ offer-may pair a e f)

  first-may : (all : List Actor) → MayHappen (first_chosen pair all)
  first-may [] = none-may
  first-may (a ∷ all) = go (chosen_by pair a) (by-actor a) (first-may all)
    where
      go : (o : Option Chosen) → MayHappen o → MayHappen (first_chosen pair all) → MayHappen (elim o as (λ _. Option Chosen) [ None ↦ first_chosen pair all | Some c ↦ Some c ])
      go None h r = r
      go (Some c) h r = h

  all-may : (all : List Actor) → Each MayHappen (map (λ (c : Chosen). Some c) (filter_map (chosen_by pair) all))
  all-may [] = tt
  all-may (a ∷ all) = go (chosen_by pair a) (by-actor a) (all-may all)
    where
      go : (o : Option Chosen) → MayHappen o → Each MayHappen (map (λ (c : Chosen). Some c) (filter_map (chosen_by pair) all)) → Each MayHappen (map (λ (c : Chosen). Some c) (cons_option o (filter_map (chosen_by pair) all)))
      go None h r = r
      go (Some c) h r = (h, r)

  got-may : (os : List (Option Chosen)) (i : ℕ) → Each MayHappen os → MayHappen (get_or os i None)
  got-may [] i h = none-may
  got-may (o ∷ os) zero h = h.0
  got-may (o ∷ os) (suc i) h = got-may os i h.1

  word-may : (word : ℕ) → MayHappen (next_by_word word pair)
  word-may word = go (length all == 0)
    where
      all : List Chosen
      all = filter_map (chosen_by pair) (actors pair)

      go : (b : Bool) → MayHappen (cond b None (get_or (map (λ (c : Chosen). Some c) all) (word % length all) None))
      go true = none-may
      go false = got-may (map (λ (c : Chosen). Some c) all) (word % length all) (all-may (actors pair))

pub next-may : (words : Option (ℕ → ℕ)) (w : Walker) (c : Chosen) → next_choice words w ≡ Some c → may w.pair c.event ≡ true
next-may None w c e = first-may w.pair (in_turn w.last (actors w.pair)) c e
next-may (Some words) w c e = word-may w.pair (words w.drawn) c e

-- ---- nothing is chosen exactly where no actor has an offer
module _ (pair : Pair) where
  turn-none : (last : Option Actor) (all : List Actor) → first_chosen pair (in_turn last all) ≡ None → Each (OffersNone pair) all
  turn-none None all e = none-chosen pair all e
  turn-none (Some a) all e = let r = each-parts (OffersNone pair) (behind a all) all (none-chosen pair (behind a all ++ all) e) in r.1

  each-behind : (a : Actor) (all : List Actor) → Each (OffersNone pair) all → Each (OffersNone pair) (behind a all)
  each-behind a [] h = tt
  each-behind a (b ∷ all) h = go (is_same_actor a b) (each-behind a all h.1)
    where
      go : (x : Bool) → Each (OffersNone pair) (behind a all) → Each (OffersNone pair) (cond x all (behind a all))
      go true r = h.1
      go false r = r

  none-turn : (last : Option Actor) (all : List Actor) → Each (OffersNone pair) all → first_chosen pair (in_turn last all) ≡ None
  none-turn None all h = chosen-none pair all h
  none-turn (Some a) all h = chosen-none pair (behind a all ++ all) (each-join (OffersNone pair) (behind a all) all (each-behind a all h) h)

  no-choices : (all : List Actor) → filter_map (chosen_by pair) all ≡ [] → Each (OffersNone pair) all
  no-choices [] e = tt
  no-choices (a ∷ all) e = go (offer pair a) refl e (no-choices all)
    where
      go : (o : Option Event) → offer pair a ≡ o → cons_option (elim o as (λ _. Option Chosen) [ None ↦ None | Some d ↦ Some (record { actor = a; event = d }) ]) (filter_map (chosen_by pair) all) ≡ []
          → (filter_map (chosen_by pair) all ≡ [] → Each (OffersNone pair) all) → OffersNone pair a × Each (OffersNone pair) all
      go None f k r = (f, r k)
      go (Some d) f k r = absurd (let n = ap {B = ℕ} length k in omega (arith, n))

  choices-none : (all : List Actor) → Each (OffersNone pair) all → filter_map (chosen_by pair) all ≡ []
  choices-none [] h = refl
  choices-none (a ∷ all) h =
      ap (λ (o : Option Event). cons_option (elim o as (λ _. Option Chosen) [ None ↦ None | Some d ↦ Some (record { actor = a; event = d }) ]) (filter_map (chosen_by pair) all)) h.0
      ∙ choices-none all h.1

  -- the place of a word is below the number of choices
  got-some : (cs : List Chosen) (i : ℕ) → i < length cs → get_or (map (λ (c : Chosen). Some c) cs) i None ≡ None → ⊥
  got-some [] i l e = omega (arith, l)
  got-some (c ∷ cs) zero l e = grind (arith, e)
  got-some (c ∷ cs) (suc i) l e = got-some cs i (omega (arith, l)) e

  word-none : (word : ℕ) → next_by_word word pair ≡ None → Each (OffersNone pair) (actors pair)
  word-none word e = no-choices (actors pair) (go (filter_map (chosen_by pair) (actors pair)) e)
    where
      go : (cs : List Chosen) → cond (length cs == 0) None (get_or (map (λ (c : Chosen). Some c) cs) (word % length cs) None) ≡ None → cs ≡ []
      go [] k = refl
      go (c ∷ cs) k = absurd (
          let some : (length (c ∷ cs) == 0) ≡ false = grind (arith, nat_tests) in
          let got = sym (ap (λ b. cond b None (get_or (map (λ (x : Chosen). Some x) (c ∷ cs)) (word % length (c ∷ cs)) None)) some) ∙ k in
          got-some (c ∷ cs) (word % length (c ∷ cs)) (omega arith) got
          )

  none-word : (word : ℕ) → Each (OffersNone pair) (actors pair) → next_by_word word pair ≡ None
  none-word word h = ap (λ (cs : List Chosen). cond (length cs == 0) None (get_or (map (λ (c : Chosen). Some c) cs) (word % length cs) None)) (choices-none (actors pair) h)

next-none : (words : Option (ℕ → ℕ)) (w : Walker) → next_choice words w ≡ None → Each (OffersNone w.pair) (actors w.pair)
next-none None w e = turn-none w.pair w.last (actors w.pair) e
next-none (Some words) w e = word-none w.pair (words w.drawn) e

none-next : (words : Option (ℕ → ℕ)) (w : Walker) → Each (OffersNone w.pair) (actors w.pair) → next_choice words w ≡ None
none-next None w h = none-turn w.pair w.last (actors w.pair) h
none-next (Some words) w h = none-word w.pair (words w.drawn) h

pub end-is-no-choice : (words : Option (ℕ → ℕ)) (w : Walker) → 1 ≤ w.pair.cores → is_at_end w.pair ≡ is_none (next_choice words w)
end-is-no-choice words w some_core = go (next_choice words w) refl (is_at_end w.pair) refl
  where
    go : (o : Option Chosen) → next_choice words w ≡ o → (b : Bool) → is_at_end w.pair ≡ b → is_at_end w.pair ≡ is_none o
    go None f b g = none-ends w.pair some_core (next-none words w f)
    go (Some c) f false g = g
    go (Some c) f true g = absurd (let n = sym f ∙ none-next words w (none-at-end w.pair g) in grind (arith, n))

-- ---- whole walks
pub walk-may : (words : Option (ℕ → ℕ)) (n : ℕ) (w : Walker) → may_all w.pair (walk_for words n w) ≡ true
walk-may words zero w = refl
walk-may words (suc n) w = go (next_choice words w) refl (λ c. walk-may words n (moved c w))
  where
    go : (o : Option Chosen) → next_choice words w ≡ o → ((c : Chosen) → may_all (after w.pair c.event) (walk_for words n (moved c w)) ≡ true)
        → may_all w.pair (elim o as (λ _. List Event) [ None ↦ [] | Some c ↦ c.event ∷ walk_for words n (moved c w) ]) ≡ true
    go None e r = refl
    go (Some c) e r = ap (λ b. b && may_all (after w.pair c.event) (walk_for words n (moved c w))) (next-may words w c e) ∙ r c

-- one that goes no further with one more step ends where it chooses nothing
pub record Stopped (words : Option (ℕ → ℕ)) (w : Walker) (journal : List Event) : Type 0 where
  pub last : Walker
  pub there : last.pair ≡ state w.pair journal
  pub none : next_choice words last ≡ None

tail-of : List Event → List Event
tail-of [] = []
tail-of (e ∷ es) = es

stops : (words : Option (ℕ → ℕ)) (n : ℕ) (w : Walker) → walk_for words (suc n) w ≡ walk_for words n w → Stopped words w (walk_for words n w)
unfolding tail-of
stops words zero w e = go (next_choice words w) refl e
  where
    go : (o : Option Chosen) → next_choice words w ≡ o → elim o as (λ _. List Event) [ None ↦ [] | Some c ↦ c.event ∷ walk_for words zero (moved c w) ] ≡ [] → Stopped words w []
    go None f k = record { last = w; there = refl; none = f }
    go (Some c) f k = absurd (let n = ap {B = ℕ} length k in omega (arith, n))
stops words (suc n) w e = go (next_choice words w) refl e (λ c. stops words n (moved c w))
  where
    go : (o : Option Chosen) → next_choice words w ≡ o
        → elim o as (λ _. List Event) [ None ↦ [] | Some c ↦ c.event ∷ walk_for words (suc n) (moved c w) ] ≡ elim o as (λ _. List Event) [ None ↦ [] | Some c ↦ c.event ∷ walk_for words n (moved c w) ]
        → ((c : Chosen) → walk_for words (suc n) (moved c w) ≡ walk_for words n (moved c w) → Stopped words (moved c w) (walk_for words n (moved c w)))
        → Stopped words w (elim o as (λ _. List Event) [ None ↦ [] | Some c ↦ c.event ∷ walk_for words n (moved c w) ])
    go None f k r = record { last = w; there = refl; none = f }
    go (Some c) f k r = let s = r c (ap tail-of k) in record { last = s.last; there = s.there; none = s.none }

module _ (job : Job) (images : List Image) (words : Option (ℕ → ℕ)) (journal : List Event) (walked : IsWalked job images words journal) where
  pub walk-legal : may_all (boot job images) journal ≡ true
  walk-legal = subst (λ (es : List Event). may_all (boot job images) es ≡ true) walked.1 (walk-may words walked.0 (start job images))

  stopped : Stopped words (start job images) journal
  stopped =
      let more : walked.0 + 1 ≡ suc walked.0 = omega arith in
      let same = sym (ap (λ (n : ℕ). walk_for words n (start job images)) more) ∙ walked.2 ∙ sym walked.1 in
      subst (Stopped words (start job images)) walked.1 (stops words walked.0 (start job images) same)

  walk-coherent : IsPrepared job images → shortage job images ≡ None → Coherent (state (boot job images) journal)
  walk-coherent prepared enough = coherent-journal journal (boot job images) (boot-coherent job images prepared enough) walk-legal

  pub walk-ends : IsPrepared job images → shortage job images ≡ None → is_at_end (state (boot job images) journal) ≡ true
  walk-ends prepared enough =
      let c = walk-coherent prepared enough in
      let some_core : 1 ≤ stopped.last.pair.cores = subst (λ (x : Pair). 1 ≤ x.cores) (sym stopped.there) c.rings.cores in
      subst (λ (x : Pair). is_at_end x ≡ true) stopped.there (none-ends stopped.last.pair some_core (next-none words stopped.last stopped.none))

  pub walk-over : IsPrepared job images → shortage job images ≡ None → IsOver (state (boot job images) journal)
  walk-over prepared enough = end-is-over (state (boot job images) journal) (walk-coherent prepared enough) (walk-ends prepared enough)
