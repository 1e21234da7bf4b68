-- Journals that follow the turns are walks.
use Rattle.hybrid_model.specs.Events.{after, may}
use Rattle.hybrid_model.specs.Journals.{may_all, state}
use Rattle.hybrid_model.specs.Pairs.{Pair}
use Rattle.hybrid_model.specs.declared.events.Event.{Event}
use Rattle.ihk_parts.specs.Turns.{chosen, event_of, first_turn, generator, turn_after, turn_at, word, words_of}
use Rattle.ihk_parts.specs.declared.turn.Turn.TheVariants.{Drawn, Round}
use Rattle.ihk_parts.specs.declared.turn.Turn.{Turn}
use Rattle.ihk_parts.specs.Walking.{Follows, walker_at}
use Rattle.run_model.specs.Walks.{Chosen, Walker, moved, next_choice, walk_for}
use Rattle.std.proofs.Common.{Bool, List, None, Option, Some, add-one, ap, cond, false, length, refl, subst, suc, sym, true, ℕ, [], ◌&&◌, ◌+◌, ◌++◌, ◌==◌, ◌∙◌, ◌∷◌, ◌≡◌, zero}
use Rattle.std.specs.Option.{MatchOption, option_map}

-- ---- one event more

along : {A B : Type 0} (P : A → B → Type 0) (a c : A) (b d : B) → a ≡ c → b ≡ d → P a b → P c d
along P a c b d p q h = subst (P c) q (subst (λ x. P x b) p h)

follows_more : (t : Turn) (s : Pair) (journal : List Event) (last : Turn) (end : Pair) (c : Chosen) → Follows t s journal last end → chosen last end ≡ Some c → Follows t s (journal ++ c.event ∷ []) (turn_after last c) (after end c.event)
follows_more t s [] last end c f h =
    (c, along (λ u v. chosen u v ≡ Some c) last t end s f.0 f.1 h, refl, (ap (λ u. turn_after u c) f.0, ap (λ u. after u c.event) f.1))
follows_more t s (e ∷ es) last end c f h = (f.0, f.1, f.2, follows_more (turn_after t f.0) (after s e) es last end c f.3 h)

pub follows_on : (t : Turn) (s : Pair) (js js' : List Event) (turn turn' : Turn) (pair pair' : Pair) (c : Chosen) (e : Event) → Follows t s js turn pair → chosen turn pair ≡ Some c → e ≡ c.event → js' ≡ js ++ e ∷ []
    → turn' ≡ turn_after turn c → pair' ≡ after pair e → Follows t s js' turn' pair'
follows_on t s js js' turn turn' pair pair' c e f h k j u p =
    let js-is : js' ≡ js ++ c.event ∷ [] = j ∙ ap (λ x. js ++ x ∷ []) k in
    let pair-is : pair' ≡ after pair c.event = p ∙ ap (after pair) k in
    subst (λ xs. Follows t s xs turn' pair') (sym js-is) (subst (λ x. Follows t s (js ++ c.event ∷ []) x pair') (sym u)
    (subst (λ x. Follows t s (js ++ c.event ∷ []) (turn_after turn c) x) (sym pair-is) (follows_more t s js turn pair c f h)))

pub both_true : (b c : Bool) → (b && c) ≡ true → (b ≡ true) × (c ≡ true)
both_true true c e = (refl, e)
both_true false c e = cc

legal_more : (s : Pair) (journal : List Event) (e : Event) → may_all s journal ≡ true → may (state s journal) e ≡ true → may_all s (journal ++ e ∷ []) ≡ true
legal_more s [] e l m = ap (λ b. b && true) m
legal_more s (x ∷ xs) e l m = let b = both_true (may s x) (may_all (after s x) xs) l in ap (λ t. t && may_all (after s x) (xs ++ e ∷ [])) b.0 ∙ legal_more (after s x) xs e b.1 m

pub legal_on : (s pair : Pair) (js js' : List Event) (e : Event) → may_all s js ≡ true → pair ≡ state s js → may pair e ≡ true → js' ≡ js ++ e ∷ [] → may_all s js' ≡ true
legal_on s pair js js' e l p m j = ap (may_all s) j ∙ legal_more s js e l (subst (λ x. may x e ≡ true) p m)

state_more : (s : Pair) (journal : List Event) (e : Event) → state s (journal ++ e ∷ []) ≡ after (state s journal) e
state_more s [] e = refl
state_more s (x ∷ xs) e = state_more (after s x) xs e

pub state_on : (s pair pair' : Pair) (js js' : List Event) (e : Event) → pair ≡ state s js → pair' ≡ after pair e → js' ≡ js ++ e ∷ [] → pair' ≡ state s js'
state_on s pair pair' js js' e p q j = q ∙ (ap (λ x. after x e) p ∙ (sym (state_more s js e) ∙ ap (state s) (sym j)))

-- ---- what the walker answers

pub record Taken (o : Option Chosen) (e : Event) : Type 0 where
  pub choice : Chosen
  pub chosen : o ≡ Some choice
  pub event : e ≡ choice.event

pub taken : (o : Option Chosen) (e : Event) → Some e ≡ option_map event_of o → Taken o e
taken None e h = cc
taken (Some c) e h = record { choice = c; chosen = refl; event = (let s : Some e ≡ Some c.event = h in cc) }

pub untaken : (o : Option Chosen) → None ≡ option_map event_of o → o ≡ None
untaken None h = refl
untaken (Some c) h = cc

pub turned : (o : Option Chosen) (c : Chosen) (old new : Turn) → o ≡ Some c → MatchOption o (new ≡ old) (λ x. new ≡ turn_after old x) → new ≡ turn_after old c
turned None c old new e h = cc
turned (Some x) c old new e h = let k : x ≡ c = cc in h ∙ ap (turn_after old) k

-- ---- walks of the definition

choice_at : (order : ℕ) (w : Walker) (t : Bool) → chosen (cond t (Round w.last) (Drawn (generator order w.drawn))) w.pair ≡ next_choice (cond t None (Some (word order))) w
choice_at order w true = refl
choice_at order w false = refl

turn_moves : (order : ℕ) (w : Walker) (c : Chosen) (t : Bool) →
    turn_after (cond t (Round w.last) (Drawn (generator order w.drawn))) c ≡ cond t (Round (Some c.actor)) (Drawn (generator order (w.drawn + 1)))
turn_moves order w c true = refl
turn_moves order w c false = ap (λ n. Drawn (generator order n)) (sym (add-one w.drawn))

-- the events behind a choice
behind_choice : (words : Option (ℕ → ℕ)) (n : ℕ) (w : Walker) → Option Chosen → List Event
behind_choice words n w None = []
behind_choice words n w (Some c) = c.event ∷ walk_for words n (moved c w)

walk-suc : (words : Option (ℕ → ℕ)) (n : ℕ) (w : Walker) → walk_for words (suc n) w ≡ behind_choice words n w (next_choice words w)
unfolding behind_choice
walk-suc words n w = at_choice (next_choice words w)
  where
    at_choice : (o : Option Chosen) → (elim o [ None ↦ [] | Some c ↦ c.event ∷ walk_for words n (moved c w) ]) ≡ behind_choice words n w o
    at_choice None = refl
    at_choice (Some c) = refl

one_walked : (order n : ℕ) (w : Walker) (c : Chosen) (e : Event) (es : List Event) → chosen (turn_at order w.last w.drawn) w.pair ≡ Some c → e ≡ c.event → walk_for (words_of order) n (moved c w) ≡ es → walk_for (words_of order) (suc n) w ≡ e ∷ es
unfolding behind_choice
one_walked order n w c e es h k more =
    walk-suc (words_of order) n w ∙ (ap (behind_choice (words_of order) n w) (sym (choice_at order w (order == 0)) ∙ h) ∙ (ap (λ xs. c.event ∷ xs) more ∙ ap (λ x. x ∷ es) (sym k)))

none_walked : (order n : ℕ) (w : Walker) → chosen (turn_at order w.last w.drawn) w.pair ≡ None → walk_for (words_of order) (suc n) w ≡ []
unfolding behind_choice
none_walked order n w h = walk-suc (words_of order) n w ∙ ap (behind_choice (words_of order) n w) (sym (choice_at order w (order == 0)) ∙ h)

-- the turn and the state of the walk's next place
next_follows : (order : ℕ) (w : Walker) (c : Chosen) (e : Event) (es : List Event) (last : Turn) (end : Pair) → e ≡ c.event → Follows (turn_after (turn_at order w.last w.drawn) c) (after w.pair e) es last end
    → Follows (turn_at order (moved c w).last (moved c w).drawn) (moved c w).pair es last end
next_follows order w c e es last end k f =
    along (λ t s. Follows t s es last end) (turn_after (turn_at order w.last w.drawn) c) (turn_at order (moved c w).last (moved c w).drawn) (after w.pair e) (after w.pair c.event) (turn_moves order w c (order == 0)) (ap (after w.pair) k) f

front_at : (order : ℕ) (w : Walker) (js : List Event) (last : Turn) (end : Pair) → Follows (turn_at order w.last w.drawn) w.pair js last end → walk_for (words_of order) (length js) w ≡ js
front_at order w [] last end f = refl
front_at order w (e ∷ es) last end f = one_walked order (length es) w f.0 e es f.1 f.2 (front_at order (moved f.0 w) es last end (next_follows order w f.0 e es last end f.2 f.3))

whole_at : (order : ℕ) (w : Walker) (js : List Event) (last : Turn) (end : Pair) → Follows (turn_at order w.last w.drawn) w.pair js last end → chosen last end ≡ None → walk_for (words_of order) (suc (length js)) w ≡ js
whole_at order w [] last end f n = none_walked order zero w (along (λ t s. chosen t s ≡ None) last (turn_at order w.last w.drawn) end w.pair f.0 f.1 n)
whole_at order w (e ∷ es) last end f n = one_walked order (suc (length es)) w f.0 e es f.1 f.2 (whole_at order (moved f.0 w) es last end (next_follows order w f.0 e es last end f.2 f.3) n)

pub front : (order : ℕ) (pair : Pair) (js : List Event) (last : Turn) (end : Pair) → Follows (first_turn order) pair js last end → walk_for (words_of order) (length js) (walker_at pair) ≡ js
front order pair js last end f = front_at order (walker_at pair) js last end f

pub whole : (order : ℕ) (pair : Pair) (js : List Event) (last : Turn) (end : Pair) → Follows (first_turn order) pair js last end → chosen last end ≡ None → walk_for (words_of order) (length js + 1) (walker_at pair) ≡ js
whole order pair js last end f n = ap (λ k. walk_for (words_of order) k (walker_at pair)) (add-one (length js)) ∙ whole_at order (walker_at pair) js last end f n
