-- How a walk of the definition grows by one event.
use Rattle.hybrid_model.specs.declared.events.Event.{Event}
use Rattle.node_parts.specs.Courses.{one_on}
use Rattle.ihk_parts.specs.Turns.{words_of}
use Rattle.node_parts.specs.Instances.{turned_times}
use Rattle.node_parts.specs.Partitions.{Booted, gone_on, has_more, stands, walked}
use Rattle.run_model.specs.Walks.{Chosen, Walker, moved, next_choice, start, walk_for}
use Rattle.std.proofs.Common.{Bool, List, None, Option, Some, add-one, ap, arith, cond, false, inl, inr, is_some, refl, suc}
use Rattle.std.proofs.Common.{sym, true, zero, ℕ, [], ◌+◌, ◌++◌, ◌∙◌, ◌∷◌, ◌≡◌, ◌⊎◌}

-- ---- the first event

behind_place : (words : Option (ℕ → ℕ)) (n : ℕ) (w : Walker) → Option Chosen → Walker
behind_place words n w None = w
behind_place words n w (Some c) = walked words n (moved c w)

behind_events : (words : Option (ℕ → ℕ)) (n : ℕ) (w : Walker) → Option Chosen → List Event
behind_events words n w None = []
behind_events words n w (Some c) = c.event ∷ walk_for words n (moved c w)

walked-suc : (words : Option (ℕ → ℕ)) (n : ℕ) (w : Walker)
    → walked words (suc n) w ≡ behind_place words n w (next_choice words w)
unfolding behind_place
walked-suc words n w = at_choice (next_choice words w)
  where
    at_choice : (o : Option Chosen)
        → (elim o [ None ↦ w | Some c ↦ walked words n (moved c w) ]) ≡ behind_place words n w o
    at_choice None = refl
    at_choice (Some c) = refl

walk_for-suc : (words : Option (ℕ → ℕ)) (n : ℕ) (w : Walker)
    → walk_for words (suc n) w ≡ behind_events words n w (next_choice words w)
unfolding behind_events
walk_for-suc words n w = at_choice (next_choice words w)
  where
    at_choice : (o : Option Chosen)
        → (elim o [ None ↦ [] | Some c ↦ c.event ∷ walk_for words n (moved c w) ]) ≡ behind_events words n w o
    at_choice None = refl
    at_choice (Some c) = refl

walked-none : (words : Option (ℕ → ℕ)) (n : ℕ) (w : Walker) → next_choice words w ≡ None → walked words (suc n) w ≡ w
unfolding behind_place
walked-none words n w h = walked-suc words n w ∙ ap (behind_place words n w) h

walked-some : (words : Option (ℕ → ℕ)) (n : ℕ) (w : Walker) (c : Chosen) → next_choice words w ≡ Some c
    → walked words (suc n) w ≡ walked words n (moved c w)
unfolding behind_place
walked-some words n w c h = walked-suc words n w ∙ ap (behind_place words n w) h

walk_for-none : (words : Option (ℕ → ℕ)) (n : ℕ) (w : Walker) → next_choice words w ≡ None
    → walk_for words (suc n) w ≡ []
unfolding behind_events
walk_for-none words n w h = walk_for-suc words n w ∙ ap (behind_events words n w) h

walk_for-some : (words : Option (ℕ → ℕ)) (n : ℕ) (w : Walker) (c : Chosen) → next_choice words w ≡ Some c
    → walk_for words (suc n) w ≡ c.event ∷ walk_for words n (moved c w)
unfolding behind_events
walk_for-some words n w c h = walk_for-suc words n w ∙ ap (behind_events words n w) h

-- ---- the last event

-- a choice, or none
pub record Choice (o : Option Chosen) : Type 0 where
  pub choice : Chosen
  pub is : o ≡ Some choice

pub choice_of : (o : Option Chosen) → (o ≡ None) ⊎ Choice o
choice_of None = inl refl
choice_of (Some c) = inr (record { choice = c; is = refl })

pub walked-more : (words : Option (ℕ → ℕ)) (n : ℕ) (w : Walker) (c : Chosen)
    → next_choice words (walked words n w) ≡ Some c → walked words (suc n) w ≡ moved c (walked words n w)
walked-more words zero w c h = walked-some words zero w c h
walked-more words (suc n) w c h = by_first (choice_of (next_choice words w)) (λ d. walked-more words n (moved d w) c)
  where
    by_first : (next_choice words w ≡ None) ⊎ Choice (next_choice words w)
        → ((d : Chosen) → next_choice words (walked words n (moved d w)) ≡ Some c
        → walked words (suc n) (moved d w) ≡ moved c (walked words n (moved d w)))
        → walked words (suc (suc n)) w ≡ moved c (walked words (suc n) w)
    by_first (inl none) rest =
        let no : None ≡ Some c = sym none ∙ (ap (next_choice words) (sym (walked-none words n w none)) ∙ h) in
        cc
    by_first (inr d) rest =
        let one = walked-some words n w d.choice d.is in
        walked-some words (suc n) w d.choice d.is
        ∙ (rest d.choice (ap (next_choice words) (sym one) ∙ h) ∙ ap (moved c) (sym one))

pub walked-end : (words : Option (ℕ → ℕ)) (n : ℕ) (w : Walker) → next_choice words (walked words n w) ≡ None
    → walked words (suc n) w ≡ walked words n w
walked-end words zero w h = walked-none words zero w h
walked-end words (suc n) w h = by_first (choice_of (next_choice words w)) (λ d. walked-end words n (moved d w))
  where
    by_first : (next_choice words w ≡ None) ⊎ Choice (next_choice words w)
        → ((d : Chosen) → next_choice words (walked words n (moved d w)) ≡ None
        → walked words (suc n) (moved d w) ≡ walked words n (moved d w))
        → walked words (suc (suc n)) w ≡ walked words (suc n) w
    by_first (inl none) rest = walked-none words (suc n) w none ∙ sym (walked-none words n w none)
    by_first (inr d) rest =
        let one = walked-some words n w d.choice d.is in
        walked-some words (suc n) w d.choice d.is ∙ (rest d.choice (ap (next_choice words) (sym one) ∙ h) ∙ sym one)

pub walk_for-more : (words : Option (ℕ → ℕ)) (n : ℕ) (w : Walker) (c : Chosen)
    → next_choice words (walked words n w) ≡ Some c → walk_for words (suc n) w ≡ walk_for words n w ++ c.event ∷ []
walk_for-more words zero w c h = walk_for-some words zero w c h
walk_for-more words (suc n) w c h =
    by_first (choice_of (next_choice words w)) (λ d. walk_for-more words n (moved d w) c)
  where
    by_first : (next_choice words w ≡ None) ⊎ Choice (next_choice words w)
        → ((d : Chosen) → next_choice words (walked words n (moved d w)) ≡ Some c
        → walk_for words (suc n) (moved d w) ≡ walk_for words n (moved d w) ++ c.event ∷ [])
        → walk_for words (suc (suc n)) w ≡ walk_for words (suc n) w ++ c.event ∷ []
    by_first (inl none) rest =
        let no : None ≡ Some c = sym none ∙ (ap (next_choice words) (sym (walked-none words n w none)) ∙ h) in
        cc
    by_first (inr d) rest =
        let one = walked-some words n w d.choice d.is in
        walk_for-some words (suc n) w d.choice d.is
        ∙ (ap (λ es. d.choice.event ∷ es) (rest d.choice (ap (next_choice words) (sym one) ∙ h)) ∙ ap
        (λ es. es ++ c.event ∷ []) (sym (walk_for-some words n w d.choice d.is)))

pub walk_for-end : (words : Option (ℕ → ℕ)) (n : ℕ) (w : Walker) → next_choice words (walked words n w) ≡ None
    → walk_for words (suc n) w ≡ walk_for words n w
walk_for-end words zero w h = walk_for-none words zero w h
walk_for-end words (suc n) w h = by_first (choice_of (next_choice words w)) (λ d. walk_for-end words n (moved d w))
  where
    by_first : (next_choice words w ≡ None) ⊎ Choice (next_choice words w)
        → ((d : Chosen) → next_choice words (walked words n (moved d w)) ≡ None
        → walk_for words (suc n) (moved d w) ≡ walk_for words n (moved d w))
        → walk_for words (suc (suc n)) w ≡ walk_for words (suc n) w
    by_first (inl none) rest = walk_for-none words (suc n) w none ∙ sym (walk_for-none words n w none)
    by_first (inr d) rest =
        let one = walked-some words n w d.choice d.is in
        walk_for-some words (suc n) w d.choice d.is
        ∙ (ap (λ es. d.choice.event ∷ es) (rest d.choice (ap (next_choice words) (sym one) ∙ h)) ∙ sym
        (walk_for-some words n w d.choice d.is))

-- ---- the place after one event more, where there is one

one_on-none : (words : Option (ℕ → ℕ)) (w : Walker) → next_choice words w ≡ None → one_on words w ≡ w
one_on-none words w h = at_choice (next_choice words w) h
  where
    at_choice : (o : Option Chosen) → o ≡ None → (elim o [ None ↦ w | Some c ↦ moved c w ]) ≡ w
    at_choice None h = refl
    at_choice (Some c) h = cc

one_on-some : (words : Option (ℕ → ℕ)) (w : Walker) (c : Chosen) → next_choice words w ≡ Some c
    → one_on words w ≡ moved c w
one_on-some words w c h = at_choice (next_choice words w) h
  where
    at_choice : (o : Option Chosen) → o ≡ Some c → (elim o [ None ↦ w | Some d ↦ moved d w ]) ≡ moved c w
    at_choice None h = cc
    at_choice (Some d) h = (let same : d ≡ c = cc in ap (λ x. moved x w) same)

pub walked-one : (words : Option (ℕ → ℕ)) (n : ℕ) (w : Walker)
    → walked words (suc n) w ≡ one_on words (walked words n w)
walked-one words n w = by_choice (choice_of (next_choice words (walked words n w)))
  where
    by_choice : (next_choice words (walked words n w) ≡ None) ⊎ Choice (next_choice words (walked words n w))
        → walked words (suc n) w ≡ one_on words (walked words n w)
    by_choice (inl none) = walked-end words n w none ∙ sym (one_on-none words (walked words n w) none)
    by_choice (inr d) = walked-more words n w d.choice d.is ∙ sym (one_on-some words (walked words n w) d.choice d.is)

-- ---- an instance goes on by its own walk

own-by : (b : Booted) (t : Bool) → is_some (next_choice (words_of b.order) (stands b)) ≡ t
    → stands (cond t (record b { made = b.made + 1 }) b) ≡ one_on (words_of b.order) (stands b)
own-by b true more =
    ap (λ n. walked (words_of b.order) n (start b.job b.images)) (add-one b.made) ∙ walked-one (words_of b.order) b.made
    (start b.job b.images)
own-by b false more =
    sym (one_on-none (words_of b.order) (stands b) (no_choice (next_choice (words_of b.order) (stands b)) more))
  where
    no_choice : (o : Option Chosen) → is_some o ≡ false → o ≡ None
    no_choice None h = refl
    no_choice (Some c) h = cc

pub own-walk : (b : Booted) → stands (gone_on b) ≡ one_on (words_of b.order) (stands b)
own-walk b = own-by b (has_more b) refl

-- what was booted stays
pub record SameWalk (b c : Booted) : Type 0 where
  pub job : c.job ≡ b.job
  pub images : c.images ≡ b.images
  pub order : c.order ≡ b.order

goes-same : (b : Booted) (t : Bool) → SameWalk b (cond t (record b { made = b.made + 1 }) b)
goes-same b true = record { job = refl; images = refl; order = refl }
goes-same b false = record { job = refl; images = refl; order = refl }

times-same : (n : ℕ) (b : Booted) → SameWalk b (turned_times n b)
times-same zero b = record { job = refl; images = refl; order = refl }
times-same (suc n) b =
    let one = goes-same (turned_times n b) (has_more (turned_times n b)) in
    let all = times-same n b in
    record { job = one.job ∙ all.job; images = one.images ∙ all.images; order = one.order ∙ all.order }

pub own-turns : (n : ℕ) (b : Booted)
    → stands (turned_times n b) ≡ walked (words_of b.order) (b.made + n) (start b.job b.images)
own-turns zero b =
    let e : b.made ≡ b.made + 0 = omega arith in
    ap (λ k. walked (words_of b.order) k (start b.job b.images)) e
own-turns (suc n) b =
    let words = words_of b.order in
    let w = start b.job b.images in
    let e : suc (b.made + n) ≡ b.made + suc n = omega arith in
    own-walk (turned_times n b)
    ∙ (ap (λ order. one_on (words_of order) (stands (turned_times n b))) (times-same n b).order
    ∙ (ap (one_on words) (own-turns n b)
    ∙ (sym (walked-one words (b.made + n) w) ∙ ap (λ k. walked words k w) e)))
