-- The step from one process to the whole state, for the simulation: the steps of an image may happen one after another in the whole one-kernel state, and lead to what the two kernels show after.
use Rattle.kernel_model.specs.Steps as OneSteps
use Rattle.hybrid_laws.proofs.act.Act.{others}
use Rattle.hybrid_laws.proofs.maps.Tests.{both}
use Rattle.hybrid_laws.specs.Simulated.{Simulated, steps_after, steps_may}
use Rattle.hybrid_model.specs.Claims.{Runs}
use Rattle.hybrid_model.specs.Events.{after_here, process_of_event, after}
use Rattle.hybrid_model.specs.Images.{image, image_here}
use Rattle.hybrid_model.specs.Pairs.{Here, Pair, here, put_here, side_of, with_born}
use Rattle.hybrid_model.specs.Shown.{one, shown_born, shown_here, shown_own}
use Rattle.hybrid_model.specs.Sides.{Side}
use Rattle.hybrid_model.specs.declared.events.Event.{Event}
use Rattle.kernel_model.specs.Nodes.{Node}
use Rattle.kernel_model.specs.OneKernel.{no_own, one_here, put_one_here, OneKernel}
use Rattle.kernel_model.specs.declared.steps.Step.{Step}
use Rattle.mck_word.specs.EachLaws.{each-put}
use Rattle.mck_word.specs.MapLaws.{at-collect, at-put, same_rows}
use Rattle.mck_word.specs.Maps.{and_then, at, each, put}
use Rattle.std.proofs.Common.{ap, arith, refl, sym, ◌∙◌}
use Rattle.std.proofs.lemmas.Bool.Decides.{nat_tests}
use Rattle.std.specs.Prelude.{Bool, List, None, Option, Some, [], cond, false, length, true, unwrap_or, ℕ, ◌&&◌, ◌==◌, ◌∷◌, ◌≡◌}

abbrev pub SimulatedPair : Pair → Event → Type 0
SimulatedPair pair e = Runs (one pair) (image pair e) (one (after pair e))

-- at most one step, of process p
abbrev pub AtMostOne : Node → ℕ → List Step → Type 0
AtMostOne node p [] = Unit {0}
AtMostOne node p (s ∷ []) = OneSteps.process_of_step node s ≡ p
AtMostOne node p (s ∷ t ∷ ss) = ⊥

module _ (pair : Pair) (p : ℕ) (present : at pair.sides p ≡ Some (side_of pair p)) where
  -- the process of the one-kernel state that the two kernels show is the one that it shows
  pub one-here : one_here (one pair) p ≡ shown_here (here pair p)
  one-here =
      let s = at-collect (λ k v. Some (shown_own pair.frames v)) pair.sides p ∙ ap (λ o. and_then o (λ v. Some (shown_own pair.frames v))) present in
      λ i. record { own = unwrap_or (s i) no_own; node = pair.node; free = length pair.free; born = None }

  -- what is shown after one process was put back, where the frames of the others have their bytes
  pub one-put : (h : Here) → h.born ≡ None → ((q : ℕ) (s : Side) → (q == p) ≡ false → at pair.sides q ≡ Some s → shown_own h.frames s ≡ shown_own pair.frames s)
      → one (put_here pair p h) ≡ put_one_here (one pair) p (shown_here h)
  one-put h none others = λ i. record { own = owns i; node = h.node; free = length h.free }
    where
      by-key : (j : ℕ) (b : Bool) → (j == p) ≡ b → (o : Option Side) → at pair.sides j ≡ o → and_then (cond b (Some h.side) o) (λ v. Some (shown_own h.frames v)) ≡ cond b (Some (shown_own h.frames h.side)) (and_then o (λ v. Some (shown_own pair.frames v)))
      by-key j true e o f = refl
      by-key j false e None f = refl
      by-key j false e (Some s) f = ap Some (others j s e f)

      put-each : each (shown_own h.frames) (put pair.sides p h.side) ≡ put (each (shown_own pair.frames) pair.sides) p (shown_own h.frames h.side)
      put-each = same_rows (each (shown_own h.frames) (put pair.sides p h.side)) (put (each (shown_own pair.frames) pair.sides) p (shown_own h.frames h.side)) (λ j.
          at-collect (λ k v. Some (shown_own h.frames v)) (put pair.sides p h.side) j
          ∙ ap (λ o. and_then o (λ v. Some (shown_own h.frames v))) (at-put pair.sides p h.side j)
          ∙ by-key j (j == p) refl (at pair.sides j) refl
          ∙ ap (cond (j == p) (Some (shown_own h.frames h.side))) (sym (at-collect (λ k v. Some (shown_own pair.frames v)) pair.sides j))
          ∙ sym (at-put (each (shown_own pair.frames) pair.sides) p (shown_own h.frames h.side) j))

      owns : (one (put_here pair p h)).own ≡ (put_one_here (one pair) p (shown_here h)).own
      owns = ap (λ (b : Option (ℕ × Side)). each (shown_own h.frames) (with_born (put pair.sides p h.side) b)) none ∙ put-each
          ∙ ap (λ (b : Option (ℕ × Side)). (put_one_here (one pair) p (record (shown_here h) { born = shown_born h.frames b })).own) (sym none)

  -- the same where a process begins
  pub one-put-any : (h : Here) → ((q : ℕ) (s : Side) → (q == p) ≡ false → at pair.sides q ≡ Some s → shown_own h.frames s ≡ shown_own pair.frames s)
      → one (put_here pair p h) ≡ put_one_here (one pair) p (shown_here h)
  one-put-any h others = by-born h.born refl
    where
      plain : one (put_here pair p (record h { born = None })) ≡ put_one_here (one pair) p (shown_here (record h { born = None }))
      plain = one-put (record h { born = None }) refl others

      owns : (b : ℕ × Side) → each (shown_own h.frames) (put (put pair.sides p h.side) b.0 b.1) ≡ put (put (each (shown_own pair.frames) pair.sides) p (shown_own h.frames h.side)) b.0 (shown_own h.frames b.1)
      owns b = each-put (shown_own h.frames) (put pair.sides p h.side) b.0 b.1 ∙ ap (λ (o : OneKernel). put o.own b.0 (shown_own h.frames b.1)) plain

      by-born : (o : Option (ℕ × Side)) → h.born ≡ o → one (put_here pair p h) ≡ put_one_here (one pair) p (shown_here h)
      by-born None e = one-put h e others
      by-born (Some b) e =
          let a = owns b in
          let f = ap (λ (o : Option (ℕ × Side)). each (shown_own h.frames) (with_born (put pair.sides p h.side) o)) e ∙ a
          ∙ ap (λ (o : Option (ℕ × Side)). (put_one_here (one pair) p (record (shown_here h) { born = shown_born h.frames o })).own) (sym e) in
          λ i. record { own = f i; node = h.node; free = length h.free }

  -- a process put back as it was
  pub put-same : put_one_here (one pair) p (shown_here (here pair p)) ≡ one pair
  put-same =
      let e = same_rows (put (each (shown_own pair.frames) pair.sides) p (shown_own pair.frames (side_of pair p))) (each (shown_own pair.frames) pair.sides) (λ j.
      at-put (each (shown_own pair.frames) pair.sides) p (shown_own pair.frames (side_of pair p)) j ∙ go j (j == p) refl) in
      λ i. record { own = e i; node = pair.node; free = length pair.free }
    where
      go : (j : ℕ) (b : Bool) → (j == p) ≡ b → cond b (Some (shown_own pair.frames (side_of pair p))) (at (each (shown_own pair.frames) pair.sides) j) ≡ at (each (shown_own pair.frames) pair.sides) j
      go j false e = refl
      go j true e =
          let y : j ≡ p = grind (arith, nat_tests, e) in
          sym (at-collect (λ k v. Some (shown_own pair.frames v)) pair.sides j ∙ ap (λ o. and_then o (λ v. Some (shown_own pair.frames v))) (ap (at pair.sides) y ∙ present))

  -- from one process to the whole state
  pub simulated-born : (e : Event) → process_of_event pair.node e ≡ p → Simulated e p (here pair p) → AtMostOne pair.node p (image_here e p (here pair p))
      → ((q : ℕ) (s : Side) → (q == p) ≡ false → at pair.sides q ≡ Some s → shown_own (after_here e p (here pair p)).frames s ≡ shown_own pair.frames s)
      → SimulatedPair pair e
  simulated-born e own s most others = by-steps (image_here e p (here pair p)) refl most s.may_happen s.leads
    where
      h' : Here
      h' = after_here e p (here pair p)

      image-is : image pair e ≡ image_here e p (here pair p)
      image-is = ap (λ (x : ℕ). image_here e x (here pair x)) own

      after-is : after pair e ≡ put_here pair p (after_here e p (here pair p))
      after-is = ap (λ (x : ℕ). put_here pair x (after_here e x (here pair x))) own

      ends : one (after pair e) ≡ put_one_here (one pair) p (shown_here (after_here e p (here pair p)))
      ends = ap one after-is ∙ one-put-any (after_here e p (here pair p)) others

      by-steps : (ss : List Step) → image_here e p (here pair p) ≡ ss → AtMostOne pair.node p ss → steps_may p ss (shown_here (here pair p)) ≡ true → steps_after p ss (shown_here (here pair p)) ≡ shown_here (after_here e p (here pair p)) → SimulatedPair pair e
      by-steps [] f m a l =
          let i = image-is ∙ f in
          record {
            may = ap (OneSteps.may_all (one pair)) i;
            leaves = ap (OneSteps.after_all (one pair)) i ∙ sym put-same ∙ ap (put_one_here (one pair) p) l ∙ sym ends;
          }
      by-steps (x ∷ []) f m a l =
          let i = image-is ∙ f in
          let b = both (OneSteps.may_here x (shown_here (here pair p))) true a in
          record {
            may = ap (OneSteps.may_all (one pair)) i ∙ ap (λ (y : ℕ). OneSteps.may_here x (one_here (one pair) y) && true) m ∙ ap (λ h. OneSteps.may_here x h && true) one-here ∙ a;
            leaves = ap (OneSteps.after_all (one pair)) i ∙ ap (λ (y : ℕ). put_one_here (one pair) y (OneSteps.after_here x y (one_here (one pair) y))) m
                ∙ ap (λ h. put_one_here (one pair) p (OneSteps.after_here x p h)) one-here ∙ ap (put_one_here (one pair) p) l ∙ sym ends;
          }
      by-steps (x ∷ y ∷ ss) f m a l = absurd m

  -- where no process begins
  pub simulated-pair : (e : Event) → process_of_event pair.node e ≡ p → Simulated e p (here pair p) → AtMostOne pair.node p (image_here e p (here pair p))
      → (after_here e p (here pair p)).born ≡ None
      → ((q : ℕ) (s : Side) → (q == p) ≡ false → at pair.sides q ≡ Some s → shown_own (after_here e p (here pair p)).frames s ≡ shown_own pair.frames s)
      → SimulatedPair pair e
  simulated-pair e own s most none others = simulated-born e own s most others
