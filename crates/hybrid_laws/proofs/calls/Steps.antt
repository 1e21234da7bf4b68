-- What a step of a delegated call does to the description that the call holds: it goes on to hold it, takes it at its one act, or gives it back where the call ends. And a call that goes on is sound after it.
use Rattle.kernel_model.specs.CallPhases as Phases
use Rattle.kernel_model.specs.Progress as Steps
use Rattle.file_model.specs.Files.{Files}
use Rattle.file_model.specs.Operations.{FileResult}
use Rattle.file_model.specs.declared.operations.FileOp.{FileOp}
use Rattle.hybrid_laws.proofs.files.Descriptions.{carries-beside, carries-same, carries-then}
use Rattle.hybrid_laws.proofs.files.Operations.{FindStep, FindsAt, PlainStep, carries-leave}
use Rattle.hybrid_laws.specs.CallSteps.{Carries, FoundHeld, StepCarries, calls_at}
use Rattle.hybrid_model.specs.Globals.{IsUnderWay, acts_left, description_held}
use Rattle.hybrid_model.specs.Tallies.{counted}
use Rattle.kernel_model.specs.CallPhases.{Gather, Scatter, Stream, act_of}
use Rattle.kernel_model.specs.Progress.{After, Progress, answer_of, drop_used_up, ends, settle, settled_progress, with_scatter, without_empty, given_back, no_progress}
use Rattle.kernel_model.specs.Steps.{status_after}
use Rattle.mck_word.specs.Lists.{tail}
use Rattle.std.proofs.Common.{ap, arith, refl, subst, sym}
use Rattle.std.proofs.lemmas.Bool.Decides.{nat_tests}
use Rattle.std.specs.Prelude.{Bool, List, None, Option, Some, [], cond, false, get_or, length, negsuc, pos, true, ℕ, ℤ, ◌+◌, ◌==◌, ◌∷◌, ◌≡◌, ◌≤◌}

pub gives-back : (files : Files) (o : Option ℕ) → FoundHeld files o → Carries o None files.descriptions (given_back (record no_progress { found = o }) files).descriptions
gives-back files None l = carries-same None files.descriptions
gives-back files (Some d) l = carries-leave files d (l d refl)

-- what an operation before the rest of a step does is added to it
steps-then : (p q : Progress) (files files' : Files) (a : After) → Carries p.found q.found files.descriptions files'.descriptions → StepCarries q files' a → StepCarries p files a
steps-then p q files files' a c s = record { kept = carries-then p.found q.found (description_held (status_after a)) files.descriptions files'.descriptions a.files.descriptions c s.kept; goes = s.goes }

-- ---- acts left
acts-dropped : (phases : List Phases.Phase) → acts_left (drop_used_up phases) ≡ acts_left phases
acts-dropped [] = refl
acts-dropped (Phases.Act ∷ phases) = refl
acts-dropped (Gather rs ∷ phases) = go (length (without_empty rs) == 0) (acts-dropped phases)
  where
    go : (b : Bool) → acts_left (drop_used_up phases) ≡ acts_left phases → acts_left (cond b (drop_used_up phases) (Gather rs ∷ phases)) ≡ acts_left phases
    go true r = r
    go false r = refl
acts-dropped (Scatter rs ∷ phases) = go (length (without_empty rs) == 0) (acts-dropped phases)
  where
    go : (b : Bool) → acts_left (drop_used_up phases) ≡ acts_left phases → acts_left (cond b (drop_used_up phases) (Scatter rs ∷ phases)) ≡ acts_left phases
    go true r = r
    go false r = refl
acts-dropped (Stream rs ∷ phases) = go (length (without_empty rs) == 0) (acts-dropped phases)
  where
    go : (b : Bool) → acts_left (drop_used_up phases) ≡ acts_left phases → acts_left (cond b (drop_used_up phases) (Stream rs ∷ phases)) ≡ acts_left phases
    go true r = r
    go false r = refl

acts-scatter : (out : List ℕ) (phases : List Phases.Phase) → acts_left (with_scatter out phases) ≡ acts_left phases
acts-scatter out [] = refl
acts-scatter out (Phases.Act ∷ phases) = refl
acts-scatter out (Gather rs ∷ phases) = refl
acts-scatter out (Stream rs ∷ phases) = refl
acts-scatter out (Scatter [] ∷ phases) = refl
acts-scatter out (Scatter (r ∷ rs) ∷ phases) = refl

abbrev pub is_act : Phases.Phase → ℕ
is_act Phases.Act = 1
is_act _ = 0

acts-first : (phases : List Phases.Phase) → 1 ≤ length phases → acts_left phases ≡ is_act (get_or phases 0 Phases.Act) + acts_left (tail phases)
acts-first [] l = absurd (omega (arith, l))
acts-first (Phases.Act ∷ phases) l = refl
acts-first (Gather rs ∷ phases) l = omega arith
acts-first (Scatter rs ∷ phases) l = omega arith
acts-first (Stream rs ∷ phases) l = omega arith

pub counted-most : (o : Option ℕ) → counted o ≤ 1
counted-most None = omega arith
counted-most (Some d) = omega arith

-- ---- phases that are used up are passed over, and the call ends where none is left
pub settles : (p : Progress) (files : Files) → acts_left p.phases + counted p.found ≤ 1 → FoundHeld files p.found → StepCarries p files (settle p files)
settles p files acts l = go (length (drop_used_up p.phases) == 0) refl
  where
    q : Progress
    q = settled_progress p

    go : (b : Bool) → (length (drop_used_up p.phases) == 0) ≡ b → StepCarries p files (cond b (ends (answer_of (settled_progress p)) (settled_progress p) files) (Steps.goes_on (settled_progress p) files))
    go true e = record { kept = gives-back files p.found l; goes = tt }
    go false e = record { kept = carries-same p.found files.descriptions; goes = record { phases = grind (arith, nat_tests, e); acts = omega (arith, acts-dropped p.phases, acts) } }

module _ (p : Progress) (files : Files) (process : ℕ) (u : IsUnderWay p) (l : FoundHeld files p.found) where
  -- the step ends the call, or changes nothing that is held
  pub ended : (answer : ℤ) (q : Progress) → q.found ≡ p.found → StepCarries p files (ends answer q files)
  ended answer q e = record { kept = subst (λ (o : Option ℕ). Carries p.found None files.descriptions (given_back (record no_progress { found = o }) files).descriptions) (sym e) (gives-back files p.found l); goes = tt }

  pub as-before : StepCarries p files (Steps.goes_on p files)
  as-before = record { kept = carries-same p.found files.descriptions; goes = u }

  -- the rest of the phases, behind one that isn't an act
  pub acts-rest : is_act (get_or p.phases 0 Phases.Act) ≡ 0 → acts_left (tail p.phases) + counted p.found ≤ 1
  acts-rest e = omega (arith, acts-first p.phases u.phases, e, u.acts)

  -- an act is the first to find a description
  no-found : get_or p.phases 0 Phases.Act ≡ Phases.Act → (p.found ≡ None) × (acts_left (tail p.phases) ≡ 0)
  no-found e = let a = ap is_act e in
      (none p.found refl (omega (arith, acts-first p.phases u.phases, a, u.acts)), omega (arith, acts-first p.phases u.phases, a, u.acts))
    where
      none : (o : Option ℕ) → p.found ≡ o → counted o ≤ 0 → o ≡ None
      none None f c = refl
      none (Some d) f c = absurd (omega (arith, c))

  -- ---- the act
  abbrev first_act : FileOp
  first_act = act_of p.call p.arguments

  module _ (is : get_or p.phases 0 Phases.Act ≡ Phases.Act) (r : FileResult) where
    nothing-held : Carries p.found None files.descriptions r.files.descriptions → StepCarries p files (record { progress = p; ended = Some r.answer; files = r.files })
    nothing-held c = record { kept = c; goes = tt }

    with-found : Carries None None files.descriptions r.files.descriptions → Carries p.found None files.descriptions r.files.descriptions
    with-found c = subst (λ (o : Option ℕ). Carries o None files.descriptions r.files.descriptions) (sym (no-found is).0) c

    pub act-find : FindStep files r → StepCarries p files (elim r.answer [
      | negsuc n ↦ record { progress = p; ended = Some (negsuc n); files = r.files }
      | pos n ↦ settle (record p { found = Some n; phases = tail p.phases }) r.files
    ])
    act-find s = go r.answer s.kept
      where
        go : (z : ℤ) → FindsAt z files.descriptions r.files.descriptions → StepCarries p files (elim z [
          | negsuc n ↦ record { progress = p; ended = Some (negsuc n); files = r.files }
          | pos n ↦ settle (record p { found = Some n; phases = tail p.phases }) r.files
        ])
        go (negsuc n) c = record { kept = with-found c; goes = tt }
        go (pos n) c =
            let q : Progress = record p { found = Some n; phases = tail p.phases } in
            let f = (no-found is) in
            let a = f.1 in
            steps-then p q files r.files (settle q r.files) (subst (λ (o : Option ℕ). Carries o (Some n) files.descriptions r.files.descriptions) (sym f.0) c)
            (settles q r.files (omega (arith, a)) (λ d e. let g : n ≡ d = cc in let k = c.calls d in let b : (n == d) ≡ true = grind (arith, nat_tests, g) in let x : 1 ≤ calls_at r.files.descriptions d = omega (arith, rw b at k) in x))

    pub act-plain : PlainStep files r → StepCarries p files (elim r.answer [
      | negsuc n ↦ record { progress = p; ended = Some (negsuc n); files = r.files }
      | pos n ↦ settle (record p { answer = pos n; buffer = r.out; phases = with_scatter r.out (tail p.phases) }) r.files
    ])
    act-plain s = go r.answer
      where
        f : (p.found ≡ None) × (acts_left (tail p.phases) ≡ 0)
        f = no-found is

        go : (z : ℤ) → StepCarries p files (elim z [
          | negsuc n ↦ record { progress = p; ended = Some (negsuc n); files = r.files }
          | pos n ↦ settle (record p { answer = pos n; buffer = r.out; phases = with_scatter r.out (tail p.phases) }) r.files
        ])
        go (negsuc n) = record { kept = with-found s.kept; goes = tt }
        go (pos n) =
            let q : Progress = record p { answer = pos n; buffer = r.out; phases = with_scatter r.out (tail p.phases) } in
            let a = f.1 in
            let b = ap (counted {A = ℕ}) f.0 in
            steps-then p q files r.files (settle q r.files) (carries-beside p.found files.descriptions r.files.descriptions s.kept)
            (settles q r.files (omega (arith, acts-scatter r.out (tail p.phases), a, b)) (λ d e. absurd (let g = f.0 in grind (arith, e, g))))
