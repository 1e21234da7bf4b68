-- A file step of a call leaves less to do: an act counts more than what it builds and what it opens, and a stream that can move nothing more ends.
use Rattle.file_model.specs.Acts.{count_is_valid}
use Rattle.file_model.specs.FileSteps.{file_step}
use Rattle.file_model.specs.Files.{Files}
use Rattle.file_model.specs.Operations.{FileResult}
use Rattle.file_model.specs.declared.operations.Readiness.TheVariants.{Ready, FileStep}
use Rattle.hybrid_laws.proofs.maps.Tests.{both, not-true}
use Rattle.hybrid_model.specs.Globals.{IsUnderWay}
use Rattle.kernel_model.specs.CallPhases.{Act, Gather, Phase, Scatter, Stream, act_of, vector_count}
use Rattle.kernel_model.specs.Progress.{After, Progress, acted, drop_used_up, file_step_in, has_piece, is_file_step, is_used_up, kind_of_phase, next_kind, ranges_of, settle, stream_end, stream_operation, take_file_step, with_scatter, without_empty}
use Rattle.kernel_model.specs.declared.ranges.Range.{Range}
use Rattle.mck_word.specs.Lists.{tail}
use Rattle.std.proofs.Common.{ap, arith, refl, subst, sym, ◌∙◌}
use Rattle.std.proofs.lemmas.Bool.Decides.{nat_tests}
use Rattle.std.specs.Prelude.{Bool, List, Some, [], cond, false, get_or, length, nat_lt, negsuc, not, pos, true, ℕ, ℤ, ◌&&◌, ◌+◌, ◌==◌, ◌||◌, ◌∷◌, ◌≡◌, ◌≤◌}
use Rattle.system_calls.specs.FileCalls.{has_vectors, is_read, is_write}
use Rattle.system_calls.specs.declared.file_calls.FileCall.{FileCall}
use Rattle.work_laws.proofs.calls.Acts.{act-adds, is_refusal, vectors-refuse}
use Rattle.work_laws.proofs.calls.Begins.{pieces-most}
use Rattle.work_laws.proofs.calls.Settling.{after_left, drop-less, ends-less, full-pieces, left-is, settle-dropped, settle-less}
use Rattle.work_laws.proofs.files.StreamsAdd.{stream-adds}
use Rattle.work_laws.specs.KernelLeft.{begins_with_act, files_left, is_refused, phase_left, phases_left, progress_left}

-- the bytes that an act built, to be scattered
scatter-most : (call : FileCall) (out : List ℕ) (phases : List Phase) → length out ≤ 65_536 → phases_left call (with_scatter out phases) ≤ phases_left call phases + 18
scatter-most call out [] l = omega arith
scatter-most call out (Gather rs ∷ phases) l = omega arith
scatter-most call out (Act ∷ phases) l = omega arith
scatter-most call out (Scatter [] ∷ phases) l = omega arith
scatter-most call out (Scatter (r ∷ rs) ∷ phases) l =
    let s : Range = record r { len = length out } in
    let a = pieces-most s in
    let b = full-pieces (s ∷ []) in
    omega (arith, a, b, l)
scatter-most call out (Stream rs ∷ phases) l = omega arith

module _ (p : Progress) (files : Files) (process : ℕ) where
  abbrev Less : After → Type 0
  Less a = after_left a + 1 ≤ files_left files + progress_left p

  -- ---- an act
  module _ (rest : List Phase) (begins : p.phases ≡ Act ∷ rest) where
    abbrev r : FileResult
    r = file_step files process (act_of p.call p.arguments) p.buffer

    more : files_left r.files ≤ files_left files + 1
    more = (act-adds files process p.call p.arguments p.buffer).more

    built : length r.out ≤ 65_536
    built = (act-adds files process p.call p.arguments p.buffer).built

    phases-are : phases_left p.call p.phases ≡ 20 + phases_left p.call rest
    phases-are = ap (phases_left p.call) begins ∙ omega arith

    rest-is : tail p.phases ≡ rest
    rest-is = ap tail begins

    -- what stood before it
    stood : (b : Bool) → is_refused p ≡ b → progress_left p ≡ 1 + cond b 2 (20 + phases_left p.call rest)
    stood b e = ap (λ c. 1 + cond c 2 (phases_left p.call p.phases)) e ∙ ap (λ n. 1 + cond b 2 n) phases-are

    refused-not : is_refused p ≡ true → is_refusal r.answer ≡ true
    refused-not e =
        let a = both (has_vectors p.call && begins_with_act p.phases) (not (count_is_valid (vector_count p.call p.arguments))) e in
        let b = both (has_vectors p.call) (begins_with_act p.phases) a.0 in
        vectors-refuse files process p.call p.arguments p.buffer b.0 (not-true (count_is_valid (vector_count p.call p.arguments)) a.1)

    abbrev After_answer : ℤ → Type 0
    After_answer answer = Less (elim answer as (λ _. After) [
      | negsuc n ↦ record { progress = p; ended = Some (negsuc n); files = r.files }
      | pos n ↦ cond (is_read p.call || is_write p.call)
          (settle (record p { found = Some n; phases = tail p.phases }) r.files)
          (settle (record p { answer = pos n; buffer = r.out; phases = with_scatter r.out (tail p.phases) }) r.files)
    ])

    act-less : Less (acted p r)
    act-less = go r.answer refl (is_refused p) refl
      where
        least : (b : Bool) → 3 ≤ 1 + cond b 2 (20 + phases_left p.call rest)
        least true = omega arith
        least false = omega arith

        finds : (n : ℕ) → is_refused p ≡ false → (b : Bool) → Less (cond b
            (settle (record p { found = Some n; phases = tail p.phases }) r.files)
            (settle (record p { answer = pos n; buffer = r.out; phases = with_scatter r.out (tail p.phases) }) r.files))
        finds n e true =
            let a = settle-less (record p { found = Some n; phases = tail p.phases }) r.files in
            let b = ap (phases_left p.call) rest-is in
            let c = more in
            let d = stood false e in
            omega (arith, a, b, c, d)
        finds n e false =
            let a = settle-less (record p { answer = pos n; buffer = r.out; phases = with_scatter r.out (tail p.phases) }) r.files in
            let s = scatter-most p.call r.out (tail p.phases) built in
            let b = ap (phases_left p.call) rest-is in
            let c = more in
            let d = stood false e in
            omega (arith, a, b, c, d, s)

        go : (answer : ℤ) → r.answer ≡ answer → (b : Bool) → is_refused p ≡ b → After_answer answer
        go (negsuc n) f b e = let c = more in let d = stood b e in let l = least b in omega (arith, c, d, l)
        go (pos n) f true e = absurd (let x = refused-not e in let y = ap is_refusal f in grind (arith, x, y))
        go (pos n) f false e = finds n e (is_read p.call || is_write p.call)

  -- ---- a phase whose ranges are used up
  none-left : (rs : List Range) → nat_lt 0 (length rs) ≡ false → (length rs == 0) ≡ true
  none-left rs e = grind (arith, nat_tests, e)

  used-up : (phase : Phase) (rest : List Phase) → p.phases ≡ phase ∷ rest → begins_with_act (phase ∷ rest) ≡ false → is_used_up phase ≡ true → 1 ≤ phase_left p.call phase → Less (settle p files)
  used-up phase rest begins no_act used counts =
      let a = settle-dropped p files in
      let b = left-is p (ap begins_with_act begins ∙ no_act) in
      let c = ap (phases_left p.call) begins in
      let e = drop-less p.call rest in
      let f = ap (λ x. phases_left p.call (cond x (drop_used_up rest) (phase ∷ rest))) used in
      let g = ap (λ ps. phases_left p.call (drop_used_up ps)) begins in
      omega (arith, a, b, c, e, f, g, counts)

  -- ---- a stream that ends
  stream-less : (rs : List Range) (rest : List Phase) → p.phases ≡ Stream rs ∷ rest → Less (stream_end p (file_step files process (stream_operation p) []))
  stream-less rs rest begins =
      let r = file_step files process (stream_operation p) [] in
      let a = ends-less (cond (p.moved == 0) r.answer (pos p.moved)) p r.files in
      let b = stream-adds p files process [] in
      let c = left-is p (ap begins_with_act begins) in
      let d = ap (phases_left p.call) begins in
      omega (arith, a, b, c, d)

  -- the ranges of the phase under way
  left-in : (phase : Phase) (rest : List Phase) → p.phases ≡ phase ∷ rest → has_piece p ≡ nat_lt 0 (length (without_empty (ranges_of phase)))
  left-in phase rest begins = ap (λ ps. nat_lt 0 (length (without_empty (ranges_of (get_or ps 0 Act))))) begins

  by-phase : (phase : Phase) (rest : List Phase) → p.phases ≡ phase ∷ rest → is_file_step (kind_of_phase files p phase) ≡ true → Less (file_step_in p files process phase)
  by-phase Act rest begins k = act-less rest begins
  by-phase (Stream rs) rest begins k = stream-less rs rest begins
  by-phase (Gather rs) rest begins k = used-up (Gather rs) rest begins refl (none-left (without_empty rs) (sym (left-in (Gather rs) rest begins) ∙ no-piece (has_piece p) k)) (omega arith)
    where
      no-piece : (b : Bool) → is_file_step (cond b Ready FileStep) ≡ true → b ≡ false
      no-piece true e = absurd (grind (arith, e))
      no-piece false e = refl
  by-phase (Scatter rs) rest begins k = used-up (Scatter rs) rest begins refl (none-left (without_empty rs) (sym (left-in (Scatter rs) rest begins) ∙ no-piece (has_piece p) k)) (omega arith)
    where
      no-piece : (b : Bool) → is_file_step (cond b Ready FileStep) ≡ true → b ≡ false
      no-piece true e = absurd (grind (arith, e))
      no-piece false e = refl

  pub file-step-less : IsUnderWay p → is_file_step (next_kind files p) ≡ true → Less (take_file_step p files process)
  file-step-less u k = go p.phases refl u.phases
    where
      go : (phases : List Phase) → p.phases ≡ phases → 1 ≤ length phases → Less (take_file_step p files process)
      go [] e l = absurd (omega (arith, l))
      go (phase ∷ rest) e l =
          let a = ap (λ ps. kind_of_phase files p (get_or ps 0 Act)) e in
          let b = by-phase phase rest e (ap is_file_step (sym a) ∙ k) in
          subst (λ ps. Less (file_step_in p files process (get_or ps 0 Act))) (sym e) b
