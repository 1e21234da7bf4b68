-- The step of a stream's piece.
use Rattle.call_progress.specs.Kept.{moved}
use Rattle.file_model.specs.FileSteps.{file_step}
use Rattle.file_model.specs.Files.{Files, description_of}
use Rattle.file_model.specs.Operations.{FileResult, done, fails}
use Rattle.file_model.specs.Streams.{put_bytes, put_piece, write_error, write_ready}
use Rattle.file_model.specs.declared.descriptions.Target.{Target}
use Rattle.file_model.specs.declared.descriptions.Target.TheVariants.{OfConsole, OfNode, ReadEnd, WriteEnd}
use Rattle.file_model.specs.declared.operations.FileOp.{FileOp}
use Rattle.file_model.specs.declared.operations.FileOp.TheVariants.{Get, Put}
use Rattle.file_model.specs.declared.operations.Readiness.{Readiness}
use Rattle.file_model.specs.declared.operations.Readiness.TheVariants.{FileStep, NotReady, Ready}
use Rattle.kernel_model.specs.Progress.{Moved, Progress, description_found, nat_of, next_piece, offset_argument, settle, stream_operation, streamed, streamed_in, streamed_on, streamed_out}
use Rattle.kernel_model.specs.declared.ranges.Range.{Range}
use Rattle.mck_word.specs.Lists.{spliced}
use Rattle.std.proofs.Common.{◌≡◌, ◌≤◌, ◌+◌, ◌-◌, ℕ, Bool, true, false, cond, List, [], ◌++◌, length, take, drop, replicate, append_assoc, refl, ap, ◌∙◌, arith}
use Rattle.std.proofs.lemmas.List.{take-append-drop}
use Rattle.std.specs.Prelude.{Option, pos}
use Rattle.system_calls.specs.FileCalls.{is_read}

-- a piece that is put gives nothing out
none-out : (files : Files) (d : ℕ) (at : Option ℕ) (moved n : ℕ) (bytes : List ℕ) → (put_piece files d at moved n bytes).out ≡ []
none-out files d at moved n bytes = go (write_ready files d at moved n)
  where
    target : Target
    target = (description_of files d).target

    by_target : (t : Target) → (put_bytes files d at moved bytes t).out ≡ []
    by_target (OfNode node) = refl
    by_target (ReadEnd k) = refl
    by_target (WriteEnd k) = refl
    by_target (OfConsole guest) = refl

    go : (r : Readiness) → (elim r as (λ _. FileResult) [
      | Ready ↦ put_bytes files d at moved bytes target
      | NotReady ↦ done (pos 0) files
      | FileStep ↦ fails (write_error files (description_of files d) at moved target) files
    ]).out ≡ []
    go Ready = by_target target
    go NotReady = refl
    go FileStep = refl

none-spliced : (page : List ℕ) (off : ℕ) → off ≤ length page → spliced page off [] ≡ page
none-spliced page off low =
    let none : off - length page ≡ 0 = omega arith in
    let same : off + 0 ≡ off = omega arith in
    (λ i. ((take off page ++ replicate (none i) 0) ++ []) ++ drop (same i) page)
    ∙ append_assoc (take off page ++ []) [] (drop off page) ∙ append_assoc (take off page) [] (drop off page) ∙ take-append-drop off page

module _ (p : Progress) (ranges : List Range) (files : Files) (process : ℕ) (page : List ℕ) where
  abbrev pub given : List ℕ
  given = take (next_piece p).len (drop (next_piece p).off page)

  abbrev operation : Bool → FileOp
  operation b = cond b (Get (description_found p) (offset_argument p) p.moved (next_piece p).len) (Put (description_found p) (offset_argument p) p.moved (next_piece p).len)

  -- the page with what the step gives out, and the call behind what it moved
  abbrev pub by_result : FileResult → Moved
  by_result r = moved (spliced page (next_piece p).off r.out) (settle (streamed_on p ranges (nat_of r.answer)) r.files)

  pub stream-step : (next_piece p).off ≤ length page → by_result (file_step files process (stream_operation p) given) ≡ streamed p ranges files process page
  stream-step low = go (is_read p.call)
    where
      go : (b : Bool) → by_result (file_step files process (operation b) given)
          ≡ cond b (streamed_in p ranges files process page (file_step files process (operation b) [])) (streamed_out p ranges page (file_step files process (operation b) given))
      go true = refl
      go false =
          let r = file_step files process (operation false) given in
          let out : r.out ≡ [] = none-out files (description_found p) (offset_argument p) p.moved (next_piece p).len given in
          ap (λ (bytes : List ℕ). moved bytes (settle (streamed_on p ranges (nat_of r.answer)) r.files))
          (ap (λ (bytes : List ℕ). spliced page (next_piece p).off bytes) out ∙ none-spliced page (next_piece p).off low)
