-- The move of a piece leaves less to do, whatever its phase is; or it is quiet.
use Rattle.file_model.specs.FileSteps.{ready}
use Rattle.file_model.specs.Files.{Files}
use Rattle.file_model.specs.declared.operations.Readiness.TheVariants.{Ready, FileStep}
use Rattle.kernel_model.specs.CallPhases.{Act, Gather, Phase, Scatter, Stream}
use Rattle.kernel_model.specs.Progress.{Progress, has_piece, is_ready, kind_of_phase, move_piece, moved_in_phase, next_kind, stream_operation}
use Rattle.std.proofs.Common.{ap, arith, inl, refl, subst, sym, ◌∙◌}
use Rattle.std.specs.Prelude.{Bool, List, [], cond, false, get_or, length, true, ℕ, ◌∷◌, ◌≡◌}
use Rattle.work_laws.proofs.calls.Pieces.{gather-less, scatter-less, under-way}
use Rattle.work_laws.proofs.files.StreamsLess.{PieceLess, stream-less}

module _ (p : Progress) (files : Files) (process : ℕ) (page : List ℕ) (full : length page ≡ 4096) where
  ready-if-piece : (b : Bool) → is_ready (cond b Ready FileStep) ≡ true → b ≡ true
  ready-if-piece true e = refl
  ready-if-piece false e = absurd (grind (arith, e))

  by-phase : (phase : Phase) (rest : List Phase) → p.phases ≡ phase ∷ rest → is_ready (kind_of_phase files p phase) ≡ true → PieceLess p files (moved_in_phase p files process page phase).after
  by-phase Act rest begins k = absurd (grind (arith, k))
  by-phase (Gather rs) rest begins k = inl (gather-less p files rs rest (under-way p files (Gather rs) rest begins (ready-if-piece (has_piece p) k)) page)
  by-phase (Scatter rs) rest begins k = inl (scatter-less p files rs rest (under-way p files (Scatter rs) rest begins (ready-if-piece (has_piece p) k)) page)
  by-phase (Stream rs) rest begins k = stream-less p files process rs rest (under-way p files (Stream rs) rest begins (has (has_piece p) k)) page full (ap (λ ps. is_ready (kind_of_phase files p (get_or ps 0 Act))) begins ∙ k)
    where
      has : (b : Bool) → is_ready (cond b (ready files (stream_operation p)) FileStep) ≡ true → b ≡ true
      has true e = refl
      has false e = absurd (grind (arith, e))

  pub move-less : is_ready (next_kind files p) ≡ true → PieceLess p files (move_piece p files process page).after
  move-less k = go p.phases refl
    where
      go : (phases : List Phase) → p.phases ≡ phases → PieceLess p files (move_piece p files process page).after
      go [] e = absurd (let a = ap (λ ps. is_ready (kind_of_phase files p (get_or ps 0 Act))) e in grind (arith, a, k))
      go (phase ∷ rest) e =
          let a = by-phase phase rest e (sym (ap (λ ps. is_ready (kind_of_phase files p (get_or ps 0 Act))) e) ∙ k) in
          subst (λ ps. PieceLess p files (moved_in_phase p files process page (get_or ps 0 Act)).after) (sym e) a
