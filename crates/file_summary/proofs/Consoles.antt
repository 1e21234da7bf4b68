-- The consoles up to a place.
use Rattle.file_model.specs.Files.{Files}
use Rattle.file_summary.proofs.ByKey.{entries-by-key}
use Rattle.file_summary.proofs.Places.{take-past, take-place}
use Rattle.file_summary.specs.Rows.{output_at}
use Rattle.mck_word.specs.Maps.{at, entries, keys}
use Rattle.run_summary.specs.Summaries.{output_of}
use Rattle.std.proofs.Common.{ap, refl, sym, ◌∙◌}
use Rattle.std.proofs.lemmas.List.{map-append}
use Rattle.std.specs.Prelude.{List, None, Some, [], map, slice_get, take, unwrap_or, ℕ, ◌+◌, ◌++◌, ◌≡◌, ◌∷◌}

module _ (files : Files) where
  pub one-output : (ks : List ℕ) (i k : ℕ) → slice_get ks i ≡ Some k → map (output_at files) (take (i + 1) ks) ≡ map (output_at files) (take i ks) ++ output_at files k ∷ []
  one-output ks i k h = ap (map (output_at files)) (take-place ks i k h) ∙ map-append (output_at files) (take i ks) (k ∷ [])

  by-key : (ks : List ℕ) → map (output_at files) ks ≡ map output_of (map (λ k. (k, unwrap_or (at files.consoles k) (record { input = []; output = [] }))) ks)
  by-key [] = refl
  by-key (k ∷ ks) = ap (λ os. output_at files k ∷ os) (by-key ks)

  pub all-outputs : (i : ℕ) → slice_get (keys files.consoles) i ≡ None → map (output_at files) (take i (keys files.consoles)) ≡ map output_of (entries files.consoles)
  all-outputs i h =
      ap (map (output_at files)) (take-past (keys files.consoles) i h) ∙ by-key (keys files.consoles)
      ∙ ap (map output_of) (sym (entries-by-key (record { input = []; output = [] }) files.consoles))
