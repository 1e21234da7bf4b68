-- The step behind the last piece of the vectors.
use Rattle.call_phases.specs.Ranges.{is_too_long}
use Rattle.call_phases.specs.Stages.{vector_stream}
use Rattle.file_model.specs.Errno.{EINVAL}
use Rattle.file_model.specs.Files.{Files}
use Rattle.kernel_model.specs.CallPhases.{Phase}
use Rattle.kernel_model.specs.declared.ranges.Range.{Range}
use Rattle.kernel_model.specs.Progress.{Progress, ends, gather_vectors, settle, vectors}
use Rattle.mck_word.specs.Words.{refused}
use Rattle.std.proofs.Common.{◌≡◌, ℕ, suc, true, false, cond, List, [], ◌∷◌, length, sym, ap, ◌∙◌, arith}
use Rattle.std.proofs.lemmas.Bool.Decides.{nat_tests}
use Rattle.std.specs.List.{list_any}
use Rattle.std.specs.Prelude.{◌==◌}

never : (n : ℕ) → (suc n == 0) ≡ true → ⊥
never n e = grind (arith, nat_tests, e)

pub over-vectors : (p : Progress) (rs : List Range) (files : Files) (bytes : List ℕ) (phases : List Phase) → (length rs == 0) ≡ true → bytes ≡ p.buffer
    → list_any is_too_long (vectors 16 bytes) ≡ false → phases ≡ vector_stream bytes → settle (record p { buffer = []; phases = phases }) files ≡ gather_vectors p rs files
over-vectors p [] files bytes phases e b none is =
    (λ i. settle (record p { buffer = []; phases = (is ∙ ap vector_stream b) i }) files)
    ∙ ap (λ v. cond v (ends (refused EINVAL) p files) (settle (record p { buffer = []; phases = vector_stream p.buffer }) files)) (sym none ∙ ap (λ (bs : List ℕ). list_any is_too_long (vectors 16 bs)) b)
over-vectors p (r ∷ rs) files bytes phases e b none is = absurd (never (length rs) e)
