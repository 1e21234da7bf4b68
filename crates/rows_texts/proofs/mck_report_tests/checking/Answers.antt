use Rattle.job_model.specs.Images.{IsImage}
use Rattle.rows_texts.proofs.mck_report_tests.checking.Goals as goal
use Rattle.std.proofs.Common.{arith, rules, ◌<◌, [], ◌∷◌, slice_index_or, ℕ}
use Rattle.std.specs.Prelude.{zero, suc}

one : {A : Type 0} (P : A → Type 0) (x : A) → P x → (k : ℕ) (d : A) → k < 1 → P (slice_index_or (x ∷ []) k d)
one P x h zero d l = h
one P x h (suc k) d l = absurd (omega (arith, l))

pub check-requires-2-clause-images : goal.check-requires-2-clause-images
check-requires-2-clause-images g c = one IsImage c.in_ok-image.image (search (rules, c.load.ensures.image, c.map_err.ensures.cases, c.map_err.ensures.variant, c.branch-image.ensures, c.in_ok-image.is, c.in_ok-image.was, c.in_ok-image.ensures.cases))
