-- What a step of a call leaves before it: phases that are used up are passed over, a call that ends counts nothing, and a description that is given back adds nothing.
use Rattle.file_model.specs.Acts.{count_is_valid}
use Rattle.file_model.specs.Files.{Files, leave}
use Rattle.kernel_model.specs.CallPhases.{Phase, vector_count}
use Rattle.kernel_model.specs.Progress.{After, Progress, answer_of, drop_used_up, ends, given_back, goes_on, is_used_up, settle, settled_progress, without_empty}
use Rattle.kernel_model.specs.Steps.{status_after}
use Rattle.kernel_model.specs.declared.ranges.Range.{Range}
use Rattle.std.proofs.Common.{ap, arith, refl}
use Rattle.std.specs.Prelude.{Bool, List, None, Option, Some, [], cond, false, length, nat_lt, not, true, ℕ, ℤ, ◌%◌, ◌&&◌, ◌+◌, ◌/◌, ◌==◌, ◌∷◌, ◌≡◌, ◌≤◌}
use Rattle.system_calls.specs.FileCalls.{has_vectors}
use Rattle.system_calls.specs.declared.file_calls.FileCall.{FileCall}
use Rattle.work_laws.proofs.calls.Begins.{left-most}
use Rattle.work_laws.proofs.files.Adding.{leave-less}
use Rattle.work_laws.specs.KernelLeft.{begins_with_act, files_left, phase_left, phases_left, pieces, pieces_of, progress_left, status_left}

-- the call and the files after a step
abbrev pub after_left : After → ℕ
after_left a = files_left a.files + status_left (status_after a)

pub given-less : (p : Progress) (files : Files) → files_left (given_back p files) ≤ files_left files
given-less p files = go p.found
  where
    go : (o : Option ℕ) → files_left (elim o as (λ _. Files) [ None ↦ files | Some d ↦ leave d files ]) ≤ files_left files
    go None = omega arith
    go (Some d) = leave-less files d

pub drop-less : (call : FileCall) (phases : List Phase) → phases_left call (drop_used_up phases) ≤ phases_left call phases
drop-less call [] = omega arith
drop-less call (phase ∷ phases) = go (is_used_up phase) (drop-less call phases)
  where
    go : (b : Bool) → phases_left call (drop_used_up phases) ≤ phases_left call phases → phases_left call (cond b (drop_used_up phases) (phase ∷ phases)) ≤ phase_left call phase + phases_left call phases
    go true i = omega (arith, i)
    go false i = omega arith

pub ends-less : (answer : ℤ) (p : Progress) (files : Files) → after_left (ends answer p files) ≤ files_left files
ends-less answer p files = let a = given-less p files in omega (arith, a)

pub settle-dropped : (p : Progress) (files : Files) → after_left (settle p files) ≤ files_left files + (1 + phases_left p.call (drop_used_up p.phases))
settle-dropped p files = go (length (drop_used_up p.phases) == 0)
  where
    go : (b : Bool) → after_left (cond b (ends (answer_of (settled_progress p)) (settled_progress p) files) (goes_on (settled_progress p) files)) ≤ files_left files + (1 + phases_left p.call (drop_used_up p.phases))
    go true = let a = ends-less (answer_of (settled_progress p)) (settled_progress p) files in omega (arith, a)
    go false = let a = left-most (settled_progress p) in omega (arith, a)

pub settle-less : (p : Progress) (files : Files) → after_left (settle p files) ≤ files_left files + (1 + phases_left p.call p.phases)
settle-less p files = let a = settle-dropped p files in let b = drop-less p.call p.phases in omega (arith, a, b)

pub on-less : (p : Progress) (files : Files) → after_left (goes_on p files) ≤ files_left files + (1 + phases_left p.call p.phases)
on-less p files = let a = left-most p in omega (arith, a)

-- ---- pieces of ranges
pub full-pieces : (rs : List Range) → pieces (without_empty rs) ≡ pieces rs
full-pieces [] = refl
full-pieces (r ∷ rs) = go (nat_lt 0 r.len) refl (full-pieces rs)
  where
    go : (b : Bool) → nat_lt 0 r.len ≡ b → pieces (without_empty rs) ≡ pieces rs → pieces (cond b (r ∷ without_empty rs) (without_empty rs)) ≡ pieces_of r + pieces rs
    go true e i = omega (arith, i)
    go false e i = let z : pieces_of r ≡ 0 = ap (λ b. cond b ((r.address % 4096 + r.len + 4095) / 4096) 0) e in omega (arith, i, z)

-- what stands before a call that doesn't begin with an act
pub left-is : (p : Progress) → begins_with_act p.phases ≡ false → progress_left p ≡ 1 + phases_left p.call p.phases
left-is p e = go (has_vectors p.call) (begins_with_act p.phases) e
  where
    go : (b c : Bool) → c ≡ false → 1 + cond (b && c && not (count_is_valid (vector_count p.call p.arguments))) 2 (phases_left p.call p.phases) ≡ 1 + phases_left p.call p.phases
    go true false f = refl
    go false false f = refl
    go true true f = absurd (grind (arith, f))
    go false true f = refl
