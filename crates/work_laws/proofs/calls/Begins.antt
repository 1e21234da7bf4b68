-- A call that begins has few steps before it.
use Rattle.file_model.specs.Acts.{count_is_valid}
use Rattle.hybrid_laws.proofs.maps.Tests.{both}
use Rattle.kernel_model.specs.CallPhases.{Act, Gather, Phase, Scatter, Stream, argument, int_at, magnitude, most_moved, most_path, one_range, path_phases, phases_of, stream_phases, vector_count, vector_phases}
use Rattle.kernel_model.specs.Progress.{Progress, starting}
use Rattle.kernel_model.specs.declared.ranges.Range.{Range}
use Rattle.mck_word.specs.Words.{int_argument}
use Rattle.std.proofs.Common.{ap, arith, refl, ◌∙◌}
use Rattle.std.proofs.lemmas.Bool.Decides.{nat_tests}
use Rattle.std.specs.Prelude.{Bool, List, [], cond, false, min, nat_lt, negsuc, pos, true, ℕ, ℤ, not, ◌%◌, ◌&&◌, ◌*◌, ◌+◌, ◌/◌, ◌∷◌, ◌≡◌, ◌≤◌}
use Rattle.system_calls.specs.FileCalls.{has_path, has_vectors}
use Rattle.system_calls.specs.declared.file_calls.FileCall.TheVariants as Calls
use Rattle.system_calls.specs.declared.file_calls.FileCall.{FileCall}
use Rattle.work_laws.specs.KernelLeft.{begins_with_act, is_refused, phases_left, pieces_of, progress_left}

pub pieces-most : (r : Range) → pieces_of r ≤ r.len / 4096 + 2
pieces-most r = go (nat_lt 0 r.len)
  where
    go : (b : Bool) → cond b ((r.address % 4096 + r.len + 4095) / 4096) 0 ≤ r.len / 4096 + 2
    go true = omega arith
    go false = omega arith

-- the steps of a call at most
abbrev pub most_call : ℕ
most_call = 121

-- what an act refuses is less than the phases
pub left-most : (p : Progress) → progress_left p ≤ 1 + phases_left p.call p.phases
left-most p = go (is_refused p) refl
  where
    begun : (call : FileCall) (phases : List Phase) → begins_with_act phases ≡ true → 2 ≤ phases_left call phases
    begun call [] e = absurd (grind (arith, e))
    begun call (Act ∷ phases) e = omega arith
    begun call (Gather rs ∷ phases) e = absurd (grind (arith, e))
    begun call (Scatter rs ∷ phases) e = absurd (grind (arith, e))
    begun call (Stream rs ∷ phases) e = absurd (grind (arith, e))

    go : (b : Bool) → is_refused p ≡ b → 1 + cond b 2 (phases_left p.call p.phases) ≤ 1 + phases_left p.call p.phases
    go true e =
        let a = both (has_vectors p.call && begins_with_act p.phases) (not (count_is_valid (vector_count p.call p.arguments))) e in
        let b = both (has_vectors p.call) (begins_with_act p.phases) a.0 in
        let c = begun p.call p.phases b.1 in
        omega (arith, c)
    go false e = omega arith

min-most : (n : ℕ) → min n most_moved ≤ 65536
min-most n = omega arith

module _ (call : FileCall) (arguments : List ℕ) where
  abbrev Few : List Phase → Type 0
  Few phases = progress_left (starting call arguments phases) ≤ most_call

  abbrev a : ℕ → ℕ
  a j = argument arguments j

  one-piece : (address len : ℕ) → len ≤ 65536 → pieces_of (record { address = address; len = len }) ≤ 18
  one-piece address len l = let p = pieces-most (record { address = address; len = len }) in omega (arith, p, l)

  path-few : has_path call ≡ true → Few (path_phases arguments)
  path-few e =
      let m = left-most (starting call arguments (path_phases arguments)) in
      let p = one-piece (a 1) most_path (omega arith) in
      let x = ap {B = ℕ} (λ b. cond b 0 96) e in
      omega (arith, m, p, x)

  scatter-few : (address len : ℕ) → len ≤ 65536 → Few (Act ∷ Scatter (one_range address len) ∷ [])
  scatter-few address len l =
      let m = left-most (starting call arguments (Act ∷ Scatter (one_range address len) ∷ [])) in
      let p = one-piece address len l in
      omega (arith, m, p)

  stream-few : Few (stream_phases arguments)
  stream-few =
      let m = left-most (starting call arguments (stream_phases arguments)) in
      let p = one-piece (a 1) (min (a 2) most_moved) (min-most (a 2)) in
      omega (arith, m, p)

  act-few : Few (Act ∷ [])
  act-few = let m = left-most (starting call arguments (Act ∷ [])) in omega (arith, m)

  -- vectors whose number the act refuses, or at most 16 of them
  vectors-few : has_vectors call ≡ true → Few (vector_phases arguments)
  vectors-few v = go (count_is_valid (int_argument (a 2))) refl
    where
      counted : vector_count call arguments ≡ int_argument (a 2)
      counted = ap (λ b. cond b (int_at arguments 2) (pos 0)) v

      few-bytes : (n : ℤ) → count_is_valid n ≡ true → 16 * magnitude n ≤ 256
      few-bytes (pos n) e = grind (arith, nat_tests, e)
      few-bytes (negsuc n) e = absurd (grind (arith, e))

      go : (b : Bool) → count_is_valid (int_argument (a 2)) ≡ b → Few (vector_phases arguments)
      go true e =
          let m = left-most (starting call arguments (vector_phases arguments)) in
          let l = few-bytes (int_argument (a 2)) e in
          let p = pieces-most (record { address = a 1; len = 16 * magnitude (int_argument (a 2)) }) in
          let x = others (has_path call) in
          omega (arith, m, l, p, x)
        where
          others : (b : Bool) → cond b 0 96 ≤ 96
          others true = omega arith
          others false = omega arith
      go false e =
          let r : is_refused (starting call arguments (vector_phases arguments)) ≡ true = (λ i. v i && true && not (((ap count_is_valid counted) ∙ e) i)) in
          let x = ap (λ b. 1 + cond b 2 (phases_left call (vector_phases arguments))) r in
          omega (arith, x)

pub phases-few : (call : FileCall) (arguments : List ℕ) → progress_left (starting call arguments (phases_of call arguments)) ≤ most_call
phases-few Calls.Openat arguments = path-few Calls.Openat arguments refl
phases-few Calls.Mkdirat arguments = path-few Calls.Mkdirat arguments refl
phases-few Calls.Unlinkat arguments = path-few Calls.Unlinkat arguments refl
phases-few Calls.Close arguments = act-few Calls.Close arguments
phases-few Calls.Lseek arguments = act-few Calls.Lseek arguments
phases-few Calls.Ioctl arguments = act-few Calls.Ioctl arguments
phases-few Calls.Pipe2 arguments = scatter-few Calls.Pipe2 arguments (argument arguments 0) 8 (omega arith)
phases-few Calls.Fstat arguments = scatter-few Calls.Fstat arguments (argument arguments 1) 128 (omega arith)
phases-few Calls.Getdents64 arguments = scatter-few Calls.Getdents64 arguments (argument arguments 1) (min (argument arguments 2) most_moved) (min-most (argument arguments 2))
phases-few Calls.Readv arguments = vectors-few Calls.Readv arguments refl
phases-few Calls.Writev arguments = vectors-few Calls.Writev arguments refl
phases-few Calls.Read arguments = stream-few Calls.Read arguments
phases-few Calls.Write arguments = stream-few Calls.Write arguments
phases-few Calls.Pread64 arguments = stream-few Calls.Pread64 arguments
phases-few Calls.Pwrite64 arguments = stream-few Calls.Pwrite64 arguments
