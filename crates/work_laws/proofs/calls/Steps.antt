-- What the steps of a delegated call leave to do: each step of an active call ends it or leaves less before it; blocking and waking leave the same.
use Rattle.file_model.specs.Files.{Files}
use Rattle.hybrid_laws.proofs.maps.Sums.{counted_in, total-put}
use Rattle.hybrid_laws.proofs.maps.Tests.{both, some-is}
use Rattle.hybrid_model.specs.Globals.{StatusHolds}
use Rattle.isa_model.specs.Memory.{Memory}
use Rattle.kernel_model.specs.Nodes.{set_files}
use Rattle.kernel_model.specs.OneKernel.{Active, Blocked, Call, CallStatus, OneHere, Over}
use Rattle.kernel_model.specs.Progress.{After, Progress, fault_answer, given_back, is_file_step, is_ready, interrupted_answer, move_piece, next_kind, next_piece, take_file_step}
use Rattle.kernel_model.specs.Steps.{active, after_call_step, blocked, bytes_at, call_at, call_ended, has_call, holds_of, is_active, is_blocked, no_call, one_piece, progress_at, progress_in, set_status, status_after, with_page}
use Rattle.mck_word.specs.Maps.{at, put}
use Rattle.std.proofs.Common.{ap, arith, inl, inr, refl, sym, ◌∙◌}
use Rattle.std.proofs.Math.Nat.{mul-le-mul_left}
use Rattle.std.specs.Prelude.{Bool, Option, Some, length, true, unwrap_or, ℕ, ℤ, ◌*◌, ◌+◌, ◌≡◌, ◌≤◌, ◌⊎◌}
use Rattle.work_laws.proofs.calls.FileStep.{file-step-less}
use Rattle.work_laws.proofs.calls.Moves.{move-less}
use Rattle.work_laws.proofs.calls.Settling.{after_left, given-less}
use Rattle.work_laws.proofs.files.StreamsLess.{PieceLess, QuietStep}
use Rattle.work_laws.proofs.steps.OneProcess.{OnePays}
use Rattle.work_laws.specs.KernelLeft.{Prices, files_left, of_mark, own_calls_left, progress_left, status_left}

-- ---- the call of a thread that is under way
module _ (h : OneHere) (t : ℕ) where
  abbrev c : Call
  c = call_at h t

  abbrev p : Progress
  p = progress_at h t

  pub record IsActive (test : Progress → Bool) : Type 0 where
    pub there : at h.own.calls t ≡ Some c
    pub is : c.status ≡ Active p
    pub holds : test p ≡ true

  pub record IsBlocked (test : Progress → Bool) : Type 0 where
    pub there : at h.own.calls t ≡ Some c
    pub is : c.status ≡ Blocked p
    pub holds : test p ≡ true

  pub found : has_call h t ≡ true → at h.own.calls t ≡ Some c
  found e = let x = some-is (at h.own.calls t) e in x.1 ∙ ap (λ (o : Option Call). Some (unwrap_or o no_call)) (sym x.1)

  pub when-active : (test : Progress → Bool) → is_active h t test ≡ true → IsActive test
  when-active test e = let b = both (has_call h t) (holds_of (active c.status) test) e in go c.status refl b.0 b.1
    where
      go : (s : CallStatus) → c.status ≡ s → has_call h t ≡ true → holds_of (active s) test ≡ true → IsActive test
      go (Active x) f has i = record { there = found has; is = f ∙ ap (λ s. Active (progress_in s)) (sym f); holds = ap (λ s. test (progress_in s)) f ∙ i }
      go (Blocked x) f has i = absurd (grind (arith, i))
      go (Over a) f has i = absurd (grind (arith, i))

  pub when-blocked : (test : Progress → Bool) → is_blocked h t test ≡ true → IsBlocked test
  when-blocked test e = let b = both (has_call h t) (holds_of (blocked c.status) test) e in go c.status refl b.0 b.1
    where
      go : (s : CallStatus) → c.status ≡ s → has_call h t ≡ true → holds_of (blocked s) test ≡ true → IsBlocked test
      go (Blocked x) f has i = record { there = found has; is = f ∙ ap (λ s. Blocked (progress_in s)) (sym f); holds = ap (λ s. test (progress_in s)) f ∙ i }
      go (Active x) f has i = absurd (grind (arith, i))
      go (Over a) f has i = absurd (grind (arith, i))

-- each call of the process is sound
abbrev pub CallsSound : OneHere → Type 0
CallsSound h = (t : ℕ) (c : Call) → at h.own.calls t ≡ Some c → StatusHolds c.status

module _ (k : Prices) (h : OneHere) (t : ℕ) where
  -- ---- one call that changes
  abbrev now : Memory → Files → CallStatus → OneHere
  now memory files status = record h { own = record { memory = memory; calls = put h.own.calls t (record { marked = (call_at h t).marked; status = status }) }; node = set_files files h.node }

  pub call-pays : (memory : Memory) (files : Files) (status : CallStatus) (gain : ℕ) → at h.own.calls t ≡ Some (call_at h t) → files_left files + status_left status + gain ≤ files_left h.node.files + status_left (call_at h t).status
      → OnePays k h (now memory files status) (k.step * gain) 0
  call-pays memory files status gain there l =
      let c = call_at h t in
      let new : Call = record { marked = c.marked; status = status } in
      let a = total-put (λ (x : Call). status_left x.status) h.own.calls t new in
      let b = ap (counted_in (λ (x : Call). status_left x.status)) there in
      let d = total-put (λ (x : Call). of_mark x.marked) h.own.calls t new in
      let e = ap (counted_in (λ (x : Call). of_mark x.marked)) there in
      let s : files_left files + own_calls_left (now memory files status).own + gain ≤ files_left h.node.files + own_calls_left h.own = omega (arith, a, b, l) in
      let m = mul-le-mul_left k.step s in
      omega (arith, d, e, m)

  -- a step that leaves less before the call, and one that ends it
  steps-less : (memory : Memory) (a : After) → at h.own.calls t ≡ Some (call_at h t) → (call_at h t).status ≡ Active (progress_at h t) → after_left a + 1 ≤ files_left h.node.files + progress_left (progress_at h t)
      → OnePays k h (now memory a.files (status_after a)) k.step 0
  steps-less memory a there is l =
      let s = ap status_left is in
      let m = call-pays memory a.files (status_after a) 1 there (omega (arith, l, s)) in
      omega (arith, m)

  ended-pays : (answer : ℤ) → at h.own.calls t ≡ Some (call_at h t) → (call_at h t).status ≡ Active (progress_at h t) → OnePays k h (call_ended t answer h) k.step 0
  unfolding call_ended
  ended-pays answer there is =
      let s = ap status_left is in
      let g = given-less (progress_at h t) h.node.files in
      let m = call-pays h.own.memory (given_back (progress_at h t) h.node.files) (Over answer) 1 there (omega (arith, s, g)) in
      omega (arith, m)

  pub fault-pays : (test : Progress → Bool) → is_active h t test ≡ true → OnePays k h (call_ended t (fault_answer (progress_at h t)) h) k.step 0
  fault-pays test e = let a = when-active h t test e in ended-pays (fault_answer (progress_at h t)) a.there a.is

  pub interrupted-pays : (test : Progress → Bool) → is_active h t test ≡ true → OnePays k h (call_ended t (interrupted_answer (progress_at h t)) h) k.step 0
  interrupted-pays test e = let a = when-active h t test e in ended-pays (interrupted_answer (progress_at h t)) a.there a.is

  pub block-pays : (test : Progress → Bool) → is_active h t test ≡ true → OnePays k h (set_status t (call_at h t).marked (Blocked (progress_at h t)) h) 0 0
  block-pays test e =
      let a = when-active h t test e in
      let s = ap status_left a.is in
      let m = call-pays h.own.memory h.node.files (Blocked (progress_at h t)) 0 a.there (omega (arith, s)) in
      omega (arith, m)

  pub wake-pays : (test : Progress → Bool) → is_blocked h t test ≡ true → OnePays k h (set_status t (call_at h t).marked (Active (progress_at h t)) h) 0 0
  wake-pays test e =
      let a = when-blocked h t test e in
      let s = ap status_left a.is in
      let m = call-pays h.own.memory h.node.files (Active (progress_at h t)) 0 a.there (omega (arith, s)) in
      omega (arith, m)

  pub file-pays : (process : ℕ) → CallsSound h → is_active h t (λ p. is_file_step (next_kind h.node.files p)) ≡ true → OnePays k h (after_call_step t (take_file_step (progress_at h t) h.node.files process) h) k.step 0
  file-pays process sound e =
      let a = when-active h t (λ p. is_file_step (next_kind h.node.files p)) e in
      let u = rw a.is at (sound t (call_at h t) a.there) in
      steps-less h.own.memory (take_file_step (progress_at h t) h.node.files process) a.there a.is (file-step-less (progress_at h t) h.node.files process u a.holds)

  -- ---- a piece
  module _ (process : ℕ) where
    abbrev page : ℕ
    page = (next_piece (progress_at h t)).page

    abbrev moved : After
    moved = (move_piece (progress_at h t) h.node.files process (bytes_at h.own.memory page)).after

    pub record QuietPiece : Type 0 where
      pub step : QuietStep (progress_at h t) h.node.files moved
      pub same : OnePays k h (one_piece process t h) 0 0

    pub piece-pays : (test : Progress → Bool) → ((p : Progress) → test p ≡ true → is_ready (next_kind h.node.files p) ≡ true) → length (bytes_at h.own.memory page) ≡ 4096 → is_active h t test ≡ true
        → OnePays k h (one_piece process t h) k.step 0 ⊎ QuietPiece
    unfolding one_piece
    piece-pays test ready full e =
        let a = when-active h t test e in
        go a (move-less (progress_at h t) h.node.files process (bytes_at h.own.memory page) full (ready (progress_at h t) a.holds))
      where
        memory : Memory
        memory = with_page page (move_piece (progress_at h t) h.node.files process (bytes_at h.own.memory page)).page h.own.memory

        go : IsActive h t test → PieceLess (progress_at h t) h.node.files moved → OnePays k h (one_piece process t h) k.step 0 ⊎ QuietPiece
        go a (inl l) = inl (steps-less memory moved a.there a.is l)
        go a (inr q) = inr (record {
          step = q;
          same =
              let s = ap status_left a.is in
              let l = q.same in
              let m = call-pays memory moved.files (status_after moved) 0 a.there (omega (arith, s, l)) in
              omega (arith, m);
        })
