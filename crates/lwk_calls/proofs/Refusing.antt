-- Calls that are refused, or go on.
use Rattle.file_model.specs.Errno.{EAGAIN, EFAULT, EINVAL, ENOSYS}
use Rattle.file_model.specs.Files.{Files}
use Rattle.hybrid_model.specs.Sides.{Row}
use Rattle.isa_model.specs.Memory.{may_access, read_bytes}
use Rattle.kernel_model.specs.CloneCalls.{are_clone_flags, clone, clones, wait4}
use Rattle.kernel_model.specs.LocalCalls.{answers, falls_asleep, futex_wait, refuses}
use Rattle.kernel_model.specs.Nodes.{most_threads, thread_of, threads_of}
use Rattle.kernel_model.specs.SignalSets.{minus}
use Rattle.kernel_model.specs.Signals.{View, on_node}
use Rattle.lwk_calls.specs.Words.{clone_refusal, other_word, unless_refused, wait4_refusal, wait_refusal, waits}
use Rattle.kernel_tables.specs.declared.tables.KernelTables.{KernelTables}
use Rattle.lwk_views.proofs.Doing.{did_as}
use Rattle.lwk_views.specs.Views.{Did, seen}
use Rattle.mck_word.specs.Maps.{Map}
use Rattle.mck_word.specs.Words.{number_of, refused}
use Rattle.mck_word.specs.declared.Access.TheVariants.{Read}
use Rattle.std.proofs.Common.{ap, refl, subst, ◌∙◌}
use Rattle.std.specs.Prelude.{Bool, List, None, Option, Some, cond, false, length, nat_le, not, true, ℕ, ℤ, ◌%◌, ◌==◌, ◌^◌, ◌≡◌}

wait_last : (t address : ℕ) (v : View) (same : Bool) → cond (not same) (refuses t EAGAIN v) (on_node (falls_asleep t address) v)
    ≡ unless_refused t (cond (not same) (Some (refused EAGAIN)) None) (on_node (falls_asleep t address)) v
wait_last t address v true = refl
wait_last t address v false = refl

pub wait_is : (t address val timeout : ℕ) (v : View) → futex_wait t address val timeout v ≡ unless_refused t (wait_refusal v.memory address val timeout) (on_node (falls_asleep t address)) v
wait_is t address val timeout v = go (address % 4 == 0) (timeout == 0) (may_access v.memory Read address 4)
  where
    word : ℕ
    word = number_of (read_bytes v.memory address 4)

    go : (a b r : Bool)
        → cond (not a) (refuses t EINVAL v) (cond (not b) (refuses t ENOSYS v) (cond (not r) (refuses t EFAULT v) (cond (not (word == val % 2 ^ 32)) (refuses t EAGAIN v) (on_node (falls_asleep t address) v))))
        ≡ unless_refused t (cond (not a) (Some (refused EINVAL)) (cond (not b) (Some (refused ENOSYS)) (other_word val (cond r (Some word) None)))) (on_node (falls_asleep t address)) v
    go false b r = refl
    go true false r = refl
    go true true false = refl
    go true true true = wait_last t address v (word == val % 2 ^ 32)

pub clone_is : (t flags stack parent_tid tls child_tid : ℕ) (v : View) → clone t flags stack parent_tid tls child_tid v
    ≡ unless_refused t (clone_refusal flags (length (threads_of v.node (thread_of v.node t).process))) (clones t flags stack parent_tid tls child_tid) v
clone_is t flags stack parent_tid tls child_tid v = go (are_clone_flags flags) (nat_le most_threads (length (threads_of v.node (thread_of v.node t).process)))
  where
    go : (a b : Bool) → cond (not a) (refuses t EINVAL v) (cond b (refuses t EAGAIN v) (clones t flags stack parent_tid tls child_tid v))
        ≡ unless_refused t (cond (not a) (Some (refused EINVAL)) (cond b (Some (refused EAGAIN)) None)) (clones t flags stack parent_tid tls child_tid) v
    go false b = refl
    go true true = refl
    go true false = refl

pub wait4_is : (t : ℕ) (pid : ℤ) (status options rusage : ℕ) (v : View) → wait4 t pid status options rusage v ≡ unless_refused t (wait4_refusal options rusage) (waits t pid status options) v
wait4_is t pid status options rusage v = go (minus options 11 == 0) (rusage == 0)
  where
    go : (a b : Bool) → cond (not a) (refuses t EINVAL v) (cond (not b) (refuses t ENOSYS v) (waits t pid status options v))
        ≡ unless_refused t (cond (not a) (Some (refused EINVAL)) (cond (not b) (Some (refused ENOSYS)) None)) (waits t pid status options) v
    go false b = refl
    go true false = refl
    go true true = refl

module _ (rows : Map Row) (pages : List (List ℕ)) (before after : KernelTables) (left : List (List ℕ)) (t : ℕ) (word rest : View → View) (refusal : View → Option ℤ)
    (is : (v : View) → word v ≡ unless_refused t (refusal v) rest v) where
  pub refused_did : (given answer : ℤ) → given ≡ answer → ((files : Files) → refusal (seen rows before pages files) ≡ Some answer) → Did rows before pages after left (answers t given) → Did rows before pages after left word
  refused_did given answer same e h =
      did_as rows pages before after left (answers t answer) word
      (λ files. let v = seen rows before pages files in is v ∙ ap (λ r. unless_refused t r rest v) (e files)) (subst (λ z. Did rows before pages after left (answers t z)) same h)

  pub goes_on : ((files : Files) → refusal (seen rows before pages files) ≡ None) → Did rows before pages after left rest → Did rows before pages after left word
  goes_on e h = did_as rows pages before after left rest word (λ files. let v = seen rows before pages files in is v ∙ ap (λ r. unless_refused t r rest v) (e files)) h
