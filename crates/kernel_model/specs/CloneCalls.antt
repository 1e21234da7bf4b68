-- The local calls that make threads and processes, and wait4.
-- Source: man-pages section 2 (clone, fork, wait4, getppid), in this project's profile.
use Rattle.file_model.specs.Errno.{EAGAIN, ECHILD, EFAULT, EINVAL, ENOMEM, ENOSYS}
use Rattle.file_model.specs.Files.{share}
use Rattle.isa_model.specs.Memory.{may_access, Memory}
use Rattle.kernel_model.specs.LocalCalls.{answers, refuses}
use Rattle.kernel_model.specs.Nodes.{Process, Thread, change_process, is_there, lowest_free_place, most_processes, most_threads, has_ended, process_of, set_does, set_reg, thread_of, threads_of, Node}
use Rattle.kernel_model.specs.SignalSets.{minus}
use Rattle.kernel_model.specs.Signals.{Store, View, on_node, store, try_store}
use Rattle.kernel_model.specs.declared.Does.TheVariants.{InWait, Ready}
use Rattle.kernel_model.specs.declared.Life.{Life}
use Rattle.kernel_model.specs.declared.Life.TheVariants.{Dying, Ended, Living}
use Rattle.mck_word.specs.Maps.{count, entries, put, some_row}
use Rattle.mck_word.specs.Words.{has_bit, little_endian}
use Rattle.mck_word.specs.declared.Access.TheVariants.{Write}
use Rattle.mck_word.specs.declared.End.{End}
use Rattle.mck_word.specs.declared.End.TheVariants.{Exit, Killed}
use Rattle.mck_word.specs.declared.Regs.{Regs}
use Rattle.std.specs.List.{list_all}
use Rattle.std.specs.Prelude.{Bool, List, None, Option, Some, [], cond, false, find, is_some, length, nat_le, nat_lt, negsuc, not, option_map, pos, suc, true, zero, ℕ, ℤ, ◌%◌, ◌&&◌, ◌*◌, ◌+◌, ◌==◌, ◌||◌, ◌∷◌}

-- ---- clone

abbrev pub needed_flags : List ℕ
needed_flags = 8 ∷ 9 ∷ 10 ∷ 11 ∷ 16 ∷ []

-- the bits of the flags that have to stand, and those that may: SYSVSEM, SETTLS, PARENT_SETTID, CHILD_CLEARTID, an ignored one, CHILD_SETTID
abbrev pub are_clone_flags : ℕ → Bool
are_clone_flags flags = list_all (λ b. has_bit b flags) needed_flags && minus flags 0x17d0f00 == 0

abbrev pub cloned_thread : Node → Thread → ℕ → ℕ → ℕ → ℕ → Thread
cloned_thread node x flags stack tls child_tid = record x {
  place = lowest_free_place node x.process;
  regs = set_reg 10 0 (cond (stack == 0) (cond (has_bit 19 flags) (set_reg 4 tls x.regs) x.regs)
      (set_reg 2 stack (cond (has_bit 19 flags) (set_reg 4 tls x.regs) x.regs)));
  pending = 0;
  clear_address = cond (has_bit 21 flags) child_tid 0;
  back = false;
  does = Ready;
}

abbrev pub with_thread : Thread → Node → Node
with_thread x node = record node { threads = put node.threads node.next_number x; next_number = node.next_number + 1 }

abbrev pub clones : ℕ → ℕ → ℕ → ℕ → ℕ → ℕ → View → View
clones t flags stack parent_tid tls child_tid v =
    let n = v.node.next_number in
    let made = on_node (with_thread (cloned_thread v.node (thread_of v.node t) flags stack tls child_tid)) v in
    let told = cond (has_bit 20 flags) (try_store parent_tid (little_endian 4 n) made) made in
    answers t (pos n) (cond (has_bit 24 flags) (try_store child_tid (little_endian 4 n) told) told)

abbrev pub clone : ℕ → ℕ → ℕ → ℕ → ℕ → ℕ → View → View
clone t flags stack parent_tid tls child_tid v =
    cond (not (are_clone_flags flags)) (refuses t EINVAL v)
    (cond (nat_le most_threads (length (threads_of v.node (thread_of v.node t).process))) (refuses t EAGAIN v)
    (clones t flags stack parent_tid tls child_tid v))

-- ---- fork

abbrev pub fork_signal : ℕ
fork_signal = 17

-- flags whose low eight bits are the signal 17, and whose other bits are among SETTLS, PARENT_SETTID, CHILD_CLEARTID and CHILD_SETTID
abbrev pub are_fork_flags : ℕ → Bool
are_fork_flags flags = flags % 256 == fork_signal && minus flags (0x1380000 + fork_signal) == 0

abbrev pub child_process : ℕ → Process → Process
child_process parent p = record p { parent = parent; waited = false; first_code = None; life = Living; instructions = 0; pending = 0 }

abbrev pub child_regs : ℕ → ℕ → ℕ → Regs → Regs
child_regs flags stack tls r =
    let s = cond (has_bit 19 flags) (set_reg 4 tls r) r in
    set_reg 10 0 (cond (stack == 0) s (set_reg 2 stack s))

abbrev pub child_thread : Thread → ℕ → ℕ → ℕ → ℕ → ℕ → Thread
child_thread x child flags stack tls child_tid = record x {
  process = child;
  place = 0;
  regs = child_regs flags stack tls x.regs;
  pending = 0;
  clear_address = cond (has_bit 21 flags) child_tid 0;
  back = false;
  does = Ready;
}

abbrev pub with_child : ℕ → ℕ → ℕ → ℕ → ℕ → ℕ → Node → Node
with_child t child flags stack tls child_tid node =
    let x = thread_of node t in
    record node {
      processes = put node.processes child (child_process x.process (process_of node x.process));
      threads = put node.threads child (child_thread x child flags stack tls child_tid);
      files = share x.process child node.files;
      next_number = node.next_number + 1;
    }

-- the child has its parent's memory; what is stored there besides
abbrev pub child_stores : ℕ → ℕ → ℕ → Memory → List Store
child_stores child flags child_tid m =
    cond (has_bit 24 flags && may_access m Write child_tid 4) (record { address = child_tid; bytes = little_endian 4 child } ∷ []) []

-- What a call that may make a process comes to: it is done; or a process begins, with a copy of the caller's memory after its stores, and stores of its own.
pub data Cloned : Type 0 where
  CallDone : View → Cloned
  Born : View → (child : ℕ) → (stores : List Store) → Cloned

abbrev pub forks : ℕ → ℕ → ℕ → ℕ → ℕ → ℕ → View → Cloned
forks t flags stack parent_tid tls child_tid v =
    let child = v.node.next_number in
    let told = cond (has_bit 20 flags) (try_store parent_tid (little_endian 4 child) v) v in
    Born (answers t (pos child) (on_node (with_child t child flags stack tls child_tid) told)) child (child_stores child flags child_tid v.memory)

abbrev pub fork : ℕ → ℕ → ℕ → ℕ → ℕ → ℕ → ℕ → View → Cloned
fork t free flags stack parent_tid tls child_tid v =
    cond (nat_le most_processes (count v.node.processes)) (CallDone (refuses t EAGAIN v))
    (cond (nat_lt free (count v.memory)) (CallDone (refuses t ENOMEM v))
    (forks t flags stack parent_tid tls child_tid v))

-- clone, with so many frames free
abbrev pub clone_or_fork : ℕ → ℕ → ℕ → ℕ → ℕ → ℕ → ℕ → View → Cloned
clone_or_fork t free flags stack parent_tid tls child_tid v =
    cond (are_fork_flags flags) (fork t free flags stack parent_tid tls child_tid v) (CallDone (clone t flags stack parent_tid tls child_tid v))

-- ---- wait4 and getppid

-- whether pid selects the child
abbrev pub selects : ℤ → ℕ → Bool
selects (pos zero) child = true
selects (pos (suc n)) child = suc n == child
selects (negsuc zero) child = true
selects (negsuc (suc n)) child = false

-- a child of the process whose end wasn't waited for
abbrev pub is_selected : ℕ → ℤ → ℕ → Process → Bool
is_selected p pid number x = x.parent == p && not x.waited && selects pid number

abbrev pub any_selected : Node → ℕ → ℤ → Bool
any_selected node p pid = some_row (is_selected p pid) node.processes

abbrev pub is_selected_end : ℕ → ℤ → ℕ → Process → Bool
is_selected_end p pid number x = is_selected p pid number x && has_ended x.life

-- the lowest selected child that is Ended
abbrev pub ended_child : Node → ℕ → ℤ → Option ℕ
ended_child node p pid = option_map (λ e. e.0) (find (λ e. is_selected_end p pid e.0 e.1) (entries node.processes))

abbrev pub end_status : End → ℕ
end_status (Exit code) = 256 * code
end_status (Killed signal) = signal

abbrev pub status_of_life : Life → ℕ
status_of_life Living = 0
status_of_life (Dying e) = end_status e
status_of_life (Ended e) = end_status e

abbrev pub noted_waited : ℕ → View → View
noted_waited child v = on_node (change_process child (λ (x : Process). record x { waited = true })) v

-- the end of a child is told, and is noted as waited for in every case
abbrev pub tells_end : ℕ → ℕ → ℕ → View → View
tells_end t child status v =
    let word = little_endian 4 (status_of_life (process_of v.node child).life) in
    cond (status == 0) (answers t (pos child) (noted_waited child v))
    (cond (may_access v.memory Write status 4) (store status word (answers t (pos child) (noted_waited child v)))
    (refuses t EFAULT (noted_waited child v)))

-- the lowest child that is Ended, or the refusal where no child is selected
abbrev pub waits_for : ℕ → ℤ → ℕ → View → Option ℕ → View
waits_for t pid status v None = refuses t ECHILD v
waits_for t pid status v (Some child) = tells_end t child status v

-- the thread waits no longer
abbrev pub wait_over : ℕ → ℤ → ℕ → View → View
wait_over t pid status v = waits_for t pid status v (ended_child v.node (thread_of v.node t).process pid)

abbrev pub may_end_wait : Node → ℕ → ℤ → Bool
may_end_wait node p pid = is_some (ended_child node p pid) || not (any_selected node p pid)

abbrev pub begins_wait : ℕ → ℤ → ℕ → ℕ → View → View
begins_wait t pid status options v = cond (has_bit 0 options) (answers t (pos 0) v) (on_node (set_does t (InWait pid status)) v)

abbrev pub wait4 : ℕ → ℤ → ℕ → ℕ → ℕ → View → View
wait4 t pid status options rusage v =
    let p = (thread_of v.node t).process in
    cond (not (minus options 11 == 0)) (refuses t EINVAL v)
    (cond (not (rusage == 0)) (refuses t ENOSYS v)
    (cond (may_end_wait v.node p pid) (wait_over t pid status v)
    (begins_wait t pid status options v)))

-- the parent's number, or 0 where it is Ended or there is none
abbrev pub parent_number : Node → ℕ → ℕ
parent_number node p = let q = (process_of node p).parent in cond (is_there node q) q 0
