-- The local calls on signals.
-- Source: man-pages section 2 (kill, tgkill, sigaction, sigprocmask, sigpending).
-- ---- kill and tgkill
use Rattle.file_model.specs.Errno.{EFAULT, EINVAL, ESRCH}
use Rattle.isa_model.specs.Memory.{may_access, read_bytes}
use Rattle.kernel_model.specs.LocalCalls.{answers, refuses}
use Rattle.kernel_model.specs.Nodes.{Thread, action_of, change_thread, has_thread, is_there, process_of, thread_of, Node}
use Rattle.kernel_model.specs.SignalSets.{as_mask, common, may_be_sent, minus, union}
use Rattle.kernel_model.specs.Signals.{View, drop_ignored, generate_for_process, generate_for_thread, on_node, store, with_action}
use Rattle.kernel_model.specs.declared.Action.{Action}
use Rattle.mck_word.specs.Words.{little_endian, number_of}
use Rattle.mck_word.specs.declared.Access.TheVariants.{Read, Write}
use Rattle.std.specs.Prelude.{Bool, List, None, Option, Some, cond, drop, false, nat_le, nat_lt, negsuc, not, pos, set, suc, take, zero, ℕ, ℤ, ◌&&◌, ◌++◌, ◌==◌, ◌||◌}

abbrev pub positive : ℤ → Option ℕ
positive (pos zero) = None
positive (pos (suc n)) = Some (suc n)
positive (negsuc n) = None

-- 0, or a signal that may be sent
abbrev pub checked_signal : ℤ → Option ℕ
checked_signal (pos n) = cond (n == 0 || may_be_sent n) (Some n) None
checked_signal (negsuc n) = None

abbrev pub send : ℕ → (ℕ → Node → Node) → Node → Node
send signal generate node = cond (signal == 0) node (generate signal node)

abbrev pub kills : ℕ → ℕ → ℕ → View → View
kills t p signal v = cond (not (is_there v.node p)) (refuses t ESRCH v)
    (answers t (pos 0) (on_node (send signal (generate_for_process p)) v))

abbrev pub kill : ℕ → ℤ → ℤ → View → View
kill t pid signal v = elim (positive pid) [
  | None ↦ refuses t EINVAL v
  | Some p ↦ elim (checked_signal signal) [ None ↦ refuses t EINVAL v | Some s ↦ kills t p s v ]
]

abbrev pub has_thread_in : Node → ℕ → ℕ → Bool
has_thread_in node p tid = has_thread node tid && (thread_of node tid).process == p

abbrev pub kills_thread : ℕ → ℕ → ℕ → ℕ → View → View
kills_thread t p tid signal v = cond (not (is_there v.node p) || not (has_thread_in v.node p tid)) (refuses t ESRCH v)
    (answers t (pos 0) (on_node (send signal (generate_for_thread tid)) v))

abbrev pub tgkill : ℕ → ℤ → ℤ → ℤ → View → View
tgkill t pid tid signal v = elim (positive pid) [
  | None ↦ refuses t EINVAL v
  | Some p ↦ elim (positive tid) [
    | None ↦ refuses t EINVAL v
    | Some x ↦ elim (checked_signal signal) [ None ↦ refuses t EINVAL v | Some s ↦ kills_thread t p x s v ]
  ]
]

-- ---- the signal calls

abbrev pub action_bytes : Action → List ℕ
action_bytes a = little_endian 8 a.handler ++ little_endian 8 a.flags ++ little_endian 8 a.mask.0

abbrev pub action_in : List ℕ → Action
action_in bytes = record { handler = number_of (take 8 bytes); flags = number_of (take 8 (drop 8 bytes)); mask = record { 0 = as_mask (number_of (drop 16 bytes)) } }

abbrev pub sets_action : ℕ → ℕ → ℕ → ℕ → View → View
sets_action t signal act old v =
    let p = (thread_of v.node t).process in
    let before = action_of (process_of v.node p) signal in
    let new = action_in (read_bytes v.memory act 24) in
    let stored = cond (old == 0) v (store old (action_bytes before) v) in
    answers t (pos 0) (cond (act == 0) stored (on_node (λ node. drop_ignored p signal (with_action p signal new node)) stored))

-- a pointer that is 0 is not asked for
abbrev pub can_read : View → ℕ → ℕ → Bool
can_read v address n = address == 0 || may_access v.memory Read address n

abbrev pub can_write : View → ℕ → ℕ → Bool
can_write v address n = address == 0 || may_access v.memory Write address n

abbrev pub is_signal : ℤ → ℕ → Bool
is_signal (pos n) act = nat_le 1 n && nat_le n 64 && not (not (act == 0) && (n == 9 || n == 19))
is_signal (negsuc n) act = false

abbrev pub nat_of : ℤ → ℕ
nat_of (pos n) = n
nat_of (negsuc n) = 0

abbrev pub sigaction : ℕ → ℤ → ℕ → ℕ → ℕ → View → View
sigaction t signal act old size v =
    cond (not (size == 8) || not (is_signal signal act)) (refuses t EINVAL v)
    (cond (not (can_read v act 24) || not (can_write v old 24)) (refuses t EFAULT v)
    (sets_action t (nat_of signal) act old v))

abbrev pub new_mask : ℤ → ℕ → ℕ → ℕ
new_mask how set mask = as_mask (elim how [
  | negsuc n ↦ mask
  | pos n ↦ cond (n == 0) (union mask set) (cond (n == 1) (minus mask set) set)
])

abbrev pub is_how : ℤ → Bool
is_how (pos n) = nat_le n 2
is_how (negsuc n) = false

abbrev pub sets_mask : ℕ → ℤ → ℕ → ℕ → View → View
sets_mask t how address old v =
    let x = thread_of v.node t in
    let new = number_of (read_bytes v.memory address 8) in
    let stored = cond (old == 0) v (store old (little_endian 8 x.mask) v) in
    answers t (pos 0) (cond (address == 0) stored (on_node (change_thread t (λ (y : Thread). record y { mask = new_mask how new y.mask })) stored))

abbrev pub sigprocmask : ℕ → ℤ → ℕ → ℕ → ℕ → View → View
sigprocmask t how address old size v =
    cond (not (size == 8) || (not (address == 0) && not (is_how how))) (refuses t EINVAL v)
    (cond (not (can_read v address 8) || not (can_write v old 8)) (refuses t EFAULT v)
    (sets_mask t how address old v))

abbrev pub pending_and_masked : Node → ℕ → ℕ
pending_and_masked node t = let x = thread_of node t in common (union x.pending (process_of node x.process).pending) x.mask

abbrev pub sigpending : ℕ → ℕ → ℕ → View → View
sigpending t address size v =
    cond (nat_lt 8 size) (refuses t EINVAL v)
    (cond (not (may_access v.memory Write address size)) (refuses t EFAULT v)
    (answers t (pos 0) (store address (little_endian size (pending_and_masked v.node t)) v)))
