-- A call that wakes sleepers.
use Rattle.file_model.specs.Errno.{ENOSYS}
use Rattle.kernel_model.specs.LocalCalls.{futex, futex_operation, futex_wait, futex_wake, refuses, waiters, wake, wake_count}
use Rattle.kernel_model.specs.Nodes.{Node, answered, thread_of}
use Rattle.kernel_model.specs.Signals.{View}
use Rattle.mck_word.specs.Words.{int_argument}
use Rattle.std.proofs.Common.{ap, ◌∙◌}
use Rattle.std.proofs.lemmas.Bool.{ne_eqb}
use Rattle.std.specs.Prelude.{cond, length, min, pos, ℕ, ℤ, ◌==◌, ◌≡◌, ◌≢◌}

-- the first of those that sleep at the address of the thread's process wake, and it answers their number
abbrev pub wakes : ℕ → ℕ → ℤ → Node → Node
wakes t address val k =
    let p = (thread_of k t).process in
    answered t (pos (min (wake_count val) (length (waiters k p address)))) (wake p address (wake_count val) k)

pub wakes_is : (t address p count n : ℕ) (val z : ℤ) (k woke after : Node) → after ≡ answered t z woke → z ≡ pos n → n ≡ min count (length (waiters k p address)) → woke ≡ wake p address count k
    → p ≡ (thread_of k t).process → count ≡ wake_count val → after ≡ wakes t address val k
wakes_is t address p count n val z k woke after is number those woken process asked =
    is
    ∙ ((λ i. answered t ((number ∙ ap pos those) i) (woken i))
    ∙ (λ i. answered t (pos (min (asked i) (length (waiters k (process i) address)))) (wake (process i) address (asked i) k)))

pub futex_wakes : (t address op val timeout : ℕ) (v : View) → futex_operation op ≡ 1 → futex t address op val timeout v ≡ futex_wake t address (int_argument val) v
futex_wakes t address op val timeout v e = ap (λ o. cond (o == 0) (futex_wait t address val timeout v) (cond (o == 1) (futex_wake t address (int_argument val) v) (refuses t ENOSYS v))) e

pub futex_unknown : (t address op val timeout : ℕ) (v : View) → futex_operation op ≢ 0 → futex_operation op ≢ 1 → futex t address op val timeout v ≡ refuses t ENOSYS v
futex_unknown t address op val timeout v waits wakes =
    let a = ne_eqb (futex_operation op) 0 waits in
    let b = ne_eqb (futex_operation op) 1 wakes in
    λ i. cond (a i) (futex_wait t address val timeout v) (cond (b i) (futex_wake t address (int_argument val) v) (refuses t ENOSYS v))
