-- rt_sigaction and rt_sigprocmask: refused, or made.
use Rattle.file_model.specs.Errno.{EFAULT, EINVAL}
use Rattle.isa_model.specs.Memory.{Memory, read_bytes}
use Rattle.kernel_model.specs.LocalCalls.{answers, refuses}
use Rattle.kernel_model.specs.Nodes.{Thread, action_of, change_thread, process_of, thread_of}
use Rattle.kernel_model.specs.SignalCalls.{action_bytes, action_in, can_read, can_write, is_signal, nat_of, new_mask, sets_action, sets_mask, sigaction, sigprocmask}
use Rattle.kernel_model.specs.Signals.{View, drop_ignored, on_node, with_action}
use Rattle.kernel_model.specs.declared.Action.{Action}
use Rattle.lwk_calls.specs.SignalWords.{action_refusal, asked_action, asked_set, given_action, given_mask, is_wrong_action, is_wrong_mask, lacks_access, mask_refusal, readable, stores_at, writable}
use Rattle.lwk_calls.specs.Words.{unless_refused}
use Rattle.mck_flags.specs.declared.signal_set.SigSet.{SigSet}
use Rattle.mck_word.specs.Words.{little_endian, number_of, refused}
use Rattle.std.proofs.Common.{arith, refl, sym, ◌∙◌}
use Rattle.std.proofs.lemmas.Bool.Decides.{nat_tests}
use Rattle.std.specs.Prelude.{Bool, None, Option, Some, cond, false, nat_le, negsuc, not, pos, true, ℕ, ℤ, ◌&&◌, ◌==◌, ◌||◌, ◌≡◌, ◌≤◌}

-- ---- refused or not

refused_twice : (t : ℕ) (a b : Bool) (word : View → View) (v : View)
    → cond a (refuses t EINVAL v) (cond b (refuses t EFAULT v) (word v)) ≡ unless_refused t (cond a (Some (refused EINVAL)) (cond b (Some (refused EFAULT)) None)) word v
refused_twice t true b word v = refl
refused_twice t false true word v = refl
refused_twice t false false word v = refl

pub action_is : (t : ℕ) (signal : ℤ) (act old size : ℕ) (v : View) → sigaction t signal act old size v ≡ unless_refused t (action_refusal v.memory signal act old size) (sets_action t (nat_of signal) act old) v
action_is t signal act old size v =
    refused_twice t (not (size == 8) || not (is_signal signal act)) (not (can_read v act 24) || not (can_write v old 24)) (sets_action t (nat_of signal) act old) v

pub mask_is : (t : ℕ) (how : ℤ) (address old size : ℕ) (v : View) → sigprocmask t how address old size v ≡ unless_refused t (mask_refusal v.memory how address old size) (sets_mask t how address old) v
mask_is t how address old size v =
    refused_twice t (is_wrong_mask how address size) (not (can_read v address 8) || not (can_write v old 8)) (sets_mask t how address old) v

none_left : (a : Bool) (z : ℤ) (o : Option ℤ) → cond a (Some z) o ≡ None → (a ≡ false) × (o ≡ None)
none_left true z o e = absurd (grind (arith, e))
none_left false z o e = (refl, e)

neither : (a b : Bool) → (not a || not b) ≡ false → (a ≡ true) × (b ≡ true)
neither true true e = (refl, refl)
neither true false e = absurd (grind (arith, e))
neither false b e = absurd (grind (arith, e))

all_of : (a b c : Bool) → (a && b && c) ≡ true → (a ≡ true) × (b ≡ true)
all_of true true c e = (refl, refl)
all_of true false c e = absurd (grind (arith, e))
all_of false b c e = absurd (grind (arith, e))

-- what is known of a call that isn't refused
pub record Pointed (m : Memory) (read write n : ℕ) : Type 0 where
  pub reads : readable m read n ≡ true
  pub writes : writable m write n ≡ true

pub action_pointed : (m : Memory) (signal : ℤ) (act old size : ℕ) → action_refusal m signal act old size ≡ None → Pointed m act old 24
action_pointed m signal act old size e =
    let first = none_left (is_wrong_action signal act size) (refused EINVAL) _ e in
    let both = neither (readable m act 24) (writable m old 24) (none_left (lacks_access m act old 24) (refused EFAULT) None first.1).0 in
    record { reads = both.0; writes = both.1 }

pub mask_pointed : (m : Memory) (how : ℤ) (address old size : ℕ) → mask_refusal m how address old size ≡ None → Pointed m address old 8
mask_pointed m how address old size e =
    let first = none_left (is_wrong_mask how address size) (refused EINVAL) _ e in
    let both = neither (readable m address 8) (writable m old 8) (none_left (lacks_access m address old 8) (refused EFAULT) None first.1).0 in
    record { reads = both.0; writes = both.1 }

signal_small : (signal : ℤ) (act : ℕ) → is_signal signal act ≡ true → (1 ≤ nat_of signal) × (nat_of signal ≤ 64)
signal_small (pos n) act e =
    let h = all_of (nat_le 1 n) (nat_le n 64) _ e in
    (grind (arith, nat_tests, h.0), grind (arith, nat_tests, h.1))
signal_small (negsuc n) act e = absurd (grind (arith, e))

pub signal_known : (m : Memory) (signal : ℤ) (act old size : ℕ) → action_refusal m signal act old size ≡ None → (1 ≤ nat_of signal) × (nat_of signal ≤ 64)
signal_known m signal act old size e =
    let first = none_left (is_wrong_action signal act size) (refused EINVAL) _ e in
    signal_small signal act (neither (size == 8) (is_signal signal act) first.0).1

-- ---- made

pub sets_action_as : (t signal act old p : ℕ) (o : Option Action) (a : Action) (v : View)
    → p ≡ (thread_of v.node t).process → o ≡ asked_action v.memory act → a ≡ action_of (process_of v.node (thread_of v.node t).process) signal
    → sets_action t signal act old v ≡ answers t (pos 0) (on_node (given_action p signal o) (stores_at old (action_bytes a) v))
sets_action_as t signal act old p o a v process asked before =
    go (act == 0) ∙ (λ i. answers t (pos 0) (on_node (given_action (sym process i) signal (sym asked i)) (stores_at old (action_bytes (sym before i)) v)))
  where
    own : ℕ
    own = (thread_of v.node t).process

    stored : View
    stored = stores_at old (action_bytes (action_of (process_of v.node own) signal)) v

    new : Action
    new = action_in (read_bytes v.memory act 24)

    go : (b : Bool) → answers t (pos 0) (cond b stored (on_node (λ node. drop_ignored own signal (with_action own signal new node)) stored)) ≡ answers t (pos 0) (on_node (given_action own signal (cond b None (Some new))) stored)
    go true = refl
    go false = refl

pub sets_mask_as : (t : ℕ) (how : ℤ) (address old m : ℕ) (o : Option SigSet) (v : View)
    → o ≡ asked_set v.memory address → m ≡ (thread_of v.node t).mask
    → sets_mask t how address old v ≡ answers t (pos 0) (on_node (given_mask t how o) (stores_at old (little_endian 8 m) v))
sets_mask_as t how address old m o v asked before =
    go (address == 0) ∙ (λ i. answers t (pos 0) (on_node (given_mask t how (sym asked i)) (stores_at old (little_endian 8 (sym before i)) v)))
  where
    stored : View
    stored = stores_at old (little_endian 8 (thread_of v.node t).mask) v

    new : ℕ
    new = number_of (read_bytes v.memory address 8)

    go : (b : Bool) → answers t (pos 0) (cond b stored (on_node (change_thread t (λ (x : Thread). record x { mask = new_mask how new x.mask })) stored)) ≡ answers t (pos 0) (on_node (given_mask t how (cond b None (Some (record { 0 = new })))) stored)
    go true = refl
    go false = refl
