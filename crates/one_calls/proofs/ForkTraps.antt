-- A fork: what its trap comes to, where it is refused, and the process that begins.
use Rattle.file_model.specs.Errno.{EAGAIN, ENOMEM}
use Rattle.file_model.specs.Files.{share}
use Rattle.isa_model.specs.Memory.{Memory, may_access, put_byte, write_bytes}
use Rattle.isa_model.specs.declared.stops.Stop.{Stop}
use Rattle.isa_model.specs.declared.stops.Stop.TheVariants.{Break, Ecall, Fault, Illegal, Misaligned, On}
use Rattle.kernel_model.specs.Calls.{clone_call}
use Rattle.kernel_model.specs.CloneCalls.{CallDone, child_stores, fork, forks}
use Rattle.kernel_model.specs.LocalCalls.{answers, refuses}
use Rattle.kernel_model.specs.Nodes.{most_processes, stop_in, thread_of}
use Rattle.kernel_model.specs.OneKernel.{OneHere}
use Rattle.kernel_model.specs.Signals.{Store, View, stored_all}
use Rattle.kernel_model.specs.Steps.{one_trap, one_trapped, one_view}
use Rattle.kernel_model.specs.Traps.{Forks, Trapped, arguments_of, call_named, called, cloned, past_ecall, trap, trap_of_stop}
use Rattle.kernel_tables.specs.Shown.{node_of}
use Rattle.kernel_tables.specs.declared.tables.KernelTables.{KernelTables}
use Rattle.mck_word.specs.Maps.{Map, at, change, change_row, count, no_rows}
use Rattle.mck_word.specs.Words.{has_bit, little_endian, refused}
use Rattle.mck_word.specs.declared.Access.TheVariants.{Write}
use Rattle.mck_word.specs.declared.Pid.{Pid}
use Rattle.mck_word.specs.declared.Regs.{Regs}
use Rattle.one_calls.specs.Here.{Rest, here, here_with}
use Rattle.one_calls.specs.LocalTraps.{calls_fork, forks_at, is_fork}
use Rattle.one_calls.specs.Words.{fork_refusal, told}
use Rattle.std.proofs.Common.{ap, arith, refl, sym, ◌∙◌}
use Rattle.std.specs.Cmp.{nat_cmp_total}
use Rattle.std.specs.FinMap as finmap
use Rattle.std.specs.Prelude.{Bool, List, None, Option, Some, [], cond, false, get_or, is_some, nat_le, nat_lt, true, ℕ, ℤ, ◌&&◌, ◌+◌, ◌-◌, ◌∷◌, ◌≡◌}
use Rattle.system_calls.specs.declared.SystemCall.{SystemCall}
use Rattle.system_calls.specs.declared.SystemCall.TheVariants.{Clone, File, Local, Memory as MemoryCall}

-- ---- the trap
module _ (t free : ℕ) (r : Regs) where
  abbrev a : ℕ → ℕ
  a k = get_or (arguments_of r) k 0

  by-name : (v : View) (o : Option SystemCall) → is_fork o (a 0) ≡ true → called t free r v o ≡ cloned (fork t free (a 0) (a 1) (a 2) (a 3) (a 4) v)
  unfolding clone_call
  by-name v None e = absurd (grind (arith, e))
  by-name v (Some (Local call)) e = absurd (grind (arith, e))
  by-name v (Some (MemoryCall call)) e = absurd (grind (arith, e))
  by-name v (Some (File call)) e = absurd (grind (arith, e))
  by-name v (Some Clone) e = rw e refl

module _ (p t : ℕ) (h : OneHere) where
  abbrev regs : Regs
  regs = (thread_of h.node t).regs

  abbrev b : ℕ → ℕ
  b k = get_or (arguments_of regs) k 0

  by-stop : (o : Option Stop) → forks_at regs o ≡ true → trap_of_stop t h.free (one_view h) o ≡ cloned (fork t h.free (b 0) (b 1) (b 2) (b 3) (b 4) (past_ecall t (one_view h)))
  by-stop None e = absurd (grind (arith, e))
  by-stop (Some On) e = absurd (grind (arith, e))
  by-stop (Some Break) e = absurd (grind (arith, e))
  by-stop (Some Illegal) e = absurd (grind (arith, e))
  by-stop (Some Misaligned) e = absurd (grind (arith, e))
  by-stop (Some (Fault l)) e = absurd (grind (arith, e))
  by-stop (Some Ecall) e = by-name t h.free regs (past_ecall t (one_view h)) (call_named regs) e

  pub fork-trap : calls_fork h.node t ≡ true → one_trapped p t (cloned (fork t h.free (b 0) (b 1) (b 2) (b 3) (b 4) (past_ecall t (one_view h)))) h ≡ one_trap p t h
  unfolding one_trap trap
  fork-trap e = ap (λ (x : Trapped). one_trapped p t x h) (sym (by-stop (stop_in (thread_of h.node t).does) e))

-- ---- refused, or not
module _ (t free flags stack parent_tid tls child_tid : ℕ) (v : View) where
  pub fork-refused : (answer : ℤ) → fork_refusal (count v.node.processes) free (count v.memory) ≡ Some answer → fork t free flags stack parent_tid tls child_tid v ≡ CallDone (answers t answer v)
  fork-refused answer e = go (nat_le most_processes (count v.node.processes)) (nat_lt free (count v.memory)) e
    where
      go : (x y : Bool) → cond x (Some (refused EAGAIN)) (cond y (Some (refused ENOMEM)) None) ≡ Some answer
          → cond x (CallDone (refuses t EAGAIN v)) (cond y (CallDone (refuses t ENOMEM v)) (forks t flags stack parent_tid tls child_tid v)) ≡ CallDone (answers t answer v)
      go true y k = let s : refused EAGAIN ≡ answer = cc in ap (λ z. CallDone (answers t z v)) s
      go false true k = let s : refused ENOMEM ≡ answer = cc in ap (λ z. CallDone (answers t z v)) s
      go false false k = absurd (grind (arith, k))

  pub fork-goes : fork_refusal (count v.node.processes) free (count v.memory) ≡ None → fork t free flags stack parent_tid tls child_tid v ≡ forks t flags stack parent_tid tls child_tid v
  fork-goes e = go (nat_le most_processes (count v.node.processes)) (nat_lt free (count v.memory)) e
    where
      go : (x y : Bool) → cond x (Some (refused EAGAIN)) (cond y (Some (refused ENOMEM)) None) ≡ None
          → cond x (CallDone (refuses t EAGAIN v)) (cond y (CallDone (refuses t ENOMEM v)) (forks t flags stack parent_tid tls child_tid v)) ≡ forks t flags stack parent_tid tls child_tid v
      go true y k = absurd (grind (arith, k))
      go false true k = absurd (grind (arith, k))
      go false false k = refl

-- ---- the copy: stores leave as many pages
changed-count : {V : Type 0} (m : Map V) (k : ℕ) (f : V → V) → count (change m k f) ≡ count m
changed-count {V} m k f = go (at m k) refl
  where
    go : (o : Option V) → at m k ≡ o → count (change_row m k f o) ≡ count m
    go None is = refl
    go (Some v) is = finmap.len-insert nat_cmp_total m k (f v) ∙ ap (λ o. cond (is_some o) (count m) (count m + 1)) is

written-count : (bs : List ℕ) (m : Memory) (address : ℕ) → count (write_bytes m address bs) ≡ count m
unfolding write_bytes
written-count [] m address = refl
written-count (b ∷ bs) m address = written-count bs (put_byte m address b) (address + 1) ∙ changed-count m _ _

pub stored-count : (ss : List Store) (m : Memory) → count (stored_all ss m) ≡ count m
stored-count [] m = refl
stored-count (s ∷ ss) m = stored-count ss (write_bytes m s.address s.bytes) ∙ written-count s.bytes m s.address

-- ---- the child's own store
pub child-told : (child flags child_tid : ℕ) (m before after : Memory) → may_access before Write child_tid 4 ≡ may_access m Write child_tid 4 → after ≡ told (has_bit 24 flags) child_tid child before → after ≡ stored_all (child_stores child flags child_tid m) before
child-told child flags child_tid m before after same e = e ∙ go (has_bit 24 flags) (may_access before Write child_tid 4) (may_access m Write child_tid 4) same
  where
    go : (x y z : Bool) → y ≡ z → cond x (cond y (write_bytes before child_tid (little_endian 4 child)) before) before ≡ stored_all (cond (x && z) (record { address = child_tid; bytes = little_endian 4 child } ∷ []) []) before
    go true true true k = refl
    go true false false k = refl
    go true true false k = absurd (grind (arith, k))
    go true false true k = absurd (grind (arith, k))
    go false y z k = refl

-- ---- the process that begins
pub fork-here : (before after : KernelTables) (m left child : Memory) (r : Rest) (p t : ℕ) (q : Pid) (v : View) (stores : List Store) → node_of after (share p q.0 r.files) ≡ v.node → left ≡ stored_all v.stores m → child ≡ stored_all stores left
    → here_with after left child (count m) p (Some q) r ≡ one_trapped p t (Forks v q.0 stores) (here before m r)
fork-here before after m left child r p t q v stores node memory born = λ i. record {
  own = record { memory = memory i; calls = r.calls };
  node = node i;
  free = r.free - count m;
  born = Some (q.0, record { memory = (born ∙ ap (stored_all stores) memory) i; calls = no_rows });
}
