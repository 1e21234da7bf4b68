-- A fork: what its trap comes to, where it is refused, and the process that begins.
use Rattle.file_model.specs.Errno.{EAGAIN, ENOMEM}
use Rattle.file_model.specs.Files.{Files}
use Rattle.hybrid_laws.proofs.memory.Copying.{frames_copied, put_all, put_all-entries, shown_copied}
use Rattle.hybrid_laws.proofs.memory.Effects.{own-apart}
use Rattle.hybrid_laws.specs.OneProcess.{FramesOf}
use Rattle.hybrid_laws.proofs.memory.NewSide.{no-at}
use Rattle.hybrid_laws.proofs.reap.Reap.{count-each, each-none}
use Rattle.hybrid_model.specs.Globals.{Rising}
use Rattle.hybrid_model.specs.OneProcess.{memory_here, ran_last, space_here, view_here, with_view}
use Rattle.hybrid_model.specs.Trap.{after_trap, child_space, trapped, with_child, with_stores}
use Rattle.hybrid_model.specs.Pairs.{Here, with_node}
use Rattle.hybrid_model.specs.Sides.{Row}
use Rattle.hybrid_model.specs.Spaces.{Space, copied_pages, shown_memory, shown_row, written_back}
use Rattle.hybrid_model.specs.Tallies.{Reads}
use Rattle.ikc_channel.specs.declared.Channel.{Channel}
use Rattle.isa_model.specs.Memory as memories
use Rattle.isa_model.specs.Memory.{may_access, write_bytes}
use Rattle.isa_model.specs.declared.stops.Stop.{Stop}
use Rattle.isa_model.specs.declared.stops.Stop.TheVariants.{Break, Ecall, Fault, Illegal, Misaligned, On}
use Rattle.kernel_model.specs.Calls.{clone_call}
use Rattle.kernel_model.specs.CloneCalls.{CallDone, child_stores, fork, forks}
use Rattle.kernel_model.specs.LocalCalls.{answers, refuses}
use Rattle.kernel_model.specs.Nodes.{most_processes, stop_in, thread_of}
use Rattle.kernel_model.specs.Signals.{Store, View, stored_all}
use Rattle.kernel_model.specs.Traps.{Forks, Trapped, arguments_of, call_named, called, cloned, past_ecall, trap, trap_of_stop}
use Rattle.lwk_calls.specs.Forks.{fork_refusal}
use Rattle.lwk_calls.specs.Words.{told}
use Rattle.kernel_tables.specs.Shown.{node_of}
use Rattle.kernel_tables.specs.declared.tables.KernelTables.{KernelTables}
use Rattle.lwk_side.specs.Cloning.{calls_fork, forks_at, is_fork}
use Rattle.lwk_side.specs.Forked.{born_side}
use Rattle.lwk_side.specs.Shown.{Rest, here_of}
use Rattle.lwk_side.specs.declared.kernel.Lwk.{Lwk}
use Rattle.lwk_side.specs.declared.task.Task.{Task}
use Rattle.lwk_space.specs.Frames.{frames_map, space}
use Rattle.lwk_space.specs.Lacks.{memory}
use Rattle.frame_pool.specs.Pools.{Pool}
use Rattle.mck_word.specs.MapLaws.{at-none}
use Rattle.mck_word.specs.Maps.{Map, at, count, entries, no_rows}
use Rattle.mck_word.specs.Words.{has_bit, little_endian, refused}
use Rattle.mck_word.specs.declared.Access.TheVariants.{Write}
use Rattle.mck_word.specs.declared.Regs.{Regs}
use Rattle.std.proofs.Common.{ap, arith, refl, sym, ◌∙◌, ◌≡◌}
use Rattle.std.proofs.lemmas.Bool.Decides.{nat_tests}
use Rattle.std.specs.Prelude.{Bool, List, None, Option, Some, [], cond, false, get_or, if◌then◌else◌, length, nat_le, nat_lt, true, ℕ, ℤ, ◌&&◌, ◌∷◌, ◌==◌, ◌≤◌}
use Rattle.system_calls.specs.declared.SystemCall.{SystemCall}
use Rattle.system_calls.specs.declared.SystemCall.TheVariants.{Clone, File, Local, Memory}

-- ---- the trap
module _ (t free : ℕ) (r : Regs) where
  abbrev a : ℕ → ℕ
  a k = get_or (arguments_of r) k 0

  by-call : (v : View) (o : Option SystemCall) → is_fork o (a 0) ≡ true → called t free r v o ≡ cloned (fork t free (a 0) (a 1) (a 2) (a 3) (a 4) v)
  unfolding clone_call
  by-call v None e = absurd (grind (arith, e))
  by-call v (Some Clone) e = rw e refl
  by-call v (Some (Local call)) e = absurd (grind (arith, e))
  by-call v (Some (Memory call)) e = absurd (grind (arith, e))
  by-call v (Some (File call)) e = absurd (grind (arith, e))

module _ (p t : ℕ) (h : Here) where
  abbrev regs : Regs
  regs = (thread_of h.node t).regs

  abbrev b : ℕ → ℕ
  b k = get_or (arguments_of regs) k 0

  by-stop : (o : Option Stop) → forks_at regs o ≡ true → trap_of_stop t (length h.free) (view_here h) o ≡ cloned (fork t (length h.free) (b 0) (b 1) (b 2) (b 3) (b 4) (past_ecall t (view_here h)))
  by-stop None e = absurd (grind (arith, e))
  by-stop (Some On) e = absurd (grind (arith, e))
  by-stop (Some Break) e = absurd (grind (arith, e))
  by-stop (Some Illegal) e = absurd (grind (arith, e))
  by-stop (Some Misaligned) e = absurd (grind (arith, e))
  by-stop (Some (Fault l)) e = absurd (grind (arith, e))
  by-stop (Some Ecall) e = by-call t (length h.free) regs (past_ecall t (view_here h)) (call_named regs) e

  pub fork-trap : calls_fork h.node t ≡ true → ran_last t (trapped p t (cloned (fork t (length h.free) (b 0) (b 1) (b 2) (b 3) (b 4) (past_ecall t (view_here h)))) h) ≡ after_trap p t h
  unfolding after_trap trap
  fork-trap e = ap (λ (x : Trapped). ran_last t (trapped p t x h)) (sym (by-stop (stop_in (thread_of h.node t).does) e))

-- ---- refused, or not
module _ (t free flags stack parent_tid tls child_tid : ℕ) (v : View) where
  pub fork-refused : (answer : ℤ) → fork_refusal (count v.node.processes) free (count v.memory) ≡ Some answer → fork t free flags stack parent_tid tls child_tid v ≡ CallDone (answers t answer v)
  fork-refused answer e = go (nat_le most_processes (count v.node.processes)) (nat_lt free (count v.memory)) e
    where
      go : (x y : Bool) → cond x (Some (refused EAGAIN)) (cond y (Some (refused ENOMEM)) None) ≡ Some answer
          → cond x (CallDone (refuses t EAGAIN v)) (cond y (CallDone (refuses t ENOMEM v)) (forks t flags stack parent_tid tls child_tid v)) ≡ CallDone (answers t answer v)
      go true y k = let s : refused EAGAIN ≡ answer = cc in ap (λ z. CallDone (answers t z v)) s
      go false true k = let s : refused ENOMEM ≡ answer = cc in ap (λ z. CallDone (answers t z v)) s
      go false false k = absurd (grind (arith, k))

  pub fork-goes : fork_refusal (count v.node.processes) free (count v.memory) ≡ None → fork t free flags stack parent_tid tls child_tid v ≡ forks t flags stack parent_tid tls child_tid v
  fork-goes e = go (nat_le most_processes (count v.node.processes)) (nat_lt free (count v.memory)) e
    where
      go : (x y : Bool) → cond x (Some (refused EAGAIN)) (cond y (Some (refused ENOMEM)) None) ≡ None
          → cond x (CallDone (refuses t EAGAIN v)) (cond y (CallDone (refuses t ENOMEM v)) (forks t flags stack parent_tid tls child_tid v)) ≡ forks t flags stack parent_tid tls child_tid v
      go true y k = absurd (grind (arith, k))
      go false true k = absurd (grind (arith, k))
      go false false k = refl

-- there are frames enough
pub enough-free : (processes free pages : ℕ) → fork_refusal processes free pages ≡ None → pages ≤ free
enough-free processes free pages e = go (nat_le most_processes processes) (nat_lt free pages) refl e
  where
    go : (x y : Bool) → nat_lt free pages ≡ y → cond x (Some (refused EAGAIN)) (cond y (Some (refused ENOMEM)) None) ≡ None → pages ≤ free
    go true y f k = absurd (grind (arith, k))
    go false true f k = absurd (grind (arith, k))
    go false false f k = grind (arith, nat_tests, f)

-- a memory has as many pages as its table
pub count-memory : (rows : Map Row) (pages : List (List ℕ)) → count (memory rows pages) ≡ count rows
count-memory rows pages = count-each (shown_row (frames_map pages)) rows

-- ---- the copy
abbrev nobody : ℕ → Reads Row
nobody q i = None

module _ (frames : Map (List ℕ)) (free : List ℕ) (rising : Rising free) where
  abbrev pub empty : Space
  empty = record { table = no_rows; frames = frames; free = free }

  empty-frames : FramesOf nobody 0 empty
  empty-frames = record {
    not_free = λ q i r e. absurd (none q i r (q == 0) e);
    apart = λ q i r j k s e f g. absurd (none q i r (q == 0) e);
    rising = rising;
  }
    where
      none : (q i : ℕ) (r : Row) (x : Bool) → (if x then at no_rows else nobody q) i ≡ Some r → ⊥
      none q i r true e = no-at i r e
      none q i r false e = grind (arith, e)

  pub copied-shown : (m : memories.Memory) → length (entries m) ≤ length free → shown_memory (copied_pages (entries m) empty).table (copied_pages (entries m) empty).frames ≡ m
  copied-shown m enough = shown_copied nobody 0 (entries m) empty enough empty-frames ∙ ap (put_all (entries m)) (each-none (shown_row frames) no_rows (λ i. at-none i)) ∙ put_all-entries m

  pub copied-apart : (m : memories.Memory) → length (entries m) ≤ length free → (i j : ℕ) (r s : Row) → at (copied_pages (entries m) empty).table i ≡ Some r → at (copied_pages (entries m) empty).table j ≡ Some s → r.0.0 ≡ s.0.0 → i ≡ j
  copied-apart m enough = own-apart nobody 0 (copied_pages (entries m) empty) (frames_copied nobody 0 (entries m) empty enough empty-frames)

-- ---- the child's own store
pub child-told : (child flags child_tid : ℕ) (m before after : memories.Memory) → may_access before Write child_tid 4 ≡ may_access m Write child_tid 4 → after ≡ told (has_bit 24 flags) child_tid child before → after ≡ stored_all (child_stores child flags child_tid m) before
child-told child flags child_tid m before after same e = e ∙ go (has_bit 24 flags) (may_access before Write child_tid 4) (may_access m Write child_tid 4) same
  where
    go : (x y z : Bool) → y ≡ z → cond x (cond y (write_bytes before child_tid (little_endian 4 child)) before) before ≡ stored_all (cond (x && z) (record { address = child_tid; bytes = little_endian 4 child } ∷ []) []) before
    go true true true k = refl
    go true false false k = refl
    go true true false k = absurd (grind (arith, k))
    go true false true k = absurd (grind (arith, k))
    go false y z k = refl

-- ---- the process that begins
module _ {T : Type 0} (lwk : Lwk) (rows : Map Row) (task : Task T) (c : Channel) (r : Rest) (p t : ℕ) (v : View) (child : ℕ) (stores : List Store) where
  abbrev now : Here
  now = here_of lwk rows task c r

  pub fork-here : (node : KernelTables) (files : Files) (table : Map Row) (pages middle left : List (List ℕ)) (pool : Pool) → node_of node files ≡ v.node
      → frames_map pages ≡ written_back rows (stored_all v.stores (memory rows lwk.frames)) (frames_map lwk.frames)
      → space table middle pool ≡ copied_pages (entries (memory rows pages)) (space no_rows pages lwk.pool)
      → frames_map left ≡ written_back table (stored_all stores (memory table middle)) (frames_map middle)
      → record (here_of (record lwk { node = node; frames = left; pool = pool }) rows task c (record r { files = files })) { born = Some (child, born_side lwk.rings table) } ≡ trapped p t (Forks v child stores) now
  fork-here node files table pages middle left pool is stored copied told =
      let made : space table left pool ≡ with_stores stores (child_space (memory_here (with_view v now)) (space_here (with_view v now))) =
      (λ i. record { table = table; frames = told i; free = pool.free })
      ∙ ap (with_stores stores) copied
      ∙ (λ i. with_stores stores (child_space (shown_memory rows (stored i)) (record { table = rows; frames = stored i; free = lwk.pool.free }))) in
      λ i. with_child child (made i) (with_node now (is i))
