-- The room for the change that a thread makes next, in the row of its process.
use Rattle.file_model.specs.Files.{Files}
use Rattle.isa_model.specs.Memory.{Memory}
use Rattle.isa_model.specs.declared.stops.Stop.TheVariants.{Break, Ecall, Fault, Illegal, Misaligned, On}
use Rattle.kernel_model.specs.MemoryCalls.{decide, refusal_at_end}
use Rattle.kernel_model.specs.Nodes.{Process, change_in, has_thread, process_of, stop_in, thread_of}
use Rattle.kernel_model.specs.OneKernel.{OneHere, OneKernel}
use Rattle.kernel_model.specs.Pages.{pages_count}
use Rattle.kernel_model.specs.Steps.{of_thread, one_changed, one_trap, one_trapped, one_view, vm_finish, vm_finish_of}
use Rattle.kernel_model.specs.Traps.{arguments_of, call_named, called, past_ecall, trap, trap_of_stop}
use Rattle.kernel_model.specs.declared.Change.{Change}
use Rattle.kernel_model.specs.declared.Does.TheVariants as does
use Rattle.kernel_model.specs.declared.Does.TheVariants.{InVm, Stopped}
use Rattle.kernel_model.specs.declared.Does.{Does}
use Rattle.kernel_tables.specs.Shown.{node_of}
use Rattle.mck_word.specs.EachLaws.{at-each, each-put}
use Rattle.mck_word.specs.MapLaws.{at-put}
use Rattle.mck_word.specs.Maps.{at, each, put}
use Rattle.mck_word.specs.declared.Regs.{Regs}
use Rattle.one_calls.specs.Here.{Rest}
use Rattle.one_files.specs.Seen.{seen}
use Rattle.one_kernel.proofs.After.{put-same, row-there}
use Rattle.one_kernel.proofs.Facts.{thread-own}
use Rattle.one_kernel.specs.Due.{HasChangeRoom, HasRoomFor, at_once, changed_at_once, due, due_by, unless_refused}
use Rattle.one_kernel.specs.Parts.{one_of, shown_call, shown_own}
use Rattle.node_machine.specs.Reached.{IsShown}
use Rattle.one_kernel.specs.Trapping.{calls_memory, changes_at}
use Rattle.one_kernel.specs.declared.parts.One.{One}
use Rattle.one_kernel.specs.declared.parts.Own.{Own}
use Rattle.one_memory.specs.Changing.{added_by}
use Rattle.std.proofs.Common.{ap, refl, subst, sym, ◌∙◌}
use Rattle.std.proofs.lemmas.Bool.{eq-eqb}
use Rattle.std.specs.Prelude.{Err, IsSome, None, Ok, OnOk, Option, Result, Some, cond, is_some, option_map, true, ℕ, ◌≡◌, ◌≤◌}
use Rattle.system_calls.specs.declared.MemoryCall.{MemoryCall}
use Rattle.system_calls.specs.declared.SystemCall.{SystemCall}
use Rattle.system_calls.specs.declared.SystemCall.TheVariants as calls

-- what a change isn't handed
abbrev pub rest_of : One → Own → Rest
rest_of x w = record { files = seen x.files; calls = each shown_call w.calls.map; free = x.free }

-- the process of a thread has a row
pub own-there : (x : One) (p t : ℕ) → IsShown (one_of x) → (thread_of (one_of x).node t).process ≡ p → has_thread (one_of x).node t ≡ true → IsSome (at x.own.map p)
own-there x p t shown process has = row-there x p (ap (λ q. is_some (at (one_of x).own q)) (sym process) ∙ thread-own (one_of x) shown t has)

module _ (x : One) (t p : ℕ) (w : Own) (process : (thread_of (one_of x).node t).process ≡ p) (there : at x.own.map p ≡ Some w) (room : HasChangeRoom x t) where
  room-there : HasRoomFor w.memory.spare (process_of (one_of x).node p).program_break (due (one_of x).node t w.memory.map x.free)
  room-there = subst (λ (q : ℕ). HasRoomFor w.memory.spare (process_of (one_of x).node q).program_break (due (one_of x).node t w.memory.map x.free)) process (room w (ap (at x.own.map) process ∙ there))

  -- whatever the files are
  pub room-in : (files : Files) → HasRoomFor w.memory.spare (process_of (node_of x.node files) p).program_break (due (node_of x.node files) t w.memory.map x.free)
  unfolding one_of node_of
  room-in files = room-there

  room-waited : (c : Change) → (thread_of (one_of x).node t).does ≡ InVm c
      → HasRoomFor w.memory.spare (process_of (one_of x).node p).program_break (unless_refused c (refusal_at_end (process_of (one_of x).node p) w.memory.map x.free c))
  room-waited c stands =
      subst (λ (q : ℕ). HasRoomFor w.memory.spare (process_of (one_of x).node p).program_break (unless_refused c (refusal_at_end (process_of (one_of x).node q) w.memory.map x.free c))) process
      (subst (λ (d : Does). HasRoomFor w.memory.spare (process_of (one_of x).node p).program_break (due_by d (thread_of (one_of x).node t).regs (process_of (one_of x).node (of_thread (one_of x).node t)) w.memory.map x.free)) stands room-there)

  pub room-at-end : (c : Change) → (thread_of (one_of x).node t).does ≡ InVm c
      → (files : Files) → HasRoomFor w.memory.spare (process_of (node_of x.node files) p).program_break (unless_refused c (refusal_at_end (process_of (node_of x.node files) p) w.memory.map x.free c))
  unfolding one_of node_of
  room-at-end c stands files = room-waited c stands

-- ---- a trap at a memory call

pub stands-at : (d : Does) (r : Regs) → changes_at r (stop_in d) ≡ true → d ≡ Stopped Ecall
stands-at (Stopped Ecall) r e = refl
stands-at (Stopped On) r e = absurd (cc)
stands-at (Stopped Break) r e = absurd (cc)
stands-at (Stopped Illegal) r e = absurd (cc)
stands-at (Stopped Misaligned) r e = absurd (cc)
stands-at (Stopped (Fault l)) r e = absurd (cc)
stands-at does.Ready r e = absurd (cc)
stands-at does.Called r e = absurd (cc)
stands-at (does.Asleep a) r e = absurd (cc)
stands-at (does.InWait pid status) r e = absurd (cc)
stands-at (InVm c) r e = absurd (cc)

-- it is one whatever the files are
pub calls-in : (x : One) (t : ℕ) → calls_memory (one_of x).node t ≡ true → (files : Files) → calls_memory (node_of x.node files) t ≡ true
unfolding one_of node_of
calls-in x t e files = e

-- the process of a thread, its break, and what it changes next, whatever the files are
pub own-in : (x : One) (t p : ℕ) → (thread_of (one_of x).node t).process ≡ p → (files : Files) → (thread_of (node_of x.node files) t).process ≡ p
unfolding one_of node_of
own-in x t p e files = e

pub break-is : (x : One) (p brk : ℕ) → ((files : Files) → brk ≡ (process_of (node_of x.node files) p).program_break) → brk ≡ (process_of (one_of x).node p).program_break
unfolding one_of
break-is x p brk e = e (seen x.files)

pub due-is : (x : One) (t : ℕ) (m : Memory) (o : Option Change) → ((files : Files) → o ≡ due (node_of x.node files) t m x.free) → o ≡ due (one_of x).node t m x.free
unfolding one_of
due-is x t m o e = e (seen x.files)

-- the change for which a thread waits
pub waits-for : (x : One) (t : ℕ) (d : Does) (c : Change) → ((files : Files) → d ≡ (thread_of (node_of x.node files) t).does) → d ≡ InVm c → (thread_of (one_of x).node t).does ≡ InVm c
unfolding one_of
waits-for x t d c e is = sym (e (seen x.files)) ∙ is

pub waits-not : (x : One) (t : ℕ) (d : Does) → ((files : Files) → d ≡ (thread_of (node_of x.node files) t).does) → ((c : Change) → d ≡ InVm c → ⊥) → is_some (change_in (thread_of (one_of x).node t).does) ≡ true → ⊥
unfolding one_of
waits-not x t d e none has = go d refl (ap (λ (k : Does). is_some (change_in k)) (e (seen x.files)) ∙ has)
  where
    go : (k : Does) → d ≡ k → is_some (change_in k) ≡ true → ⊥
    go (InVm c) is f = none c is
    go (Stopped s) is f = cc
    go does.Ready is f = cc
    go does.Called is f = cc
    go (does.Asleep a) is f = cc
    go (does.InWait pid status) is f = cc

-- what a memory call changes at once is due
pub due-at : (d : Does) (r : Regs) (call : MemoryCall) (p : Process) (m : Memory) (free : ℕ) → d ≡ Stopped Ecall → Some (calls.Memory call) ≡ call_named r
    → due_by d r p m free ≡ at_once (decide p m free call (arguments_of r))
due-at d r call p m free stands named = ap (λ (k : Does). due_by k r p m free) stands ∙ ap (λ (o : Option SystemCall). changed_at_once o (arguments_of r) p m free) (sym named)

module _ (p t : ℕ) (h : OneHere) where
  -- the trap is what the memory call comes to
  pub trap-is : (r : Regs) (call : MemoryCall) → r ≡ (thread_of h.node t).regs → (thread_of h.node t).does ≡ Stopped Ecall → Some (calls.Memory call) ≡ call_named r
      → one_trapped p t (called t h.free r (past_ecall t (one_view h)) (Some (calls.Memory call))) h ≡ one_trap p t h
  unfolding one_trap trap
  trap-is r call same stands named =
      ap (λ (o : Option SystemCall). one_trapped p t (called t h.free r (past_ecall t (one_view h)) o) h) named
      ∙ ap (λ (q : Regs). one_trapped p t (called t h.free q (past_ecall t (one_view h)) (call_named q)) h) same
      ∙ ap (λ (d : Does). one_trapped p t (trap_of_stop t h.free (one_view h) (stop_in d)) h) (sym stands)

  -- and the end is that of the change
  pub end-is : (c : Change) → (thread_of h.node t).does ≡ InVm c → one_changed p t c (refusal_at_end (process_of h.node p) h.own.memory h.free c) h ≡ vm_finish p t h
  unfolding vm_finish
  end-is c stands = ap (λ (d : Does). vm_finish_of p t (change_in d) h) (sym stands)

-- ---- room that was made

-- a row with more room shows the same
pub same-state : (x y : One) (p : ℕ) (w o : Own) → at x.own.map p ≡ Some w → y.own.map ≡ put x.own.map p o → shown_own o ≡ shown_own w → y.node ≡ x.node → y.files ≡ x.files → y.free ≡ x.free → one_of y ≡ one_of x
unfolding one_of
same-state x y p w o there puts same node files free =
    let own : each shown_own y.own.map ≡ each shown_own x.own.map =
    ap (each shown_own) puts ∙ (each-put shown_own x.own.map p o ∙ (ap (put (each shown_own x.own.map) p) same ∙ sym (put-same (each shown_own x.own.map) p (shown_own w) (at-each shown_own x.own.map p ∙ ap (option_map shown_own) there)))) in
    λ i. record { node = node_of (node i) (seen (files i)); own = own i; free = free i }

module _ (x y : One) (t p : ℕ) (process : (thread_of (one_of x).node t).process ≡ p) where
  pub none-due : ((w : Own) → at x.own.map p ≡ Some w → None ≡ due (one_of x).node t w.memory.map x.free) → HasChangeRoom x t
  none-due h = λ w f.
      subst (λ (o : Option Change). HasRoomFor w.memory.spare (process_of (one_of x).node (of_thread (one_of x).node t)).program_break o) (h w (ap (at x.own.map) (sym process) ∙ f)) tt

  some-own : (w o : Own) → Some w ≡ Some o → w ≡ o
  some-own w o e = cc

  pub room-made : (w o : Own) (c : Change) (brk : ℕ) → y.own.map ≡ put x.own.map p o → one_of y ≡ one_of x → y.free ≡ x.free → o.memory.map ≡ w.memory.map
      → Some c ≡ due (one_of x).node t w.memory.map x.free → brk ≡ (process_of (one_of x).node p).program_break → pages_count (added_by brk c) ≤ o.memory.spare → HasChangeRoom y t
  room-made w o c brk puts state free memory is b room = λ v f.
      let at-p : of_thread (one_of y).node t ≡ p = ap (λ (k : OneKernel). of_thread k.node t) state ∙ process in
      let own : v ≡ o = some-own v o (sym f ∙ ((λ i. at (puts i) (at-p i)) ∙ (at-put x.own.map p o p ∙ ap (λ b. cond b (Some o) (at x.own.map p)) (eq-eqb p p refl)))) in
      let break-is : (process_of (one_of y).node (of_thread (one_of y).node t)).program_break ≡ brk =
      ap (λ (k : OneKernel). (process_of k.node (of_thread k.node t)).program_break) state ∙ ap (λ (q : ℕ). (process_of (one_of x).node q).program_break) process ∙ sym b in
      let due-is : due (one_of y).node t o.memory.map y.free ≡ Some c = (λ i. due (state i).node t (memory i) (free i)) ∙ sym is in
      subst (λ (u : Own). HasRoomFor u.memory.spare (process_of (one_of y).node (of_thread (one_of y).node t)).program_break (due (one_of y).node t u.memory.map y.free)) (sym own)
      (subst (λ (q : ℕ × Option Change). HasRoomFor o.memory.spare q.0 q.1) (λ i. (sym break-is i, sym due-is i)) room)

pub on-ok : {A B : Type 0} {T E : Type 0} (r : Result T E) → (A → B) → OnOk r A → OnOk r B
on-ok (Ok v) f a = f a
on-ok (Err e) f a = a
