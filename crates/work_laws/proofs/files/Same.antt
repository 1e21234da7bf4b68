-- The events that leave the files as they are: all of the lightweight kernel but an Answer without a row, a Reap and a fork.
use Rattle.hybrid_model.specs.declared.events.Event.TheVariants as Events
use Rattle.hybrid_laws.proofs.calls.Closed.{Closed, deliver-closed, finishes-closed, moved-closed, returns-closed, script-closed, wait_over-closed}
use Rattle.hybrid_laws.proofs.node.Goes.{ignored-goes, wake-goes}
use Rattle.hybrid_model.specs.Events.{after_here}
use Rattle.hybrid_model.specs.Deliver.{after_deliver}
use Rattle.hybrid_model.specs.Intake.{caller_of, change_made_of, changed, changing_thread, intake, round_over, take_ack, take_fault, take_reply, take_reply_of}
use Rattle.hybrid_model.specs.Interrupt.{interrupt_as, is_calling}
use Rattle.hybrid_model.specs.OneProcess.{memory_here, set_break, view_here}
use Rattle.hybrid_model.specs.Run.{run, run_for}
use Rattle.hybrid_model.specs.Pairs.{Here, with_side}
use Rattle.ikc_ring.specs.declared.Msg.TheVariants.{Ack, Answer, Clear, Fault, Interrupt, Reply, Request}
use Rattle.ikc_ring.specs.declared.Msg.{Msg}
use Rattle.kernel_model.specs.MemoryCalls.{answer_of_change, effect_of, refusal_at_end}
use Rattle.kernel_model.specs.Nodes.{Node, Process, change_in, change_process, process_of, ready_to_run, thread_of}
use Rattle.kernel_model.specs.SignalSets.{with_signal}
use Rattle.kernel_model.specs.Signals.{View, generate_for_process, ignores}
use Rattle.kernel_model.specs.Traps.{Ran, called_back, executed, wait_of, waited, waited_for}
use Rattle.kernel_model.specs.declared.Change.{Change}
use Rattle.mck_word.specs.declared.Pid.{Pid}
use Rattle.mck_word.specs.declared.Tid.{Tid}
use Rattle.std.proofs.Common.{refl, ◌∙◌}
use Rattle.std.specs.Prelude.{zero, suc, Bool, List, None, Option, Some, [], cond, false, length, true, ℕ, ℤ, ◌∷◌, ◌≡◌}

abbrev pub SameFiles : Node → Node → Type 0
SameFiles a b = b.files ≡ a.files

pub same-files : (t : ℕ) → Closed t SameFiles SameFiles
same-files t = record {
  same = λ a. refl;
  joined = λ a b c f g. g ∙ f;
  lift = λ a b f. f;
  quiet = λ a u f h. refl;
  moves = λ a f h. refl;
  process = λ a q f h. refl;
  gone = λ a. refl;
  woken = λ a process address n. (wake-goes a process address n).files;
  ignored = λ a q signal. (ignored-goes a q signal).files;
  falls = λ a address. refl;
}

run-files : (n t : ℕ) (v : Ran) → (run_for n t v).node.files ≡ v.node.files
run-files zero t v = refl
run-files (suc n) t v = go (ready_to_run (thread_of w.node t).does) (run-files n t w)
  where
    w : Ran
    w = executed t v

    go : (b : Bool) → (run_for n t w).node.files ≡ w.node.files → (cond b (run_for n t w) w).node.files ≡ v.node.files
    go true k = k
    go false k = refl

pub waited-files : (t : ℕ) (v : View) → (waited t v).node.files ≡ v.node.files
unfolding waited
waited-files t v = go (wait_of (thread_of v.node t).does)
  where
    go : (o : Option (ℤ × ℕ)) → (waited_for t v o).node.files ≡ v.node.files
    go None = refl
    go (Some w) = wait_over-closed t SameFiles SameFiles (same-files t) w.0 w.1 v

pub for_process-files : (a : Node) (q signal : ℕ) → (generate_for_process q signal a).files ≡ a.files
for_process-files a q signal = go (ignores (process_of a q) signal)
  where
    go : (b : Bool) → (cond b a (change_process q (λ (x : Process). record x { pending = with_signal signal x.pending }) a)).files ≡ a.files
    go true = refl
    go false = refl

module _ (p : ℕ) (h : Here) where
  abbrev Stay : (Here) → Type 0
  Stay x = x.node.files ≡ h.node.files

  pub files-run : (core : ℕ) (t : Tid) (n : ℕ) → Stay (after_here (Events.Run core t n) p h)
  unfolding run
  files-run core t n = run-files n t.0 (record { node = h.node; memory = memory_here h })

  pub files-deliver : (t : Tid) → Stay (after_here (Events.Deliver t) p h)
  unfolding after_deliver
  files-deliver t = deliver-closed t.0 SameFiles SameFiles (same-files t.0) (view_here h)

  pub files-wait : (t : Tid) → Stay (after_here (Events.Wait t) p h)
  files-wait t = waited-files t.0 (view_here h)

  pub files-script : (k : ℕ) → Stay (after_here (Events.Script k) p h)
  files-script k = script-closed 0 SameFiles SameFiles (same-files 0) k h.node (λ a unsent. refl)

  pub files-interrupt : (t : Tid) → Stay (after_here (Events.Interrupt t) p h)
  unfolding called_back
  files-interrupt t = go (is_calling h.side t.0)
    where
      go : (o : Bool) → (interrupt_as o t.0 h).node.files ≡ h.node.files
      go true = moved-closed 0 SameFiles SameFiles (same-files 0) h.node t.0
      go false = refl

  made : (t : ℕ) (ms : List Msg) (c : Change) (o : Option ℤ) → (changed p t c o (with_side h (round_over ms h.side))).node.files ≡ h.node.files
  made t ms c None = finishes-closed t SameFiles SameFiles (same-files t) (set_break p (effect_of (process_of h.node p) c).program_break h.node) (answer_of_change c)
  made t ms c (Some answer) = finishes-closed t SameFiles SameFiles (same-files t) h.node answer

  pub files-intake : (q : Pid) → Stay (after_here (Events.Intake q) p h)
  unfolding take_reply take_fault take_ack
  files-intake q = go h.side.to_lwk
    where
      t : ℕ
      t = changing_thread h.side

      reply : (code : ℤ) (ms : List Msg) (o : Option ℕ) → (take_reply_of o code ms h).node.files ≡ h.node.files
      reply code ms None = refl
      reply code ms (Some u) = returns-closed u SameFiles SameFiles (same-files u) h.node code

      ack : (ms : List Msg) (o : Option Change) → (change_made_of p t o (with_side h (round_over ms h.side))).node.files ≡ h.node.files
      ack ms None = refl
      ack ms (Some c) = made t ms c (refusal_at_end (process_of h.node p) (memory_here (with_side h (round_over ms h.side))) (length h.free) c)

      go : (ms : List Msg) → (intake p ms h).node.files ≡ h.node.files
      go [] = refl
      go (Request c ∷ ms) = refl
      go (Clear range ∷ ms) = refl
      go (Answer w page number row ∷ ms) = refl
      go (Interrupt n place ∷ ms) = refl
      go (Reply n code ∷ ms) = reply code ms (caller_of h.side.lwk.callers n.0)
      go (Ack ∷ ms) = ack ms (change_in (thread_of h.node t).does)
      go (Fault w page a ∷ ms) = refl
