-- A signal that is delivered, and the return from its handler.
use Rattle.isa_model.specs.Memory.{may_access, read_bytes}
use Rattle.isa_model.specs.Registers.{reg}
use Rattle.kernel_model.specs.Nodes.{Node, Thread, action_of, change_process, change_thread, dies, process_of, thread_of}
use Rattle.kernel_model.specs.Signals.{View, after_reset, deliver, deliver_signal, enter_handler, frame_address, frame_bytes, frame_size, handler_mask, handler_regs, interrupted_regs, mask_in, next_signal, on_node, raised, restored, return_from_handler, store, taken}
use Rattle.kernel_model.specs.declared.Action.{Action}
use Rattle.kernel_model.specs.declared.Does.TheVariants.{Ready}
use Rattle.mck_word.specs.declared.Access.TheVariants.{Read, Write}
use Rattle.mck_word.specs.declared.End.TheVariants.{Killed}
use Rattle.mck_word.specs.declared.Regs.{Regs}
use Rattle.std.proofs.Common.{ap, sym, ◌∙◌}
use Rattle.std.specs.Prelude.{Bool, List, None, Option, Some, cond, false, true, ℕ, ◌==◌, ◌≡◌}

module _ (t signal : ℕ) (a : Action) where
  -- the thread of the process begins the handler
  abbrev pub enters : ℕ → Regs → ℕ → Node → Node
  enters p r sp node = after_reset p signal a (change_thread t (λ (y : Thread). record y { regs = handler_regs a signal sp r; mask = handler_mask a signal y.mask; back = false }) node)

  abbrev pub entered : ℕ → Regs → ℕ → ℕ → View → View
  entered p r sp mask v = store sp (frame_bytes r mask) (on_node (enters p r sp) v)

  -- the frame can't be stored
  abbrev pub kills_entering : ℕ → Regs → Node → Node
  kills_entering p r node = change_process p (dies (Killed 11)) (change_thread t (λ (y : Thread). record y { regs = r; back = false }) node)

  abbrev way : ℕ → Regs → ℕ → ℕ → View → Bool → View
  way p r sp mask v may = cond may (entered p r sp mask v) (on_node (kills_entering p r) v)

  module _ (p : ℕ) (r : Regs) (sp mask : ℕ) (v : View) (process : p ≡ (thread_of v.node t).process) (regs : r ≡ interrupted_regs (thread_of v.node t).back a (thread_of v.node t).regs)
      (place : sp ≡ frame_address r) (masked : mask ≡ (thread_of v.node t).mask) where
    enters_by : enter_handler t signal a v ≡ way p r sp mask v (may_access v.memory Write sp frame_size)
    enters_by =
        let there = place ∙ ap frame_address regs in
        sym (λ i. way (process i) (regs i) (there i) (masked i) v (may_access v.memory Write (there i) frame_size))

    pub enters_there : may_access v.memory Write sp frame_size ≡ true → enter_handler t signal a v ≡ entered p r sp mask v
    enters_there may = enters_by ∙ ap (way p r sp mask v) may

    pub enters_not : may_access v.memory Write sp frame_size ≡ false → enter_handler t signal a v ≡ on_node (kills_entering p r) v
    enters_not may = enters_by ∙ ap (way p r sp mask v) may

  -- the signal kills the process of the thread
  abbrev pub kills_by : ℕ → Node → Node
  kills_by p node = change_process p (dies (Killed signal)) (change_thread t (λ (y : Thread). record y { regs = interrupted_regs y.back a y.regs; back = false }) node)

module _ (t signal : ℕ) where
  abbrev delivers : ℕ → Action → View → Bool → View
  delivers p a v default = cond default (on_node (kills_by t signal a p) v) (enter_handler t signal a v)

  module _ (p : ℕ) (a : Action) (v : View) (process : p ≡ (thread_of v.node t).process) (action : a ≡ action_of (process_of v.node (thread_of v.node t).process) signal) where
    delivers_by : deliver_signal t signal v ≡ delivers p a v (a.handler == 0)
    delivers_by = sym (λ i. delivers (process i) (action i) v ((action i).handler == 0))

    pub delivers_default : (a.handler == 0) ≡ true → deliver_signal t signal v ≡ on_node (kills_by t signal a p) v
    delivers_default e = delivers_by ∙ ap (delivers p a v) e

    pub delivers_handler : (a.handler == 0) ≡ false → deliver_signal t signal v ≡ enter_handler t signal a v
    delivers_handler e = delivers_by ∙ ap (delivers p a v) e

abbrev deliver_of : ℕ → View → Option ℕ → View
deliver_of t v None = v
deliver_of t v (Some signal) = deliver_signal t signal (on_node (taken t signal) v)

deliver_is : (t : ℕ) (v : View) (o : Option ℕ) → next_signal v.node t ≡ o → deliver t v ≡ deliver_of t v o
deliver_is t v o e = ap (λ (n : Option ℕ). elim n [ None ↦ v | Some signal ↦ deliver_signal t signal (on_node (taken t signal) v) ]) e ∙ go o
  where
    go : (o : Option ℕ) → elim o [ None ↦ v | Some signal ↦ deliver_signal t signal (on_node (taken t signal) v) ] ≡ deliver_of t v o
    go None = λ i. v
    go (Some signal) = λ i. deliver_signal t signal (on_node (taken t signal) v)

pub deliver_next : (t signal : ℕ) (v : View) → next_signal v.node t ≡ Some signal → deliver t v ≡ deliver_signal t signal (on_node (taken t signal) v)
deliver_next t signal v e = deliver_is t v (Some signal) e

pub deliver_none : (t : ℕ) (v : View) → next_signal v.node t ≡ None → deliver t v ≡ v
deliver_none t v e = deliver_is t v None e

-- ---- the return

module _ (t : ℕ) where
  -- the thread goes on with these registers and this mask
  abbrev pub goes_back : Regs → ℕ → Node → Node
  goes_back r mask node = change_thread t (λ (y : Thread). record y { regs = r; mask = mask; does = Ready }) node

  abbrev comes : List ℕ → View → Bool → View
  comes bytes v may = cond may (on_node (goes_back (restored bytes) (mask_in bytes)) v) (on_node (raised t 11) v)

  module _ (sp : ℕ) (v : View) (stack : sp ≡ reg (thread_of v.node t).regs 2) where
    comes_by : return_from_handler t v ≡ comes (read_bytes v.memory sp frame_size) v (may_access v.memory Read sp frame_size)
    comes_by = sym (λ i. comes (read_bytes v.memory (stack i) frame_size) v (may_access v.memory Read (stack i) frame_size))

    pub comes_back : (bytes : List ℕ) (r : Regs) (mask : ℕ) → may_access v.memory Read sp frame_size ≡ true → bytes ≡ read_bytes v.memory sp frame_size → r ≡ restored bytes → mask ≡ mask_in bytes
        → return_from_handler t v ≡ on_node (goes_back r mask) v
    comes_back bytes r mask may read regs masked =
        comes_by ∙ ap (comes (read_bytes v.memory sp frame_size) v) may
        ∙ (λ i. on_node (goes_back ((ap restored (sym read) ∙ sym regs) i) ((ap mask_in (sym read) ∙ sym masked) i)) v)

    pub comes_not : may_access v.memory Read sp frame_size ≡ false → return_from_handler t v ≡ on_node (raised t 11) v
    comes_not may = comes_by ∙ ap (comes (read_bytes v.memory sp frame_size) v) may
