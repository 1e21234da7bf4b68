-- A clone by a thread behind its ecall, and what it comes to.
use Rattle.kernel_model.specs.CloneCalls.{are_fork_flags, clone}
use Rattle.kernel_model.specs.Calls.{clone_call}
use Rattle.kernel_model.specs.Nodes.{Node as KernelNode, Thread, has_thread}
use Rattle.kernel_model.specs.Signals.{View}
use Rattle.kernel_model.specs.Traps.{Done, cloned}
use Rattle.kernel_tables.specs.Room.{KeepsRoom}
use Rattle.kernel_tables.specs.Shown.{node_of}
use Rattle.kernel_tables.specs.declared.tables.KernelTables.{KernelTables}
use Rattle.lwk_side.proofs.Behind.{at-itself, behind, past}
use Rattle.lwk_side.specs.Cloning.{MayClone}
use Rattle.lwk_views.specs.Views.{Stepped}
use Rattle.mck_word.specs.Maps.{at}
use Rattle.std.proofs.Common.{ap, arith, refl, subst, sym, ◌∙◌, ◌≡◌}
use Rattle.std.specs.Prelude.{List, None, Option, Some, false, get_or, is_some, option_map, ℕ, ◌-◌, ◌<◌, ◌^◌}

still-there : (o : Option Thread) → is_some (option_map past o) ≡ is_some o
still-there None = refl
still-there (Some x) = refl

lives-behind : (node : KernelNode) (t : ℕ) → has_thread (behind t node) t ≡ has_thread node t
lives-behind node t = ap is_some (at-itself node t) ∙ still-there (at node.threads t)

pub may-clone : (before after : KernelTables) (t : ℕ) → KeepsRoom before after → Stepped before after (behind t) → MayClone before t → MayClone after t
may-clone before after t room step h = record {
  room = let a = h.room in let b = room.threads in omega (arith, a, b);
  lives = λ files. ap (λ (k : KernelNode). has_thread k t) (step files) ∙ lives-behind (node_of before files) t ∙ h.lives files;
  below = λ files. subst (λ n. n < 2 ^ 32 - 1) (sym (ap (λ (k : KernelNode). k.next_number) (step files))) (h.below files);
}

-- a clone that is no fork is done
pub clone-done : (t free : ℕ) (arguments : List ℕ) (v : View) → are_fork_flags (get_or arguments 0 0) ≡ false
    → cloned (clone_call t free arguments v) ≡ Done (clone t (get_or arguments 0 0) (get_or arguments 1 0) (get_or arguments 2 0) (get_or arguments 3 0) (get_or arguments 4 0) v)
unfolding clone_call
clone-done t free arguments v other = rw other refl
