-- The thread of a trap may clone: it lives, and the next number fits.
use Rattle.file_model.specs.Files.{Files}
use Rattle.hybrid_laws.proofs.maps.Tests.{both}
use Rattle.hybrid_model.specs.Sides.{Row}
use Rattle.kernel_model.specs.Nodes.{has_thread, is_living, is_stopped, thread_of}
use Rattle.kernel_model.specs.Traps.{may_trap}
use Rattle.kernel_tables.specs.Shown.{node_of}
use Rattle.lwk_side.specs.Cloning.{MayClone}
use Rattle.mck_word.specs.Maps.{Map}
use Rattle.node_machine.specs.Reached.{IsSound}
use Rattle.pair_core.specs.Shown.{pair_of}
use Rattle.pair_core.specs.declared.parts.Parts.{Parts}
use Rattle.std.proofs.Common.{arith}
use Rattle.std.specs.Prelude.{true, ℕ, ◌&&◌, ◌-◌, ◌<◌, ◌^◌, ◌≡◌, ◌≤◌}

module _ {T F : Type 0} (rows : T → Map Row) (files : F → Files) (x : Parts T F) where
  -- no number is near the end of those that there are
  pub next-fits : IsSound (pair_of rows files x) → (pair_of rows files x).node.next_number < 2 ^ 32 - 1
  next-fits k = let a = k.coherent.numbers.paid in let b = k.coherent.numbers.limit in let d = k.small.limit in omega (arith, a, b, d)

  pub may-clone : (t : ℕ) → IsSound (pair_of rows files x) → may_trap (node_of x.lwk.node (files x.files)) t ≡ true → 1 ≤ x.lwk.node.threads.spare → MayClone x.lwk.node t
  unfolding pair_of node_of
  may-clone t k may room =
      let node = node_of x.lwk.node (files x.files) in
      let a = both (has_thread node t && is_stopped (thread_of node t).does) (is_living node (thread_of node t).process) may in
      let b = both (has_thread node t) (is_stopped (thread_of node t).does) a.0 in
      record { room = room; lives = λ other. b.0; below = λ other. next-fits k }
