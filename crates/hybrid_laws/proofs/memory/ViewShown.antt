-- What a step that works on a view leaves is shown: the stores go through the table.
use Rattle.kernel_model.specs.Steps as Steps
use Rattle.hybrid_laws.proofs.memory.Shapes.{shown-back, stored_all-rights}
use Rattle.hybrid_laws.proofs.node.Keeps.{is_pinned}
use Rattle.hybrid_laws.proofs.run.Run.{TableApart}
use Rattle.hybrid_model.specs.OneProcess.{memory_here, with_view}
use Rattle.hybrid_model.specs.Pairs.{Here}
use Rattle.hybrid_model.specs.Shown.{shown_call, shown_here}
use Rattle.kernel_model.specs.Nodes.{Node, Thread}
use Rattle.kernel_model.specs.Signals.{View, stored_all}
use Rattle.mck_word.specs.Maps.{at, each}
use Rattle.std.proofs.Common.{arith, sym}
use Rattle.std.specs.Prelude.{Bool, None, Some, false, length, true, ℕ, ◌≡◌}

-- no thread is free
abbrev pub none_free : ℕ → Bool
none_free u = false

pub none-idle : (p : ℕ) (node : Node) (u : ℕ) (x : Thread) → none_free u ≡ true → at node.threads u ≡ Some x → x.process ≡ p → is_pinned x.does ≡ false
none-idle p node u x e f own = absurd (grind (arith, e))

pub shown-view : (h : Here) (v : View) → TableApart h.side.lwk.table → h.born ≡ None → Steps.with_view v (shown_here h) ≡ shown_here (with_view v h)
shown-view h v apart none =
    let a = sym (shown-back h.side.lwk.table h.frames (stored_all v.stores (memory_here h)) apart (stored_all-rights v.stores (memory_here h))) in
    rw none (λ i. record { own = record { memory = a i; calls = each (shown_call h.side) h.side.lwk.callers }; node = v.node; free = length h.free; born = None })
