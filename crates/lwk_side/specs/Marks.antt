-- A call whose thread is interrupted.
use Rattle.hybrid_model.specs.Pairs.{Here, ring_of, with_node, with_side}
use Rattle.hybrid_model.specs.Rings.{post}
use Rattle.hybrid_model.specs.Sides.{Caller}
use Rattle.ikc_ring.specs.declared.Msg.TheVariants.{Interrupt}
use Rattle.kernel_model.specs.Nodes.{thread_of}
use Rattle.kernel_model.specs.Signals.{moved_to_own}
use Rattle.mck_word.specs.Maps.{put}
use Rattle.std.specs.Prelude.{true, ℕ}

-- the call is marked, its Interrupt is posted, and the signal is the thread's own
abbrev pub marked : ℕ → Caller → Here → Here
marked t c h = with_node (with_side h (record h.side {
  lwk = record h.side.lwk { callers = put h.side.lwk.callers t (record c { marked = true }) };
  to_linux = post (ring_of h t) (Interrupt (record { 0 = c.request }) (thread_of h.node t).place) h.side.to_linux;
})) (moved_to_own t h.node)
