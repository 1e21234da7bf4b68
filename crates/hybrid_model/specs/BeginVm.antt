-- BeginVm: the round of a change begins. Its range closes, and the proxy is told to clear it.
-- Source: this project's own, after the idea of IHK/McKernel.
use Rattle.clear_rounds.specs.declared.Phase.TheVariants.{Posted as RoundPosted}
use Rattle.hybrid_model.specs.Pairs.{Here, ring_of, with_side}
use Rattle.hybrid_model.specs.Rings.{post}
use Rattle.hybrid_model.specs.Sides.{Side}
use Rattle.ikc_ring.specs.declared.Msg.TheVariants.{Clear}
use Rattle.kernel_model.specs.MemoryCalls.{closing_range}
use Rattle.kernel_model.specs.Nodes.{change_in, has_thread, is_living, process_of, thread_of}
use Rattle.kernel_model.specs.Pages.{range}
use Rattle.kernel_model.specs.declared.Change.{Change}
use Rattle.mck_word.specs.declared.PageRange.{PageRange}
use Rattle.std.specs.Prelude.{Bool, None, Option, Some, is_none, is_some, ℕ, ◌&&◌, ◌+◌}

abbrev pub may_begin_vm : ℕ → Here → Bool
may_begin_vm t h = has_thread h.node t && is_some (change_in (thread_of h.node t).does) && is_living h.node (thread_of h.node t).process && is_none h.side.round

unfoldable pub begin_round : ℕ → ℕ → PageRange → Side → Side
begin_round r t range s = record s {
  lwk = record s.lwk { begun = s.lwk.begun + 1; changing = Some t };
  round = Some (RoundPosted, range);
  to_linux = post r (Clear range) s.to_linux;
}

abbrev pub begin_vm_of : ℕ → ℕ → Option Change → Here → Here
begin_vm_of p t None h = h
begin_vm_of p t (Some c) h = with_side h (begin_round (ring_of h t) t (closing_range (process_of h.node p) c) h.side)

abbrev pub begin_vm : ℕ → ℕ → Here → Here
begin_vm p t h = begin_vm_of p t (change_in (thread_of h.node t).does) h
