-- Interrupt: a thread with a signal is called back from its call, or its call is marked on both sides.
-- Source: this project's own, after the idea of IHK/McKernel.
use Rattle.hybrid_model.specs.OneProcess.{one_step}
use Rattle.hybrid_model.specs.Pairs.{Here, ring_of, with_node, with_side}
use Rattle.hybrid_model.specs.Rings.{post}
use Rattle.hybrid_model.specs.Sides.{Caller, Side}
use Rattle.ikc_ring.specs.declared.Msg.TheVariants.{Interrupt}
use Rattle.kernel_model.specs.Nodes.{thread_of}
use Rattle.kernel_model.specs.Signals.{moved_to_own}
use Rattle.kernel_model.specs.Traps.{called_back, may_be_called_back, may_be_marked}
use Rattle.kernel_model.specs.declared.steps.Step.{Step}
use Rattle.kernel_model.specs.declared.steps.Step.TheVariants as Steps
use Rattle.mck_word.specs.Identifiers.{tid}
use Rattle.mck_word.specs.Maps.{at, put}
use Rattle.std.specs.Prelude.{Bool, List, cond, false, is_some, not, true, unwrap_or, ℕ, ◌&&◌}

abbrev pub no_caller : Caller
no_caller = record { request = 0; marked = false }

abbrev pub caller_at : Side → ℕ → Caller
caller_at s t = unwrap_or (at s.lwk.callers t) no_caller

abbrev pub is_calling : Side → ℕ → Bool
is_calling s t = is_some (at s.lwk.callers t)

abbrev pub may_interrupt : ℕ → Here → Bool
may_interrupt t h = cond (is_calling h.side t) (not (caller_at h.side t).marked && may_be_marked h.node t) (may_be_called_back h.node t)

unfoldable pub post_interrupt : ℕ → ℕ → ℕ → Side → Side
post_interrupt r t place s = record s {
  lwk = record s.lwk { callers = put s.lwk.callers t (record (caller_at s t) { marked = true }) };
  to_linux = post r (Interrupt (record { 0 = (caller_at s t).request }) place) s.to_linux;
}

abbrev pub interrupt_as : Bool → ℕ → Here → Here
interrupt_as true t h = with_node (with_side h (post_interrupt (ring_of h t) t (thread_of h.node t).place h.side)) (moved_to_own t h.node)
interrupt_as false t h = with_node h (called_back t h.node)

abbrev pub interrupt : ℕ → Here → Here
interrupt t h = interrupt_as (is_calling h.side t) t h

abbrev pub image_of_interrupt : Bool → ℕ → List Step
image_of_interrupt true t = one_step (Steps.Mark (tid t))
image_of_interrupt false t = one_step (Steps.Interrupted (tid t))
