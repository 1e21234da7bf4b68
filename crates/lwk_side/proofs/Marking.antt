-- An interrupt of a thread that calls, and of one that does not.
use Rattle.hybrid_model.specs.Interrupt.{caller_at, interrupt, interrupt_as, is_calling, no_caller, post_interrupt}
use Rattle.hybrid_model.specs.Pairs.{Here, with_node}
use Rattle.hybrid_model.specs.Sides.{Caller}
use Rattle.kernel_model.specs.Traps.{called_back}
use Rattle.lwk_side.specs.Marks.{marked}
use Rattle.mck_word.specs.Maps.{at}
use Rattle.std.proofs.Common.{ap, refl, ◌∙◌, ◌≡◌}
use Rattle.std.specs.Prelude.{Bool, Option, false, is_some, true, unwrap_or, ℕ}

abbrev body : Here → ℕ → Bool → Caller → Here
body h t true c = marked t c h
body h t false c = with_node h (called_back t h.node)

as-body : (h : Here) (t : ℕ) (b : Bool) → interrupt_as b t h ≡ body h t b (caller_at h.side t)
unfolding post_interrupt
as-body h t true = refl
as-body h t false = refl

pub when-calling : (h : Here) (t : ℕ) (o : Option Caller) → at h.side.lwk.callers t ≡ o → interrupt t h ≡ body h t (is_some o) (unwrap_or o no_caller)
when-calling h t o e = as-body h t (is_calling h.side t) ∙ ap (λ x. body h t (is_some x) (unwrap_or x no_caller)) e
