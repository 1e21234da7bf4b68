-- A thread that is interrupted in its call, or that rests.
use Rattle.kernel_model.specs.Nodes.{Thread, has_thread, no_thread, rests, thread_of}
use Rattle.kernel_model.specs.OneKernel.{one_here}
use Rattle.kernel_model.specs.Progress.{Progress}
use Rattle.kernel_model.specs.Steps.{has_call, is_active}
use Rattle.kernel_model.specs.Traps.{may_be_called_back}
use Rattle.mck_word.specs.EachLaws.{at-each}
use Rattle.mck_word.specs.Maps.{at}
use Rattle.one_kernel.proofs.After.{here-is, row-there}
use Rattle.one_kernel.proofs.Calling.{both, own-called, rests-not}
use Rattle.one_kernel.proofs.Facts.{called-are, thread-own}
use Rattle.one_kernel.specs.Parts.{here_in, one_of, shown_call}
use Rattle.node_machine.specs.Reached.{IsShown}
use Rattle.one_kernel.specs.declared.calls.Call.{Call}
use Rattle.one_kernel.specs.declared.parts.One.{One}
use Rattle.one_kernel.specs.declared.parts.Own.{Own}
use Rattle.std.proofs.Common.{ap, arith, refl, sym, ◌∙◌}
use Rattle.std.specs.Prelude.{Bool, IsSome, None, Option, Some, false, is_some, option_map, true, unwrap_or, ℕ, ◌||◌, ◌≡◌}

some-mapped : (o : Option Call) → is_some (option_map shown_call o) ≡ is_some o
some-mapped None = refl
some-mapped (Some v) = refl

-- the row tells whether the thread has a call
pub has-call-is : (x : One) (w : Own) (t : ℕ) → has_call (here_in x w) t ≡ is_some (at w.calls.map t)
has-call-is x w t = ap is_some (at-each shown_call w.calls.map t) ∙ some-mapped (at w.calls.map t)

pub or-first : (a b : Bool) → (a || b) ≡ true → b ≡ false → a ≡ true
or-first true b e n = refl
or-first false b e n = absurd (cc)

module _ (x : One) (p t : ℕ) (shown : IsShown (one_of x)) (process : (thread_of (one_of x).node t).process ≡ p) where
  thread-there : has_thread (one_of x).node t ≡ true → (y : Thread) × (at (one_of x).node.threads t ≡ Some y) × (thread_of (one_of x).node t ≡ y)
  thread-there e = go (at (one_of x).node.threads t) refl e
    where
      go : (o : Option Thread) → at (one_of x).node.threads t ≡ o → is_some o ≡ true → (y : Thread) × (at (one_of x).node.threads t ≡ Some y) × (thread_of (one_of x).node t ≡ y)
      go None is e = absurd (cc)
      go (Some y) is e = (y, is, ap (λ z. unwrap_or z no_thread) is)

  -- a thread with a call does not rest
  pub not-back : (w : Own) → at x.own.map p ≡ Some w → has_call (here_in x w) t ≡ true → may_be_called_back (one_of x).node t ≡ false
  not-back w there has = go (may_be_called_back (one_of x).node t) refl
    where
      go : (b : Bool) → may_be_called_back (one_of x).node t ≡ b → may_be_called_back (one_of x).node t ≡ false
      go false e = e
      go true e = absurd (
          let a = both _ _ (both _ _ (both _ _ e).0).0 in
          let y = thread-there a.0 in
          let resting : rests y.0.does ≡ true = ap (λ (z : Thread). rests z.does) (sym y.2) ∙ a.1 in
          let own : y.0.process ≡ p = ap (λ (z : Thread). z.process) (sym y.2) ∙ process in
          let called = called-are (one_of x) shown t y.0 y.1 ∙ (λ i. has_call (one_here (one_of x) (own i)) t) ∙ ap (λ h. has_call h t) (here-is x p w there) ∙ has in
          let not-called = rests-not y.0.does resting in
          let z = sym called ∙ not-called in grind (arith, z)
          )

  -- the process has a row
  pub own-interrupted : (test : Progress → Bool) → (is_active (one_here (one_of x) p) t test || may_be_called_back (one_of x).node t) ≡ true → IsSome (at x.own.map p)
  own-interrupted test e = go (may_be_called_back (one_of x).node t) refl
    where
      go : (b : Bool) → may_be_called_back (one_of x).node t ≡ b → IsSome (at x.own.map p)
      go false n = own-called x p t (both _ _ (or-first _ _ e n)).0
      go true y = row-there x p (ap (λ q. is_some (at (one_of x).own q)) (sym process) ∙ thread-own (one_of x) shown t (both _ _ (both _ _ (both _ _ y).0).0).0)

  pub not-back-in : (w : Own) → at x.own.map p ≡ Some w → has_call (here_in x w) t ≡ true → may_be_called_back (here_in x w).node t ≡ false
  unfolding one_of
  not-back-in w there has = not-back w there has
