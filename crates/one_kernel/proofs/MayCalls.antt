-- When a step of a thread's call may happen, told by the call.
use Rattle.file_model.specs.Files.{Files}
use Rattle.isa_model.specs.Memory.{Page, allows_in}
use Rattle.kernel_model.specs.OneKernel as kernel
use Rattle.kernel_model.specs.OneKernel.{CallStatus, OneHere, no_own, one_here}
use Rattle.kernel_model.specs.Nodes.{thread_of}
use Rattle.kernel_model.specs.Progress.{Progress, needed_access, next_piece}
use Rattle.kernel_model.specs.Steps.{active, blocked, call_at, has_call, holds_of, is_active, is_blocked, no_call, piece_has_right}
use Rattle.kernel_tables.specs.Shown.{node_of}
use Rattle.mck_word.specs.EachLaws.{at-each}
use Rattle.mck_word.specs.MapLaws.{at-none}
use Rattle.mck_word.specs.Maps.{at}
use Rattle.one_files.specs.Seen.{seen}
use Rattle.one_kernel.proofs.After.{here-is}
use Rattle.one_kernel.specs.Parts.{here_at, here_in, one_of, shown_call, shown_own, status_by}
use Rattle.one_kernel.specs.declared.calls.Call.{Call}
use Rattle.one_kernel.specs.declared.calls.Standing.{Standing}
use Rattle.one_kernel.specs.declared.calls.Standing.TheVariants.{Active, Blocked, Over}
use Rattle.one_kernel.specs.declared.parts.One.{One}
use Rattle.one_kernel.specs.declared.parts.Own.{Own}
use Rattle.std.proofs.Common.{ap, refl, sym, ◌∙◌}
use Rattle.std.specs.Prelude.{Bool, None, Option, Some, false, is_some, not, option_map, true, unwrap_or, ℕ, ◌&&◌, ◌||◌, ◌≡◌}

-- ---- the process of a thread with what all share
module _ (x : One) (t p : ℕ) (process : (thread_of (one_of x).node t).process ≡ p) where
  at-process : here_at x t ≡ one_here (one_of x) p
  at-process = ap (one_here (one_of x)) process

  pub here-of : (w : Own) → at x.own.map p ≡ Some w → here_at x t ≡ here_in x w
  here-of w there = at-process ∙ here-is x p w there

  -- the call of the thread, in the row of its process
  pub call-of : (w : Own) → at x.own.map p ≡ Some w → option_map shown_call (at w.calls.map t) ≡ at (here_at x t).own.calls t
  call-of w there = sym (ap (λ (h : OneHere). at h.own.calls t) (here-of w there) ∙ at-each shown_call w.calls.map t)

  own-none : at x.own.map p ≡ None → (one_here (one_of x) p).own ≡ no_own
  unfolding one_of
  own-none none = ap (λ o. unwrap_or o no_own) (at-each shown_own x.own.map p ∙ ap (option_map shown_own) none)

  -- without a row there is none
  pub call-none : at x.own.map p ≡ None → None ≡ at (here_at x t).own.calls t
  call-none none = sym (ap (λ (h : OneHere). at h.own.calls t) at-process ∙ ap (λ (w : kernel.Own). at w.calls t) (own-none none) ∙ at-none {V = kernel.Call} t)

  -- nor has a page a right
  pub right-of : (w : Own) → at x.own.map p ≡ Some w → (y : Progress) → piece_has_right (here_in x w) y ≡ piece_has_right (here_at x t) y
  right-of w there y = sym (ap (λ h. piece_has_right h y) (here-of w there))

  pub right-none : at x.own.map p ≡ None → (y : Progress) → false ≡ piece_has_right (here_at x t) y
  right-none none y = sym (ap (λ h. piece_has_right h y) at-process ∙ ap (λ (w : kernel.Own). piece_has_right (record (one_here (one_of x) p) { own = w }) y) (own-none none) ∙ ap (allows_in (needed_access y)) (at-none {V = Page} (next_piece y).page))

-- ---- the tests of a call
module _ (h : OneHere) (t : ℕ) where
  pub call-some : (k : kernel.Call) → Some k ≡ at h.own.calls t → call_at h t ≡ k
  call-some k there = ap (λ o. unwrap_or o no_call) (sym there)

  pub active-some : (k : kernel.Call) (test : Progress → Bool) → Some k ≡ at h.own.calls t → holds_of (active k.status) test ≡ is_active h t test
  active-some k test there = ap (λ (o : Option kernel.Call). is_some o && holds_of (active (unwrap_or o no_call).status) test) there

  pub active-none : (test : Progress → Bool) → None ≡ at h.own.calls t → false ≡ is_active h t test
  active-none test none = ap (λ (o : Option kernel.Call). is_some o && holds_of (active (unwrap_or o no_call).status) test) none

  pub blocked-some : (k : kernel.Call) (test : Progress → Bool) → Some k ≡ at h.own.calls t → holds_of (blocked k.status) test ≡ is_blocked h t test
  blocked-some k test there = ap (λ (o : Option kernel.Call). is_some o && holds_of (blocked (unwrap_or o no_call).status) test) there

-- a test with another one behind it
pub active-and : (s : Standing) (q : Progress) (f g : Progress → Bool) → (holds_of (active (status_by s q)) f && g q) ≡ holds_of (active (status_by s q)) (λ p. f p && g p)
active-and Active q f g = refl
active-and Blocked q f g = refl
active-and (Over answer) q f g = refl

-- and one before it
pub active-when : (b : Bool) (s : CallStatus) (f : Progress → Bool) → (b && holds_of (active s) f) ≡ holds_of (active s) (λ p. b && f p)
active-when b (kernel.Active p) f = refl
active-when true (kernel.Blocked p) f = refl
active-when false (kernel.Blocked p) f = refl
active-when true (kernel.Over answer) f = refl
active-when false (kernel.Over answer) f = refl

-- ---- the node and the files of the process
pub files-of : (x : One) (t : ℕ) → seen x.files ≡ (here_at x t).node.files
unfolding one_of node_of
files-of x t = refl

pub node-of : (x : One) (t : ℕ) → node_of x.node (seen x.files) ≡ (here_at x t).node
unfolding one_of
node-of x t = refl

-- ---- the tests of a step of the call
module _ (x : One) (t : ℕ) (c : Call) (there : Some (shown_call c) ≡ at (here_at x t).own.calls t) where
  abbrev h : OneHere
  h = here_at x t

  marked : c.marked ≡ (call_at h t).marked
  marked = ap (λ (k : kernel.Call). k.marked) (sym (call-some h t (shown_call c) there))

  pub tests : (test : Files → Progress → Bool) → holds_of (active (shown_call c).status) (test (seen x.files)) ≡ is_active h t (test h.node.files)
  tests test = ap (λ f. holds_of (active (shown_call c).status) (test f)) (files-of x t) ∙ active-some h t (shown_call c) (test h.node.files) there

  -- with a test of the memory behind it
  pub tests-memory : (test : Files → Progress → Bool) (g : Progress → Bool) → (holds_of (active (shown_call c).status) (test (seen x.files)) && g c.progress.progress) ≡ is_active h t (λ p. test h.node.files p && g p)
  tests-memory test g =
      active-and c.standing c.progress.progress (test (seen x.files)) g ∙ ap (λ f. holds_of (active (shown_call c).status) (λ p. test f p && g p)) (files-of x t)
      ∙ active-some h t (shown_call c) (λ p. test h.node.files p && g p) there

  -- with the mark before it
  pub tests-marked : (test : Files → Progress → Bool) → (c.marked && holds_of (active (shown_call c).status) (test (seen x.files))) ≡ is_active h t (λ p. (call_at h t).marked && test h.node.files p)
  tests-marked test =
      active-when c.marked (shown_call c).status (test (seen x.files)) ∙ (λ i. holds_of (active (shown_call c).status) (λ p. marked i && test (files-of x t i) p))
      ∙ active-some h t (shown_call c) (λ p. (call_at h t).marked && test h.node.files p) there

  pub wakes-marked : (test : Files → Progress → Bool) → holds_of (blocked (shown_call c).status) (λ p. c.marked || test (seen x.files) p) ≡ is_blocked h t (λ p. (call_at h t).marked || test h.node.files p)
  wakes-marked test =
      (λ i. holds_of (blocked (shown_call c).status) (λ p. marked i || test (files-of x t i) p)) ∙ blocked-some h t (shown_call c) (λ p. (call_at h t).marked || test h.node.files p) there

  pub unmarked : not c.marked ≡ (has_call h t && not (call_at h t).marked)
  unmarked = ap (λ (o : Option kernel.Call). is_some o && not (unwrap_or o no_call).marked) there
