-- The process of a thread that lives, and what the local calls see of it.
use Rattle.kernel_model.specs.Nodes.{has_thread, thread_of}
use Rattle.mck_word.specs.Maps.{at, each}
use Rattle.one_calls.specs.Here.{Rest}
use Rattle.one_files.specs.Seen.{seen}
use Rattle.one_kernel.proofs.After.{row-there}
use Rattle.one_kernel.proofs.Facts.{thread-own}
use Rattle.one_kernel.specs.Parts.{one_of, shown_call}
use Rattle.node_machine.specs.Reached.{IsShown}
use Rattle.one_kernel.specs.declared.parts.One.{One}
use Rattle.one_kernel.specs.declared.parts.Own.{Own}
use Rattle.std.proofs.Common.{ap, sym, ◌∙◌}
use Rattle.std.specs.Prelude.{IsSome, is_some, true, ℕ, ◌≡◌}

-- what a step isn't handed
abbrev pub rest_of : One → Own → Rest
rest_of x w = record { files = seen x.files; calls = each shown_call w.calls.map; free = x.free }

pub own-thread : (x : One) (p t : ℕ) → IsShown (one_of x) → (thread_of (one_of x).node t).process ≡ p → has_thread (one_of x).node t ≡ true → IsSome (at x.own.map p)
own-thread x p t shown process has = row-there x p (ap (λ q. is_some (at (one_of x).own q)) (sym process) ∙ thread-own (one_of x) shown t has)
