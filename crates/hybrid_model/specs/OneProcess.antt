-- One process with what all share: its memory as the one-kernel machine sees it, and what several events do to it.
-- Source: this project's own, after the idea of IHK/McKernel.
use Rattle.hybrid_model.specs.Pairs.{Here, with_node}
use Rattle.hybrid_model.specs.Spaces.{Space, after_effect, shown_memory, written_back}
use Rattle.isa_model.specs.Memory.{Memory}
use Rattle.kernel_model.specs.MemoryCalls.{Effect}
use Rattle.kernel_model.specs.Nodes.{Node, Process, change_process}
use Rattle.kernel_model.specs.Signals.{View, stored_all, view}
use Rattle.kernel_model.specs.Traps.{finishes}
use Rattle.kernel_model.specs.declared.steps.Step.{Step}
use Rattle.mck_word.specs.Maps.{put}
use Rattle.std.specs.Prelude.{List, [], ℕ, ℤ, ◌%◌, ◌∷◌}

abbrev pub memory_here : Here → Memory
memory_here h = shown_memory h.side.lwk.table h.frames

abbrev pub view_here : Here → View
view_here h = view h.node (memory_here h)

abbrev pub with_memory : Memory → Here → Here
with_memory m h = record h { frames = written_back h.side.lwk.table m h.frames }

abbrev pub with_view : View → Here → Here
with_view v h = with_node (with_memory (stored_all v.stores (memory_here h)) h) v.node

abbrev pub space_here : Here → Space
space_here h = record { table = h.side.lwk.table; frames = h.frames; free = h.free }

abbrev pub spaced : Space → Here → Here
spaced sp h = record h { side = record h.side { lwk = record h.side.lwk { table = sp.table } }; frames = sp.frames; free = sp.free }

abbrev pub ran_last : ℕ → Here → Here
ran_last t h = record h { last = put h.last (t % h.cores) t }

abbrev pub set_break : ℕ → ℕ → Node → Node
set_break p a node = change_process p (λ (x : Process). record x { program_break = a }) node

-- an effect is made: the table and the break; then the thread has its answer
abbrev pub effect_made : ℕ → ℕ → ℤ → Effect → Here → Here
effect_made p t answer e h = with_node (spaced (after_effect e (space_here h)) h) (finishes t answer (set_break p e.program_break h.node))

abbrev pub one_step : Step → List Step
one_step s = s ∷ []
