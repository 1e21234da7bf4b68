-- Trap: a thread that stopped enters the lightweight kernel, which answers, raises a signal, begins a call, a change or a process.
-- Source: this project's own, after the idea of IHK/McKernel.
use Rattle.hybrid_model.specs.OneProcess.{effect_made, memory_here, ran_last, space_here, view_here, with_view}
use Rattle.hybrid_model.specs.Pairs.{Here, ring_of, with_node, with_side}
use Rattle.hybrid_model.specs.Rings.{post}
use Rattle.hybrid_model.specs.Sides.{Side, new_side, no_lwk}
use Rattle.hybrid_model.specs.Spaces.{Space, copied_pages, shown_memory, written_back}
use Rattle.ikc_ring.specs.declared.CallRequest.{CallRequest}
use Rattle.ikc_ring.specs.declared.Msg.TheVariants.{Request}
use Rattle.isa_model.specs.Memory.{Memory}
use Rattle.kernel_model.specs.MemoryCalls.{answer_of_change, effect_of}
use Rattle.kernel_model.specs.Nodes.{process_of, set_does}
use Rattle.kernel_model.specs.Progress.{Progress}
use Rattle.kernel_model.specs.Signals.{Store, stored_all}
use Rattle.kernel_model.specs.Traps.{Begins, Changes, Done, Forks, Trapped, trap}
use Rattle.kernel_model.specs.declared.Does.TheVariants.{Called}
use Rattle.mck_word.specs.Maps.{change, entries, no_rows, put}
use Rattle.request_book.specs.declared.ReqState.TheVariants.{Posted}
use Rattle.std.specs.Prelude.{List, Some, false, length, ℕ, ◌+◌}

abbrev pub call_made : ℕ → ℕ → Progress → CallRequest
call_made q t p = record { q = record { 0 = q }; tid = record { 0 = t }; call = p.call; args = p.arguments }

-- a call begins: it has the next number, and its Request is posted to the ring of its thread
unfoldable pub begin_call : ℕ → ℕ → Progress → Side → Side
begin_call r t p s =
    let q = s.book.next in
    let c = call_made q t p in
    record s {
      lwk = record s.lwk { callers = put s.lwk.callers t (record { request = q; marked = false }) };
      book = record s.book { next = q + 1; rows = put s.book.rows q (Posted, c) };
      to_linux = post r (Request c) s.to_linux;
    }

-- a process begins, with a copy of the caller's memory in the lowest free frames, and its own stores
abbrev pub child_space : Memory → Space → Space
child_space m sp = copied_pages (entries m) (record sp { table = no_rows })

abbrev pub with_stores : List Store → Space → Space
with_stores stores sp = record sp { frames = written_back sp.table (stored_all stores (shown_memory sp.table sp.frames)) sp.frames }

abbrev pub child_side : Here → Space → Side
child_side h sp = record (new_side h.rings) { lwk = record no_lwk { table = sp.table } }

abbrev pub with_child : ℕ → Space → Here → Here
with_child child sp h = record h { frames = sp.frames; free = sp.free; born = Some (child, child_side h sp) }

abbrev pub forked : ℕ → List Store → Here → Here
forked child stores h = with_child child (with_stores stores (child_space (memory_here h) (space_here h))) h

abbrev pub trapped : ℕ → ℕ → Trapped → Here → Here
trapped p t (Done v) h = with_view v h
trapped p t (Forks v child stores) h = forked child stores (with_view v h)
trapped p t (Begins node progress) h = with_node (with_side h (begin_call (ring_of h t) t progress h.side)) (set_does t Called node)
trapped p t (Changes node change) h = effect_made p t (answer_of_change change) (effect_of (process_of node p) change) (with_node h node)

unfoldable pub after_trap : ℕ → ℕ → Here → Here
after_trap p t h = ran_last t (trapped p t (trap t (length h.free) (view_here h)) h)
