-- Intake: the lightweight kernel takes the first message from a process's proxy: a reply, an acknowledgement or a fault.
-- Source: this project's own, after the idea of IHK/McKernel.
use Rattle.hybrid_model.specs.OneProcess.{effect_made, memory_here, one_step}
use Rattle.hybrid_model.specs.Pairs.{Here, with_node, with_side}
use Rattle.hybrid_model.specs.Sides.{Caller, Side}
use Rattle.ikc_ring.specs.declared.Msg.{Msg}
use Rattle.ikc_ring.specs.declared.Msg.TheVariants as Messages
use Rattle.ikc_ring.specs.declared.Msg.TheVariants.{Ack, Answer, Clear, Fault, Interrupt, Reply, Request}
use Rattle.kernel_model.specs.MemoryCalls.{answer_of_change, effect_of, refusal_at_end}
use Rattle.kernel_model.specs.Nodes.{change_in, process_of, thread_of}
use Rattle.kernel_model.specs.Traps.{finishes, returns}
use Rattle.kernel_model.specs.declared.Change.{Change}
use Rattle.kernel_model.specs.declared.steps.Step.{Step}
use Rattle.kernel_model.specs.declared.steps.Step.TheVariants as Steps
use Rattle.mck_word.specs.Identifiers.{tid}
use Rattle.mck_word.specs.Maps.{Map, cut, entries, put}
use Rattle.mck_word.specs.declared.Access.{Access}
use Rattle.std.specs.Prelude.{List, None, Option, Some, [], find, length, option_map, unwrap_or, ℕ, ℤ, ◌==◌, ◌∷◌}

-- the thread whose call has the number
abbrev pub caller_of : Map Caller → ℕ → Option ℕ
caller_of callers q = option_map (λ e. e.0) (find (λ e. e.1.request == q) (entries callers))

abbrev pub take_reply_of : Option ℕ → ℤ → List Msg → Here → Here
take_reply_of None code rest h = h
take_reply_of (Some t) code rest h =
    with_node (with_side h (record h.side { lwk = record h.side.lwk { callers = cut h.side.lwk.callers t }; to_lwk = rest })) (returns t code h.node)

-- the thread of the request gets its answer
unfoldable pub take_reply : ℕ → ℤ → List Msg → Here → Here
take_reply q code rest h = take_reply_of (caller_of h.side.lwk.callers q) code rest h

unfoldable pub take_fault : ℕ → ℕ → Access → List Msg → Here → Here
take_fault w page a rest h = with_side h (record h.side { lwk = record h.side.lwk { noted = put h.side.lwk.noted w (page, a) }; to_lwk = rest })

abbrev pub round_over : List Msg → Side → Side
round_over rest s = record s { lwk = record s.lwk { changing = None }; round = None; to_lwk = rest }

abbrev pub changed : ℕ → ℕ → Change → Option ℤ → Here → Here
changed p t c (Some answer) h = with_node h (finishes t answer h.node)
changed p t c None h = effect_made p t (answer_of_change c) (effect_of (process_of h.node p) c) h

abbrev pub change_made_of : ℕ → ℕ → Option Change → Here → Here
change_made_of p t None h = h
change_made_of p t (Some c) h = changed p t c (refusal_at_end (process_of h.node p) (memory_here h) (length h.free) c) h

abbrev pub changing_thread : Side → ℕ
changing_thread s = unwrap_or s.lwk.changing 0

-- the change of the thread to which the round belongs is decided and made
unfoldable pub take_ack : ℕ → List Msg → Here → Here
take_ack p rest h =
    let t = changing_thread h.side in
    change_made_of p t (change_in (thread_of h.node t).does) (with_side h (round_over rest h.side))

abbrev pub intake : ℕ → List Msg → Here → Here
intake p [] h = h
intake p (Request c ∷ rest) h = h
intake p (Clear r ∷ rest) h = h
intake p (Answer w page number row ∷ rest) h = h
intake p (Interrupt q place ∷ rest) h = h
intake p (Reply q code ∷ rest) h = take_reply q.0 code rest h
intake p (Ack ∷ rest) h = take_ack p rest h
intake p (Fault w page a ∷ rest) h = take_fault w page a rest h

abbrev pub caller_number : Option ℕ → ℕ
caller_number None = 0
caller_number (Some t) = t

abbrev pub image_of_intake : List Msg → Side → List Step
image_of_intake (Messages.Reply q code ∷ ms) s = one_step (Steps.Return (tid (caller_number (caller_of s.lwk.callers q.0))))
image_of_intake (Messages.Ack ∷ ms) s = one_step (Steps.VmFinish (tid (changing_thread s)))
image_of_intake _ s = []
