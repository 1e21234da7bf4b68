-- The events of the two kernels: when each may happen, and the one state that it leaves.
-- Source: this project's own, after the idea of IHK/McKernel.
use Rattle.hybrid_model.specs.AckClear.{ack_clear, may_ack_clear}
use Rattle.hybrid_model.specs.Act.{act_file, may_act}
use Rattle.hybrid_model.specs.Answer.{give_answer, may_answer}
use Rattle.hybrid_model.specs.Assign.{assign, may_assign}
use Rattle.hybrid_model.specs.BeginVm.{begin_vm, may_begin_vm}
use Rattle.hybrid_model.specs.Copy.{copy, may_copy}
use Rattle.hybrid_model.specs.Deliver.{after_deliver}
use Rattle.hybrid_model.specs.Fetch.{fetch_from}
use Rattle.hybrid_model.specs.Finish.{finish_here, may_finish}
use Rattle.hybrid_model.specs.Intake.{intake}
use Rattle.hybrid_model.specs.Interrupt.{interrupt, may_interrupt}
use Rattle.hybrid_model.specs.Miss.{may_miss, miss}
use Rattle.hybrid_model.specs.Pairs.{Here, Pair, here, put_here, with_side}
use Rattle.hybrid_model.specs.Park.{may_park, park_here}
use Rattle.hybrid_model.specs.Pin.{may_pin, pin}
use Rattle.hybrid_model.specs.Reap.{may_reap, reap}
use Rattle.hybrid_model.specs.Rings.{ring}
use Rattle.hybrid_model.specs.Run.{may_run_for, run}
use Rattle.hybrid_model.specs.Trap.{after_trap}
use Rattle.hybrid_model.specs.Script.{send_line}
use Rattle.hybrid_model.specs.Unpark.{may_unpark, unpark_here}
use Rattle.hybrid_model.specs.Unpin.{may_unpin, unpin}
use Rattle.hybrid_model.specs.Wait.{wait}
use Rattle.hybrid_model.specs.Workers.{has_worker, with_linux}
use Rattle.hybrid_model.specs.declared.events.Event.{Event}
use Rattle.hybrid_model.specs.declared.events.Event.TheVariants.{AckClear, Act, Answer, Assign, BeginVm, Copy, Deliver, Fetch, Finish, Intake, Interrupt, Miss, Park, Pin, Reap, Run, Script, Trap, Unpark, Unpin, Wait}
use Rattle.kernel_model.specs.Nodes.{Node, ScriptLine, is_there, thread_of}
use Rattle.kernel_model.specs.Traps.{line_of, may_deliver, may_script, may_trap, may_wait}
use Rattle.std.specs.Prelude.{Bool, None, Option, Some, length, not, ℕ, ◌&&◌, ◌==◌}

abbrev pub may_here : Event → Here → Bool
may_here (Run core t n) h = may_run_for core t.0 n h
may_here (Trap t) h = may_trap h.node t.0
may_here (Deliver t) h = may_deliver h.node t.0
may_here (Intake q) h = not (length h.side.to_lwk == 0)
may_here (Answer q w) h = has_worker h w && may_answer h.side w
may_here (BeginVm t) h = may_begin_vm t.0 h
may_here (Interrupt t) h = may_interrupt t.0 h
may_here (Wait t) h = may_wait h.node t.0
may_here (Reap p) h = may_reap p.0 h
may_here (Script k) h = may_script h.node k
may_here (Fetch q r) h = not (length (ring r h.side.to_linux) == 0)
may_here (Assign q w) h = has_worker h w && may_assign h.side.linux h.side.book w
may_here (Miss q w) h = has_worker h w && may_miss h.side.linux h.side.book h.node.files w
may_here (Pin q w) h = has_worker h w && may_pin h.side.linux h.side.book h.node.files w
may_here (Copy q w) h = has_worker h w && may_copy h.side.linux h.side.book h.node.files w
may_here (Unpin q w) h = has_worker h w && may_unpin h.side.linux h.side.book h.node.files w
may_here (Act q w) h = has_worker h w && may_act h.side.linux h.side.book h.node.files w
may_here (Park q w) h = has_worker h w && may_park h.side.linux h.side.book h.node.files w
may_here (Unpark p n) h = may_unpark p.0 h.side.linux h.side.book h.node.files h.turns n.0
may_here (Finish q w) h = has_worker h w && may_finish h.side.linux h.side.book w
may_here (AckClear q) h = may_ack_clear h.side.linux h.side.round

abbrev pub after_here : Event → ℕ → Here → Here
after_here (Run core t n) p h = run t.0 n h
after_here (Trap t) p h = after_trap p t.0 h
after_here (Deliver t) p h = after_deliver t.0 h
after_here (Intake q) p h = intake p h.side.to_lwk h
after_here (Answer q w) p h = give_answer w h
after_here (BeginVm t) p h = begin_vm p t.0 h
after_here (Interrupt t) p h = interrupt t.0 h
after_here (Wait t) p h = wait t.0 h
after_here (Reap q) p h = reap p h
after_here (Script k) p h = send_line k h
after_here (Fetch q r) p h = fetch_from r (ring r h.side.to_linux) h
after_here (Assign q w) p h = with_linux (assign h.side.linux h.side.book w) h
after_here (Miss q w) p h = miss p w h
after_here (Pin q w) p h = with_side h (record h.side { linux = pin h.side.linux w })
after_here (Copy q w) p h = copy p w h
after_here (Unpin q w) p h = with_side h (record h.side { linux = unpin h.side.linux w })
after_here (Act q w) p h = act_file p w h
after_here (Park q w) p h = park_here p w h
after_here (Unpark q n) p h = unpark_here p n.0 h
after_here (Finish q w) p h = finish_here w h
after_here (AckClear q) p h = ack_clear h

abbrev pub of_thread : Node → ℕ → ℕ
of_thread node t = (thread_of node t).process

abbrev pub of_line : Option ScriptLine → ℕ
of_line None = 0
of_line (Some l) = l.process

abbrev pub process_of_event : Node → Event → ℕ
process_of_event node (Run core t n) = of_thread node t.0
process_of_event node (Trap t) = of_thread node t.0
process_of_event node (Deliver t) = of_thread node t.0
process_of_event node (Intake p) = p.0
process_of_event node (Answer p w) = p.0
process_of_event node (BeginVm t) = of_thread node t.0
process_of_event node (Interrupt t) = of_thread node t.0
process_of_event node (Wait t) = of_thread node t.0
process_of_event node (Reap p) = p.0
process_of_event node (Script k) = of_line (line_of node k)
process_of_event node (Fetch p r) = p.0
process_of_event node (Assign p w) = p.0
process_of_event node (Miss p w) = p.0
process_of_event node (Pin p w) = p.0
process_of_event node (Copy p w) = p.0
process_of_event node (Unpin p w) = p.0
process_of_event node (Act p w) = p.0
process_of_event node (Park p w) = p.0
process_of_event node (Unpark p q) = p.0
process_of_event node (Finish p w) = p.0
process_of_event node (AckClear p) = p.0

abbrev pub may : Pair → Event → Bool
may pair e = let p = process_of_event pair.node e in is_there pair.node p && may_here e (here pair p)

abbrev pub after : Pair → Event → Pair
after pair e = let p = process_of_event pair.node e in put_here pair p (after_here e p (here pair p))
