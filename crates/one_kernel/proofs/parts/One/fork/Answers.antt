use Rattle.kernel_model.specs.Steps.{one_trap}
use Rattle.kernel_model.specs.declared.steps.Step.TheVariants.{Trap}
use Rattle.key_rows.specs.Table.{Table}
use Rattle.kernel_tables.specs.Shown.{node_of}
use Rattle.mck_word.specs.Maps.{at, count, put}
use Rattle.mck_word.specs.declared.Pid.{Pid}
use Rattle.one_calls.specs.Here.{here_with}
use Rattle.one_kernel.proofs.After.{after-born, after-is, process-is}
use Rattle.one_kernel.proofs.Calling.{both}
use Rattle.one_kernel.proofs.ForkParts.{born-here}
use Rattle.one_kernel.proofs.Sleepers.{may-fork}
use Rattle.one_kernel.proofs.Viewing.{own-thread, rest_of}
use Rattle.one_kernel.proofs.parts.One.fork.Goals as goal
use Rattle.one_kernel.specs.Parts.{here_in, one_of}
use Rattle.one_kernel.specs.declared.calls.Call.{Call}
use Rattle.one_kernel.specs.declared.parts.One.{One}
use Rattle.one_kernel.specs.declared.parts.Own.{Own}
use Rattle.std.proofs.Common.{ap, refl, sym, ◌∙◌}
use Rattle.std.specs.Prelude.{Option, ◌-◌}

pub row_mut-own-requires : goal.row_mut-own-requires
row_mut-own-requires c =
    let x = c.args.self.now in
    let p = c.process_of_thread-p.result.0 in
    own-thread x p c.args.t.0 c.requires.ready.shown (process-is x c.args.t.0 p c.process_of_thread-p.ensures) (both _ _ (both _ _ c.requires.ready.may).0).0

pub fork-requires-clause-may : goal.fork-requires-clause-may
fork-requires-clause-may c = may-fork c.args.self.now c.args.t.0 c.requires.ready.shown c.requires.ready.may c.requires.thread c.requires.room.process

pub fork-requires-clause-fork : goal.fork-requires-clause-fork
unfolding one_of node_of
fork-requires-clause-fork c = λ files. c.requires.fork

pub fork-requires-clause-pages : goal.fork-requires-clause-pages
fork-requires-clause-pages c =
    let x = c.args.self.now in
    let p = c.process_of_thread-p.result.0 in
    c.requires.room.pages c.row_mut-own.result.now (ap (λ q. at x.own.map q) (process-is x c.args.t.0 p c.process_of_thread-p.ensures) ∙ c.row_mut-own.ensures.value)

pub returns-in_default : goal.returns-in_default
returns-in_default c =
    let x = c.args.self.now in
    let t = c.args.t.0 in
    let p = c.process_of_thread-p.result.0 in
    let w = c.row_mut-own.result.now in
    let o : Own = record w { memory = c.fork.new.memory } in
    let y : One = record x { node = c.fork.new.node; own = record x.own { map = put x.own.map p o }; unborn = c.fork.new.unborn } in
    after-is x y p w o (Trap c.args.t) c.row_mut-own.ensures.value refl (process-is x t p c.process_of_thread-p.ensures)
    (ap (λ (r : Option Pid). here_with c.fork.new.node c.fork.new.memory.map c.fork.new.unborn.map (count w.memory.map) p r (rest_of x w)) (sym c.in_default.is) ∙ c.fork.ensures (rest_of x w) refl)

pub returns : goal.returns
returns c =
    let x = c.args.self.now in
    let t = c.args.t.0 in
    let p = c.process_of_thread-p.result.0 in
    let w = c.row_mut-own.result.now in
    let q = c.in-Some.child in
    let o : Own = record w { memory = c.fork.new.memory } in
    let b : Own = record { memory = c.replace-memory.result; calls = c.new-calls.result } in
    let y : One = record x { node = c.fork.new.node; own = c.put.new.self; files = c.share.new.self; free = c.saturating_sub-self.result; unborn = c.replace-memory.new.dest } in
    let pages = count w.memory.map in
    after-born x y p q.0 w o b (Trap c.args.t) c.row_mut-own.ensures.value c.put.ensures.row (process-is x t p c.process_of_thread-p.ensures)
    (born-here x y p q w o b pages (one_trap p t (here_in x w)) (c.saturating_sub-self.ensures ∙ ap (λ n. x.free - n) c.count-pages.ensures) c.share.ensures refl (ap (λ (rows : Table Call). rows.map) c.new-calls.ensures)
    ((λ i. here_with c.fork.new.node c.fork.new.memory.map (c.replace-memory.ensures.value i).map pages p (sym c.in-Some.is i) (rest_of x w)) ∙ c.fork.ensures (rest_of x w) refl))
