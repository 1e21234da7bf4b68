use Rattle.std.proofs.Common.{◌≡◌, ◌/◌, ◌%◌, if◌then◌else◌, sym, ap, ◌∙◌, arith}
use Rattle.isa_model.specs.Atomics.{am_size, am_result}
use Rattle.isa_model.specs.Instr.{gives, outcome}
use Rattle.isa_model.specs.Memory.{loaded, stored}
use Rattle.isa_model.specs.declared.stops.Stop.TheVariants.{Fault}
use Rattle.mck_word.specs.declared.Access.TheVariants.{Write}
use Rattle.rv64i_user.specs.Slots.{at_pc}
use Rattle.rv64i_user.specs.Stopping.{is_on, load_case, store_outcome}
use Rattle.rv_am.specs.Words.{am}
use Rattle.rv64i_user.proofs.AtomicSteps.{address, ended, not-read}
use Rattle.rv64i_user.proofs.slot_atomics.atomic.Goals as goal

pub returns-in-Some-clause-did : goal.returns-in-Some-clause-did
returns-in-Some-clause-did g c =
    let i = am c.args.op c.args.to c.args.slot.now.rs1 c.args.slot.now.rs2 0 in
    let r = at_pc c.args.pc.now c.args.x.now in
    let q = at_pc c.after_store.new.pc c.after_store.new.x in
    let m = g.P.PageMem.memory c.args.mem.now.mem in
    let w = g.P.PageMem.memory c.store_aside-aside.new.self.mem in
    let t = c.store_aside-aside.new.stop in
    let a : c.get-addr.result ≡ address i r = omega (arith, c.get-addr.ensures, c.get-addr.type_inv) in
    let n = c.size_of_access-size.ensures in
    let h : address i r % am_size i.op ≡ 0 = ap (λ z. z % am_size i.op) (sym a) ∙ ap (λ z. c.get-addr.result % z) (sym (c.from.ensures ∙ n)) ∙ c.if-addr-from-ne0.false in
    let load = ap (λ o. (o, c.load_to.new.stop)) (sym c.in-Some.is) ∙ c.load_to.ensures ∙ ap (λ z. load_case (loaded m z c.size_of_access-size.result)) a ∙ ap (λ z. load_case (loaded m (address i r) z)) n in
    let value = c.result_of-v.ensures ∙ ap (am_result i.op c.in-Some.old) c.get.ensures in
    let store = c.store_aside-aside.ensures.stored ∙ ap (λ z. store_outcome (stored m z c.size_of_access-size.result c.result_of-v.result)) a ∙ ap (λ z. store_outcome (stored m (address i r) z c.result_of-v.result)) n in
    let regs = c.after_store.ensures.did ∙ ap (λ z. if is_on t then gives r i.rd z else r) c.old_value.ensures in
    ended i r q m w c.in-Some.old c.result_of-v.result c.load_to.new.stop t h load value store regs

pub returns-in-None-clause-did : goal.returns-in-None-clause-did
returns-in-None-clause-did g c =
    let i = am c.args.op c.args.to c.args.slot.now.rs1 c.args.slot.now.rs2 0 in
    let r = at_pc c.args.pc.now c.args.x.now in
    let m = g.P.PageMem.memory c.args.mem.now.mem in
    let a : c.get-addr.result ≡ address i r = omega (arith, c.get-addr.ensures, c.get-addr.type_inv) in
    let n = c.size_of_access-size.ensures in
    let h : address i r % am_size i.op ≡ 0 = ap (λ z. z % am_size i.op) (sym a) ∙ ap (λ z. c.get-addr.result % z) (sym (c.from.ensures ∙ n)) ∙ c.if-addr-from-ne0.false in
    let load = ap (λ o. (o, c.load_to.new.stop)) (sym c.in-None.is) ∙ c.load_to.ensures ∙ ap (λ z. load_case (loaded m z c.size_of_access-size.result)) a ∙ ap (λ z. load_case (loaded m (address i r) z)) n in
    ap (λ z. outcome r m (Fault (record { page = z / 4096; access = Write }))) a ∙ not-read i r m c.load_to.new.stop h load
