use Rattle.std.proofs.Common.{◌≡◌, ◌/◌, ◌%◌, true, false, sym, ap, ◌∙◌, arith}
use Rattle.isa_model.specs.Atomics.{am_size, am_result}
use Rattle.isa_model.specs.Instr.{outcome}
use Rattle.isa_model.specs.Memory.{loaded, stored}
use Rattle.isa_model.specs.Registers.{with_reg, goes_on}
use Rattle.isa_model.specs.declared.stops.Stop.TheVariants.{Fault}
use Rattle.mck_word.specs.declared.Access.TheVariants.{Write}
use Rattle.rv64i_user.specs.Stopping.{is_on, load_case, store_outcome}
use Rattle.rv_am.specs.Words.{am}
use Rattle.rv64i_user.proofs.AtomicSteps.{address, updated, not-written, not-read}
use Rattle.rv64i_user.proofs.atomic.run_atomic.Goals as goal

pub returns-then-went-clause-did : goal.returns-then-went-clause-did
returns-then-went-clause-did g c =
    let x = c.args.i.now in
    let i = am x.op x.rd x.rs1 x.rs2 x.order in
    let r = c.args.r.now in
    let m = g.M.UserMem.memory c.args.mem.now in
    let w = g.M.UserMem.memory c.store_to-went.new.self in
    let a : c.get-addr.result ≡ address i r = omega (arith, c.get-addr.ensures, c.get-addr.type_inv) in
    let n = c.size_of_access-size.ensures in
    let h : address i r % am_size i.op ≡ 0 = ap (λ z. z % am_size i.op) (sym a) ∙ ap (λ z. c.get-addr.result % z) (sym (c.from.ensures ∙ n)) ∙ c.if-addr-from-ne0.false in
    let load = ap (λ o. (o, c.load_to.new.stop)) (sym c.in-Some.is) ∙ c.load_to.ensures ∙ ap (λ z. load_case (loaded m z c.size_of_access-size.result)) a ∙ ap (λ z. load_case (loaded m (address i r) z)) n in
    let value = c.arith-v.ensures ∙ ap (am_result i.op c.in-Some.old) c.get.ensures in
    let store = c.store_to-went.ensures.stored ∙ ap (λ z. store_outcome (stored m z c.size_of_access-size.result c.arith-v.result)) a ∙ ap (λ z. store_outcome (stored m (address i r) z c.arith-v.result)) n in
    let on : is_on c.store_to-went.new.stop ≡ true = sym c.store_to-went.ensures.went ∙ c.if-went.true in
    let regs = c.advance.ensures ∙ ap goes_on (c.set.ensures ∙ ap (with_reg r i.rd) c.old_value.ensures) in
    updated i r c.advance.new.r m w c.in-Some.old c.arith-v.result c.load_to.new.stop c.store_to-went.new.stop h load value store on regs

pub returns-else-went-clause-did : goal.returns-else-went-clause-did
returns-else-went-clause-did g c =
    let x = c.args.i.now in
    let i = am x.op x.rd x.rs1 x.rs2 x.order in
    let r = c.args.r.now in
    let m = g.M.UserMem.memory c.args.mem.now in
    let w = g.M.UserMem.memory c.store_to-went.new.self in
    let a : c.get-addr.result ≡ address i r = omega (arith, c.get-addr.ensures, c.get-addr.type_inv) in
    let n = c.size_of_access-size.ensures in
    let h : address i r % am_size i.op ≡ 0 = ap (λ z. z % am_size i.op) (sym a) ∙ ap (λ z. c.get-addr.result % z) (sym (c.from.ensures ∙ n)) ∙ c.if-addr-from-ne0.false in
    let store = c.store_to-went.ensures.stored ∙ ap (λ z. store_outcome (stored m z c.size_of_access-size.result c.arith-v.result)) a ∙ ap (λ z. store_outcome (stored m (address i r) z c.arith-v.result)) n in
    let off : is_on c.store_to-went.new.stop ≡ false = sym c.store_to-went.ensures.went ∙ c.if-went.false in
    not-written i r m w c.arith-v.result c.store_to-went.new.stop h store off

pub returns-in-None-clause-did : goal.returns-in-None-clause-did
returns-in-None-clause-did g c =
    let x = c.args.i.now in
    let i = am x.op x.rd x.rs1 x.rs2 x.order in
    let r = c.args.r.now in
    let m = g.M.UserMem.memory c.args.mem.now in
    let a : c.get-addr.result ≡ address i r = omega (arith, c.get-addr.ensures, c.get-addr.type_inv) in
    let n = c.size_of_access-size.ensures in
    let h : address i r % am_size i.op ≡ 0 = ap (λ z. z % am_size i.op) (sym a) ∙ ap (λ z. c.get-addr.result % z) (sym (c.from.ensures ∙ n)) ∙ c.if-addr-from-ne0.false in
    let load = ap (λ o. (o, c.load_to.new.stop)) (sym c.in-None.is) ∙ c.load_to.ensures ∙ ap (λ z. load_case (loaded m z c.size_of_access-size.result)) a ∙ ap (λ z. load_case (loaded m (address i r) z)) n in
    ap (λ z. outcome r m (Fault (record { page = z / 4096; access = Write }))) a ∙ not-read i r m c.load_to.new.stop h load
