-- One instruction over registers and a memory.
-- Source: RISC-V Unprivileged ISA.
use Rattle.std.specs.Prelude.{ℕ, ◌*◌, ◌/◌, ◌%◌, ◌^◌, ◌==◌, ◌||◌, ℤ, Option, Some, None, Result, Ok, Err, if◌then◌else◌}
use Rattle.std.specs.Int.{w64, cast_unsigned}
use Rattle.mck_word.specs.Word.{sext_of}
use Rattle.mck_word.specs.declared.Regs.{Regs}
use Rattle.isa_model.specs.Decode.{decoded}
use Rattle.isa_model.specs.declared.names.Op.{Op}
use Rattle.isa_model.specs.declared.names.Op.TheVariants.{Lui}
use Rattle.isa_model.specs.declared.forms.Form.{Form}
use Rattle.isa_model.specs.declared.forms.Form.TheVariants.{R, I, S, B, U, J}
use Rattle.isa_model.specs.declared.stops.Lack.{Lack}
use Rattle.isa_model.specs.declared.stops.Stop.{Stop}
use Rattle.isa_model.specs.declared.stops.Stop.TheVariants.{On, Ecall, Break, Illegal, Misaligned, Fault}
use Rattle.isa_model.specs.declared.kinds.Kind.{Kind}
use Rattle.isa_model.specs.declared.kinds.Kind.TheVariants as kinds
use Rattle.isa_model.specs.Memory.{Memory, fetched, loaded, stored, lacks, number_at, put_number}
use Rattle.isa_model.specs.Atomics.{AmIns, am_decoded, is_atomic, am_size, am_result, old_value}
use Rattle.mck_word.specs.declared.Access.TheVariants.{Read, Write}
use Rattle.isa_model.specs.Registers.{reg, with_reg, goes_on}
use Rattle.isa_model.specs.Kinds.{kind_of}
use Rattle.isa_model.specs.Arith.{add_of, computed, is_taken, load_size, load_value, store_size}

-- Registers, memory and stop after an instruction. A stop other than On leaves the other two as they were.
pub record Outcome : Type 0 where
  pub regs : Regs
  pub memory : Memory
  pub stop : Stop

abbrev pub outcome : Regs → Memory → Stop → Outcome
outcome r m s = record { regs = r; memory = m; stop = s }

-- a signed number in 64 bits
abbrev pub wide_of : ℤ → ℕ
wide_of z = cast_unsigned w64 z

-- a result into a register, and on
abbrev pub gives : Regs → ℕ → ℕ → Regs
gives r rd v = goes_on (with_reg r rd v)

-- to a target, with the address of the next instruction into a register
abbrev pub jumps : Regs → ℕ → ℕ → Regs × Stop
jumps r rd target =
    if target % 4 == 0 then (with_reg (record r { pc = target }) rd (add_of r.pc 4), On) else (r, Misaligned)

unfoldable pub do_r : Op → ℕ → ℕ → ℕ → Regs → Regs
do_r op rd a b r = gives r rd (computed op (reg r a) (reg r b))

abbrev pub upper : Op → ℕ → ℕ → ℕ
upper Lui pc v = v
upper _ pc v = add_of pc v

unfoldable pub do_u : Op → ℕ → ℕ → Regs → Regs
do_u op rd imm r = gives r rd (upper op r.pc (sext_of 32 (imm * 2 ^ 12)))

unfoldable pub do_j : ℕ → ℤ → Regs → Regs × Stop
do_j rd imm r = jumps r rd (add_of r.pc (wide_of imm))

unfoldable pub do_b : Op → ℕ → ℕ → ℤ → Regs → Regs × Stop
do_b op a b imm r =
    if is_taken op (reg r a) (reg r b) then (let target = add_of r.pc (wide_of imm) in if target % 4 == 0 then (record r { pc = target }, On) else (r, Misaligned))
    else (goes_on r, On)

abbrev pub load_of : Op → ℕ → Regs → Result ℕ Lack → Regs × Stop
load_of op rd r (Ok v) = (gives r rd (load_value op v), On)
load_of op rd r (Err l) = (r, Fault l)

unfoldable pub do_load : Op → ℕ → ℕ → Regs → Memory → Regs × Stop
do_load op rd addr r m = load_of op rd r (loaded m addr (load_size op))

abbrev pub do_kind : Kind → Op → ℕ → ℕ → ℤ → Regs → Memory → Regs × Stop
do_kind kinds.Load op rd a imm r m = do_load op rd (add_of (reg r a) (wide_of imm)) r m
do_kind kinds.Jump op rd a imm r m = jumps r rd (add_of (reg r a) (wide_of imm) / 2 * 2)
do_kind kinds.Nothing op rd a imm r m = (goes_on r, On)
do_kind kinds.Call op rd a imm r m = (r, Ecall)
do_kind kinds.Break op rd a imm r m = (r, Break)
do_kind kinds.Compute op rd a imm r m = (gives r rd (computed op (reg r a) (wide_of imm)), On)

unfoldable pub do_i : Op → ℕ → ℕ → ℤ → Regs → Memory → Regs × Stop
do_i op rd a imm r m = do_kind (kind_of op) op rd a imm r m

abbrev pub store_case : Regs → Result (Unit {0}) Lack → Memory → Outcome
store_case r (Ok _) m = outcome (goes_on r) m On
store_case r (Err l) m = outcome r m (Fault l)

abbrev pub store_of : Regs → Result (Unit {0}) Lack × Memory → Outcome
store_of r s = store_case r s.0 s.1

unfoldable pub do_s : Op → ℕ → ℕ → ℤ → Regs → Memory → Outcome
do_s op a b imm r m = store_of r (stored m (add_of (reg r a) (wide_of imm)) (store_size op) (reg r b))

abbrev pub beside : Memory → Regs × Stop → Outcome
beside m d = outcome d.0 m d.1

abbrev pub execute : Form → Regs → Memory → Outcome
execute (R op rd a b) r m = outcome (do_r op rd a b r) m On
execute (I op rd a imm) r m = beside m (do_i op rd a imm r m)
execute (S op a b imm) r m = do_s op a b imm r m
execute (B op a b imm) r m = beside m (do_b op a b imm r)
execute (U op rd imm) r m = outcome (do_u op rd imm r) m On
execute (J op rd imm) r m = beside m (do_j rd imm r)

-- ---- multiplication, division and atomic operations

abbrev pub do_arith : AmIns → Regs → Regs
do_arith i r = gives r i.rd (am_result i.op (reg r i.rs1) (reg r i.rs2))

-- one step: the old value into a register, and the result into memory
abbrev pub do_atomic_at : AmIns → ℕ → Regs → Memory → Outcome
do_atomic_at i addr r m =
    let old = number_at m addr (am_size i.op) in
    outcome (gives r i.rd (old_value i.op old)) (put_number m addr (am_size i.op) (am_result i.op old (reg r i.rs2))) On

-- both rights are needed, and the fault names the write access
abbrev pub do_atomic : AmIns → Regs → Memory → Outcome
do_atomic i r m =
    let addr = reg r i.rs1 % 2 ^ 64 in
    if addr % am_size i.op == 0 then
    (if lacks m Read (addr / 4096) || lacks m Write (addr / 4096) then outcome r m (Fault (record { page = addr / 4096; access = Write }))
    else do_atomic_at i addr r m)
    else outcome r m Misaligned

unfoldable pub do_am : AmIns → Regs → Memory → Outcome
do_am i r m = if is_atomic i.op then do_atomic i r m else outcome (do_arith i r) m On

abbrev pub execute_am : Option AmIns → Regs → Memory → Outcome
execute_am None r m = outcome r m Illegal
execute_am (Some i) r m = do_am i r m

abbrev pub execute_any : Option Form → ℕ → Regs → Memory → Outcome
execute_any None w r m = execute_am (am_decoded w) r m
execute_any (Some form) w r m = execute form r m

abbrev pub after_fetch : Result ℕ Lack → Regs → Memory → Outcome
after_fetch (Err l) r m = outcome r m (Fault l)
after_fetch (Ok w) r m = execute_any (decoded w) w r m

-- One instruction: its address, its fetch, its word, and what it does.
unfoldable pub instr : Regs → Memory → Outcome
instr r m = if r.pc % 4 == 0 then after_fetch (fetched m r.pc) r m else outcome r m Misaligned
