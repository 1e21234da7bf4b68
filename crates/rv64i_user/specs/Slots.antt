-- Instructions as slots: a form as a flat name, three registers and an immediate, and what that does.
use Rattle.std.specs.Prelude.{ℕ, ◌≡◌, ◌+◌, ◌*◌, ◌/◌, ◌%◌, ◌^◌, ◌==◌, Bool, true, false, List, Option, Some, None, ℤ, pos, slice_index, if◌then◌else◌}
use Rattle.std.specs.Int.{w32, cast_signed, cast_unsigned}
use Rattle.mck_word.specs.declared.Regs.{Regs}
use Rattle.isa_model.specs.declared.names.Op.{Op}
use Rattle.isa_model.specs.declared.names.Op.TheVariants as ops
use Rattle.isa_model.specs.declared.atomics.AmOp.{AmOp}
use Rattle.isa_model.specs.declared.atomics.AmOp.TheVariants as ams
use Rattle.isa_model.specs.declared.forms.Form.{Form}
use Rattle.isa_model.specs.declared.forms.Form.TheVariants.{R, I, S, B, U, J}
use Rattle.isa_model.specs.declared.kinds.Kind.{Kind}
use Rattle.isa_model.specs.declared.kinds.Kind.TheVariants as kinds
use Rattle.isa_model.specs.declared.stops.Stop.{Stop}
use Rattle.isa_model.specs.declared.stops.Stop.TheVariants.{On, Ecall, Break}
use Rattle.isa_model.specs.Arith.{add_of}
use Rattle.isa_model.specs.Atomics.{AmIns, is_atomic}
use Rattle.isa_model.specs.Instr.{Outcome, outcome, beside, jumps, do_arith, do_atomic, do_j, do_load, execute, instr, wide_of}
use Rattle.isa_model.specs.Kinds.{kind_of}
use Rattle.isa_model.specs.Memory.{Memory}
use Rattle.isa_model.specs.Registers.{reg, goes_on}
use Rattle.rv64i_user.specs.declared.acts.Act.{Act}
use Rattle.rv64i_user.specs.declared.acts.Act.TheVariants as acts
use Rattle.rv64i_user.specs.declared.slots.Next.{Next}
use Rattle.rv64i_user.specs.declared.slots.Next.TheVariants as next
use Rattle.rv_am.specs.Words.{am}

-- the registers at a place in the code
abbrev pub at_pc : ℕ → List ℕ → Regs
at_pc p xs = record { pc = p; x = xs }

-- ---- what a form says as a slot

abbrev pub r_act : Op → Act
r_act ops.Add = acts.Add
r_act ops.Sub = acts.Sub
r_act ops.Sll = acts.Sll
r_act ops.Slt = acts.Slt
r_act ops.Sltu = acts.Sltu
r_act ops.Xor = acts.Xor
r_act ops.Srl = acts.Srl
r_act ops.Sra = acts.Sra
r_act ops.Or = acts.Or
r_act ops.And = acts.And
r_act ops.Addw = acts.Addw
r_act ops.Subw = acts.Subw
r_act ops.Sllw = acts.Sllw
r_act ops.Srlw = acts.Srlw
r_act ops.Sraw = acts.Sraw
r_act _ = acts.Other

abbrev pub i_act : Op → Act
i_act ops.Lb = acts.Lb
i_act ops.Lh = acts.Lh
i_act ops.Lw = acts.Lw
i_act ops.Ld = acts.Ld
i_act ops.Lbu = acts.Lbu
i_act ops.Lhu = acts.Lhu
i_act ops.Lwu = acts.Lwu
i_act ops.Addi = acts.Addi
i_act ops.Slti = acts.Slti
i_act ops.Sltiu = acts.Sltiu
i_act ops.Xori = acts.Xori
i_act ops.Ori = acts.Ori
i_act ops.Andi = acts.Andi
i_act ops.Slli = acts.Slli
i_act ops.Srli = acts.Srli
i_act ops.Srai = acts.Srai
i_act ops.Addiw = acts.Addiw
i_act ops.Slliw = acts.Slliw
i_act ops.Srliw = acts.Srliw
i_act ops.Sraiw = acts.Sraiw
i_act ops.Jalr = acts.Jalr
i_act ops.Fence = acts.Nothing
i_act ops.Ecall = acts.Ecall
i_act ops.Ebreak = acts.Ebreak
i_act _ = acts.Other

abbrev pub s_act : Op → Act
s_act ops.Sb = acts.Sb
s_act ops.Sh = acts.Sh
s_act ops.Sw = acts.Sw
s_act ops.Sd = acts.Sd
s_act _ = acts.Other

abbrev pub b_act : Op → Act
b_act ops.Beq = acts.Beq
b_act ops.Bne = acts.Bne
b_act ops.Blt = acts.Blt
b_act ops.Bge = acts.Bge
b_act ops.Bltu = acts.Bltu
b_act ops.Bgeu = acts.Bgeu
b_act _ = acts.Other

abbrev pub u_act : Op → Act
u_act ops.Lui = acts.Lui
u_act ops.Auipc = acts.Auipc
u_act _ = acts.Other

-- an instruction with the fields of I that writes register 0
abbrev pub nowhere : Kind → Op → Act
nowhere kinds.Load op = acts.Touch op
nowhere kinds.Jump op = acts.JumpTo
nowhere kinds.Nothing op = acts.Nothing
nowhere kinds.Call op = acts.Ecall
nowhere kinds.Break op = acts.Ebreak
nowhere kinds.Compute op = acts.Nothing

abbrev pub act_in : Form → Act
act_in (R op d a b) = if d == 0 then acts.Nothing else r_act op
act_in (I op d a z) = if d == 0 then nowhere (kind_of op) op else i_act op
act_in (S op a b z) = s_act op
act_in (B op a b z) = b_act op
act_in (U op d n) = if d == 0 then acts.Nothing else u_act op
act_in (J op d z) = if d == 0 then acts.Jump else acts.Jal

-- a register that may be written: 1 in place of 0
abbrev pub writable : ℕ → ℕ
writable d = if d == 0 then 1 else d

abbrev pub rd_in : Form → ℕ
rd_in (R op d a b) = writable d
rd_in (I op d a z) = writable d
rd_in (S op a b z) = 1
rd_in (B op a b z) = 1
rd_in (U op d n) = writable d
rd_in (J op d z) = writable d

abbrev pub rs1_in : Form → ℕ
rs1_in (R op d a b) = a
rs1_in (I op d a z) = a
rs1_in (S op a b z) = a
rs1_in (B op a b z) = a
rs1_in (U op d n) = 0
rs1_in (J op d z) = 0

abbrev pub rs2_in : Form → ℕ
rs2_in (R op d a b) = b
rs2_in (I op d a z) = 0
rs2_in (S op a b z) = b
rs2_in (B op a b z) = b
rs2_in (U op d n) = 0
rs2_in (J op d z) = 0

abbrev pub imm_in : Form → ℤ
imm_in (R op d a b) = pos 0
imm_in (I op d a z) = z
imm_in (S op a b z) = z
imm_in (B op a b z) = z
imm_in (U op d n) = cast_signed w32 n
imm_in (J op d z) = z

-- ---- what an instruction of M or A says as a slot

abbrev pub am_act : AmOp → Act
am_act ams.Mul = acts.Mul
am_act ams.Mulh = acts.Mulh
am_act ams.Mulhsu = acts.Mulhsu
am_act ams.Mulhu = acts.Mulhu
am_act ams.Div = acts.Div
am_act ams.Divu = acts.Divu
am_act ams.Rem = acts.Rem
am_act ams.Remu = acts.Remu
am_act ams.Mulw = acts.Mulw
am_act ams.Divw = acts.Divw
am_act ams.Divuw = acts.Divuw
am_act ams.Remw = acts.Remw
am_act ams.Remuw = acts.Remuw
am_act op = acts.Amo op

-- one that writes register 0
abbrev pub am_nowhere : AmOp → Act
am_nowhere op = if is_atomic op then acts.Update op else acts.Nothing

abbrev pub am_act_in : AmIns → Act
am_act_in i = if i.rd == 0 then am_nowhere i.op else am_act i.op

-- ---- what a word says as a slot: a form, an instruction of M or A, or nothing

abbrev pub act_by : Option Form → Option AmIns → Act
act_by (Some form) i = act_in form
act_by None (Some i) = am_act_in i
act_by None None = acts.Other

abbrev pub rd_by : Option Form → Option AmIns → ℕ
rd_by (Some form) i = rd_in form
rd_by None (Some i) = writable i.rd
rd_by None None = 1

abbrev pub rs1_by : Option Form → Option AmIns → ℕ
rs1_by (Some form) i = rs1_in form
rs1_by None (Some i) = i.rs1
rs1_by None None = 0

abbrev pub rs2_by : Option Form → Option AmIns → ℕ
rs2_by (Some form) i = rs2_in form
rs2_by None (Some i) = i.rs2
rs2_by None None = 0

abbrev pub imm_by : Option Form → Option AmIns → ℤ
imm_by (Some form) i = imm_in form
imm_by None i = pos 0

-- ---- what a slot does

abbrev pub does : Act → ℕ → ℕ → ℕ → ℤ → Regs → Memory → Outcome
does acts.Lui d a b z r m = execute (U ops.Lui d (cast_unsigned w32 z)) r m
does acts.Auipc d a b z r m = execute (U ops.Auipc d (cast_unsigned w32 z)) r m
does acts.Jal d a b z r m = beside m (do_j d z r)
does acts.Jump d a b z r m = beside m (do_j 0 z r)
does acts.Jalr d a b z r m = beside m (jumps r d (add_of (reg r a) (wide_of z) / 2 * 2))
does acts.JumpTo d a b z r m = beside m (jumps r 0 (add_of (reg r a) (wide_of z) / 2 * 2))
does acts.Beq d a b z r m = execute (B ops.Beq a b z) r m
does acts.Bne d a b z r m = execute (B ops.Bne a b z) r m
does acts.Blt d a b z r m = execute (B ops.Blt a b z) r m
does acts.Bge d a b z r m = execute (B ops.Bge a b z) r m
does acts.Bltu d a b z r m = execute (B ops.Bltu a b z) r m
does acts.Bgeu d a b z r m = execute (B ops.Bgeu a b z) r m
does acts.Lb d a b z r m = execute (I ops.Lb d a z) r m
does acts.Lh d a b z r m = execute (I ops.Lh d a z) r m
does acts.Lw d a b z r m = execute (I ops.Lw d a z) r m
does acts.Ld d a b z r m = execute (I ops.Ld d a z) r m
does acts.Lbu d a b z r m = execute (I ops.Lbu d a z) r m
does acts.Lhu d a b z r m = execute (I ops.Lhu d a z) r m
does acts.Lwu d a b z r m = execute (I ops.Lwu d a z) r m
does acts.Sb d a b z r m = execute (S ops.Sb a b z) r m
does acts.Sh d a b z r m = execute (S ops.Sh a b z) r m
does acts.Sw d a b z r m = execute (S ops.Sw a b z) r m
does acts.Sd d a b z r m = execute (S ops.Sd a b z) r m
does acts.Addi d a b z r m = execute (I ops.Addi d a z) r m
does acts.Slti d a b z r m = execute (I ops.Slti d a z) r m
does acts.Sltiu d a b z r m = execute (I ops.Sltiu d a z) r m
does acts.Xori d a b z r m = execute (I ops.Xori d a z) r m
does acts.Ori d a b z r m = execute (I ops.Ori d a z) r m
does acts.Andi d a b z r m = execute (I ops.Andi d a z) r m
does acts.Slli d a b z r m = execute (I ops.Slli d a z) r m
does acts.Srli d a b z r m = execute (I ops.Srli d a z) r m
does acts.Srai d a b z r m = execute (I ops.Srai d a z) r m
does acts.Addiw d a b z r m = execute (I ops.Addiw d a z) r m
does acts.Slliw d a b z r m = execute (I ops.Slliw d a z) r m
does acts.Srliw d a b z r m = execute (I ops.Srliw d a z) r m
does acts.Sraiw d a b z r m = execute (I ops.Sraiw d a z) r m
does acts.Add d a b z r m = execute (R ops.Add d a b) r m
does acts.Sub d a b z r m = execute (R ops.Sub d a b) r m
does acts.Sll d a b z r m = execute (R ops.Sll d a b) r m
does acts.Slt d a b z r m = execute (R ops.Slt d a b) r m
does acts.Sltu d a b z r m = execute (R ops.Sltu d a b) r m
does acts.Xor d a b z r m = execute (R ops.Xor d a b) r m
does acts.Srl d a b z r m = execute (R ops.Srl d a b) r m
does acts.Sra d a b z r m = execute (R ops.Sra d a b) r m
does acts.Or d a b z r m = execute (R ops.Or d a b) r m
does acts.And d a b z r m = execute (R ops.And d a b) r m
does acts.Addw d a b z r m = execute (R ops.Addw d a b) r m
does acts.Subw d a b z r m = execute (R ops.Subw d a b) r m
does acts.Sllw d a b z r m = execute (R ops.Sllw d a b) r m
does acts.Srlw d a b z r m = execute (R ops.Srlw d a b) r m
does acts.Sraw d a b z r m = execute (R ops.Sraw d a b) r m
does acts.Mul d a b z r m = outcome (do_arith (am ams.Mul d a b 0) r) m On
does acts.Mulh d a b z r m = outcome (do_arith (am ams.Mulh d a b 0) r) m On
does acts.Mulhsu d a b z r m = outcome (do_arith (am ams.Mulhsu d a b 0) r) m On
does acts.Mulhu d a b z r m = outcome (do_arith (am ams.Mulhu d a b 0) r) m On
does acts.Div d a b z r m = outcome (do_arith (am ams.Div d a b 0) r) m On
does acts.Divu d a b z r m = outcome (do_arith (am ams.Divu d a b 0) r) m On
does acts.Rem d a b z r m = outcome (do_arith (am ams.Rem d a b 0) r) m On
does acts.Remu d a b z r m = outcome (do_arith (am ams.Remu d a b 0) r) m On
does acts.Mulw d a b z r m = outcome (do_arith (am ams.Mulw d a b 0) r) m On
does acts.Divw d a b z r m = outcome (do_arith (am ams.Divw d a b 0) r) m On
does acts.Divuw d a b z r m = outcome (do_arith (am ams.Divuw d a b 0) r) m On
does acts.Remw d a b z r m = outcome (do_arith (am ams.Remw d a b 0) r) m On
does acts.Remuw d a b z r m = outcome (do_arith (am ams.Remuw d a b 0) r) m On
does (acts.Amo op) d a b z r m = do_atomic (am op d a b 0) r m
does (acts.Update op) d a b z r m = do_atomic (am op 0 a b 0) r m
does (acts.Touch op) d a b z r m = beside m (do_load op 0 (add_of (reg r a) (wide_of z)) r m)
does acts.Nothing d a b z r m = outcome (goes_on r) m On
does acts.Ecall d a b z r m = outcome r m Ecall
does acts.Ebreak d a b z r m = outcome r m Break
does acts.Other d a b z r m = instr r m

-- ---- how a slot leaves the place in the code

-- on to the slot behind, elsewhere in aligned code, or out of the code that is known
abbrev pub Ends : Next → ℕ → ℕ → Stop → Type 0
Ends next.Straight p q s = (q ≡ (p + 4) % 2 ^ 64) × (s ≡ On)
Ends next.Elsewhere p q s = (q % 4 ≡ 0) × (s ≡ On)
Ends next.Leave p q s = Unit {0}

-- the code is still known
abbrev pub stays : Next → Bool
stays next.Straight = true
stays next.Elsewhere = true
stays next.Leave = false

-- register 0 is 0
abbrev pub HasZero : List ℕ → Type 0
HasZero xs = slice_index xs 0 ≡ 0
