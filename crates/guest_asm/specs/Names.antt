-- The names of instructions and registers (RISC-V assembler), and which operands an instruction has.
use Rattle.std.specs.Prelude.{ℕ, ◌==◌, nat_lt, bytes_eq, codes, List, [], ◌∷◌, Option, Some, None, find, get_or, if◌then◌else◌}
use Rattle.mck_word.specs.Lists.{count_from}
use Rattle.mck_word.specs.Numbers.{number_of}
use Rattle.isa_model.specs.Table.{all_ops}
use Rattle.isa_model.specs.declared.names.Op.{Op}
use Rattle.isa_model.specs.declared.names.Op.TheVariants.{Lui, Auipc, Jal, Jalr, Beq, Bne, Blt, Bge, Bltu, Bgeu, Lb, Lh, Lw, Ld, Lbu, Lhu, Lwu, Sb, Sh, Sw, Sd, Addi, Slti, Sltiu, Xori, Ori, Andi, Slli, Srli, Srai, Addiw, Slliw, Srliw, Sraiw, Add, Sub, Sll, Slt, Sltu, Xor, Srl, Sra, Or, And, Addw, Subw, Sllw, Srlw, Sraw, Fence, Ecall, Ebreak}
use Rattle.guest_asm.specs.declared.layout.Layout.{Layout}
use Rattle.guest_asm.specs.declared.layout.Layout.TheVariants as layout

abbrev pub name_of : Op → List ℕ
name_of Lui = codes "lui"
name_of Auipc = codes "auipc"
name_of Jal = codes "jal"
name_of Jalr = codes "jalr"
name_of Beq = codes "beq"
name_of Bne = codes "bne"
name_of Blt = codes "blt"
name_of Bge = codes "bge"
name_of Bltu = codes "bltu"
name_of Bgeu = codes "bgeu"
name_of Lb = codes "lb"
name_of Lh = codes "lh"
name_of Lw = codes "lw"
name_of Ld = codes "ld"
name_of Lbu = codes "lbu"
name_of Lhu = codes "lhu"
name_of Lwu = codes "lwu"
name_of Sb = codes "sb"
name_of Sh = codes "sh"
name_of Sw = codes "sw"
name_of Sd = codes "sd"
name_of Addi = codes "addi"
name_of Slti = codes "slti"
name_of Sltiu = codes "sltiu"
name_of Xori = codes "xori"
name_of Ori = codes "ori"
name_of Andi = codes "andi"
name_of Slli = codes "slli"
name_of Srli = codes "srli"
name_of Srai = codes "srai"
name_of Addiw = codes "addiw"
name_of Slliw = codes "slliw"
name_of Srliw = codes "srliw"
name_of Sraiw = codes "sraiw"
name_of Add = codes "add"
name_of Sub = codes "sub"
name_of Sll = codes "sll"
name_of Slt = codes "slt"
name_of Sltu = codes "sltu"
name_of Xor = codes "xor"
name_of Srl = codes "srl"
name_of Sra = codes "sra"
name_of Or = codes "or"
name_of And = codes "and"
name_of Addw = codes "addw"
name_of Subw = codes "subw"
name_of Sllw = codes "sllw"
name_of Srlw = codes "srlw"
name_of Sraw = codes "sraw"
name_of Fence = codes "fence"
name_of Ecall = codes "ecall"
name_of Ebreak = codes "ebreak"

-- the instruction of a name
abbrev pub named : List ℕ → Option Op
named word = find (λ op. bytes_eq (name_of op) word) all_ops

-- which operands stand behind the name
abbrev pub layout_of : Op → Layout
layout_of Fence = layout.Alone
layout_of Ecall = layout.Alone
layout_of Ebreak = layout.Alone
layout_of Jalr = layout.Place
layout_of Lb = layout.Place
layout_of Lh = layout.Place
layout_of Lw = layout.Place
layout_of Ld = layout.Place
layout_of Lbu = layout.Place
layout_of Lhu = layout.Place
layout_of Lwu = layout.Place
layout_of Sb = layout.Store
layout_of Sh = layout.Store
layout_of Sw = layout.Store
layout_of Sd = layout.Store
layout_of Beq = layout.Branch
layout_of Bne = layout.Branch
layout_of Blt = layout.Branch
layout_of Bge = layout.Branch
layout_of Bltu = layout.Branch
layout_of Bgeu = layout.Branch
layout_of Lui = layout.Upper
layout_of Auipc = layout.Upper
layout_of Jal = layout.Jump
layout_of Add = layout.Registers
layout_of Sub = layout.Registers
layout_of Sll = layout.Registers
layout_of Slt = layout.Registers
layout_of Sltu = layout.Registers
layout_of Xor = layout.Registers
layout_of Srl = layout.Registers
layout_of Sra = layout.Registers
layout_of Or = layout.Registers
layout_of And = layout.Registers
layout_of Addw = layout.Registers
layout_of Subw = layout.Registers
layout_of Sllw = layout.Registers
layout_of Srlw = layout.Registers
layout_of Sraw = layout.Registers
layout_of _ = layout.Immediate

-- ---- registers

abbrev pub abi_names : List (List ℕ)
abi_names = codes "zero" ∷ codes "ra" ∷ codes "sp" ∷ codes "gp" ∷ codes "tp" ∷ codes "t0" ∷ codes "t1" ∷ codes "t2" ∷ codes "s0" ∷ codes "s1" ∷ codes "a0" ∷ codes "a1" ∷ codes "a2" ∷ codes "a3" ∷ codes "a4" ∷ codes "a5" ∷ codes "a6" ∷ codes "a7" ∷ codes "s2" ∷ codes "s3" ∷ codes "s4" ∷ codes "s5" ∷ codes "s6" ∷ codes "s7" ∷ codes "s8" ∷ codes "s9" ∷ codes "s10" ∷ codes "s11" ∷ codes "t3" ∷ codes "t4" ∷ codes "t5" ∷ codes "t6" ∷ []

abbrev pub abi_name : ℕ → List ℕ
abi_name register = get_or abi_names register []

abbrev pub below_32 : Option ℕ → Option ℕ
below_32 None = None
below_32 (Some n) = if nat_lt n 32 then Some n else None

-- by its name in the calling convention, of which `fp` is a second one of s0
abbrev pub by_convention : List ℕ → Option ℕ
by_convention word = if bytes_eq word (codes "fp") then Some 8 else find (λ register. bytes_eq (abi_name register) word) (count_from 0 32)

-- the register that a word names: x and its number, or its name in the calling convention
abbrev pub register_of : List ℕ → Option ℕ
register_of [] = None
register_of (b ∷ bs) = if b == 120 then below_32 (number_of bs) else by_convention (b ∷ bs)
