-- The names of the instructions, one by one.
use Rattle.std.proofs.Common.{◌≡◌, ℕ, ◌==◌, not, List, Some, Bool, true, false, codes, bytes_eq, length, nat_lt, refl}
use Rattle.std.proofs.lemmas.Bool.{false≢true}
use Rattle.std.specs.List.{list_all}
use Rattle.isa_model.specs.Decode.{is_r, is_s, is_b, is_u, is_j}
use Rattle.isa_model.specs.Table.{row_of}
use Rattle.isa_model.specs.declared.names.Op.{Op}
use Rattle.isa_model.specs.declared.names.Op.TheVariants.{Lui, Auipc, Jal, Jalr, Beq, Bne, Blt, Bge, Bltu, Bgeu, Lb, Lh, Lw, Ld, Lbu, Lhu, Lwu, Sb, Sh, Sw, Sd, Addi, Slti, Sltiu, Xori, Ori, Andi, Slli, Srli, Srai, Addiw, Slliw, Srliw, Sraiw, Add, Sub, Sll, Slt, Sltu, Xor, Srl, Sra, Or, And, Addw, Subw, Sllw, Srlw, Sraw, Fence, Ecall, Ebreak}
use Rattle.guest_asm.specs.declared.layout.Layout.TheVariants as layout
use Rattle.guest_asm.specs.Names.{name_of, named, layout_of}

-- no such byte stands in the text
abbrev pub lacks : ℕ → List ℕ → Bool
lacks c text = list_all (λ b. not (b == c)) text

pub record NameFits (op : Op) : Type 0 where
  pub no_space : lacks 32 (name_of op) ≡ true
  pub no_colon : lacks 58 (name_of op) ≡ true
  pub no_line_feed : lacks 10 (name_of op) ≡ true
  pub no_data : bytes_eq (name_of op) (codes ".word") ≡ false
  pub some : nat_lt 0 (length (name_of op)) ≡ true
  pub found : named (name_of op) ≡ Some op

pub name-fits : (op : Op) → NameFits op
name-fits Lui = record { no_space = refl; no_colon = refl; no_line_feed = refl; no_data = refl; some = refl; found = refl }
name-fits Auipc = record { no_space = refl; no_colon = refl; no_line_feed = refl; no_data = refl; some = refl; found = refl }
name-fits Jal = record { no_space = refl; no_colon = refl; no_line_feed = refl; no_data = refl; some = refl; found = refl }
name-fits Jalr = record { no_space = refl; no_colon = refl; no_line_feed = refl; no_data = refl; some = refl; found = refl }
name-fits Beq = record { no_space = refl; no_colon = refl; no_line_feed = refl; no_data = refl; some = refl; found = refl }
name-fits Bne = record { no_space = refl; no_colon = refl; no_line_feed = refl; no_data = refl; some = refl; found = refl }
name-fits Blt = record { no_space = refl; no_colon = refl; no_line_feed = refl; no_data = refl; some = refl; found = refl }
name-fits Bge = record { no_space = refl; no_colon = refl; no_line_feed = refl; no_data = refl; some = refl; found = refl }
name-fits Bltu = record { no_space = refl; no_colon = refl; no_line_feed = refl; no_data = refl; some = refl; found = refl }
name-fits Bgeu = record { no_space = refl; no_colon = refl; no_line_feed = refl; no_data = refl; some = refl; found = refl }
name-fits Lb = record { no_space = refl; no_colon = refl; no_line_feed = refl; no_data = refl; some = refl; found = refl }
name-fits Lh = record { no_space = refl; no_colon = refl; no_line_feed = refl; no_data = refl; some = refl; found = refl }
name-fits Lw = record { no_space = refl; no_colon = refl; no_line_feed = refl; no_data = refl; some = refl; found = refl }
name-fits Ld = record { no_space = refl; no_colon = refl; no_line_feed = refl; no_data = refl; some = refl; found = refl }
name-fits Lbu = record { no_space = refl; no_colon = refl; no_line_feed = refl; no_data = refl; some = refl; found = refl }
name-fits Lhu = record { no_space = refl; no_colon = refl; no_line_feed = refl; no_data = refl; some = refl; found = refl }
name-fits Lwu = record { no_space = refl; no_colon = refl; no_line_feed = refl; no_data = refl; some = refl; found = refl }
name-fits Sb = record { no_space = refl; no_colon = refl; no_line_feed = refl; no_data = refl; some = refl; found = refl }
name-fits Sh = record { no_space = refl; no_colon = refl; no_line_feed = refl; no_data = refl; some = refl; found = refl }
name-fits Sw = record { no_space = refl; no_colon = refl; no_line_feed = refl; no_data = refl; some = refl; found = refl }
name-fits Sd = record { no_space = refl; no_colon = refl; no_line_feed = refl; no_data = refl; some = refl; found = refl }
name-fits Addi = record { no_space = refl; no_colon = refl; no_line_feed = refl; no_data = refl; some = refl; found = refl }
name-fits Slti = record { no_space = refl; no_colon = refl; no_line_feed = refl; no_data = refl; some = refl; found = refl }
name-fits Sltiu = record { no_space = refl; no_colon = refl; no_line_feed = refl; no_data = refl; some = refl; found = refl }
name-fits Xori = record { no_space = refl; no_colon = refl; no_line_feed = refl; no_data = refl; some = refl; found = refl }
name-fits Ori = record { no_space = refl; no_colon = refl; no_line_feed = refl; no_data = refl; some = refl; found = refl }
name-fits Andi = record { no_space = refl; no_colon = refl; no_line_feed = refl; no_data = refl; some = refl; found = refl }
name-fits Slli = record { no_space = refl; no_colon = refl; no_line_feed = refl; no_data = refl; some = refl; found = refl }
name-fits Srli = record { no_space = refl; no_colon = refl; no_line_feed = refl; no_data = refl; some = refl; found = refl }
name-fits Srai = record { no_space = refl; no_colon = refl; no_line_feed = refl; no_data = refl; some = refl; found = refl }
name-fits Addiw = record { no_space = refl; no_colon = refl; no_line_feed = refl; no_data = refl; some = refl; found = refl }
name-fits Slliw = record { no_space = refl; no_colon = refl; no_line_feed = refl; no_data = refl; some = refl; found = refl }
name-fits Srliw = record { no_space = refl; no_colon = refl; no_line_feed = refl; no_data = refl; some = refl; found = refl }
name-fits Sraiw = record { no_space = refl; no_colon = refl; no_line_feed = refl; no_data = refl; some = refl; found = refl }
name-fits Add = record { no_space = refl; no_colon = refl; no_line_feed = refl; no_data = refl; some = refl; found = refl }
name-fits Sub = record { no_space = refl; no_colon = refl; no_line_feed = refl; no_data = refl; some = refl; found = refl }
name-fits Sll = record { no_space = refl; no_colon = refl; no_line_feed = refl; no_data = refl; some = refl; found = refl }
name-fits Slt = record { no_space = refl; no_colon = refl; no_line_feed = refl; no_data = refl; some = refl; found = refl }
name-fits Sltu = record { no_space = refl; no_colon = refl; no_line_feed = refl; no_data = refl; some = refl; found = refl }
name-fits Xor = record { no_space = refl; no_colon = refl; no_line_feed = refl; no_data = refl; some = refl; found = refl }
name-fits Srl = record { no_space = refl; no_colon = refl; no_line_feed = refl; no_data = refl; some = refl; found = refl }
name-fits Sra = record { no_space = refl; no_colon = refl; no_line_feed = refl; no_data = refl; some = refl; found = refl }
name-fits Or = record { no_space = refl; no_colon = refl; no_line_feed = refl; no_data = refl; some = refl; found = refl }
name-fits And = record { no_space = refl; no_colon = refl; no_line_feed = refl; no_data = refl; some = refl; found = refl }
name-fits Addw = record { no_space = refl; no_colon = refl; no_line_feed = refl; no_data = refl; some = refl; found = refl }
name-fits Subw = record { no_space = refl; no_colon = refl; no_line_feed = refl; no_data = refl; some = refl; found = refl }
name-fits Sllw = record { no_space = refl; no_colon = refl; no_line_feed = refl; no_data = refl; some = refl; found = refl }
name-fits Srlw = record { no_space = refl; no_colon = refl; no_line_feed = refl; no_data = refl; some = refl; found = refl }
name-fits Sraw = record { no_space = refl; no_colon = refl; no_line_feed = refl; no_data = refl; some = refl; found = refl }
name-fits Fence = record { no_space = refl; no_colon = refl; no_line_feed = refl; no_data = refl; some = refl; found = refl }
name-fits Ecall = record { no_space = refl; no_colon = refl; no_line_feed = refl; no_data = refl; some = refl; found = refl }
name-fits Ebreak = record { no_space = refl; no_colon = refl; no_line_feed = refl; no_data = refl; some = refl; found = refl }

pub layout-r : (op : Op) → is_r (row_of op).shape ≡ true → layout_of op ≡ layout.Registers
layout-r Lui h = absurd (false≢true h)
layout-r Auipc h = absurd (false≢true h)
layout-r Jal h = absurd (false≢true h)
layout-r Jalr h = absurd (false≢true h)
layout-r Beq h = absurd (false≢true h)
layout-r Bne h = absurd (false≢true h)
layout-r Blt h = absurd (false≢true h)
layout-r Bge h = absurd (false≢true h)
layout-r Bltu h = absurd (false≢true h)
layout-r Bgeu h = absurd (false≢true h)
layout-r Lb h = absurd (false≢true h)
layout-r Lh h = absurd (false≢true h)
layout-r Lw h = absurd (false≢true h)
layout-r Ld h = absurd (false≢true h)
layout-r Lbu h = absurd (false≢true h)
layout-r Lhu h = absurd (false≢true h)
layout-r Lwu h = absurd (false≢true h)
layout-r Sb h = absurd (false≢true h)
layout-r Sh h = absurd (false≢true h)
layout-r Sw h = absurd (false≢true h)
layout-r Sd h = absurd (false≢true h)
layout-r Addi h = absurd (false≢true h)
layout-r Slti h = absurd (false≢true h)
layout-r Sltiu h = absurd (false≢true h)
layout-r Xori h = absurd (false≢true h)
layout-r Ori h = absurd (false≢true h)
layout-r Andi h = absurd (false≢true h)
layout-r Slli h = absurd (false≢true h)
layout-r Srli h = absurd (false≢true h)
layout-r Srai h = absurd (false≢true h)
layout-r Addiw h = absurd (false≢true h)
layout-r Slliw h = absurd (false≢true h)
layout-r Srliw h = absurd (false≢true h)
layout-r Sraiw h = absurd (false≢true h)
layout-r Add h = refl
layout-r Sub h = refl
layout-r Sll h = refl
layout-r Slt h = refl
layout-r Sltu h = refl
layout-r Xor h = refl
layout-r Srl h = refl
layout-r Sra h = refl
layout-r Or h = refl
layout-r And h = refl
layout-r Addw h = refl
layout-r Subw h = refl
layout-r Sllw h = refl
layout-r Srlw h = refl
layout-r Sraw h = refl
layout-r Fence h = absurd (false≢true h)
layout-r Ecall h = absurd (false≢true h)
layout-r Ebreak h = absurd (false≢true h)

pub layout-s : (op : Op) → is_s (row_of op).shape ≡ true → layout_of op ≡ layout.Store
layout-s Lui h = absurd (false≢true h)
layout-s Auipc h = absurd (false≢true h)
layout-s Jal h = absurd (false≢true h)
layout-s Jalr h = absurd (false≢true h)
layout-s Beq h = absurd (false≢true h)
layout-s Bne h = absurd (false≢true h)
layout-s Blt h = absurd (false≢true h)
layout-s Bge h = absurd (false≢true h)
layout-s Bltu h = absurd (false≢true h)
layout-s Bgeu h = absurd (false≢true h)
layout-s Lb h = absurd (false≢true h)
layout-s Lh h = absurd (false≢true h)
layout-s Lw h = absurd (false≢true h)
layout-s Ld h = absurd (false≢true h)
layout-s Lbu h = absurd (false≢true h)
layout-s Lhu h = absurd (false≢true h)
layout-s Lwu h = absurd (false≢true h)
layout-s Sb h = refl
layout-s Sh h = refl
layout-s Sw h = refl
layout-s Sd h = refl
layout-s Addi h = absurd (false≢true h)
layout-s Slti h = absurd (false≢true h)
layout-s Sltiu h = absurd (false≢true h)
layout-s Xori h = absurd (false≢true h)
layout-s Ori h = absurd (false≢true h)
layout-s Andi h = absurd (false≢true h)
layout-s Slli h = absurd (false≢true h)
layout-s Srli h = absurd (false≢true h)
layout-s Srai h = absurd (false≢true h)
layout-s Addiw h = absurd (false≢true h)
layout-s Slliw h = absurd (false≢true h)
layout-s Srliw h = absurd (false≢true h)
layout-s Sraiw h = absurd (false≢true h)
layout-s Add h = absurd (false≢true h)
layout-s Sub h = absurd (false≢true h)
layout-s Sll h = absurd (false≢true h)
layout-s Slt h = absurd (false≢true h)
layout-s Sltu h = absurd (false≢true h)
layout-s Xor h = absurd (false≢true h)
layout-s Srl h = absurd (false≢true h)
layout-s Sra h = absurd (false≢true h)
layout-s Or h = absurd (false≢true h)
layout-s And h = absurd (false≢true h)
layout-s Addw h = absurd (false≢true h)
layout-s Subw h = absurd (false≢true h)
layout-s Sllw h = absurd (false≢true h)
layout-s Srlw h = absurd (false≢true h)
layout-s Sraw h = absurd (false≢true h)
layout-s Fence h = absurd (false≢true h)
layout-s Ecall h = absurd (false≢true h)
layout-s Ebreak h = absurd (false≢true h)

pub layout-b : (op : Op) → is_b (row_of op).shape ≡ true → layout_of op ≡ layout.Branch
layout-b Lui h = absurd (false≢true h)
layout-b Auipc h = absurd (false≢true h)
layout-b Jal h = absurd (false≢true h)
layout-b Jalr h = absurd (false≢true h)
layout-b Beq h = refl
layout-b Bne h = refl
layout-b Blt h = refl
layout-b Bge h = refl
layout-b Bltu h = refl
layout-b Bgeu h = refl
layout-b Lb h = absurd (false≢true h)
layout-b Lh h = absurd (false≢true h)
layout-b Lw h = absurd (false≢true h)
layout-b Ld h = absurd (false≢true h)
layout-b Lbu h = absurd (false≢true h)
layout-b Lhu h = absurd (false≢true h)
layout-b Lwu h = absurd (false≢true h)
layout-b Sb h = absurd (false≢true h)
layout-b Sh h = absurd (false≢true h)
layout-b Sw h = absurd (false≢true h)
layout-b Sd h = absurd (false≢true h)
layout-b Addi h = absurd (false≢true h)
layout-b Slti h = absurd (false≢true h)
layout-b Sltiu h = absurd (false≢true h)
layout-b Xori h = absurd (false≢true h)
layout-b Ori h = absurd (false≢true h)
layout-b Andi h = absurd (false≢true h)
layout-b Slli h = absurd (false≢true h)
layout-b Srli h = absurd (false≢true h)
layout-b Srai h = absurd (false≢true h)
layout-b Addiw h = absurd (false≢true h)
layout-b Slliw h = absurd (false≢true h)
layout-b Srliw h = absurd (false≢true h)
layout-b Sraiw h = absurd (false≢true h)
layout-b Add h = absurd (false≢true h)
layout-b Sub h = absurd (false≢true h)
layout-b Sll h = absurd (false≢true h)
layout-b Slt h = absurd (false≢true h)
layout-b Sltu h = absurd (false≢true h)
layout-b Xor h = absurd (false≢true h)
layout-b Srl h = absurd (false≢true h)
layout-b Sra h = absurd (false≢true h)
layout-b Or h = absurd (false≢true h)
layout-b And h = absurd (false≢true h)
layout-b Addw h = absurd (false≢true h)
layout-b Subw h = absurd (false≢true h)
layout-b Sllw h = absurd (false≢true h)
layout-b Srlw h = absurd (false≢true h)
layout-b Sraw h = absurd (false≢true h)
layout-b Fence h = absurd (false≢true h)
layout-b Ecall h = absurd (false≢true h)
layout-b Ebreak h = absurd (false≢true h)

pub layout-u : (op : Op) → is_u (row_of op).shape ≡ true → layout_of op ≡ layout.Upper
layout-u Lui h = refl
layout-u Auipc h = refl
layout-u Jal h = absurd (false≢true h)
layout-u Jalr h = absurd (false≢true h)
layout-u Beq h = absurd (false≢true h)
layout-u Bne h = absurd (false≢true h)
layout-u Blt h = absurd (false≢true h)
layout-u Bge h = absurd (false≢true h)
layout-u Bltu h = absurd (false≢true h)
layout-u Bgeu h = absurd (false≢true h)
layout-u Lb h = absurd (false≢true h)
layout-u Lh h = absurd (false≢true h)
layout-u Lw h = absurd (false≢true h)
layout-u Ld h = absurd (false≢true h)
layout-u Lbu h = absurd (false≢true h)
layout-u Lhu h = absurd (false≢true h)
layout-u Lwu h = absurd (false≢true h)
layout-u Sb h = absurd (false≢true h)
layout-u Sh h = absurd (false≢true h)
layout-u Sw h = absurd (false≢true h)
layout-u Sd h = absurd (false≢true h)
layout-u Addi h = absurd (false≢true h)
layout-u Slti h = absurd (false≢true h)
layout-u Sltiu h = absurd (false≢true h)
layout-u Xori h = absurd (false≢true h)
layout-u Ori h = absurd (false≢true h)
layout-u Andi h = absurd (false≢true h)
layout-u Slli h = absurd (false≢true h)
layout-u Srli h = absurd (false≢true h)
layout-u Srai h = absurd (false≢true h)
layout-u Addiw h = absurd (false≢true h)
layout-u Slliw h = absurd (false≢true h)
layout-u Srliw h = absurd (false≢true h)
layout-u Sraiw h = absurd (false≢true h)
layout-u Add h = absurd (false≢true h)
layout-u Sub h = absurd (false≢true h)
layout-u Sll h = absurd (false≢true h)
layout-u Slt h = absurd (false≢true h)
layout-u Sltu h = absurd (false≢true h)
layout-u Xor h = absurd (false≢true h)
layout-u Srl h = absurd (false≢true h)
layout-u Sra h = absurd (false≢true h)
layout-u Or h = absurd (false≢true h)
layout-u And h = absurd (false≢true h)
layout-u Addw h = absurd (false≢true h)
layout-u Subw h = absurd (false≢true h)
layout-u Sllw h = absurd (false≢true h)
layout-u Srlw h = absurd (false≢true h)
layout-u Sraw h = absurd (false≢true h)
layout-u Fence h = absurd (false≢true h)
layout-u Ecall h = absurd (false≢true h)
layout-u Ebreak h = absurd (false≢true h)

pub layout-j : (op : Op) → is_j (row_of op).shape ≡ true → layout_of op ≡ layout.Jump
layout-j Lui h = absurd (false≢true h)
layout-j Auipc h = absurd (false≢true h)
layout-j Jal h = refl
layout-j Jalr h = absurd (false≢true h)
layout-j Beq h = absurd (false≢true h)
layout-j Bne h = absurd (false≢true h)
layout-j Blt h = absurd (false≢true h)
layout-j Bge h = absurd (false≢true h)
layout-j Bltu h = absurd (false≢true h)
layout-j Bgeu h = absurd (false≢true h)
layout-j Lb h = absurd (false≢true h)
layout-j Lh h = absurd (false≢true h)
layout-j Lw h = absurd (false≢true h)
layout-j Ld h = absurd (false≢true h)
layout-j Lbu h = absurd (false≢true h)
layout-j Lhu h = absurd (false≢true h)
layout-j Lwu h = absurd (false≢true h)
layout-j Sb h = absurd (false≢true h)
layout-j Sh h = absurd (false≢true h)
layout-j Sw h = absurd (false≢true h)
layout-j Sd h = absurd (false≢true h)
layout-j Addi h = absurd (false≢true h)
layout-j Slti h = absurd (false≢true h)
layout-j Sltiu h = absurd (false≢true h)
layout-j Xori h = absurd (false≢true h)
layout-j Ori h = absurd (false≢true h)
layout-j Andi h = absurd (false≢true h)
layout-j Slli h = absurd (false≢true h)
layout-j Srli h = absurd (false≢true h)
layout-j Srai h = absurd (false≢true h)
layout-j Addiw h = absurd (false≢true h)
layout-j Slliw h = absurd (false≢true h)
layout-j Srliw h = absurd (false≢true h)
layout-j Sraiw h = absurd (false≢true h)
layout-j Add h = absurd (false≢true h)
layout-j Sub h = absurd (false≢true h)
layout-j Sll h = absurd (false≢true h)
layout-j Slt h = absurd (false≢true h)
layout-j Sltu h = absurd (false≢true h)
layout-j Xor h = absurd (false≢true h)
layout-j Srl h = absurd (false≢true h)
layout-j Sra h = absurd (false≢true h)
layout-j Or h = absurd (false≢true h)
layout-j And h = absurd (false≢true h)
layout-j Addw h = absurd (false≢true h)
layout-j Subw h = absurd (false≢true h)
layout-j Sllw h = absurd (false≢true h)
layout-j Srlw h = absurd (false≢true h)
layout-j Sraw h = absurd (false≢true h)
layout-j Fence h = absurd (false≢true h)
layout-j Ecall h = absurd (false≢true h)
layout-j Ebreak h = absurd (false≢true h)
