-- A slot does what its word says.
use Rattle.std.proofs.Common.{◌≡◌, ℕ, ◌%◌, ◌^◌, ◌<◌, ◌==◌, Bool, true, false, cond, ℤ, pos, Option, Some, None, option_map, Result, Ok, sym, ap, ◌∙◌, refl, arith}
use Rattle.std.proofs.lemmas.Bool.Decides.{nat_tests}
use Rattle.std.proofs.lemmas.Int.{of_z-to_z}
use Rattle.std.specs.List.{find}
use Rattle.isa_model.specs.Decode.{fits, read}
use Rattle.isa_model.specs.Table.{table}
use Rattle.isa_model.specs.declared.shapes.Row.{Row}
use Rattle.isa_model.specs.declared.shapes.Shape.{Shape}
use Rattle.isa_model.specs.declared.shapes.Shape.TheVariants as shape
use Rattle.std.specs.Int.{w32, cast_signed, cast_unsigned}
use Rattle.mck_word.specs.declared.Regs.{Regs}
use Rattle.isa_model.specs.Atomics.{AmIns, am_decoded, is_atomic}
use Rattle.isa_model.specs.declared.atomics.AmOp.{AmOp}
use Rattle.isa_model.specs.declared.atomics.AmOp.TheVariants as ams
use Rattle.isa_model.specs.declared.names.Op.{Op}
use Rattle.isa_model.specs.declared.names.Op.TheVariants as ops
use Rattle.isa_model.specs.declared.forms.Form.{Form}
use Rattle.isa_model.specs.declared.forms.Form.TheVariants.{R, I, S, B, U, J}
use Rattle.isa_model.specs.declared.kinds.Kind.{Kind}
use Rattle.isa_model.specs.declared.kinds.Kind.TheVariants as kinds
use Rattle.isa_model.specs.declared.stops.Lack.{Lack}
use Rattle.isa_model.specs.declared.stops.Stop.TheVariants.{On, Misaligned}
use Rattle.isa_model.specs.Decode.{decoded}
use Rattle.isa_model.specs.Instr.{Outcome, outcome, beside, do_am, do_arith, do_atomic, do_kind, do_i, do_r, do_u, execute, execute_am, execute_any, after_fetch, instr}
use Rattle.isa_model.specs.Kinds.{kind_of}
use Rattle.isa_model.specs.Memory.{Memory, fetched}
use Rattle.rv64i_user.specs.declared.acts.Act.{Act}
use Rattle.rv64i_user.specs.declared.acts.Act.TheVariants as acts
use Rattle.rv64i_user.specs.Slots.{r_act, i_act, s_act, b_act, u_act, am_act, am_nowhere, nowhere, act_by, rd_by, rs1_by, rs2_by, imm_by, does}
use Rattle.rv_am.specs.Words.{am}

is-zero : (d : ℕ) → (d == 0) ≡ true → d ≡ 0
is-zero d e = grind (arith, nat_tests, e)

r-does : (op : Op) (d a b : ℕ) (z : ℤ) (r : Regs) (m : Memory) → instr r m ≡ execute (R op d a b) r m → instr r m ≡ does (r_act op) d a b z r m
r-does ops.Add d a b z r m h = h
r-does ops.Sub d a b z r m h = h
r-does ops.Sll d a b z r m h = h
r-does ops.Slt d a b z r m h = h
r-does ops.Sltu d a b z r m h = h
r-does ops.Xor d a b z r m h = h
r-does ops.Srl d a b z r m h = h
r-does ops.Sra d a b z r m h = h
r-does ops.Or d a b z r m h = h
r-does ops.And d a b z r m h = h
r-does ops.Addw d a b z r m h = h
r-does ops.Subw d a b z r m h = h
r-does ops.Sllw d a b z r m h = h
r-does ops.Srlw d a b z r m h = h
r-does ops.Sraw d a b z r m h = h
r-does _ d a b z r m h = refl

i-does : (op : Op) (d a b : ℕ) (z : ℤ) (r : Regs) (m : Memory) → instr r m ≡ execute (I op d a z) r m → instr r m ≡ does (i_act op) d a b z r m
unfolding do_i
i-does ops.Lb d a b z r m h = h
i-does ops.Lh d a b z r m h = h
i-does ops.Lw d a b z r m h = h
i-does ops.Ld d a b z r m h = h
i-does ops.Lbu d a b z r m h = h
i-does ops.Lhu d a b z r m h = h
i-does ops.Lwu d a b z r m h = h
i-does ops.Addi d a b z r m h = h
i-does ops.Slti d a b z r m h = h
i-does ops.Sltiu d a b z r m h = h
i-does ops.Xori d a b z r m h = h
i-does ops.Ori d a b z r m h = h
i-does ops.Andi d a b z r m h = h
i-does ops.Slli d a b z r m h = h
i-does ops.Srli d a b z r m h = h
i-does ops.Srai d a b z r m h = h
i-does ops.Addiw d a b z r m h = h
i-does ops.Slliw d a b z r m h = h
i-does ops.Srliw d a b z r m h = h
i-does ops.Sraiw d a b z r m h = h
i-does ops.Jalr d a b z r m h = h
i-does ops.Fence d a b z r m h = h
i-does ops.Ecall d a b z r m h = h
i-does ops.Ebreak d a b z r m h = h
i-does _ d a b z r m h = refl

s-does : (op : Op) (d a b : ℕ) (z : ℤ) (r : Regs) (m : Memory) → instr r m ≡ execute (S op a b z) r m → instr r m ≡ does (s_act op) d a b z r m
s-does ops.Sb d a b z r m h = h
s-does ops.Sh d a b z r m h = h
s-does ops.Sw d a b z r m h = h
s-does ops.Sd d a b z r m h = h
s-does _ d a b z r m h = refl

b-does : (op : Op) (d a b : ℕ) (z : ℤ) (r : Regs) (m : Memory) → instr r m ≡ execute (B op a b z) r m → instr r m ≡ does (b_act op) d a b z r m
b-does ops.Beq d a b z r m h = h
b-does ops.Bne d a b z r m h = h
b-does ops.Blt d a b z r m h = h
b-does ops.Bge d a b z r m h = h
b-does ops.Bltu d a b z r m h = h
b-does ops.Bgeu d a b z r m h = h
b-does _ d a b z r m h = refl

u-does : (op : Op) (d a b n : ℕ) (z : ℤ) (r : Regs) (m : Memory) → cast_unsigned w32 z ≡ n → instr r m ≡ execute (U op d n) r m → instr r m ≡ does (u_act op) d a b z r m
u-does ops.Lui d a b n z r m e h = h ∙ ap (λ k. execute (U ops.Lui d k) r m) (sym e)
u-does ops.Auipc d a b n z r m e h = h ∙ ap (λ k. execute (U ops.Auipc d k) r m) (sym e)
u-does _ d a b n z r m e h = refl

-- those that write register 0

r-none : (op : Op) (d a b : ℕ) (r : Regs) (m : Memory) → d ≡ 0 → instr r m ≡ execute (R op d a b) r m → instr r m ≡ does acts.Nothing 1 a b (pos 0) r m
unfolding do_r
r-none op d a b r m e h = h ∙ ap (λ k. execute (R op k a b) r m) e

u-none : (op : Op) (d a b n : ℕ) (z : ℤ) (r : Regs) (m : Memory) → d ≡ 0 → instr r m ≡ execute (U op d n) r m → instr r m ≡ does acts.Nothing 1 a b z r m
unfolding do_u
u-none op d a b n z r m e h = h ∙ ap (λ k. execute (U op k n) r m) e

kind-none : (k : Kind) (op : Op) (a b : ℕ) (z : ℤ) (r : Regs) (m : Memory) → instr r m ≡ beside m (do_kind k op 0 a z r m) → instr r m ≡ does (nowhere k op) 1 a b z r m
kind-none kinds.Load op a b z r m h = h
kind-none kinds.Jump op a b z r m h = h
kind-none kinds.Nothing op a b z r m h = h
kind-none kinds.Call op a b z r m h = h
kind-none kinds.Break op a b z r m h = h
kind-none kinds.Compute op a b z r m h = h

i-none : (op : Op) (d a b : ℕ) (z : ℤ) (r : Regs) (m : Memory) → d ≡ 0 → instr r m ≡ execute (I op d a z) r m → instr r m ≡ does (nowhere (kind_of op) op) 1 a b z r m
unfolding do_i
i-none op d a b z r m e h = kind-none (kind_of op) op a b z r m (h ∙ ap (λ k. execute (I op k a z) r m) e)

j-none : (op : Op) (d a b : ℕ) (z : ℤ) (r : Regs) (m : Memory) → d ≡ 0 → instr r m ≡ execute (J op d z) r m → instr r m ≡ does acts.Jump 1 a b z r m
j-none op d a b z r m e h = h ∙ ap (λ k. execute (J op k z) r m) e

r-case : (t : Bool) (op : Op) (d a b : ℕ) (r : Regs) (m : Memory) → (d == 0) ≡ t → instr r m ≡ execute (R op d a b) r m → instr r m ≡ does (cond t acts.Nothing (r_act op)) (cond t 1 d) a b (pos 0) r m
r-case true op d a b r m e h = r-none op d a b r m (is-zero d e) h
r-case false op d a b r m e h = r-does op d a b (pos 0) r m h

i-case : (t : Bool) (op : Op) (d a : ℕ) (z : ℤ) (r : Regs) (m : Memory) → (d == 0) ≡ t → instr r m ≡ execute (I op d a z) r m → instr r m ≡ does (cond t (nowhere (kind_of op) op) (i_act op)) (cond t 1 d) a 0 z r m
i-case true op d a z r m e h = i-none op d a 0 z r m (is-zero d e) h
i-case false op d a z r m e h = i-does op d a 0 z r m h

u-case : (t : Bool) (op : Op) (d n : ℕ) (r : Regs) (m : Memory) → cast_unsigned w32 (cast_signed w32 n) ≡ n → (d == 0) ≡ t → instr r m ≡ execute (U op d n) r m → instr r m ≡ does (cond t acts.Nothing (u_act op)) (cond t 1 d) 0 0 (cast_signed w32 n) r m
u-case true op d n r m f e h = u-none op d 0 0 n (cast_signed w32 n) r m (is-zero d e) h
u-case false op d n r m f e h = u-does op d 0 0 n (cast_signed w32 n) r m f h

j-case : (t : Bool) (op : Op) (d : ℕ) (z : ℤ) (r : Regs) (m : Memory) → (d == 0) ≡ t → instr r m ≡ execute (J op d z) r m → instr r m ≡ does (cond t acts.Jump acts.Jal) (cond t 1 d) 0 0 z r m
j-case true op d z r m e h = j-none op d 0 0 z r m (is-zero d e) h
j-case false op d z r m e h = h

-- ---- instructions of M and A

am-does : (op : AmOp) (d a b o : ℕ) (z : ℤ) (r : Regs) (m : Memory) → instr r m ≡ do_am (am op d a b o) r m → instr r m ≡ does (am_act op) d a b z r m
unfolding do_am
am-does ams.Mul d a b o z r m h = h
am-does ams.Mulh d a b o z r m h = h
am-does ams.Mulhsu d a b o z r m h = h
am-does ams.Mulhu d a b o z r m h = h
am-does ams.Div d a b o z r m h = h
am-does ams.Divu d a b o z r m h = h
am-does ams.Rem d a b o z r m h = h
am-does ams.Remu d a b o z r m h = h
am-does ams.Mulw d a b o z r m h = h
am-does ams.Divw d a b o z r m h = h
am-does ams.Divuw d a b o z r m h = h
am-does ams.Remw d a b o z r m h = h
am-does ams.Remuw d a b o z r m h = h
am-does _ d a b o z r m h = h

am-none : (t : Bool) (op : AmOp) (d a b o : ℕ) (z : ℤ) (r : Regs) (m : Memory) → d ≡ 0 → instr r m ≡ cond t (do_atomic (am op d a b o) r m) (outcome (do_arith (am op d a b o) r) m On)
    → instr r m ≡ does (cond t (acts.Update op) acts.Nothing) 1 a b z r m
am-none true op d a b o z r m e h = h ∙ ap (λ k. do_atomic (am op k a b o) r m) e
am-none false op d a b o z r m e h = h ∙ ap (λ k. outcome (do_arith (am op k a b o) r) m On) e

am-case : (t : Bool) (op : AmOp) (d a b o : ℕ) (r : Regs) (m : Memory) → (d == 0) ≡ t → instr r m ≡ do_am (am op d a b o) r m → instr r m ≡ does (cond t (am_nowhere op) (am_act op)) (cond t 1 d) a b (pos 0) r m
unfolding do_am
am-case true op d a b o r m e h = am-none (is_atomic op) op d a b o (pos 0) r m (is-zero d e) h
am-case false op d a b o r m e h = am-does op d a b o (pos 0) r m h

am-said : (i : Option AmIns) (r : Regs) (m : Memory) → instr r m ≡ execute_am i r m → instr r m ≡ does (act_by None i) (rd_by None i) (rs1_by None i) (rs2_by None i) (imm_by None i) r m
unfolding do_am
am-said None r m h = refl
am-said (Some i) r m h = am-case (i.rd == 0) i.op i.rd i.rs1 i.rs2 i.order r m refl h

-- ---- a word and its slot

abbrev pub UpperFits : Option Form → Type 0
UpperFits None = Unit {0}
UpperFits (Some (R op d a b)) = Unit {0}
UpperFits (Some (I op d a z)) = Unit {0}
UpperFits (Some (S op a b z)) = Unit {0}
UpperFits (Some (B op a b z)) = Unit {0}
UpperFits (Some (U op d n)) = n < 2 ^ 32
UpperFits (Some (J op d z)) = Unit {0}

upper-read : (s : Shape) (op : Op) (w : ℕ) → UpperFits (Some (read s op w))
upper-read shape.R op w = tt
upper-read shape.I op w = tt
upper-read shape.Shift6 op w = tt
upper-read shape.Shift5 op w = tt
upper-read shape.S op w = tt
upper-read shape.B op w = tt
upper-read shape.U op w = omega arith
upper-read shape.J op w = tt
upper-read shape.Whole op w = tt

upper-row : (w : ℕ) (r : Option Row) → UpperFits (option_map (λ row. read row.shape row.op w) r)
upper-row w None = tt
upper-row w (Some row) = upper-read row.shape row.op w

pub upper-said : (w : ℕ) → UpperFits (decoded w)
unfolding decoded
upper-said w = upper-row w (find (λ row. fits row w) table)

act-does : (o : Option Form) (w : ℕ) (r : Regs) (m : Memory) → UpperFits o → instr r m ≡ execute_any o w r m
    → instr r m ≡ does (act_by o (am_decoded w)) (rd_by o (am_decoded w)) (rs1_by o (am_decoded w)) (rs2_by o (am_decoded w)) (imm_by o (am_decoded w)) r m
act-does None w r m u h = am-said (am_decoded w) r m h
act-does (Some (R op d a b)) w r m u h = r-case (d == 0) op d a b r m refl h
act-does (Some (I op d a z)) w r m u h = i-case (d == 0) op d a z r m refl h
act-does (Some (S op a b z)) w r m u h = s-does op 1 a b z r m h
act-does (Some (B op a b z)) w r m u h = b-does op 1 a b z r m h
act-does (Some (U op d n)) w r m u h = u-case (d == 0) op d n r m (of_z-to_z w32 n u) refl h
act-does (Some (J op d z)) w r m u h = j-case (d == 0) op d z r m refl h

by-fetch : (x : Result ℕ Lack) (w : ℕ) (r : Regs) (m : Memory) → x ≡ Ok w → after_fetch x r m ≡ execute_any (decoded w) w r m
by-fetch x w r m e = ap (λ y. after_fetch y r m) e

by-test : (b : Bool) (o p : Outcome) → b ≡ true → cond b o p ≡ o
by-test true o p e = refl
by-test false o p e = absurd cc

instr-is : (w : ℕ) (r : Regs) (m : Memory) → r.pc % 4 ≡ 0 → fetched m r.pc ≡ Ok w → instr r m ≡ execute_any (decoded w) w r m
unfolding instr
instr-is w r m e f =
    let test : (r.pc % 4 == 0) ≡ true = grind (arith, nat_tests, e) in
    by-test (r.pc % 4 == 0) (after_fetch (fetched m r.pc) r m) (outcome r m Misaligned) test ∙ by-fetch (fetched m r.pc) w r m f

-- the instruction at the place of the registers is what the slot of its word does
pub slot-does : (w : ℕ) (act : Act) (d a b : ℕ) (z : ℤ) (r : Regs) (m : Memory) → act ≡ act_by (decoded w) (am_decoded w) → d ≡ rd_by (decoded w) (am_decoded w) → a ≡ rs1_by (decoded w) (am_decoded w)
    → b ≡ rs2_by (decoded w) (am_decoded w) → z ≡ imm_by (decoded w) (am_decoded w) → r.pc % 4 ≡ 0 → fetched m r.pc ≡ Ok w → instr r m ≡ does act d a b z r m
slot-does w act d a b z r m ea ed e1 e2 ez aligned f =
    let o = decoded w in
    let i = am_decoded w in
    act-does o w r m (upper-said w) (instr-is w r m aligned f)
    ∙ ap (λ k. does k (rd_by o i) (rs1_by o i) (rs2_by o i) (imm_by o i) r m) (sym ea)
    ∙ ap (λ k. does act k (rs1_by o i) (rs2_by o i) (imm_by o i) r m) (sym ed)
    ∙ ap (λ k. does act d k (rs2_by o i) (imm_by o i) r m) (sym e1)
    ∙ ap (λ k. does act d a k (imm_by o i) r m) (sym e2)
    ∙ ap (λ k. does act d a b k r m) (sym ez)
