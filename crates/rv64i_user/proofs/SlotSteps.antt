-- The instruction at a slot's place in the code page is what the slot does.
use Rattle.std.proofs.Common.{◌≡◌, ℕ, ◌+◌, ◌*◌, ◌%◌, ◌^◌, ◌<◌, ◌≤◌, List, false, Ok, sym, ap, ◌∙◌, arith}
use Rattle.mck_word.specs.declared.Access.TheVariants.{Exec}
use Rattle.isa_model.specs.Instr.{instr}
use Rattle.isa_model.specs.Memory.{Memory, lacks, fetched}
use Rattle.rv64i_user.specs.declared.slots.Slot.{Slot}
use Rattle.rv64i_user.specs.Places.{bytes_of, word_in}
use Rattle.rv64i_user.specs.Slots.{at_pc, does}
use Rattle.rv64i_user.proofs.CodeWords.{fetched-word}
use Rattle.rv64i_user.proofs.SlotForms.{slot-does}

pub does-here : (m o : Memory) (p k pc : ℕ) (x : List ℕ) (s : Slot) → lacks m Exec p ≡ false → p < 2 ^ 52 → k < 1024 → pc ≡ (p * 4096 + 4 * k) % 2 ^ 64 → s.word ≡ word_in (bytes_of o p) (4 * k) → bytes_of m p ≡ bytes_of o p
    → instr (at_pc pc x) m ≡ does s.act s.rd s.rs1 s.rs2 s.imm (at_pc pc x) m
does-here m o p k pc x s may low inside place word same =
    let aligned : pc % 4 ≡ 0 = omega arith in
    let here : pc ≡ p * 4096 + 4 * k = omega arith in
    let whole : 4 * k + 4 ≤ 4096 = omega arith in
    let fetch : fetched m pc ≡ Ok s.word = fetched-word m p (4 * k) pc may here whole low ∙ ap (λ b. Ok (word_in b (4 * k))) same ∙ ap Ok (sym word) in
    slot-does s.word s.act s.rd s.rs1 s.rs2 s.imm (at_pc pc x) m s.act_said s.rd_said s.rs1_said s.rs2_said s.imm_said aligned fetch
