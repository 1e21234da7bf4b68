use Rattle.byteorder.specs.Endian.{little_bytes}
use Rattle.elf_load.specs.Written.{flags_of, program_header}
use Rattle.elf_load.proofs.Joins.{joined8}
use Rattle.std.proofs.Common.{◌≡◌, ◌∙◌, ◌++◌, ℕ, List, ap, length, replicate}
use Rattle.elf_load.proofs.written_apart.add_program_header.Goals as goal

pub returns : goal.returns
unfolding program_header
returns c =
    let s = c.args.s.now in
    let flags : c.add-2.new.self ≡ c.add.new.self ++ little_bytes 4 (flags_of s.rights) =
    c.in_ok-add-2.ensures.ok ∙ ap (λ (xs : List ℕ). c.add.new.self ++ xs) (c.to_le_bytes.ensures ∙ ap (little_bytes 4) c.flags_of.ensures) in
    let offset : c.add-3.new.self ≡ c.add-2.new.self ++ little_bytes 8 c.args.offset = c.in_ok-add-3.ensures.ok ∙ ap (λ (xs : List ℕ). c.add-2.new.self ++ xs) c.to_le_bytes-2.ensures in
    let addr : c.add-4.new.self ≡ c.add-3.new.self ++ little_bytes 8 s.addr = c.in_ok-add-4.ensures.ok ∙ ap (λ (xs : List ℕ). c.add-3.new.self ++ xs) c.to_le_bytes-3.ensures in
    let len : c.add-6.new.self ≡ c.add-5.new.self ++ little_bytes 8 (length s.bytes) =
    c.in_ok-add-6.ensures.ok ∙ ap (λ (xs : List ℕ). c.add-5.new.self ++ xs) (c.to_le_bytes-4.ensures ∙ ap (little_bytes 8) c.len.ensures) in
    let mem : c.add-7.new.self ≡ c.add-6.new.self ++ little_bytes 8 s.mem = c.in_ok-add-7.ensures.ok ∙ ap (λ (xs : List ℕ). c.add-6.new.self ++ xs) c.to_le_bytes-5.ensures in
    joined8 c.args.file.now (little_bytes 4 1) (little_bytes 4 (flags_of s.rights)) (little_bytes 8 c.args.offset) (little_bytes 8 s.addr) (replicate 8 0) (little_bytes 8 (length s.bytes)) (little_bytes 8 s.mem) (replicate 8 0) c.add.new.self
    c.add-2.new.self c.add-3.new.self c.add-4.new.self c.add-5.new.self c.add-6.new.self c.add-7.new.self c.add-8.new.self c.in_ok-add.ensures.ok flags offset addr c.in_ok-add-5.ensures.ok len mem c.in_ok-add-8.ensures.ok
