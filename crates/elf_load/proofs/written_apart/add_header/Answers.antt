use Rattle.byteorder.specs.Endian.{little_bytes}
use Rattle.elf_load.specs.Written.{executable, header_bytes, identity}
use Rattle.elf_load.proofs.Joins.{joined5}
use Rattle.std.proofs.Common.{◌≡◌, ◌∙◌, ◌++◌, ℕ, List, ap, replicate}
use Rattle.elf_load.proofs.written_apart.add_header.Goals as goal

pub returns : goal.returns
unfolding header_bytes
returns c =
    let beginning : List ℕ = identity ++ (replicate 9 0 ++ (executable ++ little_bytes 4 1)) in
    let middle : List ℕ = little_bytes 8 64 ++ (replicate 12 0 ++ (little_bytes 2 64 ++ little_bytes 2 56)) in
    let entry : c.add-2.new.self ≡ c.add.new.self ++ little_bytes 8 c.args.entry = c.in_ok-add-2.ensures.ok ∙ ap (λ (xs : List ℕ). c.add.new.self ++ xs) c.to_le_bytes.ensures in
    let count : c.add-4.new.self ≡ c.add-3.new.self ++ little_bytes 2 c.args.count = c.in_ok-add-4.ensures.ok ∙ ap (λ (xs : List ℕ). c.add-3.new.self ++ xs) c.to_le_bytes-2.ensures in
    joined5 c.args.file.now beginning (little_bytes 8 c.args.entry) middle (little_bytes 2 c.args.count) (replicate 6 0) c.add.new.self c.add-2.new.self c.add-3.new.self c.add-4.new.self c.add-5.new.self c.in_ok-add.ensures.ok entry
    c.in_ok-add-3.ensures.ok count c.in_ok-add-5.ensures.ok
