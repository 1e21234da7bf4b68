use Rattle.std.proofs.Common.{◌≡◌, ◌+◌, ◌-◌, ◌*◌, ◌≤◌, length, sym, refl, arith, ap}
use Rattle.elf_load.specs.Written.{holds_table}
use Rattle.job_model.specs.declared.image.Segment.{Segment}
use Rattle.elf_load.proofs.Around.{table_held}
use Rattle.elf_load.proofs.Found.{found}
use Rattle.elf_load.proofs.written_around.find_table.Goals as goal

pub overflow_sub-image : goal.overflow_sub-image
overflow_sub-image c =
    let image = c.args.image.now in
    let s = c.in_ok-s.s.now in
    (table_held image s (found Segment (holds_table image) image.segments s (sym c.in_ok-s.ensures)).passes).low

pub split_at-requires : goal.split_at-requires
split_at-requires c =
    let image = c.args.image.now in
    let s = c.in_ok-s.s.now in
    let held = table_held image s (found Segment (holds_table image) image.segments s (sym c.in_ok-s.ensures)).passes in
    let high : image.phdr + 56 * image.phnum ≤ s.addr + length s.bytes = held.high in
    omega (arith, ap length c.as_slice.ensures)

pub split_at-requires-2 : goal.split_at-requires-2
split_at-requires-2 c =
    let image = c.args.image.now in
    let s = c.in_ok-s.s.now in
    let held = table_held image s (found Segment (holds_table image) image.segments s (sym c.in_ok-s.ensures)).passes in
    let low : s.addr ≤ image.phdr = held.low in
    let high : image.phdr + 56 * image.phnum ≤ s.addr + length s.bytes = held.high in
    let size : c.from.result * c.from-2.result ≡ 56 * image.phnum = rw (c.from.ensures, c.from-2.ensures) refl in
    omega (arith, ap length c.as_slice.ensures, c.split_at.ensures.back_len)
