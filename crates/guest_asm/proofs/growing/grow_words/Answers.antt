use Rattle.guest_asm.proofs.growing.grow_words.Goals as goal

pub returns : goal.returns
returns c =
    let rounds = c.copy_from_slice.ensures.after in
    let end = c.copy_from_slice-2.ensures.after in
    rw (rounds, end)
