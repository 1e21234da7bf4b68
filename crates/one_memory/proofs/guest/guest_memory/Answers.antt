use Rattle.isa_model.specs.Memory.{Memory, lacks}
use Rattle.kernel_model.specs.Layout.{add_segment, add_stack, add_trampoline, guest_memory, with_stack_top}
use Rattle.mck_word.specs.declared.Access.TheVariants.{Write}
use Rattle.one_memory.proofs.GuestPages.{top-there}
use Rattle.std.proofs.Common.{ap, fold, ◌∙◌}
use Rattle.one_memory.proofs.guest.guest_memory.Goals as goal

pub put_top-requires-clause-there : goal.put_top-requires-clause-there
put_top-requires-clause-there c =
    ap (λ (m : Memory). lacks m Write 0x3fffffe) (c.add_trampoline.ensures ∙ ap add_trampoline c.add_stack.ensures.stack) ∙ top-there c.reserve.new.self.map

pub returns : goal.returns
unfolding guest_memory
returns c =
    let loaded = c.in_ok-load_segments.ensures ∙ (λ i. fold add_segment (c.new-memory.ensures i).map (c.as_slice.ensures i)) in
    let bare = c.add_trampoline.ensures ∙ ap add_trampoline (c.add_stack.ensures.stack ∙ ap add_stack (c.reserve.ensures.same ∙ loaded)) in
    c.in_ok-put_top.ensures ∙ ap (with_stack_top c.args.image.now c.args.arguments.now) bare
