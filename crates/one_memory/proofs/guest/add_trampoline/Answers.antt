use Rattle.one_memory.proofs.GuestPages.{trampoline-written}
use Rattle.std.proofs.Common.{[], refl, ◌∙◌, ◌∷◌}
use Rattle.one_memory.proofs.guest.add_trampoline.Goals as goal

pub returns : goal.returns
returns c = c.add_page.ensures.page ∙ trampoline-written c.args.memory.now.map (record { 0 = 5 }) (0x93 ∷ 0x08 ∷ 0xb0 ∷ 0x08 ∷ 0x73 ∷ 0 ∷ 0 ∷ 0 ∷ []) refl refl
