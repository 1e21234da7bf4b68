-- The first thing that isn't as quanta saw it.
use Rattle.isa_model.specs.Memory.{Memory, Page, page_at}
use Rattle.mck_flags.specs.declared.rights.Rights.{Rights as rights}
use Rattle.mck_word.specs.declared.Regs.{Regs as registers}
use Rattle.rv_quantum.specs.Images.{Seen, seen_page}
use Rattle.rv_quantum.specs.declared.differs.Differs.TheVariants.{Bytes, Regs, Rights}
use Rattle.rv_quantum.specs.declared.differs.Differs.{Differs}
use Rattle.std.specs.Prelude.{List, Option, [], option_map, ◌∷◌, ◌≡◌, ◌≢◌, ◌⊎◌}

-- the rights of a page that is there
abbrev pub rights_in : Option Page → Option rights
rights_in now = option_map (λ (g : Page). g.rights) now

-- a page isn't as it was seen: its rights, or with the same rights its bytes
abbrev pub PageDiffers : Seen → Option Page → Differs → Type 0
PageDiffers s now Regs = ⊥
PageDiffers s now (Rights p) = (p ≡ s.page) × (rights_in now ≢ s.rights)
PageDiffers s now (Bytes p) = (p ≡ s.page) × (rights_in now ≡ s.rights) × (now ≢ seen_page s)

-- the first such page, in the order in which they were seen
abbrev pub FirstPage : List Seen → Memory → Differs → Type 0
FirstPage [] m d = ⊥
FirstPage (s ∷ ss) m d = PageDiffers s (page_at m s.page) d ⊎ ((page_at m s.page ≡ seen_page s) × FirstPage ss m d)

-- the registers aren't those that were the first ones, or else page by page
abbrev pub FirstDiffers : registers → List Seen → registers → Memory → Differs → Type 0
FirstDiffers first seen now m Regs = now ≢ first
FirstDiffers first seen now m d = (now ≡ first) × FirstPage seen m d
