-- Ranges of pages with given bytes in a memory, and the top of a guest's.
use Rattle.hybrid_model.specs.Sides.{Row}
use Rattle.isa_model.specs.Memory.{Memory}
use Rattle.job_model.specs.declared.image.Image.{Image}
use Rattle.kernel_model.specs.Layout.{page_with}
use Rattle.kernel_model.specs.MemoryCalls.{rights_of_prot}
use Rattle.lwk_boot.specs.Guests.{stack_first, stack_last, trampoline_page}
use Rattle.lwk_boot.specs.Top.{top_page}
use Rattle.lwk_space.specs.Fills.{placed}
use Rattle.mck_flags.specs.declared.rights.Rights.{Rights}
use Rattle.mck_word.specs.Maps.{Map, at}
use Rattle.mck_word.specs.declared.PageRange.{PageRange}
use Rattle.std.specs.Prelude.{List, None, Some, [], ◌∷◌, ℕ, ◌<◌, ◌≡◌, ◌≤◌}

-- no page from there on has a row
abbrev pub NoneFrom : Map Row → ℕ → Type 0
NoneFrom rows page = (p : ℕ) → page ≤ p → at rows p ≡ None

-- the pages of the range have these rights, and the bytes from the address `start` on
abbrev pub HasIn : PageRange → Rights → ℕ → List ℕ → Memory → Type 0
HasIn r rights start bytes m = (p : ℕ) → r.lo ≤ p → p < r.hi → at m p ≡ Some (page_with rights (placed start bytes p))

-- where the trampoline stands, and its two instructions
abbrev pub trampoline_address : ℕ
trampoline_address = 0x3ffffff000

abbrev pub trampoline_bytes : List ℕ
trampoline_bytes = 0x93 ∷ 0x08 ∷ 0xb0 ∷ 0x08 ∷ 0x73 ∷ 0 ∷ 0 ∷ 0 ∷ []

-- the stack, its top and the trampoline, and nothing above
pub record HasTop (image : Image) (arguments : List (List ℕ)) (m : Memory) : Type 0 where
  pub stack : (p : ℕ) → stack_first ≤ p → p < stack_last → at m p ≡ Some (page_with (rights_of_prot 3) (placed 0 [] p))
  pub last : at m stack_last ≡ Some (page_with (rights_of_prot 3) (top_page image arguments))
  pub trampoline : at m trampoline_page ≡ Some (page_with (rights_of_prot 5) (placed trampoline_address trampoline_bytes trampoline_page))
  pub above : (p : ℕ) → trampoline_page < p → at m p ≡ None
