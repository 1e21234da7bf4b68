-- Images of pages: what was seen, and what is left in a memory.
use Rattle.isa_model.specs.Memory.{Memory, Page}
use Rattle.isa_model.specs.declared.stops.Stop.{Stop}
use Rattle.isa_model.specs.declared.stops.Stop.TheVariants.{Fault}
use Rattle.mck_flags.specs.declared.rights.Rights.{Rights}
use Rattle.mck_word.specs.Maps.{no_rows, set_or_cut}
use Rattle.rv_quantum.specs.declared.image.Image.{Image}
use Rattle.std.specs.Prelude.{Bool, List, None, Option, Some, [], cond, false, map, suc, true, zero, ℕ, ⊤, ◌==◌, ◌∷◌, ◌≡◌}

-- a page as it was seen; without rights it is absent
pub record Seen : Type 0 where
  pub page : ℕ
  pub rights : Option Rights
  pub bytes : List ℕ

abbrev pub seen : Image → Seen
seen i = record { page = i.page; rights = i.rights; bytes = i.first }

-- it as it was left
abbrev pub as_left : Image → Seen
as_left i = record { page = i.page; rights = i.rights; bytes = i.last }

abbrev pub page_with : Option Rights → List ℕ → Option Page
page_with None b = None
page_with (Some r) b = Some (record { rights = r; bytes = b })

abbrev pub seen_page : Seen → Option Page
seen_page s = page_with s.rights s.bytes

abbrev pub last_page : Image → Option Page
last_page i = page_with i.rights i.last

-- the pages as they were left
abbrev pub memory : List Image → Memory
memory [] = no_rows
memory (i ∷ is) = set_or_cut (memory is) i.page (last_page i)

-- what stands at a page where the images are left in a memory
abbrev pub left : List Image → ℕ → Option Page → Option Page
left [] p o = o
left (i ∷ is) p o = cond (p == i.page) (last_page i) (left is p o)

abbrev pub pages_of : List Image → List ℕ
pages_of is = map (λ (i : Image). i.page) is

abbrev pub is_in : List ℕ → ℕ → Bool
is_in [] p = false
is_in (q ∷ qs) p = cond (p == q) true (is_in qs p)

-- the page has an image
abbrev pub is_kept : List Image → ℕ → Bool
is_kept is p = is_in (pages_of is) p

-- the page that a stop lacks and that has no image
abbrev pub missing_page : List Image → Stop → Option ℕ
missing_page is (Fault l) = cond (is_kept is l.page) None (Some l.page)
missing_page is _ = None

-- no page stands twice
abbrev pub are_apart : List ℕ → Bool
are_apart [] = true
are_apart (q ∷ qs) = cond (is_in qs q) false (are_apart qs)

abbrev pub is_there : Option Rights → Bool
is_there None = false
is_there (Some r) = true

-- the k-th image is that of the page
abbrev pub has_page : List Image → ℕ → ℕ → Bool
has_page [] k p = false
has_page (i ∷ is) zero p = p == i.page
has_page (i ∷ is) (suc k) p = has_page is k p

-- and the page is there
abbrev pub is_at : List Image → ℕ → ℕ → Bool
is_at [] k p = false
is_at (i ∷ is) zero p = cond (p == i.page) (is_there i.rights) false
is_at (i ∷ is) (suc k) p = is_at is k p

-- where an image wasn't written it is as it was seen
abbrev pub AreClean : List Image → Type 0
AreClean [] = ⊤
AreClean (i ∷ is) = (i.written ≡ false → i.last ≡ i.first) × AreClean is

-- the first images are as they were seen
abbrev pub AreFresh : ℕ → List Image → Type 0
AreFresh zero is = ⊤
AreFresh (suc n) [] = ⊤
AreFresh (suc n) (i ∷ is) = (i.last ≡ i.first) × AreFresh n is
