-- What a page is now, and how it isn't as it was seen.
use Rattle.hybrid_model.specs.Sides.{Row}
use Rattle.hybrid_model.specs.Spaces.{shown_row}
use Rattle.isa_model.specs.Memory.{Page, page_at}
use Rattle.lwk_space.proofs.BytesRead.{at-row, frame-bytes}
use Rattle.lwk_space.specs.Frames.{frames_map}
use Rattle.lwk_space.specs.Lacks.{memory}
use Rattle.lwk_space.specs.Rows.{FramesIn}
use Rattle.mck_flags.specs.declared.rights.Rights.{Rights}
use Rattle.mck_word.specs.EachLaws.{at-each}
use Rattle.mck_word.specs.Maps.{Map, at}
use Rattle.rv_quantum.specs.Differing.{rights_in}
use Rattle.rv_quantum.specs.Images.{Seen, page_with, seen_page}
use Rattle.std.proofs.Common.{ap, refl, sym, ◌∙◌}
use Rattle.std.specs.Prelude.{Bool, IsTrue, List, None, Option, Some, [], false, option_map, slice_index_or, true, ℕ, ◌↔◌, ◌≡◌, ◌≢◌}

abbrev pub page_of : Rights → List ℕ → Page
page_of r b = record { rights = r; bytes = b }

-- ---- a page through a table
pub page-there : (rows : Map Row) (pages : List (List ℕ)) (p : ℕ) (w : Row) → FramesIn rows pages → at rows p ≡ Some w
    → page_at (memory rows pages) p ≡ Some (page_of w.1 (slice_index_or pages w.0.0 []))
page-there rows pages p w inside e = at-row rows pages p w e ∙ ap (λ b. Some (page_of w.1 b)) (frame-bytes pages w.0.0 (inside p w e))

pub page-absent : (rows : Map Row) (pages : List (List ℕ)) (p : ℕ) → at rows p ≡ None → page_at (memory rows pages) p ≡ None
page-absent rows pages p e = at-each (shown_row (frames_map pages)) rows p ∙ ap (option_map (shown_row (frames_map pages))) e

-- ---- as it was seen, or not
pub rights-with : (r : Option Rights) (b : List ℕ) → rights_in (page_with r b) ≡ r
rights-with None b = refl
rights-with (Some r) b = refl

abbrev bytes_or : List ℕ → Option Page → List ℕ
bytes_or b None = b
bytes_or b (Some g) = g.bytes

module _ (s : Seen) (now : Option Page) (r : Rights) (b : List ℕ) (there : now ≡ Some (page_of r b)) where
  pub other-rights : s.rights ≢ Some r → rights_in now ≢ s.rights
  other-rights n e = n (sym e ∙ ap rights_in there)

  pub same-rights : s.rights ≡ Some r → rights_in now ≡ s.rights
  same-rights h = ap rights_in there ∙ sym h

  pub other-bytes : s.rights ≡ Some r → b ≢ s.bytes → now ≢ seen_page s
  other-bytes h n e = n (ap (bytes_or b) (sym there ∙ e ∙ ap (λ o. page_with o s.bytes) h))

  pub same-page : s.rights ≡ Some r → b ≡ s.bytes → now ≡ seen_page s
  same-page h e = there ∙ ap (λ x. Some (page_of r x)) e ∙ sym (ap (λ o. page_with o s.bytes) h)

pub none-there : (s : Seen) (now : Option Page) (r : Rights) → now ≡ None → s.rights ≡ Some r → rights_in now ≢ s.rights
none-there s now r gone h e = let bad : ◌≡◌ {A = Option Rights} None (Some r) = sym (ap rights_in gone) ∙ e ∙ h in absurd (cc)

pub none-seen : (s : Seen) (now : Option Page) → now ≡ None → s.rights ≡ None → now ≡ seen_page s
none-seen s now gone h = gone ∙ sym (ap (λ o. page_with o s.bytes) h)

-- ---- a test that says whether something holds
pub holds : {P : Type 0} (b : Bool) → (IsTrue b ↔ P) → b ≡ true → P
holds b h e = h.0 e

pub holds-not : {P : Type 0} (b : Bool) → (IsTrue b ↔ P) → b ≡ false → P → ⊥
holds-not b h e p = let bad : true ≡ false = sym (h.1 p) ∙ e in absurd (cc)
