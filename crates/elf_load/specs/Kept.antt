-- What is kept of segments that passed their rules, and which images some file loads to.
use Rattle.std.specs.Prelude.{◌≡◌, ℕ, ◌+◌, ◌-◌, ◌/◌, ◌%◌, ◌^◌, ◌<◌, ◌≤◌, List, length, false, IsTrue, All, AllPairs, Any, Ok}
use Rattle.mck_flags.specs.Rights.{includes}
use Rattle.mck_flags.specs.declared.rights.Rights.{Rights}
use Rattle.job_model.specs.declared.image.Segment.{Segment}
use Rattle.job_model.specs.declared.image.Image.{Image}
use Rattle.elf_load.specs.Profile.{shares_page, image_of}
use Rattle.job_model.specs.Images.{AreRights, lowest, highest}
use Rattle.elf_load.specs.declared.placed.Placed.{Placed}

pub record IsInside (size : ℕ) (s : Placed) : Type 0 where
  pub part : 0 < s.len → s.offset + s.len ≤ size
  pub low : lowest ≤ s.addr
  pub range : s.addr + s.mem ≤ highest
  pub some : 0 < s.mem
  pub whole : s.len ≤ s.mem
  pub rights : AreRights s.rights

abbrev pub AreApart : List Placed → Type 0
AreApart placed = AllPairs (λ s t. shares_page s t ≡ false) placed

-- ---- files

abbrev pub AreBytes : List ℕ → Type 0
AreBytes bytes = All (λ b. b < 256) bytes

-- some bytes of a file load to the image
pub record IsLoaded (image : Image) : Type 0 where
  pub file : List ℕ
  pub bytes : AreBytes file
  pub size : length file < 2 ^ 64
  pub loads : image_of file ≡ Ok image
