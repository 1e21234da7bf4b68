-- What each image keeps that was loaded (ELF-64, in this project's profile). Addresses and sizes are in bytes.
-- Source: ELF-64, in this project's profile.
use Rattle.job_model.specs.declared.image.Image.{Image}
use Rattle.job_model.specs.declared.image.Segment.{Segment}
use Rattle.mck_flags.specs.Rights.{includes}
use Rattle.mck_flags.specs.declared.rights.Rights.{Rights}
use Rattle.std.specs.Prelude.{◌≡◌, ℕ, ◌+◌, ◌-◌, ◌/◌, ◌%◌, ◌<◌, ◌≤◌, length, IsTrue, All, AllPairs, Any}

-- the addresses between which segments lie
abbrev pub lowest : ℕ
lowest = 0x10000

abbrev pub highest : ℕ
highest = 0x3000000000

-- no unknown right, and what may be written may be read
pub record AreRights (rights : Rights) : Type 0 where
  pub known : rights.0 < 8
  pub readable : IsTrue (includes rights 2) → IsTrue (includes rights 1)

pub record IsSegment (s : Segment) : Type 0 where
  pub low : lowest ≤ s.addr
  pub range : s.addr + s.mem ≤ highest
  pub some : 0 < s.mem
  pub whole : length s.bytes ≤ s.mem
  pub rights : AreRights s.rights

-- two segments share no page: where the later one doesn't begin behind the earlier one's last page, it ends before its first
abbrev pub SharesNoPage : Segment → Segment → Type 0
SharesNoPage s t = t.addr / 4096 ≤ (s.addr + s.mem - 1) / 4096 → (t.addr + t.mem - 1) / 4096 < s.addr / 4096

-- an address in a segment that may be executed
abbrev pub RunsAt : ℕ → Segment → Type 0
RunsAt entry s = IsTrue (includes s.rights 4) × (s.addr ≤ entry) × (entry < s.addr + s.mem)

pub record IsImage (image : Image) : Type 0 where
  pub headers : image.phnum ≤ 64
  pub counted : length image.segments ≤ image.phnum
  pub kept : All IsSegment image.segments
  pub apart : AllPairs SharesNoPage image.segments
  pub aligned : image.entry % 4 ≡ 0
  pub entry : Any (RunsAt image.entry) image.segments
