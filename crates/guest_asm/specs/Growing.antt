-- The job that grows: n guests, each of which maps three pages, writes eight bytes from the first and unmaps them, fifty times.
use Rattle.std.specs.Prelude.{ℕ, ◌+◌, ◌*◌, ◌^◌, List, [], ◌∷◌, map, decimal}
use Rattle.mck_word.specs.Lists.{count_from}
use Rattle.job_model.specs.declared.image.Image.{Image}
use Rattle.job_model.specs.declared.job.Job.{Job}
use Rattle.job_model.specs.declared.job.GuestLine.{GuestLine}
use Rattle.guest_asm.specs.Images.{small_image_of, image_with}

-- in `addi a0,x0,k` the number stands above bit 20
abbrev pub grow_words : ℕ → List ℕ
grow_words guest =
    0x03200493 ∷  -- addi s1,x0,50
    0x00000513 ∷  -- addi a0,x0,0
    0x000045b7 ∷  -- lui a1,4
    0x00300613 ∷  -- addi a2,x0,3
    0x02200693 ∷  -- addi a3,x0,34
    0x0de00893 ∷  -- addi a7,x0,222
    0x00000073 ∷  -- ecall
    0x00050413 ∷  -- addi s0,a0,0
    0x00943023 ∷  -- sd s1,0(s0)
    0x00100513 ∷  -- addi a0,x0,1
    0x00040593 ∷  -- addi a1,s0,0
    0x00002637 ∷  -- lui a2,2
    0x00860613 ∷  -- addi a2,a2,8
    0x04000893 ∷  -- addi a7,x0,64
    0x00000073 ∷  -- ecall
    0x00040513 ∷  -- addi a0,s0,0
    0x000045b7 ∷  -- lui a1,4
    0x0d700893 ∷  -- addi a7,x0,215
    0x00000073 ∷  -- ecall
    0xfff48493 ∷  -- addi s1,s1,-1
    0xfa049ae3 ∷  -- bne s1,x0,-76
    (0x513 + guest * 2 ^ 20) ∷  -- addi a0,x0,k
    0x05e00893 ∷  -- addi a7,x0,94
    0x00000073 ∷  -- ecall
    []

abbrev pub grow_guest : ℕ → GuestLine
grow_guest guest = record { line = guest; args = (103 ∷ decimal guest) ∷ [] }

abbrev pub grow_image : ℕ → Image
grow_image guest = image_with (small_image_of (grow_words guest))

abbrev pub grow_job_of : ℕ → Job
grow_job_of n = record {
  frames = 22 * n;
  cores = 4;
  workers = 2;
  rings = 1;
  limit = 1000000;
  guests = map grow_guest (count_from 1 n);
  signals = [];
  files = [];
  inputs = [];
}

abbrev pub grow_images_of : ℕ → List Image
grow_images_of n = map grow_image (count_from 1 n)
