-- The two kernels at the boot of a job and its images: frames are handed out lowest first, guest by guest, and in each guest to its pages in rising order.
-- Source: this project's own, after the idea of IHK/McKernel.
use Rattle.hybrid_model.specs.Pairs.{Pair}
use Rattle.hybrid_model.specs.Sides.{Side, no_lwk, new_side}
use Rattle.hybrid_model.specs.Spaces.{Space, copied_pages}
use Rattle.job_model.specs.declared.image.Image.{Image}
use Rattle.job_model.specs.declared.job.Job.{Job}
use Rattle.kernel_model.specs.Layout.{guest_memory, needed_frames}
use Rattle.kernel_model.specs.OneKernel.{Guest, guests_of, boot_node}
use Rattle.kernel_model.specs.Pages.{zero_page}
use Rattle.mck_word.specs.Lists.{count_from}
use Rattle.mck_word.specs.Maps.{Map, put, entries, no_rows}
use Rattle.std.specs.Prelude.{List, None, Option, Some, [], cond, fold, nat_lt, ℕ, ◌-◌, ◌∷◌}

-- sides so far, the frames' bytes and the free frames
pub record Booted : Type 0 where
  pub sides : Map Side
  pub frames : Map (List ℕ)
  pub free : List ℕ

abbrev pub guest_space : Booted → Guest → Space
guest_space b g = copied_pages (entries (guest_memory g.image g.arguments)) (record { table = no_rows; frames = b.frames; free = b.free })

abbrev pub with_guest : ℕ → Booted → Guest → Booted
with_guest rings b g =
    let sp = guest_space b g in
    record { sides = put b.sides g.number (record (new_side rings) { lwk = record no_lwk { table = sp.table } }); frames = sp.frames; free = sp.free }

abbrev pub zero_frames : List ℕ → Map (List ℕ)
zero_frames [] = no_rows
zero_frames (f ∷ fs) = put (zero_frames fs) f zero_page

abbrev pub booted : Job → List Image → Booted
booted job images = fold (with_guest job.rings) (record { sides = no_rows; frames = zero_frames (count_from 0 job.frames); free = count_from 0 job.frames }) (guests_of job images)

abbrev pub boot : Job → List Image → Pair
boot job images =
    let b = booted job images in
    record {
      node = boot_node job images;
      sides = b.sides;
      frames = b.frames;
      free = b.free;
      turns = no_rows;
      last = no_rows;
      cores = job.cores;
      workers = job.workers;
      rings = job.rings;
    }

-- the first guest for which the frames do not suffice: its number, the frames that it needs, and those that are free
pub record Shortage : Type 0 where
  pub guest : ℕ
  pub needed : ℕ
  pub free : ℕ

abbrev pub shortage_from : ℕ → List Guest → Option Shortage
shortage_from free [] = None
shortage_from free (g ∷ gs) =
    let needed = needed_frames g.image in
    cond (nat_lt free needed) (Some (record { guest = g.number; needed = needed; free = free })) (shortage_from (free - needed) gs)

abbrev pub shortage : Job → List Image → Option Shortage
shortage job images = shortage_from job.frames (guests_of job images)
