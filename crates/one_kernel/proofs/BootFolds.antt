-- The boot is what the guests leave, one after another.
use Rattle.job_boot.proofs.Rows.{put_by, puts-are}
use Rattle.job_boot.specs.Guests.{node_with}
use Rattle.job_model.specs.declared.image.Image.{Image}
use Rattle.job_model.specs.declared.job.Job.{Job}
use Rattle.kernel_model.specs.Layout.{guest_memory}
use Rattle.kernel_model.specs.Nodes.{Node}
use Rattle.kernel_model.specs.OneKernel.{Guest, OneKernel, Own, boot, guest_own, guest_process, guest_thread, guests_from, guests_of, rows_of_guests}
use Rattle.mck_word.specs.Maps.{Map, count, put}
use Rattle.one_kernel.specs.Booting.{no_guests, one_with}
use Rattle.std.proofs.Common.{ap, arith, refl, ◌∙◌}
use Rattle.std.proofs.lemmas.List.Sums.{sum_by-cons}
use Rattle.std.specs.Prelude.{List, [], fold, ℕ, ◌-◌, ◌∷◌, ◌≡◌}

abbrev rows_of : Guest → ℕ
rows_of g = count (guest_memory g.image g.arguments)

abbrev less : ℕ → Guest → ℕ
less free g = free - rows_of g

all-less : (gs : List Guest) (free : ℕ) → fold less free gs ≡ free - rows_of_guests gs
all-less [] free = let e : free ≡ free - 0 = omega arith in e
all-less (g ∷ gs) free =
    let rest = all-less gs (free - rows_of g) in
    let all = sum_by-cons rows_of g gs in
    rest ∙ (let e : free - rows_of g - rows_of_guests gs ≡ free - rows_of_guests (g ∷ gs) = omega (arith, all) in e)

abbrev pub folded : OneKernel → List Guest → OneKernel
folded o gs = record {
  node = record o.node { processes = fold (put_by guest_process) o.node.processes gs; threads = fold (put_by guest_thread) o.node.threads gs };
  own = fold (put_by guest_own) o.own gs;
  free = fold less o.free gs;
}

fold-is : (gs : List Guest) (o : OneKernel) → fold one_with o gs ≡ folded o gs
fold-is [] o = refl
fold-is (g ∷ gs) o = fold-is gs (one_with o g)

pub boots : (job : Job) (images : List Image) → fold one_with (no_guests job) (guests_from 1 job.guests images) ≡ boot job images
unfolding guests_of
boots job images =
    fold-is (guests_from 1 job.guests images) (no_guests job)
    ∙ (λ i. record {
      node = record (no_guests job).node { processes = puts-are guest_process 1 job.guests images i; threads = puts-are guest_thread 1 job.guests images i };
      own = puts-are guest_own 1 job.guests images i;
      free = all-less (guests_from 1 job.guests images) job.frames i;
    })

-- ---- one guest

pub one-more : (o : OneKernel) (node : Node) (owns : Map Own) (own : Own) (free rows : ℕ) (g : Guest) → node ≡ node_with g o.node → owns ≡ put o.own g.number own → own ≡ guest_own g
    → free ≡ o.free - rows → rows ≡ count own.memory → record { node = node; own = owns; free = free } ≡ one_with o g
one-more o node owns own free rows g n puts fresh less counted =
    let freed = less ∙ ap (λ k. o.free - k) (counted ∙ ap (λ (w : Own). count w.memory) fresh) in
    let put-in = puts ∙ ap (put o.own g.number) fresh in
    λ i. record { node = n i; own = put-in i; free = freed i }
