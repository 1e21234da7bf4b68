-- The boot is what the guests leave, one after another.
use Rattle.hybrid_laws.proofs.boot.Pages.{length-from}
use Rattle.hybrid_model.specs.Boot.{Shortage, boot, guest_space, shortage, shortage_from, with_guest, zero_frames}
use Rattle.hybrid_model.specs.Pairs.{Pair}
use Rattle.hybrid_model.specs.Sides.{Side, new_side, no_lwk}
use Rattle.hybrid_model.specs.Spaces.{Space}
use Rattle.job_model.specs.declared.image.Image.{Image}
use Rattle.job_model.specs.declared.job.GuestLine.{GuestLine}
use Rattle.job_model.specs.declared.job.Job.{Job}
use Rattle.kernel_model.specs.Layout.{needed_frames}
use Rattle.kernel_model.specs.Nodes.{Node}
use Rattle.kernel_model.specs.OneKernel.{Guest, by_guest, guest_process, guest_thread, guests_from, guests_of}
use Rattle.kernel_model.specs.Pages.{zero_page}
use Rattle.mck_word.specs.Lists.{count_from}
use Rattle.mck_word.specs.MapLaws.{at-put, same_rows}
use Rattle.mck_word.specs.Maps.{Map, at, no_rows, put}
use Rattle.mck_word.specs.Slots.{slots_from, by_place}
use Rattle.node_machine.specs.Booting.{BootFails}
use Rattle.node_machine.specs.declared.boot_error.BootError.TheVariants.{NoFrames, NoMemory}
use Rattle.node_machine.specs.declared.boot_error.BootError.{BootError}
use Rattle.pair_core.specs.Booting.{booted_in, guest_at, no_guests, node_with, pair_with}
use Rattle.std.proofs.Common.{ap, arith, refl, sym, ◌∙◌}
use Rattle.std.proofs.lemmas.Bool.Decides.{nat_tests}
use Rattle.std.specs.Prelude.{Bool, List, None, Option, Some, [], cond, false, fold, length, map, nat_lt, replicate, suc, true, zero, ℕ, ◌+◌, ◌-◌, ◌<◌, ◌==◌, ◌∷◌, ◌≡◌, ◌≤◌}

-- ---- rows that are put in, first to last

module _ {V : Type 0} where
  commute : (m : Map V) (k l : ℕ) (v w : V) → (k == l) ≡ false → put (put m k v) l w ≡ put (put m l w) k v
  commute m k l v w n = same_rows _ _ (λ q. at-put (put m k v) l w q ∙ ap (cond (q == l) (Some w)) (at-put m k v q) ∙ go q (q == k) (q == l) refl refl (at m q) ∙ ap (cond (q == k) (Some v)) (sym (at-put m l w q)) ∙ sym (at-put (put m l w) k v q))
    where
      go : (q : ℕ) (x y : Bool) → (q == k) ≡ x → (q == l) ≡ y → (o : Option V) → cond y (Some w) (cond x (Some v) o) ≡ cond x (Some v) (cond y (Some w) o)
      go q true true e f o = absurd (grind (arith, nat_tests, e, f, n))
      go q true false e f o = refl
      go q false true e f o = refl
      go q false false e f o = refl

  module _ (f : Guest → V) where
    abbrev pub put_by : Map V → Guest → Map V
    put_by m g = put m g.number (f g)

    past : (n : ℕ) (lines : List GuestLine) (images : List Image) (m : Map V) (k : ℕ) (v : V) → k < n → fold put_by (put m k v) (guests_from n lines images) ≡ put (fold put_by m (guests_from n lines images)) k v
    past n [] images m k v l = refl
    past n (a ∷ lines) [] m k v l = refl
    past n (a ∷ lines) (image ∷ images) m k v l =
        let differ : (k == n) ≡ false = grind (arith, nat_tests, l) in
        ap (λ (x : Map V). fold put_by x (guests_from (n + 1) lines images)) (commute m k n v (f (guest_at n a image)) differ)
        ∙ past (n + 1) lines images (put m n (f (guest_at n a image))) k v (omega (arith, l))

    pub puts-are : (n : ℕ) (lines : List GuestLine) (images : List Image) → fold put_by no_rows (guests_from n lines images) ≡ by_guest f (guests_from n lines images)
    puts-are n [] images = refl
    puts-are n (a ∷ lines) [] = refl
    puts-are n (a ∷ lines) (image ∷ images) =
        past (n + 1) lines images no_rows n (f (guest_at n a image)) (omega arith)
        ∙ ap (λ (x : Map V). put x n (f (guest_at n a image))) (puts-are (n + 1) lines images)

-- ---- the guests, one after another

abbrev pub folded : Pair → List Guest → Pair
folded x gs =
    let b = fold (with_guest x.rings) (booted_in x) gs in
    record x {
      node = record x.node { processes = fold (put_by guest_process) x.node.processes gs; threads = fold (put_by guest_thread) x.node.threads gs };
      sides = b.sides;
      frames = b.frames;
      free = b.free;
    }

fold-is : (gs : List Guest) (x : Pair) → fold pair_with x gs ≡ folded x gs
fold-is [] x = refl
fold-is (g ∷ gs) x = fold-is gs (pair_with x g)

pub boots : (job : Job) (images : List Image) → fold pair_with (no_guests job) (guests_from 1 job.guests images) ≡ boot job images
unfolding guests_of
boots job images =
    fold-is (guests_from 1 job.guests images) (no_guests job)
    ∙ (λ i. record (folded (no_guests job) (guests_from 1 job.guests images)) {
      node = record (no_guests job).node { processes = puts-are guest_process 1 job.guests images i; threads = puts-are guest_thread 1 job.guests images i };
    })

-- ---- one guest

pub pair-more : (x : Pair) (node : Node) (sides : Map Side) (side : Side) (sp : Space) (g : Guest) → node ≡ node_with g x.node → sides ≡ put x.sides g.number side
    → side ≡ record (new_side x.rings) { lwk = record no_lwk { table = sp.table } } → sp ≡ guest_space (booted_in x) g
    → record x { node = node; sides = sides; frames = sp.frames; free = sp.free } ≡ pair_with x g
pair-more x node sides side sp g n puts fresh space =
    (λ i. record x { node = n i; sides = puts i; frames = sp.frames; free = sp.free })
    ∙ ((λ i. record x { node = node_with g x.node; sides = put x.sides g.number (fresh i); frames = sp.frames; free = sp.free })
    ∙ (λ i. record x { node = node_with g x.node; sides = put x.sides g.number (record (new_side x.rings) { lwk = record no_lwk { table = (space i).table } }); frames = (space i).frames; free = (space i).free }))

-- ---- the frames

zero-from : (k n : ℕ) → slots_from k (map Some (replicate n zero_page)) ≡ zero_frames (count_from k n)
zero-from k zero = refl
zero-from k (suc n) =
    let next : suc k ≡ k + 1 = omega arith in
    ap (λ (m : Map (List ℕ)). put m k zero_page) (ap (λ j. slots_from j (map Some (replicate n zero_page))) next ∙ zero-from (k + 1) n)

pub zero-frames : (n : ℕ) → by_place (map Some (replicate n zero_page)) ≡ zero_frames (count_from 0 n)
unfolding by_place
zero-frames n = zero-from 0 n

-- ---- want of frames

pub enough : (free : ℕ) (g : Guest) → needed_frames g.image ≤ free → shortage_from free (g ∷ []) ≡ None
enough free g l = let e : nat_lt free (needed_frames g.image) ≡ false = grind (arith, nat_tests, l) in ap (λ b. cond b (Some (record { guest = g.number; needed = needed_frames g.image; free = free })) None) e

pub short : (free : ℕ) (g : Guest) → free < needed_frames g.image → shortage_from free (g ∷ []) ≡ Some (record { guest = g.number; needed = needed_frames g.image; free = free })
short free g l = let e : nat_lt free (needed_frames g.image) ≡ true = grind (arith, nat_tests, l) in ap (λ b. cond b (Some (record { guest = g.number; needed = needed_frames g.image; free = free })) None) e

-- where the first guest lacks them, all do
first-lacks : (b : Bool) (s t : Shortage) (more : Option Shortage) → cond b (Some s) None ≡ Some t → cond b (Some s) more ≡ Some t
first-lacks true s t more e = e
first-lacks false s t more e = absurd (grind (arith, e))

pub lacks : (free : ℕ) (g : Guest) (gs : List Guest) (e : BootError) → BootFails e (shortage_from free (g ∷ [])) → BootFails e (shortage_from free (g ∷ gs))
lacks free g gs (NoFrames guest needed left) h =
    first-lacks (nat_lt free (needed_frames g.image)) (record { guest = g.number; needed = needed_frames g.image; free = free }) (record { guest = guest; needed = needed; free = left }) (shortage_from (free - needed_frames g.image) gs) h
lacks free g gs NoMemory h = tt

first-none : (b : Bool) (s : Shortage) (more : Option Shortage) → cond b (Some s) None ≡ None → more ≡ cond b (Some s) more
first-none true s more e = absurd (grind (arith, e))
first-none false s more e = refl

-- where it has them, the others are left
pub goes-on : (free left : ℕ) (g : Guest) (gs : List Guest) → shortage_from free (g ∷ []) ≡ None → left + needed_frames g.image ≡ free → shortage_from left gs ≡ shortage_from free (g ∷ gs)
goes-on free left g gs h e =
    let less : left ≡ free - needed_frames g.image = omega (arith, e) in
    ap (λ n. shortage_from n gs) less
    ∙ first-none (nat_lt free (needed_frames g.image)) (record { guest = g.number; needed = needed_frames g.image; free = free }) (shortage_from (free - needed_frames g.image) gs) h

-- the shortage of the job is that of its guests before the first of them
pub whole-shortage : (job : Job) (images : List Image) (x : Pair) (lines : List GuestLine) → x ≡ no_guests job → lines ≡ job.guests → shortage_from (length x.free) (guests_from 1 lines images) ≡ shortage job images
unfolding guests_of
whole-shortage job images x lines e l =
    (λ i. shortage_from (length (e i).free) (guests_from 1 (l i) images)) ∙ ap (λ n. shortage_from n (guests_from 1 job.guests images)) (length-from 0 job.frames)
