-- What is left to do at the boot: for each guest its console, the end of its process, and the Clear of its first round to come.
use Rattle.std.specs.FinMap as finmap
use Rattle.kernel_model.specs.OneKernel as One
use Rattle.file_model.specs.Files.{Files}
use Rattle.hybrid_laws.proofs.boot.Coherent.{boots}
use Rattle.hybrid_laws.proofs.boot.Sides.{by-guest-at}
use Rattle.hybrid_laws.proofs.maps.Sums.{total-put}
use Rattle.hybrid_model.specs.Boot.{Booted, boot, guest_space, shortage, with_guest, zero_frames}
use Rattle.hybrid_model.specs.Sides.{Side, new_side, no_lwk}
use Rattle.job_model.specs.Prepared.{IsPrepared}
use Rattle.job_model.specs.declared.image.Image.{Image}
use Rattle.job_model.specs.declared.job.GuestLine.{GuestLine}
use Rattle.job_model.specs.declared.job.Job.{Job}
use Rattle.kernel_model.specs.Nodes.{Process}
use Rattle.kernel_model.specs.OneKernel.{Guest, Own, boot_files, boot_node, by_guest, guest_own, guest_process, guest_thread, guests_from, guests_of}
use Rattle.mck_word.specs.Lists.{count_from}
use Rattle.mck_word.specs.Maps.{Map, at, count, no_rows, put, total}
use Rattle.offer_laws.proofs.Rows.{count-none}
use Rattle.std.proofs.Common.{ap, arith, refl}
use Rattle.std.proofs.Math.Nat.{mul-le-mul, mul-le-mul_left}
use Rattle.std.specs.Cmp.{nat_cmp_total}
use Rattle.std.specs.Prelude.{List, None, Option, Some, [], cond, false, fold, is_some, length, suc, ℕ, ◌*◌, ◌+◌, ◌∷◌, ◌≡◌, ◌≤◌}
use Rattle.work_laws.proofs.files.Begin.{begin-left, boot-files}
use Rattle.work_laws.proofs.node.Signals.{no-signals}
use Rattle.work_laws.proofs.sides.New.{new-left}
use Rattle.work_laws.proofs.steps.OneProcess.{none-left, none-marked, total-none}
use Rattle.work_laws.specs.KernelLeft.{Prices, calls_left, kernel_left, marks_left, node_left, of_process, of_thread, own_calls_left, own_marks_left}
use Rattle.work_laws.specs.Left.{left_to_do, price_of_trap, prices}
use Rattle.work_laws.specs.Weights.{of_side, sides_left}

-- ---- what each guest counts
one-more : (c n : ℕ) → c * suc n ≡ c * n + c
one-more c n = grind arith

guests-total : {V : Type 0} (f : V → ℕ) (row : Guest → V) (c : ℕ) → ((g : Guest) → f (row g) ≤ c) → (gs : List Guest) → total f (by_guest row gs) ≤ c * length gs
guests-total f row c h [] = let a = total-none f in omega (arith, a)
guests-total f row c h (g ∷ gs) =
    let a = total-put f (by_guest row gs) g.number (row g) in
    let b = h g in
    let d = guests-total f row c h gs in
    let e = one-more c (length gs) in
    omega (arith, a, b, d, e)

-- ---- as many processes as guests
guests-length : (n : ℕ) (gs : List GuestLine) (images : List Image) → length (guests_from n gs images) ≤ length gs
guests-length n [] images = omega arith
guests-length n (g ∷ gs) [] = omega arith
guests-length n (g ∷ gs) (image ∷ images) = let a = guests-length (n + 1) gs images in omega (arith, a)

put-new : {V : Type 0} (m : Map V) (k : ℕ) (v : V) → is_some (at m k) ≡ false → count (put m k v) ≡ count m + 1
put-new m k v e = let a = finmap.len-insert nat_cmp_total m k v in let b = ap (λ c. cond c (count m) (count m + 1)) e in omega (arith, a, b)

guests-count : (n : ℕ) (gs : List GuestLine) (images : List Image) → length images ≡ length gs → count (by_guest guest_process (guests_from n gs images)) ≡ length gs
guests-count n [] images e = count-none Process
guests-count n (g ∷ gs) [] e = absurd (grind (arith, e))
guests-count n (g ∷ gs) (image ∷ images) e =
    let m = by_guest guest_process (guests_from (n + 1) gs images) in
    let new : Guest = record { number = n; arguments = g.args; image = image } in
    let a = put-new m n (guest_process new) (absent (at m n) refl) in
    let b = guests-count (n + 1) gs images (omega (arith, e)) in
    omega (arith, a, b)
  where
    absent : (o : Option Process) → at (by_guest guest_process (guests_from (n + 1) gs images)) n ≡ o → is_some o ≡ false
    absent None f = refl
    absent (Some x) f = absurd (let w = by-guest-at guest_process (n + 1) gs images n x f in let l = w.3 in omega (arith, l))

-- ---- sides
module _ (workers : ℕ) (files : Files) (few : workers ≤ 4) (rings : ℕ) where
  sides-begin : (gs : List Guest) (b : Booted) → total (of_side workers files) (fold (with_guest rings) b gs).sides ≤ total (of_side workers files) b.sides + 261 * length gs
  sides-begin [] b = omega arith
  sides-begin (g ∷ gs) b =
      let table = (guest_space b g).table in
      let new : Side = record (new_side rings) { lwk = record no_lwk { table = table } } in
      let a = total-put (of_side workers files) b.sides g.number new in
      let n = new-left workers files rings table in
      let i = sides-begin gs (with_guest rings b g) in
      omega (arith, a, n, i, few)

-- ---- all together
shared : (s p n : ℕ) → s * (2 * n) + p * n + 261 * n ≡ (2 * s + p + 261) * n
shared s p n = grind arith

module _ (job : Job) (imgs : List Image) (prepared : IsPrepared job imgs) (enough : shortage job imgs ≡ None) where
  abbrev pub guests : ℕ
  guests = length job.guests

  few-guests : length (guests_of job imgs) ≤ length job.guests
  unfolding guests_of
  few-guests = guests-length 1 job.guests imgs

  pub processes-begin : count (boot job imgs).node.processes ≡ length job.guests
  unfolding guests_of
  processes-begin = guests-count 1 job.guests imgs prepared.one_each

  module _ (k : Prices) where
    calls-begin : calls_left (One.boot job imgs) ≤ 2 * guests
    calls-begin =
        let a = begin-left guests (boot_files job) (boot-files job) in
        let b = guests-total own_calls_left guest_own 0 (λ g. (let z = none-left in omega (arith, z))) (guests_of job imgs) in
        omega (arith, a, b)

    marks-begin : marks_left (One.boot job imgs) ≤ 0
    marks-begin = let b = guests-total own_marks_left guest_own 0 (λ g. (let z = none-marked in omega (arith, z))) (guests_of job imgs) in omega (arith, b)

    node-begin : node_left k (boot_node job imgs) ≤ k.process * guests
    node-begin =
        let z = no-signals in
        let a = guests-total (of_thread k.change) guest_thread 0 (λ g. omega (arith, z)) (guests_of job imgs) in
        let b = guests-total (of_process k.process) guest_process k.process (λ g. omega (arith, z)) (guests_of job imgs) in
        let c = mul-le-mul_left k.process few-guests in
        omega (arith, a, b, c)

    kernel-begin : kernel_left k (One.boot job imgs) ≤ k.step * (2 * guests) + k.process * guests
    kernel-begin =
        let a = mul-le-mul_left k.step calls-begin in
        let b = marks-begin in
        let c = node-begin in
        omega (arith, a, b, c)

  sides-first : sides_left (boot job imgs) ≤ 261 * guests
  sides-first =
      let w = prepared.workers.1 in
      let b : Booted = record { sides = no_rows; frames = zero_frames (count_from 0 job.frames); free = count_from 0 job.frames } in
      let a = sides-begin job.workers (boot_files job) w job.rings (guests_of job imgs) b in
      let z = total-none (of_side job.workers (boot_files job)) in
      let l = few-guests in
      omega (arith, a, z, l)

  pub boot-left : (most : ℕ) → guests ≤ most → left_to_do most (boot job imgs) ≤ price_of_trap most * most
  boot-left most few =
      let k = prices most in
      let some = prepared.guests.0 in
      let a = kernel-begin k in
      let b = ap (kernel_left k) (boots job imgs prepared enough) in
      let c = sides-first in
      let d = shared k.step k.process guests in
      let e : 2 * k.step + k.process + 261 ≤ price_of_trap most = omega (arith, some, few) in
      let f = mul-le-mul e few in
      omega (arith, a, b, c, d, f)
