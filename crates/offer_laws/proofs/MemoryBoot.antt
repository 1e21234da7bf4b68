-- At the boot each heap begins where an image may end, or below, and no thread waits for a change.
use Rattle.job_model.specs.Images.{IsImage, IsSegment, highest}
use Rattle.job_model.specs.declared.image.Image.{Image}
use Rattle.job_model.specs.declared.image.Segment.{Segment}
use Rattle.job_model.specs.declared.job.GuestLine.{GuestLine}
use Rattle.kernel_model.specs.Layout.{heap_base_of, segment_end}
use Rattle.kernel_model.specs.Nodes.{Process, Thread}
use Rattle.kernel_model.specs.OneKernel.{Guest, by_guest, guest_process, guest_thread, guests_from}
use Rattle.kernel_model.specs.Pages.{page_end}
use Rattle.kernel_model.specs.declared.Change.{Change}
use Rattle.mck_word.specs.MapLaws.{at-none, at-put}
use Rattle.mck_word.specs.Maps.{Map, at, put}
use Rattle.offer_laws.specs.ChangeFits.{ChangeFits, MemoryFits, wanted}
use Rattle.std.proofs.Common.{ap, arith, sym, ◌∙◌}
use Rattle.std.proofs.lemmas.List.Elements.{All-tail}
use Rattle.std.specs.Prelude.{All, Bool, List, Some, [], cond, false, fold, max, true, ℕ, ◌*◌, ◌+◌, ◌==◌, ◌∷◌, ◌≡◌, ◌≤◌}

ends-low : (segments : List Segment) (a : ℕ) → a ≤ highest → All IsSegment segments → fold (λ b s. max b (segment_end s)) a segments ≤ highest
ends-low [] a l h = l
ends-low (s ∷ segments) a l h = let is : IsSegment s = h 0 s (omega arith) in let r = is.range in ends-low segments (max a (segment_end s)) (omega (arith, l, r)) (All-tail IsSegment s segments h)

whole-pages : (n : ℕ) → n ≤ highest → page_end n * 4096 ≤ highest
whole-pages n l = omega (arith, l)

heap-low : (image : Image) → IsImage image → heap_base_of image ≤ highest
heap-low image is = whole-pages (fold (λ b s. max b (segment_end s)) 0 image.segments) (ends-low image.segments 0 (omega arith) is.kept)

-- one guest more
with-guest : (processes : Map Process) (threads : Map Thread) (g : Guest) → heap_base_of g.image ≤ highest → MemoryFits processes threads → MemoryFits (put processes g.number (guest_process g)) (put threads g.number (guest_thread g))
with-guest processes threads g low f = record {
  heaps = λ p x e. heap p x (p == g.number) (sym (at-put processes g.number (guest_process g) p) ∙ e);
  changes = λ t c e. change t c (t == g.number) (sym (ap wanted (at-put threads g.number (guest_thread g) t)) ∙ e);
}
  where
    heap : (p : ℕ) (x : Process) (b : Bool) → cond b (Some (guest_process g)) (at processes p) ≡ Some x → x.heap_base ≤ highest
    heap p x true k = let h : guest_process g ≡ x = cc in let b = ap (λ (z : Process). z.heap_base) h in omega (arith, b, low)
    heap p x false k = f.heaps p x k

    change : (t : ℕ) (c : Change) (b : Bool) → wanted (cond b (Some (guest_thread g)) (at threads t)) ≡ Some c → ChangeFits c
    change t c true k = absurd (grind (arith, k))
    change t c false k = f.changes t c k

no-guests : MemoryFits (by_guest guest_process []) (by_guest guest_thread [])
no-guests = record {
  heaps = λ p x e. absurd (let k = sym (at-none {V = Process} p) ∙ e in grind (arith, k));
  changes = λ t c e. absurd (let k = ap wanted (sym (at-none {V = Thread} t)) ∙ e in grind (arith, k));
}

guests-fit : (n : ℕ) (lines : List GuestLine) (images : List Image) → All IsImage images → MemoryFits (by_guest guest_process (guests_from n lines images)) (by_guest guest_thread (guests_from n lines images))
guests-fit n [] images h = no-guests
guests-fit n (a ∷ lines) [] h = no-guests
guests-fit n (a ∷ lines) (image ∷ images) h =
    let g : Guest = record { number = n; arguments = a.args; image = image } in
    with-guest (by_guest guest_process (guests_from (n + 1) lines images)) (by_guest guest_thread (guests_from (n + 1) lines images)) g (heap-low image (h 0 image (omega arith))) (guests-fit (n + 1) lines images (All-tail IsImage image images h))

pub boot-fits : (lines : List GuestLine) (images : List Image) → All IsImage images → MemoryFits (by_guest guest_process (guests_from 1 lines images)) (by_guest guest_thread (guests_from 1 lines images))
boot-fits lines images h = guests-fit 1 lines images h
