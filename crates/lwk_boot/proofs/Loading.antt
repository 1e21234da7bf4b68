-- What pages that are put in leave of a table and of the free frames.
use Rattle.hybrid_model.specs.Spaces.{Space, copied_pages, rest_numbers}
use Rattle.isa_model.specs.Memory.{Memory}
use Rattle.job_model.specs.Images.{IsImage}
use Rattle.job_model.specs.declared.image.Image.{Image}
use Rattle.job_model.specs.declared.image.Segment.{Segment}
use Rattle.kernel_model.specs.Layout.{guest_memory, page_with, segment_page}
use Rattle.kernel_model.specs.MemoryCalls.{rights_of_prot}
use Rattle.kernel_model.specs.Pages.{pages_of, range}
use Rattle.kernel_model.specs.Spaces.{each_page}
use Rattle.lwk_boot.proofs.Copies.{at-other, from-end, skip}
use Rattle.lwk_boot.proofs.GuestPages.{guest-high, guest-stack, guest-top, guest-trampoline, length-top, placed-page}
use Rattle.lwk_boot.proofs.InOrder.{ends-at, none-between}
use Rattle.lwk_boot.specs.Guests.{AreArguments, HasSegments, first_page, from_page, last_end, segment_at, stack_first, stack_last, trampoline_page}
use Rattle.lwk_boot.specs.Loads.{HasIn, HasTop, trampoline_address, trampoline_bytes}
use Rattle.lwk_boot.specs.Order.{AreBefore, IsNext, NoneLeft}
use Rattle.lwk_boot.specs.Top.{top_address, top_page}
use Rattle.lwk_space.specs.Fills.{fill_page, placed}
use Rattle.mck_flags.specs.declared.rights.Rights.{Rights}
use Rattle.mck_word.specs.Maps.{at, entries}
use Rattle.mck_word.specs.declared.PageRange.{PageRange}
use Rattle.std.proofs.Common.{ap, arith, refl, sym, ◌∙◌}
use Rattle.std.specs.Prelude.{List, Some, [], ◌∷◌, length, suc, zero, ℕ, ◌+◌, ◌-◌, ◌<◌, ◌≡◌, ◌≢◌, ◌≤◌}

module _ (rights : Rights) (start : ℕ) (bytes : List ℕ) where
  fill-other : (lo : ℕ) (sp : Space) (q : ℕ) → q ≢ lo → at (fill_page rights start bytes lo sp).table q ≡ at sp.table q
  unfolding fill_page
  fill-other lo sp q o = at-other sp.table lo q _ o

  fill-rest : (lo : ℕ) (sp : Space) → (fill_page rights start bytes lo sp).free ≡ rest_numbers sp.free
  unfolding fill_page
  fill-rest lo sp = refl

  -- the pages behind a range stay
  pub fill-behind : (n lo : ℕ) (sp : Space) (q : ℕ) → lo + n ≤ q → at (each_page (fill_page rights start bytes) n lo sp).table q ≡ at sp.table q
  fill-behind zero lo sp q l = refl
  fill-behind (suc n) lo sp q l = fill-behind n (suc lo) (fill_page rights start bytes lo sp) q (omega arith) ∙ fill-other lo sp q (λ (e : q ≡ lo). absurd (omega arith))

  pub fill-free : (n lo : ℕ) (sp : Space) → length (each_page (fill_page rights start bytes) n lo sp).free ≡ length sp.free - n
  fill-free zero lo sp = omega arith
  fill-free (suc n) lo sp =
      let next = fill_page rights start bytes lo sp in
      let less = ap length (fill-rest lo sp) ∙ length-rest sp.free in
      let rest = fill-free n (suc lo) next in
      rest ∙ (ap (λ k. k - n) less ∙ (let e : length sp.free - 1 - n ≡ length sp.free - suc n = omega arith in e))
    where
      length-rest : (xs : List ℕ) → length (rest_numbers xs) ≡ length xs - 1
      length-rest [] = refl
      length-rest (x ∷ xs) = omega arith

pub guest-has-top : (image : Image) (arguments : List (List ℕ)) → IsImage image → AreArguments arguments → HasTop image arguments (guest_memory image arguments)
guest-has-top image arguments is are = record {
  stack = guest-stack image arguments are;
  last = guest-top image arguments are;
  trampoline = guest-trampoline image arguments are;
  above = guest-high image arguments is are;
}

-- ---- segments

segment-placed : (s : Segment) (p : ℕ) → segment_page s p ≡ placed s.addr s.bytes p
unfolding placed
segment-placed s p = refl

pub has-in : (segments : List Segment) (m : Memory) (k : ℕ) (s : Segment) (r : PageRange) (bytes : List ℕ) → HasSegments segments m → k < length segments → s ≡ segment_at segments k
    → r ≡ pages_of s.addr s.mem → bytes ≡ s.bytes → HasIn r s.rights s.addr bytes m
has-in segments m k s r bytes has l es er eb p a b =
    let lo = ap (λ (x : PageRange). x.lo) er ∙ ap (λ (x : Segment). first_page x) es in
    let hi = ap (λ (x : PageRange). x.hi) er ∙ ap (λ (x : Segment). last_end x) es in
    has.inside k p l (omega (arith, lo, a)) (omega (arith, hi, b))
    ∙ (ap (λ (x : Segment). Some (page_with x.rights (segment_page x p))) (sym es)
    ∙ (ap (λ bs. Some (page_with s.rights bs)) (segment-placed s p) ∙ ap (λ bs. Some (page_with s.rights (placed s.addr bs p))) (sym eb)))

-- what lies before the next segment is skipped
pub copied-next : (image : Image) → IsImage image → (page k : ℕ) → IsNext image.segments page k → AreBefore image.segments page → (m : Memory) → HasSegments image.segments m → (sp : Space)
    → copied_pages (entries (from_page m page)) sp ≡ copied_pages (entries (from_page m (first_page (segment_at image.segments k)))) sp
copied-next image is page k next before m has sp =
    let e = ends-at image is k next.inside in
    ap (λ (x : Memory). copied_pages (entries x) sp)
    (skip m page (first_page (segment_at image.segments k)) next.low (λ p a b. has.outside p (omega (arith, e.some, e.most, b)) (none-between image is page k next before p a b)))

pub copied-end : (segments : List Segment) (page : ℕ) → NoneLeft segments page → AreBefore segments page → page ≤ stack_first → (m : Memory) → HasSegments segments m → (sp : Space)
    → copied_pages (entries (from_page m page)) sp ≡ copied_pages (entries (from_page m stack_first)) sp
copied-end segments page none before low m has sp =
    ap (λ (x : Memory). copied_pages (entries x) sp)
    (skip m page stack_first low (λ p a b. has.outside p b (λ k l f. let e = before k l (none k l) in omega arith)))

-- ---- the top

module _ (image : Image) (arguments : List (List ℕ)) (m : Memory) (has : HasTop image arguments m) where
  pub top-stack : HasIn (range stack_first stack_last) (record { 0 = 3 }) 0 [] m
  unfolding rights_of_prot
  top-stack p a b = has.stack p a b

  pub top-last : AreArguments arguments → (bytes : List ℕ) → bytes ≡ top_page image arguments → HasIn (range stack_last trampoline_page) (record { 0 = 3 }) top_address bytes m
  unfolding rights_of_prot
  top-last are bytes e p a b =
      let one : p ≡ stack_last = omega arith in
      ap (at m) one ∙ (has.last
      ∙ (ap (λ bs. Some (page_with (record { 0 = 3 }) bs)) (sym e ∙ sym (placed-page bytes (ap length e ∙ length-top image arguments are)))
      ∙ ap (λ q. Some (page_with (record { 0 = 3 }) (placed top_address bytes q))) (sym one)))

  pub top-trampoline : HasIn (range trampoline_page 0x4000000) (record { 0 = 5 }) trampoline_address trampoline_bytes m
  unfolding rights_of_prot
  top-trampoline p a b =
      let one : p ≡ trampoline_page = omega arith in
      ap (at m) one ∙ (has.trampoline ∙ ap (λ q. Some (page_with (record { 0 = 5 }) (placed trampoline_address trampoline_bytes q))) (sym one))

  pub top-end : (sp : Space) → copied_pages (entries (from_page m 0x4000000)) sp ≡ sp
  top-end sp = ap (λ es. copied_pages es sp) (from-end m 0x4000000 (λ k a. has.above k (omega arith)))
