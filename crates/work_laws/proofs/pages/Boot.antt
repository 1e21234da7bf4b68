-- Each page has its 4,096 bytes at the boot.
use Rattle.isa_model.specs.Memory.{Memory, Page}
use Rattle.job_model.specs.declared.image.Image.{Image}
use Rattle.job_model.specs.declared.image.Segment.{Segment}
use Rattle.job_model.specs.declared.job.Job.{Job}
use Rattle.kernel_model.specs.Layout.{add_segment, add_stack, add_trampoline, auxiliary_bytes, guest_memory, page_with, segment_page, stack_pages, stack_pointer, stack_words, strings, strings_address}
use Rattle.kernel_model.specs.MemoryCalls.{rights_of_prot}
use Rattle.kernel_model.specs.OneKernel.{Guest, Own, boot, by_guest, guest_own, guests_of}
use Rattle.kernel_model.specs.Pages.{page_number, page_size, pages_in, pages_of, zero_page}
use Rattle.kernel_model.specs.Signals.{trampoline}
use Rattle.mck_word.specs.Lists.{count_from}
use Rattle.mck_word.specs.MapLaws.{at-none}
use Rattle.mck_word.specs.Maps.{at, no_rows, put}
use Rattle.mck_word.specs.Words.{little_endian}
use Rattle.std.proofs.Common.{arith, length-take, refl}
use Rattle.std.specs.Prelude.{List, Some, [], drop, flat_map, fold, length, replicate, take, ℕ, ◌*◌, ◌++◌, ◌+◌, ◌-◌, ◌∷◌, ◌≡◌}
use Rattle.work_laws.proofs.pages.Memory.{full-put, write_bytes-full}
use Rattle.work_laws.proofs.pages.Steps.{none-full, put-full}
use Rattle.work_laws.specs.WholePages.{AllFull, Full}

length-joined : (xs ys : List ℕ) → length (xs ++ ys) ≡ length xs + length ys
length-joined [] ys = omega arith
length-joined (x ∷ xs) ys = let a = length-joined xs ys in omega (arith, a)

-- the first 4,096 bytes of some that end with a page of zeros
filled : (before : List ℕ) → length (take page_size (before ++ zero_page)) ≡ page_size
filled before =
    let a = length-take page_size (before ++ zero_page) in
    let b = length-joined before zero_page in
    let c : length zero_page ≡ 4096 = refl in
    omega (arith, a, b, c)

puts-full : (f : ℕ → Page) → ((i : ℕ) → length (f i).bytes ≡ page_size) → (ps : List ℕ) (m : Memory) → Full m → Full (fold (λ (n : Memory) page. put n page (f page)) m ps)
puts-full f h [] m full = full
puts-full f h (p ∷ ps) m full = puts-full f h ps (put m p (f p)) (full-put m p (f p) (h p) full)

segment-full : (s : Segment) (page : ℕ) → length (segment_page s page) ≡ page_size
segment-full s page =
    let start = page * page_size in
    filled (replicate (s.addr - start) 0 ++ drop (start - s.addr) s.bytes)

segments-full : (ss : List Segment) (m : Memory) → Full m → Full (fold add_segment m ss)
segments-full [] m full = full
segments-full (s ∷ ss) m full = segments-full ss (add_segment m s) (puts-full (λ page. page_with s.rights (segment_page s page)) (segment-full s) (pages_in (pages_of s.addr s.mem)) m full)

guest-full : (image : Image) (arguments : List (List ℕ)) → Full (guest_memory image arguments)
unfolding guest_memory
guest-full image arguments =
    let m0 = fold add_segment no_rows image.segments in
    let m1 = add_stack m0 in
    let m2 = add_trampoline m1 in
    let a = segments-full image.segments no_rows none-full in
    let b = puts-full (λ page. page_with (rights_of_prot 3) zero_page) (λ page. refl) (count_from (page_number trampoline - stack_pages) stack_pages) m0 a in
    let c = full-put m1 (page_number trampoline) (page_with (rights_of_prot 5) (take page_size (little_endian 4 0x08b00893 ++ little_endian 4 0x73 ++ zero_page))) (filled (little_endian 4 0x08b00893 ++ little_endian 4 0x73)) b in
    let d = write_bytes-full (count_from 0 16) m2 auxiliary_bytes c in
    let e = write_bytes-full (strings arguments) _ (strings_address arguments) d in
    write_bytes-full (flat_map (little_endian 8) (stack_words image arguments)) _ (stack_pointer arguments) e

guests-full : (gs : List Guest) → (p : ℕ) (o : Own) → at (by_guest guest_own gs) p ≡ Some o → Full o.memory
guests-full [] p o e = absurd (let z = at-none {V = Own} p in grind (arith, z, e))
guests-full (g ∷ gs) p o e = put-full (by_guest guest_own gs) g.number (guest_own g) (guest-full g.image g.arguments) (guests-full gs) p o e

pub boot-full : (job : Job) (images : List Image) → AllFull (boot job images)
boot-full job images = guests-full (guests_of job images)
