-- A guest's memory has at most as many pages as its image needs frames.
use Rattle.std.specs.FinMap as finmap
use Rattle.isa_model.specs.Memory as IsaMemory
use Rattle.isa_model.specs.Memory.{Memory, Page, put_byte, write_bytes}
use Rattle.job_model.specs.declared.image.Image.{Image}
use Rattle.job_model.specs.declared.image.Segment.{Segment}
use Rattle.kernel_model.specs.Layout.{add_segment, add_stack, add_trampoline, auxiliary_bytes, guest_memory, needed_frames, page_with, segment_page, stack_pages, stack_pointer, stack_words, strings, strings_address}
use Rattle.kernel_model.specs.MemoryCalls.{rights_of_prot}
use Rattle.kernel_model.specs.Pages.{page_number, page_size, pages_in, pages_of, zero_page}
use Rattle.kernel_model.specs.Signals.{trampoline}
use Rattle.mck_word.specs.Lists.{count_from}
use Rattle.mck_word.specs.Maps.{Map, at, change, change_row, count, no_rows, put}
use Rattle.mck_word.specs.Words.{little_endian}
use Rattle.std.proofs.Common.{ap, arith, refl, ◌∙◌}
use Rattle.std.specs.Cmp.{nat_cmp_total}
use Rattle.std.specs.Ordering.{nat_cmp}
use Rattle.std.specs.Prelude.{Bool, List, None, Option, Some, [], cond, false, flat_map, fold, is_some, length, suc, take, true, zero, ℕ, ◌++◌, ◌+◌, ◌-◌, ◌/◌, ◌∷◌, ◌≡◌, ◌≤◌}

module _ {V : Type 0} where
  -- a row more at most
  count-put : (m : Map V) (k : ℕ) (v : V) → count (put m k v) ≤ count m + 1
  count-put m k v = let a = finmap.len-insert nat_cmp_total m k v in go (is_some (at m k)) a
    where
      go : (b : Bool) → count (put m k v) ≡ cond b (count m) (count m + 1) → count (put m k v) ≤ count m + 1
      go true e = omega (arith, e)
      go false e = omega (arith, e)

  -- as many where the row was there
  count-change : (m : Map V) (k : ℕ) (f : V → V) → count (change m k f) ≤ count m
  count-change m k f = go (at m k) refl
    where
      go : (o : Option V) → at m k ≡ o → count (change_row m k f o) ≤ count m
      go None e = omega arith
      go (Some v) e = let a = finmap.len-insert nat_cmp_total m k (f v) ∙ ap (λ (o : Option V). cond (is_some o) (count m) (count m + 1)) e in omega (arith, a)

  count-puts : (f : ℕ → V) (ps : List ℕ) (m : Map V) → count (fold (λ (n : Map V) page. put n page (f page)) m ps) ≤ count m + length ps
  count-puts f [] m = omega arith
  count-puts f (p ∷ ps) m = let a = count-puts f ps (put m p (f p)) in let b = count-put m p (f p) in omega (arith, a, b)

length-joined : (xs ys : List ℕ) → length (xs ++ ys) ≡ length xs + length ys
length-joined [] ys = omega arith
length-joined (x ∷ xs) ys = let a = length-joined xs ys in omega (arith, a)

pub length-from : (n k : ℕ) → length (count_from n k) ≡ k
length-from n zero = refl
length-from n (suc k) = let a = length-from (n + 1) k in omega (arith, a)

abbrev segment_pages : Segment → List ℕ
segment_pages s = pages_in (pages_of s.addr s.mem)

count-segments : (ss : List Segment) (m : Memory) → count (fold add_segment m ss) ≤ count m + length (flat_map segment_pages ss)
count-segments [] m = omega arith
count-segments (s ∷ ss) m =
    let a = count-segments ss (add_segment m s) in
    let b = count-puts (λ (page : ℕ). page_with s.rights (segment_page s page)) (segment_pages s) m in
    let c = length-joined (segment_pages s) (flat_map segment_pages ss) in
    omega (arith, a, b, c)

count-written : (bs : List ℕ) (m : Memory) (a : ℕ) → count (write_bytes m a bs) ≤ count m
unfolding write_bytes
count-written [] m a = omega arith
count-written (b ∷ bs) m a = let c = count-written bs (put_byte m a b) (a + 1) in let d = count-change m (a / 4096) (IsaMemory.page_with a b) in omega (arith, c, d)

pub count-guest : (image : Image) (arguments : List (List ℕ)) → count (guest_memory image arguments) ≤ needed_frames image
unfolding guest_memory
count-guest image arguments =
    let m0 = fold add_segment no_rows image.segments in
    let a = count-segments image.segments no_rows in
    let z = finmap.len-empty nat_cmp Page in
    let m1 = add_stack m0 in
    let b = count-puts (λ (page : ℕ). page_with (rights_of_prot 3) zero_page) (count_from (page_number trampoline - stack_pages) stack_pages) m0 in
    let l = length-from (page_number trampoline - stack_pages) stack_pages in
    let m2 = add_trampoline m1 in
    let c = count-put m1 (page_number trampoline) (page_with (rights_of_prot 5) (take page_size (little_endian 4 0x08b00893 ++ little_endian 4 0x73 ++ zero_page))) in
    let w1 = write_bytes m2 auxiliary_bytes (count_from 0 16) in
    let d = count-written (count_from 0 16) m2 auxiliary_bytes in
    let w2 = write_bytes w1 (strings_address arguments) (strings arguments) in
    let e = count-written (strings arguments) w1 (strings_address arguments) in
    let f = count-written (flat_map (little_endian 8) (stack_words image arguments)) w2 (stack_pointer arguments) in
    omega (arith, a, z, b, l, c, d, e, f)
