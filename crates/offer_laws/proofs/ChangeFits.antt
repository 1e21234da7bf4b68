-- The memory of each process stays within its bounds: where its heap begins, and what the changes that wait for their rounds map.
use Rattle.file_model.specs.Errno.{EINVAL, ENOMEM}
use Rattle.hybrid_laws.proofs.maps.Tests.{both}
use Rattle.hybrid_laws.proofs.trap.DecideSays.{found-test}
use Rattle.isa_model.specs.Memory.{Memory}
use Rattle.job_model.specs.Images.{highest}
use Rattle.kernel_model.specs.CallPhases.{argument}
use Rattle.kernel_model.specs.MemoryCalls.{Reply as DecidedReply, Round as DecidedRound, Decision, Now, all_present, any_lessened, brk, brk_down, brk_up, count_present, decide, exceeds, gap_below, gap_ends, highest_gap, highest_gap_end, is_aligned, is_fixed, is_gap, is_inside, low_word, lowest_address, map_anywhere, map_fixed, mmap, most_heap, mprotect, munmap, no_page_in, pages_for, protect_range, range_for, refuse, rights_of_prot, round_or_now}
use Rattle.kernel_model.specs.Nodes.{Node, Process, Thread, change_in, no_process, no_thread, process_of, thread_of}
use Rattle.kernel_model.specs.Pages.{page_end, page_number, pages_count, range}
use Rattle.kernel_model.specs.declared.Change.TheVariants.{Brk, Map as ChangeMap, Protect, Unmap}
use Rattle.kernel_model.specs.declared.Change.{Change}
use Rattle.mck_flags.specs.declared.rights.Rights.{Rights}
use Rattle.mck_word.specs.Maps.{at}
use Rattle.mck_word.specs.Words.{has_bit}
use Rattle.mck_word.specs.declared.PageRange.{PageRange}
use Rattle.offer_laws.specs.ChangeFits.{ChangeFits, DecisionFits, NodeFits, wanted}
use Rattle.std.proofs.Common.{arith, refl, ◌∙◌}
use Rattle.std.proofs.lemmas.Bool.Decides.{nat_tests}
use Rattle.std.specs.Prelude.{Bool, None, Option, Some, cond, false, List, nat_le, nat_lt, not, pos, true, unwrap_or, ℕ, ◌%◌, ◌&&◌, ◌*◌, ◌+◌, ◌==◌, ◌^◌, ◌||◌, ◌≡◌, ◌≤◌}
use Rattle.system_calls.specs.declared.MemoryCall.TheVariants as Calls
use Rattle.system_calls.specs.declared.MemoryCall.{MemoryCall}

pub low-heap : (a : Node) (p : ℕ) → NodeFits a → (process_of a p).heap_base ≤ highest
low-heap a p f = go (at a.processes p) refl
  where
    go : (o : Option Process) → at a.processes p ≡ o → (unwrap_or o no_process).heap_base ≤ highest
    go None e = omega arith
    go (Some x) e = f.heaps p x e

-- the change for which a thread waits fits
pub wanted-fits : (a : Node) (t : ℕ) (c : Change) → NodeFits a → change_in (thread_of a t).does ≡ Some c → ChangeFits c
wanted-fits a t c f e = f.changes t c (same (at a.threads t) ∙ e)
  where
    same : (o : Option Thread) → wanted o ≡ change_in (unwrap_or o no_thread).does
    same None = refl
    same (Some x) = refl

-- ---- what a call decides
fits-if : (b : Bool) (d e : Decision) → (b ≡ true → DecisionFits d) → (b ≡ false → DecisionFits e) → DecisionFits (cond b d e)
fits-if true d e k l = k refl
fits-if false d e k l = l refl

-- a range from an address on that lies inside the bounds
range-rises : (address len : ℕ) → (range_for address len).lo ≤ (range_for address len).hi
range-rises address len = omega arith

range-below : (address len : ℕ) → is_inside address len ≡ true → (range_for address len).hi ≤ 2 ^ 27
range-below address len e =
    let b = (both (nat_le lowest_address address) (nat_le (address + pages_for len * 4096) 0x3ffffff000) e).1 in
    let l : address + pages_for len * 4096 ≤ 0x3ffffff000 = grind (arith, nat_tests, b) in
    omega (arith, l)

-- a test that is not refused
not-refused : (b : Bool) → not b ≡ false → b ≡ true
not-refused true e = refl
not-refused false e = absurd (grind (arith, e))

last-false : (a b : Bool) → (a || b) ≡ false → b ≡ false
last-false true b e = absurd (grind (arith, e))
last-false false b e = e

fixed-inside : (fixed a b : Bool) → (fixed && (not a || not b)) ≡ false → fixed ≡ true → b ≡ true
fixed-inside true a b e f = not-refused b (last-false (not a) (not b) e)
fixed-inside false a b e f = absurd (grind (arith, f))

module _ (x : Process) (m : Memory) (free : ℕ) where
  fixed-fits : (r : PageRange) (rights : Rights) → r.lo ≤ r.hi → r.hi ≤ 2 ^ 27 → DecisionFits (map_fixed m free r rights)
  fixed-fits r rights l h = fits-if (nat_lt 0 (count_present m r)) (DecidedRound (ChangeMap r rights)) (cond (exceeds m free r) (refuse ENOMEM) (Now (ChangeMap r rights))) (λ e. (l, h))
      (λ e. fits-if (exceeds m free r) (refuse ENOMEM) (Now (ChangeMap r rights)) (λ f. tt) (λ f. (l, h)))

  anywhere-fits : (n : ℕ) (rights : Rights) → DecisionFits (map_anywhere m free n rights)
  anywhere-fits n rights = fits-if (nat_lt free n) (refuse ENOMEM) (elim (highest_gap m n) as (λ _. Decision) [ None ↦ refuse ENOMEM | Some high ↦ Now (ChangeMap (gap_below n high) rights) ]) (λ e. tt)
      (λ e. gap (highest_gap m n) refl)
    where
      gap : (o : Option ℕ) → highest_gap m n ≡ o → DecisionFits (elim o as (λ _. Decision) [ None ↦ refuse ENOMEM | Some high ↦ Now (ChangeMap (gap_below n high) rights) ])
      gap None f = tt
      gap (Some high) f =
          let a = both (nat_le high (page_number highest_gap_end) && nat_le (page_number lowest_address + n) high) (no_page_in m (gap_below n high)) (found-test (is_gap m n) (gap_ends m) high f) in
          let b = (both (nat_le high 0x3f00000) (nat_le (page_number lowest_address + n) high) a.0).0 in
          let top : high ≤ 0x3f00000 = grind (arith, nat_tests, b) in
          (omega arith, omega (arith, top))

  mmap-fits : (address len prot flags : ℕ) → DecisionFits (mmap m free address len prot flags)
  mmap-fits address len prot flags = fits-if (len == 0 || nat_lt 7 prot || not (flags % 4 == 2) || not (has_bit 5 flags) || (is_fixed flags && (not (is_aligned address) || not (is_inside address len)))) (refuse EINVAL)
      (cond (is_fixed flags) (map_fixed m free (range_for address len) (rights_of_prot prot)) (map_anywhere m free (pages_for len) (rights_of_prot prot))) (λ e. tt)
      (λ e. fits-if (is_fixed flags) (map_fixed m free (range_for address len) (rights_of_prot prot)) (map_anywhere m free (pages_for len) (rights_of_prot prot))
      (λ f. fixed-fits (range_for address len) (rights_of_prot prot) (range-rises address len)
      (range-below address len (fixed-inside (is_fixed flags) (is_aligned address) (is_inside address len) (last-false (len == 0 || nat_lt 7 prot || not (flags % 4 == 2) || not (has_bit 5 flags)) (is_fixed flags && (not (is_aligned address) || not (is_inside address len))) e) f)))
      (λ f. anywhere-fits (pages_for len) (rights_of_prot prot)))

  munmap-fits : (address len : ℕ) → DecisionFits (munmap m address len)
  munmap-fits address len = fits-if (not (is_aligned address) || len == 0 || not (is_inside address len)) (refuse EINVAL) (cond (nat_lt 0 (count_present m (range_for address len))) (DecidedRound (Unmap (range_for address len))) (DecidedReply (pos 0))) (λ e. tt)
      (λ e. fits-if (nat_lt 0 (count_present m (range_for address len))) (DecidedRound (Unmap (range_for address len))) (DecidedReply (pos 0)) (λ f. range-rises address len) (λ f. tt))

  protect-fits : (r : PageRange) (rights : Rights) → r.lo ≤ r.hi → DecisionFits (protect_range m r rights)
  protect-fits r rights l = fits-if (any_lessened m r rights) (DecidedRound (Protect r rights)) (cond (all_present m r) (Now (Protect r rights)) (refuse ENOMEM)) (λ e. l)
      (λ e. fits-if (all_present m r) (Now (Protect r rights)) (refuse ENOMEM) (λ f. l) (λ f. tt))

  mprotect-fits : (address len prot : ℕ) → DecisionFits (mprotect m address len prot)
  mprotect-fits address len prot = fits-if (not (is_aligned address) || nat_lt 7 prot) (refuse EINVAL) (cond (len == 0) (DecidedReply (pos 0)) (cond (not (is_inside address len)) (refuse ENOMEM) (protect_range m (range_for address len) (rights_of_prot prot)))) (λ e. tt)
      (λ e. fits-if (len == 0) (DecidedReply (pos 0)) (cond (not (is_inside address len)) (refuse ENOMEM) (protect_range m (range_for address len) (rights_of_prot prot))) (λ f. tt)
      (λ f. fits-if (not (is_inside address len)) (refuse ENOMEM) (protect_range m (range_for address len) (rights_of_prot prot)) (λ g. tt) (λ g. protect-fits (range_for address len) (rights_of_prot prot) (range-rises address len))))

  brk-fits : x.heap_base ≤ highest → (a : ℕ) → DecisionFits (brk x m free a)
  brk-fits low a = fits-if (nat_lt a x.heap_base || nat_lt (x.heap_base + most_heap) a) (DecidedReply (pos x.program_break)) (cond (nat_lt a x.program_break) (brk_down x m a) (brk_up x m free a)) (λ e. tt)
      (λ e. fits-if (nat_lt a x.program_break) (brk_down x m a) (brk_up x m free a) (λ f. down (below e) (nat_lt 0 (count_present m (range (page_end a) (page_end x.program_break))))) (λ f. up (below e)))
    where
      below : (nat_lt a x.heap_base || nat_lt (x.heap_base + most_heap) a) ≡ false → a ≤ 2 ^ 39
      below e = let f = last-false (nat_lt a x.heap_base) (nat_lt (x.heap_base + most_heap) a) e in let l : a ≤ x.heap_base + most_heap = grind (arith, nat_tests, f) in omega (arith, l, low)

      down : a ≤ 2 ^ 39 → (b : Bool) → DecisionFits (round_or_now b (Brk a))
      down l true = l
      down l false = l

      up : a ≤ 2 ^ 39 → DecisionFits (brk_up x m free a)
      up l = fits-if (nat_lt 0 (count_present m (range (page_end x.program_break) (page_end a))) || nat_lt free (pages_count (range (page_end x.program_break) (page_end a)))) (DecidedReply (pos x.program_break)) (Now (Brk a)) (λ f. tt) (λ f. l)

  -- where the heap begins low enough
  pub decide-fits : x.heap_base ≤ highest → (call : MemoryCall) (arguments : List ℕ) → DecisionFits (decide x m free call arguments)
  decide-fits low Calls.Mmap arguments = mmap-fits (argument arguments 0) (argument arguments 1) (low_word (argument arguments 2)) (low_word (argument arguments 3))
  decide-fits low Calls.Munmap arguments = munmap-fits (argument arguments 0) (argument arguments 1)
  decide-fits low Calls.Mprotect arguments = mprotect-fits (argument arguments 0) (argument arguments 1) (low_word (argument arguments 2))
  decide-fits low Calls.Brk arguments = brk-fits low (argument arguments 0)
