-- What is decided says what has to hold before the change is made.
use Rattle.file_model.specs.Errno.{EINVAL, ENOMEM}
use Rattle.isa_model.specs.Memory.{Memory}
use Rattle.kernel_model.specs.CallPhases.{argument}
use Rattle.kernel_model.specs.MemoryCalls.{Reply as DecidedReply, Round as DecidedRound, Decision, Now, all_present, any_lessened, brk, brk_down, brk_up, count_present, decide, exceeds, gap_below, highest_gap, is_aligned, is_fixed, is_inside, low_word, map_anywhere, map_fixed, mmap, most_heap, mprotect, munmap, pages_for, protect_range, range_for, refusal_at_end, refuse, rights_of_prot, round_or_now}
use Rattle.kernel_model.specs.Nodes.{Process}
use Rattle.kernel_model.specs.Pages.{page_end, pages_count, range}
use Rattle.kernel_model.specs.declared.Change.{Change}
use Rattle.kernel_model.specs.declared.Change.TheVariants.{Brk, Map as ChangeMap, Protect, Unmap}
use Rattle.lwk_changes.specs.Conditions.{GoesAhead}
use Rattle.mck_flags.specs.declared.rights.Rights.{Rights}
use Rattle.mck_word.specs.Words.{has_bit, refused}
use Rattle.mck_word.specs.declared.PageRange.{PageRange}
use Rattle.std.proofs.Common.{arith, refl, subst, sym, ◌∙◌}
use Rattle.std.proofs.lemmas.Bool.Decides.{nat_tests}
use Rattle.std.specs.Prelude.{Bool, List, None, Option, Some, cond, false, nat_lt, not, pos, true, ℕ, ℤ, ◌%◌, ◌&&◌, ◌+◌, ◌-◌, ◌==◌, ◌||◌, ◌≡◌, ◌≤◌}
use Rattle.system_calls.specs.declared.MemoryCall.{MemoryCall}
use Rattle.system_calls.specs.declared.MemoryCall.TheVariants as calls

some-unless : (b : Bool) (z : ℤ) → cond b (Some z) None ≡ None → b ≡ false
some-unless true z e = absurd (grind (arith, e))
some-unless false z e = refl

none-unless : (b : Bool) (z : ℤ) → cond b None (Some z) ≡ None → b ≡ true
none-unless true z e = refl
none-unless false z e = absurd (grind (arith, e))

not-below : (n k : ℕ) → nat_lt n k ≡ false → k ≤ n
not-below n k e = grind (arith, nat_tests, e)

-- at the end of a round
pub ahead-at-end : (p : Process) (m : Memory) (free : ℕ) (c : Change) → refusal_at_end p m free c ≡ None → GoesAhead m free p.program_break c
ahead-at-end p m free (ChangeMap r rights) e = some-unless (exceeds m free r) (refused ENOMEM) e
ahead-at-end p m free (Unmap r) e = tt
ahead-at-end p m free (Protect r rights) e = none-unless (all_present m r) (refused ENOMEM) e
ahead-at-end p m free (Brk a) e = λ f. absurd (let t = sym (none-unless (nat_lt a p.program_break) (pos p.program_break) e) ∙ f in grind (arith, t))

module _ (p : Process) (m : Memory) (free : ℕ) where
  abbrev Says : Decision → Type 0
  Says (DecidedReply answer) = Unit {0}
  Says (Now c) = GoesAhead m free p.program_break c
  Says (DecidedRound c) = Unit {0}

  -- one of two
  says-if : (b : Bool) (d e : Decision) → (b ≡ true → Says d) → (b ≡ false → Says e) → Says (cond b d e)
  says-if true d e k l = k refl
  says-if false d e k l = l refl

  fixed-says : (r : PageRange) (rights : Rights) → Says (map_fixed m free r rights)
  fixed-says r rights = says-if (nat_lt 0 (count_present m r)) (DecidedRound (ChangeMap r rights)) (cond (exceeds m free r) (refuse ENOMEM) (Now (ChangeMap r rights))) (λ e. tt)
      (λ e. says-if (exceeds m free r) (refuse ENOMEM) (Now (ChangeMap r rights)) (λ f. tt) (λ f. f))

  gap-fits : (count n high : ℕ) → nat_lt free n ≡ false → nat_lt (free + count) (high - (high - n)) ≡ false
  gap-fits count n high e = grind (arith, nat_tests, e)

  anywhere-says : (n : ℕ) (rights : Rights) → Says (map_anywhere m free n rights)
  anywhere-says n rights = says-if (nat_lt free n) (refuse ENOMEM) (elim (highest_gap m n) as (λ _. Decision) [ None ↦ refuse ENOMEM | Some high ↦ Now (ChangeMap (gap_below n high) rights) ]) (λ e. tt)
      (λ e. gap e (highest_gap m n))
    where
      gap : nat_lt free n ≡ false → (o : Option ℕ) → Says (elim o as (λ _. Decision) [ None ↦ refuse ENOMEM | Some high ↦ Now (ChangeMap (gap_below n high) rights) ])
      gap e None = tt
      gap e (Some high) = gap-fits (count_present m (gap_below n high)) n high e

  mmap-says : (address len prot flags : ℕ) → Says (mmap m free address len prot flags)
  mmap-says address len prot flags = says-if (len == 0 || nat_lt 7 prot || not (flags % 4 == 2) || not (has_bit 5 flags) || (is_fixed flags && (not (is_aligned address) || not (is_inside address len)))) (refuse EINVAL)
      (cond (is_fixed flags) (map_fixed m free (range_for address len) (rights_of_prot prot)) (map_anywhere m free (pages_for len) (rights_of_prot prot))) (λ e. tt)
      (λ e. says-if (is_fixed flags) (map_fixed m free (range_for address len) (rights_of_prot prot)) (map_anywhere m free (pages_for len) (rights_of_prot prot)) (λ f. fixed-says (range_for address len) (rights_of_prot prot)) (λ f. anywhere-says (pages_for len) (rights_of_prot prot)))

  munmap-says : (address len : ℕ) → Says (munmap m address len)
  munmap-says address len = says-if (not (is_aligned address) || len == 0 || not (is_inside address len)) (refuse EINVAL) (cond (nat_lt 0 (count_present m (range_for address len))) (DecidedRound (Unmap (range_for address len))) (DecidedReply (pos 0))) (λ e. tt)
      (λ e. says-if (nat_lt 0 (count_present m (range_for address len))) (DecidedRound (Unmap (range_for address len))) (DecidedReply (pos 0)) (λ f. tt) (λ f. tt))

  protect-says : (r : PageRange) (rights : Rights) → Says (protect_range m r rights)
  protect-says r rights = says-if (any_lessened m r rights) (DecidedRound (Protect r rights)) (cond (all_present m r) (Now (Protect r rights)) (refuse ENOMEM)) (λ e. tt)
      (λ e. says-if (all_present m r) (Now (Protect r rights)) (refuse ENOMEM) (λ f. f) (λ f. tt))

  mprotect-says : (address len prot : ℕ) → Says (mprotect m address len prot)
  mprotect-says address len prot = says-if (not (is_aligned address) || nat_lt 7 prot) (refuse EINVAL) (cond (len == 0) (DecidedReply (pos 0)) (cond (not (is_inside address len)) (refuse ENOMEM) (protect_range m (range_for address len) (rights_of_prot prot)))) (λ e. tt)
      (λ e. says-if (len == 0) (DecidedReply (pos 0)) (cond (not (is_inside address len)) (refuse ENOMEM) (protect_range m (range_for address len) (rights_of_prot prot))) (λ f. tt)
      (λ f. says-if (not (is_inside address len)) (refuse ENOMEM) (protect_range m (range_for address len) (rights_of_prot prot)) (λ g. tt) (λ g. protect-says (range_for address len) (rights_of_prot prot))))

  brk-says : (a : ℕ) → Says (brk p m free a)
  brk-says a = says-if (nat_lt a p.heap_base || nat_lt (p.heap_base + most_heap) a) (DecidedReply (pos p.program_break)) (cond (nat_lt a p.program_break) (brk_down p m a) (brk_up p m free a)) (λ e. tt)
      (λ e. says-if (nat_lt a p.program_break) (brk_down p m a) (brk_up p m free a) (λ l. down l (nat_lt 0 (count_present m (range (page_end a) (page_end p.program_break))))) (λ l. up))
    where
      r : PageRange
      r = range (page_end p.program_break) (page_end a)

      down : nat_lt a p.program_break ≡ true → (b : Bool) → Says (round_or_now b (Brk a))
      down l true = tt
      down l false = λ f. absurd (let t = sym l ∙ f in grind (arith, t))

      neither : (b c : Bool) → (b || c) ≡ false → (b ≡ false) × (c ≡ false)
      neither true c e = absurd (grind (arith, e))
      neither false c e = (refl, e)

      up : Says (brk_up p m free a)
      up = says-if (nat_lt 0 (count_present m r) || nat_lt free (pages_count r)) (DecidedReply (pos p.program_break)) (Now (Brk a)) (λ f. tt)
          (λ f _. let s = neither (nat_lt 0 (count_present m r)) (nat_lt free (pages_count r)) f in record {
            absent = (let l = not-below 0 (count_present m r) s.0 in omega (arith, l));
            enough = not-below free (pages_count r) s.1;
          })

  says : (call : MemoryCall) (arguments : List ℕ) → Says (decide p m free call arguments)
  says calls.Mmap arguments = mmap-says (argument arguments 0) (argument arguments 1) (low_word (argument arguments 2)) (low_word (argument arguments 3))
  says calls.Munmap arguments = munmap-says (argument arguments 0) (argument arguments 1)
  says calls.Mprotect arguments = mprotect-says (argument arguments 0) (argument arguments 1) (low_word (argument arguments 2))
  says calls.Brk arguments = brk-says (argument arguments 0)

-- at once
pub ahead-at-once : (p : Process) (m : Memory) (free : ℕ) (call : MemoryCall) (arguments : List ℕ) (c : Change) → decide p m free call arguments ≡ Now c → GoesAhead m free p.program_break c
ahead-at-once p m free call arguments c e = subst (Says p m free) e (says p m free call arguments)
