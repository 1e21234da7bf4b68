-- What is decided from the facts is what is decided from the process and its memory.
use Rattle.file_model.specs.Errno.{ENOMEM}
use Rattle.isa_model.specs.Memory.{Memory, Page}
use Rattle.kernel_model.specs.CallPhases.{argument}
use Rattle.kernel_model.specs.MemoryCalls.{Decision, Now, decide, highest_gap, is_aligned, is_fixed, is_inside, lessens, low_word, present_in, range_for, refuse, rights_of_prot}
use Rattle.kernel_model.specs.Nodes.{Process}
use Rattle.kernel_model.specs.Pages.{page_end, range}
use Rattle.kernel_model.specs.declared.Change.TheVariants.{Map as ChangeMap}
use Rattle.mck_flags.specs.declared.rights.Rights.{Rights}
use Rattle.mck_word.specs.Maps.{some_row}
use Rattle.mck_word.specs.Pages.{in_range}
use Rattle.mck_word.specs.Words.{has_bit}
use Rattle.std.proofs.Common.{ap, arith, refl, ◌∙◌}
use Rattle.std.proofs.lemmas.Bool.Decides.{nat_tests}
use Rattle.std.specs.Prelude.{Bool, List, None, Option, Some, cond, false, length, nat_le, nat_lt, not, option_map, true, ℕ, ◌%◌, ◌&&◌, ◌+◌, ◌-◌, ◌==◌, ◌≡◌, ◌||◌}
use Rattle.vm_calls.specs.Facts.{Describes}
use Rattle.system_calls.specs.declared.MemoryCall.{MemoryCall}
use Rattle.system_calls.specs.declared.MemoryCall.TheVariants as calls
use Rattle.vm_calls.specs.Deciding.{bad_brk, bad_mmap, brk_by, brk_down, brk_up, decided, heap_range, in_gap, mmap_by, mmap_fixed, mprotect_by, munmap_by}
use Rattle.vm_calls.specs.declared.Facts.{Facts}

-- two choices by one test
same-choice : {A : Type 0} (b : Bool) (x y v w : A) → (b ≡ true → x ≡ v) → (b ≡ false → y ≡ w) → cond b x y ≡ cond b v w
same-choice true x y v w l r = l refl
same-choice false x y v w l r = r refl

abbrev below_end : Option ℕ → ℕ → Rights → Decision
below_end o n rights = elim o [ None ↦ refuse ENOMEM | Some high ↦ Now (ChangeMap (range (high - n) high) rights) ]

-- a gap by its first page, and by its end
gap-by-end : (gap end : Option ℕ) (n : ℕ) (rights : Rights) → option_map (λ low. low + n) gap ≡ end → in_gap gap n rights ≡ below_end end n rights
gap-by-end gap end n rights h = first gap ∙ ap (λ o. below_end o n rights) h
  where
    first : (gap : Option ℕ) → in_gap gap n rights ≡ below_end (option_map (λ low. low + n) gap) n rights
    first None = refl
    first (Some low) = let e : low ≡ low + n - n = omega arith in ap (λ l. Now (ChangeMap (range l (low + n)) rights)) e

-- a call that is not refused is for some bytes
some : (address len prot flags : ℕ) → bad_mmap address len prot flags ≡ false → (len == 0) ≡ false
some address len prot flags = first (len == 0) (nat_lt 7 prot) (not (flags % 4 == 2)) (not (has_bit 5 flags)) (is_fixed flags && (not (is_aligned address) || not (is_inside address len)))
  where
    first : (a b c d e : Bool) → (a || b || c || d || e) ≡ false → a ≡ false
    first true b c d e h = h
    first false b c d e h = refl

module _ (f : Facts) (p : Process) (m : Memory) (arguments : List ℕ) where
  mmap-decides : f.present ≡ length (present_in m (range_for (argument arguments 0) (argument arguments 1)))
      → ((argument arguments 1 == 0) ≡ false → is_fixed (low_word (argument arguments 3)) ≡ false → nat_le (page_end (argument arguments 1)) f.free ≡ true
      → option_map (λ low. low + page_end (argument arguments 1)) f.gap ≡ highest_gap m (page_end (argument arguments 1)))
      → mmap_by f (argument arguments 0) (argument arguments 1) (low_word (argument arguments 2)) (low_word (argument arguments 3)) ≡ decide p m f.free calls.Mmap arguments
  mmap-decides present gap =
      same-choice (bad_mmap (argument arguments 0) (argument arguments 1) (low_word (argument arguments 2)) (low_word (argument arguments 3))) _ _ _ _ (λ v. refl) (λ v. same-choice (is_fixed (low_word (argument arguments 3))) _ _ _ _
      (λ x. ap (λ n. mmap_fixed (record f { present = n }) (range_for (argument arguments 0) (argument arguments 1)) (rights_of_prot (low_word (argument arguments 2)))) present)
      (λ x. same-choice (nat_lt f.free (page_end (argument arguments 1))) _ _ _ _ (λ few. refl)
      (λ few. gap-by-end f.gap (highest_gap m (page_end (argument arguments 1))) (page_end (argument arguments 1)) (rights_of_prot (low_word (argument arguments 2)))
      (gap (some (argument arguments 0) (argument arguments 1) (low_word (argument arguments 2)) (low_word (argument arguments 3)) v) x (enough f.free (page_end (argument arguments 1)) few)))))
    where
      enough : (a b : ℕ) → nat_lt a b ≡ false → nat_le b a ≡ true
      enough a b e = grind (arith, nat_tests, e)

  munmap-decides : f.present ≡ length (present_in m (range_for (argument arguments 0) (argument arguments 1))) → munmap_by f (argument arguments 0) (argument arguments 1) ≡ decide p m f.free calls.Munmap arguments
  munmap-decides present = ap (λ n. munmap_by (record f { present = n }) (argument arguments 0) (argument arguments 1)) present

  mprotect-decides : f.present ≡ length (present_in m (range_for (argument arguments 0) (argument arguments 1)))
      → f.lessens ≡ some_row (λ page (x : Page). in_range (range_for (argument arguments 0) (argument arguments 1)) page && lessens x.rights (rights_of_prot (low_word (argument arguments 2)))) m
      → mprotect_by f (argument arguments 0) (argument arguments 1) (low_word (argument arguments 2)) ≡ decide p m f.free calls.Mprotect arguments
  mprotect-decides present lessened = λ j. mprotect_by (record f { present = present j; lessens = lessened j }) (argument arguments 0) (argument arguments 1) (low_word (argument arguments 2))

  brk-decides : f.brk ≡ p.program_break → f.base ≡ p.heap_base → f.present ≡ length (present_in m (heap_range f.brk (argument arguments 0)))
      → brk_by f (argument arguments 0) ≡ decide p m f.free calls.Brk arguments
  brk-decides now base present =
      (λ j. brk_by (record f { brk = now j; base = base j }) (argument arguments 0))
      ∙ same-choice (bad_brk p.heap_base (argument arguments 0)) _ _ _ _ (λ v. refl) (λ v. same-choice (nat_lt (argument arguments 0) p.program_break) _ _ _ _
      (λ d. ap (λ n. brk_down (record f { brk = p.program_break; base = p.heap_base; present = n }) (argument arguments 0)) (counted true d))
      (λ u. ap (λ n. brk_up (record f { brk = p.program_break; base = p.heap_base; present = n }) (argument arguments 0)) (counted false u)))
    where
      counted : (b : Bool) → nat_lt (argument arguments 0) p.program_break ≡ b
          → f.present ≡ length (present_in m (cond b (range (page_end (argument arguments 0)) (page_end p.program_break)) (range (page_end p.program_break) (page_end (argument arguments 0)))))
      counted b e = present ∙ (ap (λ x. length (present_in m (heap_range x (argument arguments 0)))) now
          ∙ ap (λ t. length (present_in m (cond t (range (page_end (argument arguments 0)) (page_end p.program_break)) (range (page_end p.program_break) (page_end (argument arguments 0)))))) e)

pub decides : (f : Facts) (call : MemoryCall) (arguments : List ℕ) (p : Process) (m : Memory) → Describes f call arguments p m
    → decided f call arguments ≡ decide p m f.free call arguments
decides f calls.Mmap arguments p m d = mmap-decides f p m arguments d.present (λ some unfixed enough. d.gap (rw (some, unfixed) enough))
decides f calls.Munmap arguments p m d = munmap-decides f p m arguments d.present
decides f calls.Mprotect arguments p m d = mprotect-decides f p m arguments d.present (d.lessened refl)
decides f calls.Brk arguments p m d = brk-decides f p m arguments d.program_break d.base d.present
