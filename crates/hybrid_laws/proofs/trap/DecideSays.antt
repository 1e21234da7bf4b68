-- A change that a memory call makes at once touches no page that is there, but for rights that it does not lessen; and the frames suffice.
use Rattle.file_model.specs.Errno.{EINVAL, ENOMEM}
use Rattle.hybrid_laws.proofs.intake.Ack.{falls}
use Rattle.hybrid_laws.proofs.maps.Lookups.{each-at, no-row}
use Rattle.hybrid_laws.proofs.maps.Sums.{sum_of}
use Rattle.hybrid_laws.proofs.maps.Tests.{both}
use Rattle.hybrid_laws.proofs.memory.Effects.{count-inside, inside}
use Rattle.hybrid_model.specs.Tallies.{Each}
use Rattle.isa_model.specs.Memory.{Memory, Page}
use Rattle.kernel_model.specs.CallPhases.{argument}
use Rattle.kernel_model.specs.MemoryCalls.{Reply as DecidedReply, Round as DecidedRound, Decision, Now, all_present, any_lessened, brk, brk_down, brk_up, count_present, decide, effect_of, exceeds, gap_below, gap_ends, highest_gap, highest_gap_end, is_aligned, is_fixed, is_gap, is_inside, lessens, low_word, lowest_address, map_anywhere, map_fixed, mmap, most_heap, mprotect, munmap, no_page_in, nothing, pages_for, protect_range, range_for, refuse, rights_of_prot, round_or_now}
use Rattle.kernel_model.specs.Nodes.{Process}
use Rattle.kernel_model.specs.Pages.{page_end, page_number, pages_count, range}
use Rattle.kernel_model.specs.declared.Change.TheVariants.{Brk, Map as ChangeMap, Protect, Unmap}
use Rattle.kernel_model.specs.declared.Change.{Change}
use Rattle.mck_flags.specs.declared.rights.Rights.{Rights}
use Rattle.mck_word.specs.Maps.{at, entries}
use Rattle.mck_word.specs.Pages.{in_range}
use Rattle.mck_word.specs.Words.{has_bit}
use Rattle.mck_word.specs.declared.PageRange.{PageRange}
use Rattle.std.proofs.Common.{ap, arith, refl, sym, ◌∙◌}
use Rattle.std.proofs.lemmas.Bool.Decides.{nat_tests}
use Rattle.std.proofs.lemmas.List.Sums.{sum_by-cons}
use Rattle.std.specs.Prelude.{Bool, List, None, Option, Some, [], cond, false, find, if◌then◌else◌, nat_le, nat_lt, not, pos, true, ℕ, ◌%◌, ◌&&◌, ◌+◌, ◌-◌, ◌<◌, ◌==◌, ◌||◌, ◌∷◌, ◌≡◌, ◌≤◌}
use Rattle.system_calls.specs.declared.MemoryCall.TheVariants as Calls
use Rattle.system_calls.specs.declared.MemoryCall.{MemoryCall}

pub record NowSays (x : Process) (m : Memory) (free : ℕ) (c : Change) : Type 0 where
  pub dropped : (j : ℕ) → in_range (effect_of x c).dropped j ≡ true → at m j ≡ None
  pub added : (j : ℕ) → in_range (effect_of x c).added j ≡ true → at m j ≡ None
  pub rights : (j : ℕ) (y : Page) → in_range (effect_of x c).protected j ≡ true → at m j ≡ Some y → lessens y.rights (effect_of x c).rights ≡ false
  pub enough : pages_count (effect_of x c).added ≤ free
  pub bound : x.program_break ≤ x.heap_base + most_heap → (effect_of x c).program_break ≤ x.heap_base + most_heap

abbrev pub DecisionSays : Process → Memory → ℕ → Decision → Type 0
DecisionSays x m free (DecidedReply answer) = Unit {0}
DecisionSays x m free (Now c) = NowSays x m free c
DecisionSays x m free (DecidedRound c) = Unit {0}

-- a range in which no page is counted has none
pub count-none : (m : Memory) (r : PageRange) → count_present m r ≡ 0 → (j : ℕ) → in_range r j ≡ true → at m j ≡ None
count-none m r e j i = go (at m j) refl
  where
    zero-of : (es : List (ℕ × Page)) → sum_of (inside r) es ≡ 0 → Each (λ (y : ℕ × Page). in_range r y.0 ≡ false) es
    zero-of [] z = tt
    zero-of (y ∷ es) z = let a = sum_by-cons (inside r) y es in (one (in_range r y.0) refl (omega (arith, a, z)), zero-of es (omega (arith, a, z)))
      where
        one : (b : Bool) → in_range r y.0 ≡ b → ◌≡◌ {A = ℕ} (if b then 1 else 0) 0 → in_range r y.0 ≡ false
        one true f g = absurd (omega (arith, g))
        one false f g = f

    go : (o : Option Page) → at m j ≡ o → at m j ≡ None
    go None f = f
    go (Some y) f = absurd (let k = each-at (λ (z : ℕ × Page). in_range r z.0 ≡ false) m j y (zero-of (entries m) (sym (count-inside r m) ∙ e)) f in let n = sym k ∙ i in grind (arith, n))

pub found-test : {X : Type 0} (test : X → Bool) (xs : List X) (y : X) → find test xs ≡ Some y → test y ≡ true
found-test test [] y e = absurd (grind (arith, e))
found-test test (x ∷ xs) y e = go (test x) refl e (found-test test xs y)
  where
    go : (b : Bool) → test x ≡ b → cond b (Some x) (find test xs) ≡ Some y → (find test xs ≡ Some y → test y ≡ true) → test y ≡ true
    go true f k i = let g : x ≡ y = cc in ap test (sym g) ∙ f
    go false f k i = i k

pub empty-in : (lo hi j : ℕ) → hi ≤ lo → in_range (range lo hi) j ≡ true → ⊥
empty-in lo hi j l e = grind (arith, nat_tests, l, e)

not-below : (n k : ℕ) → nat_lt n k ≡ false → k ≤ n
not-below n k e = grind (arith, nat_tests, e)

module _ (x : Process) (m : Memory) (free : ℕ) where
  abbrev Says : Decision → Type 0
  Says d = DecisionSays x m free d

  -- one of two
  says-if : (b : Bool) (d e : Decision) → (b ≡ true → Says d) → (b ≡ false → Says e) → Says (cond b d e)
  says-if true d e k l = k refl
  says-if false d e k l = l refl

  none-in : (j : ℕ) → in_range nothing j ≡ true → ⊥
  none-in j e = empty-in 0 0 j (omega arith) e

  map-says : (r : PageRange) (rights : Rights) → count_present m r ≡ 0 → pages_count r ≤ free → NowSays x m free (ChangeMap r rights)
  map-says r rights e l = record {
    dropped = λ j i. count-none m r e j i;
    added = λ j i. count-none m r e j i;
    rights = λ j y i k. absurd (none-in j i);
    enough = l;
    bound = λ b. b;
  }

  fixed-says : (r : PageRange) (rights : Rights) → Says (map_fixed m free r rights)
  fixed-says r rights = says-if (nat_lt 0 (count_present m r)) (DecidedRound (ChangeMap r rights)) (cond (exceeds m free r) (refuse ENOMEM) (Now (ChangeMap r rights))) (λ e. tt)
      (λ e. says-if (exceeds m free r) (refuse ENOMEM) (Now (ChangeMap r rights)) (λ f. tt)
      (λ f. map-says r rights (let l = not-below 0 (count_present m r) e in omega (arith, l)) (let l = not-below 0 (count_present m r) e in let k = not-below (free + count_present m r) (pages_count r) f in omega (arith, l, k))))

  anywhere-says : (n : ℕ) (rights : Rights) → Says (map_anywhere m free n rights)
  anywhere-says n rights = says-if (nat_lt free n) (refuse ENOMEM) (elim (highest_gap m n) as (λ _. Decision) [ None ↦ refuse ENOMEM | Some high ↦ Now (ChangeMap (gap_below n high) rights) ]) (λ e. tt)
      (λ e. gap (not-below free n e) (highest_gap m n) refl)
    where
      gap : n ≤ free → (o : Option ℕ) → highest_gap m n ≡ o → Says (elim o as (λ _. Decision) [ None ↦ refuse ENOMEM | Some high ↦ Now (ChangeMap (gap_below n high) rights) ])
      gap l None f = tt
      gap l (Some high) f =
          let t = found-test (is_gap m n) (gap_ends m) high f in
          let a = both (nat_le high (page_number highest_gap_end) && nat_le (page_number lowest_address + n) high) (no_page_in m (gap_below n high)) t in
          let b = a.1 in
          let z : count_present m (gap_below n high) ≡ 0 = grind (arith, nat_tests, b) in
          map-says (gap_below n high) rights z (omega (arith, l))

  mmap-says : (address len prot flags : ℕ) → Says (mmap m free address len prot flags)
  mmap-says address len prot flags = says-if (len == 0 || nat_lt 7 prot || not (flags % 4 == 2) || not (has_bit 5 flags) || (is_fixed flags && (not (is_aligned address) || not (is_inside address len)))) (refuse EINVAL)
      (cond (is_fixed flags) (map_fixed m free (range_for address len) (rights_of_prot prot)) (map_anywhere m free (pages_for len) (rights_of_prot prot))) (λ e. tt)
      (λ e. says-if (is_fixed flags) (map_fixed m free (range_for address len) (rights_of_prot prot)) (map_anywhere m free (pages_for len) (rights_of_prot prot)) (λ f. fixed-says (range_for address len) (rights_of_prot prot)) (λ f. anywhere-says (pages_for len) (rights_of_prot prot)))

  munmap-says : (address len : ℕ) → Says (munmap m address len)
  munmap-says address len = says-if (not (is_aligned address) || len == 0 || not (is_inside address len)) (refuse EINVAL) (cond (nat_lt 0 (count_present m (range_for address len))) (DecidedRound (Unmap (range_for address len))) (DecidedReply (pos 0))) (λ e. tt)
      (λ e. says-if (nat_lt 0 (count_present m (range_for address len))) (DecidedRound (Unmap (range_for address len))) (DecidedReply (pos 0)) (λ f. tt) (λ f. tt))

  protect-says : (r : PageRange) (rights : Rights) → Says (protect_range m r rights)
  protect-says r rights = says-if (any_lessened m r rights) (DecidedRound (Protect r rights)) (cond (all_present m r) (Now (Protect r rights)) (refuse ENOMEM)) (λ e. tt)
      (λ e. says-if (all_present m r) (Now (Protect r rights)) (refuse ENOMEM) (λ f. record {
        dropped = λ j i. absurd (none-in j i);
        added = λ j i. absurd (none-in j i);
        rights = λ j y i k. right (in_range r j) (lessens y.rights rights) i (no-row (λ page (z : Page). in_range r page && lessens z.rights rights) m e j y k);
        enough = omega arith;
        bound = λ b. b;
      }) (λ f. tt))
    where
      right : (a b : Bool) → a ≡ true → (a && b) ≡ false → b ≡ false
      right true b e f = f
      right false b e f = absurd (grind (arith, e))

  mprotect-says : (address len prot : ℕ) → Says (mprotect m address len prot)
  mprotect-says address len prot = says-if (not (is_aligned address) || nat_lt 7 prot) (refuse EINVAL) (cond (len == 0) (DecidedReply (pos 0)) (cond (not (is_inside address len)) (refuse ENOMEM) (protect_range m (range_for address len) (rights_of_prot prot)))) (λ e. tt)
      (λ e. says-if (len == 0) (DecidedReply (pos 0)) (cond (not (is_inside address len)) (refuse ENOMEM) (protect_range m (range_for address len) (rights_of_prot prot))) (λ f. tt)
      (λ f. says-if (not (is_inside address len)) (refuse ENOMEM) (protect_range m (range_for address len) (rights_of_prot prot)) (λ g. tt) (λ g. protect-says (range_for address len) (rights_of_prot prot))))

  brk-says : (a : ℕ) → Says (brk x m free a)
  brk-says a = says-if (nat_lt a x.heap_base || nat_lt (x.heap_base + most_heap) a) (DecidedReply (pos x.program_break)) (cond (nat_lt a x.program_break) (brk_down x m a) (brk_up x m free a)) (λ e. tt)
      (λ e. says-if (nat_lt a x.program_break) (brk_down x m a) (brk_up x m free a) (down (in-heap e)) (up (in-heap e)))
    where
      in-heap : (nat_lt a x.heap_base || nat_lt (x.heap_base + most_heap) a) ≡ false → a ≤ x.heap_base + most_heap
      in-heap e = second (nat_lt a x.heap_base) (nat_lt (x.heap_base + most_heap) a) e
        where
          second : (b c : Bool) → (b || nat_lt (x.heap_base + most_heap) a) ≡ false → a ≤ x.heap_base + most_heap
          second true c f = absurd (grind (arith, f))
          second false c f = not-below (x.heap_base + most_heap) a f

      down : a ≤ x.heap_base + most_heap → nat_lt a x.program_break ≡ true → Says (brk_down x m a)
      down most e =
          go (nat_lt 0 (count_present m (range (page_end a) (page_end x.program_break)))) refl
        where
          lower : page_end a ≤ page_end x.program_break
          lower = falls a x.program_break (let l : a < x.program_break = grind (arith, nat_tests, e) in l)

          go : (b : Bool) → nat_lt 0 (count_present m (range (page_end a) (page_end x.program_break))) ≡ b → Says (round_or_now b (Brk a))
          go true f = tt
          go false f = record {
            dropped = λ j i. count-none m (range (page_end a) (page_end x.program_break)) (let l = not-below 0 (count_present m (range (page_end a) (page_end x.program_break))) f in omega (arith, l)) j i;
            added = λ j i. absurd (empty-in (page_end x.program_break) (page_end a) j lower i);
            rights = λ j y i k. absurd (none-in j i);
            enough = none-added (page_end a) (page_end x.program_break) lower;
            bound = λ b. most;
          }
            where
              none-added : (u v : ℕ) → u ≤ v → u - v ≤ free
              none-added u v l = omega (arith, l)

      up : a ≤ x.heap_base + most_heap → nat_lt a x.program_break ≡ false → Says (brk_up x m free a)
      up most e =
          says-if (nat_lt 0 (count_present m r) || nat_lt free (pages_count r)) (DecidedReply (pos x.program_break)) (Now (Brk a)) (λ f. tt) (λ f. record {
            dropped = λ j i. absurd (empty-in (page_end a) (page_end x.program_break) j higher i);
            added = λ j i. count-none m r (let s = neither (nat_lt 0 (count_present m r)) (nat_lt free (pages_count r)) f in let l = not-below 0 (count_present m r) s.0 in omega (arith, l)) j i;
            rights = λ j y i k. absurd (none-in j i);
            enough = (let s = neither (nat_lt 0 (count_present m r)) (nat_lt free (pages_count r)) f in not-below free (pages_count r) s.1);
            bound = λ b. most;
          })
        where
          r : PageRange
          r = range (page_end x.program_break) (page_end a)

          not-less : nat_lt a x.program_break ≡ false → x.program_break ≤ a
          not-less e = grind (arith, nat_tests, e)

          higher : page_end x.program_break ≤ page_end a
          higher = let l = not-less e in omega (arith, l)

          neither : (b c : Bool) → (b || c) ≡ false → (b ≡ false) × (c ≡ false)
          neither false c f = (refl, f)
          neither true c f = absurd (grind (arith, f))

  pub decide-says : (call : MemoryCall) (arguments : List ℕ) → Says (decide x m free call arguments)
  decide-says Calls.Mmap arguments = mmap-says (argument arguments 0) (argument arguments 1) (low_word (argument arguments 2)) (low_word (argument arguments 3))
  decide-says Calls.Munmap arguments = munmap-says (argument arguments 0) (argument arguments 1)
  decide-says Calls.Mprotect arguments = mprotect-says (argument arguments 0) (argument arguments 1) (low_word (argument arguments 2))
  decide-says Calls.Brk arguments = brk-says (argument arguments 0)
