-- A pool once the mark of one leaf is another.
use Rattle.frame_pool.proofs.Passing.{passing-begin, passing-first, passing-insert, passing-none, length-insert_by, length-passing, member-passing}
use Rattle.frame_pool.proofs.Tree.{none-below}
use Rattle.frame_pool.specs.Pools.{passing}
use Rattle.frame_pool.specs.Trees.{IsMarked, IsPool, free_in, marked}
use Rattle.mck_word.specs.Lists.{count_from, insert_by, member}
use Rattle.std.proofs.Common.{ap, arith, inl, inr, refl, sym, ◌∙◌}
use Rattle.std.proofs.lemmas.Bool.Decides.{nat_tests}
use Rattle.std.proofs.lemmas.Bool.{cases_lt}
use Rattle.std.specs.Prelude.{Bool, List, [], ◌∷◌, false, length, nat_lt, suc, true, zero, ℕ, ◌*◌, ◌+◌, ◌-◌, ◌<◌, ◌^◌, ◌≡◌, ◌≢◌, ◌≤◌}

length-count_from : (low n : ℕ) → length (count_from low n) ≡ n
length-count_from low zero = refl
length-count_from low (suc n) = omega (arith, length-count_from (low + 1) n)

-- the tree keeps its rule, and only the leaf has another mark
pub record IsChanged (old new : List Bool) (leaves leaf : ℕ) (to : Bool) : Type 0 where
  pub size : length new ≡ length old
  pub rule : IsMarked new leaves
  pub leaf_is : marked new leaf ≡ to
  pub others : (k : ℕ) → leaves ≤ k → k ≢ leaf → marked new k ≡ marked old k

pub changed_at : (old mid new : List Bool) (leaves at leaf : ℕ) (to : Bool) → at ≡ leaf → mid ≡ old → length new ≡ length mid → IsMarked new leaves → marked new leaf ≡ to
    → ((k : ℕ) → leaves ≤ k → k ≢ leaf → marked new k ≡ marked mid k) → IsChanged old new leaves at to
changed_at old mid new leaves at leaf to e was size rule here others = record {
  size = size ∙ ap length was;
  rule = rule;
  leaf_is = ap (marked new) e ∙ here;
  others = λ k a o. others k a (λ x. o (x ∙ sym e)) ∙ ap (λ xs. marked xs k) was;
}

module _ (old : List Bool) (leaves height frames free : ℕ) (is : IsPool old leaves height frames free) where
  pub none-free : marked old 1 ≡ false → free_in old leaves ≡ []
  none-free off = passing-none (λ f. marked old (leaves + f)) 0 leaves (λ k a b. none-below old leaves is.rule height 1 (omega arith) (omega (arith, is.power)) off (leaves + k) (omega (arith, is.power)) (omega (arith, is.power)))

  pub few-free : free ≤ leaves
  few-free = omega (arith, is.counted, length-passing (λ f. marked old (leaves + f)) 0 leaves)

  module _ (new : List Bool) (f : ℕ) where
    apart : (k : ℕ) → k ≢ f → leaves + k ≢ leaves + f
    apart k o e = o (omega arith)

    pub first-free : marked old (leaves + f) ≡ true → ((k : ℕ) → leaves ≤ k → k < leaves + f → marked old k ≡ false) → f < leaves → IsChanged old new leaves (leaves + f) false
        → free_in old leaves ≡ f ∷ free_in new leaves
    first-free on low below h =
        passing-first (λ k. marked old (leaves + k)) (λ k. marked new (leaves + k)) f 0 leaves (omega arith) (omega arith) on (λ j a b. low (leaves + j) (omega arith) (omega arith))
        h.leaf_is (λ j o. h.others (leaves + j) (omega arith) (apart j o))

    -- a leaf that is marked stands for a frame
    pub is-frame : marked old (leaves + f) ≡ true → f < frames
    is-frame on = elim (cases_lt f frames) [ inl l ↦ l | inr g ↦ let off = is.beyond (leaves + f) (omega arith) in cc ]

    pub taken : marked old (leaves + f) ≡ true → ((k : ℕ) → leaves ≤ k → k < leaves + f → marked old k ≡ false) → f < leaves → IsChanged old new leaves (leaves + f) false
        → IsPool new leaves height frames (free - 1)
    taken on low below h = record {
      size = h.size ∙ is.size;
      power = is.power;
      enough = is.enough;
      small = is.small;
      rule = h.rule;
      beyond = (λ k a. h.others k (omega arith) (λ (e : k ≡ leaves + f). let l = is-frame on in absurd (omega arith)) ∙ is.beyond k a);
      counted = let e = ap length (first-free on low below h) in omega (arith, is.counted);
    }

    pub given-free : marked old (leaves + f) ≡ false → f < leaves → IsChanged old new leaves (leaves + f) true → free_in new leaves ≡ insert_by nat_lt f (free_in old leaves)
    given-free off below h =
        passing-insert (λ k. marked old (leaves + k)) (λ k. marked new (leaves + k)) f 0 leaves (omega arith) (omega arith) off h.leaf_is (λ j o. h.others (leaves + j) (omega arith) (apart j o))

    pub given : marked old (leaves + f) ≡ false → f < frames → IsChanged old new leaves (leaves + f) true → IsPool new leaves height frames (free + 1)
    given off below h = record {
      size = h.size ∙ is.size;
      power = is.power;
      enough = is.enough;
      small = is.small;
      rule = h.rule;
      beyond = (λ k a. h.others k (omega arith) (λ (e : k ≡ leaves + f). absurd (omega arith)) ∙ is.beyond k a);
      counted = let e = ap length (given-free off (omega (arith, is.enough)) h) in omega (arith, is.counted, length-insert_by f (free_in old leaves));
    }

  -- who is no member of the free frames has no mark
  pub unmarked : (f : ℕ) → f < leaves → member f (free_in old leaves) ≡ false → marked old (leaves + f) ≡ false
  unmarked f below none = by_mark (marked old (leaves + f)) refl
    where
      by_mark : (b : Bool) → marked old (leaves + f) ≡ b → marked old (leaves + f) ≡ false
      by_mark true e = let m = member-passing (λ k. marked old (leaves + k)) f 0 leaves (omega arith) (omega arith) e in cc
      by_mark false e = e

-- a tree whose first leaves are marked
module _ (nodes : List Bool) (leaves height n : ℕ) (enough : n ≤ leaves) (set : (k : ℕ) → leaves ≤ k → marked nodes k ≡ nat_lt k (leaves + n)) where
  pub all-free : free_in nodes leaves ≡ count_from 0 n
  all-free =
      let e : n + (leaves - n) ≡ leaves = omega arith in
      ap (passing (λ f. marked nodes (leaves + f)) 0) (sym e) ∙ passing-begin (λ f. marked nodes (leaves + f)) 0 n (leaves - n)
      (λ k a b. set (leaves + k) (omega arith) ∙ grind (arith, nat_tests, b)) (λ k a. set (leaves + k) (omega arith) ∙ grind (arith, nat_tests, a))

  pub first-pool : length nodes ≡ 2 * leaves → leaves ≡ 2 ^ height → leaves ≤ 2 ^ 32 → IsMarked nodes leaves → IsPool nodes leaves height n n
  first-pool size power small rule = record {
    size = size;
    power = power;
    enough = enough;
    small = small;
    rule = rule;
    beyond = (λ k a. set k (omega arith) ∙ grind (arith, nat_tests, a));
    counted = sym (ap length all-free ∙ length-count_from 0 n);
  }
