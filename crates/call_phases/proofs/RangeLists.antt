-- Ranges that have bytes, and the ones that are left.
use Rattle.call_phases.specs.Ranges.{is_full}
use Rattle.kernel_model.specs.Progress.{advanced, without_empty}
use Rattle.kernel_model.specs.declared.ranges.Range.{Range}
use Rattle.std.proofs.Common.{◌≡◌, ◌≢◌, inl, inr, ◌<◌, ◌≤◌, ◌+◌, ◌-◌, ℕ, Bool, true, false, cond, List, [], ◌∷◌, length, drop, refl, sym, ap, subst, ◌∙◌, arith}
use Rattle.std.proofs.lemmas.Bool.{cases_lt, lt-ltb, le-ltb}
use Rattle.std.proofs.lemmas.List.{length-drop}
use Rattle.std.proofs.lemmas.Bool.Decides.{nat_tests}
use Rattle.std.specs.List.{list_all}
use Rattle.std.specs.Prelude.{◌⊎◌, ◌==◌, IsTrue, Some, slice_get, nat_lt, ◌&&◌}

both : (a b : Bool) → IsTrue (a && b) → (a ≡ true) × IsTrue b
both true b h = (refl, h)
both false b h = cc

-- where all have bytes, none goes
pub all-full : (rs : List Range) → IsTrue (list_all is_full rs) → without_empty rs ≡ rs
all-full [] h = refl
all-full (r ∷ rs) h = let p = both (is_full r) (list_all is_full rs) h in
    ap (λ b. cond b (r ∷ without_empty rs) (without_empty rs)) (p.0) ∙ ap (λ (qs : List Range). r ∷ qs) (all-full rs (p.1))

rest-full : (r : Range) (rs : List Range) → (1 < length (r ∷ rs) → IsTrue (list_all is_full (r ∷ rs))) → without_empty rs ≡ rs
rest-full r [] h = refl
rest-full r (q ∷ rs) h = all-full (q ∷ rs) ((both (is_full r) (list_all is_full (q ∷ rs)) (h (omega arith))).1)

none-first : (r : Range) (rs : List Range) → (1 < length (r ∷ rs) → IsTrue (list_all is_full (r ∷ rs))) → r.len ≡ 0 → rs ≡ []
none-first r [] h e = refl
none-first r (q ∷ rs) h e = let f = (both (is_full r) (list_all is_full (q ∷ rs)) (h (omega arith))).0 in absurd (grind (arith, nat_tests, f, e))

module _ (r : Range) (rs : List Range) (h : 1 < length (r ∷ rs) → IsTrue (list_all is_full (r ∷ rs))) (n : ℕ) where
  -- the first range is cut
  pub advanced-cut : n < r.len → advanced n (without_empty (r ∷ rs)) ≡ record { address = r.address + n; len = r.len - n } ∷ rs
  advanced-cut l =
      let q : Range = record { address = r.address + n; len = r.len - n } in
      ap (λ b. advanced n (cond b (r ∷ without_empty rs) (without_empty rs))) (lt-ltb 0 r.len (omega arith))
      ∙ ap (λ (qs : List Range). without_empty (q ∷ qs)) (rest-full r rs h)
      ∙ ap (λ b. cond b (q ∷ without_empty rs) (without_empty rs)) (lt-ltb 0 (r.len - n) (omega arith))
      ∙ ap (λ (qs : List Range). q ∷ qs) (rest-full r rs h)

  -- the first range is used up
  pub advanced-past : r.len ≤ n → advanced n (without_empty (r ∷ rs)) ≡ rs
  advanced-past l = go (nat_lt 0 r.len) refl
    where
      go : (b : Bool) → nat_lt 0 r.len ≡ b → advanced n (without_empty (r ∷ rs)) ≡ rs
      go true e =
          let q : Range = record { address = r.address + n; len = r.len - n } in
          ap (λ b. advanced n (cond b (r ∷ without_empty rs) (without_empty rs))) e
          ∙ ap (λ (qs : List Range). without_empty (q ∷ qs)) (rest-full r rs h)
          ∙ ap (λ b. cond b (q ∷ without_empty rs) (without_empty rs)) (le-ltb 0 (r.len - n) (omega arith)) ∙ rest-full r rs h
      go false e =
          let none : rs ≡ [] = none-first r rs h (grind (arith, nat_tests, e)) in
          ap (λ b. advanced n (cond b (r ∷ without_empty rs) (without_empty rs))) e ∙ ap (λ (qs : List Range). advanced n (without_empty qs)) none ∙ sym none

same_some : (x r : Range) → Some x ≡ Some r → x ≡ r
same_some x r e = cc

pub cut-items : (items : List Range) (r : Range) (n : ℕ) → (1 < length items → IsTrue (list_all is_full items)) → Some r ≡ slice_get items 0 → n < r.len
    → record { address = r.address + n; len = r.len - n } ∷ drop 1 items ≡ advanced n (without_empty items)
cut-items [] r n h e l = cc
cut-items (x ∷ xs) r n h e l =
    let s = same_some r x e in
    ap (λ (y : Range). record { address = y.address + n; len = y.len - n } ∷ xs) s ∙ sym (advanced-cut x xs h n (subst (λ (y : Range). n < y.len) s l))

pub past-items : (items : List Range) (r : Range) (n : ℕ) → (1 < length items → IsTrue (list_all is_full items)) → Some r ≡ slice_get items 0 → r.len ≤ n
    → drop 1 items ≡ advanced n (without_empty items)
past-items [] r n h e l = cc
past-items (x ∷ xs) r n h e l = sym (advanced-past x xs h n (subst (λ (y : Range). y.len ≤ n) (same_some r x e) l))

none_of : (xs : List Range) → length xs ≡ 0 → (length xs == 0) ≡ true
none_of xs e = grind (arith, nat_tests, e)

some_of : (x : Range) (xs : List Range) → (length (x ∷ xs) == 0) ≡ false
some_of x xs = grind (arith, nat_tests)

-- nothing is left behind n bytes, where the only range has no more
pub used-up : (items : List Range) (r : Range) (n : ℕ) → (1 < length items → IsTrue (list_all is_full items)) → Some r ≡ slice_get items 0 → length items ≡ 1 → r.len ≤ n
    → (length (advanced n (without_empty items)) == 0) ≡ true
used-up items r n h e one l = ap (λ (rs : List Range). length rs == 0) (sym (past-items items r n h e l)) ∙ none_of (drop 1 items) (omega (arith, length-drop 1 items, one))

pub left-over : (items : List Range) (r : Range) (n : ℕ) → (1 < length items → IsTrue (list_all is_full items)) → Some r ≡ slice_get items 0 → (length items ≢ 1) ⊎ (n < r.len)
    → (length (advanced n (without_empty items)) == 0) ≡ false
left-over [] r n h e w = cc
left-over (x ∷ xs) r n h e w = elim (cases_lt n r.len) [
  | inl l ↦ ap (λ (rs : List Range). length rs == 0) (sym (cut-items (x ∷ xs) r n h e l)) ∙ some_of (record { address = r.address + n; len = r.len - n }) xs
  | inr l ↦ ap (λ (rs : List Range). length rs == 0) (sym (past-items (x ∷ xs) r n h e l)) ∙ more xs (elim w [ inl k ↦ k | inr k ↦ absurd (omega arith) ])
]
  where
    more : (xs : List Range) → length (x ∷ xs) ≢ 1 → (length xs == 0) ≡ false
    more [] k = absurd (k refl)
    more (y ∷ ys) k = some_of y ys
