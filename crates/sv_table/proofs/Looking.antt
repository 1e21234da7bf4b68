-- Ranges looked at one by one: each place that is touched and has no node is counted once.
use Rattle.mck_word.specs.declared.PageRange.{PageRange}
use Rattle.page_map.specs.Counts.{count_to, count_to-le, count_to-same}
use Rattle.page_map.specs.Tables.{RiseFrom}
use Rattle.std.proofs.Common.{◌≡◌, ◌≢◌, ℕ, zero, suc, ◌+◌, ◌*◌, ◌-◌, ◌/◌, ◌^◌, ◌<◌, ◌≤◌, Bool, true, false, cond, not, leb, ltb, List, [], ◌∷◌, refl, sym, ap, subst, ◌∙◌, inl, inr, arith}
use Rattle.std.proofs.lemmas.Bool.{cases_eq, cases_lt, le-leb, le-ltb, lt-leb, lt-ltb, ltb-true, or_cases}
use Rattle.std.specs.Prelude.{is_none, ◌||◌, ◌&&◌, min, max}
use Rattle.sv_table.proofs.Keys.{key_at-root}
use Rattle.sv_table.proofs.Lacking.{count_none}
use Rattle.sv_table.specs.Room.{absent, absent_from, first_page, is_touched, page_count, touched_by}
use Rattle.sv_table.specs.Walks.{Nodes, key_at}

-- a place of a level was looked at already where it is below the number for its level
abbrev pub is_seen : ℕ → ℕ → ℕ → Bool
is_seen middle leaf q = cond (ltb q 513) (ltb q middle) (ltb q leaf)

-- what is still to be counted
abbrev pub left_test : Nodes → List PageRange → ℕ → ℕ → ℕ → Bool
left_test node rs middle leaf q = is_touched rs q && (not (is_seen middle leaf q) && is_none (key_at node q))

abbrev pub left : Nodes → List PageRange → ℕ → ℕ → ℕ
left node rs middle leaf = count_to (λ q. left_test node rs middle leaf q) 262657

count_three : (f g h k : ℕ → Bool) (n : ℕ) → ((q : ℕ) → q < n → cond {A = ℕ} (f q) 1 0 ≡ cond (g q) 1 0 + cond (h q) 1 0 + cond (k q) 1 0) → count_to f n ≡ count_to g n + count_to h n + count_to k n
unfolding count_to
count_three f g h k zero e = refl
count_three f g h k (suc n) e = let rest = count_three f g h k n (λ q l. e q (omega arith)) in let here = e n (omega arith) in omega arith

count_cut : (f : ℕ → Bool) (e n : ℕ) → e ≤ n → count_to f e ≡ count_to (λ q. f q && ltb q e) n
unfolding count_to
count_cut f e zero l = let same : e ≡ 0 = omega arith in ap (count_to f) same
count_cut f e (suc n) l = elim (cases_eq e (suc n)) [
  | inl same ↦ ap (count_to f) same ∙ count_to-same f (λ q. f q && ltb q e) (suc n) (λ q m. all (f q) (ltb q e) (lt-ltb q e (omega arith)))
  | inr less ↦ let rest = count_cut f e n (omega arith) in let off = none (f n) (ltb n e) (le-ltb n e (omega arith)) in omega arith
]
  where
    all : (a b : Bool) → b ≡ true → a ≡ (a && b)
    all true b e = sym e
    all false b e = refl

    none : (a b : Bool) → b ≡ false → cond {A = ℕ} (a && b) 1 0 ≡ 0
    none true b e = ap (λ t. cond {A = ℕ} t 1 0) e
    none false b e = refl

-- one place, at a level where the range's places go from first up to end
level : (first end next q : ℕ) (touched rest lacks : Bool) → touched ≡ (leb first q && ltb q end) → (rest ≡ true → first ≤ q)
    → cond {A = ℕ} ((touched || rest) && (not (ltb q next) && lacks)) 1 0
    ≡ cond ((leb (max next first) q && lacks) && ltb q end) 1 0 + cond (rest && (not (ltb q (max next end)) && lacks)) 1 0
level first end next q touched rest lacks is rises = elim (cases_lt q next) [
  | inl seen ↦ rw (lt-ltb q next seen, lt-leb (max next first) q (omega arith), lt-ltb q (max next end) (omega arith)) (off (touched || rest) rest)
  | inr new ↦ elim (cases_lt q first) [
    | inl below ↦
        rw (le-ltb q next new, is, lt-leb first q below, lt-leb (max next first) q (omega arith))
        (by_rest rest (λ e. let h = rises e in absurd (omega arith)))
    | inr high ↦ elim (cases_lt q end) [
      | inl here ↦ rw (le-ltb q next new, is, le-leb first q high, lt-ltb q end here, le-leb (max next first) q (omega arith), lt-ltb q (max next end) (omega arith)) (on rest lacks)
      | inr past ↦ rw (le-ltb q next new, is, le-leb first q high, le-ltb q end past, le-leb (max next first) q (omega arith), le-ltb q (max next end) (omega arith)) (over rest lacks)
    ]
  ]
]
  where
    off : (a b : Bool) → cond {A = ℕ} (a && false) 1 0 ≡ cond (false) 1 0 + cond (b && false) 1 0
    off true true = refl
    off true false = refl
    off false true = refl
    off false false = refl

    by_rest : (b : Bool) → (b ≡ true → ⊥) → cond {A = ℕ} (b && (true && lacks)) 1 0 ≡ cond false 1 0 + cond (b && (not (ltb q (max next end)) && lacks)) 1 0
    by_rest true h = absurd (h refl)
    by_rest false h = refl

    on : (b d : Bool) → cond {A = ℕ} (true && (true && d)) 1 0 ≡ cond (d && true) 1 0 + cond (b && (false && d)) 1 0
    on true true = refl
    on true false = refl
    on false true = refl
    on false false = refl

    over : (b d : Bool) → cond {A = ℕ} (b && (true && d)) 1 0 ≡ cond (d && false) 1 0 + cond (b && (true && d)) 1 0
    over true true = refl
    over true false = refl
    over false true = refl
    over false false = refl

-- the places that a range touches, level by level
touched_middle : (r : PageRange) (q : ℕ) → r.lo < r.hi → 1 ≤ q → q < 513 → touched_by r q ≡ (leb (1 + r.lo / 262144) q && ltb q (2 + (r.hi - 1) / 262144))
touched_middle r q some a b = rw (lt-ltb q 513 b) (elim (cases_lt q (1 + r.lo / 262144)) [
  | inl below ↦ rw (lt-leb (1 + r.lo / 262144) q below) (le-ltb (max r.lo ((q - 1) * 262144)) (min r.hi ((q - 1) * 262144 + 262144)) (omega arith))
  | inr high ↦ rw (le-leb (1 + r.lo / 262144) q high) (elim (cases_lt q (2 + (r.hi - 1) / 262144)) [
    | inl here ↦ rw (lt-ltb q (2 + (r.hi - 1) / 262144) here) (lt-ltb (max r.lo ((q - 1) * 262144)) (min r.hi ((q - 1) * 262144 + 262144)) (omega arith))
    | inr past ↦ rw (le-ltb q (2 + (r.hi - 1) / 262144) past) (le-ltb (max r.lo ((q - 1) * 262144)) (min r.hi ((q - 1) * 262144 + 262144)) (omega arith))
  ])
])

touched_leaf : (r : PageRange) (q : ℕ) → r.lo < r.hi → 513 ≤ q → touched_by r q ≡ (leb (513 + r.lo / 512) q && ltb q (514 + (r.hi - 1) / 512))
touched_leaf r q some a = rw (le-ltb q 513 a) (elim (cases_lt q (513 + r.lo / 512)) [
  | inl below ↦ rw (lt-leb (513 + r.lo / 512) q below) (le-ltb (max r.lo ((q - 513) * 512)) (min r.hi ((q - 513) * 512 + 512)) (omega arith))
  | inr high ↦ rw (le-leb (513 + r.lo / 512) q high) (elim (cases_lt q (514 + (r.hi - 1) / 512)) [
    | inl here ↦ rw (lt-ltb q (514 + (r.hi - 1) / 512) here) (lt-ltb (max r.lo ((q - 513) * 512)) (min r.hi ((q - 513) * 512 + 512)) (omega arith))
    | inr past ↦ rw (le-ltb q (514 + (r.hi - 1) / 512) past) (le-ltb (max r.lo ((q - 513) * 512)) (min r.hi ((q - 513) * 512 + 512)) (omega arith))
  ])
])

-- ranges that rise touch no place that ends before they begin
rises : (rs : List PageRange) (lo q : ℕ) → RiseFrom lo rs → is_touched rs q ≡ true → lo < first_page q + page_count q
rises [] lo q h e = absurd (cc)
rises (r ∷ rs) lo q h e = elim (or_cases (touched_by r q) (is_touched rs q) e) [
  | inl here ↦ let l = ltb-true (max r.lo (first_page q)) (min r.hi (first_page q + page_count q)) here in let low = h.0 in omega arith
  | inr rest ↦ let l = rises rs r.hi q h.3 rest in let low = h.0 in let size = h.1 in omega arith
]

module _ (node : Nodes) (r : PageRange) (rs : List PageRange) (middle leaf : ℕ) (a : 1 ≤ middle) (b : 513 ≤ leaf) where
  first_middle : ℕ
  first_middle = max middle (1 + r.lo / 262144)

  lacks : ℕ → Bool
  lacks q = is_none (key_at node q)

  in_middle : ℕ → Bool
  in_middle q = (leb (max middle (1 + r.lo / 262144)) q && is_none (key_at node q)) && ltb q (2 + (r.hi - 1) / 262144)

  in_leaf : ℕ → Bool
  in_leaf q = (leb (max leaf (513 + r.lo / 512)) q && is_none (key_at node q)) && ltb q (514 + (r.hi - 1) / 512)

  rest_test : ℕ → Bool
  rest_test q = left_test node rs (max middle (2 + (r.hi - 1) / 262144)) (max leaf (514 + (r.hi - 1) / 512)) q

  at_each : r.lo < r.hi → r.hi ≤ 2 ^ 27 → RiseFrom r.hi rs → (q : ℕ) → q < 262657
      → cond {A = ℕ} (left_test node (r ∷ rs) middle leaf q) 1 0 ≡ cond (in_middle q) 1 0 + cond (in_leaf q) 1 0 + cond (rest_test q) 1 0
  unfolding in_middle in_leaf rest_test
  at_each some high rise q l = elim (cases_lt q 513) [
    | inl low ↦ elim (cases_eq q 0) [
      | inl first ↦
          let e : 0 ≡ q = sym first in
          subst (λ q. cond {A = ℕ} (left_test node (r ∷ rs) middle leaf q) 1 0 ≡ cond (in_middle q) 1 0 + cond (in_leaf q) 1 0 + cond (rest_test q) 1 0) e
          (rw (key_at-root node) (ends (touched_by r 0 || is_touched rs 0) (not (ltb 0 middle)) (leb (max middle (1 + r.lo / 262144)) 0) (ltb 0 (2 + (r.hi - 1) / 262144)) (leb (max leaf (513 + r.lo / 512)) 0) (ltb 0 (514 + (r.hi - 1) / 512))
          (is_touched rs 0) (not (ltb 0 (max middle (2 + (r.hi - 1) / 262144))))))
      | inr more ↦
          let here = level (1 + r.lo / 262144) (2 + (r.hi - 1) / 262144) middle q (touched_by r q) (is_touched rs q) (is_none (key_at node q)) (touched_middle r q some (omega arith) low)
          (λ t. let z = rises rs r.hi q rise t in let size = sizes_middle q low in omega arith) in
          joined (left_test node (r ∷ rs) middle leaf q) ((touched_by r q || is_touched rs q) && (not (ltb q middle) && is_none (key_at node q)))
          (in_middle q) (in_leaf q) (rest_test q) (is_touched rs q && (not (ltb q (max middle (2 + (r.hi - 1) / 262144))) && is_none (key_at node q)))
          (ap (λ s. (touched_by r q || is_touched rs q) && (not s && is_none (key_at node q))) (seen_low middle leaf q low))
          here
          (ap (λ s. is_touched rs q && (not s && is_none (key_at node q))) (seen_low (max middle (2 + (r.hi - 1) / 262144)) (max leaf (514 + (r.hi - 1) / 512)) q low))
          (ap (λ s. (s && is_none (key_at node q)) && ltb q (514 + (r.hi - 1) / 512)) (lt-leb (max leaf (513 + r.lo / 512)) q (omega arith)))
    ]
    | inr up ↦
        let here = level (513 + r.lo / 512) (514 + (r.hi - 1) / 512) leaf q (touched_by r q) (is_touched rs q) (is_none (key_at node q)) (touched_leaf r q some up)
        (λ t. let z = rises rs r.hi q rise t in let size = sizes_leaf q up in omega arith) in
        swapped (left_test node (r ∷ rs) middle leaf q) ((touched_by r q || is_touched rs q) && (not (ltb q leaf) && is_none (key_at node q)))
        (in_middle q) (in_leaf q) (rest_test q) (is_touched rs q && (not (ltb q (max leaf (514 + (r.hi - 1) / 512))) && is_none (key_at node q)))
        (ap (λ s. (touched_by r q || is_touched rs q) && (not s && is_none (key_at node q))) (seen_high middle leaf q up))
        here
        (ap (λ s. is_touched rs q && (not s && is_none (key_at node q))) (seen_high (max middle (2 + (r.hi - 1) / 262144)) (max leaf (514 + (r.hi - 1) / 512)) q up))
        (ap (λ s. (leb (max middle (1 + r.lo / 262144)) q && is_none (key_at node q)) && s) (le-ltb q (2 + (r.hi - 1) / 262144) (omega arith)) ∙ false_right (leb (max middle (1 + r.lo / 262144)) q && is_none (key_at node q)))
  ]
    where
      false_right : (x : Bool) → (x && false) ≡ false
      false_right true = refl
      false_right false = refl

      seen_low : (m n q : ℕ) → q < 513 → is_seen m n q ≡ ltb q m
      seen_low m n q low = ap (λ b. cond b (ltb q m) (ltb q n)) (lt-ltb q 513 low)

      seen_high : (m n q : ℕ) → 513 ≤ q → is_seen m n q ≡ ltb q n
      seen_high m n q up = ap (λ b. cond b (ltb q m) (ltb q n)) (le-ltb q 513 up)

      joined : (f f2 g h k k2 : Bool) → f ≡ f2 → cond {A = ℕ} f2 1 0 ≡ cond g 1 0 + cond k2 1 0 → k ≡ k2 → h ≡ false → cond {A = ℕ} f 1 0 ≡ cond g 1 0 + cond h 1 0 + cond k 1 0
      joined f f2 g h k k2 a b c d = rw (a, c, d) (omega (arith, b))

      swapped : (f f2 g h k k2 : Bool) → f ≡ f2 → cond {A = ℕ} f2 1 0 ≡ cond h 1 0 + cond k2 1 0 → k ≡ k2 → g ≡ false → cond {A = ℕ} f 1 0 ≡ cond g 1 0 + cond h 1 0 + cond k 1 0
      swapped f f2 g h k k2 a b c d = rw (a, c, d) (omega (arith, b))

      ends : (t s m e n f u v : Bool) → cond {A = ℕ} (t && (s && false)) 1 0 ≡ cond ((m && false) && e) 1 0 + cond ((n && false) && f) 1 0 + cond (u && (v && false)) 1 0
      ends t s m e n f u v = rw (false_right s, false_right t, false_right m, false_right n, false_right v, false_right u) refl

      sizes_middle : (q : ℕ) → q < 513 → first_page q + page_count q ≡ (q - 1) * 262144 + 262144
      sizes_middle q low = rw (lt-ltb q 513 low) refl

      sizes_leaf : (q : ℕ) → 513 ≤ q → first_page q + page_count q ≡ (q - 513) * 512 + 512
      sizes_leaf q up = rw (le-ltb q 513 up) refl

  -- a range that is looked at: what it lacks, and what is left
  pub left-more : r.lo < r.hi → r.hi ≤ 2 ^ 27 → RiseFrom r.hi rs
      → left node (r ∷ rs) middle leaf ≡ absent_from node (max middle (1 + r.lo / 262144)) (2 + (r.hi - 1) / 262144) + absent_from node (max leaf (513 + r.lo / 512)) (514 + (r.hi - 1) / 512)
      + left node rs (max middle (2 + (r.hi - 1) / 262144)) (max leaf (514 + (r.hi - 1) / 512))
  unfolding in_middle in_leaf rest_test
  left-more some high rise =
      count_three (λ q. left_test node (r ∷ rs) middle leaf q) in_middle in_leaf rest_test 262657 (λ q l. at_each some high rise q l)
      ∙ parts (left node rs (max middle (2 + (r.hi - 1) / 262144)) (max leaf (514 + (r.hi - 1) / 512))) (sym (count_cut (λ q. leb (max middle (1 + r.lo / 262144)) q && is_none (key_at node q)) (2 + (r.hi - 1) / 262144) 262657 (omega arith)))
      (sym (count_cut (λ q. leb (max leaf (513 + r.lo / 512)) q && is_none (key_at node q)) (514 + (r.hi - 1) / 512) 262657 (omega arith)))
    where
      parts : (z : ℕ) {x y x2 y2 : ℕ} → x ≡ x2 → y ≡ y2 → x + y + z ≡ x2 + y2 + z
      parts z e f = rw (e, f) refl

  -- an empty range touches nothing
  pub left-empty : r.hi ≤ r.lo → left node (r ∷ rs) middle leaf ≡ left node rs middle leaf
  left-empty none = count_to-same (λ q. left_test node (r ∷ rs) middle leaf q) (λ q. left_test node rs middle leaf q) 262657 (λ q l.
      ap (λ t. (t || is_touched rs q) && (not (is_seen middle leaf q) && is_none (key_at node q))) (le-ltb (max r.lo (first_page q)) (min r.hi (first_page q + page_count q)) (omega arith)))

-- before any range was looked at, all is left
module _ (node : Nodes) where
  pub left-all : (rs : List PageRange) → left node rs 1 513 ≡ absent node rs
  left-all rs = count_to-same (λ q. left_test node rs 1 513 q) (λ q. is_touched rs q && is_none (key_at node q)) 262657 (λ q l. elim (cases_eq q 0) [
    | inl first ↦
        let lacks_not : is_none (key_at node q) ≡ false = ap (λ p. is_none (key_at node p)) first ∙ ap is_none (key_at-root node) in
        rw lacks_not (both (is_touched rs q) (not (is_seen 1 513 q)))
    | inr more ↦ ap (λ s. is_touched rs q && (not s && is_none (key_at node q))) (unseen q more)
  ])
    where
      unseen : (q : ℕ) → q ≢ 0 → is_seen 1 513 q ≡ false
      unseen q more = elim (cases_lt q 513) [
        | inl low ↦ ap (λ b. cond b (ltb q 1) (ltb q 513)) (lt-ltb q 513 low) ∙ le-ltb q 1 (omega arith)
        | inr up ↦ ap (λ b. cond b (ltb q 1) (ltb q 513)) (le-ltb q 513 up) ∙ le-ltb q 513 up
      ]

      both : (x y : Bool) → (x && (y && false)) ≡ (x && false)
      both true true = refl
      both true false = refl
      both false y = refl

  pub left-none : (middle leaf : ℕ) → left node [] middle leaf ≡ 0
  left-none middle leaf = count_none (λ q. left_test node [] middle leaf q) 262657 (λ q l. refl)

  pub absent-few : (rs : List PageRange) → absent node rs ≤ 262657
  absent-few rs = count_to-le (λ q. is_touched rs q && is_none (key_at node q)) 262657
