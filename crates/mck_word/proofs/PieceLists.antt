-- The pieces that the code cuts are the pieces of the range, and no other list is.
use Rattle.std.proofs.Common.{◌≡◌, ◌≢◌, ℕ, zero, suc, ◌+◌, ◌-◌, ◌*◌, ◌/◌, ◌%◌, ◌<◌, ◌≤◌, List, [], ◌∷◌, ◌++◌, sym, ap, ◌∙◌, refl, subst, ◌⊎◌, inl, inr, arith}
use Rattle.std.specs.List.{range_with_len}
use Rattle.mck_word.specs.Pieces.{all_addresses, OtherPage, ArePieces, first_len, pieces_up, pieces_of}
use Rattle.mck_word.specs.declared.parts.Piece.{Piece}

-- ---- ranges of numbers

range-at : (a b n : ℕ) → a ≡ b → range_with_len a n ≡ range_with_len b n
range-at a b n e = ap (λ x. range_with_len x n) e

range-of : (a m n : ℕ) → m ≡ n → range_with_len a m ≡ range_with_len a n
range-of a m n e = ap (range_with_len a) e

pub range-split : (a k m n : ℕ) → n ≡ k + m → range_with_len a n ≡ range_with_len a k ++ range_with_len (a + k) m
range-split a zero m n e = range-of a n m (omega arith) ∙ range-at a (a + 0) m (omega arith)
range-split a (suc k) m n e =
    range-of a n (suc (k + m)) (omega arith) ∙ ap (λ xs. a ∷ xs) (range-split (a + 1) k m (k + m) refl ∙ ap (λ x. range_with_len (a + 1) k ++ range_with_len x m) (omega arith))

-- ---- the list that the code cuts

pub cut-none : (f a : ℕ) → pieces_up f a 0 ≡ []
cut-none zero a = refl
cut-none (suc f) a = refl

abbrev pub first_piece : ℕ → ℕ → Piece
first_piece a n = record { page = a / 4096; off = a % 4096; len = first_len a n }

pub first-some : (a n : ℕ) → (0 < first_len a (suc n)) × (first_len a (suc n) ≤ suc n) × (first_len a (suc n) ≤ 4096 - a % 4096)
first-some a n = (omega arith, omega arith, omega arith)

pub cut-more : (f g a n : ℕ) → n ≤ f → n ≤ g → pieces_up f a n ≡ pieces_up g a n
cut-more f g a zero p q = cut-none f a ∙ sym (cut-none g a)
cut-more zero g a (suc n) p q = absurd (omega arith)
cut-more (suc f) zero a (suc n) p q = absurd (omega arith)
cut-more (suc f) (suc g) a (suc n) p q =
    let k = first-some a n in
    ap (λ ps. first_piece a (suc n) ∷ ps) (cut-more f g (a + first_len a (suc n)) (suc n - first_len a (suc n)) (omega arith) (omega arith))

pub cut-step : (a n : ℕ) → 0 < n → pieces_of a n ≡ first_piece a n ∷ pieces_of (a + first_len a n) (n - first_len a n)
unfolding pieces_of
cut-step a zero p = absurd (omega arith)
cut-step a (suc n) p =
    let k = first-some a n in
    ap (λ ps. first_piece a (suc n) ∷ ps) (cut-more n (suc n - first_len a (suc n)) (a + first_len a (suc n)) (suc n - first_len a (suc n)) (omega arith) (omega arith))

other-page : (f a n k : ℕ) → (n ≡ 0) ⊎ (k ≡ 4096 - a % 4096) → OtherPage (record { page = a / 4096; off = a % 4096; len = k }) (pieces_up f (a + k) n)
other-page f a zero k h = subst (λ ps. OtherPage (record { page = a / 4096; off = a % 4096; len = k }) ps) (sym (cut-none f (a + k))) tt
other-page zero a (suc n) k h = tt
other-page (suc f) a (suc n) k (inl h) = absurd (omega arith)
other-page (suc f) a (suc n) k (inr h) = λ e. omega arith

pub cut-are : (f a n : ℕ) → n ≤ f → ArePieces a n (pieces_up f a n)
cut-are f a zero p = subst (λ ps. ArePieces a 0 ps) (sym (cut-none f a)) (record { joined = refl; in_pages = tt; apart = tt })
cut-are zero a (suc n) p = absurd (omega arith)
cut-are (suc f) a (suc n) p =
    let k = first-some a n in
    let m : ℕ = first_len a (suc n) in
    let rest = cut-are f (a + m) (suc n - m) (omega arith) in
    let at : a / 4096 * 4096 + a % 4096 ≡ a = omega arith in
    let either : (suc n - m ≡ 0) ⊎ (m ≡ 4096 - a % 4096) = grind arith in
    record {
      joined = ap (λ x. range_with_len x m ++ all_addresses (pieces_up f (a + m) (suc n - m))) at ∙ ap (λ xs. range_with_len a m ++ xs) rest.joined ∙ sym (range-split a m (suc n - m) (suc n) (omega arith));
      in_pages = (omega arith, k.0, rest.in_pages);
      apart = (other-page f a (suc n - m) m either, rest.apart);
    }

pub pieces-are : (a n : ℕ) → ArePieces a n (pieces_of a n)
unfolding pieces_of
pieces-are a n = cut-are n a n (omega arith)

-- ---- no other list

-- a front of a range is a range
front-is : (s k a n : ℕ) (rest : List ℕ) → 0 < k → range_with_len s k ++ rest ≡ range_with_len a n → (s ≡ a) × (k ≤ n) × (rest ≡ range_with_len (a + k) (n - k))
front-is s zero a n rest p e = absurd (omega arith)
front-is s (suc zero) a zero rest p e = absurd cc
front-is s (suc zero) a (suc n) rest p e =
    let h : s ≡ a = cc in
    let t : rest ≡ range_with_len (a + 1) n = cc in
    (h, omega arith, t ∙ range-of (a + 1) n (suc n - 1) (omega arith))
front-is s (suc (suc k)) a zero rest p e = absurd cc
front-is s (suc (suc k)) a (suc n) rest p e =
    let h : s ≡ a = cc in
    let t : range_with_len (s + 1) (suc k) ++ rest ≡ range_with_len (a + 1) n = cc in
    let r = front-is (s + 1) (suc k) (a + 1) n rest (omega arith) t in
    (h, omega arith, r.2 ∙ range-at (a + 1 + suc k) (a + suc (suc k)) (n - suc k) (omega arith) ∙ range-of (a + suc (suc k)) (n - suc k) (suc n - suc (suc k)) (omega arith))

-- the first piece of a range that has one, and the rest
pub record Split (a n : ℕ) (p : Piece) (ps : List Piece) : Type 0 where
  pub page : p.page ≡ a / 4096
  pub off : p.off ≡ a % 4096
  pub most : p.len ≤ n
  pub rest : ArePieces (a + p.len) (n - p.len) ps

pub split : (a n : ℕ) (p : Piece) (ps : List Piece) → ArePieces a n (p ∷ ps) → Split a n p ps
split a n p ps h =
    let r = front-is (p.page * 4096 + p.off) p.len a n (all_addresses ps) h.in_pages.1 h.joined in
    let fits : p.off + p.len ≤ 4096 = h.in_pages.0 in
    let some : 0 < p.len = h.in_pages.1 in
    let at : p.page * 4096 + p.off ≡ a = r.0 in
    record { page = omega arith; off = omega arith; most = r.1; rest = record { joined = r.2; in_pages = h.in_pages.2; apart = h.apart.1 } }

none-left : (a n : ℕ) → ArePieces a n [] → n ≡ 0
none-left a zero h = refl
none-left a (suc n) h = let e = h.joined in absurd cc

empty-range : (a : ℕ) (p : Piece) (ps : List Piece) → ArePieces a 0 (p ∷ ps) → ⊥
empty-range a p ps h = let s = split a 0 p ps h in let some = h.in_pages.1 in omega arith

-- a piece that isn't the last ends with its page
not-longer : (a n : ℕ) (p q : Piece) (ps qs : List Piece) → ArePieces a n (p ∷ ps) → ArePieces a n (q ∷ qs) → p.len < q.len → ⊥
not-longer a n p q [] qs h g l =
    let s = split a n p [] h in
    let t = split a n q qs g in
    let e = none-left (a + p.len) (n - p.len) s.rest in
    omega arith
not-longer a n p q (r ∷ ps) qs h g l =
    let s = split a n p (r ∷ ps) h in
    let t = split a n q qs g in
    let u = split (a + p.len) (n - p.len) r ps s.rest in
    let fits : q.off + q.len ≤ 4096 = g.in_pages.0 in
    let differ : p.page ≢ r.page = h.apart.0 in
    differ (omega arith)

-- there is one list of pieces of a range
pub one-list : (a n : ℕ) (ps qs : List Piece) → ArePieces a n ps → ArePieces a n qs → ps ≡ qs
one-list a n [] [] h g = refl
one-list a n [] (q ∷ qs) h g = absurd (empty-range a q qs (subst (λ k. ArePieces a k (q ∷ qs)) (none-left a n h) g))
one-list a n (p ∷ ps) [] h g = absurd (empty-range a p ps (subst (λ k. ArePieces a k (p ∷ ps)) (none-left a n g) h))
one-list a n (p ∷ ps) (q ∷ qs) h g =
    let s = split a n p ps h in
    let t = split a n q qs g in
    let same-len : p.len ≡ q.len = grind (arith, not-longer a n p q ps qs h g, not-longer a n q p qs ps g h) in
    let same-page : p.page ≡ q.page = s.page ∙ sym t.page in
    let same-off : p.off ≡ q.off = s.off ∙ sym t.off in
    let same : p ≡ q = ap (λ (x : ℕ × ℕ × ℕ). record { page = x.0; off = x.1; len = x.2 }) (let e : ◌≡◌ {A = ℕ × ℕ × ℕ} (p.page, p.off, p.len) (q.page, q.off, q.len) = cc in e) in
    let later = one-list (a + p.len) (n - p.len) ps qs s.rest (subst (λ k. ArePieces (a + k) (n - k) qs) (sym same-len) t.rest) in
    cc
