-- Rings by their numbers.
use Rattle.hybrid_model.specs.Rings.{all_empty, post, ring, with_ring}
use Rattle.ikc_channel.specs.Lines.{EachTakes, messages_of}
use Rattle.ikc_ring.specs.Rings as one_ring
use Rattle.ikc_ring.specs.Rings.{RingState}
use Rattle.ikc_ring.specs.declared.Msg.{Msg}
use Rattle.std.proofs.Common.{ap, arith, refl, sym, ◌∙◌}
use Rattle.std.specs.List.{list_all}
use Rattle.std.specs.Prelude.{◌&&◌, ◌==◌, zero, suc, List, [], length, slice_index_or, slice_set, ℕ, ◌≤◌, ◌++◌, ◌<◌, ◌∷◌, ◌≡◌}

abbrev pub no_ring : RingState
no_ring = one_ring.ring [] 0

pub ring-at : (rs : List RingState) (r : ℕ) → ring r (messages_of rs) ≡ (slice_index_or rs r no_ring).items
ring-at [] zero = refl
ring-at [] (suc r) = refl
ring-at (x ∷ rs) zero = refl
ring-at (x ∷ rs) (suc r) = ring-at rs r

pub post-at : (rs : List RingState) (r : ℕ) (m : Msg) (x : RingState) → r < length rs → x.items ≡ (slice_index_or rs r no_ring).items ++ m ∷ []
    → messages_of (slice_set rs r x) ≡ post r m (messages_of rs)
post-at [] r m x h e = absurd (omega (arith, h))
post-at (y ∷ rs) zero m x h e = ap (λ ms. ms ∷ messages_of rs) e
post-at (y ∷ rs) (suc r) m x h e = ap (λ rest. y.items ∷ rest) (post-at rs r m x (omega (arith, h)) e)

pub with-at : (rs : List RingState) (r : ℕ) (x : RingState) → messages_of (slice_set rs r x) ≡ with_ring r x.items (messages_of rs)
with-at [] zero x = refl
with-at [] (suc r) x = refl
with-at (y ∷ rs) zero x = refl
with-at (y ∷ rs) (suc r) x = ap (λ rest. y.items ∷ rest) (with-at rs r x)

pub takes-at : (n : ℕ) (rs : List RingState) (r : ℕ) → r < length rs → EachTakes n rs → (slice_index_or rs r no_ring).capacity ≡ n
takes-at n rs r h a = a r no_ring h

pub takes-set : (n : ℕ) (rs : List RingState) (r : ℕ) (x : RingState) → x.capacity ≡ n → EachTakes n rs → EachTakes n (slice_set rs r x)
takes-set n [] zero x e a k d h = a k d h
takes-set n [] (suc r) x e a k d h = a k d h
takes-set n (y ∷ rs) zero x e a zero d h = e
takes-set n (y ∷ rs) zero x e a (suc k) d h = a (suc k) d h
takes-set n (y ∷ rs) (suc r) x e a zero d h = a zero d (omega arith)
takes-set n (y ∷ rs) (suc r) x e a (suc k) d h = takes-set n rs r x e (λ i c l. a (suc i) c (omega (arith, l))) k d (omega (arith, h))

-- nothing is past the last
pub ring-past : (rs : List RingState) (r : ℕ) → length rs ≤ r → ring r (messages_of rs) ≡ []
ring-past [] zero h = refl
ring-past [] (suc r) h = refl
ring-past (x ∷ rs) zero h = absurd (omega (arith, h))
ring-past (x ∷ rs) (suc r) h = ring-past rs r (omega (arith, h))

pub with-past : (rs : List RingState) (r : ℕ) (ms : List Msg) → length rs ≤ r → with_ring r ms (messages_of rs) ≡ messages_of rs
with-past [] zero ms h = refl
with-past [] (suc r) ms h = refl
with-past (x ∷ rs) zero ms h = absurd (omega (arith, h))
with-past (x ∷ rs) (suc r) ms h = ap (λ rest. x.items ∷ rest) (with-past rs r ms (omega (arith, h)))

pub empty-all : (rs : List RingState) → all_empty (messages_of rs) ≡ list_all (λ (r : RingState). length r.items == 0) rs
empty-all [] = refl
empty-all (x ∷ rs) = ap (λ b. (length x.items == 0) && b) (empty-all rs)

at-any : (rs : List RingState) (r : ℕ) (d : RingState) → r < length rs → slice_index_or rs r d ≡ slice_index_or rs r no_ring
at-any [] r d h = absurd (omega (arith, h))
at-any (x ∷ rs) zero d h = refl
at-any (x ∷ rs) (suc r) d h = at-any rs r d (omega (arith, h))

-- a ring that is not full has a place
pub finds-place : (n : ℕ) (rs : List RingState) (r : ℕ) (x d : RingState) → r < length rs → EachTakes n rs → x ≡ slice_index_or rs r d → length (ring r (messages_of rs)) < n → length x.items < x.capacity
finds-place n rs r x d h a e f =
    let there = e ∙ at-any rs r d h in
    let items : length x.items ≡ length (ring r (messages_of rs)) = ap (λ (y : RingState). length y.items) there ∙ ap length (sym (ring-at rs r)) in
    let takes : x.capacity ≡ n = ap (λ (y : RingState). y.capacity) there ∙ takes-at n rs r h a in
    omega (arith, items, takes, f)

-- the rings with a message more
pub posts : (rs : List RingState) (r : ℕ) (m : Msg) (x y d : RingState) → r < length rs → x ≡ slice_index_or rs r d → y ≡ one_ring.posted m x → messages_of (slice_set rs r y) ≡ post r m (messages_of rs)
posts rs r m x y d h e p = post-at rs r m y h (ap (λ (z : RingState). z.items) p ∙ ap (λ (z : RingState). z.items ++ m ∷ []) (e ∙ at-any rs r d h))

pub posts-take : (n : ℕ) (rs : List RingState) (r : ℕ) (m : Msg) (x y d : RingState) → r < length rs → EachTakes n rs → x ≡ slice_index_or rs r d → y ≡ one_ring.posted m x → EachTakes n (slice_set rs r y)
posts-take n rs r m x y d h a e p = takes-set n rs r y (ap (λ (z : RingState). z.capacity) p ∙ ap (λ (z : RingState). z.capacity) (e ∙ at-any rs r d h) ∙ takes-at n rs r h a) a

pub as-many : (rs : List RingState) → length (messages_of rs) ≡ length rs
as-many [] = refl
as-many (x ∷ rs) = ap suc (as-many rs)

pub ruleset places = (ring-at, with-at, ring-past, with-past)
