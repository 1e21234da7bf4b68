-- Pages after a store.
use Rattle.std.proofs.Common.{◌≡◌, ◌≢◌, ℕ, zero, suc, ◌+◌, ◌-◌, ◌/◌, ◌%◌, ◌^◌, ◌<◌, ◌==◌, Bool, true, false, cond, Option, Some, None, option_map, ◌⊎◌, inl, inr, sym, ap, ◌∙◌, refl, subst, arith}
use Rattle.std.proofs.lemmas.Bool.Decides.{nat_tests}
use Rattle.mck_word.specs.Maps.{at, change, change_row}
use Rattle.mck_word.specs.MapLaws.{at-put}
use Rattle.isa_model.specs.Memory.{Memory, Page, page_at, page_with, put_byte, put_number}
use Rattle.rv64i_user.specs.Places.{Within}
use Rattle.rv64i_user.specs.Seen.{Extends}
use Rattle.rv64i_user.proofs.Bytewise.{put-none, put-step}
use Rattle.rv64i_user.proofs.PagesOfAccess.{within-here, within-next}

-- a page changed, where its number is k
abbrev pub if_number : ℕ → (Page → Page) → ℕ → Page → Page
if_number k f p x = cond (p == k) (f x) x

map-id : (o : Option Page) → o ≡ option_map (λ x. x) o
map-id None = refl
map-id (Some x) = refl

absent-changed : (m : Memory) (k p : ℕ) (f : Page → Page) → at m k ≡ None → (t : Bool) → (p == k) ≡ t → at m p ≡ option_map (λ x. cond t (f x) x) (at m p)
absent-changed m k p f none true e =
    let same : p ≡ k = grind (arith, nat_tests, e) in
    let absent : at m p ≡ None = ap (at m) same ∙ none in
    absent ∙ ap (option_map (λ x. cond true (f x) x)) (sym absent)
absent-changed m k p f none false e = map-id (at m p)

there-changed : (m : Memory) (k p : ℕ) (f : Page → Page) (v : Page) → at m k ≡ Some v → (t : Bool) → (p == k) ≡ t → cond t (Some (f v)) (at m p) ≡ option_map (λ x. cond t (f x) x) (at m p)
there-changed m k p f v some true e =
    let same : p ≡ k = grind (arith, nat_tests, e) in
    let here : at m p ≡ Some v = ap (at m) same ∙ some in
    ap (option_map (λ x. cond true (f x) x)) (sym here)
there-changed m k p f v some false e = map-id (at m p)

changed-row : (m : Memory) (k p : ℕ) (f : Page → Page) (o : Option Page) → at m k ≡ o → at (change_row m k f o) p ≡ option_map (if_number k f p) (at m p)
changed-row m k p f None e = absent-changed m k p f e (p == k) refl
changed-row m k p f (Some v) e = at-put m k (f v) p ∙ there-changed m k p f v e (p == k) refl

-- the pages after one was changed
pub page-change : (m : Memory) (k p : ℕ) (f : Page → Page) → page_at (change m k f) p ≡ option_map (if_number k f p) (page_at m p)
page-change m k p f = changed-row m k p f (at m k) refl

pub page-put : (m : Memory) (a b p : ℕ) → page_at (put_byte m a b) p ≡ option_map (if_number (a / 4096) (page_with a b) p) (page_at m p)
page-put m a b p = page-change m (a / 4096) p (page_with a b)

-- a byte in another page leaves a page
other-byte : (p a b : ℕ) (x : Page) → p ≢ a / 4096 → if_number (a / 4096) (page_with a b) p x ≡ x
other-byte p a b x d = by-test (p == a / 4096) refl
  where
    by-test : (t : Bool) → (p == a / 4096) ≡ t → cond t (page_with a b x) x ≡ x
    by-test true e = absurd (d (grind (arith, nat_tests, e)))
    by-test false e = refl

-- a page after a number was written
unfoldable pub page_number : ℕ → ℕ → ℕ → ℕ → Page → Page
page_number p a zero v x = x
page_number p a (suc n) v x = page_number p ((a + 1) % 2 ^ 64) n (v / 256) (if_number (a / 4096) (page_with a (v % 256)) p x)

pub map-map : (f g : Page → Page) (o : Option Page) → option_map f (option_map g o) ≡ option_map (λ x. f (g x)) o
map-map f g None = refl
map-map f g (Some x) = refl

pub page-put-number : (m : Memory) (a n v p : ℕ) → page_at (put_number m a n v) p ≡ option_map (page_number p a n v) (page_at m p)
unfolding page_number put_number
page-put-number m a zero v p = map-id (page_at m p)
page-put-number m a (suc n) v p =
    page-put-number (put_byte m a (v % 256)) ((a + 1) % 2 ^ 64) n (v / 256) p
    ∙ ap (option_map (page_number p ((a + 1) % 2 ^ 64) n (v / 256))) (page-put m a (v % 256) p)
    ∙ map-map (page_number p ((a + 1) % 2 ^ 64) n (v / 256)) (if_number (a / 4096) (page_with a (v % 256)) p) (page_at m p)

map-some : (f : Page → Page) (o : Option Page) (g : Page) → option_map f o ≡ Some g → (x : Page) × (o ≡ Some x) × (f x ≡ g)
map-some f None g e = cc
map-some f (Some x) g e = (x, refl, cc)

pub put-extends : (m w : Memory) (a n v : ℕ) → Extends m w → Extends (put_number m a n v) (put_number w a n v)
put-extends m w a n v e = λ p g h.
    let t = map-some (page_number p a n v) (page_at m p) g (sym (page-put-number m a n v p) ∙ h) in
    page-put-number w a n v p ∙ ap (option_map (page_number p a n v)) (e p t.0 t.1) ∙ ap Some t.2

other-in : (a b p : ℕ) (o : Option Page) → p ≢ a / 4096 → option_map (if_number (a / 4096) (page_with a b) p) o ≡ o
other-in a b p None d = refl
other-in a b p (Some x) d = ap Some (other-byte p a b x d)

other-page-byte : (w : Memory) (a b p : ℕ) → p ≢ a / 4096 → page_at (put_byte w a b) p ≡ page_at w p
other-page-byte w a b p d = page-put w a b p ∙ other-in a b p (page_at w p) d

not-either : (p x y z : ℕ) → p ≢ x → p ≢ y → (z ≡ x) ⊎ (z ≡ y) → p ≢ z
not-either p x y z d e (inl k) = λ h. d (h ∙ k)
not-either p x y z d e (inr k) = λ h. e (h ∙ k)

-- a page in which no byte lies is left
pub put-others : (w : Memory) (p x y a n v : ℕ) → p ≢ x → p ≢ y → a < 2 ^ 64 → Within x y a n → page_at (put_number w a n v) p ≡ page_at w p
put-others w p x y a zero v d e h k = ap (λ m. page_at m p) (put-none w a 0 v refl)
put-others w p x y a (suc n) v d e h k =
    let some : suc n ≡ 0 → ⊥ = λ q. absurd cc in
    let size : suc n - 1 ≡ n = omega arith in
    let here = not-either p x y (a / 4096) d e (within-here x y a (suc n) h (omega arith) k) in
    let later = put-others (put_byte w a (v % 256)) p x y ((a + 1) % 2 ^ 64) n (v / 256) d e (omega arith) (subst (λ q. Within x y ((a + 1) % 2 ^ 64) q) size (within-next x y a (suc n) k)) in
    ap (λ m. page_at m p) (put-step w a (suc n) v some)
    ∙ ap (λ q. page_at (put_number (put_byte w a (v % 256)) ((a + 1) % 2 ^ 64) q (v / 256)) p) size
    ∙ later ∙ other-page-byte w a (v % 256) p here

pub put-kept : (m w : Memory) (a n v p : ℕ) → page_at w p ≡ page_at m p → page_at (put_number w a n v) p ≡ page_at (put_number m a n v) p
put-kept m w a n v p e = page-put-number w a n v p ∙ ap (option_map (page_number p a n v)) e ∙ sym (page-put-number m a n v p)
