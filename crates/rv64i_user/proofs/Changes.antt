-- Changes of one page, one after another.
use Rattle.std.proofs.Common.{◌≡◌, ℕ, suc, ◌+◌, ◌/◌, ◌%◌, ◌==◌, Bool, true, false, cond, Option, Some, None, option_map, slice_set, sym, ap, ◌∙◌, refl}
use Rattle.mck_word.specs.Maps.{change}
use Rattle.mck_word.specs.MapLaws.{same_rows}
use Rattle.isa_model.specs.Memory.{Memory, Page, page_at, page_with, put_byte}
use Rattle.rv64i_user.specs.Places.{page_put, put_in}
use Rattle.rv64i_user.proofs.Written.{if_number, page-change, map-map}

map-same : (f g : Page → Page) (o : Option Page) → ((x : Page) → f x ≡ g x) → option_map f o ≡ option_map g o
map-same f g None h = refl
map-same f g (Some x) h = ap Some (h x)

twice-by : (t : Bool) (f g : Page → Page) (x : Page) → cond t (g (cond t (f x) x)) (cond t (f x) x) ≡ cond t (g (f x)) x
twice-by true f g x = refl
twice-by false f g x = refl

same-by : (t : Bool) (x : Page) → cond t x x ≡ x
same-by true x = refl
same-by false x = refl

map-id : (o : Option Page) → option_map (λ (x : Page). x) o ≡ o
map-id None = refl
map-id (Some x) = refl

pub change-change : (m : Memory) (k : ℕ) (f g : Page → Page) → change (change m k f) k g ≡ change m k (λ x. g (f x))
change-change m k f g = same_rows _ _ (λ q.
    page-change (change m k f) k q g ∙ ap (option_map (if_number k g q)) (page-change m k q f)
    ∙ map-map (if_number k g q) (if_number k f q) (page_at m q)
    ∙ map-same (λ x. if_number k g q (if_number k f q x)) (if_number k (λ x. g (f x)) q) (page_at m q) (twice-by (q == k) f g)
    ∙ sym (page-change m k q (λ x. g (f x))))

-- no bytes put into a page
pub change-none : (m : Memory) (k o v : ℕ) → put_in m k o 0 v ≡ m
change-none m k o v = same_rows _ _ (λ q.
    page-change m k q (page_put o 0 v)
    ∙ map-same (if_number k (page_put o 0 v) q) (λ x. x) (page_at m q) (same-by (q == k)) ∙ map-id (page_at m q))

-- one byte, and then more behind it
pub change-twice : (m : Memory) (k o n v : ℕ) → put_in (put_in m k o 1 v) k (o + 1) n (v / 256) ≡ put_in m k o (suc n) v
change-twice m k o n v = change-change m k (page_put o 1 v) (page_put (o + 1) n (v / 256))

-- a byte, by its page and its place there
pub byte-in-page : (m : Memory) (p o a v : ℕ) → a / 4096 ≡ p → a % 4096 ≡ o → put_byte m a (v % 256) ≡ put_in m p o 1 v
byte-in-page m p o a v e f =
    ap (λ k. change m k (page_with a (v % 256))) e ∙ ap (λ i. change m p (λ x. record x { bytes = slice_set x.bytes i (v % 256) })) f
