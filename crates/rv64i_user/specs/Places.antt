-- Numbers in the bytes of one page, lowest byte first, and what is written into a page.
use Rattle.std.specs.Prelude.{ℕ, zero, suc, ◌+◌, ◌*◌, ◌/◌, ◌%◌, ◌^◌, ◌≡◌, ◌<◌, ◌⊎◌, List, slice_set, Option, Some, None, slice_index, option_map}
use Rattle.isa_model.specs.Memory.{Memory, Page, page_at}
use Rattle.mck_word.specs.Maps.{change}

-- the number that n bytes of a page from a place on spell
abbrev pub le_number : List ℕ → ℕ → ℕ → ℕ
le_number b o zero = 0
le_number b o (suc n) = slice_index b o + 256 * le_number b (o + 1) n

-- the bytes with the low n bytes of v among them, from a place on
abbrev pub put_bytes : List ℕ → ℕ → ℕ → ℕ → List ℕ
put_bytes b o zero v = b
put_bytes b o (suc n) v = put_bytes (slice_set b o (v % 256)) (o + 1) n (v / 256)

-- the bytes of a page that is there
abbrev pub bytes_of : Memory → ℕ → Option (List ℕ)
bytes_of m p = option_map (λ page. page.bytes) (page_at m p)

-- the word at a place in a page's bytes
abbrev pub word_in : Option (List ℕ) → ℕ → ℕ
word_in None o = 0
word_in (Some b) o = le_number b o 4

-- a page with the low n bytes of v in it
abbrev pub page_put : ℕ → ℕ → ℕ → Page → Page
page_put o n v page = record page { bytes = put_bytes page.bytes o n v }

-- the memory with the low n bytes of v in one page
abbrev pub put_in : Memory → ℕ → ℕ → ℕ → ℕ → Memory
put_in m p o n v = change m p (page_put o n v)

-- each of n bytes from an address on lies in one of two pages
unfoldable pub Within : ℕ → ℕ → ℕ → ℕ → Type 0
Within p q a n = (i : ℕ) → i < n → ((a + i) % 2 ^ 64 / 4096 ≡ p) ⊎ ((a + i) % 2 ^ 64 / 4096 ≡ q)
