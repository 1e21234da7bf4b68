-- A word of a code page is what is fetched there.
use Rattle.std.proofs.Common.{◌≡◌, ℕ, ◌+◌, ◌*◌, ◌^◌, ◌<◌, ◌≤◌, false, Option, Some, None, Ok, option_map, ap, ◌∙◌, refl, arith}
use Rattle.mck_word.specs.declared.Access.TheVariants.{Exec}
use Rattle.isa_model.specs.Memory.{Memory, Page, fetched, first_lack, lacks, lacks_in, number_at, page_at, read_unless}
use Rattle.rv64i_user.specs.Places.{bytes_of, word_in}
use Rattle.rv64i_user.proofs.InPage.{number-in, no-lack}

word-by : (m : Memory) (p o a : ℕ) (g : Option Page) → page_at m p ≡ g → lacks_in Exec g ≡ false → a ≡ p * 4096 + o → o + 4 ≤ 4096 → p < 2 ^ 52 → number_at m a 4 ≡ word_in (option_map (λ page. page.bytes) g) o
word-by m p o a None e h f k l = absurd cc
word-by m p o a (Some page) e h f k l = number-in m page.bytes p o a 4 f k l (ap (option_map (λ x. x.bytes)) e)

pub fetched-word : (m : Memory) (p o a : ℕ) → lacks m Exec p ≡ false → a ≡ p * 4096 + o → o + 4 ≤ 4096 → p < 2 ^ 52 → fetched m a ≡ Ok (word_in (bytes_of m p) o)
fetched-word m p o a h f k l =
    let some : 1 ≤ 4 = omega arith in
    let none : first_lack m Exec a 4 ≡ None = no-lack m Exec a 4 p o f some k l h in
    let num = word-by m p o a (page_at m p) refl h f k l in
    ap (λ x. read_unless x (number_at m a 4)) none ∙ ap (read_unless None) num
