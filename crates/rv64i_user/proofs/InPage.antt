-- An access inside one page, by the page's place.
use Rattle.std.proofs.Common.{◌≡◌, ℕ, zero, suc, ◌+◌, ◌-◌, ◌*◌, ◌/◌, ◌%◌, ◌^◌, ◌<◌, ◌≤◌, true, false, List, Option, Some, None, option_map, sym, ap, ◌∙◌, refl, subst, arith}
use Rattle.std.specs.List.{slice_index}
use Rattle.mck_word.specs.declared.Access.{Access}
use Rattle.isa_model.specs.Memory.{Memory, Page, first_lack, lacks, page_at, byte_at, byte_in, put_byte, number_at, put_number}
use Rattle.rv64i_user.specs.Places.{le_number, bytes_of, put_in}
use Rattle.rv64i_user.proofs.Bytewise.{first-lacks, none-lacks}
use Rattle.rv64i_user.proofs.Changes.{change-none, change-twice, byte-in-page}

byte-of-some : (o : ℕ) (b : List ℕ) (g : Option Page) → option_map (λ page. page.bytes) g ≡ Some b → byte_in g o ≡ slice_index b o
byte-of-some o b None h = cc
byte-of-some o b (Some page) h = let e : page.bytes ≡ b = cc in ap (λ x. slice_index x o) e

byte-here : (m : Memory) (b : List ℕ) (p o a : ℕ) → a ≡ p * 4096 + o → o < 4096 → bytes_of m p ≡ Some b → byte_at m a ≡ slice_index b o
byte-here m b p o a e h g =
    let page : a / 4096 ≡ p = omega arith in
    let off : a % 4096 ≡ o = omega arith in
    ap (λ x. byte_in (page_at m x) (a % 4096)) page ∙ ap (λ x. byte_in (page_at m p) x) off ∙ byte-of-some o b (page_at m p) g

-- the number that bytes of one page spell
pub number-in : (m : Memory) (b : List ℕ) (p o a n : ℕ) → a ≡ p * 4096 + o → o + n ≤ 4096 → p < 2 ^ 52 → bytes_of m p ≡ Some b → number_at m a n ≡ le_number b o n
unfolding number_at
number-in m b p o a zero e h l g = refl
number-in m b p o a (suc zero) e h l g = ap (λ x. x + 256 * 0) (byte-here m b p o a e (omega arith) g)
number-in m b p o a (suc (suc n)) e h l g =
    let next : (a + 1) % 2 ^ 64 ≡ p * 4096 + (o + 1) = omega arith in
    let above = number-in m b p (o + 1) ((a + 1) % 2 ^ 64) (suc n) next (omega arith) l g in
    let here = byte-here m b p o a e (omega arith) g in
    ap (λ x. x + 256 * number_at m ((a + 1) % 2 ^ 64) (suc n)) here ∙ ap (λ x. slice_index b o + 256 * x) above

-- a number written into one page
pub put-in : (m : Memory) (p o a n v : ℕ) → a ≡ p * 4096 + o → o + n ≤ 4096 → p < 2 ^ 52 → put_number m a n v ≡ put_in m p o n v
unfolding put_number
put-in m p o a zero v e h l = sym (change-none m p o v)
put-in m p o a (suc zero) v e h l = byte-in-page m p o a v (omega arith) (omega arith)
put-in m p o a (suc (suc n)) v e h l =
    let next : (a + 1) % 2 ^ 64 ≡ p * 4096 + (o + 1) = omega arith in
    let above = put-in (put_byte m a (v % 256)) p (o + 1) ((a + 1) % 2 ^ 64) (suc n) (v / 256) next (omega arith) l in
    let here = byte-in-page m p o a v (omega arith) (omega arith) in
    above ∙ ap (λ x. put_in x p (o + 1) (suc n) (v / 256)) here ∙ change-twice m p o (suc n) v

last-here : (a n p o : ℕ) → a ≡ p * 4096 + o → 1 ≤ n → o + n ≤ 4096 → p < 2 ^ 52 → (a + n - 1) % 2 ^ 64 / 4096 ≡ p
last-here a n p o e s h l =
    let whole : a + n - 1 ≡ p * 4096 + (o + n - 1) = omega arith in
    let small : (a + n - 1) % 2 ^ 64 ≡ a + n - 1 = omega arith in
    ap (λ x. x / 4096) small ∙ omega arith

-- a page that lacks the right, and one that has it
pub lack-here : (m : Memory) (acc : Access) (a n p : ℕ) → a / 4096 ≡ p → lacks m acc p ≡ true → first_lack m acc a n ≡ Some (record { page = p; access = acc })
lack-here m acc a n p e h =
    first-lacks m acc a n (subst (λ x. lacks m acc x ≡ true) (sym e) h) ∙ ap (λ x. Some (record { page = x; access = acc })) e

pub no-lack : (m : Memory) (acc : Access) (a n p o : ℕ) → a ≡ p * 4096 + o → 1 ≤ n → o + n ≤ 4096 → p < 2 ^ 52 → lacks m acc p ≡ false → first_lack m acc a n ≡ None
no-lack m acc a n p o e s h l f =
    let page : a / 4096 ≡ p = omega arith in
    let last = last-here a n p o e s h l in
    none-lacks m acc a n (subst (λ x. lacks m acc x ≡ false) (sym page) f) (subst (λ x. lacks m acc x ≡ false) (sym last) f)
