-- Memories that agree on the pages of an access give the same.
use Rattle.std.proofs.Common.{◌≡◌, ◌≢◌, ℕ, zero, suc, ◌+◌, ◌-◌, ◌*◌, ◌/◌, ◌%◌, ◌^◌, ◌<◌, ◌≤◌, Bool, true, false, Option, Some, None, ◌⊎◌, inl, inr, sym, ap, ◌∙◌, refl, subst, arith}
use Rattle.std.proofs.lemmas.Bool.{false≢true}
use Rattle.mck_word.specs.declared.Access.{Access}
use Rattle.isa_model.specs.declared.stops.Lack.{Lack}
use Rattle.isa_model.specs.Memory.{Memory, Page, page_at, lacks_in, lacks, first_lack, byte_in, byte_at, number_at, put_number}
use Rattle.rv64i_user.specs.Places.{Within}
use Rattle.rv64i_user.specs.Seen.{Extends}
use Rattle.rv64i_user.proofs.Bytewise.{first-lacks, last-lacks, none-lacks, number-none, number-step}
use Rattle.rv64i_user.proofs.PagesOfAccess.{within, within-here, within-next}
use Rattle.rv64i_user.proofs.Written.{put-others}

-- ---- pages

-- a page that doesn't lack the right is there
there-in : (a : Access) (o : Option Page) → lacks_in a o ≡ false → (g : Page) × (o ≡ Some g)
there-in a None h = absurd (false≢true (sym h))
there-in a (Some g) h = (g, refl)

pub there : (m : Memory) (a : Access) (p : ℕ) → lacks m a p ≡ false → (g : Page) × (page_at m p ≡ Some g)
there m a p h = there-in a (page_at m p) h

pub same-page : (m w : Memory) (a : Access) (p : ℕ) → Extends m w → lacks m a p ≡ false → page_at w p ≡ page_at m p
same-page m w a p e h = let t = there m a p h in e p t.0 t.1 ∙ sym t.1

-- ---- what is read

same-at : (m w : Memory) (p q x : ℕ) → page_at w p ≡ page_at m p → page_at w q ≡ page_at m q → (x ≡ p) ⊎ (x ≡ q) → page_at w x ≡ page_at m x
same-at m w p q x hp hq (inl e) = ap (page_at w) e ∙ hp ∙ sym (ap (page_at m) e)
same-at m w p q x hp hq (inr e) = ap (page_at w) e ∙ hq ∙ sym (ap (page_at m) e)

number-none-same : (m w : Memory) (a n : ℕ) → n ≡ 0 → number_at w a n ≡ number_at m a n
number-none-same m w a n e = number-none w a n e ∙ sym (number-none m a n e)

number-same : (m w : Memory) (p q a n : ℕ) → page_at w p ≡ page_at m p → page_at w q ≡ page_at m q → a < 2 ^ 64 → Within p q a n → number_at w a n ≡ number_at m a n
number-same m w p q a zero hp hq h k = number-none-same m w a 0 refl
number-same m w p q a (suc n) hp hq h k =
    let some : suc n ≡ 0 → ⊥ = λ e. absurd cc in
    let here = same-at m w p q (a / 4096) hp hq (within-here p q a (suc n) h (omega arith) k) in
    let size : suc n - 1 ≡ n = omega arith in
    let later = number-same m w p q ((a + 1) % 2 ^ 64) n hp hq (omega arith) (subst (λ x. Within p q ((a + 1) % 2 ^ 64) x) size (within-next p q a (suc n) k)) in
    number-step w a (suc n) some
    ∙ ap (λ x. byte_at w a + 256 * number_at w ((a + 1) % 2 ^ 64) x) size
    ∙ ap (λ o. byte_in o (a % 4096) + 256 * number_at w ((a + 1) % 2 ^ 64) n) here
    ∙ ap (λ x. byte_at m a + 256 * x) later
    ∙ ap (λ x. byte_at m a + 256 * number_at m ((a + 1) % 2 ^ 64) x) (sym size)
    ∙ sym (number-step m a (suc n) some)

lacks-same : (m w : Memory) (a : Access) (p : ℕ) (b : Bool) → page_at w p ≡ page_at m p → lacks m a p ≡ b → lacks w a p ≡ b
lacks-same m w a p b e h = ap (lacks_in a) e ∙ h

-- ---- accesses

pub record Read (m w : Memory) (a : Access) (addr n : ℕ) : Type 0 where
  pub lack : first_lack w a addr n ≡ first_lack m a addr n
  pub number : first_lack m a addr n ≡ None → number_at w addr n ≡ number_at m addr n

none-some : (l : Lack) → ◌≡◌ {A = Option Lack} (Some l) None → ⊥
none-some l e = cc

read-by : (m w : Memory) (a : Access) (addr n : ℕ) → addr < 2 ^ 64 → n ≤ 8 → Extends m w
    → ((l : Lack) → first_lack m a addr n ≡ Some l → page_at w l.page ≡ page_at m l.page)
    → (b c : Bool) → lacks m a (addr / 4096) ≡ b → lacks m a ((addr + n - 1) % 2 ^ 64 / 4096) ≡ c → Read m w a addr n
read-by m w a addr n h few e known true c p q =
    let first = first-lacks m a addr n p in
    let same = known (record { page = addr / 4096; access = a }) first in
    record {
      lack = first-lacks w a addr n (lacks-same m w a (addr / 4096) true same p) ∙ sym first;
      number = λ none. absurd (none-some _ (sym first ∙ none));
    }
read-by m w a addr n h few e known false true p q =
    let last = last-lacks m a addr n p q in
    let here = same-page m w a (addr / 4096) e p in
    let there = known (record { page = (addr + n - 1) % 2 ^ 64 / 4096; access = a }) last in
    record {
      lack = last-lacks w a addr n (lacks-same m w a (addr / 4096) false here p) (lacks-same m w a ((addr + n - 1) % 2 ^ 64 / 4096) true there q) ∙ sym last;
      number = λ none. absurd (none-some _ (sym last ∙ none));
    }
read-by m w a addr n h few e known false false p q =
    let here = same-page m w a (addr / 4096) e p in
    let there = same-page m w a ((addr + n - 1) % 2 ^ 64 / 4096) e q in
    record {
      lack = none-lacks w a addr n (lacks-same m w a (addr / 4096) false here p) (lacks-same m w a ((addr + n - 1) % 2 ^ 64 / 4096) false there q) ∙ sym (none-lacks m a addr n p q);
      number = λ none. number-same m w (addr / 4096) ((addr + n - 1) % 2 ^ 64 / 4096) addr n here there h (within addr n h few);
    }

-- an access to some pages is one to all of them
pub read-same : (m w : Memory) (a : Access) (addr n : ℕ) → addr < 2 ^ 64 → n ≤ 8 → Extends m w
    → ((l : Lack) → first_lack m a addr n ≡ Some l → page_at w l.page ≡ page_at m l.page) → Read m w a addr n
read-same m w a addr n h few e known = read-by m w a addr n h few e known _ _ refl refl

absent-differs : (m : Memory) (a : Access) (p q : ℕ) → page_at m p ≡ None → lacks m a q ≡ false → p ≢ q
absent-differs m a p q none has = λ e. let t = there m a q has in none-some-page t.0 (sym t.1 ∙ sym (ap (page_at m) e) ∙ none)
  where
    none-some-page : (g : Page) → ◌≡◌ {A = Option Page} (Some g) None → ⊥
    none-some-page g e = cc

-- where an access lacks nothing, its pages are there
pub lacks-nothing : (m : Memory) (a : Access) (addr n : ℕ) → first_lack m a addr n ≡ None → (lacks m a (addr / 4096) ≡ false) × (lacks m a ((addr + n - 1) % 2 ^ 64 / 4096) ≡ false)
lacks-nothing m a addr n h = by-tests (lacks m a (addr / 4096)) (lacks m a ((addr + n - 1) % 2 ^ 64 / 4096)) refl refl
  where
    by-tests : (b c : Bool) → lacks m a (addr / 4096) ≡ b → lacks m a ((addr + n - 1) % 2 ^ 64 / 4096) ≡ c → (b ≡ false) × (c ≡ false)
    by-tests true c p q = absurd (none-some _ (sym (first-lacks m a addr n p) ∙ h))
    by-tests false true p q = absurd (none-some _ (sym (last-lacks m a addr n p q) ∙ h))
    by-tests false false p q = (refl, refl)

pub put-left : (m w : Memory) (a : Access) (addr n v p : ℕ) → addr < 2 ^ 64 → n ≤ 8 → first_lack m a addr n ≡ None → page_at m p ≡ None
    → page_at (put_number w addr n v) p ≡ page_at w p
put-left m w a addr n v p h few none absent =
    let l = lacks-nothing m a addr n none in
    put-others w p (addr / 4096) ((addr + n - 1) % 2 ^ 64 / 4096) addr n v (absent-differs m a p _ absent l.0) (absent-differs m a p _ absent l.1) h (within addr n h few)
