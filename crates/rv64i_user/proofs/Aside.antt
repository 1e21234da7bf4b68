-- A store within one page leaves the bytes of the others.
use Rattle.std.proofs.Common.{◌≡◌, ◌≢◌, ℕ, ◌+◌, ◌-◌, ◌/◌, ◌%◌, ◌^◌, ◌<◌, ◌≤◌, Option, Some, None, option_map, ap, ◌∙◌, refl, subst, arith}
use Rattle.isa_model.specs.declared.stops.Lack.{Lack}
use Rattle.isa_model.specs.declared.stops.Stop.{Stop}
use Rattle.isa_model.specs.Memory.{Memory, IsSize, page_at, first_lack, put_number, stored, stored_unless}
use Rattle.mck_word.specs.declared.Access.TheVariants.{Write}
use Rattle.rv64i_user.specs.Places.{Within, bytes_of}
use Rattle.rv64i_user.specs.Stopping.{store_outcome}
use Rattle.rv64i_user.proofs.Bytewise.{size-some}
use Rattle.rv64i_user.proofs.PagesOfAccess.{within}
use Rattle.rv64i_user.proofs.Written.{put-others}

by-lack : (l : Option Lack) (m w : Memory) (p : ℕ) → page_at w p ≡ page_at m p → page_at (stored_unless l m w).1 p ≡ page_at m p
by-lack None m w p e = e
by-lack (Some l) m w p e = refl

number-aside : (m : Memory) (a n v p : ℕ) → IsSize n → a < 2 ^ 64 → a % 4096 + n ≤ 4096 → p ≢ a / 4096 → page_at (put_number m a n v) p ≡ page_at m p
number-aside m a n v p size small inside other =
    let sizes = size-some n size in
    let last : (a + n - 1) % 2 ^ 64 / 4096 ≡ a / 4096 = omega arith in
    put-others m p (a / 4096) (a / 4096) a n v other other small (subst (λ q. Within (a / 4096) q a n) last (within a n small sizes.1))

pub store-aside : (m w : Memory) (s : Stop) (a n v p : ℕ) → (s, w) ≡ store_outcome (stored m a n v) → IsSize n → a < 2 ^ 64 → a % 4096 + n ≤ 4096 → p ≢ a / 4096 → bytes_of w p ≡ bytes_of m p
store-aside m w s a n v p e size small inside other =
    ap (λ (x : Stop × Memory). bytes_of x.1 p) e
    ∙ ap (option_map (λ page. page.bytes)) (by-lack (first_lack m Write a n) m (put_number m a n v) p (number-aside m a n v p size small inside other))
