-- Memory as pages by number, each with its rights and its 4096 bytes.
-- Source: RISC-V Unprivileged ISA, loads and stores; one step at any alignment and the first lacking page are this project's own.
use Rattle.std.specs.Prelude.{ℕ, zero, suc, ◌≡◌, ◌+◌, ◌-◌, ◌*◌, ◌/◌, ◌%◌, ◌^◌, ◌⊎◌, Bool, true, false, not, List, [], ◌∷◌, Option, Some, None, Result, Ok, Err, slice_index, slice_set, if◌then◌else◌}
use Rattle.std.specs.List.{list_all}
use Rattle.mck_word.specs.Maps.{Map, at, change}
use Rattle.mck_word.specs.Lists.{count_from}
use Rattle.mck_word.specs.declared.Access.{Access}
use Rattle.mck_word.specs.declared.Access.TheVariants.{Read, Write, Exec}
use Rattle.mck_flags.specs.declared.rights.Rights.{Rights}
use Rattle.mck_flags.specs.Rights.{includes}
use Rattle.isa_model.specs.declared.stops.Lack.{Lack}

-- a page's rights and bytes
pub record Page : Type 0 where
  pub rights : Rights
  pub bytes : List ℕ

abbrev pub Memory : Type 0
Memory = Map Page

-- the bit of the rights that an access needs
abbrev pub mask_of : Access → ℕ
mask_of Read = 1
mask_of Write = 2
mask_of Exec = 4

abbrev pub allows : Access → Rights → Bool
allows a r = includes r (mask_of a)

abbrev pub page_at : Memory → ℕ → Option Page
page_at m p = at m p

abbrev pub allows_in : Access → Option Page → Bool
allows_in a None = false
allows_in a (Some page) = allows a page.rights

abbrev pub lacks_in : Access → Option Page → Bool
lacks_in a None = true
lacks_in a (Some page) = not (allows a page.rights)

-- the page is absent or lacks the right
abbrev pub lacks : Memory → Access → ℕ → Bool
lacks m a p = lacks_in a (page_at m p)

-- The first page that size bytes from an address on lack. The last byte wraps to page 0 past the last address.
unfoldable pub first_lack : Memory → Access → ℕ → ℕ → Option Lack
first_lack m a addr size =
    let last = (addr + size - 1) % 2 ^ 64 in
    if lacks m a (addr / 4096) then Some (record { page = addr / 4096; access = a })
    else (if lacks m a (last / 4096) then Some (record { page = last / 4096; access = a }) else None)

abbrev pub byte_in : Option Page → ℕ → ℕ
byte_in None off = 0
byte_in (Some page) off = slice_index page.bytes off

abbrev pub byte_at : Memory → ℕ → ℕ
byte_at m a = byte_in (page_at m (a / 4096)) (a % 4096)

-- the number that n bytes from an address on spell, the lowest first
unfoldable pub number_at : Memory → ℕ → ℕ → ℕ
number_at m a zero = 0
number_at m a (suc n) = byte_at m a + 256 * number_at m ((a + 1) % 2 ^ 64) n

abbrev pub page_with : ℕ → ℕ → Page → Page
page_with a b page = record page { bytes = slice_set page.bytes (a % 4096) b }

-- the memory with a byte changed, where the page of the address is present
abbrev pub put_byte : Memory → ℕ → ℕ → Memory
put_byte m a b = change m (a / 4096) (page_with a b)

-- the memory with the low n bytes of v at an address, the lowest first
unfoldable pub put_number : Memory → ℕ → ℕ → ℕ → Memory
put_number m a zero v = m
put_number m a (suc n) v = put_number (put_byte m a (v % 256)) ((a + 1) % 2 ^ 64) n (v / 256)

-- what a load or store takes as its size
abbrev pub IsSize : ℕ → Type 0
IsSize n = (n ≡ 1) ⊎ ((n ≡ 2) ⊎ ((n ≡ 4) ⊎ (n ≡ 8)))

abbrev pub read_unless : Option Lack → ℕ → Result ℕ Lack
read_unless None n = Ok n
read_unless (Some l) n = Err l

abbrev pub fetched : Memory → ℕ → Result ℕ Lack
fetched m pc = read_unless (first_lack m Exec pc 4) (number_at m pc 4)

abbrev pub loaded : Memory → ℕ → ℕ → Result ℕ Lack
loaded m addr size = read_unless (first_lack m Read addr size) (number_at m addr size)

abbrev pub stored_unless : Option Lack → Memory → Memory → Result (Unit {0}) Lack × Memory
stored_unless None old new = (Ok tt, new)
stored_unless (Some l) old new = (Err l, old)

abbrev pub stored : Memory → ℕ → ℕ → ℕ → Result (Unit {0}) Lack × Memory
stored m addr size v = stored_unless (first_lack m Write addr size) m (put_number m addr size v)

-- ---- ranges of bytes, which never wrap

abbrev pub may_access : Memory → Access → ℕ → ℕ → Bool
may_access m a address n = list_all (λ x. not (lacks m a (x / 4096))) (count_from address n)

abbrev pub read_bytes : Memory → ℕ → ℕ → List ℕ
read_bytes m address n = bytes_from address n
  where
    bytes_from : ℕ → ℕ → List ℕ
    bytes_from a zero = []
    bytes_from a (suc k) = byte_at m a ∷ bytes_from (a + 1) k

-- the memory with bytes stored from an address on, one after another; the part of an absent page is lost
unfoldable pub write_bytes : Memory → ℕ → List ℕ → Memory
write_bytes m a [] = m
write_bytes m a (b ∷ bs) = write_bytes (put_byte m a b) (a + 1) bs
