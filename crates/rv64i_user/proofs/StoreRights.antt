-- A store keeps the rights of every page.
use Rattle.std.proofs.Common.{◌≡◌, ℕ, zero, suc, ◌+◌, ◌/◌, ◌%◌, ◌^◌, ◌==◌, Bool, true, false, not, cond, Option, Some, None, option_map, Result, ap, ◌∙◌, refl}
use Rattle.mck_word.specs.declared.Access.{Access}
use Rattle.isa_model.specs.declared.stops.Lack.{Lack}
use Rattle.isa_model.specs.declared.stops.Stop.{Stop}
use Rattle.isa_model.specs.Memory.{Memory, Page, allows, page_at, lacks_in, lacks, page_with, put_number, stored, stored_unless}
use Rattle.rv64i_user.specs.Stopping.{store_outcome}
use Rattle.rv64i_user.proofs.Written.{if_number, page_number, page-put-number}

rights-by : (t : Bool) (g h : Page) → h.rights ≡ g.rights → (cond t h g).rights ≡ g.rights
rights-by true g h e = e
rights-by false g h e = refl

-- bytes written leave a page's rights
rights-kept : (p a n v : ℕ) (x : Page) → (page_number p a n v x).rights ≡ x.rights
unfolding page_number
rights-kept p a zero v x = refl
rights-kept p a (suc n) v x =
    rights-kept p ((a + 1) % 2 ^ 64) n (v / 256) (if_number (a / 4096) (page_with a (v % 256)) p x) ∙ rights-by (p == a / 4096) x (page_with a (v % 256) x) refl

lacks-with : (acc : Access) (p a n v : ℕ) (o : Option Page) → lacks_in acc (option_map (page_number p a n v) o) ≡ lacks_in acc o
lacks-with acc p a n v None = refl
lacks-with acc p a n v (Some g) = ap (λ r. not (allows acc r)) (rights-kept p a n v g)

lacks-number : (m : Memory) (a n v : ℕ) (acc : Access) (p : ℕ) → lacks (put_number m a n v) acc p ≡ lacks m acc p
lacks-number m a n v acc p = ap (lacks_in acc) (page-put-number m a n v p) ∙ lacks-with acc p a n v (page_at m p)

lacks-unless : (m w : Memory) (acc : Access) (p : ℕ) (l : Option Lack) → lacks w acc p ≡ lacks m acc p → lacks (stored_unless l m w).1 acc p ≡ lacks m acc p
lacks-unless m w acc p None h = h
lacks-unless m w acc p (Some l) h = refl

pub lacks-after : (m : Memory) (addr size v : ℕ) (acc : Access) (p : ℕ) → lacks (stored m addr size v).1 acc p ≡ lacks m acc p
lacks-after m addr size v acc p = lacks-unless m (put_number m addr size v) acc p _ (lacks-number m addr size v acc p)

pub lacks-stored : (m w : Memory) (r : Result (Unit {0}) Lack) (addr size v : ℕ) (acc : Access) (p : ℕ) → (r, w) ≡ stored m addr size v → lacks w acc p ≡ lacks m acc p
lacks-stored m w r addr size v acc p e = ap (λ x. lacks x.1 acc p) e ∙ lacks-after m addr size v acc p

pub lacks-stopped : (m w : Memory) (s : Stop) (addr size v : ℕ) (acc : Access) (p : ℕ) → (s, w) ≡ store_outcome (stored m addr size v) → lacks w acc p ≡ lacks m acc p
lacks-stopped m w s addr size v acc p e = ap (λ x. lacks x.1 acc p) e ∙ lacks-after m addr size v acc p
