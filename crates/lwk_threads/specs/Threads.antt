-- The threads of a node.
use Rattle.kernel_model.specs.CloneCalls.{child_regs}
use Rattle.kernel_model.specs.Nodes.{most_threads}
use Rattle.lwk_threads.specs.declared.member_rows.Peers.{Peers}
use Rattle.lwk_threads.specs.declared.Thread.{Thread}
use Rattle.mck_flags.specs.declared.signal_set.SigSet.{SigSet}
use Rattle.mck_word.specs.Identifiers.{tid}
use Rattle.mck_word.specs.Lists.{lowest_not_in}
use Rattle.mck_word.specs.Maps.{Map, at, change, cut, no_rows, put, values}
use Rattle.mck_word.specs.Words.{has_bit}
use Rattle.mck_word.specs.declared.Pid.{Pid}
use Rattle.mck_word.specs.declared.Regs.{Regs}
use Rattle.mck_word.specs.declared.Tid.{Tid}
use Rattle.std.specs.Coded.{Coded, code_by, coded_ℕ, coded×}
use Rattle.std.specs.FinMap as map
use Rattle.std.specs.Prelude.{Bool, List, None, Option, Some, cond, false, filter, is_some, length, map as map_list, max, refl, replicate, slice_index, slice_index_or, slice_set, true, ℕ, ◌&&◌, ◌+◌, ◌-◌, ◌==◌, ◌≡◌, ◌≤◌}

-- the next number, and the live threads by number
pub record Threads (S : Type 0) : Type 0 where
  pub next : ℕ
  pub rows : Map (Thread S)

-- the threads, and for how many more there is room
pub record Spared (S : Type 0) : Type 0 where
  pub threads : Threads S
  pub spare : ℕ

-- no signals
abbrev pub none_pending : SigSet
none_pending = record { 0 = 0 }

-- the address that is cleared when a clone ends, by the arguments of its call: child tid, where CHILD_CLEARTID asks for it
abbrev pub clone_clear : List ℕ → ℕ
clone_clear args = cond (has_bit 21 (slice_index args 0)) (slice_index args 4) 0

-- the registers of a clone: flags, stack and tls are the first, second and fourth argument
abbrev pub clone_regs : List ℕ → Regs → Regs
clone_regs args r = child_regs (slice_index args 0) (slice_index args 1) (slice_index args 3) r

module _ {S : Type 0} where
  abbrev pub threads_code : Coded (Thread S) → Coded (Threads S)
  threads_code c = code_by (ℕ × Map (Thread S)) (coded× coded_ℕ (map.code coded_ℕ c)) (λ t. (t.next, t.rows)) (λ p. record { next = p.0; rows = p.1 }) (λ _. refl)

  abbrev pub spared_code : Coded (Thread S) → Coded (Spared S)
  spared_code c = code_by (Threads S × ℕ) (coded× (threads_code c) coded_ℕ) (λ t. (t.threads, t.spare)) (λ p. record { threads = p.0; spare = p.1 }) (λ _. refl)

  -- ---- looking up

  -- 1 to 16 are the numbers of guests
  abbrev pub no_threads : Threads S
  no_threads = record { next = 17; rows = no_rows }

  abbrev pub lives : Threads S → ℕ → Bool
  lives t n = is_some (at t.rows n)

  abbrev pub is_of : ℕ → Thread S → Bool
  is_of p x = x.pid.0 == p

  -- the live threads of the process
  abbrev pub threads_of : ℕ → Threads S → List (Thread S)
  threads_of p t = filter (is_of p) (values t.rows)

  abbrev pub live_threads : ℕ → Threads S → ℕ
  live_threads p t = length (threads_of p t)

  -- how many live threads the process of a thread has
  abbrev pub peers_of : Option (Thread S) → Threads S → ℕ
  peers_of None t = 0
  peers_of (Some x) t = live_threads x.pid.0 t

  -- the lowest place that no live thread of the process has
  abbrev pub lowest_free_place : ℕ → Threads S → ℕ
  lowest_free_place p t = lowest_not_in (map_list (λ (x : Thread S). x.place) (threads_of p t))

  -- ---- changing

  abbrev pub with_thread : Thread S → Threads S → Threads S
  with_thread x t = record { next = max t.next (x.tid.0 + 1); rows = put t.rows x.tid.0 x }

  abbrev pub without_thread : ℕ → Threads S → Threads S
  without_thread n t = record t { rows = cut t.rows n }

  abbrev pub changed : ℕ → (Thread S → Thread S) → Threads S → Threads S
  changed n f t = record t { rows = change t.rows n f }

  -- the first thread of a process
  abbrev pub first_thread : Pid → Tid → Regs → SigSet → S → Thread S
  first_thread pid tid regs mask state = record { tid = tid; pid = pid; place = 0; regs = regs; mask = mask; pending = none_pending; clear = 0; back = false; state = state }

  -- a thread beside x, with the next number and the lowest free place
  abbrev pub cloned : List ℕ → S → Thread S → Threads S → Thread S
  cloned args state x t = record x {
    tid = tid t.next;
    place = lowest_free_place x.pid.0 t;
    regs = clone_regs args x.regs;
    pending = none_pending;
    clear = clone_clear args;
    back = false;
    state = state;
  }

  abbrev pub with_clone : List ℕ → S → Option (Thread S) → Threads S → Threads S
  with_clone args state None t = t
  with_clone args state (Some x) t = record { next = t.next + 1; rows = put t.rows t.next (cloned args state x t) }

-- ---- what is kept of each process's threads: how many there are, and which places they have

abbrev pub no_peers : Peers
no_peers = record { live = 0; taken = replicate 16 false }

abbrev pub peers_in : Option Peers → Peers
peers_in None = no_peers
peers_in (Some g) = g

abbrev pub with_peer : ℕ → Peers → Peers
with_peer place g = record { live = g.live + 1; taken = slice_set g.taken place true }

abbrev pub without_peer : ℕ → Peers → Peers
without_peer place g = record { live = g.live - 1; taken = slice_set g.taken place false }

abbrev pub joined : ℕ → ℕ → Map Peers → Map Peers
joined p place groups = put groups p (with_peer place (peers_in (at groups p)))

-- a process without threads has no row
abbrev pub kept_if : Bool → ℕ → Peers → Map Peers → Map Peers
kept_if true p g groups = cut groups p
kept_if false p g groups = put groups p g

abbrev pub parted : ℕ → ℕ → Map Peers → Map Peers
parted p place groups =
    let g = without_peer place (peers_in (at groups p)) in
    kept_if (g.live == 0) p g groups

abbrev pub one_if : Bool → ℕ
one_if true = 1
one_if false = 0

module _ {S : Type 0} where
  -- whether the thread has that place in the process
  abbrev pub stands_at : ℕ → ℕ → Thread S → Bool
  stands_at p place x = x.pid.0 == p && x.place == place

  -- what holds of each table: no number from the next on is that of a thread or of its process, a process has at most sixteen threads, at different places
  pub record IsTable (t : Threads S) (groups : Map Peers) : Type 0 where
    pub unused : (n : ℕ) → t.next ≤ n → at t.rows n ≡ None
    pub born : (p : ℕ) → t.next ≤ p → live_threads p t ≡ 0
    pub few : (p : ℕ) → live_threads p t ≤ most_threads
    pub wide : (p : ℕ) → length (peers_in (at groups p)).taken ≡ most_threads
    pub counted : (p : ℕ) → (peers_in (at groups p)).live ≡ live_threads p t
    pub placed : (p place : ℕ) → one_if (slice_index_or (peers_in (at groups p)).taken place false) ≡ length (filter (stands_at p place) (values t.rows))
