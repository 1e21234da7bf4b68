-- Threads that sleep at the addresses of processes.
use Rattle.futex_queues.specs.declared.Waiter.{Waiter}
use Rattle.kernel_model.specs.Nodes.{Sleeper, most_threads}
use Rattle.mck_word.specs.Lists.{without}
use Rattle.mck_word.specs.Identifiers.{tid}
use Rattle.mck_word.specs.declared.Tid.{Tid}
use Rattle.std.specs.Coded.{Coded, code_by, coded_list, coded_ℕ, coded×}
use Rattle.std.specs.List.{list_any}
use Rattle.std.specs.Prelude.{Bool, List, [], cond, false, filter, length, map, refl, suc, take, zero, ℕ, ◌&&◌, ◌==◌, ◌∷◌, ◌≡◌, ◌≤◌}

-- the sleepers in the order in which they began to sleep, and for how many more there is room
pub record Queue : Type 0 where
  pub list : List Sleeper
  pub spare : ℕ

abbrev pub queue_code : Coded Queue
queue_code = code_by (List (ℕ × (ℕ × ℕ)) × ℕ) (coded× (coded_list (coded× coded_ℕ (coded× coded_ℕ coded_ℕ))) coded_ℕ)
    (λ q. (map (λ (s : Sleeper). (s.process, (s.address, s.thread))) q.list, q.spare))
    (λ p. record { list = map (λ (t : ℕ × (ℕ × ℕ)). record { process = t.0; address = t.1.0; thread = t.1.1 }) p.0; spare = p.1 })
    (λ q. λ i. record { list = there_and_back q.list i; spare = q.spare })
  where
    there_and_back : (xs : List Sleeper) → map (λ (t : ℕ × (ℕ × ℕ)). record { process = t.0; address = t.1.0; thread = t.1.1 }) (map (λ (s : Sleeper). (s.process, (s.address, s.thread))) xs) ≡ xs
    there_and_back [] = refl
    there_and_back (x ∷ xs) = λ i. x ∷ there_and_back xs i

-- a sleeper as the definitions have it
abbrev pub shown : Waiter → Sleeper
shown w = record { process = w.pid.0; address = w.addr; thread = w.tid.0 }

abbrev pub sleeps_at : ℕ → ℕ → Sleeper → Bool
sleeps_at process address s = s.process == process && s.address == address

-- those that sleep at the address of the process, in order
abbrev pub waiters : ℕ → ℕ → List Sleeper → List Sleeper
waiters process address list = filter (sleeps_at process address) list

-- whether the thread is one of the list
abbrev pub is_thread : ℕ → Sleeper → Bool
is_thread t s = s.thread == t

-- whether the thread is one of the process
abbrev pub is_of : ℕ → Sleeper → Bool
is_of p s = s.process == p

abbrev pub is_waiter : List Sleeper → Sleeper → Bool
is_waiter woken s = list_any (λ w. w.thread == s.thread) woken

-- what is left when the first n leave
abbrev pub left : ℕ → ℕ → ℕ → List Sleeper → List Sleeper
left process address n list = without (is_waiter (take n (waiters process address list))) list

abbrev pub thread_of : Sleeper → Tid
thread_of s = tid s.thread

-- each thread sleeps once
abbrev pub once_each : List Sleeper → Type 0
once_each [] = Unit {0}
once_each (s ∷ ss) = (list_any (is_thread s.thread) ss ≡ false) × once_each ss

-- what holds of each queue: a thread sleeps once, and at most sixteen sleep at an address of a process
pub record IsQueue (list : List Sleeper) : Type 0 where
  pub once : once_each list
  pub few : (process address : ℕ) → length (waiters process address list) ≤ most_threads

-- the list without the first n that pass the test
abbrev pub drop_first : {X : Type 0} → (X → Bool) → ℕ → List X → List X
drop_first p n [] = []
drop_first p zero (x ∷ xs) = x ∷ xs
drop_first p (suc n) (x ∷ xs) = cond (p x) (drop_first p n xs) (x ∷ drop_first p (suc n) xs)
