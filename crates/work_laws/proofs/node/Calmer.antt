-- Nodes after most events: no thread more is Stopped, no line of the script more is unsent, and no instruction more is counted.
use Rattle.hybrid_laws.proofs.calls.Closed.{Closed}
use Rattle.hybrid_laws.proofs.node.Goes.{Goes, falls-goes, goes-gone, goes-moves, goes-process, goes-quiet, goes-same, goes-then, ignored-goes, wake-goes}
use Rattle.hybrid_laws.proofs.node.Sound.{same-instructions, stopped-less}
use Rattle.hybrid_laws.specs.Stopped.{stops}
use Rattle.kernel_model.specs.LocalCalls.{is_waiter, waiters, wake, wake_threads}
use Rattle.kernel_model.specs.Nodes.{Node, Process, Sleeper, Thread, answered, change_process, instructions_in_all, process_of}
use Rattle.kernel_model.specs.SignalSets.{without_signal}
use Rattle.kernel_model.specs.Signals.{drop_ignored, ignores}
use Rattle.mck_word.specs.Maps.{each, total}
use Rattle.std.proofs.Common.{ap, arith, refl, ◌∙◌}
use Rattle.std.specs.Prelude.{Bool, List, [], cond, false, filter, length, not, pos, take, true, ℕ, ◌==◌, ◌∷◌, ◌≡◌, ◌≤◌}

pub record Calmer (a b : Node) : Type 0 where
  pub stopped : total stops b.threads ≤ total stops a.threads
  pub unsent : length b.unsent ≤ length a.unsent
  pub instructions : instructions_in_all b ≡ instructions_in_all a

pub calmer-then : (a b c : Node) → Calmer a b → Calmer b c → Calmer a c
calmer-then a b c f g = record {
  stopped = (let x = f.stopped in let y = g.stopped in omega (arith, x, y));
  unsent = (let x = f.unsent in let y = g.unsent in omega (arith, x, y));
  instructions = g.instructions ∙ f.instructions;
}

-- ---- what calls, signals and deliveries of one thread leave
pub record Along (a b : Node) : Type 0 where
  pub goes : Goes a b
  pub unsent : b.unsent ≡ a.unsent

pub along-calmer : (a b : Node) → Along a b → Calmer a b
along-calmer a b g = record { stopped = stopped-less a b g.goes; unsent = (let u = ap length g.unsent in omega (arith, u)); instructions = same-instructions a b g.goes }

woken-unsent : (ss : List Sleeper) (a : Node) → (wake_threads ss a).unsent ≡ a.unsent
woken-unsent [] a = refl
woken-unsent (s ∷ ss) a = woken-unsent ss (answered s.thread (pos 0) a)

wake-unsent : (a : Node) (process address n : ℕ) → (wake process address n a).unsent ≡ a.unsent
wake-unsent a process address n =
    let woken = take n (waiters a process address) in
    woken-unsent woken (record a { sleepers = filter (λ s. not (is_waiter woken s)) a.sleepers })

ignored-unsent : (a : Node) (q signal : ℕ) → (drop_ignored q signal a).unsent ≡ a.unsent
ignored-unsent a q signal = go (ignores (process_of a q) signal)
  where
    without : Thread → Thread
    without y = cond (y.process == q) (record y { pending = without_signal signal y.pending }) y

    go : (b : Bool) → (cond b (record (change_process q (λ (x : Process). record x { pending = without_signal signal x.pending }) a) { threads = each without a.threads }) a).unsent ≡ a.unsent
    go true = refl
    go false = refl

pub along : (t : ℕ) → Closed t Along Along
along t = record {
  same = λ a. record { goes = goes-same a; unsent = refl };
  joined = λ a b c f g. record { goes = goes-then a b c f.goes g.goes; unsent = g.unsent ∙ f.unsent };
  lift = λ a b f. f;
  quiet = λ a u f h. record { goes = goes-quiet a u f h; unsent = refl };
  moves = λ a f h. record { goes = goes-moves a t f h; unsent = refl };
  process = λ a q f h. record { goes = goes-process a q f h; unsent = refl };
  gone = λ a. record { goes = goes-gone a t; unsent = refl };
  woken = λ a process address n. record { goes = wake-goes a process address n; unsent = wake-unsent a process address n };
  ignored = λ a q signal. record { goes = ignored-goes a q signal; unsent = ignored-unsent a q signal };
  falls = λ a address. record { goes = falls-goes t a address; unsent = refl };
}
