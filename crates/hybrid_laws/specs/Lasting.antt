-- What holds of each state of a journal beside coherence: there is a worker, and until its request has ended the Interrupt of a marked call is in a ring or was fetched.
use Rattle.hybrid_model.specs.Coherence.{interrupts_of}
use Rattle.hybrid_model.specs.Workers.{is_ended_or_replied}
use Rattle.hybrid_model.specs.Pairs.{Pair, side_of}
use Rattle.hybrid_model.specs.Sides.{Caller, Side, service_of, state_of}
use Rattle.hybrid_model.specs.Tallies.{as_number, sum_rings}
use Rattle.mck_word.specs.Maps.{at}
use Rattle.std.specs.Prelude.{Some, false, true, ℕ, ◌+◌, ◌≡◌, ◌≤◌}

-- the Interrupt of request q is in a ring, or was fetched, or the request has ended
abbrev pub IsTold : Side → ℕ → Type 0
IsTold s q = is_ended_or_replied (state_of s.book q) ≡ false → 1 ≤ sum_rings (interrupts_of q) s.to_linux + as_number (service_of s.linux.services q).interrupted

abbrev pub MarksTold : Side → Type 0
MarksTold s = (t : ℕ) (c : Caller) → at s.lwk.callers t ≡ Some c → c.marked ≡ true → IsTold s c.request

pub record Lasting (pair : Pair) : Type 0 where
  pub workers : 1 ≤ pair.workers
  pub told : (p : ℕ) → MarksTold (side_of pair p)
