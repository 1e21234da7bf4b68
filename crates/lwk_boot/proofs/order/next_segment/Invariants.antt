use Rattle.lwk_boot.specs.Guests.{first_page, segment_at}
use Rattle.std.specs.Prelude.{MatchOption, ℕ, ◌^◌, ◌-◌, ◌<◌, ◌≡◌, ◌≤◌}
use Rattle.lwk_boot.proofs.order.next_segment.Given as goal

-- the lowest of the first k
abbrev pub invariant-loop-k : goal.invariant-loop-k
invariant-loop-k l = record {
  found : MatchOption l.next (l.least ≡ 2 ^ 64 - 1) (λ n. (n < l.k) × (l.page ≤ first_page (segment_at l.segments n)) × (first_page (segment_at l.segments n) ≡ l.least));
  least : (j : ℕ) → j < l.k → l.page ≤ first_page (segment_at l.segments j) → l.least ≤ first_page (segment_at l.segments j);
}
