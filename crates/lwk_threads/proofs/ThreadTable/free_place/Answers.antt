use Rattle.std.proofs.Common.{ap, arith, inl, inr, subst, sym, ℕ, ◌∙◌, ◌≡◌, ◌≤◌}
use Rattle.std.proofs.lemmas.Bool.{cases_lt}
use Rattle.mck_word.specs.Maps.{values}
use Rattle.lwk_threads.proofs.Counts.{passing}
use Rattle.lwk_threads.proofs.Tables.{lowest-free, lowest-taken}
use Rattle.lwk_threads.specs.Threads.{Spared, Threads, live_threads, lowest_free_place, stands_at}
use Rattle.lwk_threads.proofs.ThreadTable.free_place.Goals as goal

pub returns-clause-lowest : goal.returns-clause-lowest
returns-clause-lowest g c =
    let t : Threads g.row.S.Denot = record { next = c.self.inside.next_tid; rows = c.self.inside.rows.map } in
    c.place_among.ensures.lowest ∙ lowest-taken t c.self.inside.groups.map c.self.invariant c.args.pid.0 ∙ ap (λ (v : Spared g.row.S.Denot). lowest_free_place c.args.pid.0 v.threads) c.self.view_is

pub returns-clause-free : goal.returns-clause-free
returns-clause-free g c =
    let t : Threads g.row.S.Denot = record { next = c.self.inside.next_tid; rows = c.self.inside.rows.map } in
    let place = c.place_among.ensures.lowest ∙ lowest-taken t c.self.inside.groups.map c.self.invariant c.args.pid.0 in
    ap (λ n. passing (stands_at c.args.pid.0 n) (values c.args.self.now.threads.rows)) place
    ∙ sym (ap (λ (v : Spared g.row.S.Denot). passing (stands_at c.args.pid.0 (lowest_free_place c.args.pid.0 t)) (values v.threads.rows)) c.self.view_is)
    ∙ lowest-free t c.self.inside.groups.map c.self.invariant c.args.pid.0

pub returns-clause-known : goal.returns-clause-known
returns-clause-known g c = λ one. elim (cases_lt c.args.pid.0 c.args.self.now.threads.next) [
  | inl l ↦ l
  | inr up ↦
      let t : Threads g.row.S.Denot = record { next = c.self.inside.next_tid; rows = c.self.inside.rows.map } in
      let is : t ≡ c.args.self.now.threads = ap (λ (v : Spared g.row.S.Denot). v.threads) c.self.view_is in
      let born = subst (λ (t : Threads g.row.S.Denot). (p : ℕ) → t.next ≤ p → live_threads p t ≡ 0) is c.self.invariant.born in
      let none = born c.args.pid.0 up in
      absurd (omega (arith, one, none))
]
