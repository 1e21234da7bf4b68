use Rattle.lwk_threads.proofs.Tables.{IsTable-leave, place-within, some-live}
use Rattle.lwk_threads.proofs.ThreadTable.gone.Goals as goal

pub part-requires-clause-some : goal.part-requires-clause-some
part-requires-clause-some g c = some-live (record { next = c.self.inside.next_tid; rows = c.self.inside.rows.map }) c.self.inside.groups.map c.self.invariant c.args.t.0 c.remove-x.result c.remove-x.ensures.value

pub part-requires-clause-within : goal.part-requires-clause-within
part-requires-clause-within g c = place-within (record { next = c.self.inside.next_tid; rows = c.self.inside.rows.map }) c.self.inside.groups.map c.self.invariant c.args.t.0 c.remove-x.result c.remove-x.ensures.value

pub invariant_of-self : goal.invariant_of-self
invariant_of-self g c = rw (c.remove-x.ensures.rest, c.part.ensures.rows) (IsTable-leave (record { next = c.self.inside.next_tid; rows = c.self.inside.rows.map }) c.self.inside.groups.map c.self.invariant c.args.t.0 c.remove-x.result c.remove-x.ensures.value)
