use Rattle.one_calls.specs.SignalWords.{writable}
use Rattle.std.proofs.Common.{ap, ◌∙◌}
use Rattle.one_calls.proofs.actions.store_action.Goals as goal

pub store_at-requires : goal.store_at-requires
store_at-requires c = ap (writable c.args.memory.now.map c.args.old) c.put_action.auto.into ∙ c.requires
