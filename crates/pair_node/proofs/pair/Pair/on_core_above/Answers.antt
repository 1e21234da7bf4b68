use Rattle.mck_word.specs.Maps.{keys}
use Rattle.mck_word.specs.declared.Tid.{Tid}
use Rattle.pair_core.specs.Shown.{pair_of}
use Rattle.pair_offers.proofs.Above.{after-last, after-none, next-taken}
use Rattle.pair_node.proofs.pair.Pair.on_core_above.Goals as goal
use Rattle.pair_offers.specs.Seeking.{is_on_core, thread_number, threads_on}
use Rattle.run_model.specs.Walks.{is_above_last}
use Rattle.std.proofs.Common.{ap, sym, ◌∙◌}
use Rattle.std.specs.Prelude.{Option, find, nat_le, option_map, ◌-◌, ◌^◌, ◌≡◌}

pub returns-in-Some : goal.returns-in-Some
returns-in-Some g c =
    let pair = pair_of g.T.PageTable.rows g.F.FileStore.files c.args.self.now.parts in
    let next : option_map thread_number c.next_on_core.result ≡ find (nat_le c.saturating_add.result) (threads_on pair c.args.core) = c.next_on_core.ensures.value ∙ next-taken (is_on_core pair c.args.core) c.saturating_add.result (keys pair.node.threads) in
    after-last thread_number c.in-Some.t.0 (◌-◌ (2 ^ 32) 1) c.saturating_add.result (threads_on pair c.args.core) c.next_on_core.result c.saturating_add.ensures next c.next_on_core.ensures.below
    ∙ ap (λ (o : Option Tid). find (is_above_last (option_map thread_number o)) (threads_on pair c.args.core)) (sym c.in-Some.is)

pub returns-in-None : goal.returns-in-None
returns-in-None g c =
    let pair = pair_of g.T.PageTable.rows g.F.FileStore.files c.args.self.now.parts in
    let next : option_map thread_number c.next_on_core-in-None.result ≡ find (nat_le 0) (threads_on pair c.args.core) = c.next_on_core-in-None.ensures.value ∙ next-taken (is_on_core pair c.args.core) 0 (keys pair.node.threads) in
    next
    ∙ after-none (threads_on pair c.args.core)
    ∙ ap (λ (o : Option Tid). find (is_above_last (option_map thread_number o)) (threads_on pair c.args.core)) (sym c.in-None.is)
