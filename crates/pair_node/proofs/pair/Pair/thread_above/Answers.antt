use Rattle.mck_word.specs.Maps.{keys}
use Rattle.mck_word.specs.declared.Tid.{Tid}
use Rattle.pair_core.specs.Shown.{pair_of}
use Rattle.pair_offers.proofs.Above.{after-last, after-none, next-taken}
use Rattle.pair_node.proofs.pair.Pair.thread_above.Goals as goal
use Rattle.pair_offers.specs.Seeking.{is_thread_of, thread_number}
use Rattle.run_model.specs.Walks.{is_above_last, thread_numbers}
use Rattle.std.proofs.Common.{ap, sym, ◌∙◌}
use Rattle.std.specs.Prelude.{Option, find, nat_le, option_map, ◌-◌, ◌^◌, ◌≡◌}

pub returns-in-Some : goal.returns-in-Some
returns-in-Some g c =
    let pair = pair_of g.T.PageTable.rows g.F.FileStore.files c.args.self.now.parts in
    let next : option_map thread_number c.next_of_process.result ≡ find (nat_le c.saturating_add.result) (thread_numbers pair c.args.p.0) = c.next_of_process.ensures.value ∙ next-taken (is_thread_of pair c.args.p.0) c.saturating_add.result (keys pair.node.threads) in
    after-last thread_number c.in-Some.t.0 (◌-◌ (2 ^ 32) 1) c.saturating_add.result (thread_numbers pair c.args.p.0) c.next_of_process.result c.saturating_add.ensures next c.next_of_process.ensures.below
    ∙ ap (λ (o : Option Tid). find (is_above_last (option_map thread_number o)) (thread_numbers pair c.args.p.0)) (sym c.in-Some.is)

pub returns-in-None : goal.returns-in-None
returns-in-None g c =
    let pair = pair_of g.T.PageTable.rows g.F.FileStore.files c.args.self.now.parts in
    let next : option_map thread_number c.next_of_process-in-None.result ≡ find (nat_le 0) (thread_numbers pair c.args.p.0) = c.next_of_process-in-None.ensures.value ∙ next-taken (is_thread_of pair c.args.p.0) 0 (keys pair.node.threads) in
    next
    ∙ after-none (thread_numbers pair c.args.p.0)
    ∙ ap (λ (o : Option Tid). find (is_above_last (option_map thread_number o)) (thread_numbers pair c.args.p.0)) (sym c.in-None.is)
