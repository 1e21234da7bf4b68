use Rattle.mck_word.specs.Maps.{keys}
use Rattle.mck_word.specs.declared.Tid.{Tid}
use Rattle.pair_core.specs.Shown.{pair_of}
use Rattle.pair_node.proofs.pair.Pair.offer_on_core.Goals as goal
use Rattle.pair_offers.proofs.Above.{all-above}
use Rattle.pair_offers.proofs.Between.{all-up}
use Rattle.pair_offers.proofs.Offered.{core-none, core-some, core-up-to}
use Rattle.pair_offers.specs.Seeking.{first_by, is_up_to, thread_number}
use Rattle.run_model.specs.Walks.{core_event, is_above_last}
use Rattle.std.proofs.Common.{ap, sym, ◌∙◌}
use Rattle.std.specs.Prelude.{List, Option, Some, filter, option_map, ℕ, ◌≡◌}

pub returns-in-Some : goal.returns-in-Some
returns-in-Some g c =
    let pair = pair_of g.T.PageTable.rows g.F.FileStore.files c.args.self.now.parts in
    let last = option_map thread_number c.last-last.result in
    let above : c.first_between.result ≡ first_by (core_event pair c.args.core) (filter (is_above_last last) (keys pair.node.threads)) =
    c.first_between.ensures ∙ ap (λ (ns : List ℕ). first_by (core_event pair c.args.core) (filter (is_above_last last) ns)) (all-up (keys pair.node.threads)) in
    sym (core-some pair c.args.core last c.last-last.ensures c.in-Some.event (sym above ∙ c.in-Some.is))

pub returns-in_default-last : goal.returns-in_default-last
returns-in_default-last g c =
    let pair = pair_of g.T.PageTable.rows g.F.FileStore.files c.args.self.now.parts in
    let last = option_map thread_number c.last-last.result in
    let above : c.first_between.result ≡ first_by (core_event pair c.args.core) (filter (is_above_last last) (keys pair.node.threads)) =
    c.first_between.ensures ∙ ap (λ (ns : List ℕ). first_by (core_event pair c.args.core) (filter (is_above_last last) ns)) (all-up (keys pair.node.threads)) in
    let no_last = ap (λ (o : Option Tid). option_map thread_number o) c.in_default-last.is in
    sym (core-none pair c.args.core last c.last-last.ensures (sym above ∙ c.in_default.is) no_last)

pub returns : goal.returns
returns g c =
    let pair = pair_of g.T.PageTable.rows g.F.FileStore.files c.args.self.now.parts in
    let last = option_map thread_number c.last-last.result in
    let above : c.first_between.result ≡ first_by (core_event pair c.args.core) (filter (is_above_last last) (keys pair.node.threads)) =
    c.first_between.ensures ∙ ap (λ (ns : List ℕ). first_by (core_event pair c.args.core) (filter (is_above_last last) ns)) (all-up (keys pair.node.threads)) in
    let own_last = ap (λ (o : Option Tid). option_map thread_number o) c.in-Some-last.is in
    c.first_between-2.ensures
    ∙ ap (λ (ns : List ℕ). first_by (core_event pair c.args.core) ns) (all-above (filter (is_up_to (Some c.in-Some-last.end.0)) (keys pair.node.threads)))
    ∙ sym (core-up-to pair c.args.core last c.last-last.ensures (sym above ∙ c.in_default.is) c.in-Some-last.end.0 own_last)
