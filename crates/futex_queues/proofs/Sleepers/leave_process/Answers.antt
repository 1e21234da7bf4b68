use Rattle.std.proofs.Common.{◌≡◌, not, ap, subst, sym, ◌∙◌, rules}
use Rattle.std.specs.Prelude.{map}
use Rattle.std.proofs.lemmas.Fn.{filter_same}
use Rattle.mck_word.specs.Lists.{without}
use Rattle.futex_queues.specs.Sleep.{IsQueue, is_of, shown}
use Rattle.futex_queues.proofs.Queues.{IsQueue-filter, filter-map}
use Rattle.futex_queues.proofs.Sleepers.leave_process.Goals as goal

stays : (c : goal.After-retain) → map shown c.retain.new.self.items ≡ without (is_of c.args.pid.0) (map shown c.self.inside.rows.items)
stays c =
    ap (map shown) (filter_same _ (λ w. not (is_of c.args.pid.0 (shown w))) _ (λ x b f' k. search rules) _ _ c.retain.ensures.filtered)
    ∙ sym (filter-map shown (λ s. not (is_of c.args.pid.0 s)) c.self.inside.rows.items)

pub invariant_of-self : goal.invariant_of-self
invariant_of-self c = subst IsQueue (sym (stays c)) (IsQueue-filter (λ s. not (is_of c.args.pid.0 s)) _ c.self.invariant)

pub returns-clause-list : goal.returns-clause-list
returns-clause-list c = stays c ∙ ap (λ q. without (is_of c.args.pid.0) q.list) c.self.view_is
