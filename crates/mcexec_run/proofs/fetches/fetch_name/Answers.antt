use Rattle.mcexec_run.proofs.Steps.{appended}
use Rattle.mcexec_run.proofs.fetches.fetch_name.Goals as goal
use Rattle.outside.specs.Outside.{Appends}
use Rattle.std.proofs.Common.{List, Some, arith, refl, subst, ℕ, ◌≡◌}

pub returns-in-Ok-fetch-clause-value : goal.returns-in-Ok-fetch-clause-value
returns-in-Ok-fetch-clause-value g c held told =
    let same : c.in-Ok.text.now ≡ c.args.name.now = grind arith in
    appended (held c.args.name.now) c.new-bytes.result.items c.fetch.new.into.items c.new-bytes.ensures.items (subst (λ (n : List ℕ). Appends (held n) c.new-bytes.result.items c.fetch.new.into.items) same (c.in-Ok-fetch.ensures.ok held told))

pub returns-in-Ok-fetch-clause-given : goal.returns-in-Ok-fetch-clause-given
returns-in-Ok-fetch-clause-given g c = (Some c.fetch.new.into.items, refl)
