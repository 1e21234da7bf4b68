use Rattle.std.proofs.Common.{[], find, sym, ◌∙◌, ap, arith}
use Rattle.elf_load.specs.Profile.{shares_page}
use Rattle.elf_load.proofs.Reading.{apart_kept, apart_fails, apart_all}
use Rattle.elf_load.proofs.Images.{apart_pairs, none_apart}
use Rattle.elf_load.proofs.loading.check_apart.Goals as goal

pub returns-in-Some-find_shared-clause-value : goal.returns-in-Some-find_shared-clause-value
returns-in-Some-find_shared-clause-value c =
    sym c.loop-done.invariant.apart ∙ apart_fails _ _ _ _ _ (sym c.split_at.ensures.back ∙ c.in-Some.ensures.cases.0)
    (ap (find (λ u. shares_page u c.in-Some.segment.now)) (sym c.split_at.ensures.front) ∙ sym c.in-Some-find_shared.ensures)

pub loop-done-preserved : goal.loop-done-preserved
loop-done-preserved c =
    record {
      within = omega arith;
      apart = apart_kept c.args.placed.now c.loop-done.done c.in-Some.segment.now _ _ (sym c.split_at.ensures.back ∙ c.in-Some.ensures.cases.0)
          (ap (find (λ u. shares_page u c.in-Some.segment.now)) (sym c.split_at.ensures.front) ∙ sym c.in_default-find_shared.ensures) c.loop-done.invariant.apart;
    }

pub returns-clause-value : goal.returns-clause-value
returns-clause-value c = apart_all c.args.placed.now c.loop-done.done _ c.loop-done-test.false c.loop-done.invariant.apart

pub returns-clause-apart : goal.returns-clause-apart
returns-clause-apart c =
    apart_pairs [] c.args.placed.now c.args.placed.now (apart_all c.args.placed.now c.loop-done.done _ c.loop-done-test.false c.loop-done.invariant.apart) none_apart
