use Rattle.std.proofs.Common.{◌≡◌, All, map, sym, subst, arith}
use Rattle.std.proofs.lemmas.Grind.{common_steps}
use Rattle.job_model.specs.Images.{IsSegment}
use Rattle.elf_load.specs.Profile.{segment_from}
use Rattle.elf_load.proofs.Images.{segments_kept}
use Rattle.elf_load.proofs.loading.segments_from.Goals as goal

pub returns-clause-kept : goal.returns-clause-kept
returns-clause-kept c =
    let all : c.loop-s.segments ≡ map (segment_from c.args.bytes.now) c.args.placed.now = grind (arith, common_steps) in
    subst (All IsSegment) (sym all) (segments_kept c.args.bytes.now c.args.placed.now c.requires)
