use Rattle.std.proofs.Common.{◌≡◌, ◌∙◌, AllPairs, Any, map, length, sym, ap, subst, arith, true, rules}
use Rattle.std.proofs.lemmas.List.{length-map}
use Rattle.elf_load.specs.Kept.{AreApart}
use Rattle.job_model.specs.Images.{SharesNoPage, RunsAt}
use Rattle.elf_load.specs.Profile.{segment_from, has_entry, image_of}
use Rattle.elf_load.proofs.Images.{apart_images, bytes_fit, entry_kept}
use Rattle.elf_load.proofs.loading.load.Goals as goal

pub returns-clause-image : goal.returns-clause-image
returns-clause-image c =
    let made : c.in_ok-segments.segments ≡ map (segment_from c.args.bytes.now) c.in_ok-placed.placed = c.in_ok-segments.ensures.value ∙ ap (map (segment_from c.args.bytes.now)) c.as_slice-4.ensures in
    let passed : has_entry c.in_ok-header.header.entry c.in_ok-placed.placed ≡ true = search rules in
    let entry = entry_kept c.args.bytes.now c.in_ok-header.header.entry c.in_ok-placed.placed passed in
    record {
      headers = c.in_ok-header.ensures.count;
      counted = omega (arith, ap length made, length-map c.in_ok-placed.placed (segment_from c.args.bytes.now), c.in_ok-placed.ensures.count);
      kept = c.in_ok-segments.ensures.kept;
      apart = subst (AllPairs SharesNoPage) (sym made) (apart_images c.args.bytes.now c.in_ok-placed.placed (subst AreApart c.as_slice.ensures c.in_ok-check_apart.ensures.apart));
      aligned = entry.0;
      entry = subst (Any (RunsAt c.in_ok-header.header.entry)) (sym made) entry.1;
    }

pub returns-clause-loaded : goal.returns-clause-loaded
unfolding image_of
returns-clause-loaded c =
    record {
      file = c.args.bytes.now;
      bytes = bytes_fit c.args.bytes.now c.type_inv.bytes;
      size = omega arith;
      loads = search rules;
    }
