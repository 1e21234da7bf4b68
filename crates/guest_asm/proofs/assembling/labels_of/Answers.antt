use Rattle.std.proofs.Common.{[], arith}
use Rattle.guest_asm.specs.Labels.{marks_in}
use Rattle.guest_asm.proofs.LabelMaps.{marks_more}
use Rattle.guest_asm.proofs.WordLists.{next_mapped}
use Rattle.guest_asm.proofs.assembling.labels_of.Goals as goal

pub loop-text-preserved : goal.loop-text-preserved
loop-text-preserved c =
    let added = c.in_ok-add_label.ensures in
    record {
      value = λ name. marks_more (marks_in c.loop-text.labels) (marks_in c.add_label.new.labels) _ _ _ _ _ _ name _ (next_mapped (λ x. x.now) c.args.lines.now c.loop-text.text-index (record { ref_ptr = (0, 0); now = [] }) c.loop-text-test.true) c.words_in-place.ensures.value (added name) (c.loop-text.invariant.value name);
      line = omega arith;
      place = omega (arith, c.words_in-place.ensures.most);
    }
