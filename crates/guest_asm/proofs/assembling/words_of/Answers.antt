use Rattle.std.proofs.Common.{[], sym, arith}
use Rattle.guest_asm.proofs.WordLists.{words_more, words_broken, words_done, next_mapped, none_mapped}
use Rattle.guest_asm.proofs.assembling.words_of.Goals as goal

pub returns-in_default : goal.returns-in_default
returns-in_default c =
    words_broken _ _ _ _ _ _ _ _ (next_mapped (λ x. x.now) c.args.lines.now c.loop-text.text-index (record { ref_ptr = (0, 0); now = [] }) c.loop-text-test.true) (sym c.in_default.ensures) c.loop-text.invariant.value

pub loop-text-preserved : goal.loop-text-preserved
loop-text-preserved c =
    record {
      value = words_more _ _ _ _ _ _ _ _ _ _ _ (next_mapped (λ x. x.now) c.args.lines.now c.loop-text.text-index (record { ref_ptr = (0, 0); now = [] }) c.loop-text-test.true) c.words_in-place.ensures.value c.in_ok-add_word.ensures (sym c.in-Some.ensures) c.loop-text.invariant.value;
      line = omega arith;
      place = omega (arith, c.words_in-place.ensures.most);
    }

pub returns : goal.returns
returns c = words_done _ _ _ _ _ _ (none_mapped (λ x. x.now) c.args.lines.now c.loop-text.text-index c.loop-text-test.false) c.loop-text.invariant.value
