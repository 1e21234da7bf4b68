use Rattle.job_model.specs.Images.{IsImage}
use Rattle.job_model.specs.declared.image.Image.{Image}
use Rattle.mck_report.proofs.Frames.{all_first, all_rest, first_shorter}
use Rattle.mck_report.proofs.Lines.{parts_front}
use Rattle.mck_report.proofs.check_text.add_guests.Goals as goal
use Rattle.mck_report.specs.Checks.{frames_needed, guest_parts, guests_parts}
use Rattle.kernel_model.specs.Layout.{needed_frames}
use Rattle.run_model.specs.Texts.{text_of}
use Rattle.std.proofs.Common.{List, ap, arith, subst, ◌++◌, ◌+◌, ◌∙◌, ◌≡◌, sym}

pub needed_frames-needed-requires : goal.needed_frames-needed-requires
needed_frames-needed-requires c = all_first IsImage c.loop-image.rest.now c.in-Some.more.now c.in-Some.image.now c.in-Some.ensures.cases.0 c.loop-image.invariant.kept

pub add_guest-requires : goal.add_guest-requires
add_guest-requires c = all_first IsImage c.loop-image.rest.now c.in-Some.more.now c.in-Some.image.now c.in-Some.ensures.cases.0 c.loop-image.invariant.kept

pub loop-image-preserved : goal.loop-image-preserved
loop-image-preserved c =
    let split = c.in-Some.ensures.cases.0 in
    let first : frames_needed c.loop-image.rest.now ≡ needed_frames c.in-Some.image.now + frames_needed c.in-Some.more.now = ap frames_needed split in
    let shorter = first_shorter c.loop-image.rest.now c.in-Some.more.now c.in-Some.image.now split in
    record {
      text = parts_front (guest_parts c.loop-image.number c.in-Some.image.now) (guests_parts (c.loop-image.number + 1) c.in-Some.more.now)
          c.loop-image.text c.add_guest.new.text c.in_ok-add_guest.ensures
          ∙ (ap (λ (rest : List Image). c.loop-image.text ++ text_of (guests_parts c.loop-image.number rest)) (sym split) ∙ c.loop-image.invariant.text);
      needed = omega (arith, c.loop-image.invariant.needed, c.needed_frames-needed.ensures.value, first);
      number = omega (arith, c.loop-image.invariant.number, shorter);
      bound = omega (arith, c.loop-image.invariant.bound, c.needed_frames-needed.ensures.bound, shorter);
      kept = all_rest IsImage c.loop-image.rest.now c.in-Some.more.now c.in-Some.image.now split c.loop-image.invariant.kept;
    }
