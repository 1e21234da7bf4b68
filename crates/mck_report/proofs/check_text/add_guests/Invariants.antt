use Rattle.job_model.specs.Images.{IsImage}
use Rattle.mck_report.proofs.check_text.add_guests.Given as goal
use Rattle.mck_report.specs.Checks.{frames_needed, guests_parts}
use Rattle.run_model.specs.Texts.{text_of}
use Rattle.std.proofs.Common.{All, length, ◌*◌, ◌+◌, ◌++◌, ◌^◌, ◌≡◌, ◌≤◌}

abbrev pub invariant-loop-image : goal.invariant-loop-image
invariant-loop-image l = record {
  text : l.text ++ text_of (guests_parts l.number l.rest) ≡ l.fn.text ++ text_of (guests_parts 1 l.images);
  needed : l.needed + frames_needed l.rest ≡ frames_needed l.images;
  number : l.number + length l.rest ≤ 17;
  bound : l.needed + 2 ^ 33 * length l.rest ≤ 2 ^ 33 * 16;
  kept : All IsImage l.rest;
}

abbrev pub decreases-loop-image : goal.decreases-loop-image
decreases-loop-image l = length l.rest
