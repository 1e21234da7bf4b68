use Rattle.lwk_space.specs.Rows.{FramesIn}
use Rattle.lwk_views.proofs.Reading.{frames_in}
use Rattle.std.proofs.Common.{rules, ◌∙◌}
use Rattle.rows_calls.proofs.lwk_calls_signal_tests.an_action_is_given.Goals as goal

pub sigaction-requires-clause-frames : goal.sigaction-requires-clause-frames
sigaction-requires-clause-frames g c =
    let inside : FramesIn c.expect-space.result.table.map c.one_page.new.mem = search rules in
    frames_in c.expect-space.result.table.map c.one_page.new.mem c.write.new.mem inside c.write.ensures.len

pub read-requires : goal.read-requires
read-requires g c =
    let inside : FramesIn c.expect-space.result.table.map c.one_page.new.mem = search rules in
    frames_in c.expect-space.result.table.map c.one_page.new.mem c.sigaction.new.mem inside (c.sigaction.ensures.did.count ∙ c.write.ensures.len)
