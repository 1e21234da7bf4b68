use Rattle.lwk_space.specs.Rows.{FramesIn}
use Rattle.lwk_views.proofs.Reading.{frames_in}
use Rattle.std.proofs.Common.{rules}
use Rattle.rows_calls.proofs.lwk_calls_signal_tests.a_signal_is_delivered.Goals as goal

pub read-requires : goal.read-requires
read-requires g c =
    let inside : FramesIn c.expect-space.result.table.map c.one_page.new.mem = search rules in
    frames_in c.expect-space.result.table.map c.one_page.new.mem c.deliver.new.mem inside c.deliver.ensures.did.count

pub return_from_handler-requires : goal.return_from_handler-requires
return_from_handler-requires g c =
    let inside : FramesIn c.expect-space.result.table.map c.one_page.new.mem = search rules in
    record { frames = frames_in c.expect-space.result.table.map c.one_page.new.mem c.deliver.new.mem inside c.deliver.ensures.did.count }
