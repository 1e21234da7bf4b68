use Rattle.std.proofs.Common.{◌≤◌, ◌-◌, length}
use Rattle.file_tree.specs.Index.{tagged}
use Rattle.file_tree.specs.Tags.{place, tag_cmp}
use Rattle.file_tree.proofs.index.place_of.Given as goal

abbrev pub invariant-loop-low : goal.invariant-loop-low
invariant-loop-low l =
    let there = place tag_cmp (l.tag.directory, l.tag.name.now) (tagged l.nodes.map l.rows) in
    (l.low ≤ there) × (there ≤ l.high) × (l.high ≤ length l.rows)

abbrev pub decreases-loop-low : goal.decreases-loop-low
decreases-loop-low l = l.high - l.low
