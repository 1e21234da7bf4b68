use Rattle.frame_pool.specs.Pools.{Pool}
use Rattle.kernel_model.specs.Nodes.{Node}
use Rattle.kernel_model.specs.Pages.{zero_page}
use Rattle.kernel_tables.specs.Shown.{node_of}
use Rattle.lwk_space.specs.Frames.{frames_map}
use Rattle.pair_core.proofs.BootFolds.{zero-frames}
use Rattle.pair_core.proofs.booting.boot_lwk.Goals as goal
use Rattle.std.proofs.Common.{ap, length, sym, ◌∙◌}
use Rattle.std.proofs.lemmas.List.{length-replicate}

pub returns-clause-frames : goal.returns-clause-frames
returns-clause-frames c = ap frames_map c.in_ok-frames.ensures ∙ zero-frames c.args.job.now.frames

pub returns-clause-pages : goal.returns-clause-pages
unfolding node_of
returns-clause-pages c = ap length c.in_ok-frames.ensures ∙ length-replicate c.args.job.now.frames zero_page ∙ sym (ap (λ (n : Node). n.frame_count) c.in_ok-node.ensures)

pub returns-clause-pool : goal.returns-clause-pool
unfolding node_of
returns-clause-pool c = ap (λ (p : Pool). p.frames) c.in_ok-pool.ensures ∙ sym (ap (λ (n : Node). n.frame_count) c.in_ok-node.ensures)
