use Rattle.hybrid_model.specs.Rings.{post}
use Rattle.ikc_ring.specs.declared.Msg.TheVariants.{Interrupt}
use Rattle.lwk_side.proofs.kernel.Lwk.mark.Goals as goal
use Rattle.lwk_side.specs.Shown.{shown_caller}
use Rattle.lwk_space.specs.Frames.{frames_map}
use Rattle.mck_word.specs.EachLaws.{each-put}
use Rattle.mck_word.specs.Maps.{each}
use Rattle.std.proofs.Common.{ap, ◌∙◌}
use Rattle.std.specs.Prelude.{None, option_map, true}

pub returns-clause-event : goal.returns-clause-event
returns-clause-event g c = λ r. λ j. record {
  side = record {
    lwk = record {
      table = g.T.PageTable.rows c.args.task.now.space.table;
      noted = c.args.task.now.noted;
      begun = c.args.task.now.begun;
      changing = option_map (λ x. x.0) c.args.task.now.changing;
      callers = (ap (λ t. each shown_caller t.map) c.set.ensures ∙ each-put shown_caller c.args.task.now.callers.map c.args.t.0 (record { request = c.args.caller.request; marked = true })) j;
    };
    linux = r.linux;
    book = c.args.channel.now.book.requests;
    round = c.args.channel.now.round;
    to_linux = (ap (λ l. l.messages) c.post.ensures ∙ (λ i. post (c.ring_of-ring.ensures i) (Interrupt c.args.caller.request (c.place-place.ensures r.files i)) c.args.channel.now.to_linux.messages)) j;
    to_lwk = c.args.channel.now.to_lwk.items;
  };
  node = c.moved_to_own.ensures.node r.files j;
  frames = frames_map c.args.self.now.frames;
  free = c.args.self.now.pool.free;
  turns = r.turns;
  last = c.args.self.now.last;
  cores = c.args.self.now.cores;
  workers = r.workers;
  rings = c.args.self.now.rings;
  born = None;
}
