-- The boot, guest by guest: the machine before the first guest, and with a guest more.
use Rattle.job_boot.specs.Guests.{node_with, without_guests}
use Rattle.job_model.specs.declared.job.Job.{Job}
use Rattle.kernel_model.specs.Layout.{guest_memory}
use Rattle.kernel_model.specs.OneKernel.{Guest, OneKernel, guest_own}
use Rattle.mck_word.specs.Maps.{count, no_rows, put}
use Rattle.std.specs.Prelude.{◌-◌}

-- the machine with a guest more
abbrev pub one_with : OneKernel → Guest → OneKernel
one_with o g = record {
  node = node_with g o.node;
  own = put o.own g.number (guest_own g);
  free = o.free - count (guest_memory g.image g.arguments);
}

-- before the first guest
abbrev pub no_guests : Job → OneKernel
no_guests job = record {
  node = without_guests job;
  own = no_rows;
  free = job.frames;
}
