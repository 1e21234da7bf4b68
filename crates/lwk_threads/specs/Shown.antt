-- A thread as the definitions of the two kernels have it, where `does` says what each state is.
use Rattle.kernel_model.specs.Nodes.{Thread as NodeThread}
use Rattle.kernel_model.specs.declared.Does.{Does}
use Rattle.lwk_threads.specs.Threads.{Threads}
use Rattle.lwk_threads.specs.declared.Thread.{Thread}
use Rattle.mck_word.specs.Maps.{Map, each}

module _ {S : Type 0} (does : S → Does) where
  abbrev pub shown : Thread S → NodeThread
  shown x = record {
    process = x.pid.0;
    place = x.place;
    regs = x.regs;
    mask = x.mask.0;
    pending = x.pending.0;
    clear_address = x.clear;
    back = x.back;
    does = does x.state;
  }

  abbrev pub shown_threads : Threads S → Map NodeThread
  shown_threads t = each shown t.rows
