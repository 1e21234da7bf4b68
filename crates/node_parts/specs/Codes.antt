-- Courses and partitions are plain data: a code tells them apart.
use Rattle.clear_rounds.specs.contracts.Phase as phase
use Rattle.file_model.specs.contracts.descriptions.Description as description
use Rattle.hybrid_model.specs.contracts.events.Event as event
use Rattle.ikc_ring.specs.contracts.CallRequest as call
use Rattle.ikc_ring.specs.contracts.Msg as message
use Rattle.job_model.specs.contracts.image.Image as image
use Rattle.job_model.specs.contracts.job.Job as job
use Rattle.kernel_model.specs.contracts.Action as action
use Rattle.kernel_model.specs.contracts.Does as does
use Rattle.kernel_model.specs.contracts.Life as life
use Rattle.kernel_model.specs.contracts.ranges.Range as range
use Rattle.mck_flags.specs.contracts.rights.Rights as rights
use Rattle.mck_word.specs.Maps.{Map}
use Rattle.mck_word.specs.contracts.Access as access
use Rattle.mck_word.specs.contracts.Frame as frame
use Rattle.mck_word.specs.contracts.PageRange as page_range
use Rattle.mck_word.specs.contracts.Regs as regs
use Rattle.node_parts.specs.Courses.{Course}
use Rattle.node_parts.specs.Partitions.{Booted, Partitions}
use Rattle.page_pins.specs.contracts.Pin as pin
use Rattle.request_book.specs.contracts.ReqState as request_state
use Rattle.std.specs.Coded.{Coded, codes, coded_ℕ}
use Rattle.std.specs.FinMap as finmap
use Rattle.std.specs.Prelude.{Option}
use Rattle.system_calls.specs.contracts.file_calls.FileCall as file_call

abbrev pub coded-map : {X : Type 0} → Coded X → Coded (Map X)
coded-map x = finmap.code coded_ℕ x

pub coded-course : Coded Course
coded-course = hlevel (
  codes,
  coded-map,
  event.the_row.coded,
  call.the_row.coded,
  file_call.the_row.coded,
  message.the_row.coded,
  description.the_row.coded,
  action.the_row.coded,
  does.the_row.coded,
  life.the_row.coded,
  range.the_row.coded,
  rights.the_row.coded,
  access.the_row.coded,
  frame.the_row.coded,
  page_range.the_row.coded,
  regs.the_row.coded,
  pin.the_row.coded,
  request_state.the_row.coded,
  phase.the_row.coded,
)

pub coded-booted : Coded Booted
coded-booted = hlevel (codes, coded-map, job.the_row.coded, image.the_row.coded)

pub coded-instances : Coded (Map (Option Booted))
coded-instances = hlevel (codes, coded-map, coded-booted)

pub coded-partitions : Coded Partitions
coded-partitions = hlevel (codes, coded-map, coded-booted)
