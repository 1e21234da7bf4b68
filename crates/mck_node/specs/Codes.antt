-- Histories are plain data: a code tells them apart.
use Rattle.clear_rounds.specs.contracts.Phase as phase
use Rattle.file_model.specs.contracts.descriptions.Description as description
use Rattle.hybrid_model.specs.contracts.events.Event as event
use Rattle.ikc_ring.specs.contracts.CallRequest as call
use Rattle.ikc_ring.specs.contracts.Msg as message
use Rattle.kernel_model.specs.contracts.Action as action
use Rattle.kernel_model.specs.contracts.Does as does
use Rattle.kernel_model.specs.contracts.Life as life
use Rattle.kernel_model.specs.contracts.ranges.Range as range
use Rattle.mck_flags.specs.contracts.rights.Rights as rights
use Rattle.mck_node.specs.Histories.{History}
use Rattle.mck_word.specs.Maps.{Map}
use Rattle.mck_word.specs.contracts.Access as access
use Rattle.mck_word.specs.contracts.Frame as frame
use Rattle.mck_word.specs.contracts.PageRange as page_range
use Rattle.mck_word.specs.contracts.Regs as regs
use Rattle.page_pins.specs.contracts.Pin as pin
use Rattle.request_book.specs.contracts.ReqState as request_state
use Rattle.std.specs.Coded.{Coded, codes, coded_ℕ}
use Rattle.std.specs.FinMap as finmap
use Rattle.system_calls.specs.contracts.file_calls.FileCall as file_call

abbrev pub coded-map : {X : Type 0} → Coded X → Coded (Map X)
coded-map x = finmap.code coded_ℕ x

pub coded-history : Coded History
coded-history = hlevel (
  codes,
  coded-map,
  event.the_row.coded,
  call.the_row.coded,
  file_call.the_row.coded,
  message.the_row.coded,
  description.the_row.coded,
  action.the_row.coded,
  does.the_row.coded,
  life.the_row.coded,
  range.the_row.coded,
  rights.the_row.coded,
  access.the_row.coded,
  frame.the_row.coded,
  page_range.the_row.coded,
  regs.the_row.coded,
  pin.the_row.coded,
  request_state.the_row.coded,
  phase.the_row.coded,
)
