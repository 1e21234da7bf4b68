use Rattle.hybrid_model.specs.Spaces.{copied_pages}
use Rattle.isa_model.specs.Memory.{Memory}
use Rattle.lwk_boot.specs.Guests.{HasSegments, from_page}
use Rattle.lwk_boot.specs.Loads.{NoneFrom}
use Rattle.lwk_boot.specs.Order.{AreBefore, left, one_each, pages_each}
use Rattle.lwk_boot.specs.Rooms.{HasRoom}
use Rattle.lwk_space.specs.Frames.{space}
use Rattle.mck_word.specs.Maps.{entries}
use Rattle.std.specs.Prelude.{length, ◌+◌, ◌≡◌, ◌≤◌}
use Rattle.lwk_boot.proofs.load.load_segments.Given as goal

-- the segments from the page on are left
abbrev pub invariant-loop-k : goal.invariant-loop-k
invariant-loop-k g l = record {
  same : l.segments ≡ l.image.segments;
  low : l.from ≤ 0x3000000;
  before : AreBefore l.image.segments l.from;
  copied : (m : Memory) → HasSegments l.image.segments m → copied_pages (entries m) (space (g.T.PageTable.rows l.fn.guest.table) l.fn.mem l.fn.pool) ≡ copied_pages (entries (from_page m l.from)) (space (g.T.PageTable.rows l.guest.table) l.mem l.pool);
  behind : NoneFrom (g.T.PageTable.rows l.guest.table) l.from;
  room : HasRoom (g.T.PageTable.has_room l.guest.table) l.image.segments;
  spare : left one_each l.from l.image.segments + 3 ≤ l.guest.areas.spare;
  enough : left pages_each l.from l.image.segments + 17 ≤ length l.pool.free;
  free : length l.pool.free + left pages_each 0 l.image.segments ≡ length l.fn.pool.free + left pages_each l.from l.image.segments;
  brk : l.guest.areas.program_break ≡ l.fn.guest.areas.program_break;
  pool : l.pool.frames ≡ l.fn.pool.frames;
  mem : length l.mem ≡ length l.fn.mem;
}

abbrev pub decreases-loop-k : goal.decreases-loop-k
decreases-loop-k g l = left one_each l.from l.image.segments
