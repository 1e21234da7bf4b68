use Rattle.hybrid_model.specs.Sides.{Row}
use Rattle.hybrid_model.specs.Spaces.{copied_pages}
use Rattle.kernel_model.specs.Layout.{guest_memory, needed_frames}
use Rattle.lwk_boot.proofs.GuestPages.{guest-segments}
use Rattle.lwk_boot.proofs.LeftOver.{pages-left}
use Rattle.lwk_boot.proofs.Loading.{guest-has-top}
use Rattle.lwk_boot.specs.Order.{left, pages_each}
use Rattle.lwk_space.specs.Frames.{space}
use Rattle.mck_word.specs.Maps.{Map, entries}
use Rattle.std.proofs.Common.{◌≡◌, ◌+◌, ap, arith, sym, ◌∙◌}
use Rattle.lwk_boot.proofs.load.load_guest.Goals as goal

pub load_segments-requires-clause-enough : goal.load_segments-requires-clause-enough
load_segments-requires-clause-enough g c =
    let all : left pages_each 0 c.args.image.now.segments + 17 ≡ needed_frames c.args.image.now = ap (λ n. n + 17) (pages-left c.args.image.now.segments) in
    omega (arith, all, c.requires.enough)

pub load_top-requires-clause-enough : goal.load_top-requires-clause-enough
load_top-requires-clause-enough g c =
    let all : left pages_each 0 c.args.image.now.segments + 17 ≡ needed_frames c.args.image.now = ap (λ n. n + 17) (pages-left c.args.image.now.segments) in
    omega (arith, all, c.requires.enough, c.load_segments.ensures.free)

pub returns-clause-loaded : goal.returns-clause-loaded
returns-clause-loaded g c =
    let image = c.args.image.now in
    let arguments = c.args.arguments.now in
    let m = guest_memory image arguments in
    sym (ap (λ (rows : Map Row). copied_pages (entries m) (space rows c.args.mem.now c.args.pool.now)) (sym c.in_ok-guest.ensures.empty)
    ∙ (c.load_segments.ensures.left m (guest-segments image arguments c.requires.image c.requires.arguments)
    ∙ c.load_top.ensures.left m (guest-has-top image arguments c.requires.image c.requires.arguments)))

pub returns-clause-used : goal.returns-clause-used
returns-clause-used g c =
    let all : left pages_each 0 c.args.image.now.segments + 17 ≡ needed_frames c.args.image.now = ap (λ n. n + 17) (pages-left c.args.image.now.segments) in
    omega (arith, all, c.load_segments.ensures.free, c.load_top.ensures.free)
