use Rattle.frame_pool.specs.Pools.{Pool}
use Rattle.hybrid_model.specs.Sides.{Row}
use Rattle.hybrid_model.specs.Spaces.{Space, add_page, first_number}
use Rattle.kernel_model.specs.Spaces.{each_in}
use Rattle.lwk_space.specs.Frames.{frames_map}
use Rattle.mck_word.specs.Lists.{count_from}
use Rattle.lwk_space.specs.Rows.{FramesApart, FramesIn}
use Rattle.mck_word.specs.MapLaws.{at-none, at-put}
use Rattle.mck_word.specs.Maps.{Map, at, no_rows, put}
use Rattle.std.proofs.Common.{ap, arith, refl, subst, sym, ◌∙◌}
use Rattle.std.proofs.lemmas.Bool.Decides.{nat_tests}
use Rattle.std.specs.Prelude.{Bool, List, None, Option, Some, cond, false, length, true, ℕ, ◌<◌, ◌==◌, ◌≡◌}
use Rattle.rows_calls.proofs.lwk_calls_signal_tests.one_page.Goals as goal

only : (r w : Row) (b : Bool) → cond b (Some r) None ≡ Some w → (b ≡ true) × (r ≡ w)
only r w true e = (refl, cc)
only r w false e = absurd (grind (arith, e))

row_is : (r w : Row) (k : ℕ) → at (put no_rows 16 r) k ≡ Some w → (k ≡ 16) × (r ≡ w)
row_is r w k e =
    let here = only r w (k == 16) (sym (at-put no_rows 16 r k ∙ ap (cond (k == 16) (Some r)) (at-none k)) ∙ e) in
    (grind (arith, nat_tests, here.0), here.1)

inside_one : (rows : Map Row) (r : Row) (pages : List (List ℕ)) → rows ≡ put no_rows 16 r → r.0.0 < length pages → FramesIn rows pages
inside_one rows r pages e h = λ k w there. subst (λ (x : Row). x.0.0 < length pages) (row_is r w k (ap (λ m. at m k) (sym e) ∙ there)).1 h

apart_one : (rows : Map Row) (r : Row) → rows ≡ put no_rows 16 r → FramesApart rows
apart_one rows r e = λ j k v w a b same.
    (row_is r v j (ap (λ m. at m j) (sym e) ∙ a)).0 ∙ sym (row_is r w k (ap (λ m. at m k) (sym e) ∙ b)).0

row_of : ℕ → Row
row_of f = (record { 0 = f }, record { 0 = 3 })

rows_made : (rows : Map Row) (pages left : List (List ℕ)) (free rest : List ℕ) → record { table = rows; frames = frames_map left; free = rest } ≡ each_in (add_page (record { 0 = 3 })) (record { lo = 16; hi = 17 }) (record { table = no_rows; frames = frames_map pages; free = free })
    → rows ≡ put no_rows 16 (row_of (first_number free))
unfolding add_page row_of
rows_made rows pages left free rest e = ap (λ (sp : Space). sp.table) e

first_zero : (pool : Pool) → pool ≡ record { frames = 1; free = count_from 0 1 } → first_number pool.free ≡ 0
first_zero pool e = ap (λ (x : Pool). first_number x.free) e

pub returns-clause-inside : goal.returns-clause-inside
unfolding row_of
returns-clause-inside g c =
    let rows = g.T.PageTable.rows in
    let empty = ap rows c.reserve.ensures.same ∙ c.make_room.ensures.same ∙ ap (λ x. rows x.table) c.new-space.ensures ∙ c.requires.empty in
    let pool = c.in_ok-pool.pool in
    let made = rows_made (rows c.map.new.self.table) c.args.mem.now c.map.new.mem pool.free c.map.new.pool.free
    (c.map.ensures.after ∙ ap (λ m. each_in (add_page (record { 0 = 3 })) (record { lo = 16; hi = 17 }) (record { table = m; frames = frames_map c.args.mem.now; free = pool.free })) empty) in
    let first = first_zero pool c.in_ok-pool.ensures in
    let count = c.map.ensures.mem in
    let one = c.requires.frames in
    inside_one (rows c.map.new.self.table) (row_of (first_number pool.free)) c.map.new.mem made (omega (arith, first, count, one))

pub returns-clause-apart : goal.returns-clause-apart
returns-clause-apart g c =
    let rows = g.T.PageTable.rows in
    let empty = ap rows c.reserve.ensures.same ∙ c.make_room.ensures.same ∙ ap (λ x. rows x.table) c.new-space.ensures ∙ c.requires.empty in
    let pool = c.in_ok-pool.pool in
    let made = rows_made (rows c.map.new.self.table) c.args.mem.now c.map.new.mem pool.free c.map.new.pool.free
    (c.map.ensures.after ∙ ap (λ m. each_in (add_page (record { 0 = 3 })) (record { lo = 16; hi = 17 }) (record { table = m; frames = frames_map c.args.mem.now; free = pool.free })) empty) in
    apart_one (rows c.map.new.self.table) (row_of (first_number pool.free)) made
