use Rattle.std.proofs.Common.{arith, length, refl, rules}
use Rattle.file_model.specs.Paths.{names_of}
use Rattle.file_tree.specs.Trees.{bytes_in}
use Rattle.linux_files.proofs.JobPaths.{add-last, bytes-made, clear-next, fewer-left, none-case, short-first}
use Rattle.linux_files.specs.Seen.{seen_parts}
use Rattle.std.specs.Prelude.{false, is_some, vec_len, ◌+◌, ◌<◌, ◌^◌, ◌≡◌, ◌≤◌}
use Rattle.linux_files.proofs.parts.Parts.+make_path.Goals as goal

pub returns-then-is_none-clause-files : goal.returns-then-is_none-clause-files
returns-then-is_none-clause-files t c =
    let gone : is_some c.next_name-2.result ≡ false = search rules in
    add-last (seen_parts c.args.self.now) c.args.here (names_of c.args.path.now) (names_of c.in-Some.more.now) c.in-Some.name.now c.args.bytes.items c.insert.new.self.map c.insert.new.self.next c.in-Some.ensures.names
    (none-case _ _ c.next_name-2.result gone c.next_name-2.ensures.names) c.insert.ensures.map c.insert.ensures.next

pub make_path-requires : goal.make_path-requires
make_path-requires t c =
    let files = seen_parts c.args.self.now in
    let names = names_of c.args.path.now in
    let rest = names_of c.in-Some.more.now in
    let are = c.in-Some.ensures.names in
    let here = c.next-next.ensures in
    let more = fewer-left names rest c.in-Some.name.now are in
    let short = short-first names rest c.in-Some.name.now are c.requires.short in
    let empty : bytes_in c.add.new.self.map ≤ bytes_in c.args.self.now.tree.map = bytes-made _ _ _ _ c.add.ensures.map refl in
    let clear = clear-next files c.args.here names rest c.in-Some.name.now c.add.new.self.map c.add.new.self.next are c.add.ensures.map c.add.ensures.next c.requires.clear c.next-next.result here c.requires.below in
    let room : length rest ≤ c.add.new.self.spare = (let a = c.requires.room in let b = c.add.ensures.spare in omega arith) in
    let fits : bytes_in c.add.new.self.map + vec_len c.args.bytes < 2 ^ 64 = (let a = c.requires.fits in omega arith) in
    let below : c.next-next.result < c.add.new.self.next = (let n = c.add.ensures.next in omega arith) in
    (search rules, (room, (short.1, (fits, (below, clear)))))
