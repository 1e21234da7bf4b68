use Rattle.std.proofs.Common.{◌∙◌, ap, arith, sym}
use Rattle.linux_files.proofs.Lowest.{lowest-absent}
use Rattle.linux_files.proofs.Opening.{count-put, min-step, opened-store, row-here}
use Rattle.linux_files.specs.Counted.{opens_it}
use Rattle.linux_files.specs.declared.parts.Parts.{Parts}
use Rattle.file_model.specs.declared.descriptions.Target.TheVariants.{OfNode, ReadEnd, WriteEnd}
use Rattle.file_tree.specs.Counting.{count_in, raised}
use Rattle.mck_word.specs.Maps.{at, count, no_rows, put}
use Rattle.std.specs.Prelude.{◌+◌, ◌-◌, ◌^◌, ◌≤◌}
use Rattle.linux_files.proofs.parts.Parts.open_target.Goals as goal

pub returns-clause-used : goal.returns-clause-used
returns-clause-used c =
    ap count (row-here _ _ c.args.pid.0 c.add-fd.new.self no_rows c.put-2.ensures.row) ∙ c.add-fd.ensures.used ∙ ap (λ m. count m + 1) c.descriptors_of-descriptors.ensures

pub returns-clause-room : goal.returns-clause-room
returns-clause-room c =
    let rest = c.count_open.ensures.rest in
    let old = c.args.self.now in
    let few = ap count c.put.ensures.row in
    let more = count-put c.count_open.new.self.descriptions.map c.first_free-d.result c.new.result in
    let few-same = ap (λ (p : Parts). count p.descriptions.map) rest in
    let rows : old.descriptions.spare ≤ c.put.new.self.spare + 1 = (let a = c.put.ensures.takes in let same = ap (λ (p : Parts). p.descriptions.spare) rest in omega arith) in
    let tables : old.descriptors.spare ≤ c.put-2.new.self.spare + 1 = (let a = c.put-2.ensures.takes in let same = ap (λ (p : Parts). p.descriptors.spare) rest in omega arith) in
    let numbers : 2 ^ 32 - count old.descriptions.map ≤ 2 ^ 32 - count c.put.new.self.map + 1 = omega arith in
    let spare : old.named.spare ≤ c.raise.new.self.spare + 1 = (let a = c.raise.ensures.takes in let same = ap (λ (p : Parts). p.named.spare) rest in omega arith) in
    let left : old.named.left ≤ c.raise.new.self.left + 1 = (let a = c.raise.ensures.left in let same = ap (λ (p : Parts). p.named.left) rest in omega arith) in
    min-step _ _ _ _ (min-step _ _ _ _ (min-step _ _ _ _ rows tables) numbers)
    (min-step _ _ _ _ (min-step _ _ _ _ (min-step _ _ _ _ spare left) c.count_open.ensures.room_holds) (min-step _ _ _ _ c.count_open.ensures.room_readers c.count_open.ensures.room_writers))

pub returns-clause-store : goal.returns-clause-store
returns-clause-store c =
    let rest = c.count_open.ensures.rest in
    opened-store c.args.self.now _ c.requires.store c.first_free-d.result c.new.result c.args.pid.0 c.add-fd.result
    (ap (at c.args.self.now.descriptions.map) c.first_free-d.ensures.lowest ∙ lowest-absent c.args.self.now.descriptions.map) (let w = c.first_free-d.ensures.within in let r = c.requires.room in omega arith)
    (c.put.ensures.row ∙ ap (λ (p : Parts). put p.descriptions.map c.first_free-d.result c.new.result) rest) _ c.descriptors_of-descriptors.ensures
    (ap (at c.descriptors_of-descriptors.result) c.add-fd.ensures.descriptor ∙ c.add-fd.ensures.free)
    (c.put-2.ensures.row ∙ ap (λ (p : Parts). put p.descriptors.map c.args.pid.0 c.add-fd.new.self) rest ∙ ap (put c.args.self.now.descriptors.map c.args.pid.0) (c.add-fd.ensures.map ∙ ap (λ k. put c.descriptors_of-descriptors.result k c.first_free-d.result) (sym c.add-fd.ensures.descriptor)))
    (c.raise.ensures.counts ∙ ap (λ (p : Parts). raised c.first_free-d.result p.named.counts) rest)
    (λ n. c.count_open.ensures.holds n ∙ ap (λ y. count_in c.args.self.now.tree.holds n + opens_it (OfNode n) y) (sym c.new.ensures))
    (λ q. c.count_open.ensures.readers q ∙ ap (λ y. count_in c.args.self.now.readers.counts q + opens_it (ReadEnd q) y) (sym c.new.ensures))
    (λ q. c.count_open.ensures.writers q ∙ ap (λ y. count_in c.args.self.now.writers.counts q + opens_it (WriteEnd q) y) (sym c.new.ensures))
    (ap (λ (p : Parts). p.pipes.map) rest) (ap (λ (p : Parts). p.loose) rest) (ap (λ (p : Parts). p.unsettled) rest)
