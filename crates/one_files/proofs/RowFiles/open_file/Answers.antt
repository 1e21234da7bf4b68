use Rattle.std.proofs.Common.{◌+◌, ◌∙◌, ap, arith}
use Rattle.mck_word.specs.Maps.{count}
use Rattle.one_files.proofs.Counts.{count-put, count-row, one-less}
use Rattle.one_files.proofs.RowFiles.open_file.Goals as goal

pub returns-clause-used : goal.returns-clause-used
returns-clause-used c =
    count-row c.args.self.now.descriptors.map c.put-2.new.self.map c.args.pid.0 c.add-fd.new.self c.put-2.ensures.row ∙ c.add-fd.ensures.used
    ∙ ap (λ m. count m + 1) c.descriptors_of-descriptors.ensures

pub returns-clause-room : goal.returns-clause-room
returns-clause-room c =
    let most = count-put c.args.self.now.descriptions.map c.first_free-d.result c.args.file in
    let same = ap count c.put.ensures.row in
    one-less c.args.self.now.descriptions.spare c.args.self.now.descriptors.spare (count c.args.self.now.descriptions.map) c.put.new.self.spare c.put-2.new.self.spare (count c.put.new.self.map)
    c.put.ensures.takes c.put-2.ensures.takes (omega arith)
