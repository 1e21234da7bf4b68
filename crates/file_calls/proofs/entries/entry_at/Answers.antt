use Rattle.std.proofs.Common.{◌≡◌, ◌+◌, ◌-◌, suc, sym, ap, ◌∙◌, arith}
use Rattle.std.specs.Prelude.{Some, option_map, unwrap_or}
use Rattle.file_model.specs.Acts.{directory_record, entry_record}
use Rattle.file_model.specs.Files.{Name, node_of}
use Rattle.file_model.specs.Paths.{child}
use Rattle.file_calls.proofs.EntryRecords.{all-names}
use Rattle.file_calls.proofs.entries.entry_at.Goals as goal

pub returns-in_default-clause-record : goal.returns-in_default-clause-record
returns-in_default-clause-record g c =
    let files = g.S.FileStore.files c.args.files.now in
    let place = c.args.place in
    let is : place ≡ suc (suc (place - 2)) = omega arith in
    sym (all-names files c.args.here place (place - 2) is ∙ ap (option_map (λ (name : Name). entry_record files c.args.here (place + 1) name)) (sym c.in_default.ensures.name))

pub returns-clause-record : goal.returns-clause-record
returns-clause-record g c =
    let files = g.S.FileStore.files c.args.files.now in
    let here = c.args.here in let place = c.args.place in let name = c.in-Some.name.now in
    let is : place ≡ suc (suc (place - 2)) = omega arith in
    let node : c.unwrap_or-node.result ≡ unwrap_or (child files here name) 0 = c.unwrap_or-node.ensures ∙ ap (λ o. unwrap_or o 0) c.child.ensures in
    let directory : c.is_directory.result ≡ (node_of files (unwrap_or (child files here name) 0)).directory = c.is_directory.ensures ∙ ap (λ n. (node_of files n).directory) node in
    (λ i. Some (directory_record (node i) (place + 1) (directory i) name))
    ∙ sym (all-names files here place (place - 2) is ∙ ap (option_map (λ (name : Name). entry_record files here (place + 1) name)) (sym c.in-Some.ensures.name))
