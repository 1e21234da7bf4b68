use Rattle.file_summary.proofs.Ordered.{all-rows, one-at}
use Rattle.file_summary.proofs.Places.{drop-all}
use Rattle.file_summary.proofs.path_rows.paths.Goals as goal
use Rattle.file_summary.specs.Rows.{rows_of, with_node}
use Rattle.mck_word.specs.Maps.{Map, count, entries, keys}
use Rattle.file_model.specs.Files.{Inode}
use Rattle.std.proofs.Common.{ap, arith, sym, ◌∙◌}
use Rattle.std.proofs.lemmas.List.{length-map}
use Rattle.std.specs.FinMap as finmap
use Rattle.std.specs.Prelude.{drop, length, slice_get, ℕ, ◌+◌, ◌-◌, ◌≡◌}

counted : (m : Map Inode) → length (keys m) ≡ count m
counted m = length-map (entries m) (λ (e : ℕ × Inode). e.0) ∙ sym (finmap.len-entries m)

pub nodes-init : goal.nodes-init
nodes-init g c =
    let files = g.F.FileStore.files c.args.files.now in
    let many = counted files.nodes in
    let is = c.node_count-left.ensures in
    let none = drop-all (keys files.nodes) c.node_count-left.result (omega arith) in
    record { within = omega arith; rows = c.new-rows.ensures.items ∙ sym (ap (rows_of files) none) }

pub nodes-preserved : goal.nodes-preserved
nodes-preserved g c =
    let files = g.F.FileStore.files c.args.files.now in
    let l = c.nodes-test.true in
    let e : c.nodes.left ≡ c.nodes.left - 1 + 1 = omega arith in
    record {
      within = (let h = c.nodes.invariant.within in omega arith);
      rows = c.in_ok-add_node.ensures
          ∙ ap (with_node files (slice_get (keys files.nodes) (c.nodes.left - 1))) (c.nodes.invariant.rows ∙ ap (λ i. rows_of files (drop i (keys files.nodes))) e)
          ∙ sym (one-at files (keys files.nodes) (c.nodes.left - 1));
    }

pub returns : goal.returns
returns g c =
    let files = g.F.FileStore.files c.args.files.now in
    let z : c.nodes.left ≡ 0 = (let h = c.nodes-test.false in omega arith) in
    c.from_vec.ensures ∙ c.nodes.invariant.rows ∙ ap (λ i. rows_of files (drop i (keys files.nodes))) z ∙ all-rows files
