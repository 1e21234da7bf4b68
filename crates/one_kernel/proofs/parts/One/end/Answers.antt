use Rattle.isa_model.specs.Memory.{Page}
use Rattle.key_rows.specs.Table.{Table}
use Rattle.kernel_model.specs.declared.steps.Step.TheVariants.{End}
use Rattle.kernel_tables.specs.Shown.{node_of}
use Rattle.mck_word.specs.EachLaws.{at-each, each-none}
use Rattle.mck_word.specs.Maps.{each}
use Rattle.one_files.specs.Seen.{seen}
use Rattle.one_kernel.proofs.After.{after-is, row-there}
use Rattle.one_kernel.proofs.Calling.{both}
use Rattle.one_kernel.proofs.Facts.{dying-own, frames-fit}
use Rattle.one_kernel.proofs.parts.One.end.Goals as goal
use Rattle.one_kernel.specs.Parts.{here_in, one_of, shown_call, shown_own}
use Rattle.one_kernel.specs.declared.calls.Call.{Call}
use Rattle.std.proofs.Common.{ap, arith, refl, ◌+◌, ◌∙◌}
use Rattle.std.specs.Prelude.{option_map}

pub row_mut-own-requires : goal.row_mut-own-requires
row_mut-own-requires c =
    let x = c.args.self.now in
    row-there x c.args.p.0 (dying-own (one_of x) c.requires.shown c.args.p.0 (both _ _ c.requires.may).0)

pub overflow_add-self : goal.overflow_add-self
unfolding one_of node_of
overflow_add-self c =
    let x = c.args.self.now in
    let w = c.row_mut-own.result.now in
    let fit = frames-fit (one_of x) c.requires.shown c.args.p.0 (shown_own w) (at-each shown_own x.own.map c.args.p.0 ∙ ap (option_map shown_own) c.row_mut-own.ensures.value) in
    let counted = c.count.ensures in
    omega (arith, fit, counted)

pub returns : goal.returns
returns c =
    let x = c.args.self.now in
    let p = c.args.p.0 in
    let w = c.row_mut-own.result.now in
    let memory = ap (λ (t : Table Page). t.map) c.new.ensures in
    let calls = ap (λ (t : Table Call). each shown_call t.map) c.new-2.ensures ∙ each-none shown_call in
    let node = ap (λ files. node_of c.process_ended.new.self files) c.close_all.ensures ∙ c.process_ended.ensures.node (seen x.files) in
    let free = ap (λ n. x.free + n) c.count.ensures in
    after-is x _ p w _ (End c.args.p) c.row_mut-own.ensures.value refl refl
    (λ i. record (here_in x w) { own = record { memory = memory i; calls = calls i }; node = node i; free = free i })
