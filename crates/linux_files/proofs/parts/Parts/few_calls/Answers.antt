use Rattle.std.proofs.Common.{ap, sym, ◌∙◌}
use Rattle.file_model.specs.declared.descriptions.Description.{Description}
use Rattle.linux_files.proofs.Held.{few-by-rows}
use Rattle.linux_files.specs.Seen.{seen_parts}
use Rattle.std.specs.List.{list_all}
use Rattle.std.specs.Prelude.{nat_lt, ℕ, ◌-◌, ◌^◌}
use Rattle.linux_files.proofs.parts.Parts.few_calls.Goals as goal

pub returns-clause-few : goal.returns-clause-few
returns-clause-few c h = few-by-rows (seen_parts c.args.self.now) (sym (c.are_few.ensures ∙ ap (list_all (λ (e : ℕ × Description). nat_lt e.1.calls (2 ^ 32 - 1))) c.as_slice.ensures) ∙ h)
