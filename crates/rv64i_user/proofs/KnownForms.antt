-- The registers of what a word says are registers.
use Rattle.std.proofs.Common.{◌≡◌, ℕ, Option, Some, None, option_map, subst, arith}
use Rattle.std.specs.List.{find}
use Rattle.std.proofs.lemmas.Option.{same_Some}
use Rattle.isa_model.specs.Decode.{AreRegisters, decoded, fits, read}
use Rattle.isa_model.specs.Table.{table}
use Rattle.isa_model.specs.declared.names.Op.{Op}
use Rattle.isa_model.specs.declared.forms.Form.{Form}
use Rattle.isa_model.specs.declared.shapes.Row.{Row}
use Rattle.isa_model.specs.declared.shapes.Shape.{Shape}
use Rattle.isa_model.specs.declared.shapes.Shape.TheVariants as shape

registers-read : (s : Shape) (op : Op) (w : ℕ) → AreRegisters (read s op w)
registers-read shape.R op w = (omega arith, omega arith, omega arith)
registers-read shape.I op w = (omega arith, omega arith)
registers-read shape.Shift6 op w = (omega arith, omega arith)
registers-read shape.Shift5 op w = (omega arith, omega arith)
registers-read shape.S op w = (omega arith, omega arith)
registers-read shape.B op w = (omega arith, omega arith)
registers-read shape.U op w = omega arith
registers-read shape.J op w = omega arith
registers-read shape.Whole op w = (omega arith, omega arith)

by-row : (w : ℕ) (form : Form) (r : Option Row) → option_map (λ row. read row.shape row.op w) r ≡ Some form → AreRegisters form
by-row w form None e = absurd cc
by-row w form (Some row) e = subst AreRegisters (same_Some _ _ e) (registers-read row.shape row.op w)

pub registers-said : (w : ℕ) (form : Form) → decoded w ≡ Some form → AreRegisters form
unfolding decoded
registers-said w form e = by-row w form (find (λ row. fits row w) table) e
