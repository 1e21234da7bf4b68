-- Each word has at most one instruction, and each instruction one word.
use Rattle.std.proofs.Common.{◌≡◌, ℕ, ◌^◌, ◌<◌, true, get_or, Option, Some, None, option_map, sym, ap, ◌∙◌, refl, subst}
use Rattle.std.proofs.lemmas.Option.{same_Some}
use Rattle.std.specs.List.{find}
use Rattle.isa_model.specs.Table.{row_of, all_ops, table}
use Rattle.isa_model.specs.Decode.{op_of, fits, read, fills, placed, decoded, is_code, word_of}
use Rattle.isa_model.specs.declared.names.Op.{Op}
use Rattle.isa_model.specs.declared.names.Op.TheVariants.{Lui}
use Rattle.isa_model.specs.declared.forms.Form.{Form}
use Rattle.isa_model.specs.declared.shapes.Row.{Row}
use Rattle.isa_model.specs.declared.shapes.Shape.{Shape}
use Rattle.isa_model.specs.declared.shapes.Shape.TheVariants as shape
use Rattle.rv_code.proofs.Finding.{found-at, found-is}
use Rattle.rv_code.proofs.Shapes.{good, holds, reads}
use Rattle.rv_code.proofs.Places.{place, at-place, place-in, op-row, good-row, table-apart}

op-read : (s : Shape) (p : Op) (w : ℕ) → op_of (read s p w) ≡ p
op-read shape.R p w = refl
op-read s p w = refl

-- what a word says in the row that it fits is an instruction, and the word is its word
pub found-code : (w : ℕ) (r : Row) → w < 2 ^ 32 → find (λ row. fits row w) table ≡ Some r
    → (is_code (read r.shape r.op w) ≡ true) × (word_of (read r.shape r.op w) ≡ w)
unfolding is_code
found-code w r small e =
    let f = found-is w all_ops r e in
    let o = f.0 in
    let is-row : r ≡ row_of o = f.1 in
    let name : op_of (read r.shape r.op w) ≡ o = op-read r.shape r.op w ∙ ap (λ x. x.op) is-row ∙ op-row o in
    let same : row_of (op_of (read r.shape r.op w)) ≡ r = ap row_of name ∙ sym is-row in
    let told = reads r w (subst (λ x. good x ≡ true) (sym is-row) (good-row o)) f.2 small in
    (ap (λ x. fills x (read r.shape r.op w)) same ∙ told.fill, ap (λ x. placed x (read r.shape r.op w)) same ∙ told.again)

-- the word of an instruction decodes to it
pub code-decodes : (form : Form) → is_code form ≡ true → decoded (word_of form) ≡ Some form
unfolding is_code decoded
code-decodes form h =
    let o = op_of form in
    let told = holds (row_of o) form (good-row o) h in
    let w = word_of form in
    let at = at-place o in
    let fit : fits (get_or table (place o) (row_of Lui)) w ≡ true = subst (λ x. fits x w ≡ true) (sym at) told.fit in
    let found : find (λ row. fits row w) table ≡ Some (row_of o) = found-at w table (place o) (row_of Lui) table-apart (place-in o) fit ∙ ap Some at in
    ap (option_map (λ row. read row.shape row.op w)) found
    ∙ ap (λ x. Some (read (row_of o).shape x w)) (op-row o) ∙ ap Some told.back

pub code-small : (form : Form) → is_code form ≡ true → word_of form < 2 ^ 32
unfolding is_code
code-small form h = (holds (row_of (op_of form)) form (good-row (op_of form)) h).small

decoded-cases : (w : ℕ) (form : Form) (r : Option Row) → find (λ row. fits row w) table ≡ r → w < 2 ^ 32 → option_map (λ row. read row.shape row.op w) r ≡ Some form
    → (is_code form ≡ true) × (word_of form ≡ w)
decoded-cases w form None e small h = cc
decoded-cases w form (Some r) e small h =
    let is-form : read r.shape r.op w ≡ form = cc in
    subst (λ f. (is_code f ≡ true) × (word_of f ≡ w)) is-form (found-code w r small e)

-- what a word decodes to is an instruction, and the word is its word
pub decodes-code : (w : ℕ) (form : Form) → w < 2 ^ 32 → decoded w ≡ Some form → (is_code form ≡ true) × (word_of form ≡ w)
unfolding decoded
decodes-code w form small h = decoded-cases w form _ refl small h

found-op : (o : Op) (w : ℕ) → fits (row_of o) w ≡ true → find (λ row. fits row w) table ≡ Some (row_of o)
found-op o w h =
    let at = at-place o in
    found-at w table (place o) (row_of Lui) table-apart (place-in o) (subst (λ x. fits x w ≡ true) (sym at) h) ∙ ap Some at

-- no word fits the rows of two names
pub same-op : (a b : Op) (w : ℕ) → fits (row_of a) w ≡ true → fits (row_of b) w ≡ true → a ≡ b
same-op a b w h k =
    let same : row_of a ≡ row_of b = same_Some _ _ (sym (found-op a w h) ∙ found-op b w k) in
    sym (op-row a) ∙ ap (λ r. r.op) same ∙ op-row b
