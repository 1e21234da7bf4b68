-- What the words of entries say.
use Rattle.mck_flags.specs.declared.rights.Rights.{Rights}
use Rattle.mck_word.specs.declared.Frame.{Frame}
use Rattle.std.proofs.Common.{◌≡◌, ℕ, ◌+◌, ◌*◌, ◌/◌, ◌%◌, ◌<◌, true, None, Some, refl, ap, arith}
use Rattle.std.proofs.lemmas.Bool.{eq-eqb}
use Rattle.sv_table.specs.Words.{entry_of_node, entry_of_page, is_present, node_in, page_in}

pub is_present-node : (key : ℕ) → is_present (entry_of_node key) ≡ true
is_present-node key = eq-eqb ((1 + 1024 * key) % 2) 1 (omega arith)

pub node_in-entry : (key : ℕ) → node_in (entry_of_node key) ≡ Some key
unfolding node_in
node_in-entry key =
    let same : (1 + 1024 * key) / 1024 ≡ key = omega arith in
    rw (is_present-node key) (ap Some same)

pub node_in-none : node_in 0 ≡ None
unfolding node_in
node_in-none = refl

pub page_in-none : page_in 0 ≡ None
unfolding page_in
page_in-none = refl

pub is_present-page : (frame rights : ℕ) → is_present (1 + 2 * rights + 1024 * frame) ≡ true
is_present-page frame rights = eq-eqb ((1 + 2 * rights + 1024 * frame) % 2) 1 (omega arith)

pub page_in-entry : (f : Frame) (r : Rights) → r.0 < 256 → page_in (entry_of_page f r) ≡ Some (f, r)
unfolding page_in
page_in-entry f r few =
    let frame : (1 + 2 * r.0 + 1024 * f.0) / 1024 ≡ f.0 = omega arith in
    let rights : (1 + 2 * r.0 + 1024 * f.0) / 2 % 256 ≡ r.0 = omega arith in
    rw (is_present-page f.0 r.0, frame, rights) refl

-- an entry of a node is no empty word
pub entry-is_not_empty : (key : ℕ) → entry_of_node key ≡ 0 → {P : Type 0} → P
entry-is_not_empty key e = absurd (omega arith)
