use Rattle.file_model.specs.Files.{Console}
use Rattle.key_rows.specs.Table.{Table}
use Rattle.mck_word.specs.Maps.{entries, keys}
use Rattle.one_files.proofs.GuestConsoles.{key-fits}
use Rattle.one_files.proofs.consoles.Consoles.guest_at.Goals as goal
use Rattle.std.proofs.Common.{ap, sym, ◌∙◌}
use Rattle.std.proofs.lemmas.Option.{slice_get-get_or, slice_get-map}
use Rattle.std.specs.Prelude.{List, Some, get_or, map, option_map, slice_get, ℕ, ◌≡◌, ◌<◌, length}

-- the key of a row that was read
key-read : (es rows : List (ℕ × Console)) (i : ℕ) (row : ℕ × Console) → rows ≡ es → i < length rows → row ≡ get_or rows i row → slice_get (map (λ (e : ℕ × Console). e.0) es) i ≡ Some row.0
key-read es rows i row same l e =
    slice_get-map (λ (e : ℕ × Console). e.0) es i ∙ ap (option_map (λ (e : ℕ × Console). e.0)) (ap (λ (xs : List (ℕ × Console)). slice_get xs i) (sym same) ∙ slice_get-get_or rows i row l ∙ ap Some (sym e))

pub overflow_cast-result : goal.overflow_cast-result
overflow_cast-result c =
    let h = c.in_ok-row.ensures.lookup in
    let is = key-read (entries c.self.inside.rows.map) c.as_slice.result.now c.args.place c.in_ok-row.row.now c.as_slice.ensures h.3.0 h.1 in
    record { fits = key-fits c.self.inside.rows.map c.self.invariant c.args.place c.in_ok-row.row.now.0 is }

pub returns-clause-guest : goal.returns-clause-guest
returns-clause-guest c =
    let h = c.in_ok-row.ensures.lookup in
    sym (key-read (entries c.self.inside.rows.map) c.as_slice.result.now c.args.place c.in_ok-row.row.now c.as_slice.ensures h.3.0 h.1)
    ∙ ap (λ (t : Table Console). slice_get (keys t.map) c.args.place) c.self.view_is
