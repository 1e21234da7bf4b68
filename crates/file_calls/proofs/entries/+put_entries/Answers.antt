use Rattle.std.proofs.Common.{◌≡◌, ◌≤◌, ◌+◌, ◌-◌, List, ℕ, ◌++◌, refl, sym, ap, subst, ◌∙◌, arith, length, drop}
use Rattle.file_calls.specs.Placed.{IsFilled, fitting, record_at}
use Rattle.file_calls.proofs.EntryRecords.{fit-none, fit-short, fit-more, none-filled, one-filled}
use Rattle.std.proofs.lemmas.List.{length-drop}
use Rattle.file_calls.proofs.entries.+put_entries.Goals as goal

pub returns-in_default-clause-filled : goal.returns-in_default-clause-filled
returns-in_default-clause-filled g t c =
    none-filled _ _ (fit-none (g.S.FileStore.files c.args.files.now) c.args.here c.args.place (length c.args.into.now) (sym c.in_default.ensures.record))

pub returns-then-into-len-clause-filled : goal.returns-then-into-len-clause-filled
returns-then-into-len-clause-filled g t c =
    let len = c.record_len-len.ensures.len c.args.place in
    none-filled _ _ (fit-short (g.S.FileStore.files c.args.files.now) c.args.here c.args.place (length c.args.into.now) (record_at c.args.place c.in-Some.entry) (sym c.in-Some.ensures.record) (omega arith))

pub put_entry-requires-clause-len : goal.put_entry-requires-clause-len
put_entry-requires-clause-len g t c = c.split_at_mut-front.ensures.front_len ∙ c.record_len-len.ensures.len c.args.place

pub returns-clause-filled : goal.returns-clause-filled
returns-clause-filled g t c =
    let files = g.S.FileStore.files c.args.files.now in
    let here = c.args.here in let place = c.args.place in let into = c.args.into.now in
    let r : List ℕ = record_at place c.in-Some.entry in
    let len : c.record_len-len.result ≡ length r = c.record_len-len.ensures.len place in
    let rest = c.split_at_mut-front.result.1.now in
    let more = c.put_entries-more.result in
    let behind : rest ≡ drop (length r) into = c.split_at_mut-front.ensures.back ∙ ap (λ k. drop k into) len in
    let left : length rest ≡ length into - length r = ap length behind ∙ length-drop (length r) into in
    let all = fit-more files here place (place + 1) (length into) (length rest) r (sym c.in-Some.ensures.record) (subst (λ k. k ≤ length into) len c.if-into-len.false) refl left in
    let whole = one-filled _ (fitting files here (place + 1) (length rest)) r into rest c.put_entries-more.new.into more all behind c.put_entries-more.ensures.filled in
    subst (λ (x : List ℕ). IsFilled (fitting files here place (length into)) (record { entries = more.entries + 1; bytes = more.bytes + c.record_len-len.result }) into (x ++ c.put_entries-more.new.into)) (sym c.put_entry.ensures)
    (subst (λ k. IsFilled (fitting files here place (length into)) (record { entries = more.entries + 1; bytes = more.bytes + k }) into (r ++ c.put_entries-more.new.into)) (sym len) whole)
