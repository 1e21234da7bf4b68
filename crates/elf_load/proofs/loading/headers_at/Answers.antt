use Rattle.std.proofs.Common.{◌≡◌, false, All, subst, arith}
use Rattle.std.proofs.lemmas.List.Elements.{All-tail}
use Rattle.elf_load.specs.Profile.{holds_headers}
use Rattle.elf_load.specs.Kept.{IsInside}
use Rattle.elf_load.proofs.Reading.{find_skip}
use Rattle.elf_load.proofs.loading.headers_at.Goals as goal

pub loop-s-preserved : goal.loop-s-preserved
loop-s-preserved c =
    let cut = c.in-Some.ensures.cases.0 in
    let no : holds_headers c.args.header.now c.in-Some.s.now ≡ false = grind arith in
    record {
      found = find_skip (holds_headers c.args.header.now) _ _ _ _ cut no c.loop-s.invariant.found;
      inside = All-tail (IsInside c.args.size) c.in-Some.s.now c.in-Some.more.now (subst (All (IsInside c.args.size)) cut c.loop-s.invariant.inside);
    }
