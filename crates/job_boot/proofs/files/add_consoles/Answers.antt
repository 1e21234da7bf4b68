use Rattle.file_model.specs.Files.{Files, with_console}
use Rattle.job_model.specs.declared.job.GuestLine.{GuestLine}
use Rattle.kernel_model.specs.OneKernel.{input_of, with_consoles}
use Rattle.mck_word.specs.Lists.{count_from}
use Rattle.mck_word.specs.MapLaws.{at-none}
use Rattle.mck_word.specs.Maps.{Map, at}
use Rattle.job_boot.proofs.Descriptors.{NoneFrom, console-none}
use Rattle.job_boot.proofs.files.add_consoles.Goals as goal
use Rattle.std.proofs.Common.{List, ap, arith, length, subst, sym, ℕ, ◌+◌, ◌∙◌}

pub loop-more-init : goal.loop-more-init
loop-more-init g c =
    let all = c.as_slice-rest.ensures in
    let long = ap length all in
    record {
      left = ap (λ (gs : List GuestLine). with_consoles c.args.job.now (count_from 1 (length gs)) (g.F.FileStore.files c.args.files.now)) all;
      none = λ p l. ap (λ (m : Map (Map ℕ)). at m p) c.requires.none ∙ at-none p;
      few = omega (arith, long, c.requires.few);
    }

pub loop-more-preserved : goal.loop-more-preserved
loop-more-preserved g c =
    let was = c.loop-more.invariant in
    let split = c.in-Some.ensures.cases.0 in
    let job = c.args.job.now in
    let guest = c.loop-more.guest in
    let files = g.F.FileStore.files c.loop-more.files in
    let next = c.in_ok-process.ensures.ok ∙ ap (λ (input : List ℕ). with_console guest input files) c.input_of.ensures in
    let long = ap length split in
    record {
      left = ap (with_consoles job (count_from (guest + 1) (length c.in-Some.more.now))) next
          ∙ (ap (λ (rest : List GuestLine). with_consoles job (count_from guest (length rest)) files) (sym split) ∙ was.left);
      none = subst (λ (f : Files). NoneFrom (guest + 1) f.descriptors) (sym next) (console-none guest (input_of job guest) files was.none);
      few = omega (arith, was.few, long);
    }
