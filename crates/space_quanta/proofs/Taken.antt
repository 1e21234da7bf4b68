-- The frames in which the images are left are those to which the instructions lead.
use Rattle.hybrid_model.specs.Sides.{Row}
use Rattle.isa_model.specs.Memory.{Memory, page_at}
use Rattle.isa_model.specs.declared.stops.Stop.{Stop}
use Rattle.isa_model.specs.declared.stops.Stop.TheVariants.{Break, Ecall, Fault, Illegal, Misaligned, On}
use Rattle.space_quanta.specs.Taking.{Took}
use Rattle.lwk_run.specs.Lent.{Stays}
use Rattle.lwk_space.proofs.WrittenBack.{written-back}
use Rattle.lwk_space.specs.Lacks.{memory}
use Rattle.lwk_space.specs.Rows.{FramesIn}
use Rattle.mck_word.specs.MapLaws.{same_rows}
use Rattle.mck_word.specs.Maps.{Map}
use Rattle.mck_word.specs.declared.Regs.{Regs as registers}
use Rattle.rv64i_user.specs.Runs.{count_on, instrs}
use Rattle.rv_quantum.specs.Differing.{FirstDiffers, FirstPage}
use Rattle.rv_quantum.specs.Images.{Seen, left}
use Rattle.lwk_run.specs.Counts.{stopped_one}
use Rattle.rv_quantum.specs.Promised.{Agrees, Led, Promised, stopped_one as one_more}
use Rattle.rv_quantum.specs.Told.{first_regs, images, last_regs, last_stop, pages_seen, total}
use Rattle.rv_quantum.specs.declared.differs.Differs.TheVariants.{Bytes, Regs, Rights}
use Rattle.rv_quantum.specs.declared.differs.Differs.{Differs}
use Rattle.rv_quantum.specs.declared.quanta.Quanta.{Quanta}
use Rattle.std.proofs.Common.{ap, inl, inr, refl, subst, sym, ◌∙◌}
use Rattle.std.specs.Prelude.{List, [], ℕ, ◌+◌, ◌∷◌, ◌≡◌}

one-is : (s : Stop) → one_more s ≡ stopped_one s
one-is On = refl
one-is Ecall = refl
one-is Break = refl
one-is Illegal = refl
one-is Misaligned = refl
one-is (Fault l) = refl

pub took : (q : Quanta) (regs : registers) (rows : Map Row) (before after : List (List ℕ)) → Promised (first_regs q) (total q) (images q) (last_regs q) (last_stop q) → regs ≡ first_regs q
    → Agrees (pages_seen q) (memory rows before) → FramesIn rows before → Stays rows before after
    → ((p : ℕ) → page_at (memory rows after) p ≡ left (images q) p (page_at (memory rows before) p)) → Took q regs rows before after
took q regs rows before after promised first agrees inside stays put =
    let m = memory rows before in
    let led : Led (total q) regs m (images q) (last_regs q) (last_stop q) = subst (λ r. Led (total q) r m (images q) (last_regs q) (last_stop q)) (sym first) (promised m agrees) in
    let same : memory rows after ≡ (instrs (total q) regs m).memory = same_rows (memory rows after) (instrs (total q) regs m).memory (λ p. put p ∙ sym (led.pages p)) in
    record {
      regs = first;
      pages = agrees;
      did = λ i. record { regs = sym led.regs i; memory = same i; stop = sym led.stop i };
      count = sym led.count ∙ ap (λ k. count_on (total q) regs m + k) (one-is (last_stop q) ∙ ap stopped_one (sym led.stop));
      stays = stays;
      stored = written-back rows before after inside stays.others stays.len;
    }

-- ---- what differs

no-regs : (ss : List Seen) (m : Memory) → FirstPage ss m Regs → ⊥
no-regs [] m h = h
no-regs (s ∷ ss) m h = elim h [ inl e ↦ e | inr e ↦ no-regs ss m e.1 ]

-- a page differs, where the registers don't
pub page-first : (first now : registers) (ss : List Seen) (m : Memory) (d : Differs) → now ≡ first → FirstPage ss m d → FirstDiffers first ss now m d
page-first first now ss m Regs same h = absurd (no-regs ss m h)
page-first first now ss m (Rights p) same h = (same, h)
page-first first now ss m (Bytes p) same h = (same, h)
