-- Two journals of one job whose images are the same steps have the same report, but for the counts of requests, faults and rounds.
use Rattle.kernel_model.specs.OneKernel as One
use Rattle.guest_laws.specs.SameReport.{EndAlike, SameButCounts}
use Rattle.hybrid_laws.proofs.boot.Coherent.{begins}
use Rattle.hybrid_laws.proofs.every.Lwk.{each-lwk}
use Rattle.hybrid_laws.proofs.journal.Journal.{each-event, headline}
use Rattle.hybrid_model.specs.Boot.{boot}
use Rattle.hybrid_model.specs.Claims.{Headline}
use Rattle.hybrid_model.specs.Events.{may}
use Rattle.hybrid_model.specs.Journals.{IsLegal, IsOver, candidates, ending, ending_of_run, images, state}
use Rattle.hybrid_model.specs.Pairs.{Pair}
use Rattle.hybrid_model.specs.Shown.{one}
use Rattle.hybrid_model.specs.declared.events.Ending.TheVariants.{Done, Limit, Stalled, Unfinished}
use Rattle.hybrid_model.specs.declared.events.Ending.{Ending}
use Rattle.hybrid_model.specs.declared.events.Event.{Event}
use Rattle.job_model.specs.Prepared.{IsPrepared}
use Rattle.job_model.specs.declared.image.Image.{Image}
use Rattle.job_model.specs.declared.job.Job.{Job}
use Rattle.kernel_model.specs.Nodes.{Node, Process, Thread, has_ended, is_living, ready_to_run}
use Rattle.kernel_model.specs.Steps.{after_all}
use Rattle.mck_word.specs.Maps.{each_row, entries, some_row}
use Rattle.run_model.specs.Reports.{count_lines, faults, guest_line, output_lines, path_lines, paths_in_order, report_of, report_parts, requests, rounds, unsent_line}
use Rattle.run_model.specs.Texts.{Part}
use Rattle.std.proofs.Common.{ap, inl, inr, refl, subst, sym, ◌∙◌}
use Rattle.std.specs.List.{list_any}
use Rattle.std.specs.Prelude.{List, [], cond, false, flat_map, map, not, ℕ, ◌&&◌, ◌++◌, ◌||◌, ◌∷◌, ◌≡◌}

-- ---- reports

behind : (xs ys zs : List Part) → SameButCounts ys zs → SameButCounts (xs ++ ys) (xs ++ zs)
behind [] ys zs h = h
behind (x ∷ xs) ys zs h = (inl refl, behind xs ys zs h)

counts-alike : (x : One.OneKernel) (g h : ℕ) (j k : List Event) → SameButCounts (count_lines x g j) (count_lines x h k)
counts-alike x g h j k = (
  inl refl,
  (
    inr (inl (record { here = g; there = h; first = refl; second = refl })),
    (
      inr (inr (inl (record { here = faults j; there = faults k; first = refl; second = refl }))),
      (inr (inr (inr (record { here = rounds j; there = rounds k; first = refl; second = refl }))), (inl refl, tt)),
    ),
  ),
)

parts-alike : (x : One.OneKernel) (e : Ending) (g h : ℕ) (j k : List Event) → SameButCounts (report_parts x e g j) (report_parts x e h k)
parts-alike x e g h j k = (
  inl refl,
  (
    inl refl,
    behind (map guest_line (entries x.node.processes) ++ flat_map output_lines (entries x.node.files.consoles) ++ flat_map path_lines (paths_in_order x.node.files) ++ map unsent_line x.node.unsent)
        (count_lines x g j) (count_lines x h k) (counts-alike x g h j k),
  ),
)

reports-alike : (x y : One.OneKernel) → x ≡ y → (e f : Ending) → e ≡ f → (g h : ℕ) (j k : List Event) → SameButCounts (report_parts x e g j) (report_parts y f h k)
reports-alike x y p e f q g h j k = subst (λ (z : One.OneKernel). SameButCounts (report_parts x e g j) (report_parts z f h k)) p
    (subst (λ (d : Ending). SameButCounts (report_parts x e g j) (report_parts x d h k)) q (parts-alike x e g h j k))

-- ---- what is shown

claim : (job : Job) (imgs : List Image) (journal : List Event) → IsPrepared job imgs → IsLegal job imgs journal → Headline job imgs journal
claim job imgs journal prepared legal = headline (each-event each-lwk) job imgs journal (begins job imgs prepared legal.0) legal

pub same-shown : (job : Job) (imgs : List Image) (j k : List Event) → IsPrepared job imgs → IsLegal job imgs j → IsLegal job imgs k → images (boot job imgs) j ≡ images (boot job imgs) k
    → one (state (boot job imgs) j) ≡ one (state (boot job imgs) k)
same-shown job imgs j k prepared a b same =
    sym (claim job imgs j prepared a).simulated.leaves ∙ ap (after_all (One.boot job imgs)) same ∙ (claim job imgs k prepared b).simulated.leaves

pub same-report : (job : Job) (imgs : List Image) (j k : List Event) → IsPrepared job imgs → IsLegal job imgs j → IsLegal job imgs k → images (boot job imgs) j ≡ images (boot job imgs) k
    → EndAlike job imgs j k → SameButCounts (report_of job imgs j) (report_of job imgs k)
same-report job imgs j k prepared a b same ends =
    reports-alike (one (state (boot job imgs) j)) (one (state (boot job imgs) k)) (same-shown job imgs j k prepared a b same)
    (ending (state (boot job imgs) j)) (ending (state (boot job imgs) k)) ends (requests (state (boot job imgs) j)) (requests (state (boot job imgs) k)) j k

-- ---- the ending of a run that is over

none-may : (pair : Pair) → IsOver pair → (es : List Event) → list_any (may pair) es ≡ false
none-may pair over [] = refl
none-may pair over (e ∷ es) = ap (λ b. b || list_any (may pair) es) (over e) ∙ none-may pair over es

abbrev ending_by : Node → Ending
ending_by node =
    cond (each_row (λ p (x : Process). has_ended x.life) node.processes) Done
    (cond (some_row (λ t (x : Thread). ready_to_run x.does && is_living node x.process) node.threads) Limit Stalled)

ending-over : (pair : Pair) → IsOver pair → ending pair ≡ ending_by (one pair).node
ending-over pair over = ap (λ b. cond (not b) (ending_of_run pair) Unfinished) (none-may pair over (candidates pair))

pub ends-alike : (job : Job) (imgs : List Image) (j k : List Event) → one (state (boot job imgs) j) ≡ one (state (boot job imgs) k) → IsOver (state (boot job imgs) j) → IsOver (state (boot job imgs) k) → EndAlike job imgs j k
ends-alike job imgs j k same a b =
    ending-over (state (boot job imgs) j) a ∙ ap (λ (x : One.OneKernel). ending_by x.node) same ∙ sym (ending-over (state (boot job imgs) k) b)
