-- Answer with a row in the whole state.
use Rattle.hybrid_model.specs.declared.events.Event.TheVariants as Events
use Rattle.file_model.specs.Files.{Files}
use Rattle.hybrid_laws.proofs.answer.Answer.{keeps_post_answer, may_be_answered}
use Rattle.hybrid_laws.proofs.answer.Shown.{simulated_answer_row}
use Rattle.hybrid_laws.proofs.begin_vm.Whole.{length-post, rings-hold}
use Rattle.hybrid_laws.proofs.maps.Tests.{both}
use Rattle.hybrid_laws.proofs.states.Pair.{has-side, pair_after}
use Rattle.hybrid_laws.proofs.states.Silent.{coherent-silent, turns-stay}
use Rattle.hybrid_laws.proofs.states.Steps.{AtMostOne, SimulatedPair, simulated-pair}
use Rattle.hybrid_laws.proofs.trap.Begins.{ring-there}
use Rattle.hybrid_laws.specs.Simulated.{steps_after}
use Rattle.hybrid_model.specs.Events.{after, may, may_here}
use Rattle.hybrid_model.specs.Globals.{Coherent, ring_number}
use Rattle.hybrid_model.specs.Answer.{image_of_answer}
use Rattle.hybrid_model.specs.Images.{image_here}
use Rattle.hybrid_model.specs.Answer.{answer_to, files_after_answer, noted_of, post_answer, thread_served}
use Rattle.hybrid_model.specs.Pairs.{Here, Pair, here, ring_of, side_of}
use Rattle.hybrid_model.specs.Shown.{shown_here, shown_own}
use Rattle.hybrid_model.specs.Sides.{Row, Side, served}
use Rattle.ikc_ring.specs.declared.Msg.TheVariants.{Answer}
use Rattle.kernel_model.specs.Nodes.{is_there}
use Rattle.kernel_model.specs.OneKernel.{OneHere}
use Rattle.mck_word.specs.declared.Pid.{Pid}
use Rattle.std.proofs.Common.{ap, refl, subst, sym, ◌∙◌}
use Rattle.std.specs.Prelude.{Option, Some, true, ℕ, ◌≡◌}

module _ (pair : Pair) (c : Coherent pair) (q : Pid) (w : ℕ) (e : may pair (Events.Answer q w) ≡ true) (row : Row) (is : answer_to (side_of pair q.0) w ≡ Some row) where
  abbrev p : ℕ
  p = q.0

  abbrev h : Here
  h = here pair p

  there : is_there pair.node p ≡ true
  there = (both (is_there pair.node p) (may_here (Events.Answer q w) h) e).0

  allowed : may_here (Events.Answer q w) h ≡ true
  allowed = (both (is_there pair.node p) (may_here (Events.Answer q w) h) e).1

  abbrev side : Side
  side = post_answer (ring_of h (thread_served h.side w)) w h.side

  files : files_after_answer (answer_to h.side w) (served h.side.linux w).progress h.node.files ≡ h.node.files
  files = ap (λ (o : Option Row). files_after_answer o (served h.side.linux w).progress h.node.files) is

  after-is : after pair (Events.Answer q w) ≡ pair_after pair c p there side pair.node.files pair.frames pair.turns
  after-is = ap (λ (f : Files). pair_after pair c p there side f pair.frames pair.turns) files

  shown : shown_own pair.frames side ≡ shown_own pair.frames (side_of pair p)
  shown = ap (λ (o : OneHere). o.own) (sym (simulated_answer_row p q w h allowed row is).leads) ∙ ap (λ (o : OneHere). o.own) none
    where
      none : steps_after p (image_here (Events.Answer q w) p h) (shown_here h) ≡ shown_here h
      none = ap (λ (o : Option Row). steps_after p (image_of_answer o (thread_served h.side w)) (shown_here h)) is

  pub coherent_answer_row : Coherent (after pair (Events.Answer q w))
  unfolding post_answer
  coherent_answer_row = subst Coherent (sym after-is) (coherent-silent pair c p there side pair.turns
      (keeps_post_answer p (side_of pair p) pair.node pair.workers (ring_number pair) (c.whole p) w (ring_of h (thread_served h.side w)) (may_be_answered p q w h allowed))
      refl refl refl (length-post (ring_of h (thread_served h.side w)) (Answer w (noted_of h.side w).0 h.side.lwk.begun (answer_to h.side w)) h.side.to_linux (ring-there h (thread_served h.side w) (rings-hold pair c p there)))
      shown (turns-stay pair c p there side (λ x u. (u, refl))))

  pub simulated_pair_answer_row : SimulatedPair pair (Events.Answer q w)
  unfolding post_answer
  simulated_pair_answer_row = simulated-pair pair p (has-side pair c.known p there) (Events.Answer q w) refl (simulated_answer_row p q w h allowed row is) most refl (λ x s n f. refl)
    where
      most : AtMostOne pair.node p (image_here (Events.Answer q w) p h)
      most = subst (λ (o : Option Row). AtMostOne pair.node p (image_of_answer o (thread_served h.side w))) (sym is) tt
