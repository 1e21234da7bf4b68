use Rattle.kernel_model.specs.SignalCalls.{sets_mask, sigprocmask}
use Rattle.kernel_model.specs.Signals.{View}
use Rattle.lwk_calls.proofs.Acting.{mask_is, mask_pointed}
use Rattle.lwk_calls.proofs.Refusing.{goes_on, refused_did}
use Rattle.lwk_calls.specs.SignalWords.{mask_refusal}
use Rattle.lwk_space.specs.Lacks.{memory}
use Rattle.lwk_views.specs.Views.{Did}
use Rattle.std.proofs.Common.{ap, of_z, rules, subst, sym, to_z, w32, w64, ◌≡◌, ◌∙◌}
use Rattle.lwk_calls.proofs.masks.sigprocmask.Goals as goal

pub sets_mask-requires-clause-read : goal.sets_mask-requires-clause-read
sets_mask-requires-clause-read g c =
    let m = memory (g.T.PageTable.rows c.args.space.now.table) c.args.mem.now in
    (mask_pointed m (to_z w32 (of_z w32 c.args.how)) c.args.address c.args.old c.args.size (sym (c.mask_refusal.ensures c.args.mem.now) ∙ c.in-None.is)).reads

pub sets_mask-requires-clause-written : goal.sets_mask-requires-clause-written
sets_mask-requires-clause-written g c =
    let m = memory (g.T.PageTable.rows c.args.space.now.table) c.args.mem.now in
    (mask_pointed m (to_z w32 (of_z w32 c.args.how)) c.args.address c.args.old c.args.size (sym (c.mask_refusal.ensures c.args.mem.now) ∙ c.in-None.is)).writes

pub returns-in-Some-clause-did : goal.returns-in-Some-clause-did
returns-in-Some-clause-did g c =
    let rows = g.T.PageTable.rows c.args.space.now.table in
    let pages = c.args.mem.now in
    let t = c.args.t.0 in
    let how = c.args.how in
    let z = c.in-Some.answer in
    let same : to_z w64 (of_z w64 z) ≡ z = search rules in
    let given : to_z w32 (of_z w32 how) ≡ how = search rules in
    refused_did rows pages c.args.node.now c.answers.new.node pages t (sigprocmask t how c.args.address c.args.old c.args.size) (sets_mask t how c.args.address c.args.old)
    (λ (v : View). mask_refusal v.memory how c.args.address c.args.old c.args.size) (mask_is t how c.args.address c.args.old c.args.size) _ z same
    (λ files. sym (c.mask_refusal.ensures pages ∙ ap (λ s. mask_refusal (memory rows pages) s c.args.address c.args.old c.args.size) given) ∙ c.in-Some.is) (c.answers.ensures.did rows pages c.requires.frames)

pub returns-in-None-clause-did : goal.returns-in-None-clause-did
returns-in-None-clause-did g c =
    let rows = g.T.PageTable.rows c.args.space.now.table in
    let n = c.args.node.now in
    let pages = c.args.mem.now in
    let after = c.sets_mask.new.node in
    let left = c.sets_mask.new.mem in
    let t = c.args.t.0 in
    let how = c.args.how in
    let given : to_z w32 (of_z w32 how) ≡ how = search rules in
    goes_on rows pages n after left t (sigprocmask t how c.args.address c.args.old c.args.size) (sets_mask t how c.args.address c.args.old)
    (λ (v : View). mask_refusal v.memory how c.args.address c.args.old c.args.size) (mask_is t how c.args.address c.args.old c.args.size)
    (λ files. sym (c.mask_refusal.ensures pages ∙ ap (λ s. mask_refusal (memory rows pages) s c.args.address c.args.old c.args.size) given) ∙ c.in-None.is)
    (subst (λ s. Did rows n pages after left (sets_mask t s c.args.address c.args.old)) given c.sets_mask.ensures.did)
