use Rattle.call_progress.specs.Kept.{Kept}
use Rattle.call_progress.specs.Streams.{HasRoomForStep}
use Rattle.hybrid_model.specs.Sides.{serves}
use Rattle.proxy_worker.proofs.Parts.{has-service}
use Rattle.proxy_worker.proofs.RoomMade.{found-shown, room-kept, room-linux}
use Rattle.proxy_worker.specs.Shown.{linux_of, shown_service}
use Rattle.std.proofs.Common.{sym, ◌∙◌}
use Rattle.std.proofs.lemmas.Bool.{true≢false}
use Rattle.std.proofs.lemmas.Result.{on_ok_weaker}
use Rattle.proxy_worker.proofs.proxy.Proxy.make_room_for_act.Goals as goal

pub returns-then-not-has_service-clause-room : goal.returns-then-not-has_service-clause-room
returns-then-not-has_service-clause-room g c = λ k there. absurd (true≢false (sym (c.has_service.ensures.1 (found-shown c.args.self.now c.serves-q.result.0 (serves (linux_of c.args.self.now) c.args.worker) k c.serves-q.ensures there)) ∙ c.if-not-has_service.true))

pub row_mut-requires : goal.row_mut-requires
row_mut-requires g c = has-service c.args.self.now.services.map c.serves-q.result.0 (c.has_service.ensures.0 c.if-not-has_service.false)

pub returns-clause-same : goal.returns-clause-same
returns-clause-same g c = room-linux c.args.self.now c.serves-q.result.0 c.row_mut.result.now _ c.args.self.now.services.spare c.row_mut.ensures.value (λ i. record (shown_service c.row_mut.result.now) { progress = c.make_room_for_step.ensures.same i })

pub returns-clause-room : goal.returns-clause-room
returns-clause-room g c =
    let made = c.make_room_for_step in
    let HasRoom : Kept → Type 0 = λ x. HasRoomForStep (g.S.FileStore.room made.new.files) (g.S.FileStore.can_write made.new.files) (g.S.FileStore.files made.new.files) x in
    on_ok_weaker made.result (λ h k found. room-kept HasRoom c.args.self.now.services.map c.serves-q.result.0 (serves (linux_of c.args.self.now) c.args.worker) _ k c.serves-q.ensures found h) made.ensures.room
