use Rattle.std.proofs.Common.{rules, refl, subst, ◌≤◌}
use Rattle.std.specs.Prelude.{IfSome}
use Rattle.lc_frame.specs.declared.version.Version.{Version}
use Rattle.lc_frame.specs.Frame.{IsValid}
use Rattle.lc_world.specs.declared.event.Answer.{Answer}
use Rattle.lc_world.specs.State.{size}
use Rattle.lc_world.specs.Answers.{frame_put}
use Rattle.lc_world.proofs.Calls.{slot_is_free, own_returns, own_room, own_refused}
use Rattle.lc_world.proofs.act.own_event.Goals as goal

pub call-answer-requires-clause-free : goal.call-answer-requires-clause-free
call-answer-requires-clause-free c = slot_is_free c.args.me.now c.args.peer.now c.requires.in_step

pub returns-then-is_err : goal.returns-then-is_err
returns-then-is_err c = own_refused c.args.me.now c.args.peer.now c.requires.in_step _ c.args.act.now c.args.channel c.requires.own refl c.reserve.ensures.items refl refl

pub go_out-requires : goal.go_out-requires
go_out-requires c = own_room c.args.me.now c.args.peer.now c.requires.in_step c.args.me.now c.args.act.now c.call-answer.result c.args.channel c.requires.own c.call-answer.new.peer c.call-answer.ensures _ c.room.result _ (subst (λ (v : Version). (a : Answer) → IfSome (frame_put c.args.act.now a) (λ f. IsValid v f → size v f ≤ c.room.result)) c.version-version.ensures c.room.ensures) (search rules)

pub returns : goal.returns
returns c = own_returns c.args.me.now c.args.peer.now c.requires.in_step _ c.args.act.now c.call-answer.result c.args.channel c.requires.own c.call-answer.new.peer c.call-answer.ensures c.reserve.new.self.items c.go_out.ensures.peer c.go_out.ensures.stream c.reserve.ensures.items c.go_out.ensures.valid c.go_out.ensures.bytes refl refl
