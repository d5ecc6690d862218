use Rattle.std.proofs.Common.{arith}
use Rattle.lc_frame.specs.FrameRef.{frame_of}
use Rattle.lc_world.proofs.Deliveries.{tail_is, arrive_none, first_is_known, first_is_no_fault, delivered_before, used_within, arrive_acts}
use Rattle.lc_world.proofs.act.arrive.Goals as goal

pub returns-then-first-len : goal.returns-then-first-len
returns-then-first-len c = arrive_none c.args.me.now c.args.peer.now c.requires c.first_place-first.result c.first_place-first.ensures (omega (arith, c.if-first-len.true, c.len.ensures, c.args.peer.now.stream.ok.0))

pub overflow_sub-first : goal.overflow_sub-first
overflow_sub-first c = delivered_before c.args.me.now c.args.peer.now c.requires c.first_place-first.result c.first_place-first.ensures (omega (arith, c.if-first-len.false, c.len.ensures, c.args.peer.now.stream.ok.0)) _ (tail_is c.deref.result.now c.args.peer.now.stream.items c.first_place-first.result c.deref.ensures.value) c.version.result c.version.ensures (frame_of c.in-Whole.frame) c.in-Whole.used c.in-Whole.ensures.0 c.in-Whole.ensures.1

pub bring-requires-clause-within : goal.bring-requires-clause-within
bring-requires-clause-within c =
    let before = delivered_before c.args.me.now c.args.peer.now c.requires c.first_place-first.result c.first_place-first.ensures (omega (arith, c.if-first-len.false, c.len.ensures, c.args.peer.now.stream.ok.0)) _ (tail_is c.deref.result.now c.args.peer.now.stream.items c.first_place-first.result c.deref.ensures.value) c.version.result c.version.ensures (frame_of c.in-Whole.frame) c.in-Whole.used c.in-Whole.ensures.0 c.in-Whole.ensures.1 in
    let within = used_within c.args.me.now c.args.peer.now c.requires c.first_place-first.result c.first_place-first.ensures (omega (arith, c.if-first-len.false, c.len.ensures, c.args.peer.now.stream.ok.0)) _ (tail_is c.deref.result.now c.args.peer.now.stream.items c.first_place-first.result c.deref.ensures.value) c.version.result c.version.ensures (frame_of c.in-Whole.frame) c.in-Whole.used c.in-Whole.ensures.0 c.in-Whole.ensures.1 in
    omega (arith, before, within)

pub unreachable-requires : goal.unreachable-requires
unreachable-requires c = first_is_known c.args.me.now c.args.peer.now c.requires c.first_place-first.result c.first_place-first.ensures (omega (arith, c.if-first-len.false, c.len.ensures, c.args.peer.now.stream.ok.0)) _ (tail_is c.deref.result.now c.args.peer.now.stream.items c.first_place-first.result c.deref.ensures.value) c.version.result c.version.ensures c.in-More.ensures

pub unreachable-requires-in-Fault : goal.unreachable-requires-in-Fault
unreachable-requires-in-Fault c = first_is_no_fault c.args.me.now c.args.peer.now c.requires c.first_place-first.result c.first_place-first.ensures (omega (arith, c.if-first-len.false, c.len.ensures, c.args.peer.now.stream.ok.0)) _ (tail_is c.deref.result.now c.args.peer.now.stream.items c.first_place-first.result c.deref.ensures.value) c.version.result c.version.ensures c.in-Fault.field-0 c.in-Fault.ensures

pub returns : goal.returns
returns c = arrive_acts c.args.me.now c.args.peer.now c.requires c.first_place-first.result c.first_place-first.ensures (omega (arith, c.if-first-len.false, c.len.ensures, c.args.peer.now.stream.ok.0)) _ (tail_is c.deref.result.now c.args.peer.now.stream.items c.first_place-first.result c.deref.ensures.value) c.version.result c.version.ensures (frame_of c.in-Whole.frame) c.in-Whole.used c.in-Whole.ensures.0 c.in-Whole.ensures.1 c.bring.new.me c.bring.new.peer c.bring.result c.bring.ensures
