use Rattle.std.proofs.Common.{List, ℕ, Option, drop, sym, ap, subst, ◌∙◌, arith}
use Rattle.lc_peer.specs.declared.outgrown.Outgrown.{Outgrown}
use Rattle.lc_frame.specs.declared.version.Version.{Version}
use Rattle.lc_frame.specs.declared.kind.Kind.TheVariants.{Send}
use Rattle.lc_frame.specs.Kind.{header_len}
use Rattle.lc_peer.specs.Longer.{IsLonger, FitsAny, KeepsFew}
use Rattle.lc_peer.specs.Rings.{ReachesBy, KeepsBy}
use Rattle.lc_peer.proofs.Deliveries.{fed_bytes}
use Rattle.lc_peer.proofs.Longer.{rings_all, begun_skip, goes_from}
use Rattle.lc_peer.proofs.ring_intake.deliver_kept.Goals as goal

pub skip_on-skip-requires-clause-skip : goal.skip_on-skip-requires-clause-skip
skip_on-skip-requires-clause-skip g c =
    let reached = c.deliver_up_to-outgrown in
    let comes = subst (λ (o : Option Outgrown). ReachesBy o g.S.FrameSink.arrived g.S.FrameSink.violated c.args.rings.now c.args.sink.now c.args.decoder.now c.args.piece.now reached.new.sink reached.new.decoder reached.result.delivery) c.in-Some.is (subst (λ (ns : List ℕ). ReachesBy reached.result.outgrown g.S.FrameSink.arrived g.S.FrameSink.violated ns c.args.sink.now c.args.decoder.now c.args.piece.now reached.new.sink reached.new.decoder reached.result.delivery) c.as_slice.ensures reached.ensures.reaches) in
    let same = rings_all g.S.FrameSink.arrived g.S.FrameSink.violated g.S.RingSink.rings g.met.S.RingSink.keeps g.met.S.RingSink.keeps_refused c.args.sink.now comes.so_far.fs reached.new.sink comes.so_far.arrived ∙ c.requires.rings in
    let f = c.begun.ensures.fields in
    begun_skip c.in-Some.found c.begun.result f.0 f.1 f.2 f.3 c.begun.ensures.body _ comes.starts.in_range (subst (λ (ns : List ℕ). IsLonger ns c.in-Some.found.channel c.in-Some.found.len) (sym same) comes.longer)

pub returns-in-Some-clause-goes : goal.returns-in-Some-clause-goes
returns-in-Some-clause-goes g c =
    let reached = c.deliver_up_to-outgrown in
    let comes = subst (λ (o : Option Outgrown). ReachesBy o g.S.FrameSink.arrived g.S.FrameSink.violated c.args.rings.now c.args.sink.now c.args.decoder.now c.args.piece.now reached.new.sink reached.new.decoder reached.result.delivery) c.in-Some.is (subst (λ (ns : List ℕ). ReachesBy reached.result.outgrown g.S.FrameSink.arrived g.S.FrameSink.violated ns c.args.sink.now c.args.decoder.now c.args.piece.now reached.new.sink reached.new.decoder reached.result.delivery) c.as_slice.ensures reached.ensures.reaches) in
    let same = rings_all g.S.FrameSink.arrived g.S.FrameSink.violated g.S.RingSink.rings g.met.S.RingSink.keeps g.met.S.RingSink.keeps_refused c.args.sink.now comes.so_far.fs reached.new.sink comes.so_far.arrived ∙ c.requires.rings in
    let f = c.begun.ensures.fields in
    let fits = fed_bytes c.args.decoder.now c.args.piece.now c.stored-stored.ensures.bytes (λ i. omega (arith, c.type_inv.piece i)) in
    let rest = c.split_at-in-Some.ensures.back ∙ ap (drop c.in-Some.found.behind) c.split_at.ensures.back in
    goes_from c.in-Some.found c.begun.result f.0 f.1 f.2 f.3 c.begun.ensures.body g.S.FrameSink.arrived g.S.FrameSink.violated c.args.rings.now _ c.args.sink.now c.args.decoder.now c.args.piece.now _ reached.new.sink reached.new.decoder reached.result.delivery.taken reached.result.delivery.frames comes fits rest same c.skip_on-skip.result.count c.skip_on-skip.result.violation c.skip_on-skip.new.sink c.skip_on-skip.result.skip c.skip_on-skip.ensures c.stop_by.result c.stop_by.ensures reached.new.decoder

pub returns-in-Some-clause-kept : goal.returns-in-Some-clause-kept
returns-in-Some-clause-kept g c =
    let reached = c.deliver_up_to-outgrown in
    let comes = subst (λ (o : Option Outgrown). ReachesBy o g.S.FrameSink.arrived g.S.FrameSink.violated c.args.rings.now c.args.sink.now c.args.decoder.now c.args.piece.now reached.new.sink reached.new.decoder reached.result.delivery) c.in-Some.is (subst (λ (ns : List ℕ). ReachesBy reached.result.outgrown g.S.FrameSink.arrived g.S.FrameSink.violated ns c.args.sink.now c.args.decoder.now c.args.piece.now reached.new.sink reached.new.decoder reached.result.delivery) c.as_slice.ensures reached.ensures.reaches) in
    omega (arith, comes.starts.few, ap (λ (v : Version). header_len v Send) (c.skip_on-skip.ensures.version ∙ c.begun.ensures.fields.0))

pub returns-in-None-clause-kept : goal.returns-in-None-clause-kept
returns-in-None-clause-kept g c =
    let reached = c.deliver_up_to-outgrown in
    let slice = c.as_slice.result.now in
    let kept = reached.ensures.kept (subst (λ (ns : List ℕ). FitsAny c.most.result ns) (sym c.as_slice.ensures) c.most.ensures) (subst (λ (ns : List ℕ). KeepsFew ns c.args.decoder.now) (sym c.as_slice.ensures) c.requires.kept) in
    subst (λ (ns : List ℕ). KeepsFew ns reached.new.decoder) c.as_slice.ensures (subst (λ (o : Option Outgrown). KeepsBy o slice reached.new.decoder) c.in-None.is kept)
