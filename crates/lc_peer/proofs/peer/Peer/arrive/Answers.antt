use Rattle.std.proofs.Common.{get_or, rules, ◌∙◌, arith}
use Rattle.std.proofs.lemmas.Grind.{common_steps}
use Rattle.std.proofs.Math.Seq.{map-set_same}
use Rattle.lc_peer.specs.PeerFields.{ring_of}
use Rattle.std.proofs.lemmas.List.{get_or_read}
use Rattle.lc_peer.proofs.RingSizes.{ring_kept}
use Rattle.lc_frame.specs.FrameRef.{frame_of}
use Rattle.lc_peer.proofs.peer.Peer.arrive.Goals as goal

pub invariant_of-self : goal.invariant_of-self
invariant_of-self c = record {
  places = grind (arith, common_steps);
  versions = grind (arith, common_steps);
  rings = map-set_same ring_of c.self.inside.channels c.index-at.result _ c.index-self-at.result (ring_kept (frame_of c.args.frame) (get_or c.self.inside.channels c.index-at.result c.index-self-at.result) _ _ c.arrive.ensures.after) ∙ c.self.invariant.rings;
  slots = grind (arith, common_steps);
  each = grind (arith, common_steps);
}

pub returns-clause-answer : goal.returns-clause-answer
returns-clause-answer c = search (rules, get_or_read)
