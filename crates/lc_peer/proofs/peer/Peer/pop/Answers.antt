use Rattle.std.proofs.Common.{get_or, rules, ap, ◌∙◌, arith}
use Rattle.std.proofs.lemmas.Grind.{common_steps}
use Rattle.std.proofs.Math.Seq.{map-set_same}
use Rattle.lc_peer.specs.PeerFields.{ring_of}
use Rattle.std.proofs.lemmas.List.{get_or_read}
use Rattle.lc_peer.specs.Inbox.{InboxState}
use Rattle.lc_peer.proofs.RingSizes.{ring_taken}
use Rattle.lc_peer.proofs.peer.Peer.pop.Goals as goal

pub invariant_of-self : goal.invariant_of-self
invariant_of-self c = record {
  places = grind (arith, common_steps);
  versions = grind (arith, common_steps);
  rings = map-set_same ring_of c.self.inside.channels c.index-at.result _ c.index-self-at.result (ap (λ (i : InboxState). i.book.capacity) c.pop.ensures.after ∙ ring_taken (get_or c.self.inside.channels c.index-at.result c.index-self-at.result).inbox) ∙ c.self.invariant.rings;
  slots = grind (arith, common_steps);
  each = grind (arith, common_steps);
}

pub returns-clause-answer : goal.returns-clause-answer
returns-clause-answer c = search (rules, get_or_read)

pub returns-clause-after : goal.returns-clause-after
returns-clause-after c = search (rules, get_or_read)
