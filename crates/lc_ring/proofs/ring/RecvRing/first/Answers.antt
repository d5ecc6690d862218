use Rattle.std.proofs.Common.{sym, ap, ◌∙◌, length}
use Rattle.std.specs.Option.{option_map}
use Rattle.lc_ring.specs.Ring.{Ring, front}
use Rattle.lc_ring.proofs.Cuts.{first}
use Rattle.lc_ring.proofs.ring.RecvRing.first.Goals as goal

pub first-requires : goal.first-requires
first-requires c =
    let len = c.in_ok-len.ensures.value ∙ sym (ap (λ (r : Ring). option_map length (front r)) c.self.view_is) in
    (first c.self.inside.lengths c.self.inside.bytes c.in_ok-len.len c.self.inside.until_cut c.self.invariant len).0

pub returns : goal.returns
returns c =
    let len = c.in_ok-len.ensures.value ∙ sym (ap (λ (r : Ring). option_map length (front r)) c.self.view_is) in
    rw c.first.ensures ((first c.self.inside.lengths c.self.inside.bytes c.in_ok-len.len c.self.inside.until_cut c.self.invariant len).1 ∙ ap front c.self.view_is)
