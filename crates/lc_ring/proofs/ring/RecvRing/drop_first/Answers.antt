use Rattle.std.proofs.Common.{sym, ap, ◌∙◌, length}
use Rattle.std.specs.Option.{option_map}
use Rattle.lc_ring.specs.Ring.{Ring, front}
use Rattle.lc_ring.proofs.Cuts.{front-len}
use Rattle.lc_ring.proofs.ring.RecvRing.drop_first.Goals as goal

pub drop_front-requires : goal.drop_front-requires
drop_front-requires c =
    c.requires ∙ sym (ap (λ (r : Ring). option_map length (front r)) c.self.view_is) ∙ sym (front-len c.self.inside.lengths c.self.inside.bytes c.self.inside.until_cut c.self.invariant)
