use Rattle.std.proofs.Common.{ap, ◌∙◌, length}
use Rattle.std.specs.Option.{option_map}
use Rattle.lc_ring.specs.Ring.{Ring, front}
use Rattle.lc_ring.proofs.Cuts.{front-len, front-range}
use Rattle.lc_ring.proofs.ring.RecvRing.front_len.Goals as goal

pub returns-clause-value : goal.returns-clause-value
returns-clause-value c = c.front.ensures ∙ front-len c.self.inside.lengths c.self.inside.bytes c.self.inside.until_cut c.self.invariant ∙ ap (λ (r : Ring). option_map length (front r)) c.self.view_is

pub returns-clause-range : goal.returns-clause-range
returns-clause-range c = (front-range c.self.inside.lengths c.self.inside.bytes c.front.result c.self.inside.until_cut c.self.invariant c.front.ensures).0

pub returns-clause-within : goal.returns-clause-within
returns-clause-within c = rw (← c.self.view_is) (front-range c.self.inside.lengths c.self.inside.bytes c.front.result c.self.inside.until_cut c.self.invariant c.front.ensures).1
