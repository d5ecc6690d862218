use Rattle.std.proofs.Common.{sym, ap, ◌∙◌}
use Rattle.lc_ring.specs.Ring.{bytes}
use Rattle.lc_ring.proofs.Cuts.{bytes-shown, ring_is_kept}
use Rattle.lc_ring.proofs.ring.RecvRing.bytes.Goals as goal

pub returns-clause-value : goal.returns-clause-value
returns-clause-value c = c.len.ensures ∙ sym (bytes-shown c.self.inside.lengths c.self.inside.bytes c.self.inside.until_cut c.self.invariant) ∙ ap bytes c.self.view_is

pub returns-clause-kept : goal.returns-clause-kept
returns-clause-kept c = rw (← c.self.view_is) (ring_is_kept c.self.inside.lengths c.self.inside.bytes c.self.inside.until_cut c.self.invariant)
