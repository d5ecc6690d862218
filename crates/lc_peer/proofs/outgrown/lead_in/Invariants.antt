use Rattle.std.proofs.Common.{ℕ, List, ◌-◌, length}
use Rattle.lc_peer.specs.Longer.{KeepsFew}
use Rattle.lc_peer.specs.Rings.{Leads, KeepsHead}
use Rattle.lc_peer.proofs.outgrown.lead_in.Given as goal

abbrev pub invariant-heads : goal.invariant-heads
invariant-heads l = Leads l.fn.decoder l.decoder l.piece l.taken × ((rings : List ℕ) → KeepsFew rings l.fn.decoder → KeepsHead rings l.decoder)

abbrev pub decreases-heads : goal.decreases-heads
decreases-heads l = length l.piece - l.taken
