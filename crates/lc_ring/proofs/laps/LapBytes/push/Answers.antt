use Rattle.lc_ring.proofs.Places.{pushed-far}
use Rattle.lc_ring.proofs.laps.LapBytes.push.Goals as goal

pub returns-else-self : goal.returns-else-self
returns-else-self c =
    let laps = c.self.inside in
    pushed-far laps.block.items c.args.bytes.now c.put-else-self.new.block.items laps.gone laps.end laps.next laps.turn laps.longest _ c.self.invariant c.args.self.now c.self.view_is c.requires.room c.if-self.false c.put-else-self.ensures.items
