use Rattle.std.proofs.Common.{ℕ, ◌<◌, List, length, drop}
use Rattle.lc_frame.specs.Stored.{Stored}
use Rattle.lc_peer.specs.Longer.{KeepsFew}
use Rattle.lc_peer.specs.Rings.{GoesFrom, IsReady}
use Rattle.lc_peer.proofs.Kept.{if_none_then}
use Rattle.lc_peer.proofs.outgrown.lead_on.Goals as goal

pub returns-clause-none : goal.returns-clause-none
returns-clause-none c =
    let rings : List ℕ = c.args.rings.now in
    let new : Stored = c.lead_in-taken.new.decoder in
    let rest : List ℕ = drop c.lead_in-taken.result c.args.piece.now in
    if_none_then c.find_headed.result ((more : List ℕ) → 0 < length rings → GoesFrom rings new more → IsReady rings new more) (0 < length rings → KeepsFew rings c.args.decoder.now → IsReady rings new rest)
    (λ found named kept. found rest named (c.lead_in-taken.ensures.goes rings kept)) c.find_headed.ensures.none
