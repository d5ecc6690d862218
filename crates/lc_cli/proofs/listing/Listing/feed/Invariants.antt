use Rattle.std.proofs.Common.{◌≡◌, ◌+◌, ◌++◌, List, ℕ, length}
use Rattle.lc_frame.specs.Stored.{IsUndecided}
use Rattle.lc_cli.specs.Listed.{ListsOn}
use Rattle.lc_cli.proofs.listing.Listing.feed.Given as goal

abbrev pub invariant-loop-rest : goal.invariant-loop-rest
invariant-loop-rest g l =
    (l.self.position + length l.rest ≡ l.initial.self.position + length l.piece) × IsUndecided l.self.decoder
    × ((front : List ℕ) × ((l.piece ≡ front ++ l.rest) × ListsOn l.initial.self.decoder front l.self.decoder (g.W.Write.contents l.initial.out) (g.W.Write.contents l.out)))

abbrev pub decreases-loop-rest : goal.decreases-loop-rest
decreases-loop-rest g l = length l.rest
