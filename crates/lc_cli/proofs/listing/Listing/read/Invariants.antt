use Rattle.std.proofs.Common.{◌≤◌, ◌-◌, List, ℕ}
use Rattle.std.specs.Io.KnownBytes.{Consumes}
use Rattle.lc_frame.specs.Stored.{IsUndecided}
use Rattle.lc_cli.specs.Listed.{ListsOn}
use Rattle.lc_cli.proofs.listing.Listing.read.Given as goal

abbrev pub invariant-loop-input : goal.invariant-loop-input
invariant-loop-input g l =
    (l.self.position ≤ 16777216) × IsUndecided l.self.decoder
    × ((came : List ℕ) × (Consumes (g.R.Read.remaining l.initial.input) (g.R.Read.remaining l.input) came × ListsOn l.initial.self.decoder came l.self.decoder (g.W.Write.contents l.initial.out) (g.W.Write.contents l.out)))

abbrev pub decreases-loop-input : goal.decreases-loop-input
decreases-loop-input g l = 16777216 - l.self.position
