-- What a replay of a script prints. That each event of a script is answered by a line is this project's own.
use Rattle.std.specs.Prelude.{◌≡◌, ℕ, List, [], ◌∷◌, length, Option}
use Rattle.std.specs.List.{flat_map, zip}
use Rattle.std.specs.Io.KnownBytes.{Appends}
use Rattle.lc_frame.specs.declared.version.Version.{Version}
use Rattle.lc_world.specs.declared.event.Answer.{Answer}
use Rattle.lc_world.specs.declared.event.Event.{Event}
use Rattle.lc_world.specs.State.{by_side}
use Rattle.lc_world.specs.Histories.{IsHistory}
use Rattle.lc_cli.specs.Lines.{answer_line}
use Rattle.lc_cli.specs.Script.{IsScript}

-- the events of the script got right answers between two new peers, and the line of each was printed, in order
pub record Replays (capacity : ℕ) (version : Version) (script : List ℕ) (old new : Option (List ℕ)) : Type 0 where
  pub events : List Event
  pub are : IsScript script events
  pub answers : List Answer
  pub count : length answers ≡ length events
  pub legal : IsHistory capacity (by_side (version ∷ version ∷ [])) (zip events answers)
  pub printed : Appends old new (flat_map answer_line answers)
