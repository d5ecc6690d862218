-- Nothing wedges: whatever two peers did, arrivals and takes alone can bring every message that was accepted to be taken. This is this project's own.
use Rattle.std.specs.Prelude.{◌≡◌, ℕ, [], ◌++◌}
use Rattle.std.specs.List.{AllByRecursion}
use Rattle.lc_frame.specs.declared.channel.Channel.{Channel}
use Rattle.lc_world.specs.declared.event.Side.{Side}
use Rattle.lc_world.specs.declared.event.Act.{Act}
use Rattle.lc_world.specs.declared.event.Act.TheVariants.{Arrive, Take}
use Rattle.lc_world.specs.State.{Versions, line, other}
use Rattle.lc_world.specs.Answers.{waiting}
use Rattle.lc_world.specs.Guarantee.{state_of}
use Rattle.lc_world.specs.Credit.{IsQuiet}
use Rattle.lc_world.specs.Histories.{History, IsHistory, accepted, taken}

-- an arrival or a take
abbrev pub ComesOrTakes : Act → Type 0
ComesOrTakes Arrive = Unit {0}
ComesOrTakes (Take c) = Unit {0}
ComesOrTakes act = ⊥

-- arrivals and takes alone go on from the history; after them every message that it accepted is taken, on every channel and both ways, no frame is in flight, and no message waits
pub record IsDrained (capacity : ℕ) (versions : Versions) (history later : History) : Type 0 where
  pub only : AllByRecursion (λ p. ComesOrTakes p.0.act) later
  pub legal : IsHistory capacity versions (history ++ later)
  pub all_taken : (s : Side) (c : Channel) → taken c (other s) (history ++ later) ≡ accepted c s (history ++ later)
  pub none_added : (s : Side) (c : Channel) → accepted c s (history ++ later) ≡ accepted c s history
  pub quiet : IsQuiet (state_of capacity versions (history ++ later))
  pub dry : (s : Side) (c : Channel) → waiting c (line (state_of capacity versions (history ++ later)) s) ≡ []

-- every legal history can be gone on with by arrivals and takes alone, until all is taken
abbrev pub NothingWedges : Type 0
NothingWedges = (capacity : ℕ) (versions : Versions) (history : History) → IsHistory capacity versions history → (later : History) × IsDrained capacity versions history later
