-- The rule of the queue, which holds between any two steps of all threads: lane by lane, what was popped and then what is queued is what was put, and no more is queued than there are slots. Each thread knows what cannot go stale, since nobody else does it: a lane's end all that was put there, and the drain all that was popped. Each step of a thread keeps the rule, whatever the others did before it. It is this project's own.
use Rattle.std.specs.Prelude.{◌≡◌, ℕ, ◌≤◌, ◌<◌, List, [], ◌++◌, length}
use Rattle.std.specs.List.{All}
use mathlib.Core.Option.{Option, some, none}
use lib.ListN.{get_elem?}
use Rattle.lc_frame.specs.declared.frame.Frame.{Frame}
use Rattle.lc_frame.specs.Frame.{IsValid}
use Rattle.lc_frame.specs.Stream.{of_lane}
use Rattle.lc_queue.specs.declared.rule.JoinedLane.{JoinedLane}
use Rattle.lc_queue.specs.declared.rule.Terms.{Terms}
use Rattle.lc_queue.specs.declared.rule.View.{View}
use Rattle.lc_queue.specs.declared.rule.View.TheVariants.{Lane, Drain, Spent}

-- a lane whose end was joined, where `all` is what was popped and then what is queued: no pass puts there any more, and all of it is what its end had put
abbrev pub HasEnded : (ℕ → Option ℕ) → ℕ → List Frame → JoinedLane → Type 0
HasEnded seat next all l = (seat l.lane ≡ none) × (l.lane < next) × (of_lane l.lane all ≡ l.put)

-- what the rule says of one pass by what it knows, where `seat` is the pass of each lane's end, `drain` that of the drain, and `all` what was popped and then what is queued.
-- The end of a lane is the lane's only one, and knows all that was put there. The drain knows what was popped, that nothing was put in lanes which have no end yet, and what was put in those whose ends were joined. Both know how many slots there are, and the version of the stream.
abbrev pub Fits : Terms → (ℕ → Option ℕ) → ℕ → List Frame → List Frame → ℕ → View → Type 0
Fits terms seat drain popped all pass (Lane t lane put) = (t ≡ terms) × (seat lane ≡ some pass) × (of_lane lane all ≡ put)
Fits terms seat drain popped all pass (Drain t next taken joined) =
    (t ≡ terms) × (pass ≡ drain) × (popped ≡ taken) × ((lane : ℕ) → next ≤ lane → (seat lane ≡ none) × (of_lane lane all ≡ [])) × All (HasEnded seat next all) joined
Fits terms seat drain popped all pass Spent = Unit {0}

-- what is queued is valid in the version of the stream and has its slots, and there is one list of what was popped, which with what is queued fits all that any pass knows
pub record KeepsLanes (queued : List Frame) (views : List View) : Type 0 where
  pub terms : Terms
  pub seat : ℕ → Option ℕ
  pub drain : ℕ
  pub popped : List Frame
  pub room : length queued ≤ terms.slots
  pub valid : All (IsValid terms.version) queued
  pub each : (pass : ℕ) (v : View) → get_elem? views pass ≡ some v → Fits terms seat drain popped (popped ++ queued) pass v
