-- Two finished sessions as a state of two peers. That two sessions are two peers is this project's own claim.
use Rattle.std.specs.Prelude.{◌≡◌, ℕ}
use Rattle.lc_frame.specs.declared.channel.Channel.{Channel}
use Rattle.lc_inbox.specs.History as inboxes
use Rattle.lc_world.specs.declared.event.Side.TheVariants.{A, B}
use Rattle.lc_world.specs.State.{Versions, Line, stream, taken_messages}
use Rattle.lc_world.specs.Histories.{History, IsHistory}
use Rattle.lc_world.specs.Guarantee.{state_of, KeepsGuarantees}
use Rattle.lc_interleaving.specs.Interleaving.{Trace}

-- a line is the stream that one session wrote, as far as the other heard and took it
pub record IsLineBetween (l : Line) (writer reader : Trace) : Type 0 where
  pub version : l.version ≡ writer.version
  pub put : stream l ≡ writer.put
  pub heard : l.arrived ≡ reader.heard
  pub took : (c : Channel) → taken_messages c l ≡ inboxes.took (reader.inbox c)

-- the versions of the streams that two sessions wrote
abbrev pub versions_of : Trace → Trace → Versions
versions_of a b A = a.version
versions_of a b B = b.version

-- the history is legal, and the state that it leaves has the streams of both sessions; so all that every history keeps is kept
pub record IsStateOfBoth (capacity : ℕ) (a b : Trace) (history : History) : Type 0 where
  pub is_history : IsHistory capacity (versions_of a b) history
  pub a_line : IsLineBetween (state_of capacity (versions_of a b) history).a a b
  pub b_line : IsLineBetween (state_of capacity (versions_of a b) history).b b a
  pub guarantees : KeepsGuarantees capacity (versions_of a b) history
