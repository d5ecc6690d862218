-- A session when it begins. These rules are this project's own.
use Rattle.std.specs.Prelude.{◌≡◌, ◌+◌, List, [], ◌∷◌, take, drop, None}
use Rattle.lc_frame.specs.Stored.{nothing_stored}
use Rattle.lc_frame.specs.declared.channel.Channel.{Channel}
use Rattle.lc_frame.specs.Channel.{channel_count}
use Rattle.lc_frame.specs.Lane.{lane_count}
use Rattle.lc_peer.specs.declared.config.Config.{Config}
use Rattle.lc_peer.specs.Config.{config_fault}
use Rattle.lc_queue.specs.Parts.{End, places_of, new_ends, new_outlet}
use Rattle.lc_credit.specs.Sides.{Outgoing}
use Rattle.lc_credit.specs.Channels as credits
use Rattle.lc_inbox.specs.Inboxes as inboxes
use Rattle.lc_outbox.specs.Outbox.{OutboxState, new_outbox}
use Rattle.lc_session.specs.Channels.{channels}
use Rattle.lc_session.specs.Pumping.{new_pumping}
use Rattle.lc_session.specs.Report.{SessionState, outgoing_of, AreOfOneSession}

-- of each channel the new outbox that puts on this lane and has this credit
abbrev pub new_outboxes : List Channel → List End → List Outgoing → List OutboxState
new_outboxes (c ∷ cs) (lane ∷ lanes) (credit ∷ credits) = new_outbox c lane credit ∷ new_outboxes cs lanes credits
new_outboxes cs lanes credits = []

-- a session of a lawful configuration: nothing has happened on any channel, and nothing was read or written, not even the greeting of its version; its queue has a place for each lane beside the slots that they share
pub record IsNewSession (config : Config) (s : SessionState) : Type 0 where
  pub lawful : config_fault config ≡ None
  pub one : AreOfOneSession s
  pub sending_new : s.sending ≡ new_outboxes channels (take channel_count (new_ends s.writing.drain.queue config.version)) (outgoing_of s)
  pub credits_new : credits.AreNew s.reading.side.credits (outgoing_of s)
  pub inboxes_new : inboxes.AreNew config.capacities (drop channel_count (new_ends s.writing.drain.queue config.version)) s.reading.side.inboxes s.receiving
  pub reading_new : s.reading.intake ≡ record { held = nothing_stored; kept = 0; stop = None; rings = config.capacities }
  pub writing_new : s.writing ≡ new_pumping (new_outlet s.writing.drain.queue config.version)
  pub places_are : places_of s.writing.drain.queue ≡ config.slots + lane_count
