-- What contracts see of a channel's outbox, and what every outbox keeps. That a client sends and absolves within the guarantees it holds and within a limit of its own, and that a server may plead, is LCMUX's; that the guarantees lie in a credit, the frames are put on a lane of a bounded queue, and a client may finish is this project's own.
use Rattle.std.specs.Prelude.{◌≡◌, ℕ, ◌<◌, ◌≤◌, true, false, List, [], ◌∷◌, ◌++◌, length, Option, None, is_some, option_to_list}
use Rattle.lc_history.specs.History.{IsHistory}
use Rattle.lc_frame.specs.declared.version.Version.{Version}
use Rattle.lc_frame.specs.declared.channel.Channel.{Channel}
use Rattle.lc_frame.specs.declared.frame.Frame.{Frame}
use Rattle.lc_frame.specs.declared.frame.Frame.TheVariants.{Send, Absolve, LimitSending, Finish}
use Rattle.lc_frame.specs.declared.kind.Kind.TheVariants as kinds
use Rattle.lc_frame.specs.Kind.{has, max_amount}
use Rattle.lc_frame.specs.Channel.{number_of}
use Rattle.lc_frame.specs.Frame.{channel_of}
use Rattle.lc_frame.specs.Stream.{cost, absolved, send_left, finished}
use Rattle.lc_book.specs.Limit.{limit_refusal}
use Rattle.lc_book.specs.Client.{message_refusal}
use Rattle.lc_queue.specs.Parts.{End, IsSameEnd}
use Rattle.lc_credit.specs.Sides.{Outgoing, IsIdle}
use Rattle.lc_credit.specs.Channels.{SameCredit}
use Rattle.lc_outbox.specs.Uses.{uses, amounts}

-- the channel, the end of the lane on which its client puts, its credit, what is left of the limit on sending, and the target of the plead that was taken and is not answered
pub record OutboxState : Type 0 where
  pub channel : Channel
  pub lane : End
  pub credit : Outgoing
  pub send_left : Option ℕ
  pub asked : Option ℕ

-- no limit was set, and no plead was taken
abbrev pub new_outbox : Channel → End → Outgoing → OutboxState
new_outbox channel lane credit = record { channel = channel; lane = lane; credit = credit; send_left = None; asked = None }

-- what a client's frame is on a stream of the version, where so much is left of the limit on sending, whatever is held: the length and the limit allow a message, an amount that is absolved is one that a frame carries, a limit raises none, and the version has a Finish
abbrev pub IsAllowed : Version → Option ℕ → Frame → Type 0
IsAllowed version left (Send c body) = message_refusal version left (length body) ≡ None
IsAllowed version left (Absolve c amount) = (0 < amount) × (amount ≤ max_amount)
IsAllowed version left (LimitSending c bound) = limit_refusal left bound ≡ None
IsAllowed version left (Finish c) = has version kinds.Finish ≡ true
IsAllowed version left f = ⊥

-- when a client may put a frame after those before it: it is on the client's channel, none of those is a Finish, and it is allowed
abbrev pub MayPut : Version → Channel → List Frame → Frame → Type 0
MayPut version c before f = (channel_of f ≡ c) × (finished c before ≡ false) × IsAllowed version (send_left c before) f

-- what every outbox keeps: the lane is the channel's; nothing is pending; what was spent and absolved are the sums of the frames that were put there; the uses that stand are these frames' amounts, one by one, and then what was waived; the credit is finished where a Finish was put; what is left of the limit is that of what was put; and each frame that was put might follow those before it
pub record IsOutbox (o : OutboxState) : Type 0 where
  pub lane : o.lane.lane ≡ number_of o.channel
  pub idle : IsIdle o.credit
  pub spent : o.credit.spent ≡ cost o.channel o.lane.put
  pub absolved : o.credit.absolved ≡ absolved o.channel o.lane.put
  pub uses : uses o.credit.seen ≡ amounts o.lane.put ++ option_to_list o.credit.waived
  pub finished : is_some o.credit.waived ≡ finished o.channel o.lane.put
  pub left : o.send_left ≡ send_left o.channel o.lane.put
  pub rules : IsHistory (MayPut o.lane.version o.channel) o.lane.put

-- it is still the outbox of the same channel, on the same lane of one queue, with the same credit
pub record IsSameOutbox (old new : OutboxState) : Type 0 where
  pub channel : new.channel ≡ old.channel
  pub lane : IsSameEnd old.lane new.lane
  pub credit : SameCredit old.credit new.credit

-- a frame is put, as the last
abbrev pub put : Frame → OutboxState → OutboxState
put f o = record o { lane = record o.lane { put = o.lane.put ++ f ∷ [] } }
