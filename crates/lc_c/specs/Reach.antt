-- What stands behind a handle, a side or a session, and the number of a channel, for calls that concern a channel. A call that comes to none answers its code and changes nothing.
use Rattle.std.specs.Prelude.{◌≡◌, Option, Some, None, ⊤}
use Rattle.lc_frame.specs.declared.channel.Channel.{Channel}
use Rattle.lc_c.specs.declared.answer.LcmuxAnswer.{LcmuxAnswer}
use Rattle.lc_c.specs.declared.reach.Target.{Target}
use Rattle.lc_c.specs.declared.reach.Target.TheVariants.{Barred, At}
use Rattle.lc_c.specs.Answers.{only, no_peer, no_channel}

-- the answer of a call: what it answers at a side and a channel, or the code where there is none
abbrev pub answered : {A : Type 0} → Option A → Option Channel → (A → Channel → LcmuxAnswer) → LcmuxAnswer
answered None channel answer = only no_peer
answered (Some side) None answer = only no_channel
answered (Some side) (Some channel) answer = answer side channel

-- what a call leaves behind the handle
abbrev pub changed : {A : Type 0} → Option A → Option Channel → (A → Channel → A) → Option A
changed None channel change = None
changed (Some side) None change = Some side
changed (Some side) (Some channel) change = Some (change side channel)

-- what a call gives out: what it gives at a side and a channel, or what was there before
abbrev pub given : {A : Type 0} {B : Type 0} → Option A → Option Channel → (A → Channel → B) → B → B
given None channel give before = before
given (Some side) None give before = before
given (Some side) (Some channel) give before = give side channel

-- a call comes to this: its code where there is no side or no channel, and nothing changes; else what it does at both
abbrev pub Called : {A : Type 0} → Option A → Option Channel → (A → Channel → A → LcmuxAnswer → Type 0) → Option A → LcmuxAnswer → Type 0
Called None channel call left answer = (left ≡ None) × (answer ≡ only no_peer)
Called (Some side) None call left answer = (left ≡ Some side) × (answer ≡ only no_channel)
Called {A} (Some side) (Some channel) call left answer = (new : A) × ((left ≡ Some new) × call side channel new answer)

-- the answer of a call that names no channel: what it answers at a side, or the code where there is none
abbrev pub answered_alone : {A : Type 0} → Option A → (A → LcmuxAnswer) → LcmuxAnswer
answered_alone None answer = only no_peer
answered_alone (Some side) answer = answer side

-- such a call comes to this: its answer where there is no side, and nothing changes; else what it does at one
abbrev pub CalledAlone : {A : Type 0} {B : Type 0} → B → Option A → (A → A → B → Type 0) → Option A → B → Type 0
CalledAlone none None call left answer = (left ≡ None) × (answer ≡ none)
CalledAlone {A} none (Some side) call left answer = (new : A) × ((left ≡ Some new) × call side new answer)

-- there is no side or no channel
abbrev pub IsBarred : {A : Type 0} → Option A → Option Channel → Type 0
IsBarred None channel = ⊤
IsBarred (Some side) None = ⊤
IsBarred (Some side) (Some channel) = ⊥

-- a call comes to no side or to no channel: whatever it would be, this is its answer, and nothing changes
pub record StaysBarred {A : Type 0} (answer : LcmuxAnswer) (held : Option A) (channel : Option Channel) (left : Option A) : Type 0 where
  pub barred : IsBarred held channel
  pub answers : (f : A → Channel → LcmuxAnswer) → answered held channel f ≡ answer
  pub changes : (g : A → Channel → A) → changed held channel g ≡ held
  pub same : left ≡ held

-- a call comes to this side and this channel; the side is out of the handle
pub record ComesTo {A : Type 0} (side : A) (c : Channel) (held : Option A) (channel : Option Channel) (left : Option A) : Type 0 where
  pub stands : held ≡ Some side
  pub numbered : channel ≡ Some c
  pub out : left ≡ None

-- what a call comes to: its answer where there is no side or no channel, or a side and a channel
abbrev pub Reaches : {A : Type 0} → Target A → Option A → Option Channel → Option A → Type 0
Reaches (Barred answer) held channel left = StaysBarred answer held channel left
Reaches (At side c) held channel left = ComesTo side.value c held channel left
