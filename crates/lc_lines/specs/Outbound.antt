-- What of the outbound queue is messages, and what permits hold of it: how many of both each channel has, the slots that only their owners take, and the bytes of the messages. The slots of the queue and its bound in bytes are this project's own.
use Rattle.std.specs.Prelude.{◌≤◌, ℕ, zero, suc, ◌+◌, ◌-◌, ◌==◌, ◌||◌, nat_lt, nat_le, Bool, List, [], ◌∷◌, length, map, slice_set, slice_index, sum_by}
use Rattle.lc_frame.specs.declared.channel.Channel.{Channel}
use Rattle.lc_frame.specs.declared.channel.Channel.TheVariants.{Reconciliation, Data, Overlap, Capability, AreaOfInterest, PayloadRequest, StaticToken}
use Rattle.lc_frame.specs.declared.frame.Frame.{Frame}
use Rattle.lc_frame.specs.declared.frame.Frame.TheVariants.{Send}
use Rattle.lc_frame.specs.Channel.{number_of}
use Rattle.lc_frame.specs.Stream.{messages}
use Rattle.lc_peer.specs.Peer.{PeerState}
use Rattle.lc_lines.specs.declared.permits.Aside.{Aside}
use Rattle.lc_lines.specs.Permits.{none_aside, permits_on, permits_out}

-- all channels, by their numbers
abbrev pub every_channel : List Channel
every_channel = Reconciliation ∷ Data ∷ Overlap ∷ Capability ∷ AreaOfInterest ∷ PayloadRequest ∷ StaticToken ∷ []

-- the slots that messages leave free: one for a control frame on each channel
abbrev pub control_slots : ℕ
control_slots = 7

-- the fewest slots of a session: those for control frames, and one of its own for each channel
abbrev pub least_slots : ℕ
least_slots = 14

-- the most bytes of messages that are queued, where there is more than one
abbrev pub most_queued : ℕ
most_queued = 65536

-- how many messages of a channel are queued
abbrev pub queued : Channel → List Frame → ℕ
queued c frames = length (messages c frames)

-- 1 where there is none of something, else 0
abbrev pub none : ℕ → ℕ
none zero = 1
none (suc n) = 0

-- how many messages of a channel are queued, and permits of it out
abbrev pub under_way : List Frame → List Aside → Channel → ℕ
under_way frames aside c = queued c frames + permits_on aside c

-- the channels' own slots that are unused: one for each channel of which nothing is under way
abbrev pub unused : List Frame → List Aside → ℕ
unused frames aside = sum_by (λ c. none (under_way frames aside c)) every_channel

-- the free slots that only their owners take: the unused ones of the channels' own, and those of permits
abbrev pub kept : List Frame → List Aside → ℕ
kept frames aside = unused frames aside + permits_out aside

-- the bytes of the message of a frame
abbrev pub message_len : Frame → ℕ
message_len (Send c body) = length body
message_len f = 0

-- the bytes of all messages among frames
abbrev pub message_bytes : List Frame → ℕ
message_bytes [] = 0
message_bytes (f ∷ frames) = message_len f + message_bytes frames

-- 1 for a message, 0 for any other frame
abbrev pub message_one : Frame → ℕ
message_one (Send c body) = 1
message_one f = 0

-- how many messages there are among frames
abbrev pub message_count : List Frame → ℕ
message_count [] = 0
message_count (f ∷ frames) = message_one f + message_count frames

-- how many frames more may be queued
abbrev pub free_slots : PeerState → ℕ
free_slots p = p.slots - length p.waiting

-- whether a channel's own slot is free: no message of it is queued, and no permit of it is out
abbrev pub is_own_free : PeerState → List Aside → Channel → Bool
is_own_free p aside c = under_way p.waiting aside c == 0

-- whether a shared slot is free: more than those for control frames and those that only their owners take
abbrev pub is_shared_free : PeerState → List Aside → Bool
is_shared_free p aside = nat_lt control_slots (free_slots p - kept p.waiting aside)

-- whether a slot is free for a message or a permit of a channel
abbrev pub has_slot : PeerState → List Aside → Channel → Bool
has_slot p aside c = is_own_free p aside c || is_shared_free p aside

-- whether a slot is free for a control frame: more than those that only their owners take
abbrev pub has_control_slot : PeerState → List Aside → Bool
has_control_slot p aside = nat_lt (kept p.waiting aside) (free_slots p)

-- whether a message of so many bytes fits beside so many that are queued
abbrev pub fits : ℕ → ℕ → Bool
fits bytes len = bytes == 0 || nat_le (bytes + len) most_queued

-- how many messages and permits of each channel are under way, the free slots that only their owners take, and the bytes of all messages
pub record Counts : Type 0 where
  pub under_way : List ℕ
  pub kept : ℕ
  pub bytes : ℕ

-- the counts of frames and permits
abbrev pub counts_of : List Frame → List Aside → Counts
counts_of frames aside = record { under_way = map (λ c. under_way frames aside c) every_channel; kept = kept frames aside; bytes = message_bytes frames }

-- the counts of an empty queue, where no permit is out
abbrev pub no_counts : Counts
no_counts = counts_of [] none_aside

-- the counts once a message of so many bytes entered the queue: the first of its channel takes the channel's own slot
abbrev pub with_message : Counts → Channel → ℕ → Counts
with_message s c len = record {
  under_way = slice_set s.under_way (number_of c) (slice_index s.under_way (number_of c) + 1);
  kept = s.kept - none (slice_index s.under_way (number_of c));
  bytes = s.bytes + len;
}

-- the counts once a message of so many bytes left the queue: the last of its channel leaves the channel's own slot
abbrev pub without_message : Counts → Channel → ℕ → Counts
without_message s c len = record {
  under_way = slice_set s.under_way (number_of c) (slice_index s.under_way (number_of c) - 1);
  kept = s.kept + none (slice_index s.under_way (number_of c) - 1);
  bytes = s.bytes - len;
}

-- the counts once a frame left the queue
abbrev pub without_frame : Counts → Frame → Counts
without_frame s (Send c body) = without_message s c (length body)
without_frame s f = s

-- the counts once a permit was granted: it holds the channel's own slot where that is free, else one more
abbrev pub with_grant : Counts → Channel → Counts
with_grant s c = record s {
  under_way = slice_set s.under_way (number_of c) (slice_index s.under_way (number_of c) + 1);
  kept = s.kept + 1 - none (slice_index s.under_way (number_of c));
}

-- the counts once a permit left its slot: where it was the last of its channel that was under way, that is the channel's own
abbrev pub without_grant : Counts → Channel → Counts
without_grant s c = record s {
  under_way = slice_set s.under_way (number_of c) (slice_index s.under_way (number_of c) - 1);
  kept = s.kept - 1 + none (slice_index s.under_way (number_of c) - 1);
}

-- the counts once so many permits of a channel left their slots
abbrev pub without_permits : Counts → Channel → ℕ → Counts
without_permits s c n = record s {
  under_way = slice_set s.under_way (number_of c) (slice_index s.under_way (number_of c) - n);
  kept = s.kept + none (slice_index s.under_way (number_of c) - n) - none (slice_index s.under_way (number_of c)) - n;
}

-- the counts once a message of so many bytes entered the queue by a permit, whose slot it takes: of its channel as much is under way as before
abbrev pub with_use : Counts → ℕ → Counts
with_use s len = record s { kept = s.kept - 1; bytes = s.bytes + len }

-- a message that is counted among others: its channel has one, and they have its bytes
pub record IsCountedMessage (s : Counts) (c : Channel) (len : ℕ) : Type 0 where
  pub under_way : 1 ≤ slice_index s.under_way (number_of c)
  pub bytes : len ≤ s.bytes

-- a frame is counted: where it is a message, as one
abbrev pub IsCounted : Counts → Frame → Type 0
IsCounted s (Send c body) = IsCountedMessage s c (length body)
IsCounted s f = Unit {0}
