-- What a peer answers that is asked and not told: by the refusals of its calls, nothing is judged anew. These questions are this project's own.
use Rattle.std.specs.Prelude.{ℕ, ◌-◌, Bool, true, false, if◌then◌else◌, Option, Some, None, is_some}
use Rattle.std.specs.Option.{option_or}
use Rattle.lc_frame.specs.declared.channel.Channel.{Channel}
use Rattle.lc_book.specs.declared.fault.Refusal.{Refusal}
use Rattle.lc_book.specs.declared.fault.Refusal.TheVariants.{NoGuarantee, QueueFull}
use Rattle.lc_book.specs.Client.{spend_refusal}
use Rattle.lc_book.specs.Limit.{is_past}
use Rattle.lc_ring.specs.Ring.{front}
use Rattle.lc_peer.specs.declared.inbox.Take.{Take}
use Rattle.lc_peer.specs.declared.inbox.Take.TheVariants.{Ended}
use Rattle.lc_peer.specs.declared.questions.Needs.{Needs}
use Rattle.lc_peer.specs.declared.questions.Needs.TheVariants.{Nothing, Guarantees, Slot, Never}
use Rattle.lc_peer.specs.declared.questions.Ready.{Ready}
use Rattle.lc_peer.specs.Inbox.{take_answer}
use Rattle.lc_peer.specs.Peer.{PeerState, client, inbox, server}
use Rattle.lc_peer.specs.Calls.{queue_refusal}

-- why a send of so many bytes is refused, whatever they are: what `refusal` says of the frame that would carry them
abbrev pub send_refusal : PeerState → Channel → ℕ → Option Refusal
send_refusal p c len = option_or (spend_refusal (client p c) len) (queue_refusal p)

-- what a message needs for which so many guarantees are missing: they never come where the server may issue fewer
abbrev pub needs_more : Option ℕ → ℕ → Needs
needs_more receive_left missing = if is_past receive_left missing then Never else Guarantees missing

-- what a message of so many bytes needs, by the refusal of its send and what the server may still issue: any refusal but 4 and 13 is for good
abbrev pub needs_by : Option Refusal → Option ℕ → ℕ → Needs
needs_by None receive_left len = Nothing
needs_by (Some QueueFull) receive_left len = Slot
needs_by (Some (NoGuarantee held)) receive_left len = needs_more receive_left (len - held)
needs_by (Some refusal) receive_left len = Never

-- what a message of so many bytes needs before it can be sent
abbrev pub needs : PeerState → Channel → ℕ → Needs
needs p c len = needs_by (send_refusal p c len) (client p c).receive_left len

-- whether a take answers that none will find a message any more
abbrev pub says_ended : Take → Bool
says_ended Ended = true
says_ended take = false

-- what there is to do on a channel: a message to take, its end, a plead that is kept, and who finished it
abbrev pub ready_on : PeerState → Channel → Ready
ready_on p c = record { message = is_some (front (inbox p c).ring); ended = says_ended (take_answer (inbox p c)); plead = is_some (client p c).asked; finished = (client p c).finished; finished_there = (server p c).finished }
