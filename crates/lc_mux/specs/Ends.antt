-- How a session ends, and what it takes no more then. These rules are this project's own.
use Rattle.std.specs.Prelude.{◌==◌, ◌&&◌, ◌||◌, Bool, true, if◌then◌else◌, List, [], ◌∷◌, length, is_some, Option, Some, None}
use Rattle.std.specs.Option.{option_or}
use Rattle.lc_frame.specs.declared.channel.Channel.{Channel}
use Rattle.lc_peer.specs.declared.delivery.Stop.{Stop}
use Rattle.lc_peer.specs.declared.delivery.Stop.TheVariants as stop
use Rattle.lc_peer.specs.Peer.{PeerState, server}
use Rattle.lc_lines.specs.Outbound.{every_channel}
use Rattle.lc_lines.specs.Closing.{is_used_up, is_finished, close as close_lines}
use Rattle.lc_lines.specs.Lines.{with_scheduler}
use Rattle.lc_mux.specs.declared.end.End.{End}
use Rattle.lc_mux.specs.declared.end.End.TheVariants.{Local, Remote, Cut, Violated, Fault}
use Rattle.lc_mux.specs.Mux.{MuxState}

-- the end of a session whose inbound stream was given up, if it was
abbrev pub end_of_stop : Option Stop → Option End
end_of_stop None = None
end_of_stop (Some (stop.Violated violation)) = Some (Violated violation)
end_of_stop (Some (stop.Fault fault)) = Some (Fault fault)

-- whether this side has finished each of these channels
abbrev pub are_finished : PeerState → List Channel → Bool
are_finished p [] = true
are_finished p (c ∷ channels) = is_finished p c && are_finished p channels

-- whether nothing is to be written: no frame is queued, and none is partly written
abbrev pub is_written : MuxState → Bool
is_written m = length m.pending == 0 && length m.lines.scheduler.peer.waiting == 0

-- whether the outbound stream ends here: this side closed the session, has finished all channels, and has written all
abbrev pub is_done_writing : MuxState → Bool
is_done_writing m = m.closing && (is_written m && are_finished m.lines.scheduler.peer every_channel)

-- whether the peer has finished a channel: it sent a Finish, or its limit on sending is used up
abbrev pub is_finished_there : PeerState → Channel → Bool
is_finished_there p c = (server p c).finished || is_used_up (server p c).send_left

-- the same of each of these channels
abbrev pub are_finished_there : PeerState → List Channel → Bool
are_finished_there p [] = true
are_finished_there p (c ∷ channels) = is_finished_there p c && are_finished_there p channels

-- whether the inbound stream ends in order where it ends here: between two frames, and the peer has finished all channels
abbrev pub ends_in_order : MuxState → Bool
ends_in_order m = length m.intake.held.bytes == 0 && are_finished_there m.lines.scheduler.peer every_channel

-- why a session is over, if it is: by the first end that it met, or in order, since both streams have ended in order
abbrev pub over : MuxState → Option End
over m = option_or m.end (if m.input_ended && is_done_writing m then Some Local else None)

-- why no bytes arrive any more: the session is over, or the peer ended its stream in order
abbrev pub input_over : MuxState → Option End
input_over m = option_or (over m) (if m.input_ended then Some Remote else None)

-- why no call of a sender and no control call is made any more: the session is over, or this side closed it
abbrev pub call_over : MuxState → Option End
call_over m = option_or (over m) (if m.closing then Some Local else None)

-- a session ends, unless it is over
abbrev pub end_by : End → MuxState → MuxState
end_by end m = if is_some (over m) then m else record m { end = Some end }

-- the inbound stream ends, unless it has: in order, or the session is cut
abbrev pub end_input : MuxState → MuxState
end_input m = if is_some (input_over m) then m else (if ends_in_order m then record m { input_ended = true } else record m { end = Some Cut })

-- this side closes a session that is not over: its lines are closed
abbrev pub close : MuxState → MuxState
close m = if is_some (over m) then m else record m { lines = with_scheduler m.lines (close_lines m.lines.scheduler); closing = true }
