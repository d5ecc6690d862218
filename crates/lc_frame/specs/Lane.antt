-- The lanes of a peer, two for each channel, and their numbers. They are this project's own.
use Rattle.std.specs.Prelude.{ℕ, ◌+◌, ◌*◌}
use Rattle.lc_frame.specs.declared.lane.Lane.{Lane}
use Rattle.lc_frame.specs.declared.lane.Lane.TheVariants.{Client, Server}
use Rattle.lc_frame.specs.Channel.{channel_count, number_of}

-- how many lanes there are
abbrev pub lane_count : ℕ
lane_count = 2 * channel_count

-- a lane's number: the channel's for a client, `channel_count` more for a server
abbrev pub lane_number : Lane → ℕ
lane_number (Client c) = number_of c
lane_number (Server c) = channel_count + number_of c
