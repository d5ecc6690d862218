-- Where the bytes of a receiving ring are. That guarantees held, on their way and outstanding are bytes of the ring is LCMUX's; this count of them is this project's own.
use Rattle.std.specs.Prelude.{◌≡◌, ℕ, ◌+◌, min}
use Rattle.lc_book.specs.Client.{Client, held}
use Rattle.lc_book.specs.Server.{Server, outstanding, buffered, room}
use Rattle.lc_play.specs.declared.standing.Ring.{Ring}

-- every byte of the ring is counted once: it is promised, of which the client holds what its book says and the rest is on the wire, or buffered, or free. Two books of one channel agree; where others are given, no more is held than is promised
pub record AddsUp (client : Client) (server : Server) (ring : Ring) : Type 0 where
  pub is_held : ring.held ≡ min (held client) (outstanding server)
  pub promised : ring.held + ring.wire ≡ outstanding server
  pub is_buffered : ring.buffered ≡ buffered server
  pub is_room : ring.room ≡ room server
  pub whole : ring.held + ring.wire + ring.buffered + ring.room ≡ server.capacity
