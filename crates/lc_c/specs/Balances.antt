-- The balances of a channel as C reads them. A limit, or a plead, that is not there stands as the greatest number, which none of them can be.
use Rattle.std.specs.Prelude.{ℕ, Bool, ◌-◌, ◌^◌, if◌then◌else◌, Option, Some, None}
use Rattle.lc_book.specs.Client.{Client, held, waived as client_waived}
use Rattle.lc_book.specs.Server.{Server, outstanding, buffered, room, waived as server_waived}
use Rattle.lc_c.specs.declared.balances.LcmuxClient.{LcmuxClient}
use Rattle.lc_c.specs.declared.balances.LcmuxServer.{LcmuxServer}

-- the number, or the greatest where there is none
abbrev pub or_no_limit : Option ℕ → ℕ
or_no_limit None = 2 ^ 64 - 1
or_no_limit (Some n) = n

-- 1 where it is so, else 0
abbrev pub flag : Bool → ℕ
flag is = if is then 1 else 0

-- the bytes of a struct for a client's balances
abbrev pub client_size : ℕ
client_size = 80

-- the bytes of a struct for a server's balances
abbrev pub server_size : ℕ
server_size = 104

-- the balances of a channel's client, in a struct whose size the caller wrote into it
abbrev pub client_shown : ℕ → Client → LcmuxClient
client_shown size b = record { size = size; held = held b; received = b.received; spent = b.spent; absolved = b.absolved; waived = client_waived b; send_left = or_no_limit b.send_left; receive_left = or_no_limit b.receive_left; asked = or_no_limit b.asked; finished = flag b.finished }

-- the balances of a channel's server, in such a struct
abbrev pub server_shown : ℕ → Server → LcmuxServer
server_shown size b = record { size = size; capacity = b.capacity; issued = b.issued; received = b.arrived; taken = b.taken; absolved = b.absolved; outstanding = outstanding b; buffered = buffered b; room = room b; waived = server_waived b; send_left = or_no_limit b.send_left; receive_left = or_no_limit b.receive_left; finished = flag b.finished }
