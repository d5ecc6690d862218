-- The pending control frames of a channel, and which calls are accepted beside them. That control calls stay pending where no slot is free is this project's own.
use Rattle.std.specs.Prelude.{ℕ, ◌+◌, ◌-◌, ◌^◌, min, true, false, Some, None}
use Rattle.std.specs.Option.{option_or, option_map}
use Rattle.lc_book.specs.Client.{Client}
use Rattle.lc_book.specs.Server.{Server}
use Rattle.lc_book.specs.Limit.{less}
use Rattle.lc_lines.specs.declared.permits.Aside.{Aside}
use Rattle.lc_owed.specs.declared.pending.Pending.{Pending}

-- nothing is pending
abbrev pub nothing_pending : Pending
nothing_pending = record { issue = 0; limit = None; plead = None; absolve = 0; honour = false }

-- the receiver's book once what is pending of it was put: the issue, and then the limit
abbrev pub beside : Server → Pending → Server
beside b o = record b { issued = b.issued + o.issue; receive_left = option_or o.limit (less b.receive_left o.issue) }

-- the sender's book once what is pending of it was absolved, and what permits set aside, too
abbrev pub spared : Client → Aside → Pending → Client
spared b a o = record b { absolved = b.absolved + o.absolve + a.bytes }

-- the target of a plead, so much higher; the greatest number asks for nothing
abbrev pub raised : ℕ → ℕ → ℕ
raised n target = min (target + n) (2 ^ 32 - 1)

-- an issue joins the pending one. It is put before the pending limit and plead, which were called for earlier: so the limit leaves so much less and the plead's target is so much higher, and all is as if they were put in the order of the calls
abbrev pub with_issue : Pending → ℕ → Pending
with_issue o n = record o { issue = o.issue + n; limit = less o.limit n; plead = option_map (raised n) o.plead }

-- a limit on receiving takes the place of the pending one
abbrev pub with_limit : Pending → ℕ → Pending
with_limit o bound = record o { limit = Some bound }

-- a plead takes the place of the pending one
abbrev pub with_plead : Pending → ℕ → Pending
with_plead o target = record o { plead = Some target }

-- an absolve joins the pending one
abbrev pub with_absolve : Pending → ℕ → Pending
with_absolve o n = record o { absolve = o.absolve + n }

-- an honour is pending
abbrev pub with_honour : Pending → Pending
with_honour o = record o { honour = true }
