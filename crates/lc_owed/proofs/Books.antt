-- The receiver's book beside what is pending.
use Rattle.std.proofs.Common.{◌≡◌, ℕ, ◌+◌, ◌-◌, ◌≤◌, false, refl, arith}
use Rattle.std.specs.Prelude.{Bool, true, if◌then◌else◌}
use Rattle.lc_book.specs.Server.{Server, IsServer, waived, outstanding, room}
use Rattle.lc_owed.specs.declared.pending.Pending.{Pending}
use Rattle.lc_owed.specs.Pending.{beside}

pub nothing_waived : (f : Bool) (n : ℕ) → f ≡ false → (if f then n else 0) ≡ 0
nothing_waived true n e = cc
nothing_waived false n e = refl

-- until its sender finished, so much more is outstanding and so much less is room
pub outstanding_beside : (b : Server) (o : Pending) → IsServer b → b.finished ≡ false → outstanding (beside b o) ≡ outstanding b + o.issue
outstanding_beside b o is e =
    let none : waived b ≡ 0 = nothing_waived b.finished (b.issued - b.arrived - b.absolved) e in
    let none_beside : waived (beside b o) ≡ 0 = nothing_waived b.finished (b.issued + o.issue - b.arrived - b.absolved) e in
    let used : b.arrived + b.absolved + waived b ≤ b.issued = is.used in
    omega (arith, none, none_beside, used)

pub room_beside : (b : Server) (o : Pending) → IsServer b → b.finished ≡ false → room (beside b o) ≡ room b - o.issue
room_beside b o is e =
    let more = outstanding_beside b o is e in
    omega (arith, more)
