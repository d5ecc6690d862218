-- Policies: when a receiver issues without a call, and when a sender honours a plead without one. They are this project's own.
use Rattle.std.specs.Prelude.{ℕ, ◌-◌, ◌||◌, min, nat_lt, Bool, true, false, if◌then◌else◌, Option, Some, None, is_some}
use Rattle.lc_frame.specs.Kind.{max_total}
use Rattle.lc_book.specs.Client.{Client}
use Rattle.lc_book.specs.Server.{Server, outstanding, room}
use Rattle.lc_lines.specs.Permits.{within}
use Rattle.lc_owed.specs.declared.policy.IssuePolicy.{IssuePolicy}
use Rattle.lc_owed.specs.declared.policy.IssuePolicy.TheVariants as issues
use Rattle.lc_owed.specs.declared.policy.PleadPolicy.{PleadPolicy}
use Rattle.lc_owed.specs.declared.policy.PleadPolicy.TheVariants as honours
use Rattle.lc_owed.specs.declared.policy.Policies.{Policies}
use Rattle.lc_owed.specs.declared.pending.Pending.{Pending}
use Rattle.lc_owed.specs.Pending.{beside, with_issue}

-- the policies of a new session: all room is issued at once, and each plead is honoured at once
abbrev pub new_policies : Policies
new_policies = record { issue = issues.AtOnce; target = None; plead = honours.AtOnce }

-- whether a policy issues where so many guarantees are outstanding
abbrev pub issues_at : IssuePolicy → ℕ → Bool
issues_at issues.AtOnce n = true
issues_at (issues.LowWater mark) n = nat_lt n mark
issues_at issues.ByCaller n = false

-- the most that a policy leaves outstanding: the target of the last plead, or the bytes of the ring
abbrev pub most_outstanding : Server → Option ℕ → ℕ
most_outstanding b None = b.capacity
most_outstanding b (Some target) = target

-- how much may be issued at most: the room of the ring, within what the limit on receiving and the profile's total leave
abbrev pub issuable : Server → ℕ
issuable b = within b.receive_left (min (room b) (max_total - b.issued))

-- how much a policy issues on a channel: what may be issued, up to the most that it leaves outstanding; nothing where the sender finished
abbrev pub due_by_policy : IssuePolicy → Option ℕ → Server → ℕ
due_by_policy policy target b =
    if b.finished then 0
    else (if issues_at policy (outstanding b) then min (issuable b) (most_outstanding b target - outstanding b)
    else 0)

-- whether a policy honours the plead that a sender keeps, if it keeps one
abbrev pub honours_by_policy : PleadPolicy → Client → Bool
honours_by_policy honours.AtOnce b = is_some b.asked
honours_by_policy honours.ByCaller b = false

-- a policy makes the calls that are due by it: what it issues joins the pending issue, as that of a call would, and the plead that it honours is pending
abbrev pub by_policy : Policies → Client → Server → Pending → Pending
by_policy p client server o = record (with_issue o (due_by_policy p.issue p.target (beside server o))) { honour = o.honour || honours_by_policy p.plead client }
