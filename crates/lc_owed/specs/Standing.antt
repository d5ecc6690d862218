-- That an accepted issue or limit stays acceptable while it is pending, until its sender finishes the channel: so it is put once, whole. A plead does until it is met.
use Rattle.std.specs.Prelude.{◌≡◌, ◌⊎◌, ◌≤◌, ℕ, Bool, true, false, List, length, Some, None}
use Rattle.std.specs.Option.{ForSome}
use Rattle.lc_frame.specs.declared.channel.Channel.{Channel}
use Rattle.lc_frame.specs.declared.frame.Frame.{Frame}
use Rattle.lc_frame.specs.Channel.{channel_count}
use Rattle.lc_book.specs.Client.{Client}
use Rattle.lc_book.specs.Server.{Server, IsServer, buffered, issue_refusal, issue as after_issue, limit_receiving_refusal, limit_server, note_taken}
use Rattle.lc_book.specs.Sums.{server_after_arrival}
use Rattle.lc_peer.specs.Peer.{server}
use Rattle.lc_peer.specs.Arrivals.{violation}
use Rattle.lc_lines.specs.declared.scheduler.Control.TheVariants as control
use Rattle.lc_lines.specs.declared.scheduler.Notice.{Notice}
use Rattle.lc_lines.specs.Scheduler.{SchedulerState}
use Rattle.lc_lines.specs.Lines.{LinesState, Ran}
use Rattle.lc_owed.specs.declared.pending.Pending.{Pending}
use Rattle.lc_owed.specs.declared.due.Due.{Due}
use Rattle.lc_owed.specs.declared.due.Due.TheVariants.{Put}
use Rattle.lc_owed.specs.Owed.{OwedState, pending_on}
use Rattle.lc_owed.specs.Due.{due, channel_of_due}
use Rattle.lc_owed.specs.Flush.{IsDropped}
use Rattle.lc_owed.specs.Pending.{beside, with_issue, with_limit}

-- what is pending of a receiver may be put: the issue, and then the limit
pub record MayBePut (b : Server) (o : Pending) : Type 0 where
  pub issue : 1 ≤ o.issue → issue_refusal b o.issue ≡ None
  pub limit : ForSome o.limit (λ bound. limit_receiving_refusal (after_issue b o.issue) bound ≡ None)

-- the same, unless the sender finished the channel
abbrev pub Stands : Server → Pending → Type 0
Stands b o = b.finished ≡ false → MayBePut b o

-- a frame of the sender arrives that violates no rule
pub record Arrives (b b' : Server) : Type 0 where
  pub client : Client
  pub frame : Frame
  pub lawful : violation client b frame ≡ None
  pub after : b' ≡ server_after_arrival frame b

-- a message is taken
pub record IsTaken (b b' : Server) : Type 0 where
  pub len : ℕ
  pub within : len ≤ buffered b
  pub after : b' ≡ note_taken b len

-- an issue is accepted beside what is pending, and joins it
pub record Issues (b : Server) (o o' : Pending) : Type 0 where
  pub amount : ℕ
  pub accepted : issue_refusal (beside b o) amount ≡ None
  pub after : o' ≡ with_issue o amount

-- a limit is accepted beside what is pending, and takes the place of the pending one
pub record Limits (b : Server) (o o' : Pending) : Type 0 where
  pub bound : ℕ
  pub accepted : limit_receiving_refusal (beside b o) bound ≡ None
  pub after : o' ≡ with_limit o bound

-- the pending issue is put
pub record PutsIssue (b : Server) (o : Pending) (b' : Server) (o' : Pending) : Type 0 where
  pub accepted : issue_refusal b o.issue ≡ None
  pub book : b' ≡ after_issue b o.issue
  pub after : o' ≡ record o { issue = 0 }

-- the pending limit is put, where no issue is pending
pub record PutsLimit (b : Server) (o : Pending) (b' : Server) (o' : Pending) : Type 0 where
  pub first : o.issue ≡ 0
  pub bound : ℕ
  pub limit : o.limit ≡ Some bound
  pub book : b' ≡ limit_server b bound
  pub after : o' ≡ record o { limit = None }

-- what happens on a channel of a receiver: a frame arrives, a message is taken, an issue or a limit is accepted, or what is pending of them is put
abbrev pub Happens : Server → Pending → Server → Pending → Type 0
Happens b o b' o' = ((Arrives b b' ⊎ IsTaken b b') × (o' ≡ o)) ⊎ (((Issues b o o' ⊎ Limits b o o') × (b' ≡ b)) ⊎ (PutsIssue b o b' o' ⊎ PutsLimit b o b' o'))

-- whatever happens, the pending issue and the pending limit may still be put, unless the sender finished the channel
abbrev pub PendingCallsStayAcceptable : Type 0
PendingCallsStayAcceptable = (b : Server) (o : Pending) (b' : Server) (o' : Pending) → IsServer b → Happens b o b' o' → Stands b o → Stands b' o'

-- whether what is due is an issue or a limit
abbrev pub is_issue_or_limit : Due → Bool
is_issue_or_limit (Put (control.Issue c n)) = true
is_issue_or_limit (Put (control.LimitReceiving c bound)) = true
is_issue_or_limit d = false

-- a flush drops a pending issue or limit that may be put only where the sender finished the channel
abbrev pub OnlyFinishedChannelsDrop : Type 0
OnlyFinishedChannelsDrop = (o : OwedState) (l l' : LinesState) (d : Due) → due o l.scheduler ≡ Some d → is_issue_or_limit d ≡ true → Stands (server l.scheduler.peer (channel_of_due d)) (pending_on o (channel_of_due d)) → IsDropped d l l' → (server l.scheduler.peer (channel_of_due d)).finished ≡ true

-- whatever calls of senders proceeded, no book of a receiver changed
abbrev pub ProceedingKeepsReceivers : Type 0
ProceedingKeepsReceivers = (ran : List Notice) (s s' : SchedulerState) (c : Channel) → length s.peer.channels ≡ channel_count → Ran ran s s' → server s'.peer c ≡ server s.peer c
