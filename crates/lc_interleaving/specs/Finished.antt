-- A session that was finished, and what it did. The record of its end is lc_session's.
use Rattle.std.specs.Prelude.{ℕ, ◌≤◌, List, [], ◌∷◌, ◌++◌, All, slice_index_or}
use Rattle.lc_frame.specs.declared.frame.Frame.{Frame}
use Rattle.lc_frame.specs.Channel.{number_of}
use Rattle.lc_book.specs.Server.{Server}
use Rattle.lc_queue.specs.Parts.{End}
use Rattle.lc_credit.specs.declared.balance.Balance.{Balance}
use Rattle.lc_credit.specs.declared.history.Entry.{Entry}
use Rattle.lc_credit.specs.Sides.{Incoming, Outgoing}
use Rattle.lc_credit.specs.Channels.{AreSettled}
use Rattle.lc_inbox.specs.declared.history.Entry as inbox
use Rattle.lc_inbox.specs.Sides.{InboxSide}
use Rattle.lc_inbox.specs.Inboxes.{AreFinished}
use Rattle.lc_session.specs.Reading.{HasHeardAll}
use Rattle.lc_session.specs.Report.{SessionState, outgoing_of, AreOfOneSession, IsReport}
use Rattle.lc_interleaving.specs.Interleaving.{Trace}

-- the parts of a session when it ended, the frames that had arrived, and what `finish` gave
pub record Finished : Type 0 where
  pub session : SessionState
  pub arrived : List Frame
  pub clients : List Balance
  pub servers : List Server
  pub left : ℕ
  pub partly : ℕ

-- what is known of these: that the parts were of one session, which `finish` asks for; that its reading side heard what arrived, as the runs of the pump say; and the report, which `finish` ensures
pub record IsFinished (r : Finished) : Type 0 where
  pub one : AreOfOneSession r.session
  pub heard : HasHeardAll r.session.reading.side r.arrived
  pub report : IsReport r.session r.clients r.servers r.left r.partly

-- the histories of the credits that the report tells of, by channel
abbrev pub credit_histories : (incoming : List Incoming) (outgoing : List Outgoing) (balances : List Balance) → AreSettled incoming outgoing balances → List (List Entry)
credit_histories (i ∷ incoming) (o ∷ outgoing) (b ∷ balances) h = h.0.history ∷ credit_histories incoming outgoing balances h.1
credit_histories incoming outgoing balances h = []

-- the histories of the inboxes that it tells of, by channel
abbrev pub inbox_histories : (incoming outgoing : List InboxSide) (books : List Server) (lanes : List End) → AreFinished incoming outgoing books lanes → List (List inbox.Entry)
inbox_histories (i ∷ incoming) (o ∷ outgoing) (book ∷ books) (lane ∷ lanes) h = h.0.history ∷ inbox_histories incoming outgoing books lanes h.1
inbox_histories incoming outgoing books lanes h = []

-- what a finished session did
abbrev pub trace : (r : Finished) → IsFinished r → Trace
trace r h = record {
  version = r.session.writing.drain.version;
  put = r.session.writing.drain.popped ++ h.report.last;
  heard = r.arrived;
  credit = λ c. slice_index_or (credit_histories r.session.reading.side.credits (outgoing_of r.session) r.clients h.report.settled) (number_of c) [];
  inbox = λ c. slice_index_or (inbox_histories r.session.reading.side.inboxes r.session.receiving r.servers h.report.lanes h.report.finished) (number_of c) [];
}

-- no ring of the session is larger than so many bytes
abbrev pub FitsRings : ℕ → Finished → Type 0
FitsRings capacity r = All (λ (side : InboxSide). side.key.capacity ≤ capacity) r.session.reading.side.inboxes
