-- The frame that a borrowed one shows. Borrowing is this project's own.
use Rattle.lc_frame.specs.declared.frame.Frame.{Frame}
use Rattle.lc_frame.specs.declared.frame.Frame.TheVariants as owned
use Rattle.lc_frame.specs.declared.frame_ref.FrameRef.{FrameRef}
use Rattle.lc_frame.specs.declared.frame_ref.FrameRef.TheVariants.{Send, Issue, Absolve, Plead, LimitSending, LimitReceiving, Finish}

-- the frame that a borrowed one shows: the same kind, channel and number, and the bytes that are lent
abbrev pub frame_of : FrameRef → Frame
frame_of (Send c body) = owned.Send c body.now
frame_of (Issue c amount) = owned.Issue c amount
frame_of (Absolve c amount) = owned.Absolve c amount
frame_of (Plead c target) = owned.Plead c target
frame_of (LimitSending c bound) = owned.LimitSending c bound
frame_of (LimitReceiving c bound) = owned.LimitReceiving c bound
frame_of (Finish c) = owned.Finish c
