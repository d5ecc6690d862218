-- How a session changes: calls proceed that can, and then the control frames are put that are due. That these enter as soon as slots are free, and that policies make their calls where frames arrive, where this side makes a control call and where it writes, is this project's own.
use Rattle.std.specs.Prelude.{◌≡◌, Bool, true, false, ℕ, List}
use Rattle.lc_peer.specs.declared.delivery.Delivery.{Delivery}
use Rattle.lc_lines.specs.declared.scheduler.Notice.{Notice}
use Rattle.lc_lines.specs.Scheduler.{SchedulerState}
use Rattle.lc_lines.specs.Lines.{LinesState, Settles, DeliversAndSettles, NoticesNext, with_scheduler}
use Rattle.lc_owed.specs.Owed.{OwedState}
use Rattle.lc_owed.specs.Flush.{PutsAll, Flushes}
use Rattle.lc_mux.specs.Mux.{MuxState}

-- what is due is put; once this side closed the session, what is pending is never put
abbrev pub PutsUnless : Bool → OwedState → LinesState → OwedState → LinesState → Type 0
PutsUnless true o l o' l' = (o' ≡ o) × (l' ≡ l)
PutsUnless false o l o' l' = PutsAll o l o' l'

-- the policies make the calls that are due by them, and then what is due is put
abbrev pub FlushesUnless : Bool → OwedState → LinesState → OwedState → LinesState → Type 0
FlushesUnless true o l o' l' = (o' ≡ o) × (l' ≡ l)
FlushesUnless false o l o' l' = Flushes o l o' l'

-- calls proceed, and then what is due is put
abbrev pub SettlesAndPuts : Bool → OwedState → LinesState → OwedState → LinesState → Type 0
SettlesAndPuts closing o l o' l' = (between : LinesState) × (Settles l between × PutsUnless closing o between o' l')

-- the scheduler of a session becomes this one, then calls proceed, and then what is due is put
abbrev pub Changes : SchedulerState → MuxState → MuxState → Type 0
Changes s m m' = SettlesAndPuts m.closing m.owed (with_scheduler m.lines s) m'.owed m'.lines

-- the pending control frames of a session become these, then the policies make their calls, and then what is due is put
abbrev pub Owes : OwedState → MuxState → MuxState → Type 0
Owes o m m' = FlushesUnless m.closing o m.lines m'.owed m'.lines

-- bytes arrive at a session, then calls proceed, then the policies make their calls, and then what is due is put
abbrev pub DeliversAndFlushes : List ℕ → Delivery → MuxState → MuxState → Type 0
DeliversAndFlushes piece d m m' = (between : LinesState) × (DeliversAndSettles m.lines m.intake.held piece between m'.intake.held d × FlushesUnless m.closing m.owed between m'.owed m'.lines)

-- the next notice is taken, then calls proceed, and then what is due is put
abbrev pub NoticesAndPuts : Notice → MuxState → MuxState → Type 0
NoticesAndPuts notice m m' = (between : LinesState) × (NoticesNext notice m.lines between × PutsUnless m.closing m.owed between m'.owed m'.lines)
