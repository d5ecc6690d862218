-- What a message, an absolving, a limit and a Finish do to an outbox, and why they are refused. That the first two need guarantees, and what a limit bounds, is LCMUX's; Finish, the order of the refusals, and that a copy may get no memory and a frame no slot, is this project's own.
use Rattle.std.specs.Prelude.{◌≡◌, ◌⊎◌, ℕ, ◌<◌, true, false, List, length, Option, Some, None, IsSome, MatchOption}
use Rattle.lc_frame.specs.declared.version.Version.{Version}
use Rattle.lc_frame.specs.declared.frame.Frame.TheVariants.{Send, Absolve, LimitSending, Finish}
use Rattle.lc_frame.specs.declared.kind.Kind.TheVariants as frames
use Rattle.lc_frame.specs.Kind.{has}
use Rattle.lc_book.specs.declared.fault.Refusal.{Refusal}
use Rattle.lc_book.specs.declared.fault.Refusal.TheVariants.{NoGuarantee, ZeroAmount, NotHeld, QueueFull, OutOfMemory, ChannelFinished, WrongVersion}
use Rattle.lc_book.specs.Limit.{less, limit_refusal}
use Rattle.lc_book.specs.Client.{message_refusal}
use Rattle.lc_credit.specs.declared.history.Entry.TheVariants.{Returned}
use Rattle.lc_credit.specs.declared.credit_out.Use.{Use}
use Rattle.lc_credit.specs.declared.credit_out.Use.TheVariants as kinds
use Rattle.lc_credit.specs.History.{is_outgoing, Makes}
use Rattle.lc_credit.specs.Sides as sides
use Rattle.lc_credit.specs.Sides.{Outgoing, IsUnfinished, IsUsed, IsNotSpent, IsWaived, counted_as, given_back}
use Rattle.lc_outbox.specs.Outbox.{OutboxState, put}

-- a finished outbox refuses a call by 15, which changes nothing; `Otherwise` says what else refuses it
abbrev pub IsRefused : Refusal → OutboxState → OutboxState → Type 0 → Type 0
IsRefused e old new Otherwise = MatchOption old.credit.waived Otherwise (λ _. (e ≡ ChannelFinished) × (new ≡ old))

-- the credit, as it was loaded, had the amount, which was taken out and counted
pub record IsCounted (kind : Use) (n : ℕ) (old new : Outgoing) : Type 0 where
  pub pending : Outgoing
  pub used : IsUsed kind n old pending
  pub after : new ≡ counted_as kind n pending

-- the credit, as it was loaded, had the amount, which was taken out and given back
pub record IsGivenBack (kind : Use) (n : ℕ) (old new : Outgoing) : Type 0 where
  pub pending : Outgoing
  pub used : IsUsed kind n old pending
  pub makes : Makes is_outgoing pending.seen (Returned n) new.seen
  pub after : new ≡ given_back (record { kind = kind; amount = n }) new.seen pending

-- a message was put: neither its length nor the limit forbade it, and its bytes were spent
pub record IsSent (body : List ℕ) (old new : OutboxState) : Type 0 where
  pub allowed : message_refusal old.lane.version old.send_left (length body) ≡ None
  pub spent : IsCounted kinds.Spend (length body) old.credit new.credit
  pub after : new ≡ put (Send old.channel body) (record old { credit = new.credit; send_left = less old.send_left (length body) })

-- why a message of so many bytes was not put, and what that leaves of the credit: 1, 2 and 3, by the version of the lane and the limit, come before a look at it, 4 by the word as it was loaded, and 14 and 13 where it had enough
abbrev pub IsSendReason : Refusal → Version → Option ℕ → ℕ → Outgoing → Outgoing → Type 0
IsSendReason (NoGuarantee held) version left len old new = (message_refusal version left len ≡ None) × IsNotSpent (NoGuarantee held) len old new
IsSendReason OutOfMemory version left len old new = (message_refusal version left len ≡ None) × IsGivenBack kinds.Spend len old new
IsSendReason QueueFull version left len old new = (message_refusal version left len ≡ None) × IsGivenBack kinds.Spend len old new
IsSendReason e version left len old new = (message_refusal version left len ≡ Some e) × (new ≡ old)

-- a message was not put, for this reason, and all but the credit is as it was
pub record IsNotSent (e : Refusal) (body : List ℕ) (old new : OutboxState) : Type 0 where
  pub reason : IsSendReason e old.lane.version old.send_left (length body) old.credit new.credit
  pub after : new ≡ record old { credit = new.credit }

-- an absolving was put
pub record IsAbsolved (n : ℕ) (old new : OutboxState) : Type 0 where
  pub some : 0 < n
  pub absolved : IsCounted kinds.Absolve n old.credit new.credit
  pub after : new ≡ put (Absolve old.channel n) (record old { credit = new.credit })

-- why an absolving was not put, and what that leaves of the credit: 5 comes before a look at it, 6 by the word as it was loaded, and 13 where it had enough
abbrev pub IsAbsolveReason : Refusal → ℕ → Outgoing → Outgoing → Type 0
IsAbsolveReason ZeroAmount n old new = (n ≡ 0) × (new ≡ old)
IsAbsolveReason (NotHeld held) n old new = (0 < n) × sides.IsNotAbsolved (NotHeld held) n old new
IsAbsolveReason QueueFull n old new = (0 < n) × IsGivenBack kinds.Absolve n old new
IsAbsolveReason e n old new = ⊥

-- an absolving was not put, for this reason, and all but the credit is as it was
pub record IsNotAbsolved (e : Refusal) (n : ℕ) (old new : OutboxState) : Type 0 where
  pub reason : IsAbsolveReason e n old.credit new.credit
  pub after : new ≡ record old { credit = new.credit }

-- a limit was put
pub record IsLimited (bound : ℕ) (old new : OutboxState) : Type 0 where
  pub allowed : limit_refusal old.send_left bound ≡ None
  pub after : new ≡ put (LimitSending old.channel bound) (record old { send_left = Some bound })

-- a limit was not put: by 7 or 8, or else 13; and nothing changed
pub record IsNotLimited (e : Refusal) (bound : ℕ) (old new : OutboxState) : Type 0 where
  pub reason : (limit_refusal old.send_left bound ≡ Some e) ⊎ ((limit_refusal old.send_left bound ≡ None) × (e ≡ QueueFull))
  pub after : new ≡ old

-- a Finish was put, what the credit had, as it was loaded after that, is waived, and no target is kept
pub record IsFinished (old new : OutboxState) : Type 0 where
  pub waived : IsWaived old.credit new.credit
  pub after : new ≡ put (Finish old.channel) (record old { credit = new.credit; asked = None })

-- why a Finish was not put: 17 by the version of the lane, or else 15, or else 13
abbrev pub IsFinishReason : Refusal → OutboxState → Type 0
IsFinishReason WrongVersion o = has o.lane.version frames.Finish ≡ false
IsFinishReason ChannelFinished o = (has o.lane.version frames.Finish ≡ true) × IsSome o.credit.waived
IsFinishReason QueueFull o = (has o.lane.version frames.Finish ≡ true) × IsUnfinished o.credit
IsFinishReason e o = ⊥

-- a Finish was not put, for this reason, and nothing changed
pub record IsNotFinished (e : Refusal) (old new : OutboxState) : Type 0 where
  pub reason : IsFinishReason e old
  pub after : new ≡ old
