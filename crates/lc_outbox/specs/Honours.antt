-- What an honour does to an outbox. That a server may plead, and a client absolve, is LCMUX's; which plead an honour answers, what it absolves, and that a plead which gets no slot is kept, is this project's own.
use Rattle.std.specs.Prelude.{◌≡◌, ℕ, ◌+◌, ◌-◌, ◌<◌, ◌≤◌, min, Option, Some, None, IfSome, IfNone}
use Rattle.std.specs.Option.{option_or}
use Rattle.lc_frame.specs.declared.frame.Frame.TheVariants.{Absolve}
use Rattle.lc_frame.specs.Kind.{max_amount}
use Rattle.lc_book.specs.declared.fault.Refusal.{Refusal}
use Rattle.lc_book.specs.declared.fault.Refusal.TheVariants.{QueueFull}
use Rattle.lc_credit.specs.declared.history.Entry.TheVariants.{Returned, Taken}
use Rattle.lc_credit.specs.declared.credit_out.Use.TheVariants as kinds
use Rattle.lc_credit.specs.History.{is_outgoing, Learns, Makes, waiting}
use Rattle.lc_credit.specs.Sides.{Outgoing, LoadsOut, IsUsed, counted_as, given_back}
use Rattle.lc_outbox.specs.Outbox.{OutboxState, put}

-- the end looked for a target, and took the one that waited; or none did
pub record LooksForTarget (taken : Option ℕ) (old new : Outgoing) : Type 0 where
  pub some : IfSome taken (λ target. Makes is_outgoing old.seen (Taken target) new.seen)
  pub none : IfNone taken (Learns is_outgoing old.seen new.seen × (waiting new.seen ≡ None))
  pub after : new ≡ record old { seen = new.seen; looks = old.looks + 1 }

-- the target to answer for: the one that was taken in this call, else the one that was kept
pub record AnswersFor (target kept : Option ℕ) (old new : Outgoing) : Type 0 where
  pub taken : Option ℕ
  pub looks : LooksForTarget taken old new
  pub target_is : target ≡ option_or taken kept

-- what is held, as it was loaded, is not above the target; without a target there is nothing to load
abbrev pub IsMet : Option ℕ → Outgoing → Outgoing → Type 0
IsMet None old new = new ≡ old
IsMet (Some target) old new = (held : ℕ) × LoadsOut held old new × (held ≤ target)

-- what is held, as it was loaded, is above the target, and what it takes to come down there was taken out, as far as one frame can carry it
pub record IsLowered (target n : ℕ) (old new : Outgoing) : Type 0 where
  pub held : ℕ
  pub loaded : Outgoing
  pub loads : LoadsOut held old loaded
  pub above : target < held
  pub amount : n ≡ min (held - target) max_amount
  pub used : IsUsed kinds.Absolve n loaded new

-- there was nothing to absolve, and no target is kept
pub record HasNothingToAbsolve (old new : OutboxState) : Type 0 where
  pub target : Option ℕ
  pub looked : Outgoing
  pub answers : AnswersFor target old.asked old.credit looked
  pub met : IsMet target looked new.credit
  pub after : new ≡ record old { credit = new.credit; asked = None }

-- so much was absolved, and no target is kept
pub record IsHonouredBy (n : ℕ) (old new : OutboxState) : Type 0 where
  pub target : ℕ
  pub looked : Outgoing
  pub pending : Outgoing
  pub answers : AnswersFor (Some target) old.asked old.credit looked
  pub lowered : IsLowered target n looked pending
  pub after : new ≡ put (Absolve old.channel n) (record old { credit = counted_as kinds.Absolve n pending; asked = None })

-- what an honour did, by what it absolved
abbrev pub IsHonoured : Option ℕ → OutboxState → OutboxState → Type 0
IsHonoured None old new = HasNothingToAbsolve old new
IsHonoured (Some n) old new = IsHonouredBy n old new

-- no slot was free: what was taken out was given back, and the target is kept
pub record IsPutOff (e : Refusal) (old new : OutboxState) : Type 0 where
  pub full : e ≡ QueueFull
  pub target : ℕ
  pub amount : ℕ
  pub looked : Outgoing
  pub pending : Outgoing
  pub answers : AnswersFor (Some target) old.asked old.credit looked
  pub lowered : IsLowered target amount looked pending
  pub makes : Makes is_outgoing pending.seen (Returned amount) new.credit.seen
  pub after : new ≡ record old { credit = given_back (record { kind = kinds.Absolve; amount = amount }) new.credit.seen pending; asked = Some target }
