-- What contracts see of the two sides of one channel's credit, and what each call does to them. The other side only ever adds to the word, so what an end knows that it has at least stays true, and one load and one subtraction are enough to use guarantees. Each look raises `looks` by one, so an answer that is tied to a look was looked up in that very call. Sending and absolving within the guarantees received, limits on receiving and pleads are LCMUX's; the order of the violations, that an amount is pending between its use and its frame, and that an end may be finished, which waives its guarantees, is this project's own.
use Rattle.std.specs.Prelude.{◌≡◌, ◌⊎◌, ℕ, ◌+◌, ◌-◌, ◌≤◌, ◌<◌, true, false, List, [], Option, None, Some, MatchOption, unwrap_or}
use Rattle.std.specs.Option.{ForSome}
use Rattle.atomic_table.specs.Seated.{TableId}
use Rattle.lc_frame.specs.Kind.{max_amount, max_total}
use Rattle.lc_history.specs.History.{Knows}
use Rattle.lc_book.specs.Limit.{is_past, less}
use Rattle.lc_book.specs.declared.fault.Refusal.{Refusal}
use Rattle.lc_book.specs.declared.fault.Refusal.TheVariants.{NoGuarantee, NotHeld}
use Rattle.lc_book.specs.declared.fault.Violation.{Violation}
use Rattle.lc_book.specs.declared.fault.Violation.TheVariants.{IssuedPastLimit, TooManyGuarantees, TotalPassed}
use Rattle.lc_credit.specs.declared.history.Entry.{Entry}
use Rattle.lc_credit.specs.declared.history.Entry.TheVariants.{Received, Used, Asked}
use Rattle.lc_credit.specs.declared.credit_out.Use.{Use}
use Rattle.lc_credit.specs.declared.credit_out.Use.TheVariants.{Spend, Absolve}
use Rattle.lc_credit.specs.declared.credit_out.Pending.{Pending}
use Rattle.lc_credit.specs.declared.balance.Balance.{Balance}
use Rattle.lc_credit.specs.History.{received, used, returned, last_use, IsHeld, IsHistory, is_incoming, is_outgoing, Learns, Makes}

-- which credit it is: no two have the same
abbrev pub CreditId : Type 0
CreditId = TableId

-- the reading side: the history that it has seen, how often it has loaded the credit word, the sum of what it received, and what the server may still issue, None without a limit
pub record Incoming : Type 0 where
  pub credit : CreditId
  pub seen : List Entry
  pub looks : ℕ
  pub received : ℕ
  pub left : Option ℕ

-- the sending end: the history that it has seen, how often it has loaded the credit word or emptied the asked one, the sums of what it spent and absolved, what it took out of the word when it was finished, None where it is not, what left the word and is not counted yet, and a number that the word has at least: what the end loaded last, less what it used since, and with what it gave back
pub record Outgoing : Type 0 where
  pub credit : CreditId
  pub seen : List Entry
  pub looks : ℕ
  pub spent : ℕ
  pub absolved : ℕ
  pub waived : Option ℕ
  pub pending : Option Pending
  pub least : ℕ

-- a reading side that has done nothing
abbrev pub new_incoming : CreditId → Incoming
new_incoming credit = record { credit = credit; seen = []; looks = 0; received = 0; left = None }

-- a sending end that has done nothing
abbrev pub new_outgoing : CreditId → Outgoing
new_outgoing credit = record { credit = credit; seen = []; looks = 0; spent = 0; absolved = 0; waived = None; pending = None; least = 0 }

-- the amount that is pending, 0 where none is
abbrev pub amount_of : Option Pending → ℕ
amount_of None = 0
amount_of (Some p) = p.amount

-- nothing is pending
abbrev pub IsIdle : Outgoing → Type 0
IsIdle o = o.pending ≡ None

-- the end is not finished
abbrev pub IsUnfinished : Outgoing → Type 0
IsUnfinished o = o.waived ≡ None

-- what an end has counted: what it spent and absolved, and what it took out when it was finished
abbrev pub all_counted : Outgoing → ℕ
all_counted o = o.spent + o.absolved + unwrap_or o.waived 0

-- what the reading side counted is what its entries add up to
pub record IsIncoming (i : Incoming) : Type 0 where
  pub counted : i.received ≡ received i.seen
  pub total : i.received ≤ max_total
  pub bound : ForSome i.left (λ left. left ≤ max_total)

-- what the sending end counted, and what is pending, is what its entries add up to; what is pending is the last use, which did not come back, at an end that is not finished
pub record IsOutgoing (o : Outgoing) : Type 0 where
  pub counted : used o.seen ≡ returned o.seen + (all_counted o + amount_of o.pending)
  pub total : all_counted o + amount_of o.pending ≤ max_total
  pub last : ForSome o.pending (λ p. last_use o.seen ≡ Some p.amount)
  pub unfinished : ForSome o.pending (λ p. IsUnfinished o)

-- the reading side loaded the word in this very call, which is no more than what it received
pub record LoadsIn (word : ℕ) (old new : Incoming) : Type 0 where
  pub learns : Learns is_incoming old.seen new.seen
  pub held : IsHeld word new.seen
  pub covered : word ≤ old.received
  pub after : new ≡ record old { seen = new.seen; looks = old.looks + 1 }

-- an amount that arrives is within the limit; the word, as it was loaded, has room for it, and so has the sum of all; it is received
pub record IsAdded (n : ℕ) (old new : Incoming) : Type 0 where
  pub within : is_past old.left n ≡ false
  pub held : ℕ
  pub between : Incoming
  pub loads : LoadsIn held old between
  pub room : held + n ≤ max_amount
  pub total : old.received + n ≤ max_total
  pub makes : Makes is_incoming between.seen (Received n) new.seen
  pub after : new ≡ record between { seen = new.seen; received = old.received + n; left = less old.left n }

-- the word, as it was loaded, has no room for the amount
pub record HasNoRoom (n : ℕ) (old new : Incoming) : Type 0 where
  pub held : ℕ
  pub loads : LoadsIn held old new
  pub over : max_amount < held + n

-- the word, as it was loaded, has room for the amount
pub record HasRoom (n : ℕ) (old new : Incoming) : Type 0 where
  pub held : ℕ
  pub loads : LoadsIn held old new
  pub room : held + n ≤ max_amount

-- a number is past the limit, and nothing changed
pub record IsPastLimit (n : ℕ) (old new : Incoming) : Type 0 where
  pub past : is_past old.left n ≡ true
  pub after : new ≡ old

-- what is wrong with an amount that arrives, V5, V6 or V8, and what the reading side looked up for that
abbrev pub IsNotAdded : Violation → ℕ → Incoming → Incoming → Type 0
IsNotAdded IssuedPastLimit n old new = IsPastLimit n old new
IsNotAdded TooManyGuarantees n old new = (is_past old.left n ≡ false) × HasNoRoom n old new
IsNotAdded TotalPassed n old new = (is_past old.left n ≡ false) × HasRoom n old new × (max_total < old.received + n)
IsNotAdded v n old new = ⊥

-- a limit on receiving that is no higher than what the one before it leaves is noted
pub record IsLimited (bound : ℕ) (old new : Incoming) : Type 0 where
  pub within : is_past old.left bound ≡ false
  pub after : new ≡ record old { left = Some bound }

-- a target is asked
pub record IsAsked (target : ℕ) (old new : Incoming) : Type 0 where
  pub makes : Makes is_incoming old.seen (Asked target) new.seen
  pub after : new ≡ record old { seen = new.seen }

-- the sending end loaded the word in this very call, which has what was known of it and more
pub record LoadsOut (word : ℕ) (old new : Outgoing) : Type 0 where
  pub learns : Learns is_outgoing old.seen new.seen
  pub held : IsHeld word new.seen
  pub least : old.least ≤ word
  pub after : new ≡ record old { seen = new.seen; looks = old.looks + 1; least = word }

-- what an end holds: the word, which it loaded in this very call; and nothing where it is finished, without a look
abbrev pub Holds : ℕ → Outgoing → Outgoing → Type 0
Holds held old new = MatchOption old.waived (LoadsOut held old new) (λ _. (held ≡ 0) × (new ≡ old))

-- the word, as it was loaded, had enough, and was lowered; the amount is pending
pub record IsUsed (kind : Use) (n : ℕ) (old new : Outgoing) : Type 0 where
  pub held : ℕ
  pub between : Outgoing
  pub loads : LoadsOut held old between
  pub enough : n ≤ held
  pub makes : Makes is_outgoing between.seen (Used n) new.seen
  pub after : new ≡ record between { seen = new.seen; pending = Some (record { kind = kind; amount = n }); least = held - n }

-- why an amount is not spent: 4, with the word as it was loaded
abbrev pub IsNotSpent : Refusal → ℕ → Outgoing → Outgoing → Type 0
IsNotSpent (NoGuarantee held) n old new = (held < n) × LoadsOut held old new
IsNotSpent e n old new = ⊥

-- why an amount is not absolved: 6, with the word as it was loaded
abbrev pub IsNotAbsolved : Refusal → ℕ → Outgoing → Outgoing → Type 0
IsNotAbsolved (NotHeld held) n old new = ((held < n) ⊎ (max_amount < n)) × LoadsOut held old new
IsNotAbsolved e n old new = ⊥

-- an amount is counted as spent, or as absolved, and nothing is pending
abbrev pub counted_as : Use → ℕ → Outgoing → Outgoing
counted_as Spend n o = record o { spent = o.spent + n; pending = None }
counted_as Absolve n o = record o { absolved = o.absolved + n; pending = None }

-- what is pending is counted
abbrev pub counted : Pending → Outgoing → Outgoing
counted p o = counted_as p.kind p.amount o

-- what is pending is given back
abbrev pub given_back : Pending → List Entry → Outgoing → Outgoing
given_back p seen o = record o { seen = seen; pending = None; least = o.least + p.amount }

-- all that the word had, as it was loaded, was taken out and is waived; what came since is in the word
pub record IsWaived (old new : Outgoing) : Type 0 where
  pub held : ℕ
  pub between : Outgoing
  pub loads : LoadsOut held old between
  pub makes : Makes is_outgoing between.seen (Used held) new.seen
  pub after : new ≡ record between { seen = new.seen; waived = Some held; least = 0 }

-- a channel is settled: what both sides counted, beside what is held, adds up, and nothing is held where the end is finished, since what the word had got by then is waived too, nor waived where it is not; and there is one history that both sides know, of which these are the sums
pub record IsSettled (incoming : Incoming) (outgoing : Outgoing) (b : Balance) : Type 0 where
  pub received_is : b.received ≡ incoming.received
  pub spent_is : b.spent ≡ outgoing.spent
  pub absolved_is : b.absolved ≡ outgoing.absolved
  pub waived_is : MatchOption outgoing.waived (b.waived ≡ 0) (λ taken. (b.held ≡ 0) × (taken ≤ b.waived))
  pub adds_up : b.held + b.spent + b.absolved + b.waived ≡ b.received
  pub history : List Entry
  pub legal : IsHistory history
  pub incoming_knows : Knows is_incoming incoming.seen history
  pub outgoing_knows : Knows is_outgoing outgoing.seen history
  pub all_received : received history ≡ b.received
  pub all_used : used history ≡ returned history + all_counted outgoing
