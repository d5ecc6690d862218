-- The credits of all channels, by number. The channels are this project's own.
use Rattle.std.specs.Prelude.{◌≡◌, List, [], ◌∷◌, map}
use Rattle.lc_credit.specs.declared.balance.Balance.{Balance}
use Rattle.lc_credit.specs.Sides.{CreditId, Incoming, Outgoing, new_incoming, new_outgoing, IsSettled}

-- which credit a reading side is of
abbrev pub credit_in : Incoming → CreditId
credit_in i = i.credit

-- which credit a sending end is of
abbrev pub credit_out : Outgoing → CreditId
credit_out o = o.credit

-- each reading side is still of the credit that it was of
abbrev pub SameCredits : List Incoming → List Incoming → Type 0
SameCredits old new = map credit_in new ≡ map credit_in old

-- a sending end is still of the credit that it was of
abbrev pub SameCredit : Outgoing → Outgoing → Type 0
SameCredit old new = new.credit ≡ old.credit

-- on each channel both sides are of one credit
abbrev pub AreMatched : List Incoming → List Outgoing → Type 0
AreMatched incoming outgoing = map credit_in incoming ≡ map credit_out outgoing

-- nothing has happened on any channel
pub record AreNew (incoming : List Incoming) (outgoing : List Outgoing) : Type 0 where
  pub incoming_new : incoming ≡ map new_incoming (map credit_out outgoing)
  pub outgoing_new : outgoing ≡ map new_outgoing (map credit_out outgoing)

-- the same of the two sides of one channel
abbrev pub IsNewPair : Incoming × Outgoing → Type 0
IsNewPair sides = (sides.0 ≡ new_incoming sides.0.credit) × (sides.1 ≡ new_outgoing sides.0.credit)

-- each channel is settled, by its number, and there are as many of one as of the other
abbrev pub AreSettled : List Incoming → List Outgoing → List Balance → Type 0
AreSettled [] [] [] = Unit {0}
AreSettled (i ∷ incoming) (o ∷ outgoing) (b ∷ balances) = IsSettled i o b × AreSettled incoming outgoing balances
AreSettled incoming outgoing balances = ⊥
