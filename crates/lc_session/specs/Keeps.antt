-- Laws that src/reading_side.rt cites: what a reading side is of stays, and with it the bytes of its rings, after each frame.
use Rattle.std.proofs.Common.{◌≡◌, ℕ, zero, suc, List, [], ◌∷◌, map, Option, Some, None, refl, sym, ap, ◌∙◌}
use Rattle.std.specs.Prelude.{slice_get, slice_set, IsSomeAnd}
use Rattle.lc_history.specs.Places.{ChangesAt}
use Rattle.lc_frame.specs.declared.channel.Channel.{Channel}
use Rattle.lc_frame.specs.declared.frame.Frame.{Frame}
use Rattle.lc_frame.specs.declared.frame.Frame.TheVariants.{Send, Issue, Absolve, Plead, LimitSending, LimitReceiving, Finish}
use Rattle.lc_frame.specs.Channel.{number_of}
use Rattle.lc_book.specs.declared.fault.Violation.{Violation}
use Rattle.lc_book.specs.declared.fault.Violation.TheVariants.{NotGuaranteed, SentPastLimit, AbsolvedTooMuch, SendLimitRaised, IssuedPastLimit, TooManyGuarantees, ReceiveLimitRaised, TotalPassed, AfterFinish}
use Rattle.lc_credit.specs.Sides.{Incoming, IsAdded, IsNotAdded, IsLimited, IsPastLimit, IsAsked}
use Rattle.lc_credit.specs.Channels.{credit_in}
use Rattle.lc_inbox.specs.declared.rule.Key.{Key}
use Rattle.lc_inbox.specs.Sides.{InboxId, InboxSide, IsSameSide}
use Rattle.lc_inbox.specs.Inboxes.{origin_of}
use Rattle.lc_session.specs.Reading.{ReadingSide, ring_of_side, rings_of, ToCredit, ToInbox, Hears, Refuses, Arrives, Violates, IsSameReading}

-- what is so of a place is so by whatever follows from it
pub some_map : {A : Type 0} (P Q : A → Type 0) (o : Option A) → ((a : A) → P a → Q a) → IsSomeAnd o P → IsSomeAnd o Q
some_map P Q None f p = p
some_map P Q (Some a) f p = f a p

-- where f of it stays, f of all does
pub set_keeps : {A B : Type 0} (f : A → B) (xs : List A) (at : ℕ) (y : A) → IsSomeAnd (slice_get xs at) (λ was. f y ≡ f was) → map f (slice_set xs at y) ≡ map f xs
set_keeps f [] at y h = refl
set_keeps f (x ∷ xs) zero y h = ap (λ bs. bs ∷ map f xs) h
set_keeps f (x ∷ xs) (suc at) y h = ap (λ bs. f x ∷ bs) (set_keeps f xs at y h)

-- one place changed, and what matters of it stayed
pub changes_keep : {A B : Type 0} (f : A → B) (Changes : A → A → Type 0) (at : ℕ) (old new : List A) → ((was is : A) → Changes was is → f is ≡ f was) → ChangesAt at Changes old new → map f new ≡ map f old
changes_keep f Changes at old new same h =
    ap (map f) h.2 ∙ set_keeps f old at h.0 (some_map (λ was. Changes was h.0) (λ was. f h.0 ≡ f was) _ (λ was change. same was h.0 change) h.1)

-- a change of one credit that stays the same credit leaves the side of the same
pub credit_same : (c : Channel) (Changes : Incoming → Incoming → Type 0) (old new : ReadingSide) → ((was is : Incoming) → Changes was is → is.credit ≡ was.credit) → ToCredit c Changes old new → IsSameReading old new
credit_same c Changes old new same change = record {
  credits = changes_keep credit_in Changes (number_of c) old.credits new.credits same change.0;
  inboxes = ap (map origin_of) change.1;
}

-- a change of one inbox that stays the same inbox leaves the side of the same
pub inbox_same : (c : Channel) (Changes : InboxSide → InboxSide → Type 0) (old new : ReadingSide) → ((was is : InboxSide) → Changes was is → IsSameSide was is) → ToInbox c Changes old new → IsSameReading old new
inbox_same c Changes old new same change = record {
  credits = ap (map credit_in) change.1;
  inboxes = changes_keep origin_of Changes (number_of c) old.inboxes new.inboxes (λ was is made. let one = same was is made in (λ i. (one.inbox i, one.key i))) change.0;
}

-- guarantees that are added stay in their credit
pub added_same : (n : ℕ) (was is : Incoming) → IsAdded n was is → is.credit ≡ was.credit
added_same n was is a = ap credit_in a.after ∙ ap credit_in a.loads.after

-- a credit that refuses guarantees is the same
pub not_added_same : (v : Violation) (n : ℕ) (was is : Incoming) → IsNotAdded v n was is → is.credit ≡ was.credit
not_added_same IssuedPastLimit n was is h = ap credit_in h.after
not_added_same TooManyGuarantees n was is h = ap credit_in h.1.loads.after
not_added_same TotalPassed n was is h = ap credit_in h.1.loads.after
not_added_same NotGuaranteed n was is h = absurd h
not_added_same SentPastLimit n was is h = absurd h
not_added_same AbsolvedTooMuch n was is h = absurd h
not_added_same SendLimitRaised n was is h = absurd h
not_added_same ReceiveLimitRaised n was is h = absurd h
not_added_same AfterFinish n was is h = absurd h

-- whatever arrives, the side is of the same credits and inboxes
pub arrives_same : (old new : ReadingSide) (f : Frame) → Arrives old f new → IsSameReading old new
arrives_same old new (Send c body) is = inbox_same c (Hears (Send c body)) old new (λ was now h. h.same) is
arrives_same old new (Absolve c amount) is = inbox_same c (Hears (Absolve c amount)) old new (λ was now h. h.same) is
arrives_same old new (LimitSending c bound) is = inbox_same c (Hears (LimitSending c bound)) old new (λ was now h. h.same) is
arrives_same old new (Finish c) is = inbox_same c (Hears (Finish c)) old new (λ was now h. h.same) is
arrives_same old new (Issue c amount) is = credit_same c (IsAdded amount) old new (added_same amount) is
arrives_same old new (Plead c target) is = credit_same c (IsAsked target) old new (λ was now h. ap credit_in h.after) is
arrives_same old new (LimitReceiving c bound) is = credit_same c (IsLimited bound) old new (λ was now h. ap credit_in h.after) is

-- whatever is refused, the side is of the same credits and inboxes
pub violates_same : (v : Violation) (old new : ReadingSide) (f : Frame) → Violates v old f new → IsSameReading old new
violates_same v old new (Send c body) is = inbox_same c (Refuses v (Send c body)) old new (λ was now h. h.same) is
violates_same v old new (Absolve c amount) is = inbox_same c (Refuses v (Absolve c amount)) old new (λ was now h. h.same) is
violates_same v old new (LimitSending c bound) is = inbox_same c (Refuses v (LimitSending c bound)) old new (λ was now h. h.same) is
violates_same v old new (Finish c) is = inbox_same c (Refuses v (Finish c)) old new (λ was now h. h.same) is
violates_same v old new (Issue c amount) is = credit_same c (IsNotAdded v amount) old new (not_added_same v amount) is
violates_same v old new (Plead c target) is = absurd is
violates_same v old new (LimitReceiving c bound) is = credit_same c (IsPastLimit bound) old new (λ was now h. ap credit_in h.after) is.1

-- the bytes of the ring of an inbox, by what it is of
abbrev pub ring_of_origin : InboxId × Key → ℕ
ring_of_origin origin = origin.1.capacity

-- the bytes of the rings are those of what the inboxes are of
pub through_origins : (sides : List InboxSide) → map ring_of_side sides ≡ map ring_of_origin (map origin_of sides)
through_origins [] = refl
through_origins (s ∷ sides) = ap (λ (ns : List ℕ). ring_of_side s ∷ ns) (through_origins sides)

-- a side of the same inboxes has the same rings
pub rings_same : (old new : ReadingSide) → IsSameReading old new → rings_of new ≡ rings_of old
rings_same old new same = through_origins new.inboxes ∙ ap (map ring_of_origin) same.inboxes ∙ sym (through_origins old.inboxes)

-- whatever arrives, the rings have as many bytes
pub arrives_rings : (old : ReadingSide) (f : Frame) (new : ReadingSide) → Arrives old f new → rings_of new ≡ rings_of old
arrives_rings old f new is = rings_same old new (arrives_same old new f is)

-- whatever is refused, the rings have as many bytes
pub violates_rings : (v : Violation) (old : ReadingSide) (f : Frame) (new : ReadingSide) → Violates v old f new → rings_of new ≡ rings_of old
violates_rings v old f new is = rings_same old new (violates_same v old new f is)
