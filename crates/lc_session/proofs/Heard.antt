-- What a reading side has heard, after one frame more and after a run.
use Rattle.std.proofs.Common.{◌≡◌, ℕ, zero, suc, ◌+◌, inl, inr, true, false, List, [], ◌∷◌, ◌++◌, take, Option, Some, None, refl, sym, ap, subst, ◌∙◌, append_assoc, append-nil, arith}
use Rattle.std.specs.Prelude.{sum, slice_get, slice_set, IsSomeAnd, ◌==◌}
use Rattle.std.specs.List.{filter_map, cons_option}
use Rattle.std.proofs.lemmas.Bool.Decides.{nat_tests}
use Rattle.std.proofs.lemmas.List.Elements.{filter-append}
use Rattle.lc_frame.specs.Stored.{fed}
use Rattle.lc_history.specs.Places.{ChangesAt}
use Rattle.lc_history.proofs.Histories.{learned_same, made_one}
use Rattle.lc_frame.specs.declared.channel.Channel.{Channel}
use Rattle.lc_frame.specs.declared.frame.Frame.{Frame}
use Rattle.lc_frame.specs.declared.frame.Frame.TheVariants.{Send, Issue, Absolve, Plead, LimitSending, LimitReceiving, Finish}
use Rattle.lc_frame.specs.Channel.{channel_count, number_of, is_same}
use Rattle.lc_frame.specs.Frame.{channel_of, lane_of}
use Rattle.lc_frame.specs.Stream.{of_lane, target_of, issue_of, issued, pleads, receive_left}
use Rattle.lc_frame.specs.Splits.{frames_of}
use Rattle.lc_frame.proofs.Channels.{cases_same, same_is_same, number_below}
use Rattle.lc_frame.proofs.Measures.{issued-append, issued-one, issued-other, pleads-append, on-here, on-other, receive_left_then, receive_left-push, receive_left-other}
use Rattle.lc_book.specs.Limit.{less}
use Rattle.lc_book.specs.declared.fault.Violation.{Violation}
use Rattle.lc_book.specs.declared.fault.Violation.TheVariants.{NotGuaranteed, SentPastLimit, AbsolvedTooMuch, SendLimitRaised, IssuedPastLimit, TooManyGuarantees, ReceiveLimitRaised, TotalPassed, AfterFinish}
use Rattle.lc_credit.specs.declared.history.Entry.{Entry}
use Rattle.lc_credit.specs.declared.history.Entry.TheVariants.{Received, Used, Returned, Asked, Taken}
use Rattle.lc_credit.specs.History.{asked_of, targets_asked, is_incoming, MayFollow}
use Rattle.lc_credit.specs.Sides.{Incoming, LoadsIn, IsAdded, IsNotAdded, IsLimited, IsPastLimit, IsAsked}
use Rattle.lc_inbox.specs.History.{heard}
use Rattle.lc_inbox.specs.Sides.{InboxSide}
use Rattle.lc_driver.specs.Reading.{stop_of}
use Rattle.lc_peer.specs.Deliveries.{violation_of}
use Rattle.lc_peer.specs.Sinks.{AllArrive, IsNext}
use Rattle.lc_session.specs.Reading.{ReadingSide, ToCredit, ToInbox, Hears, Refuses, Arrives, Violates, HasHeard, HasHeardAll}
use Rattle.lc_session.specs.Heard.{RunsAreHeard}
use Rattle.lc_session.specs.Keeps.{some_map}

-- ---- a place of a list

here : {A : Type 0} (P Q : A → Type 0) (xs : List A) (at : ℕ) (y : A) → IsSomeAnd (slice_get xs at) P → Q y → IsSomeAnd (slice_get (slice_set xs at y) at) Q
here P Q [] at y h q = absurd h
here P Q (x ∷ xs) zero y h q = q
here P Q (x ∷ xs) (suc at) y h q = here P Q xs at y h q

elsewhere : {A : Type 0} (xs : List A) (at b : ℕ) (y : A) → (at ≡ b → ⊥) → slice_get (slice_set xs at y) b ≡ slice_get xs b
elsewhere [] at b y apart = refl
elsewhere (x ∷ xs) zero zero y apart = absurd (apart refl)
elsewhere (x ∷ xs) zero (suc b) y apart = refl
elsewhere (x ∷ xs) (suc at) zero y apart = refl
elsewhere (x ∷ xs) (suc at) (suc b) y apart = elsewhere xs at b y (λ e. apart (ap suc e))

some_then : {A : Type 0} (P R : A → Type 0) (S : Type 0) (o : Option A) → ((a : A) → P a → R a → S) → IsSomeAnd o P → IsSomeAnd o R → S
some_then P R S None f p r = absurd p
some_then P R S (Some a) f p r = f a p r

-- at a place that changes, and at another
changes_here : {A : Type 0} (Changes : A → A → Type 0) (P Q : A → Type 0) (at : ℕ) (old new : List A) → ((was is : A) → Changes was is → P was → Q is) → ChangesAt at Changes old new → IsSomeAnd (slice_get old at) P → IsSomeAnd (slice_get new at) Q
changes_here Changes P Q at old new step h p =
    subst (λ xs. IsSomeAnd (slice_get xs at) Q) (sym h.2)
    (here P Q old at h.0 p (some_then P (λ was. Changes was h.0) (Q h.0) (slice_get old at) (λ was held change. step was h.0 change held) p h.1))

changes_there : {A : Type 0} (Changes : A → A → Type 0) (at b : ℕ) (old new : List A) → (at ≡ b → ⊥) → ChangesAt at Changes old new → slice_get new b ≡ slice_get old b
changes_there Changes at b old new apart h = ap (λ xs. slice_get xs b) h.2 ∙ elsewhere old at b h.0 apart

-- ---- frames of other lanes and channels

same_lane : (lane : ℕ) (frames : List Frame) (f : Frame) → (lane_of f == lane) ≡ false → of_lane lane (frames ++ f ∷ []) ≡ of_lane lane frames
same_lane lane frames f apart =
    filter-append (λ g. lane_of g == lane) frames (f ∷ []) ∙ (ap (λ ys. of_lane lane frames ++ ys) (rw apart refl) ∙ append-nil (of_lane lane frames))

on_lane : (lane : ℕ) (frames : List Frame) (f : Frame) → (lane_of f == lane) ≡ true → of_lane lane (frames ++ f ∷ []) ≡ of_lane lane frames ++ f ∷ []
on_lane lane frames f same =
    filter-append (λ g. lane_of g == lane) frames (f ∷ []) ∙ ap (λ ys. of_lane lane frames ++ ys) (rw same refl)

apart_of_client : (c d : Channel) → is_same d c ≡ false → (number_of c == number_of d) ≡ false
apart_of_client c d apart = grind (arith, nat_tests)

apart_of_server : (c d : Channel) → (channel_count + number_of c == number_of d) ≡ false
apart_of_server c d = let below = number_below d in grind (arith, nat_tests)

apart_lane : (d : Channel) (f : Frame) → is_same d (channel_of f) ≡ false → (lane_of f == number_of d) ≡ false
apart_lane d (Send c body) apart = apart_of_client c d apart
apart_lane d (Absolve c amount) apart = apart_of_client c d apart
apart_lane d (LimitSending c bound) apart = apart_of_client c d apart
apart_lane d (Finish c) apart = apart_of_client c d apart
apart_lane d (Issue c amount) apart = apart_of_server c d
apart_lane d (Plead c target) apart = apart_of_server c d
apart_lane d (LimitReceiving c bound) apart = apart_of_server c d

apart_number : (c d : Channel) → is_same d c ≡ false → number_of c ≡ number_of d → ⊥
apart_number c d apart same = absurd (grind (arith, nat_tests))

pleads-other : (c : Channel) (frames : List Frame) (f : Frame) → is_same c (channel_of f) ≡ false → pleads c (frames ++ f ∷ []) ≡ pleads c frames
pleads-other c frames f apart = ap (filter_map target_of) (on-other c frames f apart)

pleads-one : (f : Frame) → pleads (channel_of f) (f ∷ []) ≡ cons_option (target_of f) []
pleads-one f = ap (filter_map target_of) (on-here f)

-- on another channel all is as it was
heard_elsewhere : (d : Channel) (old new : ReadingSide) (arrived : List Frame) (f : Frame) → is_same d (channel_of f) ≡ false → slice_get new.inboxes (number_of d) ≡ slice_get old.inboxes (number_of d) → slice_get new.credits (number_of d) ≡ slice_get old.credits (number_of d) → HasHeard d old arrived → HasHeard d new (arrived ++ f ∷ [])
heard_elsewhere d old new arrived f apart inboxes credits h = record {
  inbox = rw (inboxes, same_lane (number_of d) arrived f (apart_lane d f apart)) h.inbox;
  received = rw (credits, issued-other d arrived f apart) h.received;
  left = rw (credits, receive_left-other d arrived f apart) h.left;
  asked = rw (credits, pleads-other d arrived f apart) h.asked;
}

-- ---- one frame more, on its own channel

asked_is_mine : (e : Entry) → is_incoming e ≡ false → asked_of e ≡ None
asked_is_mine (Received n) other = refl
asked_is_mine (Used n) other = refl
asked_is_mine (Returned n) other = refl
asked_is_mine (Asked target) other = absurd (cc)
asked_is_mine (Taken target) other = refl

loaded_asked : (word : ℕ) (was is : Incoming) → LoadsIn word was is → targets_asked is.seen ≡ targets_asked was.seen
loaded_asked word was is loads = learned_same is_incoming asked_of asked_is_mine MayFollow was.seen is.seen loads.learns

added_asked : (n : ℕ) (was is : Incoming) → IsAdded n was is → targets_asked is.seen ≡ targets_asked was.seen
added_asked n was is a =
    made_one is_incoming asked_of asked_is_mine MayFollow a.between.seen (Received n) is.seen a.makes ∙ (append-nil (targets_asked a.between.seen) ∙ loaded_asked a.held was a.between a.loads)

no_pleads : (frames : List Frame) (f : Frame) → target_of f ≡ None → pleads (channel_of f) (frames ++ f ∷ []) ≡ pleads (channel_of f) frames
no_pleads frames f none =
    pleads-append (channel_of f) frames (f ∷ []) ∙ (ap (λ ts. pleads (channel_of f) frames ++ ts) (pleads-one f ∙ ap (λ t. cons_option t []) none) ∙ append-nil (pleads (channel_of f) frames))

no_issue : (frames : List Frame) (f : Frame) → issue_of f ≡ None → issued (channel_of f) (frames ++ f ∷ []) ≡ issued (channel_of f) frames
no_issue frames f none =
    let nothing : issued (channel_of f) (f ∷ []) ≡ 0 = issued-one f ∙ ap (λ i. sum (cons_option i [])) none in
    omega (arith, issued-append (channel_of f) frames (f ∷ []), nothing)

module _ (old new : ReadingSide) (arrived : List Frame) (f : Frame) where
  -- a frame of the client's lane is heard by the inbox
  inbox_heard : (lane_of f == number_of (channel_of f)) ≡ true → issue_of f ≡ None → target_of f ≡ None → receive_left_then f (receive_left (channel_of f) arrived) ≡ receive_left (channel_of f) arrived → ToInbox (channel_of f) (Hears f) old new → HasHeard (channel_of f) old arrived → HasHeard (channel_of f) new (arrived ++ f ∷ [])
  inbox_heard lane none_issued none_asked none_left change h =
      let c = channel_of f in
      record {
        inbox = changes_here (Hears f) (λ s. heard s.seen ≡ of_lane (number_of c) arrived) (λ s. heard s.seen ≡ of_lane (number_of c) (arrived ++ f ∷ [])) (number_of c) old.inboxes new.inboxes
            (λ was is hears held. hears.heard.heard ∙ (ap (λ fs. fs ++ f ∷ []) held ∙ sym (on_lane (number_of c) arrived f lane))) change.0 h.inbox;
        received = rw (change.1, no_issue arrived f none_issued) h.received;
        left = rw (change.1, receive_left-push arrived f, none_left) h.left;
        asked = rw (change.1, no_pleads arrived f none_asked) h.asked;
      }

  -- a frame of the server's lane comes to the credit
  credit_heard : (Changes : Incoming → Incoming → Type 0) → (lane_of f == number_of (channel_of f)) ≡ false
      → ((was is : Incoming) → Changes was is → was.received ≡ issued (channel_of f) arrived → is.received ≡ issued (channel_of f) (arrived ++ f ∷ []))
      → ((was is : Incoming) → Changes was is → was.left ≡ receive_left (channel_of f) arrived → is.left ≡ receive_left_then f (receive_left (channel_of f) arrived))
      → ((was is : Incoming) → Changes was is → targets_asked was.seen ≡ pleads (channel_of f) arrived → targets_asked is.seen ≡ pleads (channel_of f) (arrived ++ f ∷ []))
      → ToCredit (channel_of f) Changes old new → HasHeard (channel_of f) old arrived → HasHeard (channel_of f) new (arrived ++ f ∷ [])
  credit_heard Changes lane received left asked change h =
      let c = channel_of f in
      record {
        inbox = rw (change.1, same_lane (number_of c) arrived f lane) h.inbox;
        received = changes_here Changes (λ i. i.received ≡ issued c arrived) (λ i. i.received ≡ issued c (arrived ++ f ∷ [])) (number_of c) old.credits new.credits received change.0 h.received;
        left = changes_here Changes (λ i. i.left ≡ receive_left c arrived) (λ i. i.left ≡ receive_left c (arrived ++ f ∷ [])) (number_of c) old.credits new.credits
            (λ was is made held. left was is made held ∙ sym (receive_left-push arrived f)) change.0 h.left;
        asked = changes_here Changes (λ i. targets_asked i.seen ≡ pleads c arrived) (λ i. targets_asked i.seen ≡ pleads c (arrived ++ f ∷ [])) (number_of c) old.credits new.credits asked change.0 h.asked;
      }

same_channel : (c : Channel) → (number_of c == number_of c) ≡ true
same_channel c = same_is_same c

here_heard : (old new : ReadingSide) (arrived : List Frame) (f : Frame) → Arrives old f new → HasHeard (channel_of f) old arrived → HasHeard (channel_of f) new (arrived ++ f ∷ [])
here_heard old new arrived (Send c body) change h = inbox_heard old new arrived (Send c body) (same_channel c) refl refl refl change h
here_heard old new arrived (Absolve c amount) change h = inbox_heard old new arrived (Absolve c amount) (same_channel c) refl refl refl change h
here_heard old new arrived (LimitSending c bound) change h = inbox_heard old new arrived (LimitSending c bound) (same_channel c) refl refl refl change h
here_heard old new arrived (Finish c) change h = inbox_heard old new arrived (Finish c) (same_channel c) refl refl refl change h
here_heard old new arrived (Issue c amount) change h =
    let f : Frame = Issue c amount in
    let one : issued c (f ∷ []) ≡ amount = issued-one f ∙ omega arith in
    credit_heard old new arrived f (IsAdded amount) (apart_of_server c c)
    (λ was is a held. ap (λ (i : Incoming). i.received) a.after ∙ omega (arith, held, issued-append c arrived (f ∷ []), one))
    (λ was is a held. ap (λ (i : Incoming). i.left) a.after ∙ ap (λ left. less left amount) held)
    (λ was is a held. added_asked amount was is a ∙ (held ∙ sym (no_pleads arrived f refl))) change h
here_heard old new arrived (Plead c target) change h =
    let f : Frame = Plead c target in
    credit_heard old new arrived f (IsAsked target) (apart_of_server c c)
    (λ was is a held. ap (λ (i : Incoming). i.received) a.after ∙ (held ∙ sym (no_issue arrived f refl)))
    (λ was is a held. ap (λ (i : Incoming). i.left) a.after ∙ held)
    (λ was is a held. made_one is_incoming asked_of asked_is_mine MayFollow was.seen (Asked target) is.seen a.makes ∙ (ap (λ ts. ts ++ target ∷ []) held ∙ sym (pleads-append c arrived (f ∷ []) ∙ ap (λ ts. pleads c arrived ++ ts) (pleads-one f)))) change h
here_heard old new arrived (LimitReceiving c bound) change h =
    let f : Frame = LimitReceiving c bound in
    credit_heard old new arrived f (IsLimited bound) (apart_of_server c c)
    (λ was is a held. ap (λ (i : Incoming). i.received) a.after ∙ (held ∙ sym (no_issue arrived f refl)))
    (λ was is a held. ap (λ (i : Incoming). i.left) a.after)
    (λ was is a held. ap (λ (i : Incoming). targets_asked i.seen) a.after ∙ (held ∙ sym (no_pleads arrived f refl))) change h

-- ---- one frame more, and a list of them

abbrev SamePlace : ℕ → ReadingSide → ReadingSide → Type 0
SamePlace at old new = (slice_get new.inboxes at ≡ slice_get old.inboxes at) × (slice_get new.credits at ≡ slice_get old.credits at)

credit_there : (c d : Channel) (old new : ReadingSide) (Changes : Incoming → Incoming → Type 0) → is_same d c ≡ false → ToCredit c Changes old new → SamePlace (number_of d) old new
credit_there c d old new Changes apart change =
    (ap (λ (xs : List InboxSide). slice_get xs (number_of d)) change.1, changes_there Changes (number_of c) (number_of d) old.credits new.credits (apart_number c d apart) change.0)

inbox_there : (c d : Channel) (old new : ReadingSide) (Changes : InboxSide → InboxSide → Type 0) → is_same d c ≡ false → ToInbox c Changes old new → SamePlace (number_of d) old new
inbox_there c d old new Changes apart change =
    (changes_there Changes (number_of c) (number_of d) old.inboxes new.inboxes (apart_number c d apart) change.0, ap (λ (xs : List Incoming). slice_get xs (number_of d)) change.1)

arrives_there : (d : Channel) (old new : ReadingSide) (f : Frame) → is_same d (channel_of f) ≡ false → Arrives old f new → SamePlace (number_of d) old new
arrives_there d old new (Send c body) apart change = inbox_there c d old new (Hears (Send c body)) apart change
arrives_there d old new (Absolve c amount) apart change = inbox_there c d old new (Hears (Absolve c amount)) apart change
arrives_there d old new (LimitSending c bound) apart change = inbox_there c d old new (Hears (LimitSending c bound)) apart change
arrives_there d old new (Finish c) apart change = inbox_there c d old new (Hears (Finish c)) apart change
arrives_there d old new (Issue c amount) apart change = credit_there c d old new (IsAdded amount) apart change
arrives_there d old new (Plead c target) apart change = credit_there c d old new (IsAsked target) apart change
arrives_there d old new (LimitReceiving c bound) apart change = credit_there c d old new (IsLimited bound) apart change

one_heard : (old new : ReadingSide) (arrived : List Frame) (f : Frame) → Arrives old f new → HasHeardAll old arrived → HasHeardAll new (arrived ++ f ∷ [])
one_heard old new arrived f arrives all d = elim (cases_same d (channel_of f)) [
  | inl e ↦ subst (λ c. HasHeard c new (arrived ++ f ∷ [])) (sym e) (here_heard old new arrived f arrives (all (channel_of f)))
  | inr apart ↦ let there = arrives_there d old new f apart arrives in heard_elsewhere d old new arrived f apart there.0 there.1 (all d)
]

all_heard : (frames : List Frame) (old new : ReadingSide) (arrived : List Frame) → AllArrive Arrives old frames new → HasHeardAll old arrived → HasHeardAll new (arrived ++ frames)
all_heard [] old new arrived is all = subst (λ fs. HasHeardAll new fs) (sym (append-nil arrived)) (subst (λ r. HasHeardAll r arrived) (sym is) all)
all_heard (f ∷ frames) old new arrived is all =
    subst (λ fs. HasHeardAll new fs) (append_assoc arrived (f ∷ []) frames) (all_heard frames is.0 new (arrived ++ f ∷ []) is.2 (one_heard old is.0 arrived f is.1 all))

-- ---- a frame that violates adds nothing

keep : {A : Type 0} (P : A → Type 0) (xs : List A) (at b : ℕ) (y : A) → IsSomeAnd (slice_get xs at) (λ was. P was → P y) → IsSomeAnd (slice_get xs b) P → IsSomeAnd (slice_get (slice_set xs at y) b) P
keep P [] at b y step p = p
keep P (x ∷ xs) zero zero y step p = step p
keep P (x ∷ xs) zero (suc b) y step p = p
keep P (x ∷ xs) (suc at) zero y step p = p
keep P (x ∷ xs) (suc at) (suc b) y step p = keep P xs at b y step p

changes_keep : {A : Type 0} (Changes : A → A → Type 0) (P : A → Type 0) (at b : ℕ) (old new : List A) → ((was is : A) → Changes was is → P was → P is) → ChangesAt at Changes old new → IsSomeAnd (slice_get old b) P → IsSomeAnd (slice_get new b) P
changes_keep Changes P at b old new step h p =
    subst (λ xs. IsSomeAnd (slice_get xs b) P) (sym h.2)
    (keep P old at b h.0 (some_map (λ was. Changes was h.0) (λ was. P was → P h.0) (slice_get old at) (λ was change. step was h.0 change) h.1) p)

record SameCounts (was is : Incoming) : Type 0 where
  received : is.received ≡ was.received
  left : is.left ≡ was.left
  asked : targets_asked is.seen ≡ targets_asked was.seen

unchanged : (was is : Incoming) → is ≡ was → SameCounts was is
unchanged was is same = record {
  received = ap (λ (i : Incoming). i.received) same;
  left = ap (λ (i : Incoming). i.left) same;
  asked = ap (λ (i : Incoming). targets_asked i.seen) same;
}

loaded : (word : ℕ) (was is : Incoming) → LoadsIn word was is → SameCounts was is
loaded word was is loads = record {
  received = ap (λ (i : Incoming). i.received) loads.after;
  left = ap (λ (i : Incoming). i.left) loads.after;
  asked = loaded_asked word was is loads;
}

not_added : (v : Violation) (n : ℕ) (was is : Incoming) → IsNotAdded v n was is → SameCounts was is
not_added IssuedPastLimit n was is h = unchanged was is h.after
not_added TooManyGuarantees n was is h = loaded h.1.held was is h.1.loads
not_added TotalPassed n was is h = loaded h.1.held was is h.1.loads
not_added NotGuaranteed n was is h = absurd h
not_added SentPastLimit n was is h = absurd h
not_added AbsolvedTooMuch n was is h = absurd h
not_added SendLimitRaised n was is h = absurd h
not_added ReceiveLimitRaised n was is h = absurd h
not_added AfterFinish n was is h = absurd h

credit_kept : (c : Channel) (Changes : Incoming → Incoming → Type 0) (old new : ReadingSide) (arrived : List Frame) → ((was is : Incoming) → Changes was is → SameCounts was is) → ToCredit c Changes old new → HasHeardAll old arrived → HasHeardAll new arrived
credit_kept c Changes old new arrived same change all d =
    let h = all d in
    record {
      inbox = rw change.1 h.inbox;
      received = changes_keep Changes (λ i. i.received ≡ issued d arrived) (number_of c) (number_of d) old.credits new.credits (λ was is made held. SameCounts.received (same was is made) ∙ held) change.0 h.received;
      left = changes_keep Changes (λ i. i.left ≡ receive_left d arrived) (number_of c) (number_of d) old.credits new.credits (λ was is made held. SameCounts.left (same was is made) ∙ held) change.0 h.left;
      asked = changes_keep Changes (λ i. targets_asked i.seen ≡ pleads d arrived) (number_of c) (number_of d) old.credits new.credits (λ was is made held. SameCounts.asked (same was is made) ∙ held) change.0 h.asked;
    }

inbox_kept : (c : Channel) (v : Violation) (f : Frame) (old new : ReadingSide) (arrived : List Frame) → ToInbox c (Refuses v f) old new → HasHeardAll old arrived → HasHeardAll new arrived
inbox_kept c v f old new arrived change all d =
    let h = all d in
    record {
      inbox = changes_keep (Refuses v f) (λ s. heard s.seen ≡ of_lane (number_of d) arrived) (number_of c) (number_of d) old.inboxes new.inboxes (λ was is refuses held. refuses.violated.heard ∙ held) change.0 h.inbox;
      received = rw change.1 h.received;
      left = rw change.1 h.left;
      asked = rw change.1 h.asked;
    }

violates_kept : (v : Violation) (old new : ReadingSide) (arrived : List Frame) (f : Frame) → Violates v old f new → HasHeardAll old arrived → HasHeardAll new arrived
violates_kept v old new arrived (Send c body) is all = inbox_kept c v (Send c body) old new arrived is all
violates_kept v old new arrived (Absolve c amount) is all = inbox_kept c v (Absolve c amount) old new arrived is all
violates_kept v old new arrived (LimitSending c bound) is all = inbox_kept c v (LimitSending c bound) old new arrived is all
violates_kept v old new arrived (Finish c) is all = inbox_kept c v (Finish c) old new arrived is all
violates_kept v old new arrived (Issue c amount) is all = credit_kept c (IsNotAdded v amount) old new arrived (not_added v amount) is all
violates_kept v old new arrived (Plead c target) is all = absurd is
violates_kept v old new arrived (LimitReceiving c bound) is all = credit_kept c (IsPastLimit bound) old new arrived (λ was is past. unchanged was is past.after) is.1 all

next_heard : (violation : Option Violation) (old new : ReadingSide) (arrived frames : List Frame) (count : ℕ) → IsNext Violates violation old frames count new → HasHeardAll old arrived → HasHeardAll new arrived
next_heard None old new arrived frames count is all = subst (λ r. HasHeardAll r arrived) (sym is.1) all
next_heard (Some v) old new arrived frames count is all = violates_kept v old new arrived is.0 is.2 all

pub runs_heard : RunsAreHeard
runs_heard before after held old intake new max_reads end run arrived all =
    let frames = frames_of (fed held run.read) in
    next_heard (violation_of (stop_of end)) run.came.at new (arrived ++ take run.frames frames) frames run.frames run.came.next
    (all_heard (take run.frames frames) old run.came.at arrived run.came.arrived all)
