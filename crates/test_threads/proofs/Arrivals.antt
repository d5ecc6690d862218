-- What arrives at a side, frame by frame, and the first of a list.
use Rattle.std.proofs.Common.{◌≡◌, ℕ, zero, suc, List, [], ◌∷◌, ◌++◌, length, take, Result, Ok, Err, refl, sym, ap, ◌∙◌, append-nil}
use Rattle.std.specs.Prelude.{OnOk, IfErr}
use Rattle.lc_frame.specs.declared.channel.Channel.{Channel}
use Rattle.lc_frame.specs.declared.frame.Frame.{Frame}
use Rattle.lc_frame.specs.declared.frame.Frame.TheVariants.{Send, LimitSending}
use Rattle.lc_frame.specs.Stream.{messages}
use Rattle.lc_frame.proofs.Measures.{messages-append, messages-one}
use Rattle.lc_book.specs.declared.fault.Violation.{Violation}
use Rattle.lc_inbox.specs.History.{heard, took}
use Rattle.lc_inbox.specs.Sides.{InboxSide, IsSameSide, IsHeard, IsViolated, TookTheFirst}
use Rattle.test_threads.specs.Arrivals.{arrived, HeardTheFirst}

-- nothing more was heard
pub same_arrived : (old new : InboxSide) → IsSameSide old new → heard new.seen ≡ heard old.seen → arrived new ≡ arrived old
same_arrived old new same hears = (λ i. messages (same.key i).channel (hears i))

one_heard : (old new : InboxSide) (f : Frame) → IsSameSide old new → heard new.seen ≡ heard old.seen ++ f ∷ [] → arrived new ≡ arrived old ++ messages old.key.channel (f ∷ [])
one_heard old new f same hears = (λ i. messages (same.key i).channel (hears i)) ∙ messages-append old.key.channel (heard old.seen) (f ∷ [])

-- a message was heard, and a limit
pub message_arrived : (old new : InboxSide) (body : List ℕ) → IsSameSide old new → heard new.seen ≡ heard old.seen ++ Send old.key.channel body ∷ [] → arrived new ≡ arrived old ++ body ∷ []
message_arrived old new body same hears = one_heard old new (Send old.key.channel body) same hears ∙ ap (λ (ms : List (List ℕ)). arrived old ++ ms) (messages-one (Send old.key.channel body))

limit_arrived : (old new : InboxSide) (bound : ℕ) → IsSameSide old new → heard new.seen ≡ heard old.seen ++ LimitSending old.key.channel bound ∷ [] → arrived new ≡ arrived old
limit_arrived old new bound same hears = one_heard old new (LimitSending old.key.channel bound) same hears ∙ (ap (λ (ms : List (List ℕ)). arrived old ++ ms) (messages-one (LimitSending old.key.channel bound)) ∙ append-nil (arrived old))

-- whether the limit is heard or refused, no message is
pub limit_answered : (answer : Result (Unit {0}) Violation) (d : Channel) (bound : ℕ) (old new : InboxSide) → d ≡ old.key.channel → IsSameSide old new → OnOk answer (IsHeard (LimitSending d bound) old new) → IfErr answer (λ v. IsViolated v (LimitSending d bound) old new) → arrived new ≡ arrived old
limit_answered (Ok u) d bound old new on same ok err = limit_arrived old new bound same (ok.heard ∙ ap (λ (c : Channel). heard old.seen ++ LimitSending c bound ∷ []) on)
limit_answered (Err v) d bound old new on same ok err = same_arrived old new same err.heard

-- the first so many of a list are as many as they are
take_again : {A : Type 0} (n : ℕ) (xs : List A) → take n xs ≡ take (length (take n xs)) xs
take_again zero xs = refl
take_again (suc n) [] = refl
take_again {A} (suc n) (x ∷ xs) = ap (λ (ys : List A). x ∷ ys) (take_again n xs)

pub heard_first : (given : List (List ℕ)) (n : ℕ) (old new : InboxSide) → IsSameSide old new → arrived new ≡ take n given → HeardTheFirst given old new
heard_first given n old new same is = record { same = same; first = is ∙ (take_again n given ∙ ap (λ (xs : List (List ℕ)). take (length xs) given) (sym is)) }

-- what begins the beginning of a list begins the list
begins_take : (xs others given : List (List ℕ)) (n : ℕ) → xs ++ others ≡ take n given → xs ≡ take (length xs) given
begins_take [] others given n is = refl
begins_take (x ∷ xs) others given zero is = absurd (cc)
begins_take (x ∷ xs) others [] (suc n) is = absurd (cc)
begins_take (x ∷ xs) others (g ∷ given) (suc n) is =
    let same : x ≡ g = cc in
    let later : xs ++ others ≡ take n given = cc in
    (λ i. same i ∷ begins_take xs others given n later i)

-- what one side took, in the end, of what the other was given
pub first_of_given : (taken given : List (List ℕ)) (incoming outgoing : InboxSide) → TookTheFirst incoming outgoing → arrived incoming ≡ take (length (arrived incoming)) given → took outgoing.seen ≡ taken → taken ≡ take (length taken) given
first_of_given taken given incoming outgoing first heard is = begins_take taken first.0 given (length (arrived incoming)) (ap (λ (ms : List (List ℕ)). ms ++ first.0) (sym is) ∙ (sym first.1 ∙ heard))
