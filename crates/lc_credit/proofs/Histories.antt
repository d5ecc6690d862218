-- Lemmas on histories of a credit: one entry more, and what a side's own entries add up to.
use Rattle.std.proofs.Common.{◌≡◌, ℕ, ◌+◌, false, List, [], ◌∷◌, ◌++◌, Option, Some, None, refl, ap, ◌∙◌, arith}
use Rattle.std.specs.Prelude.{sum, filter}
use Rattle.std.specs.List.{filter_map, fold, cons_option}
use Rattle.std.proofs.lemmas.List.Elements.{filter_map-append}
use Rattle.std.proofs.lemmas.List.Sums.{sum_by-append, fold-append}
use Rattle.lc_history.specs.History.{Knows}
use Rattle.lc_history.proofs.Histories as histories
use Rattle.lc_credit.specs.declared.history.Entry.{Entry}
use Rattle.lc_credit.specs.declared.history.Entry.TheVariants.{Received, Used, Returned, Asked, Taken}
use Rattle.lc_credit.specs.History.{received_of, used_of, returned_of, received, used, returned, waiting_after, waiting, last_use_after, last_use, IsHeld, MayFollow, IsHistory, is_incoming, is_outgoing, Learns, Makes, CoversEachUse}
use Rattle.lc_credit.specs.Rule.{amount}

sum-append : (xs ys : List ℕ) → sum (xs ++ ys) ≡ sum xs + sum ys
sum-append xs ys = sum_by-append (λ n. n) xs ys

sum-one : (o : Option ℕ) → sum (cons_option o []) ≡ amount o
sum-one None = refl
sum-one (Some n) = omega arith

-- the sums of a list with one entry more
total-push : (of : Entry → Option ℕ) (xs : List Entry) (e : Entry) → sum (filter_map of (xs ++ e ∷ [])) ≡ sum (filter_map of xs) + amount (of e)
total-push of xs e = rw (filter_map-append of xs (e ∷ [])) (sum-append (filter_map of xs) (filter_map of (e ∷ [])) ∙ ap (λ n. sum (filter_map of xs) + n) (sum-one (of e)))

pub received-push : (xs : List Entry) (e : Entry) → received (xs ++ e ∷ []) ≡ received xs + amount (received_of e)
received-push = total-push received_of

pub used-push : (xs : List Entry) (e : Entry) → used (xs ++ e ∷ []) ≡ used xs + amount (used_of e)
used-push = total-push used_of

pub returned-push : (xs : List Entry) (e : Entry) → returned (xs ++ e ∷ []) ≡ returned xs + amount (returned_of e)
returned-push = total-push returned_of

pub waiting-push : (xs : List Entry) (e : Entry) → waiting (xs ++ e ∷ []) ≡ waiting_after (waiting xs) e
waiting-push xs e = fold-append waiting_after None xs (e ∷ [])

pub last_use-push : (xs : List Entry) (e : Entry) → last_use (xs ++ e ∷ []) ≡ last_use_after (last_use xs) e
last_use-push xs e = fold-append last_use_after None xs (e ∷ [])

pub history-push : (history : List Entry) (e : Entry) → MayFollow history e → IsHistory history → IsHistory (history ++ e ∷ [])
history-push = histories.history-push MayFollow

-- the other side's entries carry nothing that a side counts
received_is_incoming : (e : Entry) → is_incoming e ≡ false → received_of e ≡ None
received_is_incoming (Received n) other = absurd (cc)
received_is_incoming (Used n) other = refl
received_is_incoming (Returned n) other = refl
received_is_incoming (Asked target) other = refl
received_is_incoming (Taken target) other = refl

used_is_outgoing : (e : Entry) → is_outgoing e ≡ false → used_of e ≡ None
used_is_outgoing (Received n) other = refl
used_is_outgoing (Used n) other = absurd (cc)
used_is_outgoing (Returned n) other = refl
used_is_outgoing (Asked target) other = refl
used_is_outgoing (Taken target) other = refl

returned_is_outgoing : (e : Entry) → is_outgoing e ≡ false → returned_of e ≡ None
returned_is_outgoing (Received n) other = refl
returned_is_outgoing (Used n) other = refl
returned_is_outgoing (Returned n) other = absurd (cc)
returned_is_outgoing (Asked target) other = refl
returned_is_outgoing (Taken target) other = refl

-- what a side has seen has the sums of its own entries
pub received_same : (seen history : List Entry) → Knows is_incoming seen history → received history ≡ received seen
received_same seen history h = ap sum (histories.known_same is_incoming received_of received_is_incoming seen history h)

pub used_same : (seen history : List Entry) → Knows is_outgoing seen history → used history ≡ used seen
used_same seen history h = ap sum (histories.known_same is_outgoing used_of used_is_outgoing seen history h)

pub returned_same : (seen history : List Entry) → Knows is_outgoing seen history → returned history ≡ returned seen
returned_same seen history h = ap sum (histories.known_same is_outgoing returned_of returned_is_outgoing seen history h)

no_use : (last : Option ℕ) (later : List Entry) → filter is_outgoing later ≡ [] → fold last_use_after last later ≡ last
no_use last [] none = refl
no_use last (Received n ∷ later) none = no_use last later none
no_use last (Used n ∷ later) none = absurd (cc)
no_use last (Returned n ∷ later) none = absurd (cc)
no_use last (Asked target ∷ later) none = no_use last later none
no_use last (Taken target ∷ later) none = absurd (cc)

pub last_use_same : (seen history : List Entry) → Knows is_outgoing seen history → last_use history ≡ last_use seen
last_use_same seen history h = ap last_use h.begins ∙ (fold-append last_use_after None seen h.later ∙ no_use (last_use seen) h.later h.others)

-- what a side learns keeps its own sums
pub learned_received : (old new : List Entry) → Learns is_incoming old new → received new ≡ received old
learned_received old new h = received_same old new h.knows

-- what a side has counted after an entry of its own
pub made_received : (old new : List Entry) (e : Entry) → Makes is_incoming old e new → received new ≡ received old + amount (received_of e)
made_received old new e h = ap received h.last ∙ (received-push h.before e ∙ ap (λ n. n + amount (received_of e)) (received_same old h.before h.knows))

pub made_used : (old new : List Entry) (e : Entry) → Makes is_outgoing old e new → used new ≡ used old + amount (used_of e)
made_used old new e h = ap used h.last ∙ (used-push h.before e ∙ ap (λ n. n + amount (used_of e)) (used_same old h.before h.knows))

pub made_returned : (old new : List Entry) (e : Entry) → Makes is_outgoing old e new → returned new ≡ returned old + amount (returned_of e)
made_returned old new e h = ap returned h.last ∙ (returned-push h.before e ∙ ap (λ n. n + amount (returned_of e)) (returned_same old h.before h.knows))

pub made_last_use : (old new : List Entry) (e : Entry) → Makes is_outgoing old e new → last_use new ≡ last_use_after (last_use old) e
made_last_use old new e h = ap last_use h.last ∙ (last_use-push h.before e ∙ ap (λ last. last_use_after last e) (last_use_same old h.before h.knows))

-- what is held is what the one side received and the other does not use
pub held_is : (history seen sent : List Entry) (word busy : ℕ) → Knows is_incoming seen history → Knows is_outgoing sent history → IsHeld word history → used sent ≡ returned sent + busy → word + busy ≡ received seen
held_is history seen sent word busy knows knows_sent held is =
    let a = received_same seen history knows in
    let b = used_same sent history knows_sent in
    let c = returned_same sent history knows_sent in
    omega arith

-- each use in a history is covered
pub covers_each_use : (history : List Entry) → IsHistory history → CoversEachUse history
covers_each_use history legal before n later is = histories.follows_each MayFollow history before (Used n) later legal is
