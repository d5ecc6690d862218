-- Lists of channels, walked side by side: what is known of each place, and after a change at one.
use Rattle.std.proofs.Common.{◌≡◌, ℕ, zero, suc, ◌+◌, ◌<◌, List, [], ◌∷◌, ◌++◌, map, length, set, get_or, refl, sym, ap, ◌∙◌, subst, arith, length-append}
use Rattle.std.specs.Prelude.{IfSome, IsSomeAnd, slice_get}
use Rattle.lc_credit.specs.declared.balance.Balance.{Balance}
use Rattle.std.specs.List.{All}
use Rattle.std.proofs.lemmas.List.Elements.{All-map}
use Rattle.lc_credit.specs.Sides.{CreditId, Incoming, Outgoing, new_incoming, new_outgoing, IsSettled}
use Rattle.lc_credit.specs.Channels.{credit_in, credit_out, SameCredits, AreMatched, IsNewPair, AreNew, AreSettled}

-- the next end is of the credit at its place
pub credit_at : (ends : List Outgoing) (o : Outgoing) (rest : List Outgoing) (sides : List Incoming) → map credit_in sides ≡ map credit_out (ends ++ o ∷ rest) → IfSome (slice_get sides (length ends)) (λ i. i.credit ≡ o.credit)
credit_at [] o rest [] e = absurd (cc)
credit_at [] o rest (i ∷ sides) e = cc
credit_at (x ∷ ends) o rest [] e = absurd (cc)
credit_at (x ∷ ends) o rest (i ∷ sides) e = credit_at ends o rest sides (cc)

pub before_end : (ends : List Outgoing) (o : Outgoing) (rest all : List Outgoing) → ends ++ o ∷ rest ≡ all → length ends < length all
before_end ends o rest all e = let n : length (ends ++ o ∷ rest) ≡ length ends + suc (length rest) = length-append ends (o ∷ rest) in let m = ap length e in omega arith

-- the channels of the first ends are settled
abbrev pub AreSettledSoFar : List Incoming → List Outgoing → List Balance → Type 0
AreSettledSoFar sides [] balances = Unit {0}
AreSettledSoFar (i ∷ sides) (o ∷ ends) (b ∷ balances) = IsSettled i o b × AreSettledSoFar sides ends balances
AreSettledSoFar sides ends balances = ⊥

-- one channel more is settled, and all are
pub settled_push : (ends : List Outgoing) (sides : List Incoming) (balances : List Balance) (o : Outgoing) (b : Balance) → length ends < length sides → length ends < length balances → AreSettledSoFar sides ends balances
    → IfSome (slice_get sides (length ends)) (λ i. IsSettled i o b) → AreSettledSoFar sides (ends ++ o ∷ []) (set balances (length ends) b)
settled_push [] [] balances o b few few' h this = absurd (omega arith)
settled_push [] (i ∷ sides) [] o b few few' h this = absurd (omega arith)
settled_push [] (i ∷ sides) (x ∷ balances) o b few few' h this = (this, tt)
settled_push (y ∷ ends) [] balances o b few few' h this = absurd (omega arith)
settled_push (y ∷ ends) (i ∷ sides) [] o b few few' h this = absurd (omega arith)
settled_push (y ∷ ends) (i ∷ sides) (x ∷ balances) o b few few' h this = (h.0, settled_push ends sides balances o b (omega arith) (omega arith) h.1 this)

pub settled_all : (ends : List Outgoing) (sides : List Incoming) (balances : List Balance) → length sides ≡ length ends → length balances ≡ length ends → AreSettledSoFar sides ends balances → AreSettled sides ends balances
settled_all [] [] [] same same' h = tt
settled_all [] [] (b ∷ balances) same same' h = absurd (omega arith)
settled_all [] (i ∷ sides) balances same same' h = absurd (omega arith)
settled_all (o ∷ ends) [] balances same same' h = absurd (omega arith)
settled_all (o ∷ ends) (i ∷ sides) [] same same' h = absurd (omega arith)
settled_all (o ∷ ends) (i ∷ sides) (b ∷ balances) same same' h = (h.0, settled_all ends sides balances (omega arith) (omega arith) h.1)

-- each channel by its place: it is settled, and its sides are of one credit
pub settled_at : (sides : List Incoming) (ends : List Outgoing) (balances : List Balance) (at : ℕ) → AreSettled sides ends balances → at < length sides
    → IsSomeAnd (slice_get sides at) (λ i. IsSomeAnd (slice_get ends at) (λ o. IsSomeAnd (slice_get balances at) (λ b. IsSettled i o b)))
settled_at [] ends balances at h few = absurd (omega arith)
settled_at (i ∷ sides) [] balances at h few = absurd h
settled_at (i ∷ sides) (o ∷ ends) [] at h few = absurd h
settled_at (i ∷ sides) (o ∷ ends) (b ∷ balances) zero h few = h.0
settled_at (i ∷ sides) (o ∷ ends) (b ∷ balances) (suc at) h few = settled_at sides ends balances at h.1 (omega arith)

pub matched_at : (sides : List Incoming) (ends : List Outgoing) (at : ℕ) → AreMatched sides ends → at < length sides → IsSomeAnd (slice_get sides at) (λ i. IsSomeAnd (slice_get ends at) (λ o. i.credit ≡ o.credit))
matched_at [] ends at h few = absurd (omega arith)
matched_at (i ∷ sides) [] at h few = absurd (cc)
matched_at (i ∷ sides) (o ∷ ends) zero h few = cc
matched_at (i ∷ sides) (o ∷ ends) (suc at) h few = matched_at sides ends at (cc) (omega arith)

-- where one channel's sides and balance were exchanged for others that are settled, all stay so
pub settled_set : (sides : List Incoming) (ends : List Outgoing) (balances : List Balance) (at : ℕ) (i : Incoming) (o : Outgoing) (b : Balance) → AreSettled sides ends balances → IsSettled i o b → AreSettled (set sides at i) (set ends at o) (set balances at b)
settled_set [] [] [] at i o b h this = tt
settled_set [] [] (y ∷ balances) at i o b h this = absurd h
settled_set [] (e ∷ ends) balances at i o b h this = absurd h
settled_set (s ∷ sides) [] balances at i o b h this = absurd h
settled_set (s ∷ sides) (e ∷ ends) [] at i o b h this = absurd h
settled_set (s ∷ sides) (e ∷ ends) (y ∷ balances) zero i o b h this = (this, h.1)
settled_set (s ∷ sides) (e ∷ ends) (y ∷ balances) (suc at) i o b h this = (h.0, settled_set sides ends balances at i o b h.1 this)

-- a side that stays of its credit leaves all of the credits that they were, on either side
set_keeps : (sides : List Incoming) (at : ℕ) (other now : Incoming) → now.credit ≡ (get_or sides at other).credit → SameCredits sides (set sides at now)
set_keeps [] at other now same = refl
set_keeps (x ∷ sides) zero other now same = ap (λ (c : CreditId). c ∷ map credit_in sides) same
set_keeps (x ∷ sides) (suc at) other now same = ap (λ (cs : List CreditId). x.credit ∷ cs) (set_keeps sides at other now same)

pub same_credits : (sides old : List Incoming) → sides ≡ old → (at : ℕ) (other now : Incoming) → now.credit ≡ (get_or sides at other).credit → SameCredits old (set sides at now)
same_credits sides old is at other now same = subst (λ (xs : List Incoming). SameCredits xs (set sides at now)) is (set_keeps sides at other now same)

ends_keep : (ends : List Outgoing) (at : ℕ) (other now : Outgoing) → now.credit ≡ (get_or ends at other).credit → map credit_out (set ends at now) ≡ map credit_out ends
ends_keep [] at other now same = refl
ends_keep (x ∷ ends) zero other now same = ap (λ (c : CreditId). c ∷ map credit_out ends) same
ends_keep (x ∷ ends) (suc at) other now same = ap (λ (cs : List CreditId). x.credit ∷ cs) (ends_keep ends at other now same)

-- so both sides stay matched, after a call of the reading side and after one of an end
pub matched_in : (old new : List Incoming) (ends : List Outgoing) → SameCredits old new → AreMatched old ends → AreMatched new ends
matched_in old new ends same matched = same ∙ matched

pub matched_out : (sides : List Incoming) (ends : List Outgoing) → AreMatched sides ends → (at : ℕ) (other now : Outgoing) → now.credit ≡ (get_or ends at other).credit → AreMatched sides (set ends at now)
matched_out sides ends matched at other now same = matched ∙ sym (ends_keep ends at other now same)

-- new sides, by channel, from the pairs that they come in
from_pairs : (pairs : List (Incoming × Outgoing)) → All IsNewPair pairs → AreNew (map (λ pair. pair.0) pairs) (map (λ pair. pair.1) pairs)
from_pairs [] all = record { incoming_new = refl; outgoing_new = refl }
from_pairs (pair ∷ pairs) all =
    let this : IsNewPair pair = all 0 pair (omega arith) in
    let rest = from_pairs pairs (λ k d few. all (suc k) d (omega arith)) in
    let same : pair.0.credit ≡ pair.1.credit = cc in
    record { incoming_new = cc; outgoing_new = cc }

pub new_from : (incoming : List Incoming) (outgoing : List Outgoing) (pairs : List (Incoming × Outgoing)) → incoming ≡ map (λ pair. pair.0) pairs → outgoing ≡ map (λ pair. pair.1) pairs → All IsNewPair pairs → AreNew incoming outgoing
new_from incoming outgoing pairs first second all = subst (λ (sides : List Incoming × List Outgoing). AreNew sides.0 sides.1) (λ i. (sym first i, sym second i)) (from_pairs pairs all)

-- what follows of new sides
credits_of : (credits : List CreditId) → map credit_in (map new_incoming credits) ≡ credits
credits_of [] = refl
credits_of (c ∷ credits) = ap (λ cs. c ∷ cs) (credits_of credits)

pub new_are_matched : (incoming : List Incoming) (outgoing : List Outgoing) → AreNew incoming outgoing → AreMatched incoming outgoing
new_are_matched incoming outgoing new = ap (map credit_in) new.incoming_new ∙ credits_of (map credit_out outgoing)

pub new_are_all : (P : Outgoing → Type 0) → ((c : CreditId) → P (new_outgoing c)) → (incoming : List Incoming) (outgoing : List Outgoing) → AreNew incoming outgoing → All P outgoing
new_are_all P each incoming outgoing new = subst (All P) (sym new.outgoing_new) (All-map P new_outgoing (map credit_out outgoing) (λ k d lt. each _))
