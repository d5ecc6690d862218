-- For callers: sides of several inboxes, by place. They stay matched through calls, and each place is one inbox.
use Rattle.std.proofs.Common.{◌≡◌, ℕ, zero, suc, ◌<◌, List, [], ◌∷◌, map, length, get_or, set, refl, sym, ap, ◌∙◌, arith}
use Rattle.std.specs.Prelude.{IsSomeAnd, slice_get}
use Rattle.lc_book.specs.Server.{Server}
use Rattle.lc_queue.specs.Parts.{End}
use Rattle.lc_inbox.specs.declared.rule.Key.{Key}
use Rattle.lc_inbox.specs.Sides.{InboxId, InboxSide, IsSameSide, AreOfOne, IsFinished}
use Rattle.lc_inbox.specs.Inboxes.{inbox_of, origin_of, AreMatched, AreSameSides, AreFinished}

-- sides that stay of their inboxes stay matched, on either side
inboxes_stay : (old new : List InboxSide) → AreSameSides old new → map inbox_of new ≡ map inbox_of old
inboxes_stay [] [] same = refl
inboxes_stay [] (s ∷ new) same = absurd (cc)
inboxes_stay (s ∷ old) [] same = absurd (cc)
inboxes_stay (s ∷ old) (t ∷ new) same =
    let both : origin_of t ≡ origin_of s = cc in
    let here : t.inbox ≡ s.inbox = ap (λ (o : InboxId × Key). o.0) both in
    let later : AreSameSides old new = cc in
    (λ i. here i ∷ inboxes_stay old new later i)

pub matched_in : (old new outgoing : List InboxSide) → AreSameSides old new → AreMatched old outgoing → AreMatched new outgoing
matched_in old new outgoing same matched = inboxes_stay old new same ∙ matched

pub matched_out : (incoming old new : List InboxSide) → AreSameSides old new → AreMatched incoming old → AreMatched incoming new
matched_out incoming old new same matched = matched ∙ sym (inboxes_stay old new same)

-- so it is after a call of one side
pub same_sides_set : (sides : List InboxSide) (at : ℕ) (other now : InboxSide) → IsSameSide (get_or sides at other) now → AreSameSides sides (set sides at now)
same_sides_set [] at other now same = refl
same_sides_set (s ∷ sides) zero other now same = (λ i. (same.inbox i, same.key i) ∷ map origin_of sides)
same_sides_set (s ∷ sides) (suc at) other now same = ap (λ (os : List (InboxId × Key)). origin_of s ∷ os) (same_sides_set sides at other now same)

-- each place by itself
pub matched_at : (incoming outgoing : List InboxSide) (at : ℕ) → AreMatched incoming outgoing → at < length incoming → IsSomeAnd (slice_get incoming at) (λ i. IsSomeAnd (slice_get outgoing at) (λ o. AreOfOne i o))
matched_at [] outgoing at matched few = absurd (omega arith)
matched_at (i ∷ incoming) [] at matched few = absurd (cc)
matched_at (i ∷ incoming) (o ∷ outgoing) zero matched few = cc
matched_at (i ∷ incoming) (o ∷ outgoing) (suc at) matched few = matched_at incoming outgoing at (cc) (omega arith)

pub finished_at : (incoming outgoing : List InboxSide) (books : List Server) (lanes : List End) (at : ℕ) → AreFinished incoming outgoing books lanes → at < length incoming
    → IsSomeAnd (slice_get incoming at) (λ i. IsSomeAnd (slice_get outgoing at) (λ o. IsSomeAnd (slice_get books at) (λ book. IsSomeAnd (slice_get lanes at) (λ lane. IsFinished i o book lane))))
finished_at [] outgoing books lanes at all few = absurd (omega arith)
finished_at (i ∷ incoming) [] books lanes at all few = absurd all
finished_at (i ∷ incoming) (o ∷ outgoing) [] lanes at all few = absurd all
finished_at (i ∷ incoming) (o ∷ outgoing) (b ∷ books) [] at all few = absurd all
finished_at (i ∷ incoming) (o ∷ outgoing) (b ∷ books) (l ∷ lanes) zero all few = all.0
finished_at (i ∷ incoming) (o ∷ outgoing) (b ∷ books) (l ∷ lanes) (suc at) all few = finished_at incoming outgoing books lanes at all.1 (omega arith)
