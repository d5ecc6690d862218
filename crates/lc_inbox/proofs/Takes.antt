-- What a take into a buffer says of the first message.
use Rattle.std.proofs.Common.{◌≡◌, ℕ, List, [], ◌∷◌, ◌++◌, length, take, drop, Bool, true, false, Option, Some, None, refl, sym, ◌∙◌, ap, subst, zero, suc}
use Rattle.std.specs.Prelude.{slice_get}
use Rattle.lc_ring.specs.Ring.{front, with_front}
use Rattle.lc_book.specs.Server.{Server}
use Rattle.lc_peer.specs.Inbox.{InboxState, none_waiting, take_answer, take_first}
use Rattle.lc_inbox.specs.Ends.{Held}
use Rattle.lc_inbox.specs.Lends.{first_taken, taken_entry}
use Rattle.lc_peer.specs.declared.inbox.Take.{Take}
use Rattle.lc_peer.specs.declared.inbox.Take.TheVariants.{Took, Empty, Ended}

front_of : (xs ys : List ℕ) → take (length xs) (xs ++ ys) ≡ xs
front_of [] [] = refl
front_of [] (y ∷ ys) = refl
front_of (x ∷ xs) ys = ap (λ (zs : List ℕ). x ∷ zs) (front_of xs ys)

-- where none waits, a take gives no message
not_waiting : (finished : Bool) (left : Option ℕ) (len : ℕ) → Took len ≡ none_waiting finished left → ⊥
not_waiting true left len is = absurd (cc)
not_waiting false None len is = absurd (cc)
not_waiting false (Some zero) len is = absurd (cc)
not_waiting false (Some (suc n)) len is = absurd (cc)

took_first : (book : Server) (ms : List (List ℕ)) (capacity len : ℕ) (buffer filled : List ℕ) → Took len ≡ take_answer record { book = book; ring = record { messages = ms; capacity = capacity } } → filled ≡ with_front (slice_get ms 0) buffer → slice_get ms 0 ≡ Some (take len filled)
took_first book [] capacity len buffer filled is fills = absurd (not_waiting book.finished book.send_left len is)
took_first book (body ∷ ms) capacity len buffer filled is fills =
    let same : len ≡ length body = cc in
    ap Some (sym ((λ i. take (same i) (fills i)) ∙ front_of body (drop (length body) buffer)))

pub took_front : (i : InboxState) (len : ℕ) (buffer filled : List ℕ) → Took len ≡ take_answer i → filled ≡ with_front (front i.ring) buffer → front i.ring ≡ Some (take len filled)
took_front i len buffer filled is fills = took_first i.book i.ring.messages i.ring.capacity len buffer filled is fills

length_first : (book : Server) (ms : List (List ℕ)) (capacity len : ℕ) (body : List ℕ) → Took len ≡ take_answer record { book = book; ring = record { messages = ms; capacity = capacity } } → slice_get ms 0 ≡ Some body → len ≡ length body
length_first book [] capacity len body is first = absurd (not_waiting book.finished book.send_left len is)
length_first book (b ∷ ms) capacity len body is first = let a : len ≡ length b = cc in let e : b ≡ body = cc in a ∙ ap length e

pub length_front : (i : InboxState) (len : ℕ) (body : List ℕ) → Took len ≡ take_answer i → front i.ring ≡ Some body → len ≡ length body
length_front i len body is first = length_first i.book i.ring.messages i.ring.capacity len body is first

pub filled_is : (i : InboxState) (body buffer filled : List ℕ) → front i.ring ≡ Some body → filled ≡ with_front (front i.ring) buffer → filled ≡ with_front (Some body) buffer
filled_is i body buffer filled first fills = fills ∙ ap (λ (o : Option (List ℕ)). with_front o buffer) first

-- a take that gives no message leaves all as it was
abbrev pub IsNone : Take → Type 0
IsNone (Took len) = ⊥
IsNone Empty = Unit {0}
IsNone Ended = Unit {0}

none_first : (book : Server) (ms : List (List ℕ)) (capacity : ℕ) (t : Take) → IsNone t → t ≡ take_answer record { book = book; ring = record { messages = ms; capacity = capacity } } → ms ≡ []
none_first book [] capacity t none is = refl
none_first book (m ∷ ms) capacity t none is = absurd (subst IsNone is none)

-- out of a ring in which none waits nothing is taken
empty_left : (h now : Held) → h.inbox.ring.messages ≡ [] → now ≡ record h { inbox = take_first h.inbox } → now ≡ h
empty_left h now empty after =
    let same : take_first h.inbox ≡ h.inbox = (λ i. take_first record { book = h.inbox.book; ring = record { messages = empty i; capacity = h.inbox.ring.capacity } }) ∙ (λ i. record { book = h.inbox.book; ring = record { messages = sym empty i; capacity = h.inbox.ring.capacity } }) in
    after ∙ ap (λ (x : InboxState). record h { inbox = x }) same

pub none_left : (h now : Held) (t : Take) → IsNone t → t ≡ take_answer h.inbox → now ≡ record h { inbox = take_first h.inbox } → now ≡ h
none_left h now t none is after = empty_left h now (none_first h.inbox.book h.inbox.ring.messages h.inbox.ring.capacity t none is) after

no_front : (ms : List (List ℕ)) → slice_get ms 0 ≡ None → ms ≡ []
no_front [] none = refl
no_front (m ∷ ms) none = absurd (cc)

pub unlent_left : (h now : Held) → front h.inbox.ring ≡ None → now ≡ record h { inbox = take_first h.inbox } → now ≡ h
unlent_left h now none after = empty_left h now (no_front h.inbox.ring.messages none) after

pub none_filled : (h : Held) (t : Take) (buffer filled : List ℕ) → IsNone t → t ≡ take_answer h.inbox → filled ≡ with_front (front h.inbox.ring) buffer → filled ≡ buffer
none_filled h t buffer filled none is fills =
    let empty : h.inbox.ring.messages ≡ [] = none_first h.inbox.book h.inbox.ring.messages h.inbox.ring.capacity t none is in
    fills ∙ ap (λ (ms : List (List ℕ)). with_front (slice_get ms 0) buffer) empty

-- where none waits nothing is taken
pub nothing_taken : (h : Held) (t : Take) → IsNone t → t ≡ take_answer h.inbox → first_taken h ≡ []
nothing_taken h t none is = ap (λ (ms : List (List ℕ)). taken_entry (slice_get ms 0)) (none_first h.inbox.book h.inbox.ring.messages h.inbox.ring.capacity t none is)
