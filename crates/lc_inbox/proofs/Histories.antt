-- Lemmas on an inbox's history: its messages are in order, and what one entry more leaves.
use Rattle.std.proofs.Common.{◌≡◌, ℕ, ◌+◌, List, [], ◌∷◌, ◌++◌, length, drop, Option, Some, None, refl, sym, ◌∙◌, ap, subst, append_assoc, append-nil, arith}
use Rattle.std.specs.Prelude.{sum_by, slice_get}
use Rattle.std.specs.Option.{option_map}
use Rattle.std.proofs.lemmas.List.Sums.{sum_by-append}
use Rattle.std.proofs.lemmas.List.Elements.{filter_map-append}
use Rattle.lc_history.specs.History.{IsHistoryAfter, IsHistory}
use Rattle.lc_history.proofs.Histories.{history-push}
use Rattle.lc_frame.specs.declared.version.Version.TheVariants.{One}
use Rattle.lc_frame.specs.declared.channel.Channel.{Channel}
use Rattle.lc_frame.specs.declared.frame.Frame.{Frame}
use Rattle.lc_frame.specs.declared.frame.Frame.TheVariants.{Send, Issue, Absolve, Plead, LimitSending, LimitReceiving, Finish}
use Rattle.lc_frame.specs.Channel.{number_of}
use Rattle.lc_frame.specs.Frame.{channel_of, lane_of}
use Rattle.lc_frame.specs.Stream.{messages}
use Rattle.lc_frame.proofs.Channels.{same_from_number, number_below}
use Rattle.lc_frame.proofs.Measures.{messages-append, messages-one}
use Rattle.lc_book.specs.Server.{note_taken}
use Rattle.lc_book.specs.Sums.{server_of, server_after_arrival, server_after_put}
use Rattle.lc_book.proofs.SumsKept.{books_keep_sums, server_is}
use Rattle.lc_ring.specs.Ring.{Ring}
use Rattle.lc_peer.specs.Inbox.{note_front, take_first}
use Rattle.lc_peer.specs.Arrivals.{ring_after_arrival}
use Rattle.lc_inbox.specs.declared.history.Entry.{Entry}
use Rattle.lc_inbox.specs.declared.history.Entry.TheVariants.{Heard, Refused, Put, Took}
use Rattle.lc_inbox.specs.declared.rule.Key.{Key}
use Rattle.lc_inbox.specs.Ends.{Held, arrive, put as put_frame}
use Rattle.lc_inbox.specs.History.{heard_of, put_of, took_of, heard, put, took, book_after, waiting, inbox_after, lane_after, held_after, MayFollow, IsInOrder, IsLeftBy}

-- the frames and messages of one entry more
heard-push : (xs : List Entry) (e : Entry) → heard (xs ++ e ∷ []) ≡ heard xs ++ heard (e ∷ [])
heard-push xs e = filter_map-append heard_of xs (e ∷ [])

put-push : (xs : List Entry) (e : Entry) → put (xs ++ e ∷ []) ≡ put xs ++ put (e ∷ [])
put-push xs e = filter_map-append put_of xs (e ∷ [])

took-push : (xs : List Entry) (e : Entry) → took (xs ++ e ∷ []) ≡ took xs ++ took (e ∷ [])
took-push xs e = filter_map-append took_of xs (e ∷ [])

-- the rest of a list, after what is known to begin it
rest_is : (xs ys all : List (List ℕ)) → all ≡ xs ++ ys → drop (length xs) all ≡ ys
rest_is xs ys all is = ap (drop (length xs)) is ∙ behind xs ys
  where
    behind : (xs ys : List (List ℕ)) → drop (length xs) (xs ++ ys) ≡ ys
    behind [] ys = refl
    behind (x ∷ xs) ys = behind xs ys

-- what a lane says of its frames' channel
pub client_lane : (c : Channel) (f : Frame) → lane_of f ≡ number_of c → channel_of f ≡ c
client_lane c (Send d body) on = same_from_number d c on
client_lane c (Absolve d n) on = same_from_number d c on
client_lane c (LimitSending d n) on = same_from_number d c on
client_lane c (Finish d) on = same_from_number d c on
client_lane c (Issue d n) on = let small = number_below c in absurd (omega arith)
client_lane c (Plead d n) on = let small = number_below c in absurd (omega arith)
client_lane c (LimitReceiving d n) on = let small = number_below c in absurd (omega arith)

pub server_lane : (c : Channel) (f : Frame) → lane_of f ≡ 7 + number_of c → channel_of f ≡ c
server_lane c (Send d body) on = let small = number_below d in absurd (omega arith)
server_lane c (Absolve d n) on = let small = number_below d in absurd (omega arith)
server_lane c (LimitSending d n) on = let small = number_below d in absurd (omega arith)
server_lane c (Finish d) on = let small = number_below d in absurd (omega arith)
server_lane c (Issue d n) on = same_from_number d c (omega arith)
server_lane c (Plead d n) on = same_from_number d c (omega arith)
server_lane c (LimitReceiving d n) on = same_from_number d c (omega arith)

-- a state that is made of these
held_is : (key : Key) (history : List Entry) (p h : List Frame) (t r : List (List ℕ)) → put history ≡ p → heard history ≡ h → took history ≡ t → waiting key history ≡ r
    → record { channel = key.channel; inbox = record { book = server_of key.capacity key.channel p h (sum_by length t); ring = record { messages = r; capacity = key.capacity } }; lane = record key.lane.value { put = p } } ≡ held_after key history
held_is key history p h t r puts hears takes waits =
    λ i. record { channel = key.channel; inbox = record { book = server_of key.capacity key.channel (sym puts i) (sym hears i) (sum_by length (sym takes i)); ring = record { messages = sym waits i; capacity = key.capacity } }; lane = record key.lane.value { put = sym puts i } }

ring_after : (f : Frame) (taken : List (List ℕ)) (ring : Ring) → (taken ++ ring.messages) ++ messages (channel_of f) (f ∷ []) ≡ taken ++ (ring_after_arrival f ring).messages
ring_after (Send c body) taken ring = let f : Frame = Send c body in rw (messages-one f) (append_assoc taken ring.messages (body ∷ []))
ring_after (Issue c n) taken ring = let f : Frame = Issue c n in rw (messages-one f) (append-nil (taken ++ ring.messages))
ring_after (Absolve c n) taken ring = let f : Frame = Absolve c n in rw (messages-one f) (append-nil (taken ++ ring.messages))
ring_after (Plead c n) taken ring = let f : Frame = Plead c n in rw (messages-one f) (append-nil (taken ++ ring.messages))
ring_after (LimitSending c n) taken ring = let f : Frame = LimitSending c n in rw (messages-one f) (append-nil (taken ++ ring.messages))
ring_after (LimitReceiving c n) taken ring = let f : Frame = LimitReceiving c n in rw (messages-one f) (append-nil (taken ++ ring.messages))
ring_after (Finish c) taken ring = let f : Frame = Finish c in rw (messages-one f) (append-nil (taken ++ ring.messages))

same_capacity : (f : Frame) (ring : Ring) → (ring_after_arrival f ring).capacity ≡ ring.capacity
same_capacity (Send c body) ring = refl
same_capacity (Issue c n) ring = refl
same_capacity (Absolve c n) ring = refl
same_capacity (Plead c n) ring = refl
same_capacity (LimitSending c n) ring = refl
same_capacity (LimitReceiving c n) ring = refl
same_capacity (Finish c) ring = refl

-- the book of the sums, with one frame more
book_heard : (capacity : ℕ) (c : Channel) (f : Frame) (p h : List Frame) (t : ℕ) → channel_of f ≡ c → server_after_arrival f (server_of capacity c p h t) ≡ server_of capacity c p (h ++ f ∷ []) t
book_heard capacity c f p h t on = subst (λ (d : Channel). server_after_arrival f (server_of capacity d p h t) ≡ server_of capacity d p (h ++ f ∷ []) t) on (books_keep_sums One capacity p h None t f).1.arrived_here

book_put : (capacity : ℕ) (c : Channel) (f : Frame) (p h : List Frame) (t : ℕ) → channel_of f ≡ c → server_after_put f (server_of capacity c p h t) ≡ server_of capacity c (p ++ f ∷ []) h t
book_put capacity c f p h t on = subst (λ (d : Channel). server_after_put f (server_of capacity d p h t) ≡ server_of capacity d (p ++ f ∷ []) h t) on (books_keep_sums One capacity p h None t f).1.put_here

messages_heard : (c : Channel) (f : Frame) (h : List Frame) (t : List (List ℕ)) (ring : Ring) → channel_of f ≡ c → messages c h ≡ t ++ ring.messages → messages c (h ++ f ∷ []) ≡ t ++ (ring_after_arrival f ring).messages
messages_heard c f h t ring on is = subst (λ (d : Channel). messages d h ≡ t ++ ring.messages → messages d (h ++ f ∷ []) ≡ t ++ (ring_after_arrival f ring).messages) on
    (λ (r : messages (channel_of f) h ≡ t ++ ring.messages). messages-append (channel_of f) h (f ∷ []) ∙ (ap (λ (ms : List (List ℕ)). ms ++ messages (channel_of f) (f ∷ [])) r ∙ ring_after f t ring)) is

-- one entry more keeps the order
module _ (key : Key) (log : List Entry) where
  waits_as : (e : Entry) (r : List (List ℕ)) → messages key.channel (heard (log ++ e ∷ [])) ≡ took (log ++ e ∷ []) ++ r → waiting key (log ++ e ∷ []) ≡ r
  waits_as e r is = rest_is (took (log ++ e ∷ [])) r (messages key.channel (heard (log ++ e ∷ []))) is

  heard_first : (f : Frame) → MayFollow key log (Heard f) → IsInOrder key log → messages key.channel (heard (log ++ Heard f ∷ [])) ≡ took (log ++ Heard f ∷ []) ++ (ring_after_arrival f (inbox_after key log).ring).messages
  heard_first f may order =
      let e : Entry = Heard f in
      let on : channel_of f ≡ key.channel = client_lane key.channel f may.0 in
      let hears : heard (log ++ e ∷ []) ≡ heard log ++ f ∷ [] = heard-push log e in
      let takes : took (log ++ e ∷ []) ≡ took log = took-push log e ∙ append-nil (took log) in
      let ring : Ring = ring_after_arrival f (inbox_after key log).ring in
      ap (messages key.channel) hears ∙ (messages_heard key.channel f (heard log) (took log) (inbox_after key log).ring on order ∙ ap (λ (ts : List (List ℕ)). ts ++ ring.messages) (sym takes))

  -- a first message is there, and the rest follows it
  split_first : (body : List ℕ) (ms : List (List ℕ)) → slice_get ms 0 ≡ Some body → ms ≡ body ∷ drop 1 ms
  split_first body [] is = absurd (cc)
  split_first body (m ∷ ms) is = let same : m ≡ body = cc in ap (λ (x : List ℕ). x ∷ ms) same

  took_first : (body : List ℕ) → MayFollow key log (Took body) → IsInOrder key log → messages key.channel (heard (log ++ Took body ∷ [])) ≡ took (log ++ Took body ∷ []) ++ drop 1 (waiting key log)
  took_first body may order =
      let e : Entry = Took body in
      let hears : heard (log ++ e ∷ []) ≡ heard log = heard-push log e ∙ append-nil (heard log) in
      let takes : took (log ++ e ∷ []) ≡ took log ++ body ∷ [] = took-push log e in
      let rest : List (List ℕ) = drop 1 (waiting key log) in
      ap (messages key.channel) hears ∙ (order ∙ (ap (λ (ms : List (List ℕ)). took log ++ ms) (split_first body (waiting key log) may) ∙ (sym (append_assoc (took log) (body ∷ []) rest) ∙ ap (λ (ts : List (List ℕ)). ts ++ rest) (sym takes))))

  -- an entry that is neither an arrival nor a take
  same_waiting : (e : Entry) → heard (e ∷ []) ≡ [] → took (e ∷ []) ≡ [] → waiting key (log ++ e ∷ []) ≡ waiting key log
  same_waiting e none no_body =
      let hears : heard (log ++ e ∷ []) ≡ heard log = heard-push log e ∙ (ap (λ (fs : List Frame). heard log ++ fs) none ∙ append-nil (heard log)) in
      let takes : took (log ++ e ∷ []) ≡ took log = took-push log e ∙ (ap (λ (ts : List (List ℕ)). took log ++ ts) no_body ∙ append-nil (took log)) in
      (λ i. drop (length (takes i)) (messages key.channel (hears i)))

  same_order : (e : Entry) → heard (e ∷ []) ≡ [] → took (e ∷ []) ≡ [] → IsInOrder key log → IsInOrder key (log ++ e ∷ [])
  same_order e none no_body order =
      let hears : heard (log ++ e ∷ []) ≡ heard log = heard-push log e ∙ (ap (λ (fs : List Frame). heard log ++ fs) none ∙ append-nil (heard log)) in
      let takes : took (log ++ e ∷ []) ≡ took log = took-push log e ∙ (ap (λ (ts : List (List ℕ)). took log ++ ts) no_body ∙ append-nil (took log)) in
      let waits : waiting key (log ++ e ∷ []) ≡ waiting key log = same_waiting e none no_body in
      ap (messages key.channel) hears ∙ (order ∙ (λ i. sym takes i ++ sym waits i))

  order-push : (e : Entry) → MayFollow key log e → IsInOrder key log → IsInOrder key (log ++ e ∷ [])
  order-push (Heard f) may order = let is = heard_first f may order in is ∙ ap (λ (ms : List (List ℕ)). took (log ++ Heard f ∷ []) ++ ms) (sym (waits_as (Heard f) _ is))
  order-push (Refused f) may order = same_order (Refused f) refl refl order
  order-push (Put f) may order = same_order (Put f) refl refl order
  order-push (Took body) may order = let is = took_first body may order in is ∙ ap (λ (ms : List (List ℕ)). took (log ++ Took body ∷ []) ++ ms) (sym (waits_as (Took body) _ is))

order_after : (key : Key) (before later : List Entry) → IsInOrder key before → IsHistoryAfter (MayFollow key) before later → IsInOrder key (before ++ later)
order_after key before [] order legal = subst (IsInOrder key) (sym (append-nil before)) order
order_after key before (e ∷ later) order legal = subst (IsInOrder key) (append_assoc before (e ∷ []) later) (order_after key (before ++ e ∷ []) later (order-push key before e legal.0 order) legal.1)

-- the messages that arrived are those that were taken, and then those that wait
pub in_order : (key : Key) (history : List Entry) → IsHistory (MayFollow key) history → IsInOrder key history
in_order key history legal = order_after key [] history refl legal

-- what one entry more leaves
module _ (key : Key) (log : List Entry) where
  pub left_heard : (f : Frame) (old new : Held) → IsLeftBy key old log → MayFollow key log (Heard f) → new ≡ arrive f old → IsLeftBy key new (log ++ Heard f ∷ [])
  left_heard f old new h may is =
      let e : Entry = Heard f in
      let on : channel_of f ≡ key.channel = client_lane key.channel f may.0 in
      let puts : put (log ++ e ∷ []) ≡ put log = put-push log e ∙ append-nil (put log) in
      let hears : heard (log ++ e ∷ []) ≡ heard log ++ f ∷ [] = heard-push log e in
      let takes : took (log ++ e ∷ []) ≡ took log = took-push log e ∙ append-nil (took log) in
      let ring : Ring = ring_after_arrival f (inbox_after key log).ring in
      let waits : waiting key (log ++ e ∷ []) ≡ ring.messages = waits_as key log e ring.messages (heard_first key log f may (in_order key log h.legal)) in
      let book = book_heard key.capacity key.channel f (put log) (heard log) (sum_by length (took log)) on in
      record {
        legal = history-push (MayFollow key) log e may h.legal;
        is = is ∙ (ap (arrive f) h.is ∙ ((λ i. record { channel = key.channel; inbox = record { book = book i; ring = record { messages = ring.messages; capacity = same_capacity f (inbox_after key log).ring i } }; lane = lane_after key log }) ∙ held_is key (log ++ e ∷ []) (put log) (heard log ++ f ∷ []) (took log) ring.messages puts hears takes waits));
      }

  pub left_refused : (f : Frame) (held : Held) → IsLeftBy key held log → MayFollow key log (Refused f) → IsLeftBy key held (log ++ Refused f ∷ [])
  left_refused f held h may =
      let e : Entry = Refused f in
      let puts : put (log ++ e ∷ []) ≡ put log = put-push log e ∙ append-nil (put log) in
      let hears : heard (log ++ e ∷ []) ≡ heard log = heard-push log e ∙ append-nil (heard log) in
      let takes : took (log ++ e ∷ []) ≡ took log = took-push log e ∙ append-nil (took log) in
      record {
        legal = history-push (MayFollow key) log e may h.legal;
        is = h.is ∙ held_is key (log ++ e ∷ []) (put log) (heard log) (took log) (waiting key log) puts hears takes (same_waiting key log e refl refl);
      }

  pub left_put : (f : Frame) (old new : Held) → IsLeftBy key old log → MayFollow key log (Put f) → new ≡ put_frame f old → IsLeftBy key new (log ++ Put f ∷ [])
  left_put f old new h may is =
      let e : Entry = Put f in
      let on : channel_of f ≡ key.channel = server_lane key.channel f may.0 in
      let puts : put (log ++ e ∷ []) ≡ put log ++ f ∷ [] = put-push log e in
      let hears : heard (log ++ e ∷ []) ≡ heard log = heard-push log e ∙ append-nil (heard log) in
      let takes : took (log ++ e ∷ []) ≡ took log = took-push log e ∙ append-nil (took log) in
      let book = book_put key.capacity key.channel f (put log) (heard log) (sum_by length (took log)) on in
      record {
        legal = history-push (MayFollow key) log e may h.legal;
        is = is ∙ (ap (put_frame f) h.is ∙ ((λ i. record { channel = key.channel; inbox = record { book = book i; ring = (inbox_after key log).ring }; lane = record key.lane.value { put = put log ++ f ∷ [] } }) ∙ held_is key (log ++ e ∷ []) (put log ++ f ∷ []) (heard log) (took log) (waiting key log) puts hears takes (same_waiting key log e refl refl)));
      }

  take_is : (h : Held) (body : List ℕ) → slice_get h.inbox.ring.messages 0 ≡ Some body → record h { inbox = take_first h.inbox } ≡ record h { inbox = record { book = note_taken h.inbox.book (length body); ring = record h.inbox.ring { messages = drop 1 h.inbox.ring.messages } } }
  take_is h body is = ap (λ (o : Option (List ℕ)). record h { inbox = record { book = note_front h.inbox.book (option_map length o); ring = record h.inbox.ring { messages = drop 1 h.inbox.ring.messages } } }) is

  pub left_took : (body : List ℕ) (old new : Held) → IsLeftBy key old log → MayFollow key log (Took body) → new ≡ record old { inbox = take_first old.inbox } → IsLeftBy key new (log ++ Took body ∷ [])
  left_took body old new h may is =
      let e : Entry = Took body in
      let puts : put (log ++ e ∷ []) ≡ put log = put-push log e ∙ append-nil (put log) in
      let hears : heard (log ++ e ∷ []) ≡ heard log = heard-push log e ∙ append-nil (heard log) in
      let takes : took (log ++ e ∷ []) ≡ took log ++ body ∷ [] = took-push log e in
      let rest : List (List ℕ) = drop 1 (waiting key log) in
      let waits : waiting key (log ++ e ∷ []) ≡ rest = waits_as key log e rest (took_first key log body may (in_order key log h.legal)) in
      let sum : sum_by length (took log ++ body ∷ []) ≡ sum_by length (took log) + length body = sum_by-append length (took log) (body ∷ []) ∙ omega arith in
      let book : note_taken (book_after key log) (length body) ≡ server_of key.capacity key.channel (put log) (heard log) (sum_by length (took log ++ body ∷ [])) = server_is _ _ refl refl refl (sym sum) refl refl refl refl in
      record {
        legal = history-push (MayFollow key) log e may h.legal;
        is = is ∙ (ap (λ (x : Held). record x { inbox = take_first x.inbox }) h.is ∙ (take_is (held_after key log) body may ∙ ((λ i. record { channel = key.channel; inbox = record { book = book i; ring = record { messages = rest; capacity = key.capacity } }; lane = lane_after key log }) ∙ held_is key (log ++ e ∷ []) (put log) (heard log) (took log ++ body ∷ []) rest puts hears takes waits)));
      }
