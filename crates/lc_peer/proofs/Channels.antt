-- One channel of two streams, one step further.
use Rattle.std.proofs.Common.{◌≡◌, ℕ, ◌+◌, ◌<◌, ◌≤◌, false, List, [], ◌∷◌, ◌++◌, length, get_or, drop, Option, Some, None, refl, sym, ap, ◌∙◌, subst, arith}
use Rattle.std.specs.Prelude.{slice_get}
use Rattle.std.specs.Option.{option_map}
use Rattle.std.specs.List.{cons_option}
use Rattle.std.proofs.lemmas.List.{append-nil, length-append, length-drop, drop-append-le, drop_more}
use Rattle.lc_frame.specs.declared.channel.Channel.{Channel}
use Rattle.lc_frame.specs.declared.version.Version.{Version}
use Rattle.lc_frame.specs.declared.frame.Frame.{Frame}
use Rattle.lc_frame.specs.declared.frame.Frame.TheVariants.{Send, Absolve}
use Rattle.lc_frame.specs.Channel.{is_same}
use Rattle.lc_frame.specs.Frame.{channel_of}
use Rattle.lc_frame.specs.Stream.{message_of, messages}
use Rattle.lc_frame.proofs.Measures.{messages-append, messages-one, messages-other}
use Rattle.lc_book.specs.Client.{amount_to_absolve, honour}
use Rattle.lc_book.specs.Server.{Server, note_taken}
use Rattle.lc_book.specs.Sums.{client_of, server_of, client_after_put, server_after_put, client_after_arrival, server_after_arrival, asked_after, taken_cost}
use Rattle.lc_book.proofs.SumsKept.{books_keep_sums, every_honour_keeps_sums}
use Rattle.lc_book.proofs.TakesKept.{every_take_keeps_sums}
use Rattle.lc_ring.specs.Ring.{Ring}
use Rattle.lc_peer.specs.declared.channel_state.ChannelState.{ChannelState}
use Rattle.lc_peer.specs.Inbox.{note_front, take_first}
use Rattle.lc_peer.specs.Calls.{channel_after_put, absolvings, channel_after_honour}
use Rattle.lc_peer.specs.Arrivals.{ring_after_arrival, channel_after_arrival}
use Rattle.lc_peer.specs.Streams.{IsChannelOf}

ring_messages : (f : Frame) (ring : Ring) → (ring_after_arrival f ring).messages ≡ ring.messages ++ cons_option (message_of f) []
ring_messages (Send c body) ring = refl
ring_messages f ring = sym (append-nil ring.messages)

ring_capacity : (f : Frame) (ring : Ring) → (ring_after_arrival f ring).capacity ≡ ring.capacity
ring_capacity (Send c body) ring = refl
ring_capacity f ring = refl

module _ (version : Version) (capacity : ℕ) (put arrived : List Frame) (taken : ℕ) (asked : Option ℕ) (s : ChannelState) where
  -- a frame is put, on the channel and on another
  pub put_here : (f : Frame) → IsChannelOf version capacity (channel_of f) put arrived taken asked s → IsChannelOf version capacity (channel_of f) (put ++ f ∷ []) arrived taken asked (channel_after_put f s)
  put_here f h =
      let sums = books_keep_sums version capacity put arrived asked (taken_cost (channel_of f) arrived taken) f in
      record {
        client = ap (client_after_put f) h.client ∙ sums.0.put_here;
        server = ap (server_after_put f) h.server ∙ sums.1.put_here;
        waiting = h.waiting;
        room = h.room;
        of_arrived = h.of_arrived;
      }

  pub put_elsewhere : (f : Frame) (c : Channel) → is_same c (channel_of f) ≡ false → IsChannelOf version capacity c put arrived taken asked s → IsChannelOf version capacity c (put ++ f ∷ []) arrived taken asked s
  put_elsewhere f c apart h =
      let sums = books_keep_sums version capacity put arrived asked (taken_cost c arrived taken) f in
      record {
        client = h.client ∙ sums.0.put_elsewhere c apart;
        server = h.server ∙ sums.1.put_elsewhere c apart;
        waiting = h.waiting;
        room = h.room;
        of_arrived = h.of_arrived;
      }

  -- a frame arrives, on the channel and on another
  pub arrive_here : (f : Frame) → IsChannelOf version capacity (channel_of f) put arrived taken asked s → IsChannelOf version capacity (channel_of f) put (arrived ++ f ∷ []) taken (asked_after f asked) (channel_after_arrival f s)
  arrive_here f h =
      let c = channel_of f in
      let sums = books_keep_sums version capacity put arrived asked (taken_cost c arrived taken) f in
      let took = (every_take_keeps_sums capacity c put arrived taken).stays f h.of_arrived in
      let more : messages c (arrived ++ f ∷ []) ≡ messages c arrived ++ cons_option (message_of f) [] = messages-append c arrived (f ∷ []) ∙ ap (λ (ms : List (List ℕ)). messages c arrived ++ ms) (messages-one f) in
      record {
        client = ap (client_after_arrival f) h.client ∙ sums.0.arrived_here;
        server = ap (server_after_arrival f) h.server ∙ (sums.1.arrived_here ∙ ap (λ (t : ℕ). server_of capacity c put (arrived ++ f ∷ []) t) (sym took));
        waiting = ring_messages f s.inbox.ring
            ∙ (ap (λ (ms : List (List ℕ)). ms ++ cons_option (message_of f) []) h.waiting
            ∙ (sym (drop-append-le taken (messages c arrived) (cons_option (message_of f) []) h.of_arrived)
            ∙ ap (drop taken) (sym more)));
        room = ring_capacity f s.inbox.ring ∙ h.room;
        of_arrived = omega (arith, h.of_arrived, ap length more, length-append (messages c arrived) (cons_option (message_of f) []));
      }

  pub arrive_elsewhere : (f : Frame) (c : Channel) → is_same c (channel_of f) ≡ false → IsChannelOf version capacity c put arrived taken asked s → IsChannelOf version capacity c put (arrived ++ f ∷ []) taken asked s
  arrive_elsewhere f c apart h =
      let sums = books_keep_sums version capacity put arrived asked (taken_cost c arrived taken) f in
      let took = (every_take_keeps_sums capacity c put arrived taken).stays f h.of_arrived in
      let same = sym (messages-other c arrived f apart) in
      record {
        client = h.client ∙ sums.0.arrived_elsewhere c apart;
        server = h.server ∙ (sums.1.arrived_elsewhere c apart ∙ ap (λ (t : ℕ). server_of capacity c put (arrived ++ f ∷ []) t) (sym took));
        waiting = h.waiting ∙ ap (drop taken) same;
        room = h.room;
        of_arrived = subst (λ (ms : List (List ℕ)). taken ≤ length ms) same h.of_arrived;
      }

  -- an honour, on the channel and on another
  pub honour_here : (c : Channel) (due : Option ℕ) → amount_to_absolve s.client ≡ due → IsChannelOf version capacity c put arrived taken asked s → IsChannelOf version capacity c (put ++ absolvings c due) arrived taken None (channel_after_honour s)
  honour_here c None e h =
      let none = sym (append-nil put) in
      record {
        client = ap honour h.client ∙ ((every_honour_keeps_sums version c put arrived asked).forgets (ap amount_to_absolve (sym h.client) ∙ e) ∙ ap (λ (fs : List Frame). client_of version c fs arrived None) none);
        server = h.server ∙ ap (λ (fs : List Frame). server_of capacity c fs arrived (taken_cost c arrived taken)) none;
        waiting = h.waiting;
        room = h.room;
        of_arrived = h.of_arrived;
      }
  honour_here c (Some n) e h =
      let f : Frame = Absolve c n in
      record {
        client = ap honour h.client ∙ (every_honour_keeps_sums version c put arrived asked).absolves n (ap amount_to_absolve (sym h.client) ∙ e);
        server = h.server ∙ (books_keep_sums version capacity put arrived asked (taken_cost c arrived taken) f).1.put_here;
        waiting = h.waiting;
        room = h.room;
        of_arrived = h.of_arrived;
      }

  pub honour_elsewhere : (d : Channel) (due : Option ℕ) (c : Channel) → is_same c d ≡ false → IsChannelOf version capacity c put arrived taken asked s → IsChannelOf version capacity c (put ++ absolvings d due) arrived taken asked s
  honour_elsewhere d None c apart h = subst (λ (fs : List Frame). IsChannelOf version capacity c fs arrived taken asked s) (sym (append-nil put)) h
  honour_elsewhere d (Some n) c apart h = put_elsewhere (Absolve d n) c apart h

  -- a take, where a message waits and where none does
  pub take_here : (c : Channel) → 0 < length s.inbox.ring.messages → IsChannelOf version capacity c put arrived taken asked s → IsChannelOf version capacity c put arrived (taken + 1) asked (record s { inbox = take_first s.inbox })
  take_here c some h =
      let ms = messages c arrived in
      let lt : taken < length ms = omega (arith, some, ap length h.waiting, length-drop taken ms) in
      let is = h.waiting ∙ drop_more ms taken [] lt in
      let takes = every_take_keeps_sums capacity c put arrived taken in
      record {
        client = h.client;
        server = ap (λ (xs : List (List ℕ)). note_front s.inbox.book (option_map length (slice_get xs 0))) is ∙ (ap (λ (b : Server). note_taken b (length (get_or ms taken []))) h.server ∙ takes.takes lt);
        waiting = ap (drop 1) is;
        room = h.room;
        of_arrived = omega (arith, lt);
      }

  pub take_none : (c : Channel) → s.inbox.ring.messages ≡ [] → IsChannelOf version capacity c put arrived taken asked s → IsChannelOf version capacity c put arrived taken asked (record s { inbox = take_first s.inbox })
  take_none c none h =
      record {
        client = h.client;
        server = ap (λ (xs : List (List ℕ)). note_front s.inbox.book (option_map length (slice_get xs 0))) none ∙ h.server;
        waiting = ap (drop 1) none ∙ (sym none ∙ h.waiting);
        room = h.room;
        of_arrived = h.of_arrived;
      }
