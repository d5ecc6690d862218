-- Books of sums after one frame more.
use Rattle.std.specs.Prelude.{◌||◌}
use Rattle.std.proofs.Common.{◌≡◌, ℕ, ◌+◌, List, [], ◌∷◌, ◌++◌, length, Bool, true, false, Option, None, refl, sym, ap, ◌∙◌, arith}
use Rattle.lc_frame.specs.declared.channel.Channel.{Channel}
use Rattle.lc_frame.specs.declared.version.Version.{Version}
use Rattle.lc_frame.specs.declared.frame.Frame.{Frame}
use Rattle.lc_frame.specs.declared.frame.Frame.TheVariants.{Send, Issue, Absolve, Plead, LimitSending, LimitReceiving, Finish}
use Rattle.lc_frame.specs.Frame.{channel_of}
use Rattle.lc_frame.specs.Stream.{cost, issued, absolved, is_finish, finished}
use Rattle.lc_frame.proofs.Measures.{cost-append, cost-one, issued-append, issued-one, absolved-append, absolved-one, cost-other, issued-other, absolved-other, send_left-push, receive_left-push, send_left-other, receive_left-other, finished-push, finished-other}
use Rattle.lc_book.specs.Client.{Client, kept}
use Rattle.lc_book.specs.Server.{Server}
use Rattle.lc_book.specs.Sums.{client_of, server_of, client_after_put, client_after_arrival, server_after_put, server_after_arrival, asked_after, ClientKeepsSums, ServerKeepsSums, BooksKeepSums, HonourKeepsSums, EveryHonourKeepsSums}

client_same : (v v' : Version) (r r' s s' a a' : ℕ) (l l' m m' p p' : Option ℕ) (d d' : Bool) → v ≡ v' → r ≡ r' → s ≡ s' → a ≡ a' → l ≡ l' → m ≡ m' → p ≡ p' → d ≡ d' → ◌≡◌ {A = Client} (record { version = v; received = r; spent = s; absolved = a; send_left = l; receive_left = m; asked = p; finished = d }) (record { version = v'; received = r'; spent = s'; absolved = a'; send_left = l'; receive_left = m'; asked = p'; finished = d' })
client_same v v' r r' s s' a a' l l' m m' p p' d d' ev er es ea el em ep ed = cc

-- two books with the same fields are one
pub client_is : (a b : Client) → a.version ≡ b.version → a.received ≡ b.received → a.spent ≡ b.spent → a.absolved ≡ b.absolved → a.send_left ≡ b.send_left → a.receive_left ≡ b.receive_left → a.asked ≡ b.asked → a.finished ≡ b.finished → a ≡ b
client_is a b ev er es ea el em ep ed = client_same a.version b.version a.received b.received a.spent b.spent a.absolved b.absolved a.send_left b.send_left a.receive_left b.receive_left a.asked b.asked a.finished b.finished ev er es ea el em ep ed

server_same : (k k' n n' r r' t t' a a' : ℕ) (l l' m m' : Option ℕ) (d d' : Bool) → k ≡ k' → n ≡ n' → r ≡ r' → t ≡ t' → a ≡ a' → l ≡ l' → m ≡ m' → d ≡ d' → ◌≡◌ {A = Server} (record { capacity = k; issued = n; arrived = r; taken = t; absolved = a; send_left = l; receive_left = m; finished = d }) (record { capacity = k'; issued = n'; arrived = r'; taken = t'; absolved = a'; send_left = l'; receive_left = m'; finished = d' })
server_same k k' n n' r r' t t' a a' l l' m m' d d' ek en er et ea el em ed = cc

pub server_is : (a b : Server) → a.capacity ≡ b.capacity → a.issued ≡ b.issued → a.arrived ≡ b.arrived → a.taken ≡ b.taken → a.absolved ≡ b.absolved → a.send_left ≡ b.send_left → a.receive_left ≡ b.receive_left → a.finished ≡ b.finished → a ≡ b
server_is a b ek en er et ea el em ed = server_same a.capacity b.capacity a.issued b.issued a.arrived b.arrived a.taken b.taken a.absolved b.absolved a.send_left b.send_left a.receive_left b.receive_left a.finished b.finished ek en er et ea el em ed

-- a sum over one frame more on its channel
cost_more : (frames : List Frame) (f : Frame) (n : ℕ) → cost (channel_of f) (f ∷ []) ≡ n → cost (channel_of f) frames + n ≡ cost (channel_of f) (frames ++ f ∷ [])
cost_more frames f n e = omega (arith, e, cost-append (channel_of f) frames (f ∷ []))

issued_more : (frames : List Frame) (f : Frame) (n : ℕ) → issued (channel_of f) (f ∷ []) ≡ n → issued (channel_of f) frames + n ≡ issued (channel_of f) (frames ++ f ∷ [])
issued_more frames f n e = omega (arith, e, issued-append (channel_of f) frames (f ∷ []))

absolved_more : (frames : List Frame) (f : Frame) (n : ℕ) → absolved (channel_of f) (f ∷ []) ≡ n → absolved (channel_of f) frames + n ≡ absolved (channel_of f) (frames ++ f ∷ [])
absolved_more frames f n e = omega (arith, e, absolved-append (channel_of f) frames (f ∷ []))

no_cost_more : (frames : List Frame) (f : Frame) → cost (channel_of f) (f ∷ []) ≡ 0 → cost (channel_of f) frames ≡ cost (channel_of f) (frames ++ f ∷ [])
no_cost_more frames f e = omega (arith, cost_more frames f 0 e)

none_issued_more : (frames : List Frame) (f : Frame) → issued (channel_of f) (f ∷ []) ≡ 0 → issued (channel_of f) frames ≡ issued (channel_of f) (frames ++ f ∷ [])
none_issued_more frames f e = omega (arith, issued_more frames f 0 e)

none_absolved_more : (frames : List Frame) (f : Frame) → absolved (channel_of f) (f ∷ []) ≡ 0 → absolved (channel_of f) frames ≡ absolved (channel_of f) (frames ++ f ∷ [])
none_absolved_more frames f e = omega (arith, absolved_more frames f 0 e)

finished_again : (b : Bool) → b ≡ (b || false)
finished_again true = refl
finished_again false = refl

finished_now : (b : Bool) → true ≡ (b || true)
finished_now true = refl
finished_now false = refl

pub not_finished_more : (frames : List Frame) (f : Frame) → is_finish f ≡ false → finished (channel_of f) frames ≡ finished (channel_of f) (frames ++ f ∷ [])
not_finished_more frames f e = finished_again _ ∙ ap (λ b. finished (channel_of f) frames || (b || false)) (sym e) ∙ sym (finished-push frames f)

finished_more : (frames : List Frame) (c : Channel) → true ≡ finished c (frames ++ Finish c ∷ [])
finished_more frames c = finished_now _ ∙ sym (finished-push frames (Finish c))

-- what is kept of a plead
kept_again : (asked : Option ℕ) (b d : Bool) → b ≡ d → kept b asked ≡ kept d asked
kept_again asked b d e = ap (λ x. kept x asked) e

module _ (version : Version) (put arrived : List Frame) (asked : Option ℕ) where
  client_put_here : (f : Frame) → client_after_put f (client_of version (channel_of f) put arrived asked) ≡ client_of version (channel_of f) (put ++ f ∷ []) arrived asked
  client_put_here (Send c body) = let f : Frame = Send c body in client_is _ _ refl refl (cost_more put f (length body) (cost-one f ∙ omega arith)) (none_absolved_more put f (absolved-one f)) (sym (send_left-push put f)) refl (kept_again asked _ _ (not_finished_more put f refl)) (not_finished_more put f refl)
  client_put_here (Issue c n) = let f : Frame = Issue c n in client_is _ _ refl refl (no_cost_more put f (cost-one f)) (none_absolved_more put f (absolved-one f)) (sym (send_left-push put f)) refl (kept_again asked _ _ (not_finished_more put f refl)) (not_finished_more put f refl)
  client_put_here (Absolve c n) = let f : Frame = Absolve c n in client_is _ _ refl refl (no_cost_more put f (cost-one f)) (absolved_more put f n (absolved-one f ∙ omega arith)) (sym (send_left-push put f)) refl (kept_again asked _ _ (not_finished_more put f refl)) (not_finished_more put f refl)
  client_put_here (Plead c n) = let f : Frame = Plead c n in client_is _ _ refl refl (no_cost_more put f (cost-one f)) (none_absolved_more put f (absolved-one f)) (sym (send_left-push put f)) refl (kept_again asked _ _ (not_finished_more put f refl)) (not_finished_more put f refl)
  client_put_here (LimitSending c n) = let f : Frame = LimitSending c n in client_is _ _ refl refl (no_cost_more put f (cost-one f)) (none_absolved_more put f (absolved-one f)) (sym (send_left-push put f)) refl (kept_again asked _ _ (not_finished_more put f refl)) (not_finished_more put f refl)
  client_put_here (LimitReceiving c n) = let f : Frame = LimitReceiving c n in client_is _ _ refl refl (no_cost_more put f (cost-one f)) (none_absolved_more put f (absolved-one f)) (sym (send_left-push put f)) refl (kept_again asked _ _ (not_finished_more put f refl)) (not_finished_more put f refl)
  client_put_here (Finish c) = let f : Frame = Finish c in client_is _ _ refl refl (no_cost_more put f (cost-one f)) (none_absolved_more put f (absolved-one f)) (sym (send_left-push put f)) refl (kept_again asked _ _ (finished_more put c)) (finished_more put c)

  client_arrived_here : (f : Frame) → client_after_arrival f (client_of version (channel_of f) put arrived asked) ≡ client_of version (channel_of f) put (arrived ++ f ∷ []) (asked_after f asked)
  client_arrived_here (Send c body) = let f : Frame = Send c body in client_is _ _ refl (none_issued_more arrived f (issued-one f)) refl refl refl (sym (receive_left-push arrived f)) refl refl
  client_arrived_here (Issue c n) = let f : Frame = Issue c n in client_is _ _ refl (issued_more arrived f n (issued-one f ∙ omega arith)) refl refl refl (sym (receive_left-push arrived f)) refl refl
  client_arrived_here (Absolve c n) = let f : Frame = Absolve c n in client_is _ _ refl (none_issued_more arrived f (issued-one f)) refl refl refl (sym (receive_left-push arrived f)) refl refl
  client_arrived_here (Plead c n) = let f : Frame = Plead c n in client_is _ _ refl (none_issued_more arrived f (issued-one f)) refl refl refl (sym (receive_left-push arrived f)) refl refl
  client_arrived_here (LimitSending c n) = let f : Frame = LimitSending c n in client_is _ _ refl (none_issued_more arrived f (issued-one f)) refl refl refl (sym (receive_left-push arrived f)) refl refl
  client_arrived_here (LimitReceiving c n) = let f : Frame = LimitReceiving c n in client_is _ _ refl (none_issued_more arrived f (issued-one f)) refl refl refl (sym (receive_left-push arrived f)) refl refl
  client_arrived_here (Finish c) = let f : Frame = Finish c in client_is _ _ refl (none_issued_more arrived f (issued-one f)) refl refl refl (sym (receive_left-push arrived f)) refl refl

module _ (capacity : ℕ) (put arrived : List Frame) (taken : ℕ) where
  server_put_here : (f : Frame) → server_after_put f (server_of capacity (channel_of f) put arrived taken) ≡ server_of capacity (channel_of f) (put ++ f ∷ []) arrived taken
  server_put_here (Send c body) = let f : Frame = Send c body in server_is _ _ refl (none_issued_more put f (issued-one f)) refl refl refl refl (sym (receive_left-push put f)) refl
  server_put_here (Issue c n) = let f : Frame = Issue c n in server_is _ _ refl (issued_more put f n (issued-one f ∙ omega arith)) refl refl refl refl (sym (receive_left-push put f)) refl
  server_put_here (Absolve c n) = let f : Frame = Absolve c n in server_is _ _ refl (none_issued_more put f (issued-one f)) refl refl refl refl (sym (receive_left-push put f)) refl
  server_put_here (Plead c n) = let f : Frame = Plead c n in server_is _ _ refl (none_issued_more put f (issued-one f)) refl refl refl refl (sym (receive_left-push put f)) refl
  server_put_here (LimitSending c n) = let f : Frame = LimitSending c n in server_is _ _ refl (none_issued_more put f (issued-one f)) refl refl refl refl (sym (receive_left-push put f)) refl
  server_put_here (LimitReceiving c n) = let f : Frame = LimitReceiving c n in server_is _ _ refl (none_issued_more put f (issued-one f)) refl refl refl refl (sym (receive_left-push put f)) refl
  server_put_here (Finish c) = let f : Frame = Finish c in server_is _ _ refl (none_issued_more put f (issued-one f)) refl refl refl refl (sym (receive_left-push put f)) refl

  server_arrived_here : (f : Frame) → server_after_arrival f (server_of capacity (channel_of f) put arrived taken) ≡ server_of capacity (channel_of f) put (arrived ++ f ∷ []) taken
  server_arrived_here (Send c body) = let f : Frame = Send c body in server_is _ _ refl refl (cost_more arrived f (length body) (cost-one f ∙ omega arith)) refl (none_absolved_more arrived f (absolved-one f)) (sym (send_left-push arrived f)) refl (not_finished_more arrived f refl)
  server_arrived_here (Issue c n) = let f : Frame = Issue c n in server_is _ _ refl refl (no_cost_more arrived f (cost-one f)) refl (none_absolved_more arrived f (absolved-one f)) (sym (send_left-push arrived f)) refl (not_finished_more arrived f refl)
  server_arrived_here (Absolve c n) = let f : Frame = Absolve c n in server_is _ _ refl refl (no_cost_more arrived f (cost-one f)) refl (absolved_more arrived f n (absolved-one f ∙ omega arith)) (sym (send_left-push arrived f)) refl (not_finished_more arrived f refl)
  server_arrived_here (Plead c n) = let f : Frame = Plead c n in server_is _ _ refl refl (no_cost_more arrived f (cost-one f)) refl (none_absolved_more arrived f (absolved-one f)) (sym (send_left-push arrived f)) refl (not_finished_more arrived f refl)
  server_arrived_here (LimitSending c n) = let f : Frame = LimitSending c n in server_is _ _ refl refl (no_cost_more arrived f (cost-one f)) refl (none_absolved_more arrived f (absolved-one f)) (sym (send_left-push arrived f)) refl (not_finished_more arrived f refl)
  server_arrived_here (LimitReceiving c n) = let f : Frame = LimitReceiving c n in server_is _ _ refl refl (no_cost_more arrived f (cost-one f)) refl (none_absolved_more arrived f (absolved-one f)) (sym (send_left-push arrived f)) refl (not_finished_more arrived f refl)
  server_arrived_here (Finish c) = let f : Frame = Finish c in server_is _ _ refl refl (no_cost_more arrived f (cost-one f)) refl (none_absolved_more arrived f (absolved-one f)) (sym (send_left-push arrived f)) refl (finished_more arrived c)

client_keeps : (version : Version) (put arrived : List Frame) (asked : Option ℕ) (f : Frame) → ClientKeepsSums version put arrived asked f
client_keeps version put arrived asked f = record {
  put_here = client_put_here version put arrived asked f;
  put_elsewhere = λ c apart. client_is _ _ refl refl (sym (cost-other c put f apart)) (sym (absolved-other c put f apart)) (sym (send_left-other c put f apart)) refl (kept_again asked _ _ (sym (finished-other c put f apart))) (sym (finished-other c put f apart));
  arrived_here = client_arrived_here version put arrived asked f;
  arrived_elsewhere = λ c apart. client_is _ _ refl (sym (issued-other c arrived f apart)) refl refl refl (sym (receive_left-other c arrived f apart)) refl refl;
}

server_keeps : (capacity : ℕ) (put arrived : List Frame) (taken : ℕ) (f : Frame) → ServerKeepsSums capacity put arrived taken f
server_keeps capacity put arrived taken f = record {
  put_here = server_put_here capacity put arrived taken f;
  put_elsewhere = λ c apart. server_is _ _ refl (sym (issued-other c put f apart)) refl refl refl refl (sym (receive_left-other c put f apart)) refl;
  arrived_here = server_arrived_here capacity put arrived taken f;
  arrived_elsewhere = λ c apart. server_is _ _ refl refl (sym (cost-other c arrived f apart)) refl (sym (absolved-other c arrived f apart)) (sym (send_left-other c arrived f apart)) refl (sym (finished-other c arrived f apart));
}

pub books_keep_sums : BooksKeepSums
books_keep_sums version capacity put arrived asked taken f = (client_keeps version put arrived asked f, server_keeps capacity put arrived taken f)

none_kept : (b : Bool) → None ≡ kept b None
none_kept true = refl
none_kept false = refl

honour_keeps : (version : Version) (c : Channel) (put arrived : List Frame) (asked : Option ℕ) → HonourKeepsSums version c put arrived asked
honour_keeps version c put arrived asked = record {
  absolves = λ amount e. let f : Frame = Absolve c amount in client_is _ _ refl refl (no_cost_more put f (cost-one f)) (rw e (absolved_more put f amount (absolved-one f ∙ omega arith))) (sym (send_left-push put f)) refl (none_kept (finished c (put ++ f ∷ []))) (not_finished_more put f refl);
  forgets = λ e. client_is _ _ refl refl refl (rw e (omega arith)) refl refl (none_kept (finished c put)) refl;
}

pub every_honour_keeps_sums : EveryHonourKeepsSums
every_honour_keeps_sums version c put arrived asked = honour_keeps version c put arrived asked
