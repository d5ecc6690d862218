-- What every end with an inbox keeps.
use Rattle.std.proofs.Common.{◌≡◌, ℕ, [], ◌∷◌, ◌++◌, Option, None, Some, refl, sym, ◌∙◌, ap, subst, ◌+◌}
use Rattle.lc_frame.specs.declared.version.Version.TheVariants.{One}
use Rattle.lc_frame.specs.declared.channel.Channel.{Channel}
use Rattle.lc_frame.specs.declared.frame.Frame.{Frame}
use Rattle.lc_frame.specs.declared.frame.Frame.TheVariants.{Send, Issue, Absolve, Plead, LimitSending, LimitReceiving, Finish}
use Rattle.lc_frame.specs.Frame.{channel_of}
use Rattle.lc_frame.specs.Stream.{issued, receive_left}
use Rattle.lc_book.specs.Limit.{less}
use Rattle.lc_book.specs.Server.{Server}
use Rattle.lc_book.specs.Sums.{server_of, server_after_put, server_after_arrival}
use Rattle.lc_book.proofs.SumsKept.{books_keep_sums}
use Rattle.lc_peer.specs.Inbox.{InboxState, note_front, take_first}
use Rattle.lc_queue.specs.Parts.{End}
use Rattle.lc_inbox.specs.Ends.{Held, IsHeld, arrive, put}

-- both numbers that a book has of what its server put
abbrev pub OfPut : Server → ℕ × Option ℕ
OfPut b = (b.issued, b.receive_left)

after_put : (f : Frame) (b d : Server) → OfPut b ≡ OfPut d → OfPut (server_after_put f b) ≡ OfPut (server_after_put f d)
after_put (Issue c n) b d is = ap (λ (p : ℕ × Option ℕ). (p.0 + n, less p.1 n)) is
after_put (LimitReceiving c n) b d is = ap (λ (p : ℕ × Option ℕ). (p.0, Some n)) is
after_put (Send c body) b d is = is
after_put (Absolve c n) b d is = is
after_put (Plead c n) b d is = is
after_put (LimitSending c n) b d is = is
after_put (Finish c) b d is = is

pub put_keeps : (f : Frame) (h : Held) → channel_of f ≡ h.channel → IsHeld h → IsHeld (put f h)
put_keeps f h on kept =
    let of : Server = server_of 0 h.channel h.lane.put [] 0 in
    let now : OfPut (server_after_put f h.inbox.book) ≡ OfPut (server_after_put f of) = after_put f h.inbox.book of (λ i. (kept.issued i, kept.left i)) in
    let sums : server_after_put f of ≡ server_of 0 h.channel (h.lane.put ++ f ∷ []) [] 0 = subst (λ (c : Channel). server_after_put f (server_of 0 c h.lane.put [] 0) ≡ server_of 0 c (h.lane.put ++ f ∷ []) [] 0) on (books_keep_sums One 0 h.lane.put [] None 0 f).1.put_here in
    record { lane = kept.lane; issued = ap (λ (p : ℕ × Option ℕ). p.0) now ∙ ap (λ (b : Server). b.issued) sums; left = ap (λ (p : ℕ × Option ℕ). p.1) now ∙ ap (λ (b : Server). b.receive_left) sums }

of_arrival : (f : Frame) (b : Server) → OfPut (server_after_arrival f b) ≡ OfPut b
of_arrival (Send c body) b = refl
of_arrival (Absolve c n) b = refl
of_arrival (LimitSending c n) b = refl
of_arrival (Finish c) b = refl
of_arrival (Issue c n) b = refl
of_arrival (Plead c n) b = refl
of_arrival (LimitReceiving c n) b = refl

same_of_put : (h : Held) (b : Server) → OfPut b ≡ OfPut h.inbox.book → IsHeld h → (b.issued ≡ issued h.channel h.lane.put) × (b.receive_left ≡ receive_left h.channel h.lane.put)
same_of_put h b same kept = (ap (λ (p : ℕ × Option ℕ). p.0) same ∙ kept.issued, ap (λ (p : ℕ × Option ℕ). p.1) same ∙ kept.left)

pub arrive_keeps : (f : Frame) (h : Held) → IsHeld h → IsHeld (arrive f h)
arrive_keeps f h kept = let now = same_of_put h (server_after_arrival f h.inbox.book) (of_arrival f h.inbox.book) kept in record { lane = kept.lane; issued = now.0; left = now.1 }

of_take : (b : Server) (o : Option ℕ) → OfPut (note_front b o) ≡ OfPut b
of_take b None = refl
of_take b (Some n) = refl

pub take_keeps : (h : Held) → IsHeld h → IsHeld (record h { inbox = take_first h.inbox })
take_keeps h kept = let now = same_of_put h (take_first h.inbox).book (of_take h.inbox.book _) kept in record { lane = kept.lane; issued = now.0; left = now.1 }

pub put_parts : (f : Frame) (h now : Held) (book : Server) (inbox : InboxState) (lane : End) → h ≡ now → IsHeld h → channel_of f ≡ now.channel → book ≡ server_after_put f now.inbox.book → inbox ≡ record h.inbox { book = book } → lane ≡ record h.lane { put = h.lane.put ++ f ∷ [] }
    → IsHeld record { channel = h.channel; inbox = inbox; lane = lane }
put_parts f h now book inbox lane is kept on book_is inbox_is lane_is =
    let same : inbox ≡ record h.inbox { book = server_after_put f h.inbox.book } = inbox_is ∙ ap (λ (b : Server). record h.inbox { book = b }) (book_is ∙ ap (λ (x : Held). server_after_put f x.inbox.book) (sym is)) in
    subst IsHeld (λ i. record { channel = h.channel; inbox = sym same i; lane = sym lane_is i }) (put_keeps f h (on ∙ ap (λ (x : Held). x.channel) (sym is)) kept)
