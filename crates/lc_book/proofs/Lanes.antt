-- The sums over a list of frames are those over the frames of one lane.
use Rattle.std.proofs.Common.{◌≡◌, ℕ, ◌+◌, false, List, [], ◌∷◌, ◌++◌, length, refl, sym, ap, ◌∙◌, inl, inr, arith, append_assoc}
use Rattle.std.specs.Prelude.{◌==◌, ◌||◌, sum_by}
use Rattle.std.proofs.lemmas.Bool.{cases_Bool}
use Rattle.std.proofs.lemmas.Bool.Decides.{nat_tests}
use Rattle.std.proofs.lemmas.List.{append-nil}
use Rattle.lc_frame.specs.declared.channel.Channel.{Channel}
use Rattle.lc_frame.specs.declared.frame.Frame.{Frame}
use Rattle.lc_frame.specs.declared.frame.Frame.TheVariants.{Send, Issue, Absolve, Plead, LimitSending, LimitReceiving, Finish}
use Rattle.lc_frame.specs.Channel.{channel_count, is_same, number_of}
use Rattle.lc_frame.specs.Frame.{channel_of, lane_of}
use Rattle.lc_frame.specs.Stream.{of_lane, messages, issued, absolved, send_left, receive_left, finished}
use Rattle.lc_frame.proofs.Channels.{cases_same}
use Rattle.lc_frame.proofs.Measures.{messages-append, messages-one, messages-other, issued-append, issued-one, issued-other, absolved-append, absolved-one, absolved-other, send_left_then, send_left-push, send_left-other, receive_left_then, receive_left-push, receive_left-other, finished-append, finished-other}
use Rattle.lc_book.specs.Sums.{SumsAreOfLanes, EverySumIsOfItsLane}
use Rattle.lc_book.proofs.SumsKept.{not_finished_more}

-- a measure that goes on alike after one frame more, and that a frame of another lane leaves as it is, sees one lane alone
module _ {X : Type 0} (measure : List Frame → X) (lane : ℕ) (goes_on : (xs ys : List Frame) (f : Frame) → measure xs ≡ measure ys → measure (xs ++ f ∷ []) ≡ measure (ys ++ f ∷ [])) (stays : (xs : List Frame) (f : Frame) → (lane_of f == lane) ≡ false → measure (xs ++ f ∷ []) ≡ measure xs) where
  lane_behind : (xs ys frames : List Frame) → measure xs ≡ measure ys → measure (xs ++ frames) ≡ measure (ys ++ of_lane lane frames)
  lane_behind xs ys [] e = rw (append-nil xs, append-nil ys) e
  lane_behind xs ys (f ∷ frames) e =
      elim (cases_Bool (lane_of f == lane)) [
        | inl here ↦ rw here (ap measure (sym (append_assoc xs (f ∷ []) frames)) ∙ lane_behind (xs ++ f ∷ []) (ys ++ f ∷ []) frames (goes_on xs ys f e) ∙ ap measure (append_assoc ys (f ∷ []) (of_lane lane frames)))
        | inr apart ↦ rw apart (ap measure (sym (append_assoc xs (f ∷ []) frames)) ∙ lane_behind (xs ++ f ∷ []) ys frames (stays xs f apart ∙ e))
      ]

  lane_alone : (frames : List Frame) → measure (of_lane lane frames) ≡ measure frames
  lane_alone frames = sym (lane_behind [] [] frames refl)

-- a frame of another lane, by what one of another channel does and what one of the channel's other lane does
module _ {X : Type 0} (measure : Channel → List Frame → X) (lane : Channel → ℕ) (other : (c : Channel) (xs : List Frame) (f : Frame) → is_same c (channel_of f) ≡ false → measure c (xs ++ f ∷ []) ≡ measure c xs) (silent : (xs : List Frame) (f : Frame) → (lane_of f == lane (channel_of f)) ≡ false → measure (channel_of f) (xs ++ f ∷ []) ≡ measure (channel_of f) xs) where
  stays_elsewhere : (c : Channel) (xs : List Frame) (f : Frame) → (lane_of f == lane c) ≡ false → measure c (xs ++ f ∷ []) ≡ measure c xs
  stays_elsewhere c xs f apart =
      elim (cases_same c (channel_of f)) [
        | inl e ↦ rw e (silent xs f (rw e at apart))
        | inr e ↦ other c xs f e
      ]

same_number : {A : Type 0} (n : ℕ) → (n == n) ≡ false → A
same_number n e = absurd (grind (arith, nat_tests))

-- the messages
silent_messages : (xs : List Frame) (f : Frame) → (lane_of f == number_of (channel_of f)) ≡ false → messages (channel_of f) (xs ++ f ∷ []) ≡ messages (channel_of f) xs
silent_messages xs (Send c body) e = same_number (number_of c) e
silent_messages xs (Issue c n) e = let f : Frame = Issue c n in messages-append c xs (f ∷ []) ∙ ap (λ ys. messages c xs ++ ys) (messages-one f) ∙ append-nil (messages c xs)
silent_messages xs (Absolve c n) e = same_number (number_of c) e
silent_messages xs (Plead c n) e = let f : Frame = Plead c n in messages-append c xs (f ∷ []) ∙ ap (λ ys. messages c xs ++ ys) (messages-one f) ∙ append-nil (messages c xs)
silent_messages xs (LimitSending c n) e = same_number (number_of c) e
silent_messages xs (LimitReceiving c n) e = let f : Frame = LimitReceiving c n in messages-append c xs (f ∷ []) ∙ ap (λ ys. messages c xs ++ ys) (messages-one f) ∙ append-nil (messages c xs)
silent_messages xs (Finish c) e = same_number (number_of c) e

messages_go_on : (c : Channel) (xs ys : List Frame) (f : Frame) → messages c xs ≡ messages c ys → messages c (xs ++ f ∷ []) ≡ messages c (ys ++ f ∷ [])
messages_go_on c xs ys f e = messages-append c xs (f ∷ []) ∙ ap (λ zs. zs ++ messages c (f ∷ [])) e ∙ sym (messages-append c ys (f ∷ []))

messages-of_lane : (c : Channel) (frames : List Frame) → messages c (of_lane (number_of c) frames) ≡ messages c frames
messages-of_lane c frames = lane_alone (messages c) (number_of c) (messages_go_on c) (stays_elsewhere messages number_of messages-other silent_messages c) frames

-- the guarantees absolved
silent_absolved : (xs : List Frame) (f : Frame) → (lane_of f == number_of (channel_of f)) ≡ false → absolved (channel_of f) (xs ++ f ∷ []) ≡ absolved (channel_of f) xs
silent_absolved xs (Send c body) e = same_number (number_of c) e
silent_absolved xs (Issue c n) e = let f : Frame = Issue c n in omega (arith, absolved-append c xs (f ∷ []), absolved-one f)
silent_absolved xs (Absolve c n) e = same_number (number_of c) e
silent_absolved xs (Plead c n) e = let f : Frame = Plead c n in omega (arith, absolved-append c xs (f ∷ []), absolved-one f)
silent_absolved xs (LimitSending c n) e = same_number (number_of c) e
silent_absolved xs (LimitReceiving c n) e = let f : Frame = LimitReceiving c n in omega (arith, absolved-append c xs (f ∷ []), absolved-one f)
silent_absolved xs (Finish c) e = same_number (number_of c) e

absolved_goes_on : (c : Channel) (xs ys : List Frame) (f : Frame) → absolved c xs ≡ absolved c ys → absolved c (xs ++ f ∷ []) ≡ absolved c (ys ++ f ∷ [])
absolved_goes_on c xs ys f e = omega (arith, absolved-append c xs (f ∷ []), absolved-append c ys (f ∷ []))

absolved-of_lane : (c : Channel) (frames : List Frame) → absolved c (of_lane (number_of c) frames) ≡ absolved c frames
absolved-of_lane c frames = lane_alone (absolved c) (number_of c) (absolved_goes_on c) (stays_elsewhere absolved number_of absolved-other silent_absolved c) frames

-- what is left of the limit on sending
silent_send_left : (xs : List Frame) (f : Frame) → (lane_of f == number_of (channel_of f)) ≡ false → send_left (channel_of f) (xs ++ f ∷ []) ≡ send_left (channel_of f) xs
silent_send_left xs (Send c body) e = same_number (number_of c) e
silent_send_left xs (Issue c n) e = send_left-push xs (Issue c n)
silent_send_left xs (Absolve c n) e = same_number (number_of c) e
silent_send_left xs (Plead c n) e = send_left-push xs (Plead c n)
silent_send_left xs (LimitSending c n) e = same_number (number_of c) e
silent_send_left xs (LimitReceiving c n) e = send_left-push xs (LimitReceiving c n)
silent_send_left xs (Finish c) e = same_number (number_of c) e

send_left_goes_on : (c : Channel) (xs ys : List Frame) (f : Frame) → send_left c xs ≡ send_left c ys → send_left c (xs ++ f ∷ []) ≡ send_left c (ys ++ f ∷ [])
send_left_goes_on c xs ys f e =
    elim (cases_same c (channel_of f)) [
      | inl here ↦ rw here (send_left-push xs f ∙ ap (send_left_then f) (rw here at e) ∙ sym (send_left-push ys f))
      | inr apart ↦ send_left-other c xs f apart ∙ e ∙ sym (send_left-other c ys f apart)
    ]

send_left-of_lane : (c : Channel) (frames : List Frame) → send_left c (of_lane (number_of c) frames) ≡ send_left c frames
send_left-of_lane c frames = lane_alone (send_left c) (number_of c) (send_left_goes_on c) (stays_elsewhere send_left number_of send_left-other silent_send_left c) frames

-- whether the client finished
silent_finished : (xs : List Frame) (f : Frame) → (lane_of f == number_of (channel_of f)) ≡ false → finished (channel_of f) (xs ++ f ∷ []) ≡ finished (channel_of f) xs
silent_finished xs (Send c body) e = same_number (number_of c) e
silent_finished xs (Issue c n) e = sym (not_finished_more xs (Issue c n) refl)
silent_finished xs (Absolve c n) e = same_number (number_of c) e
silent_finished xs (Plead c n) e = sym (not_finished_more xs (Plead c n) refl)
silent_finished xs (LimitSending c n) e = same_number (number_of c) e
silent_finished xs (LimitReceiving c n) e = sym (not_finished_more xs (LimitReceiving c n) refl)
silent_finished xs (Finish c) e = same_number (number_of c) e

finished_goes_on : (c : Channel) (xs ys : List Frame) (f : Frame) → finished c xs ≡ finished c ys → finished c (xs ++ f ∷ []) ≡ finished c (ys ++ f ∷ [])
finished_goes_on c xs ys f e = finished-append c xs (f ∷ []) ∙ ap (λ b. b || finished c (f ∷ [])) e ∙ sym (finished-append c ys (f ∷ []))

finished-of_lane : (c : Channel) (frames : List Frame) → finished c (of_lane (number_of c) frames) ≡ finished c frames
finished-of_lane c frames = lane_alone (finished c) (number_of c) (finished_goes_on c) (stays_elsewhere finished number_of finished-other silent_finished c) frames

-- the guarantees issued
abbrev server_lane : Channel → ℕ
server_lane c = channel_count + number_of c

silent_issued : (xs : List Frame) (f : Frame) → (lane_of f == server_lane (channel_of f)) ≡ false → issued (channel_of f) (xs ++ f ∷ []) ≡ issued (channel_of f) xs
silent_issued xs (Send c body) e = let f : Frame = Send c body in omega (arith, issued-append c xs (f ∷ []), issued-one f)
silent_issued xs (Issue c n) e = same_number (server_lane c) e
silent_issued xs (Absolve c n) e = let f : Frame = Absolve c n in omega (arith, issued-append c xs (f ∷ []), issued-one f)
silent_issued xs (Plead c n) e = same_number (server_lane c) e
silent_issued xs (LimitSending c n) e = let f : Frame = LimitSending c n in omega (arith, issued-append c xs (f ∷ []), issued-one f)
silent_issued xs (LimitReceiving c n) e = same_number (server_lane c) e
silent_issued xs (Finish c) e = let f : Frame = Finish c in omega (arith, issued-append c xs (f ∷ []), issued-one f)

issued_goes_on : (c : Channel) (xs ys : List Frame) (f : Frame) → issued c xs ≡ issued c ys → issued c (xs ++ f ∷ []) ≡ issued c (ys ++ f ∷ [])
issued_goes_on c xs ys f e = omega (arith, issued-append c xs (f ∷ []), issued-append c ys (f ∷ []))

issued-of_lane : (c : Channel) (frames : List Frame) → issued c (of_lane (server_lane c) frames) ≡ issued c frames
issued-of_lane c frames = lane_alone (issued c) (server_lane c) (issued_goes_on c) (stays_elsewhere issued server_lane issued-other silent_issued c) frames

-- what is left of the limit on receiving
silent_receive_left : (xs : List Frame) (f : Frame) → (lane_of f == server_lane (channel_of f)) ≡ false → receive_left (channel_of f) (xs ++ f ∷ []) ≡ receive_left (channel_of f) xs
silent_receive_left xs (Send c body) e = receive_left-push xs (Send c body)
silent_receive_left xs (Issue c n) e = same_number (server_lane c) e
silent_receive_left xs (Absolve c n) e = receive_left-push xs (Absolve c n)
silent_receive_left xs (Plead c n) e = same_number (server_lane c) e
silent_receive_left xs (LimitSending c n) e = receive_left-push xs (LimitSending c n)
silent_receive_left xs (LimitReceiving c n) e = same_number (server_lane c) e
silent_receive_left xs (Finish c) e = receive_left-push xs (Finish c)

receive_left_goes_on : (c : Channel) (xs ys : List Frame) (f : Frame) → receive_left c xs ≡ receive_left c ys → receive_left c (xs ++ f ∷ []) ≡ receive_left c (ys ++ f ∷ [])
receive_left_goes_on c xs ys f e =
    elim (cases_same c (channel_of f)) [
      | inl here ↦ rw here (receive_left-push xs f ∙ ap (receive_left_then f) (rw here at e) ∙ sym (receive_left-push ys f))
      | inr apart ↦ receive_left-other c xs f apart ∙ e ∙ sym (receive_left-other c ys f apart)
    ]

receive_left-of_lane : (c : Channel) (frames : List Frame) → receive_left c (of_lane (server_lane c) frames) ≡ receive_left c frames
receive_left-of_lane c frames = lane_alone (receive_left c) (server_lane c) (receive_left_goes_on c) (stays_elsewhere receive_left server_lane receive_left-other silent_receive_left c) frames

sums_are_of_lanes : (c : Channel) (frames : List Frame) → SumsAreOfLanes c frames
sums_are_of_lanes c frames = record {
  messages_are = messages-of_lane c frames;
  cost_is = ap (sum_by length) (messages-of_lane c frames);
  absolved_is = absolved-of_lane c frames;
  send_left_is = send_left-of_lane c frames;
  finished_is = finished-of_lane c frames;
  issued_is = issued-of_lane c frames;
  receive_left_is = receive_left-of_lane c frames;
}

pub every_sum_is_of_its_lane : EverySumIsOfItsLane
every_sum_is_of_its_lane c frames = sums_are_of_lanes c frames
