-- The measures of frame lists over lists that are put together, and over one frame more.
use Rattle.std.proofs.Common.{◌≡◌, ℕ, ◌+◌, false, List, [], ◌∷◌, ◌++◌, length, Option, Some, None, refl, ap, ◌∙◌, arith}
use Rattle.std.specs.Prelude.{◌-◌, ◌||◌, sum, sum_by}
use Rattle.std.specs.List.{filter_map, cons_option, list_any}
use Rattle.std.specs.Option.{option_map, option_or}
use Rattle.std.proofs.lemmas.List.{append-nil}
use Rattle.std.proofs.lemmas.List.Sums.{sum_by-append}
use Rattle.std.proofs.lemmas.List.Elements.{filter-append, filter_map-append}
use Rattle.std.proofs.lemmas.List.Folds.{list_any-append}
use Rattle.lc_frame.specs.declared.channel.Channel.{Channel}
use Rattle.lc_frame.specs.declared.frame.Frame.{Frame}
use Rattle.lc_frame.specs.declared.frame.Frame.TheVariants.{Send, Issue, Absolve, Plead, LimitSending, LimitReceiving, Finish}
use Rattle.lc_frame.specs.Channel.{is_same}
use Rattle.lc_frame.specs.Frame.{channel_of}
use Rattle.lc_frame.specs.Stream.{on, message_of, issue_of, absolve_of, target_of, send_bound_of, receive_bound_of, messages, cost, issued, absolved, pleads, last_limit, send_left, receive_left, is_finish, finished}
use Rattle.lc_frame.proofs.Channels.{same_is_same}

-- lists that are put together
pub on-append : (c : Channel) (xs ys : List Frame) → on c (xs ++ ys) ≡ on c xs ++ on c ys
on-append c xs ys = filter-append (λ f. is_same c (channel_of f)) xs ys

pub messages-append : (c : Channel) (xs ys : List Frame) → messages c (xs ++ ys) ≡ messages c xs ++ messages c ys
messages-append c xs ys = rw (on-append c xs ys) (filter_map-append message_of (on c xs) (on c ys))

pub cost-append : (c : Channel) (xs ys : List Frame) → cost c (xs ++ ys) ≡ cost c xs + cost c ys
cost-append c xs ys = rw (messages-append c xs ys) (sum_by-append length (messages c xs) (messages c ys))

sum-append : (xs ys : List ℕ) → sum (xs ++ ys) ≡ sum xs + sum ys
sum-append xs ys = sum_by-append (λ n. n) xs ys

pub issued-append : (c : Channel) (xs ys : List Frame) → issued c (xs ++ ys) ≡ issued c xs + issued c ys
issued-append c xs ys = rw (on-append c xs ys, filter_map-append issue_of (on c xs) (on c ys)) (sum-append (filter_map issue_of (on c xs)) (filter_map issue_of (on c ys)))

pub pleads-append : (c : Channel) (xs ys : List Frame) → pleads c (xs ++ ys) ≡ pleads c xs ++ pleads c ys
pleads-append c xs ys = rw (on-append c xs ys) (filter_map-append target_of (on c xs) (on c ys))

pub absolved-append : (c : Channel) (xs ys : List Frame) → absolved c (xs ++ ys) ≡ absolved c xs + absolved c ys
absolved-append c xs ys = rw (on-append c xs ys, filter_map-append absolve_of (on c xs) (on c ys)) (sum-append (filter_map absolve_of (on c xs)) (filter_map absolve_of (on c ys)))

pub finished-append : (c : Channel) (xs ys : List Frame) → finished c (xs ++ ys) ≡ (finished c xs || finished c ys)
finished-append c xs ys = rw (on-append c xs ys) (list_any-append is_finish (on c xs) (on c ys))

-- a frame alone, on its own channel and on another
pub on-here : (f : Frame) → on (channel_of f) (f ∷ []) ≡ f ∷ []
on-here f = rw (same_is_same (channel_of f)) refl

pub on-elsewhere : (c : Channel) (f : Frame) → is_same c (channel_of f) ≡ false → on c (f ∷ []) ≡ []
on-elsewhere c f apart = rw apart refl

-- the messages of a frame, and those of one frame more
pub messages-one : (f : Frame) → messages (channel_of f) (f ∷ []) ≡ cons_option (message_of f) []
messages-one f = ap (filter_map message_of) (on-here f)

pub cost-one : (f : Frame) → cost (channel_of f) (f ∷ []) ≡ sum_by length (cons_option (message_of f) [])
cost-one f = ap (sum_by length) (messages-one f)

pub issued-one : (f : Frame) → issued (channel_of f) (f ∷ []) ≡ sum (cons_option (issue_of f) [])
issued-one f = ap (λ frames. sum (filter_map issue_of frames)) (on-here f)

pub absolved-one : (f : Frame) → absolved (channel_of f) (f ∷ []) ≡ sum (cons_option (absolve_of f) [])
absolved-one f = ap (λ frames. sum (filter_map absolve_of frames)) (on-here f)

pub finished-one : (f : Frame) → finished (channel_of f) (f ∷ []) ≡ (is_finish f || false)
finished-one f = ap (list_any is_finish) (on-here f)

-- a frame more finishes its channel where it is a Finish
pub finished-push : (frames : List Frame) (f : Frame) → finished (channel_of f) (frames ++ f ∷ []) ≡ (finished (channel_of f) frames || (is_finish f || false))
finished-push frames f = finished-append (channel_of f) frames (f ∷ []) ∙ ap (λ b. finished (channel_of f) frames || b) (finished-one f)

-- one frame more on another channel
module _ (c : Channel) (frames : List Frame) (f : Frame) (apart : is_same c (channel_of f) ≡ false) where
  pub on-other : on c (frames ++ f ∷ []) ≡ on c frames
  on-other = on-append c frames (f ∷ []) ∙ (ap (λ ys. on c frames ++ ys) (on-elsewhere c f apart) ∙ append-nil (on c frames))

  pub messages-other : messages c (frames ++ f ∷ []) ≡ messages c frames
  messages-other = ap (filter_map message_of) on-other

  pub cost-other : cost c (frames ++ f ∷ []) ≡ cost c frames
  cost-other = ap (sum_by length) messages-other

  pub issued-other : issued c (frames ++ f ∷ []) ≡ issued c frames
  issued-other = ap (λ (fs : List Frame). sum (filter_map issue_of fs)) on-other

  pub absolved-other : absolved c (frames ++ f ∷ []) ≡ absolved c frames
  absolved-other = ap (λ (fs : List Frame). sum (filter_map absolve_of fs)) on-other

  pub finished-other : finished c (frames ++ f ∷ []) ≡ finished c frames
  finished-other = ap (list_any is_finish) on-other

  pub send_left-other : send_left c (frames ++ f ∷ []) ≡ send_left c frames
  send_left-other = ap (λ (fs : List Frame). option_map (λ p. p.0 - cost c p.1) (last_limit send_bound_of fs)) on-other

  pub receive_left-other : receive_left c (frames ++ f ∷ []) ≡ receive_left c frames
  receive_left-other = ap (λ (fs : List Frame). option_map (λ p. p.0 - issued c p.1) (last_limit receive_bound_of fs)) on-other

-- the last limit of one frame more
abbrev Limit : Type 0
Limit = ℕ × List Frame

-- a limit with the frames after it, and what one frame more makes of it
abbrev limit_then : List Frame → ℕ → Limit
limit_then frames bound = (bound, frames)

abbrev push_after : Frame → Limit → Limit
push_after f p = (p.0, p.1 ++ f ∷ [])

one_limit : (o : Option ℕ) → option_or {T = Limit} None (option_map (limit_then []) o) ≡ option_or {T = Limit} (option_map (limit_then []) o) None
one_limit None = refl
one_limit (Some n) = refl

more_limit : (f : Frame) (frames : List Frame) (x : Option ℕ) (o : Option Limit) (b : Option ℕ) → option_or {T = Limit} (option_or {T = Limit} (option_map (limit_then []) x) (option_map (push_after f) o)) (option_map (limit_then (frames ++ f ∷ [])) b) ≡ option_or {T = Limit} (option_map (limit_then []) x) (option_map (push_after f) (option_or {T = Limit} o (option_map (limit_then frames) b)))
more_limit f frames None None None = refl
more_limit f frames None None (Some n) = refl
more_limit f frames None (Some p) b = refl
more_limit f frames (Some m) o b = refl

last_limit-push : (bound_of : Frame → Option ℕ) (frames : List Frame) (f : Frame) → last_limit bound_of (frames ++ f ∷ []) ≡ option_or {T = Limit} (option_map (limit_then []) (bound_of f)) (option_map (push_after f) (last_limit bound_of frames))
last_limit-push bound_of [] f = one_limit (bound_of f)
last_limit-push bound_of (g ∷ frames) f = rw (last_limit-push bound_of frames f) (more_limit f frames (bound_of f) (last_limit bound_of frames) (bound_of g))

-- what is left, where one frame more adds so much to what counts against the limit
left_less : (total : List Frame → ℕ) (f : Frame) (n : ℕ) (o : Option Limit) → ((frames : List Frame) → total (frames ++ f ∷ []) ≡ total frames + n) → option_map (λ p. p.0 - total p.1) (option_map (push_after f) o) ≡ option_map (λ m. m - n) (option_map (λ (p : Limit). p.0 - total p.1) o)
left_less total f n None adds = refl
left_less total f n (Some p) adds = ap Some (omega (arith, adds p.1))

less_nothing : (o : Option ℕ) → option_map (λ m. m - 0) o ≡ o
less_nothing None = refl
less_nothing (Some n) = ap Some (omega arith)

-- what is left of a limit on sending, after one frame more on its channel
abbrev pub send_left_then : Frame → Option ℕ → Option ℕ
send_left_then (Send c body) left = option_map (λ m. m - length body) left
send_left_then (LimitSending c bound) left = Some bound
send_left_then f left = left

-- and of a limit on receiving
abbrev pub receive_left_then : Frame → Option ℕ → Option ℕ
receive_left_then (Issue c amount) left = option_map (λ m. m - amount) left
receive_left_then (LimitReceiving c bound) left = Some bound
receive_left_then f left = left

push_on : (c : Channel) (frames : List Frame) (f : Frame) → channel_of f ≡ c → on c (frames ++ f ∷ []) ≡ on c frames ++ f ∷ []
push_on c frames f e = on-append c frames (f ∷ []) ∙ ap (λ ys. on c frames ++ ys) (rw (← e) (on-here f))

send_left-on : (c : Channel) (f : Frame) (n : ℕ) (frames : List Frame) → send_bound_of f ≡ None → cost c (f ∷ []) ≡ n → option_map (λ p. p.0 - cost c p.1) (last_limit send_bound_of (frames ++ f ∷ [])) ≡ option_map (λ m. m - n) (option_map (λ p. p.0 - cost c p.1) (last_limit send_bound_of frames))
send_left-on c f n frames none adds = rw (last_limit-push send_bound_of frames f, none) (left_less (cost c) f n (last_limit send_bound_of frames) (λ fs. omega (arith, cost-append c fs (f ∷ []), adds)))

receive_left-on : (c : Channel) (f : Frame) (n : ℕ) (frames : List Frame) → receive_bound_of f ≡ None → issued c (f ∷ []) ≡ n → option_map (λ p. p.0 - issued c p.1) (last_limit receive_bound_of (frames ++ f ∷ [])) ≡ option_map (λ m. m - n) (option_map (λ p. p.0 - issued c p.1) (last_limit receive_bound_of frames))
receive_left-on c f n frames none adds = rw (last_limit-push receive_bound_of frames f, none) (left_less (issued c) f n (last_limit receive_bound_of frames) (λ fs. omega (arith, issued-append c fs (f ∷ []), adds)))

pub send_left-push : (frames : List Frame) (f : Frame) → send_left (channel_of f) (frames ++ f ∷ []) ≡ send_left_then f (send_left (channel_of f) frames)
send_left-push frames (Send c body) = let f : Frame = Send c body in rw (push_on c frames f refl) (send_left-on c f (length body) (on c frames) refl (cost-one f ∙ omega arith))
send_left-push frames (Issue c n) = let f : Frame = Issue c n in rw (push_on c frames f refl) (send_left-on c f 0 (on c frames) refl (cost-one f) ∙ less_nothing _)
send_left-push frames (Absolve c n) = let f : Frame = Absolve c n in rw (push_on c frames f refl) (send_left-on c f 0 (on c frames) refl (cost-one f) ∙ less_nothing _)
send_left-push frames (Plead c n) = let f : Frame = Plead c n in rw (push_on c frames f refl) (send_left-on c f 0 (on c frames) refl (cost-one f) ∙ less_nothing _)
send_left-push frames (LimitSending c n) = rw (push_on c frames (LimitSending c n) refl, last_limit-push send_bound_of (on c frames) (LimitSending c n)) (ap Some (omega arith))
send_left-push frames (LimitReceiving c n) = let f : Frame = LimitReceiving c n in rw (push_on c frames f refl) (send_left-on c f 0 (on c frames) refl (cost-one f) ∙ less_nothing _)
send_left-push frames (Finish c) = let f : Frame = Finish c in rw (push_on c frames f refl) (send_left-on c f 0 (on c frames) refl (cost-one f) ∙ less_nothing _)

pub receive_left-push : (frames : List Frame) (f : Frame) → receive_left (channel_of f) (frames ++ f ∷ []) ≡ receive_left_then f (receive_left (channel_of f) frames)
receive_left-push frames (Send c body) = let f : Frame = Send c body in rw (push_on c frames f refl) (receive_left-on c f 0 (on c frames) refl (issued-one f) ∙ less_nothing _)
receive_left-push frames (Issue c n) = let f : Frame = Issue c n in rw (push_on c frames f refl) (receive_left-on c f n (on c frames) refl (issued-one f ∙ omega arith))
receive_left-push frames (Absolve c n) = let f : Frame = Absolve c n in rw (push_on c frames f refl) (receive_left-on c f 0 (on c frames) refl (issued-one f) ∙ less_nothing _)
receive_left-push frames (Plead c n) = let f : Frame = Plead c n in rw (push_on c frames f refl) (receive_left-on c f 0 (on c frames) refl (issued-one f) ∙ less_nothing _)
receive_left-push frames (LimitSending c n) = let f : Frame = LimitSending c n in rw (push_on c frames f refl) (receive_left-on c f 0 (on c frames) refl (issued-one f) ∙ less_nothing _)
receive_left-push frames (LimitReceiving c n) = rw (push_on c frames (LimitReceiving c n) refl, last_limit-push receive_bound_of (on c frames) (LimitReceiving c n)) (ap Some (omega arith))
receive_left-push frames (Finish c) = let f : Frame = Finish c in rw (push_on c frames f refl) (receive_left-on c f 0 (on c frames) refl (issued-one f) ∙ less_nothing _)
