-- Frames that fit what the frames before them leave of the limits.
use Rattle.std.proofs.Common.{◌≡◌, ℕ, ◌+◌, ◌≤◌, false, List, [], ◌∷◌, ◌++◌, length, Option, Some, sym, ap, subst, ◌∙◌, inl, inr, arith}
use Rattle.std.specs.Prelude.{◌-◌, nat_lt, sum, sum_by}
use Rattle.std.specs.List.{filter_map}
use Rattle.std.specs.Option.{option_map}
use Rattle.std.proofs.lemmas.Bool.Decides.{nat_tests}
use Rattle.std.proofs.lemmas.List.{append-nil, append_assoc}
use Rattle.lc_frame.specs.declared.channel.Channel.{Channel}
use Rattle.lc_frame.specs.declared.frame.Frame.{Frame}
use Rattle.lc_frame.specs.declared.frame.Frame.TheVariants.{Send, Issue, Absolve, Plead, LimitSending, LimitReceiving, Finish}
use Rattle.lc_frame.specs.Channel.{is_same}
use Rattle.lc_frame.specs.Frame.{channel_of}
use Rattle.lc_frame.specs.Stream.{message_of, issue_of, cost, issued, send_left, receive_left}
use Rattle.lc_frame.proofs.Channels.{cases_same}
use Rattle.lc_frame.proofs.Measures.{on-elsewhere, cost-append, issued-append, cost-one, issued-one, send_left-push, receive_left-push, send_left-other, receive_left-other}
use Rattle.lc_book.specs.Limit.{is_past}
use Rattle.lc_world.specs.Sound.{FitsAfter, AllFit}

-- the back of a list that fits
pub all_fit_rest : (before xs ys : List Frame) → AllFit before (xs ++ ys) → AllFit (before ++ xs) ys
all_fit_rest before [] ys h = subst (λ (zs : List Frame). AllFit zs ys) (sym (append-nil before)) h
all_fit_rest before (x ∷ xs) ys h = subst (λ (zs : List Frame). AllFit zs ys) (append_assoc before (x ∷ []) xs) (all_fit_rest (before ++ x ∷ []) xs ys h.1)

-- one frame more that fits
pub all_fit_push : (before xs : List Frame) (f : Frame) → AllFit before xs → FitsAfter (before ++ xs) f → AllFit before (xs ++ f ∷ [])
all_fit_push before [] f h fits = (subst (λ (zs : List Frame). FitsAfter zs f) (append-nil before) fits, tt)
all_fit_push before (x ∷ xs) f h fits = (h.0, all_fit_push (before ++ x ∷ []) xs f h.1 (subst (λ (zs : List Frame). FitsAfter zs f) (sym (append_assoc before (x ∷ []) xs)) fits))

-- a number that is not above another, and one that is not past what is left
pub not_above : (m n : ℕ) → nat_lt m n ≡ false → n ≤ m
not_above m n e = grind (arith, nat_tests)

not_past : (left : Option ℕ) (m n : ℕ) → left ≡ Some m → is_past left n ≡ false → n ≤ m
not_past left m n e h = not_above m n (ap (λ (l : Option ℕ). is_past l n) (sym e) ∙ h)

-- what one frame that fits leaves of m bytes that may be sent
record SendsWithin (c : Channel) (before : List Frame) (f : Frame) (m : ℕ) : Type 0 where
  left : ℕ
  left_is : send_left c (before ++ f ∷ []) ≡ Some left
  within : cost c (f ∷ []) + left ≤ m

sends_within_here : (before : List Frame) (f : Frame) (m : ℕ) → FitsAfter before f → send_left (channel_of f) before ≡ Some m → SendsWithin (channel_of f) before f m
sends_within_here before (Send c body) m fits e = let f : Frame = Send c body in record { left = m - length body; left_is = send_left-push before f ∙ ap (option_map (λ (k : ℕ). k - length body)) e; within = omega (arith, cost-one f, not_past (send_left c before) m (length body) e fits.0) }
sends_within_here before (Issue c n) m fits e = let f : Frame = Issue c n in record { left = m; left_is = send_left-push before f ∙ e; within = omega (arith, cost-one f) }
sends_within_here before (Absolve c n) m fits e = let f : Frame = Absolve c n in record { left = m; left_is = send_left-push before f ∙ e; within = omega (arith, cost-one f) }
sends_within_here before (Plead c n) m fits e = let f : Frame = Plead c n in record { left = m; left_is = send_left-push before f ∙ e; within = omega (arith, cost-one f) }
sends_within_here before (LimitSending c bound) m fits e = let f : Frame = LimitSending c bound in record { left = bound; left_is = send_left-push before f; within = omega (arith, cost-one f, not_past (send_left c before) m bound e fits.0) }
sends_within_here before (LimitReceiving c n) m fits e = let f : Frame = LimitReceiving c n in record { left = m; left_is = send_left-push before f ∙ e; within = omega (arith, cost-one f) }
sends_within_here before (Finish c) m fits e = let f : Frame = Finish c in record { left = m; left_is = send_left-push before f ∙ e; within = omega (arith, cost-one f) }

-- a frame adds nothing on another channel
pub no_cost_elsewhere : (c : Channel) (f : Frame) → is_same c (channel_of f) ≡ false → cost c (f ∷ []) ≡ 0
no_cost_elsewhere c f apart = ap (λ (fs : List Frame). sum_by length (filter_map message_of fs)) (on-elsewhere c f apart)

sends_within : (c : Channel) (before : List Frame) (f : Frame) (m : ℕ) → FitsAfter before f → send_left c before ≡ Some m → SendsWithin c before f m
sends_within c before f m fits e =
    elim (cases_same c (channel_of f)) [
      | inl same ↦ subst (λ (d : Channel). send_left d before ≡ Some m → SendsWithin d before f m) (sym same) (sends_within_here before f m fits) e
      | inr apart ↦ record { left = m; left_is = send_left-other c before f apart ∙ e; within = omega (arith, no_cost_elsewhere c f apart) }
    ]

-- of frames that fit, no more is sent than was left before them
pub cost_within : (c : Channel) (before frames : List Frame) (m : ℕ) → send_left c before ≡ Some m → AllFit before frames → cost c frames ≤ m
cost_within c before [] m e h = omega arith
cost_within c before (f ∷ rest) m e h =
    let s : SendsWithin c before f m = sends_within c before f m h.0 e in
    omega (arith, cost-append c (f ∷ []) rest, s.within, cost_within c (before ++ f ∷ []) rest s.left s.left_is h.1)

-- what one frame that fits leaves of m bytes that may be issued
record IssuesWithin (c : Channel) (before : List Frame) (f : Frame) (m : ℕ) : Type 0 where
  left : ℕ
  left_is : receive_left c (before ++ f ∷ []) ≡ Some left
  within : issued c (f ∷ []) + left ≤ m

issues_within_here : (before : List Frame) (f : Frame) (m : ℕ) → FitsAfter before f → receive_left (channel_of f) before ≡ Some m → IssuesWithin (channel_of f) before f m
issues_within_here before (Send c body) m fits e = let f : Frame = Send c body in record { left = m; left_is = receive_left-push before f ∙ e; within = omega (arith, issued-one f) }
issues_within_here before (Issue c n) m fits e = let f : Frame = Issue c n in record { left = m - n; left_is = receive_left-push before f ∙ ap (option_map (λ (k : ℕ). k - n)) e; within = omega (arith, issued-one f, not_past (receive_left c before) m n e fits) }
issues_within_here before (Absolve c n) m fits e = let f : Frame = Absolve c n in record { left = m; left_is = receive_left-push before f ∙ e; within = omega (arith, issued-one f) }
issues_within_here before (Plead c n) m fits e = let f : Frame = Plead c n in record { left = m; left_is = receive_left-push before f ∙ e; within = omega (arith, issued-one f) }
issues_within_here before (LimitSending c n) m fits e = let f : Frame = LimitSending c n in record { left = m; left_is = receive_left-push before f ∙ e; within = omega (arith, issued-one f) }
issues_within_here before (LimitReceiving c bound) m fits e = let f : Frame = LimitReceiving c bound in record { left = bound; left_is = receive_left-push before f; within = omega (arith, issued-one f, not_past (receive_left c before) m bound e fits) }
issues_within_here before (Finish c) m fits e = let f : Frame = Finish c in record { left = m; left_is = receive_left-push before f ∙ e; within = omega (arith, issued-one f) }

pub none_issued_elsewhere : (c : Channel) (f : Frame) → is_same c (channel_of f) ≡ false → issued c (f ∷ []) ≡ 0
none_issued_elsewhere c f apart = ap (λ (fs : List Frame). sum (filter_map issue_of fs)) (on-elsewhere c f apart)

issues_within : (c : Channel) (before : List Frame) (f : Frame) (m : ℕ) → FitsAfter before f → receive_left c before ≡ Some m → IssuesWithin c before f m
issues_within c before f m fits e =
    elim (cases_same c (channel_of f)) [
      | inl same ↦ subst (λ (d : Channel). receive_left d before ≡ Some m → IssuesWithin d before f m) (sym same) (issues_within_here before f m fits) e
      | inr apart ↦ record { left = m; left_is = receive_left-other c before f apart ∙ e; within = omega (arith, none_issued_elsewhere c f apart) }
    ]

-- and no more is issued
pub issued_within : (c : Channel) (before frames : List Frame) (m : ℕ) → receive_left c before ≡ Some m → AllFit before frames → issued c frames ≤ m
issued_within c before [] m e h = omega arith
issued_within c before (f ∷ rest) m e h =
    let s : IssuesWithin c before f m = issues_within c before f m h.0 e in
    omega (arith, issued-append c (f ∷ []) rest, s.within, issued_within c (before ++ f ∷ []) rest s.left s.left_is h.1)
