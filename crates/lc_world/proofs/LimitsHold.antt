-- After an accepted limit, no more is sent or issued than it says.
use Rattle.std.proofs.Common.{◌≡◌, ℕ, ◌≤◌, Bool, true, List, [], ◌∷◌, ◌++◌, length, Option, Some, None, refl, ap, ◌∙◌, subst, arith}
use Rattle.std.specs.Prelude.{sum, sum_by, if◌then◌else◌}
use Rattle.std.specs.List.{cons_option}
use Rattle.std.proofs.lemmas.List.Elements.{filter_map-append}
use Rattle.lc_frame.specs.declared.channel.Channel.{Channel}
use Rattle.lc_frame.specs.declared.frame.Frame.{Frame}
use Rattle.lc_frame.specs.declared.frame.Frame.TheVariants as frame
use Rattle.lc_frame.proofs.Measures.{send_left-push, receive_left-push}
use Rattle.lc_world.specs.declared.event.Side.{Side}
use Rattle.lc_world.specs.declared.event.Side.TheVariants.{A, B}
use Rattle.lc_world.specs.declared.event.Act.{Act}
use Rattle.lc_world.specs.declared.event.Act.TheVariants.{LimitSending, LimitReceiving}
use Rattle.lc_world.specs.declared.event.Answer.TheVariants.{Accepted}
use Rattle.lc_world.specs.State.{Versions, opening}
use Rattle.lc_world.specs.Answers.{frame_put}
use Rattle.lc_world.specs.Histories.{History, IsHistory, is_side, at_side, accepted, amounts}
use Rattle.lc_world.specs.Guarantee.{IsCut}
use Rattle.lc_world.specs.Sound.{AllFit}
use Rattle.lc_world.proofs.Limits.{all_fit_rest, cost_within, issued_within}
use Rattle.lc_world.proofs.Streams.{puts, accepted_are, amounts_are}
use Rattle.lc_world.proofs.Steps.{sound_all, sound_opened}
use Rattle.lc_world.proofs.Order.{stream-history}

-- all frames that a history puts on one stream fit the limits on it
puts_fit : (capacity : ℕ) (versions : Versions) (history : History) → IsHistory capacity versions history → (s : Side) → AllFit [] (puts s history)
puts_fit capacity versions history h s =
    subst (λ (fs : List Frame). AllFit [] fs) (stream-history capacity versions history s) ((sound_all (opening capacity versions) history h.legal (sound_opened capacity versions)).limits s)

pub own_side : (s : Side) → is_side s s ≡ true
own_side A = refl
own_side B = refl

-- the frames that a history puts, cut where one of its events puts one
puts-cut : (history : History) (s : Side) (act : Act) (later : History) (f : Frame) (cut : IsCut history s act later) → frame_put act Accepted ≡ Some f → puts s history ≡ puts s cut.0 ++ f ∷ puts s later
puts-cut history s act later f cut e =
    ap (puts s) cut.1
    ∙ (filter_map-append (at_side frame_put s) cut.0 ((record { side = s; act = act }, Accepted) ∷ later)
    ∙ (ap (λ (b : Bool). puts s cut.0 ++ cons_option (if b then frame_put act Accepted else None) (puts s later)) (own_side s)
    ∙ ap (λ (o : Option Frame). puts s cut.0 ++ cons_option o (puts s later)) e))

-- what comes later fits what the cut leaves
later_fits : (capacity : ℕ) (versions : Versions) (history : History) (s : Side) (act : Act) (later : History) (f : Frame) (h : IsHistory capacity versions history) (cut : IsCut history s act later) → frame_put act Accepted ≡ Some f → AllFit (puts s cut.0 ++ f ∷ []) (puts s later)
later_fits capacity versions history s act later f h cut e =
    let fits : AllFit [] (puts s cut.0 ++ f ∷ puts s later) = subst (λ (fs : List Frame). AllFit [] fs) (puts-cut history s act later f cut e) (puts_fit capacity versions history h s) in
    (all_fit_rest [] (puts s cut.0) (f ∷ puts s later) fits).1

pub send_limit_holds : (capacity : ℕ) (versions : Versions) (history : History) → IsHistory capacity versions history → (s : Side) (c : Channel) (bound : ℕ) (later : History) → IsCut history s (LimitSending c bound) later → sum_by length (accepted c s later) ≤ bound
send_limit_holds capacity versions history h s c bound later cut =
    let f : Frame = frame.LimitSending c bound in
    omega (arith, ap (sum_by length) (accepted_are c s later), cost_within c (puts s cut.0 ++ f ∷ []) (puts s later) bound (send_left-push (puts s cut.0) f) (later_fits capacity versions history s (LimitSending c bound) later f h cut refl))

pub receive_limit_holds : (capacity : ℕ) (versions : Versions) (history : History) → IsHistory capacity versions history → (s : Side) (c : Channel) (bound : ℕ) (later : History) → IsCut history s (LimitReceiving c bound) later → sum (amounts c s later) ≤ bound
receive_limit_holds capacity versions history h s c bound later cut =
    let f : Frame = frame.LimitReceiving c bound in
    omega (arith, ap sum (amounts_are c s later), issued_within c (puts s cut.0 ++ f ∷ []) (puts s later) bound (receive_left-push (puts s cut.0) f) (later_fits capacity versions history s (LimitReceiving c bound) later f h cut refl))
