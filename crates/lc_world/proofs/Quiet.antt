-- Lines on which nothing is left to do.
use Rattle.std.proofs.Common.{◌≡◌, ℕ, List, [], ◌++◌, take, sym, ap, ◌∙◌}
use Rattle.std.proofs.lemmas.List.{append-nil, take-append-drop}
use Rattle.lc_frame.specs.declared.channel.Channel.{Channel}
use Rattle.lc_frame.specs.declared.frame.Frame.{Frame}
use Rattle.lc_frame.specs.Stream.{messages}
use Rattle.lc_world.specs.State.{Line, stream, taken_count, taken_messages}
use Rattle.lc_world.specs.Answers.{waiting}

-- where none waits, all that arrived is taken
pub taken_arrived : (c : Channel) (l : Line) → waiting c l ≡ [] → taken_messages c l ≡ messages c l.arrived
taken_arrived c l dry =
    let ms : List (List ℕ) = messages c l.arrived in
    let t : ℕ = taken_count c l in
    sym (append-nil (take t ms)) ∙ (ap (λ (r : List (List ℕ)). take t ms ++ r) (sym dry) ∙ take-append-drop t ms)

-- and where nothing is in flight, all that was put
pub taken_put : (c : Channel) (l : Line) → l.in_flight ≡ [] → waiting c l ≡ [] → taken_messages c l ≡ messages c (stream l)
taken_put c l quiet dry =
    taken_arrived c l dry ∙ ap (messages c) (sym (append-nil l.arrived) ∙ ap (λ (fs : List Frame). l.arrived ++ fs) (sym quiet))
