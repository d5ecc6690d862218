-- Credit never leaks.
use Rattle.std.proofs.Common.{◌≡◌, ℕ, ◌+◌, ◌≤◌, Bool, true, false, List, [], ◌++◌, length, ap, ◌∙◌, arith}
use Rattle.std.specs.Prelude.{◌-◌, if◌then◌else◌, sum_by}
use Rattle.std.proofs.lemmas.List.{append-nil}
use Rattle.lc_frame.specs.declared.frame.Frame.{Frame}
use Rattle.lc_frame.specs.declared.channel.Channel.{Channel}
use Rattle.lc_frame.specs.Stream.{cost, issued, absolved, finished}
use Rattle.lc_book.specs.Client.{held}
use Rattle.lc_book.specs.Server.{room, buffered}
use Rattle.lc_world.specs.declared.event.Side.{Side}
use Rattle.lc_world.specs.declared.event.Side.TheVariants.{A, B}
use Rattle.lc_world.specs.State.{State, opening, Line, line, other, stream, client, server, client_book, server_book, taken_messages}
use Rattle.lc_world.specs.Answers.{waiting}
use Rattle.lc_world.specs.Guarantee.{state_of}
use Rattle.lc_world.specs.Sound.{Sound, IsSound}
use Rattle.lc_world.proofs.Sound.{cost-cut, issued-cut, absolved-cut}
use Rattle.lc_world.proofs.Balances.{promised_between, fits_buffer, outstanding_is}
use Rattle.lc_world.specs.Credit.{IsQuiet, IsConserved, CreditIsConserved, CreditNeverLeaks}
use Rattle.lc_world.proofs.Histories.{capacity_stays, sound_of}
use Rattle.lc_world.proofs.Quiet.{taken_arrived}

-- what is held and what may be issued where nothing is buffered, and the client finished or it did not
comes_to_all : (d e : Bool) (capacity n m waits : ℕ) → d ≡ e → n ≡ m → m ≤ capacity → waits ≡ 0 → (n - (if d then n else 0)) + (capacity - (m - (if e then m else 0)) - waits) ≡ capacity
comes_to_all true true capacity n m waits same all fits none = omega (arith, none)
comes_to_all true false capacity n m waits same all fits none = cc
comes_to_all false true capacity n m waits same all fits none = cc
comes_to_all false false capacity n m waits same all fits none = omega (arith, all, fits, none)

pub finished_arrived : (c : Channel) (l : Line) → l.in_flight ≡ [] → finished c (stream l) ≡ finished c l.arrived
finished_arrived c l quiet = ap (finished c) (ap (λ (fs : List Frame). l.arrived ++ fs) quiet ∙ append-nil l.arrived)

pub whole : (capacity : ℕ) (c : Channel) (mine theirs : Line) → Sound capacity c mine theirs → mine.in_flight ≡ [] → theirs.in_flight ≡ [] → waiting c mine ≡ [] → held (client_book c mine theirs) + room (server_book capacity c theirs mine) ≡ capacity
whole capacity c mine theirs s quiet still dry =
    let all : sum_by length (taken_messages c mine) ≡ cost c mine.arrived = ap (sum_by length) (taken_arrived c mine dry) in
    let no_cost : cost c mine.in_flight ≡ 0 = ap (cost c) quiet in
    let none_absolved : absolved c mine.in_flight ≡ 0 = ap (absolved c) quiet in
    let none_issued : issued c theirs.in_flight ≡ 0 = ap (issued c) still in
    let n : ℕ = issued c theirs.arrived - cost c (stream mine) - absolved c (stream mine) in
    let m : ℕ = issued c (stream theirs) - cost c mine.arrived - absolved c mine.arrived in
    let same : n ≡ m = omega (arith, no_cost, none_absolved, none_issued, cost-cut c mine, absolved-cut c mine, issued-cut c theirs) in
    let fits : m ≤ capacity = omega (arith, s.roomy, all) in
    comes_to_all (finished c (stream mine)) (finished c mine.arrived) capacity n m (cost c mine.arrived - sum_by length (taken_messages c mine)) (finished_arrived c mine quiet) same fits (omega (arith, all))

pub whole_of : (w : State) → IsSound w → IsQuiet w → (s : Side) (c : Channel) → waiting c (line w s) ≡ [] → held (client w s c) + room (server w (other s) c) ≡ w.capacity
whole_of w g q A c dry = whole w.capacity c w.a w.b (g.sums A c) (q.in_flight A) (q.in_flight B) dry
whole_of w g q B c dry = whole w.capacity c w.b w.a (g.sums B c) (q.in_flight B) (q.in_flight A) dry

pub credit_never_leaks : CreditNeverLeaks
credit_never_leaks capacity versions history h q s c dry =
    whole_of (state_of capacity versions history) (sound_of capacity versions history h) q s c dry ∙ capacity_stays (opening capacity versions) history

conserved : (capacity : ℕ) (c : Channel) (mine theirs : Line) → Sound capacity c mine theirs → promised_between c mine theirs + buffered (server_book capacity c theirs mine) + room (server_book capacity c theirs mine) ≡ capacity
conserved capacity c mine theirs s = omega (arith, outstanding_is capacity c mine theirs s, (fits_buffer capacity c mine theirs s).fits)

conserved_of : (w : State) → IsSound w → (s : Side) (c : Channel) → IsConserved w.capacity w s c
conserved_of w g A c = conserved w.capacity c w.a w.b (g.sums A c)
conserved_of w g B c = conserved w.capacity c w.b w.a (g.sums B c)

pub credit_is_conserved : CreditIsConserved
credit_is_conserved capacity versions history h s c =
    let w : State = state_of capacity versions history in
    conserved_of w (sound_of capacity versions history h) s c ∙ capacity_stays (opening capacity versions) history
