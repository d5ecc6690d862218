-- The balances of one channel direction, by its client's line and its server's.
use Rattle.std.proofs.Common.{◌≡◌, ℕ, ◌+◌, ◌≤◌, Bool, true, false, arith}
use Rattle.std.specs.Prelude.{◌-◌, if◌then◌else◌}
use Rattle.lc_frame.specs.declared.channel.Channel.{Channel}
use Rattle.lc_frame.specs.Stream.{cost, issued, absolved, finished}
use Rattle.lc_book.specs.Client.{Client, waived, held}
use Rattle.lc_book.specs.Server.{outstanding}
use Rattle.lc_world.specs.State.{Line, stream, client_book, server_book}
use Rattle.lc_world.specs.Guarantee.{FitsBuffer, AddsUp}
use Rattle.lc_world.specs.Sound.{Sound}
use Rattle.lc_world.proofs.Sound.{cost-cut, issued-cut, absolved-cut, taken_cost, paid}

-- what is waived is what was used up by nothing else, or nothing
pub waives_no_more : (d : Bool) (all spent given_up : ℕ) → spent + given_up ≤ all → spent + given_up + (if d then all - spent - given_up else 0) ≤ all
waives_no_more true all spent given_up le = omega arith
waives_no_more false all spent given_up le = omega arith

-- and is that which is not left
pub left_or_waived : (d : Bool) (n : ℕ) → (n - (if d then n else 0)) + (if d then n else 0) ≡ n
left_or_waived true n = omega arith
left_or_waived false n = omega arith

-- the buffer of the server, and the guarantees of the client
pub fits_buffer : (capacity : ℕ) (c : Channel) (mine theirs : Line) → Sound capacity c mine theirs → FitsBuffer capacity (server_book capacity c theirs mine)
fits_buffer capacity c mine theirs s =
    let covered : cost c mine.arrived + absolved c mine.arrived ≤ issued c (stream theirs) = paid capacity c mine theirs s in
    record {
      not_overdrawn = waives_no_more (finished c mine.arrived) (issued c (stream theirs)) (cost c mine.arrived) (absolved c mine.arrived) covered;
      taken_of_arrived = taken_cost c mine;
      fits = omega (arith, s.roomy, taken_cost c mine, covered);
    }

pub adds_up : (capacity : ℕ) (c : Channel) (mine theirs : Line) → Sound capacity c mine theirs → AddsUp (client_book c mine theirs)
adds_up capacity c mine theirs s =
    let paid : cost c (stream mine) + absolved c (stream mine) + waived (client_book c mine theirs) ≤ issued c theirs.arrived = waives_no_more (finished c (stream mine)) (issued c theirs.arrived) (cost c (stream mine)) (absolved c (stream mine)) s.solvent in
    record { not_overspent = paid; sum = omega (arith, paid) }

-- where the promises are, by the lines
abbrev pub promised_between : Channel → Line → Line → ℕ
promised_between c mine theirs =
    let book = client_book c mine theirs in
    if finished c mine.arrived then 0
    else held book + waived book + issued c theirs.in_flight + cost c mine.in_flight + absolved c mine.in_flight

stands_by : (d : Bool) (n rest : ℕ) → n ≡ rest → n - (if d then n else 0) ≡ (if d then 0 else rest)
stands_by true n rest e = omega arith
stands_by false n rest e = omega (arith, e)

pub outstanding_is : (capacity : ℕ) (c : Channel) (mine theirs : Line) → Sound capacity c mine theirs → outstanding (server_book capacity c theirs mine) ≡ promised_between c mine theirs
outstanding_is capacity c mine theirs s =
    let book : Client = client_book c mine theirs in
    let both : held book + waived book ≡ issued c theirs.arrived - cost c (stream mine) - absolved c (stream mine) = left_or_waived (finished c (stream mine)) (issued c theirs.arrived - cost c (stream mine) - absolved c (stream mine)) in
    stands_by (finished c mine.arrived) (issued c (stream theirs) - cost c mine.arrived - absolved c mine.arrived) _ (omega (arith, both, s.solvent, cost-cut c mine, absolved-cut c mine, issued-cut c theirs))
