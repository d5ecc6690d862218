-- Every history keeps the guarantees.
use Rattle.std.proofs.Common.{ℕ, zero, suc, [], ◌∷◌, take, subst}
use Rattle.lc_frame.specs.declared.channel.Channel.{Channel}
use Rattle.lc_world.specs.declared.event.Side.{Side}
use Rattle.lc_world.specs.declared.event.Side.TheVariants.{A, B}
use Rattle.lc_world.specs.State.{State, Versions, opening, client, server}
use Rattle.lc_world.specs.Answers.{after}
use Rattle.lc_world.specs.Histories.{History, IsLegal, IsHistory}
use Rattle.lc_world.specs.Guarantee.{state_at, FitsBuffer, AddsUp, IsSomewhere, IsBalanced, EveryHistoryKeepsGuarantees}
use Rattle.lc_world.specs.Sound.{IsSound}
use Rattle.lc_world.proofs.Balances.{fits_buffer, adds_up, outstanding_is}
use Rattle.lc_world.proofs.Steps.{sound_all, sound_opened}
use Rattle.lc_world.proofs.Histories.{capacity_stays}
use Rattle.lc_world.proofs.Lawful.{lawful_history}
use Rattle.lc_world.proofs.Order.{accepted_messages, taken_is_taken, takes_in_order}
use Rattle.lc_world.proofs.Pleads.{keeps_last_plead}
use Rattle.lc_world.proofs.Finishes.{keeps_finish}
use Rattle.lc_world.proofs.LimitsHold.{send_limit_holds, receive_limit_holds}

-- the balances of a state
buffers : (w : State) → IsSound w → (s : Side) (c : Channel) → FitsBuffer w.capacity (server w s c)
buffers w g A c = fits_buffer w.capacity c w.b w.a (g.sums B c)
buffers w g B c = fits_buffer w.capacity c w.a w.b (g.sums A c)

sums : (w : State) → IsSound w → (s : Side) (c : Channel) → AddsUp (client w s c)
sums w g A c = adds_up w.capacity c w.a w.b (g.sums A c)
sums w g B c = adds_up w.capacity c w.b w.a (g.sums B c)

somewhere : (w : State) → IsSound w → (s : Side) (c : Channel) → IsSomewhere w s c
somewhere w g A c = outstanding_is w.capacity c w.a w.b (g.sums A c)
somewhere w g B c = outstanding_is w.capacity c w.b w.a (g.sums B c)

is_balanced : (w : State) → IsSound w → IsBalanced w.capacity w
is_balanced w g = record { buffer = buffers w g; sums = sums w g; in_flight = somewhere w g }

-- the first events of a history are one
legal_take : (w : State) (n : ℕ) (history : History) → IsLegal w history → IsLegal w (take n history)
legal_take w zero history h = tt
legal_take w (suc n) [] h = tt
legal_take w (suc n) (p ∷ history) h = (h.0, legal_take (after w p.0 p.1) n history h.1)

balanced_at : (capacity : ℕ) (versions : Versions) (history : History) → IsHistory capacity versions history → (n : ℕ) → IsBalanced capacity (state_at capacity versions history n)
balanced_at capacity versions history h n =
    let w : State = state_at capacity versions history n in
    let g : IsSound w = sound_all (opening capacity versions) (take n history) (legal_take (opening capacity versions) n history h.legal) (sound_opened capacity versions) in
    subst (λ (k : ℕ). IsBalanced k w) (capacity_stays (opening capacity versions) (take n history)) (is_balanced w g)

pub keeps_guarantees : EveryHistoryKeepsGuarantees
keeps_guarantees capacity versions history h = record {
  in_order = takes_in_order capacity versions history h;
  no_violation = lawful_history capacity versions history h;
  balanced = balanced_at capacity versions history h;
  send_limits_hold = send_limit_holds capacity versions history h;
  receive_limits_hold = receive_limit_holds capacity versions history h;
  accepted_is = accepted_messages capacity versions history;
  taken_is = taken_is_taken capacity versions history h;
  plead_is = keeps_last_plead capacity versions history;
  finish_is = λ n. keeps_finish capacity versions (take n history) (record { is_capacity = h.is_capacity; legal = legal_take (opening capacity versions) n history h.legal });
}
