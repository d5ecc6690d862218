-- A piece that was delivered to a side, by what its intake answers.
use Rattle.std.proofs.Common.{◌≡◌, ℕ, ◌<◌, ◌^◌, List, Some, None, refl, ap, ◌∙◌, arith}
use Rattle.std.specs.Prelude.{Option, IfSome}
use Rattle.lc_peer.specs.declared.delivery.Delivery.{Delivery}
use Rattle.lc_peer.specs.declared.delivery.Stop.{Stop}
use Rattle.lc_peer.specs.Peer.{PeerState}
use Rattle.lc_peer.specs.Sinks.{Arrives, Violates}
use Rattle.lc_peer.specs.Deliveries.{DeliversTo}
use Rattle.lc_peer.specs.Intake.{IntakeState, GivesUp}
use Rattle.lc_peer.proofs.Deliveries.{delivers}
use Rattle.lc_c.specs.Side.{Side}
use Rattle.lc_c.specs.Streams.{DeliversAt, count_on}

pub delivered : (stop : Option Stop) (piece : List ℕ) (old : Side) (p : PeerState) (i : IntakeState) (taken : ℕ) (d : Delivery)
    → old.taken < 2 ^ 64
    → IfSome stop (λ s. GivesUp s d × (p ≡ old.peer) × (i ≡ old.intake))
    → (stop ≡ None → DeliversTo Arrives Violates old.peer old.intake.held piece p i.held d)
    → i.stop ≡ d.stop
    → taken ≡ count_on d.taken old.taken
    → DeliversAt stop piece old (record old { peer = p; intake = i; taken = taken }) d
delivered None piece old p i taken d small given_up brings stop counts = record { delivers = delivers _ _ _ _ _ _ (brings refl); stop = stop; taken = counts; pending = refl }
delivered (Some s) piece old p i taken d small given_up brings stop counts =
    let none : d.taken ≡ 0 = ap (λ (x : Delivery). x.taken) given_up.0 in
    let same : taken ≡ old.taken = omega (arith, counts, none, small) in
    record {
      delivery = given_up.0;
      same = ap (λ (x : PeerState). record old { peer = x; intake = i; taken = taken }) given_up.1 ∙ ap (λ (x : IntakeState). record old { intake = x; taken = taken }) given_up.2 ∙ ap (λ (n : ℕ). record old { taken = n }) same;
    }
