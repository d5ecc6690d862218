-- How a delivery begins, by its first step.
use Rattle.std.proofs.Common.{◌≡◌, ℕ, ◌+◌, ◌≤◌, List, length, drop, None, sym, subst, arith}
use Rattle.std.proofs.lemmas.List.{length-drop}
use Rattle.lc_frame.specs.declared.frame.Frame.{Frame}
use Rattle.lc_frame.specs.Stored.{Stored, fed}
use Rattle.lc_frame.proofs.Bytes.{IsBytes}
use Rattle.lc_book.specs.declared.fault.Violation.{Violation}
use Rattle.lc_peer.specs.declared.delivery.Delivery.{Delivery}
use Rattle.lc_peer.specs.declared.delivery.Reached.{Reached}
use Rattle.lc_peer.specs.declared.delivery.Start.{Start}
use Rattle.lc_peer.specs.declared.delivery.Start.TheVariants.{GoesOn, Ended}
use Rattle.lc_peer.specs.declared.delivery.Step.{Step}
use Rattle.lc_peer.specs.declared.delivery.Step.TheVariants.{Arrived, Open, Stopped}
use Rattle.lc_peer.specs.declared.delivery.Stop.TheVariants.{Fault, Violated}
use Rattle.lc_peer.specs.Deliveries.{DeliversTo}
use Rattle.lc_peer.specs.Longer.{FitsAny, KeepsFew}
use Rattle.lc_peer.specs.Rings.{BeginsBy, StartsBy}
use Rattle.lc_peer.specs.Steps.{Steps, SoFar, taken_by}
use Rattle.lc_peer.proofs.Deliveries.{one_more, ends_open, ends_whole, ends_stopped}
use Rattle.lc_peer.proofs.Kept.{arrived_between}

-- a step takes no more than there is
pub steps_within : {T : Type 0} (arrives : T → Frame → T → Type 0) (violates : Violation → T → Frame → T → Type 0) (step : Step) (p : T) (h : Stored) (rest : List ℕ) (p' : T) (h' : Stored) → Steps arrives violates step p h rest p' h' → taken_by step ≤ length rest
steps_within arrives violates (Arrived count) p h rest p' h' a = a.within
steps_within arrives violates (Open count) p h rest p' h' o = omega (arith, o.all)
steps_within arrives violates (Stopped (Violated v) count) p h rest p' h' o = o.within
steps_within arrives violates (Stopped (Fault fault) count) p h rest p' h' o = o.within

module _ {T : Type 0} (arrives : T → Frame → T → Type 0) (violates : Violation → T → Frame → T → Type 0) (rings : List ℕ) (most : ℕ) (p : T) (held : Stored) (piece : List ℕ) (p1 : T) (h1 : Stored) (taken : ℕ) (s : SoFar arrives p held piece p1 h1 taken 0) (fits : IsBytes (fed held piece).bytes) (p2 : T) (h2 : Stored) (kept : FitsAny most rings → KeepsFew rings held → KeepsFew rings h2) where
  ended : (d : Delivery) (reached : Reached) → reached ≡ record { delivery = d; outgrown = None } → DeliversTo arrives violates p held piece p2 h2 d → BeginsBy (Ended reached) arrives violates rings most p held piece p2 h2
  ended d reached is delivers = subst (λ (r : Reached). BeginsBy (Ended r) arrives violates rings most p held piece p2 h2) (sym is) (delivers, kept)

  pub start_begins : (step : Step) (start : Start) → Steps arrives violates step p1 h1 (drop taken piece) p2 h2 → StartsBy step taken (length piece) start → BeginsBy start arrives violates rings most p held piece p2 h2
  start_begins (Arrived count) (GoesOn t frames) a b =
      let more = one_more arrives p held piece p1 h1 taken 0 p2 h2 count s a (omega (arith, a.within, length-drop taken piece)) in
      (subst (λ (x : ℕ × ℕ). SoFar arrives p held piece p2 h2 x.0 x.1) (λ i. (sym b.0 i, sym b.1 i)) more, arrived_between arrives p1 h1 (drop taken piece) p2 h2 count a)
  start_begins (Arrived count) (Ended reached) a b =
      let more = one_more arrives p held piece p1 h1 taken 0 p2 h2 count s a (omega (arith, a.within, length-drop taken piece)) in
      let whole : taken + count ≡ length piece = omega (arith, b.1, a.within, length-drop taken piece, s.within) in
      ended (record { taken = taken + count; frames = 1; stop = None }) reached b.0 (ends_whole arrives violates p held piece p2 h2 (taken + count) 1 more a.frame a.valid a.cleared whole fits)
  start_begins (Open count) start o b = subst (λ (x : Start). BeginsBy x arrives violates rings most p held piece p2 h2) (sym b) (ends_open arrives violates p held piece p1 h1 taken 0 s p2 h2 count fits o, kept)
  start_begins (Stopped stop count) start o b = subst (λ (x : Start). BeginsBy x arrives violates rings most p held piece p2 h2) (sym b) (ends_stopped arrives violates p held piece p1 h1 taken 0 s stop p2 h2 count fits o, kept)
