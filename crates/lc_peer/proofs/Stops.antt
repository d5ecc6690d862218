-- Where a list of arrivals goes on, and where it stops.
use Rattle.std.proofs.Common.{◌≡◌, ℕ, suc, ◌+◌, List, [], ◌∷◌, ◌++◌, length, take, Option, Some, None, refl, sym, ap, ◌∙◌, subst, inl, inr, arith}
use Rattle.lc_frame.specs.declared.frame.Frame.{Frame}
use Rattle.lc_book.specs.declared.fault.Violation.{Violation}
use Rattle.lc_peer.specs.Peer.{PeerState}
use Rattle.lc_peer.specs.Arrivals.{violation_at, arrive, Arrival, arrive_unless, arrivals}
use Rattle.lc_peer.specs.Streams.{behind, ArrivalsGoOn, StopsAtTheFirst, ArrivalsStopAtTheFirst}
use Rattle.lc_peer.proofs.Bounded.{cases_violation}

-- a lawful frame before others
lawful_first : (p : PeerState) (f : Frame) (frames : List Frame) → violation_at p f ≡ None → arrivals p (f ∷ frames) ≡ arrive_unless p None (arrivals (arrive p f) frames)
lawful_first p f frames none = ap (λ (o : Option Violation). arrive_unless p o (arrivals (arrive p f) frames)) none

violating_first : (p : PeerState) (f : Frame) (frames : List Frame) (v : Violation) → violation_at p f ≡ Some v → arrivals p (f ∷ frames) ≡ arrive_unless p (Some v) (arrivals (arrive p f) frames)
violating_first p f frames v some = ap (λ (o : Option Violation). arrive_unless p o (arrivals (arrive p f) frames)) some

recount : (a : Arrival) (m n : ℕ) → m ≡ n → record a { count = m } ≡ record a { count = n }
recount a m n e = ap (λ (k : ℕ). record a { count = k }) e

go_on : (p : PeerState) (first later : List Frame) → (arrivals p first).violation ≡ None → arrivals p (first ++ later) ≡ behind (length first) (arrivals (arrivals p first).peer later)
go_on p [] later e = sym (recount (arrivals p later) (0 + (arrivals p later).count) (arrivals p later).count (omega arith))
go_on p (f ∷ first) later e =
    elim (cases_violation (violation_at p f)) [
      | inl none ↦
          let q = arrive p f in
          let rest : (arrivals q first).violation ≡ None = ap (λ (a : Arrival). a.violation) (sym (lawful_first p f first none)) ∙ e in
          let left : (arrivals p (f ∷ first)).peer ≡ (arrivals q first).peer = ap (λ (a : Arrival). a.peer) (lawful_first p f first none) in
          let end = arrivals (arrivals q first).peer later in
          lawful_first p f (first ++ later) none
          ∙ (ap (arrive_unless p None) (go_on q first later rest)
          ∙ (recount end (length first + end.count + 1) (length (f ∷ first) + end.count) (omega arith)
          ∙ ap (λ (r : PeerState). behind (length (f ∷ first)) (arrivals r later)) (sym left)))
      | inr some ↦ absurd (let here = ap (λ (a : Arrival). a.violation) (sym (violating_first p f first some.0 some.1)) ∙ e in cc)
    ]

pub arrivals_go_on : ArrivalsGoOn
arrivals_go_on p first later e = go_on p first later e

take_one : (f : Frame) (frames : List Frame) (n : ℕ) → take (n + 1) (f ∷ frames) ≡ f ∷ take n frames
take_one f frames n = let next : n + 1 ≡ suc n = omega arith in ap (λ (k : ℕ). take k (f ∷ frames)) next

-- one more frame before the place where it stopped
stops_later : (f : Frame) (frames : List Frame) (p : PeerState) (came : Arrival) → StopsAtTheFirst frames came → StopsAtTheFirst (f ∷ frames) (arrive_unless p None came)
stops_later f frames p came h = record {
  all = λ e. omega (arith, h.all e);
  stops = λ v e.
      let s = h.stops v e in
      record {
        frame = s.frame;
        later = s.later;
        is = ap (λ (fs : List Frame). f ∷ fs) s.is ∙ ap (λ (fs : List Frame). fs ++ s.frame ∷ s.later) (sym (take_one f frames came.count));
        violates = s.violates;
      };
}

stops_here : (f : Frame) (frames : List Frame) (p : PeerState) (came : Arrival) (v : Violation) → violation_at p f ≡ Some v → StopsAtTheFirst (f ∷ frames) (arrive_unless p (Some v) came)
stops_here f frames p came v some = record {
  all = λ e. absurd (let g = e in cc);
  stops = λ w e. record { frame = f; later = frames; is = refl; violates = some ∙ e };
}

stops : (p : PeerState) (frames : List Frame) → StopsAtTheFirst frames (arrivals p frames)
stops p [] = record { all = λ e. refl; stops = λ v e. absurd (let g = e in cc) }
stops p (f ∷ frames) =
    elim (cases_violation (violation_at p f)) [
      | inl none ↦ subst (StopsAtTheFirst (f ∷ frames)) (sym (lawful_first p f frames none)) (stops_later f frames p (arrivals (arrive p f) frames) (stops (arrive p f) frames))
      | inr some ↦ subst (StopsAtTheFirst (f ∷ frames)) (sym (violating_first p f frames some.0 some.1)) (stops_here f frames p (arrivals (arrive p f) frames) some.0 some.1)
    ]

pub arrivals_stop_at_the_first : ArrivalsStopAtTheFirst
arrivals_stop_at_the_first p frames = stops p frames
