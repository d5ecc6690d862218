use Rattle.std.proofs.Common.{ap}
use Rattle.lc_frame.specs.FrameRef.{frame_of}
use Rattle.lc_cli.specs.declared.listing.Listing.{Listing}
use Rattle.lc_cli.proofs.Open.{takes_one, cleared_open, kept_open}
use Rattle.lc_cli.proofs.Listings.{lists_frame, lists_part}
use Rattle.lc_cli.proofs.listing.Listing.step.Goals as goal
use Rattle.lc_cli.proofs.listing.Listing.step.Goals.{in-Some-frame+in_ok-print_frame, in_default-frame}

pub returns-clause-progress : goal.returns-clause-progress
returns-clause-progress g c =
    takes_one _ _ _ _ c.requires.open c.stored-stored.ensures.settled c.feed-taken.ensures.held c.feed-taken.ensures.stop

pub returns-clause-open : goal.returns-clause-open
returns-clause-open g c = elim c.match-frame.branch [
  | in-Some-frame+in_ok-print_frame w ↦
      let same = ap (λ (s : Listing). s.decoder) w.self-is in
      cleared_open c.feed-taken.new.self _ _ (frame_of w.in-Some-frame.frame) same w.in-Some-frame.ensures.found c.clear.ensures.whole
  | in_default-frame w ↦
      let same = ap (λ (s : Listing). s.decoder) w.self-is in
      kept_open c.feed-taken.new.self _ _ same w.in_default-frame.ensures.none c.in_default.ensures.none c.clear.ensures.other
]

pub returns-clause-lists : goal.returns-clause-lists
returns-clause-lists g c = elim c.match-frame.branch [
  | in-Some-frame+in_ok-print_frame w ↦
      let same = ap (λ (s : Listing). s.decoder) w.self-is in
      rw w.out-is (lists_frame _ c.feed-taken.new.self _ _ _ (frame_of w.in-Some-frame.frame) _ _ c.feed-taken.ensures.held same w.in-Some-frame.ensures.found c.clear.ensures.whole w.in_ok-print_frame.ensures)
  | in_default-frame w ↦
      let same = ap (λ (s : Listing). s.decoder) w.self-is in
      rw w.out-is (lists_part _ c.feed-taken.new.self _ _ _ _ c.feed-taken.ensures.held same w.in_default-frame.ensures.none c.clear.ensures.other)
]
