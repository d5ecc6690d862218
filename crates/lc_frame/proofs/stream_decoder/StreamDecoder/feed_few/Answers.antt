use Rattle.std.proofs.Common.{sym}
use Rattle.lc_frame.proofs.Openings.{seen, takes_feeds, if_some_then}
use Rattle.lc_frame.proofs.stream_decoder.StreamDecoder.feed_few.Goals as goal

pub returns-else-piece-gt-FEW-clause-feeds : goal.returns-else-piece-gt-FEW-clause-feeds
returns-else-piece-gt-FEW-clause-feeds c =
    let held = sym (seen _ _ _ _ c.self.invariant c.self.view_is _ c.in-Wants.is) in
    if_some_then _ _ _ (λ n takes. takes_feeds _ _ _ _ _ n _ held takes) c.leap_within.ensures.takes
