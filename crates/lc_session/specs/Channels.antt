-- The channels in the order of their numbers. They are this project's own.
use Rattle.std.specs.Prelude.{List, [], ◌∷◌}
use Rattle.lc_frame.specs.declared.channel.Channel.{Channel}
use Rattle.lc_frame.specs.declared.channel.Channel.TheVariants.{Reconciliation, Data, Overlap, Capability, AreaOfInterest, PayloadRequest, StaticToken}

-- the seven channels, in the order of their numbers
abbrev pub channels : List Channel
channels = Reconciliation ∷ Data ∷ Overlap ∷ Capability ∷ AreaOfInterest ∷ PayloadRequest ∷ StaticToken ∷ []
