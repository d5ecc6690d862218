-- The amounts that a credit's history and a client's frames tell of. That a message uses guarantees up and that absolving gives them up is LCMUX's; that a use comes back where its frame was not put is this project's own.
use Rattle.std.specs.Prelude.{ℕ, ◌-◌, List, [], ◌∷◌, ◌++◌, length, take, Option, Some, None}
use Rattle.std.specs.List.{fold, filter_map}
use Rattle.lc_frame.specs.declared.frame.Frame.{Frame}
use Rattle.lc_frame.specs.declared.frame.Frame.TheVariants.{Send, Absolve}
use Rattle.lc_credit.specs.declared.history.Entry.{Entry}
use Rattle.lc_credit.specs.declared.history.Entry.TheVariants.{Used, Returned}

-- the uses that stand after one entry more: a use is the last of them, and a return undoes the last
abbrev pub uses_after : List ℕ → Entry → List ℕ
uses_after uses (Used n) = uses ++ n ∷ []
uses_after uses (Returned n) = take (length uses - 1) uses
uses_after uses e = uses

-- the amounts that were used and did not come back, in order
abbrev pub uses : List Entry → List ℕ
uses history = fold uses_after [] history

-- what a client's frame takes out of its credit
abbrev pub amount_of : Frame → Option ℕ
amount_of (Send c body) = Some (length body)
amount_of (Absolve c amount) = Some amount
amount_of f = None

-- the amounts of the messages and absolvings among frames, in order
abbrev pub amounts : List Frame → List ℕ
amounts frames = filter_map amount_of frames
