-- For callers: the messages that arrived are those that were taken, and then those that wait, in the history as a side has seen it after each call, and in that of both sides at their end.
use Rattle.std.proofs.Common.{ℕ, List, ◌++◌, sym, ap, ◌∙◌}
use Rattle.lc_frame.specs.Stream.{messages}
use Rattle.lc_book.specs.Server.{Server}
use Rattle.lc_queue.specs.Parts.{End}
use Rattle.lc_inbox.specs.History.{waiting}
use Rattle.lc_inbox.specs.Sides.{InboxSide, IsFinished, TookTheFirst}

-- what both sides know of their one history comes together
pub took_the_first : (incoming outgoing : InboxSide) (book : Server) (lane : End) → IsFinished incoming outgoing book lane → TookTheFirst incoming outgoing
took_the_first incoming outgoing book lane f =
    let others : List (List ℕ) = waiting incoming.key f.history in
    (others, ap (messages incoming.key.channel) (sym f.heard) ∙ (f.in_order ∙ ap (λ (ts : List (List ℕ)). ts ++ others) f.took))
