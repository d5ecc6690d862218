use Rattle.lc_inbox.proofs.Calls.{looked}
use Rattle.lc_inbox.proofs.inbox_out.book.Goals as goal

pub returns-clause-looks : goal.returns-clause-looks
returns-clause-looks g c = looked c.args.half.now c.take-turn.new.self c.give_same.new.self c.take-turn.ensures _ c.requires.idle.side_is c.give_same.ensures
