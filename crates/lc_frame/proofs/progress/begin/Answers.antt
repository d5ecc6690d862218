use Rattle.std.proofs.Common.{◌++◌, List, ℕ, ap, ◌∙◌}
use Rattle.lc_frame.proofs.Pieces.{takes_frame, takes_all}
use Rattle.lc_frame.proofs.progress.begin.Goals as goal

pub returns-in-Whole : goal.returns-in-Whole
returns-in-Whole c =
    let old = c.args.buffer.now in
    takes_frame c.args.version old _ c.args.piece.now c.in-Whole.head c.in-Whole.used c.requires.empty (c.append.ensures ∙ ap (λ (x : List ℕ). old ++ x) c.split_at.ensures.front) c.in-Whole.ensures

pub returns-in-Needs : goal.returns-in-Needs
returns-in-Needs c = takes_all c.args.version c.args.buffer.now _ c.args.piece.now c.in-Needs.more c.requires.empty c.append-in-Needs.ensures c.in-Needs.ensures
