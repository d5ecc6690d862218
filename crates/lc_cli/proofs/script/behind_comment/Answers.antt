use Rattle.lc_cli.proofs.Scripts.{comment_ends, comment_lasts}
use Rattle.lc_cli.proofs.script.behind_comment.Goals as goal

pub returns-in-Some : goal.returns-in-Some
returns-in-Some c = rw c.split_at.ensures.back (comment_ends _ _ c.requires c.in-Some.ensures.0 c.in-Some.ensures.1 c.in-Some.ensures.2)

pub returns-in-None : goal.returns-in-None
returns-in-None c = comment_lasts _ c.requires c.in-None.ensures
