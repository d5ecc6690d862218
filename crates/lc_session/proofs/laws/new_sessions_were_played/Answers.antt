use Rattle.lc_session.proofs.Played.{new_were_played}
use Rattle.lc_session.proofs.laws.new_sessions_were_played.Goals as goal

pub returns : goal.returns
returns c = new_were_played
