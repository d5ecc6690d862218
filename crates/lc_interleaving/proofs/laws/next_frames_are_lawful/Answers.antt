use Rattle.lc_interleaving.proofs.Sessions.{next_frames_are_lawful as law}
use Rattle.lc_interleaving.proofs.laws.next_frames_are_lawful.Goals as goal

pub returns : goal.returns
returns c = law
