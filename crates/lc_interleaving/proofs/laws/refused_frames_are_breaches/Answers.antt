use Rattle.lc_interleaving.proofs.Sessions.{refused_frames_are_breaches as law}
use Rattle.lc_interleaving.proofs.laws.refused_frames_are_breaches.Goals as goal

pub returns : goal.returns
returns c = law
