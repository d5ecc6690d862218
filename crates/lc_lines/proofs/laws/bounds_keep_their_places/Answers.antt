use Rattle.lc_lines.proofs.Order as lemmas
use Rattle.lc_lines.proofs.laws.bounds_keep_their_places.Goals as goal

pub returns : goal.returns
returns c = lemmas.bounds_keep_their_places
