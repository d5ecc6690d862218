use Rattle.lc_world.proofs.Bytes.{every_stream_is_cut}
use Rattle.lc_world.proofs.laws.every_stream_is_cut_by_bytes.Goals as goal

pub returns : goal.returns
returns c = every_stream_is_cut
