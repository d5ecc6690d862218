use Rattle.lc_frame.proofs.Stored.{stream_told, greeted_told}
use Rattle.lc_frame.proofs.laws.a_stream_tells_its_version.Goals as goal

pub returns-clause-framed : goal.returns-clause-framed
returns-clause-framed c = λ v f more valid. stream_told v f more

pub returns-clause-greeted : goal.returns-clause-greeted
returns-clause-greeted c = greeted_told
