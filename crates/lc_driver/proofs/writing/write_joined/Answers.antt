use Rattle.lc_driver.proofs.Written.{wrote}
use Rattle.lc_driver.proofs.writing.write_joined.Goals as goal

pub returns-clause-writes : goal.returns-clause-writes
returns-clause-writes g c =
    let noted = c.note_taken-left.ensures in
    let all = c.write_all-result.ensures in
    wrote _ _ _ _ _ _ _ _ _ _ _ c.bytes.ensures.value c.written_of.ensures all.within all.grown noted.advanced noted.gone c.cut_back.ensures.pending
