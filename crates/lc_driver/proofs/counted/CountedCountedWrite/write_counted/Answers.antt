use Rattle.std.proofs.Common.{rules}
use Rattle.lc_driver.proofs.counted.CountedCountedWrite.write_counted.Goals as goal

pub returns-clause-counts : goal.returns-clause-counts
returns-clause-counts g c = search rules
