use Rattle.lc_cli.proofs.Digits.{VALUES-at}
use Rattle.lc_cli.proofs.decoding.value.Goals as goal

pub returns : goal.returns
returns c = VALUES-at c.args.digit c.ranges.digit.fits
