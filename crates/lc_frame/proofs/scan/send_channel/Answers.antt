use Rattle.std.proofs.Common.{◌≡◌, arith}
use Rattle.std.proofs.lemmas.Option.{IfSome_then}
use Rattle.lc_frame.specs.declared.kind.Kind.TheVariants.{Send}
use Rattle.lc_frame.specs.Encoding.{tag_of}
use Rattle.lc_frame.proofs.Channels.{number_below}
use Rattle.lc_frame.proofs.scan.send_channel.Goals as goal

pub returns-clause-some : goal.returns-clause-some
returns-clause-some c = IfSome_then _ {Q = λ d. c.args.tag ≡ tag_of Send d} c.from_number.ensures.inverse (λ d e.
    let small = number_below d in
    omega (arith, e, c.ranges.tag.fits))
