use Rattle.std.proofs.Common.{rules, Ok}
use Rattle.std.proofs.lemmas.Result.{IfOk-weaker}
use Rattle.lc_loopback.proofs.Back.{all_told}
use Rattle.lc_loopback.proofs.stage.all_of.Goals as goal

pub returns : goal.returns
returns c = IfOk-weaker c.try_map.result _ _ (λ all made. all_told Ok _ (λ x y e. search rules) c.args.outcomes all made.whole) c.try_map.ensures.ok
