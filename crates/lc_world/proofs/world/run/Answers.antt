use Rattle.std.proofs.Common.{subst}
use Rattle.std.specs.Prelude.{IfOk}
use Rattle.std.specs.List.{zip}
use Rattle.lc_world.specs.State.{Versions}
use Rattle.lc_world.specs.Histories.{IsHistory}
use Rattle.lc_world.specs.Guarantee.{KeepsGuarantees}
use Rattle.lc_world.proofs.Runs.{one_twice}
use Rattle.lc_world.proofs.world.run.Goals as goal

pub returns-clause-legal : goal.returns-clause-legal
returns-clause-legal c = subst (λ (versions : Versions). IfOk c.run_as.result (λ answers. IsHistory c.args.capacity versions (zip c.args.events.now answers.items))) one_twice c.run_as.ensures.legal

pub returns-clause-keeps : goal.returns-clause-keeps
returns-clause-keeps c = subst (λ (versions : Versions). IfOk c.run_as.result (λ answers. KeepsGuarantees c.args.capacity versions (zip c.args.events.now answers.items))) one_twice c.run_as.ensures.keeps
