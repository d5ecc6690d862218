use Rattle.std.proofs.Common.{ap, ◌∙◌, sym}
use Rattle.lc_world.specs.declared.event.Side.{Side}
use Rattle.lc_world.specs.declared.event.Side.TheVariants.{A, B}
use Rattle.lc_world.specs.State.{State}
use Rattle.lc_world.specs.Answers.{state_after}
use Rattle.lc_world.proofs.Ends.{a_leaves, a_in_step, b_leaves, b_in_step, turned}
use Rattle.lc_world.proofs.world.World.step.Goals as goal

pub invariant_of-self : goal.invariant_of-self
invariant_of-self c = a_in_step c.self.inside.a c.self.inside.b c.act.new.me c.act.new.peer c.args.event.now.act c.act.result c.self.invariant c.act.ensures

pub act-requires-in-B : goal.act-requires-in-B
act-requires-in-B c = turned c.self.inside.a c.self.inside.b c.self.invariant

pub invariant_of-self-in-B : goal.invariant_of-self-in-B
invariant_of-self-in-B c = b_in_step c.self.inside.a c.self.inside.b c.act-in-B.new.peer c.act-in-B.new.me c.args.event.now.act c.act-in-B.result c.self.invariant c.act-in-B.ensures

pub returns-in-A-clause-state : goal.returns-in-A-clause-state
returns-in-A-clause-state c =
    a_leaves c.self.inside.a c.self.inside.b c.act.new.me c.act.new.peer c.args.event.now.act c.act.result c.self.invariant c.act.ensures
    ∙ (ap (λ (w : State). state_after w A c.args.event.now.act c.act.result) c.self.view_is
    ∙ ap (λ (s : Side). state_after c.args.self.now s c.args.event.now.act c.act.result) (sym c.in-A.is))

pub returns-in-B-clause-state : goal.returns-in-B-clause-state
returns-in-B-clause-state c =
    b_leaves c.self.inside.a c.self.inside.b c.act-in-B.new.peer c.act-in-B.new.me c.args.event.now.act c.act-in-B.result c.self.invariant c.act-in-B.ensures
    ∙ (ap (λ (w : State). state_after w B c.args.event.now.act c.act-in-B.result) c.self.view_is
    ∙ ap (λ (s : Side). state_after c.args.self.now s c.args.event.now.act c.act-in-B.result) (sym c.in-B.is))
