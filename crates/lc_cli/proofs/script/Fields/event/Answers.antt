use Rattle.std.proofs.Common.{refl, subst, List, ℕ, ◌∷◌, ◌++◌, Bool}
use Rattle.lc_cli.specs.Script.{side_text}
use Rattle.lc_cli.specs.Fields.{IsCut}
use Rattle.lc_cli.proofs.Scripts.{reads_more}
use Rattle.lc_cli.proofs.script.Fields.event.Goals as goal

pub returns : goal.returns
returns c =
    let (text, (writes, reads)) = c.in_ok-act.ensures in
    let line : List ℕ = side_text c.in_ok-side.side ++ (32 ∷ text) in
    let whole = reads_more _ _ _ (side_text c.in_ok-side.side) text c.in_ok-side.ensures reads in
    (line, ((text, (writes, refl)), subst (λ (more : Bool). IsCut c.args.self.now.rest.now line more c.act.new.self.rest.now) c.if-self.false whole.cut))
