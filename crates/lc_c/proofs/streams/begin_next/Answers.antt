use Rattle.std.proofs.Common.{◌≡◌, arith, sym, ap, ◌∙◌}
use Rattle.lc_frame.specs.declared.version.Version.{Version}
use Rattle.lc_frame.specs.Encoding.{encoding}
use Rattle.lc_c.proofs.Gives.{begins}
use Rattle.lc_c.proofs.streams.begin_next.Goals.{in-Send-1, in-Issue-1}
use Rattle.lc_c.proofs.streams.begin_next.Goals as goal

pub returns-in-Some : goal.returns-in-Some
returns-in-Some c =
    let is = c.begin.ensures ∙ ap (λ (v : Version). encoding v c.in-Some.frame) c.version-version.ensures in
    let left : c.match-frame.side ≡ record { peer = c.next_out.new.self; intake = c.side.inside.intake; taken = c.side.inside.taken; pending = c.begin.new.self } = elim c.match-frame.branch [
      | in-Send-1 w ↦ w.side-is
      | in-Issue-1 w ↦ w.side-is
    ] in
    rw (← c.side.view_is, left) (begins _ c.in-Some.frame c.next_out.new.self c.begin.new.self (omega (arith, c.len.ensures.value, c.if-len-gt0.false)) (sym c.in-Some.is ∙ c.next_out.ensures.value) c.next_out.ensures.after is)
