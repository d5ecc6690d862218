use Rattle.std.proofs.Common.{ap, ◌∙◌, Option, Some}
use Rattle.std.specs.Option.{option_map}
use Rattle.lc_mux.specs.Mux.{MuxState}
use Rattle.lc_mux.specs.Ends.{close}
use Rattle.lc_c.specs.declared.mux.session.CMux.{CMux}
use Rattle.lc_c.specs.MuxEnds.{with_mux}
use Rattle.lc_c.proofs.mux.ending.lcmux_mux_close.Goals as goal

pub returns-in-Some-clause-after : goal.returns-in-Some-clause-after
returns-in-Some-clause-after c =
    c.of.ensures
    ∙ ap (λ (m : MuxState). Some (record c.deref_mut.result.now { mux = m })) c.close.ensures.after
    ∙ ap (λ (session : CMux). Some (with_mux close session)) c.deref_mut.ensures.value
    ∙ ap (λ (held : Option CMux). option_map (with_mux close) held) c.in-Some.ensures.value
