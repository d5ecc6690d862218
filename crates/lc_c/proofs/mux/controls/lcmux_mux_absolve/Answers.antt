use Rattle.std.proofs.Common.{refl}
use Rattle.lc_c.proofs.Called.{called}
use Rattle.lc_c.proofs.mux.controls.lcmux_mux_absolve.Goals as goal

pub returns-in-At : goal.returns-in-At
returns-in-At c = called _ _ _ _ _ _ _ _ _ _ c.in-At.ensures c.deref_mut.ensures.value c.of.ensures (record {
  said = c.absolve-said.result;
  is = c.call_shown.ensures;
  answers = c.absolve-said.ensures.answer;
  refused = c.absolve-said.ensures.refused;
  absolves = c.absolve-said.ensures.absolves;
  rest = (c.absolve-said.ensures.rest, refl);
})
