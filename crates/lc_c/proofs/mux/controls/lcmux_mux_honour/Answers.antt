use Rattle.std.proofs.Common.{refl}
use Rattle.lc_c.proofs.Called.{called}
use Rattle.lc_c.proofs.mux.controls.lcmux_mux_honour.Goals as goal

pub returns-in-At : goal.returns-in-At
returns-in-At c = called _ _ _ _ _ _ _ _ _ _ c.in-At.ensures c.deref_mut.ensures.value c.of.ensures (record {
  said = c.honour-said.result;
  is = c.call_shown.ensures;
  answers = c.honour-said.ensures.answer;
  refused = c.honour-said.ensures.refused;
  honours = c.honour-said.ensures.honours;
  rest = (c.honour-said.ensures.rest, refl);
})
