use Rattle.std.proofs.Common.{refl}
use Rattle.lc_c.proofs.Called.{called}
use Rattle.lc_c.proofs.mux.controls.lcmux_mux_limit_receiving.Goals as goal

pub returns-in-At : goal.returns-in-At
returns-in-At c = called _ _ _ _ _ _ _ _ _ _ c.in-At.ensures c.deref_mut.ensures.value c.of.ensures (record {
  said = c.limit_receiving-said.result;
  is = c.call_shown.ensures;
  answers = c.limit_receiving-said.ensures.answer;
  refused = c.limit_receiving-said.ensures.refused;
  limits = c.limit_receiving-said.ensures.limits;
  rest = (c.limit_receiving-said.ensures.rest, refl);
})
