use Rattle.std.proofs.Common.{refl}
use Rattle.lc_c.proofs.Called.{called}
use Rattle.lc_c.proofs.mux.controls.lcmux_mux_plead.Goals as goal

pub returns-in-At : goal.returns-in-At
returns-in-At c = called _ _ _ _ _ _ _ _ _ _ c.in-At.ensures c.deref_mut.ensures.value c.of.ensures (record {
  said = c.plead-said.result;
  is = c.call_shown.ensures;
  answers = c.plead-said.ensures.answer;
  refused = c.plead-said.ensures.refused;
  pleads = c.plead-said.ensures.pleads;
  rest = (c.plead-said.ensures.rest, refl);
})
