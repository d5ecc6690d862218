use Rattle.std.proofs.Common.{refl}
use Rattle.lc_c.proofs.Called.{called}
use Rattle.lc_c.proofs.mux.taking.lcmux_mux_pop.Goals as goal

pub returns-in-At : goal.returns-in-At
returns-in-At c = called _ _ _ _ _ _ _ _ _ _ c.in-At.ensures c.deref_mut.ensures.value c.of.ensures (record {
  said = c.pop-said.result;
  is = c.popped_shown.ensures;
  over = c.pop-said.ensures.over;
  value = c.pop-said.ensures.value;
  refused = c.pop-said.ensures.refused;
  takes = c.pop-said.ensures.takes;
  rest = (c.pop-said.ensures.rest, refl);
})
