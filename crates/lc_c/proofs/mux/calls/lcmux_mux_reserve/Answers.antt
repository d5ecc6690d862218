use Rattle.std.proofs.Common.{refl}
use Rattle.lc_c.proofs.Called.{called}
use Rattle.lc_c.proofs.mux.calls.lcmux_mux_reserve.Goals as goal

pub returns-in-At : goal.returns-in-At
returns-in-At c = called _ _ _ _ _ _ _ _ _ _ c.in-At.ensures c.deref_mut.ensures.value c.of.ensures (record {
  said = c.reserve-said.result;
  is = c.progress_shown.ensures;
  answers = c.reserve-said.ensures.answer;
  progress = c.reserve-said.ensures.progress;
  refused = c.reserve-said.ensures.refused;
  reserves = c.reserve-said.ensures.reserves;
  rest = (c.reserve-said.ensures.rest, refl);
})
