use Rattle.std.proofs.Common.{refl}
use Rattle.lc_c.proofs.Called.{called}
use Rattle.lc_c.proofs.mux.calls.lcmux_mux_finish.Goals as goal

pub returns-in-At : goal.returns-in-At
returns-in-At c = called _ _ _ _ _ _ _ _ _ _ c.in-At.ensures c.deref_mut.ensures.value c.of.ensures (record {
  said = c.bound-said.result;
  is = c.progress_shown.ensures;
  answers = c.bound-said.ensures.answer;
  progress = c.bound-said.ensures.progress;
  refused = c.bound-said.ensures.refused;
  bounds = c.bound-said.ensures.bounds;
  rest = (c.bound-said.ensures.rest, refl);
})
