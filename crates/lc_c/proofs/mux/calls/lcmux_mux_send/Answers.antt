use Rattle.std.proofs.Common.{refl}
use Rattle.lc_c.proofs.Called.{called}
use Rattle.lc_c.proofs.mux.calls.lcmux_mux_send.Goals as goal

pub returns-in-At : goal.returns-in-At
returns-in-At c = called _ _ _ _ _ _ _ _ _ _ c.in-At.ensures c.deref_mut.ensures.value c.of.ensures (record {
  said = c.send-said.result;
  is = c.progress_shown.ensures;
  answers = c.send-said.ensures.answer;
  progress = c.send-said.ensures.progress;
  refused = c.send-said.ensures.refused;
  starts = c.send-said.ensures.starts;
  rest = (c.send-said.ensures.rest, refl);
})
