use Rattle.std.proofs.Common.{refl}
use Rattle.lc_c.proofs.Called.{called}
use Rattle.lc_c.proofs.mux.calls.lcmux_mux_try_send.Goals as goal

pub returns-in-At : goal.returns-in-At
returns-in-At c = called _ _ _ _ _ _ _ _ _ _ c.in-At.ensures c.deref_mut.ensures.value c.of.ensures (record {
  said = c.try_send-said.result;
  is = c.attempt_shown.ensures;
  answers = c.try_send-said.ensures.answer;
  attempt = c.try_send-said.ensures.attempt;
  refused = c.try_send-said.ensures.refused;
  sends = c.try_send-said.ensures.sends;
  rest = (c.try_send-said.ensures.rest, refl);
})
