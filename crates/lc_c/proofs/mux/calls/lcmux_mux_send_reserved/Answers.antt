use Rattle.std.proofs.Common.{refl}
use Rattle.lc_c.proofs.Called.{called}
use Rattle.lc_c.proofs.mux.calls.lcmux_mux_send_reserved.Goals as goal

pub returns-in-At : goal.returns-in-At
returns-in-At c = called _ _ _ _ _ _ _ _ _ _ c.in-At.ensures c.deref_mut.ensures.value c.of.ensures (record {
  said = c.send_reserved-said.result;
  is = c.call_shown.ensures;
  answers = c.send_reserved-said.ensures.answer;
  honoured = c.send_reserved-said.ensures.honoured;
  refused = c.send_reserved-said.ensures.refused;
  sends = c.send_reserved-said.ensures.sends;
  rest = (c.send_reserved-said.ensures.rest, refl);
})
