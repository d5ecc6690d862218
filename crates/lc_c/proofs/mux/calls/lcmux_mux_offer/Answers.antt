use Rattle.std.proofs.Common.{refl}
use Rattle.lc_c.proofs.Called.{called}
use Rattle.lc_c.proofs.mux.calls.lcmux_mux_offer.Goals as goal

pub returns-in-At : goal.returns-in-At
returns-in-At c = called _ _ _ _ _ _ _ _ _ _ c.in-At.ensures c.deref_mut.ensures.value c.of.ensures (record {
  said = c.offer-said.result;
  is = c.call_shown.ensures;
  answers = c.offer-said.ensures.answer;
  refused = c.offer-said.ensures.refused;
  joins = c.offer-said.ensures.joins;
  rest = (c.offer-said.ensures.rest, refl);
})
