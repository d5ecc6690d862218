use Rattle.std.proofs.Common.{refl}
use Rattle.lc_c.proofs.Called.{called}
use Rattle.lc_c.proofs.mux.calls.lcmux_mux_try_reserve.Goals as goal

pub returns-in-At : goal.returns-in-At
returns-in-At c = called _ _ _ _ _ _ _ _ _ _ c.in-At.ensures c.deref_mut.ensures.value c.of.ensures (record {
  said = c.try_reserve-said.result;
  is = c.attempt_shown.ensures;
  answers = c.try_reserve-said.ensures.answer;
  attempt = c.try_reserve-said.ensures.attempt;
  refused = c.try_reserve-said.ensures.refused;
  reserves = c.try_reserve-said.ensures.reserves;
  rest = (c.try_reserve-said.ensures.rest, refl);
})
