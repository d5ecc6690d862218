use Rattle.std.proofs.Common.{refl}
use Rattle.lc_c.proofs.Called.{called}
use Rattle.lc_c.proofs.mux.taking.lcmux_mux_take.Goals as goal

pub returns-in-At-clause-takes : goal.returns-in-At-clause-takes
returns-in-At-clause-takes c = called _ _ _ _ _ _ _ _ _ _ c.in-At.ensures c.deref_mut.ensures.value c.of.ensures (record {
  said = c.take_into-said.result;
  is = c.taken_shown.ensures;
  answers = c.take_into-said.ensures.answer;
  value = c.take_into-said.ensures.value;
  refused = c.take_into-said.ensures.refused;
  fills = c.take_into-said.ensures.buffer;
  takes = c.take_into-said.ensures.takes;
  rest = (c.take_into-said.ensures.rest, refl);
})
