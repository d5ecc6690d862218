use Rattle.std.proofs.Common.{refl}
use Rattle.lc_c.proofs.Called.{called}
use Rattle.lc_c.proofs.mux.calls.lcmux_mux_complete.Goals as goal

pub returns-in-At : goal.returns-in-At
returns-in-At c = called _ _ _ _ _ _ _ _ _ _ c.in-At.ensures c.deref_mut.ensures.value c.of.ensures (record {
  said = c.complete-said.result;
  is = c.progress_shown.ensures;
  answers = c.complete-said.ensures.answer;
  progress = c.complete-said.ensures.progress;
  refused = c.complete-said.ensures.refused;
  completes = c.complete-said.ensures.completes;
  rest = (c.complete-said.ensures.rest, refl);
})
