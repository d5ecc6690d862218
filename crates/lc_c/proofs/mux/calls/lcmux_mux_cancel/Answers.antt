use Rattle.std.proofs.Common.{refl, ap, ◌∙◌}
use Rattle.lc_c.specs.Asking.{told}
use Rattle.lc_c.proofs.Called.{called}
use Rattle.lc_c.proofs.mux.calls.lcmux_mux_cancel.Goals as goal

pub returns-in-At : goal.returns-in-At
returns-in-At c = called _ _ _ _ _ _ _ _ _ _ c.in-At.ensures c.deref_mut.ensures.value c.of.ensures (record {
  waited = c.cancel-said.result;
  is = c.told.ensures ∙ ap told c.flag.ensures;
  closing = c.cancel-said.ensures.closing;
  answers = c.cancel-said.ensures.waited;
  cancels = c.cancel-said.ensures.after;
  rest = (c.cancel-said.ensures.rest, refl);
})
