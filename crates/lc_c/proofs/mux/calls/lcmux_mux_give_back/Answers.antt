use Rattle.std.proofs.Common.{refl, ap, ◌∙◌}
use Rattle.lc_c.specs.Asking.{told}
use Rattle.lc_c.proofs.Called.{called}
use Rattle.lc_c.proofs.mux.calls.lcmux_mux_give_back.Goals as goal

pub returns-in-At : goal.returns-in-At
returns-in-At c = called _ _ _ _ _ _ _ _ _ _ c.in-At.ensures c.deref_mut.ensures.value c.of.ensures (record {
  was_out = c.give_back-said.result;
  is = c.told.ensures ∙ ap told c.flag.ensures;
  closing = c.give_back-said.ensures.closing;
  answers = c.give_back-said.ensures.answer;
  gives = c.give_back-said.ensures.after;
  rest = (c.give_back-said.ensures.rest, refl);
})
