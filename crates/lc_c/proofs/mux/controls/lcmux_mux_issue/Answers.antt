use Rattle.std.proofs.Common.{refl}
use Rattle.lc_c.proofs.Called.{called}
use Rattle.lc_c.proofs.mux.controls.lcmux_mux_issue.Goals as goal

pub returns-in-At : goal.returns-in-At
returns-in-At c = called _ _ _ _ _ _ _ _ _ _ c.in-At.ensures c.deref_mut.ensures.value c.of.ensures (record {
  said = c.issue-said.result;
  is = c.call_shown.ensures;
  answers = c.issue-said.ensures.answer;
  refused = c.issue-said.ensures.refused;
  issues = c.issue-said.ensures.issues;
  rest = (c.issue-said.ensures.rest, refl);
})
