use Rattle.std.proofs.Common.{arith, sym, ◌∙◌}
use Rattle.lc_peer.proofs.Kept.{filled_keeps, lacks_headed, lacks_version}
use Rattle.lc_peer.proofs.ring_intake.fill_begun.Goals as goal

pub returns-clause-kept : goal.returns-clause-kept
returns-clause-kept g c =
    filled_keeps _ c.fill-filled.result _ _ _ _ c.in-Some.version (sym c.version.ensures ∙ c.in-Some.is) (omega (arith, c.if-stored-head_len.false, c.head_len.ensures, c.stored-stored.ensures.value)) c.stored-stored-2.ensures.settled c.stored-stored-2.ensures.bytes c.fill-filled.ensures.filled

pub returns-in_default-clause-few : goal.returns-in_default-clause-few
returns-in_default-clause-few g c = λ few. lacks_version _ (sym c.version.ensures ∙ c.in_default.is)

pub returns-then-stored-head_len-clause-few : goal.returns-then-stored-head_len-clause-few
returns-then-stored-head_len-clause-few g c = λ few. lacks_headed _ c.in-Some.version c.head_len.result (sym c.version.ensures ∙ c.in-Some.is) c.head_len.ensures (omega (arith, c.if-stored-head_len.true, c.stored-stored.ensures.value))
