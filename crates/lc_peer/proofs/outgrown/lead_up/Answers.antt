use Rattle.std.proofs.Common.{ℕ, ◌<◌, List, length, drop, refl, sym, ◌∙◌, arith}
use Rattle.lc_frame.specs.declared.kind.Kind.TheVariants.{Send}
use Rattle.lc_frame.specs.Kind.{header_len}
use Rattle.lc_frame.specs.Stored.{Stored}
use Rattle.lc_peer.specs.Longer.{KeepsFew}
use Rattle.lc_peer.specs.Rings.{IsReady}
use Rattle.lc_peer.proofs.Kept.{lead_none, some_rings, if_none_then}
use Rattle.lc_peer.proofs.outgrown.lead_up.Goals.{then-stored-eq0-via-then-stored-eq0, then-stored-eq0-via-else-stored-eq0+then-stored-head_len}
use Rattle.lc_peer.proofs.outgrown.lead_up.Goals as goal

pub returns-in-None-clause-none : goal.returns-in-None-clause-none
returns-in-None-clause-none c =
    let rings : List ℕ = c.args.rings.now in
    let new : Stored = c.lead_on-in-None.new.decoder in
    let rest : List ℕ = drop c.lead_on-in-None.result.taken c.args.piece.now in
    if_none_then c.lead_on-in-None.result.outgrown (0 < length rings → KeepsFew rings c.args.decoder.now → IsReady rings new rest) (KeepsFew rings c.args.decoder.now → IsReady rings new rest)
    (λ ready kept. ready (some_rings _ _ c.is_empty.ensures c.if-is_empty.false) kept) c.lead_on-in-None.ensures.none

pub returns-then-stored-eq0-clause-none : goal.returns-then-stored-eq0-clause-none
returns-then-stored-eq0-clause-none c = λ kept.
    let known = sym c.version.ensures ∙ c.in-Some.is in
    elim c.then-stored-eq0.branch [
      | then-stored-eq0-via-then-stored-eq0 w ↦ lead_none _ _ _ c.in-Some.version c.stored-stored.result (header_len c.in-Some.version Send) known c.stored-stored.ensures.value refl (λ some. absurd (omega (arith, some, w.if-stored-eq0.true))) kept
      | then-stored-eq0-via-else-stored-eq0+then-stored-head_len w ↦ lead_none _ _ _ c.in-Some.version c.stored-stored.result w.head_len.result known c.stored-stored.ensures.value w.head_len.ensures (λ some. omega (arith, w.if-stored-head_len.true)) kept
    ]
