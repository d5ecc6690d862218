use Rattle.std.proofs.Common.{◌≡◌, ◌≤◌, length, take, ap, ◌∙◌, inl, inr, arith}
use Rattle.std.proofs.lemmas.List.{length-take-le}
use Rattle.lc_peer.proofs.Deliveries.{nothing_led}
use Rattle.lc_peer.proofs.Kept.{keeps_head, headed_of, lead_keeps}
use Rattle.lc_peer.proofs.Longer.{leads_on}
use Rattle.lc_peer.proofs.outgrown.lead_in.Goals as goal

pub heads-init : goal.heads-init
heads-init c = (nothing_led c.args.decoder.now c.args.piece.now c.stored-stored.ensures.settled, λ rings kept. keeps_head rings _ kept)

pub returns-then-cut-eq0-clause-leads : goal.returns-then-cut-eq0-clause-leads
returns-then-cut-eq0-clause-leads c = c.heads.invariant.0

pub returns-then-cut-eq0-clause-goes : goal.returns-then-cut-eq0-clause-goes
returns-then-cut-eq0-clause-goes c = λ rings kept. record {
  kept = c.heads.invariant.1 rings kept;
  headed = λ named some.
      let none : c.missing.result ≡ 0 = omega (arith, some, c.min-cut.ensures, c.if-cut-eq0.true, ap length c.split_at.ensures.back) in
      inr (headed_of c.heads.decoder c.missing.result c.missing.ensures.missing none);
}

pub returns-then-count-cut-clause-leads : goal.returns-then-count-cut-clause-leads
returns-then-count-cut-clause-leads c = leads_on _ _ _ _ _ _ c.min-cut.result _ c.heads.invariant.0 (c.split_at-in-heads.ensures.front ∙ ap (take c.min-cut.result) c.split_at.ensures.back) c.feed-count.ensures

pub returns-then-count-cut-clause-goes : goal.returns-then-count-cut-clause-goes
returns-then-count-cut-clause-goes c = λ rings kept.
    let whole : c.min-cut.result ≤ length c.split_at.result.1.now = omega (arith, c.min-cut.ensures) in
    let size : length c.split_at-in-heads.result.0.now ≡ c.min-cut.result = ap length c.split_at-in-heads.ensures.front ∙ length-take-le c.min-cut.result c.split_at.result.1.now whole in
    record {
      kept = lead_keeps rings _ _ _ _ _ c.missing.ensures.settled c.missing.ensures.missing (omega (arith, size, c.min-cut.ensures)) c.feed-count.ensures (c.heads.invariant.1 rings kept);
      headed = λ named some. inl (c.feed-count.ensures.stop (omega (arith, size, c.if-count-cut.true)));
    }

pub heads-preserved : goal.heads-preserved
heads-preserved c =
    let whole : c.min-cut.result ≤ length c.split_at.result.1.now = omega (arith, c.min-cut.ensures) in
    let size : length c.split_at-in-heads.result.0.now ≡ c.min-cut.result = ap length c.split_at-in-heads.ensures.front ∙ length-take-le c.min-cut.result c.split_at.result.1.now whole in (
      leads_on _ _ _ _ _ _ c.min-cut.result _ c.heads.invariant.0 (c.split_at-in-heads.ensures.front ∙ ap (take c.min-cut.result) c.split_at.ensures.back) c.feed-count.ensures,
      λ rings kept. lead_keeps rings _ _ _ _ _ c.missing.ensures.settled c.missing.ensures.missing (omega (arith, size, c.min-cut.ensures)) c.feed-count.ensures (c.heads.invariant.1 rings kept),
    )
