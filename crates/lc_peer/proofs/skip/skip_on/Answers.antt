use Rattle.std.proofs.Common.{◌≡◌, ℕ, ◌+◌, ◌-◌, ◌<◌, ◌≤◌, ◌++◌, List, length, take, refl, sym, ap, subst, ◌∙◌, arith}
use Rattle.std.specs.Prelude.{All, Option}
use Rattle.std.proofs.lemmas.List.{get_or_default}
use Rattle.lc_book.specs.declared.fault.Violation.{Violation}
use Rattle.lc_peer.specs.declared.skip.Skip.{Skip}
use Rattle.lc_peer.specs.Skips.{Skips}
use Rattle.lc_peer.proofs.Longer.{new_skip, stays_open, refuses}
use Rattle.lc_peer.proofs.skip.skip_on.Goals.{then-missing-gt0, else-missing-gt0}
use Rattle.lc_peer.proofs.skip.skip_on.Goals as goal

pub returns : goal.returns
returns g c =
    let rest = c.args.rest.now in
    let old = c.args.skip in
    let count = c.min-count.result in
    let new : Skip = record { version = old.version; channel = old.channel; len = old.len; missing = old.missing - count; body = c.then-body.result } in
    let body : c.then-body.result.bytes ≡ old.body.bytes ++ take count rest = c.then-body.ensures ∙ ap (λ (xs : List ℕ). old.body.bytes ++ xs) c.split_at.ensures.front in
    let within : count ≤ length rest = omega (arith, c.min-count.ensures) in
    let missing : (old.missing - count) + count ≡ old.missing = omega (arith, c.min-count.ensures) in
    let fits : All (λ b. b < 256) rest = λ k d less. subst (λ (n : ℕ). n < 256) (get_or_default rest k 0 d less) (omega (arith, c.type_inv.rest k)) in
    let rings = g.S.RingSink.rings c.args.sink.now in
    let kept = new_skip g.S.FrameSink.arrived g.S.FrameSink.violated rings c.args.sink.now old new rest count c.requires.skip refl refl refl body within missing fits in
    let Does : Option Violation × g.row.S.Denot → Type 0 = λ q. Skips g.S.FrameSink.arrived g.S.FrameSink.violated rings count q.0 c.args.sink.now old rest q.1 new in
    elim c.if-missing-gt0.branch [
      | then-missing-gt0 w ↦
          let some : 0 < old.missing - count = omega (arith, w.if-missing-gt0.true) in
          let stays = stays_open g.S.FrameSink.arrived g.S.FrameSink.violated rings c.args.sink.now old new rest count c.requires.skip refl refl refl body within missing fits some (omega (arith, some, c.min-count.ensures)) in
          subst Does (λ i. (sym w.violation-is i, sym w.sink-is i)) (record { steps = stays; within = within; version = refl; skip = kept; missing = λ none. some })
      | else-missing-gt0 w ↦
          let none : old.missing - count ≡ 0 = omega (arith, w.if-missing-gt0.false) in
          let refused = refuses g.S.FrameSink.arrived g.S.FrameSink.violated rings c.args.sink.now old new rest count c.requires.skip refl refl refl body within missing fits w.refuse_in.result w.refuse_in.new.self none w.refuse_in.ensures in
          subst Does (λ i. (sym w.violation-is i, sym w.sink-is i)) (record { steps = refused; within = within; version = refl; skip = kept; missing = λ nothing. absurd cc })
    ]
