use Rattle.std.proofs.Common.{List, ℕ, subst, arith}
use Rattle.lc_frame.specs.Scan.{FindsFrame, NeedsMore}
use Rattle.lc_frame.proofs.Pieces.{past_held, leaps_frame, leaps_part}
use Rattle.lc_frame.proofs.Sends.{needs_within}
use Rattle.lc_frame.proofs.progress.leap_within.Goals as goal

pub overflow_sub-result : goal.overflow_sub-result
overflow_sub-result c =
    let text = c.append.new.self in
    let found : FindsFrame c.args.version c.in-Whole.found c.in-Whole.used text = subst (λ (x : List ℕ). FindsFrame c.args.version c.in-Whole.found c.in-Whole.used x) c.as_slice.ensures c.in-Whole.ensures in
    omega (arith, past_held c.args.version _ c.args.piece.now c.args.need c.requires.wanted text c.append.ensures c.in-Whole.found c.in-Whole.used found)

pub returns-in-Whole-clause-takes : goal.returns-in-Whole-clause-takes
returns-in-Whole-clause-takes c =
    let text = c.append.new.self in
    let found : FindsFrame c.args.version c.in-Whole.found c.in-Whole.used text = subst (λ (x : List ℕ). FindsFrame c.args.version c.in-Whole.found c.in-Whole.used x) c.as_slice.ensures c.in-Whole.ensures in
    let past = past_held c.args.version _ c.args.piece.now c.args.need c.requires.wanted text c.append.ensures c.in-Whole.found c.in-Whole.used found in
    leaps_frame c.args.version _ c.args.piece.now c.args.need c.requires.wanted text c.append.ensures _ c.in-Whole.found c.in-Whole.used found c.truncate.ensures _ (omega (arith, past))

pub returns-in-Needs-clause-takes : goal.returns-in-Needs-clause-takes
returns-in-Needs-clause-takes c =
    let text = c.append.new.self in
    let needs : NeedsMore c.args.version text c.in-Needs.further = subst (λ (x : List ℕ). NeedsMore c.args.version x c.in-Needs.further) c.as_slice.ensures c.in-Needs.ensures in
    leaps_part c.args.version _ c.args.piece.now c.args.need c.requires.wanted text c.append.ensures c.in-Needs.further needs

pub returns-in-Needs-clause-within : goal.returns-in-Needs-clause-within
returns-in-Needs-clause-within c =
    let text = c.append.new.self in
    let needs : NeedsMore c.args.version text c.in-Needs.further = subst (λ (x : List ℕ). NeedsMore c.args.version x c.in-Needs.further) c.as_slice.ensures c.in-Needs.ensures in
    needs_within c.args.version c.args.most c.in-Needs.further text needs c.if-further-most.true
