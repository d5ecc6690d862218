use Rattle.std.proofs.Common.{◌≡◌, ℕ, ◌≤◌, ◌++◌, length, take, List, subst, ◌+◌, ap, ◌∙◌, arith}
use Rattle.std.proofs.lemmas.List.{length-append, length-take}
use Rattle.lc_frame.specs.Scan.{FindsFrame}
use Rattle.lc_frame.proofs.Pieces.{whole_holds, fills_all, advances}
use Rattle.lc_frame.proofs.progress.advance.Goals as goal

pub returns-in-Whole : goal.returns-in-Whole
returns-in-Whole c =
    let old = c.args.buffer.now in
    let new = c.append.new.self in
    let piece = c.args.piece.now in
    let need = c.args.need in
    let count = c.min-taken.result in
    let wanted = c.requires in
    let held : new ≡ old ++ take count piece = c.append.ensures ∙ ap (λ (x : List ℕ). old ++ x) c.split_at.ensures.front in
    let below : length old + count ≤ need = omega arith in
    let enough : length new ≤ need = omega (arith, ap length held, length-append old (take count piece), length-take count piece) in
    let found : FindsFrame c.args.version c.in-Whole.head c.in-Whole.used new = subst (λ (x : List ℕ). FindsFrame c.args.version c.in-Whole.head c.in-Whole.used x) c.as_slice.ensures c.in-Whole.ensures in
    advances c.args.version old piece need wanted new count _ held (omega arith) below (omega arith) (whole_holds c.args.version c.in-Whole.head c.in-Whole.used new new found (fills_all c.args.version old piece need wanted new count c.in-Whole.head c.in-Whole.used held enough found))
