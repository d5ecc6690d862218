use Rattle.std.proofs.Common.{rules, arith, ◌≡◌, length}
use Rattle.lc_inbox.specs.Sides.{AreOfOne, IsFinished}
use Rattle.lc_inbox.proofs.Seven.{came, zip_of, pairs_match, parts_are_finished}
use Rattle.lc_inbox.proofs.finishes.finish_all.Goals as goal

pub map-ended-requires : goal.map-ended-requires
map-ended-requires c = (search rules, (search rules, (search rules, record { at = λ xs t q x u yields folds is. let one : AreOfOne x.0 x.1 = came (λ p. AreOfOne p.0 p.1) _ xs t u x (pairs_match _ _ _ c.zipped.ensures.0 c.zipped.ensures.1 c.requires) yields is in search rules })))

pub returns : goal.returns
returns c =
    let made = c.map-ended.ensures.items in
    let seven : length c.zipped.result ≡ 7 = search rules in
    let each = zip_of (λ p e. IsFinished p.0 p.1 e.0 e.1) c.zipped.result c.map-ended.result (omega (arith, seven, made.long)) (λ i d e few. let called = made.at i d e (omega (arith, few, made.long)) in search rules) in
    parts_are_finished _ _ _ _ _ _ each c.zipped.ensures.0 c.zipped.ensures.1 c.unzipped-books.ensures.0 c.unzipped-books.ensures.1
