use Rattle.std.proofs.Common.{◌≡◌, ◌<◌, inl, [], ◌∷◌, ◌++◌, Some, None, refl, sym, subst}
use Rattle.lc_owed.specs.Owed.{OwedState}
use Rattle.lc_owed.specs.Due.{due}
use Rattle.lc_owed.specs.Flush.{Went}
use Rattle.lc_owed.proofs.First.{weight, due_is_less, all_paid}
use Rattle.lc_owed.proofs.Went.{went_push}
use Rattle.lc_owed.proofs.owed.Owed.put_all.Goals as goal

pub frames-smaller : goal.frames-smaller
frames-smaller c =
    let is : due c.frames.self c.frames.lines.scheduler ≡ Some c.in-Some.due = sym c.in-Some.ensures in
    subst (λ (x : OwedState). weight x.pending < weight c.frames.self.pending) (sym c.remove.ensures.after)
    (due_is_less c.frames.self c.frames.lines.scheduler c.in-Some.due c.remove.ensures.places is)

pub frames-preserved : goal.frames-preserved
frames-preserved c =
    let is : due c.frames.self c.frames.lines.scheduler ≡ Some c.in-Some.due = sym c.in-Some.ensures in
    let went = c.frames.invariant.0 in (
      went ++ c.in-Some.due ∷ [],
      subst (λ (x : OwedState). Went (went ++ c.in-Some.due ∷ []) c.args.self.now c.args.lines.now x c.put_or_drop.new.lines) (sym c.remove.ensures.after)
          (went_push went c.in-Some.due c.args.self.now c.args.lines.now c.frames.self c.frames.lines c.put_or_drop.new.lines c.frames.invariant.1 is (c.if-not-put_or_drop.ensures.goes refl)),
    )

pub returns-clause-end : goal.returns-clause-end
returns-clause-end c =
    let none : due c.frames.self c.frames.lines.scheduler ≡ None = sym c.in_default.ensures in
    inl (all_paid c.frames.self c.frames.lines.scheduler none)
