use Rattle.std.proofs.Common.{rules, ap, sym, ◌∙◌, ◌≡◌, ◌++◌, [], subst}
use Rattle.std.specs.Prelude.{filter}
use Rattle.lc_inbox.specs.History.{is_of, IsLeftBy}
use Rattle.lc_inbox.specs.Rule.{other}
use Rattle.lc_inbox.proofs.Steps.{may_return, has_me}
use Rattle.lc_inbox.proofs.half.Half.give.Goals as goal

pub store-requires : goal.store-requires
store-requires g c =
    let loan = c.requires.fits.0 in
    let was = has_me _ _ _ _ loan _ _ (ap (λ v. v.lent) c.self.view_is ∙ c.requires.fits.1) c.self.invariant.3 in (
      search rules,
      search rules,
      may_return _ _ _ _ _ _ loan.history _ _ _ _ (search rules) was (subst (λ v. filter (is_of (other v.side)) g.N.Told.entries ≡ []) (sym c.self.view_is) c.requires.own)
          (subst (λ v. IsLeftBy v.key loan.held (loan.history ++ g.N.Told.entries)) (sym c.self.view_is) c.requires.fits.2),
    )
