use Rattle.std.proofs.Common.{rules, ap, sym, ◌∙◌, ◌∷◌, Some}
use Rattle.atomic_table.specs.Table.{rest}
use Rattle.lc_inbox.proofs.Steps.{idle_as, may_join, together, may_seize_last, seized_last}
use Rattle.lc_inbox.proofs.half.Half.take_last.Goals as goal

pub join_seat-requires : goal.join_seat-requires
join_seat-requires c =
    let mine = idle_as _ _ _ _ _ _ _ (ap (λ v. v.side) c.self.view_is ∙ c.requires.reading.side_is) (ap (λ v. v.lent) c.self.view_is ∙ c.requires.reading.lent) c.self.invariant.3 in
    let theirs = idle_as _ _ _ _ _ _ _ (ap (λ v. v.side) c.receiving.view_is ∙ c.requires.receiving.side_is) (ap (λ v. v.lent) c.receiving.view_is ∙ c.requires.receiving.lent) c.receiving.invariant.3 in
    (search rules, search rules, ap (λ m. m.1) theirs, search rules, may_join _ _ _ _ _ _ _ _ _ _ _ (ap (λ m. m.0) mine) (ap (λ m. m.0) theirs))

pub compare_exchange-found-requires : goal.compare_exchange-found-requires
compare_exchange-found-requires c =
    let mine = idle_as _ _ _ _ _ _ _ (ap (λ v. v.side) c.self.view_is ∙ c.requires.reading.side_is) (ap (λ v. v.lent) c.self.view_is ∙ c.requires.reading.lent) c.self.invariant.3 in
    let theirs = idle_as _ _ _ _ _ _ _ (ap (λ v. v.side) c.receiving.view_is ∙ c.requires.receiving.side_is) (ap (λ v. v.lent) c.receiving.view_is ∙ c.requires.receiving.lent) c.receiving.invariant.3 in
    (search rules, search rules, may_seize_last _ _ _ _ _ _ _ (together _ _ _ _ _ _ _ _ _ c.join_seat.ensures.2 mine theirs))

pub exchange-requires : goal.exchange-requires
exchange-requires c =
    let mine = idle_as _ _ _ _ _ _ _ (ap (λ v. v.side) c.self.view_is ∙ c.requires.reading.side_is) (ap (λ v. v.lent) c.self.view_is ∙ c.requires.reading.lent) c.self.invariant.3 in
    let theirs = idle_as _ _ _ _ _ _ _ (ap (λ v. v.side) c.receiving.view_is ∙ c.requires.receiving.side_is) (ap (λ v. v.lent) c.receiving.view_is ∙ c.requires.receiving.lent) c.receiving.invariant.3 in
    let t = (seized_last _ _ _ _ _ _ (together _ _ _ _ _ _ _ _ _ c.join_seat.ensures.2 mine theirs) c.compare_exchange-found.ensures.2).1 in
    (search rules, (Some t.held, ap (λ m. m.1) t.is ∙ ap (λ l. (0, Some t.held) ∷ rest l) (sym (ap (λ m. m.1) t.is))))
