use Rattle.std.proofs.Common.{rules, ap}
use Rattle.lc_credit.proofs.Steps.{begins}
use Rattle.lc_credit.proofs.Seats.{may_split}
use Rattle.lc_credit.proofs.credit_parts.credit.Goals as goal

pub of_words-requires : goal.of_words-requires
of_words-requires c = begins

pub split_seat-seat_out-requires : goal.split_seat-seat_out-requires
split_seat-seat_out-requires c = (search rules, search rules, may_split _ _ _ _ _ (ap (λ m. m.0) c.in_ok-table.ensures.4))
