use Rattle.std.proofs.Common.{Option, sym, ap, subst, ◌∙◌, inl, inr}
use Rattle.std.specs.Prelude.{IfSome, IfNone}
use Rattle.lc_frame.specs.declared.out_of_range.OutOfRange.{OutOfRange}
use Rattle.lc_frame.specs.declared.frame_fault.FrameFault.TheVariants.{ZeroLength, BadNumber}
use Rattle.lc_frame.specs.Stored.{HasFault}
use Rattle.lc_frame.specs.Numbers.{HasNumber, number_in_front}
use Rattle.lc_frame.proofs.Numbers.{number_shown, not_of_number}
use Rattle.lc_frame.proofs.Stored.{has_one_fault}
use Rattle.lc_frame.proofs.stream_decoder.StreamDecoder.out_of_range.Goals as goal

pub returns-in-ZeroLength-clause-found : goal.returns-in-ZeroLength-clause-found
returns-in-ZeroLength-clause-found c =
    let shown = number_shown _ _ _ c.args.self.now c.in_ok-fault.field-0 c.self.view_is c.in-ZeroLength.is c.in_ok-fault.ensures.found in
    subst (λ (x : Option OutOfRange). IfSome x (λ o. HasNumber o c.args.self.now)) (sym (c.number_in_front.ensures ∙ ap (number_in_front c.self.inside.version) c.as_slice.ensures ∙ shown.1.0)) shown.1.1

pub returns-in-ZeroLength-clause-none : goal.returns-in-ZeroLength-clause-none
returns-in-ZeroLength-clause-none c =
    let shown = number_shown _ _ _ c.args.self.now c.in_ok-fault.field-0 c.self.view_is c.in-ZeroLength.is c.in_ok-fault.ensures.found in
    subst (λ (x : Option OutOfRange). IfNone x ((¬ HasFault ZeroLength c.args.self.now) × (¬ HasFault BadNumber c.args.self.now))) (sym (c.number_in_front.ensures ∙ ap (number_in_front c.self.inside.version) c.as_slice.ensures ∙ shown.1.0)) tt

pub returns-in-BadTag-clause-none : goal.returns-in-BadTag-clause-none
returns-in-BadTag-clause-none c = (
  λ zero. not_of_number c.in_ok-fault.field-0 c.in-BadTag.is (inl (has_one_fault c.in_ok-fault.field-0 ZeroLength c.args.self.now c.in_ok-fault.ensures.found zero)),
  λ bad. not_of_number c.in_ok-fault.field-0 c.in-BadTag.is (inr (has_one_fault c.in_ok-fault.field-0 BadNumber c.args.self.now c.in_ok-fault.ensures.found bad)),
)
