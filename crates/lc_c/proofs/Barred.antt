-- A call that comes to no side or to no channel gives nothing out, and answers no number.
use Rattle.std.proofs.Common.{◌≡◌, Option, Some, None, refl}
use Rattle.lc_c.specs.declared.answer.LcmuxAnswer.{LcmuxAnswer}
use Rattle.lc_frame.specs.declared.channel.Channel.{Channel}
use Rattle.lc_c.specs.Reach.{answered, given, IsBarred}

pub given_barred : {A : Type 0} {B : Type 0} (held : Option A) (channel : Option Channel) (give : A → Channel → B) (before : B) → IsBarred held channel → given held channel give before ≡ before
given_barred None channel give before barred = refl
given_barred (Some side) None give before barred = refl
given_barred (Some side) (Some channel) give before barred = absurd barred

pub barred_number : {A : Type 0} (held : Option A) (channel : Option Channel) (answer : A → Channel → LcmuxAnswer) → IsBarred held channel → (answered held channel answer).number ≡ 0
barred_number None channel answer barred = refl
barred_number (Some side) None answer barred = refl
barred_number (Some side) (Some channel) answer barred = absurd barred
