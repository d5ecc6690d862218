-- The seven channels are told apart by their numbers.
use Rattle.std.proofs.Common.{◌≡◌, ◌<◌, Some, false, true, refl, sym, ap, ◌∙◌, inl, inr, arith}
use Rattle.std.specs.Prelude.{◌⊎◌}
use Rattle.std.proofs.lemmas.Bool.{cases_Bool}
use Rattle.std.proofs.lemmas.Bool.Decides.{nat_tests}
use Rattle.lc_frame.specs.declared.channel.Channel.{Channel}
use Rattle.lc_frame.specs.declared.channel.Channel.TheVariants.{Reconciliation, Data, Overlap, Capability, AreaOfInterest, PayloadRequest, StaticToken}
use Rattle.lc_frame.specs.Channel.{channel_count, number_of, channel_at, is_same}

pub channel_at-number_of : (c : Channel) → channel_at (number_of c) ≡ Some c
channel_at-number_of Reconciliation = refl
channel_at-number_of Data = refl
channel_at-number_of Overlap = refl
channel_at-number_of Capability = refl
channel_at-number_of AreaOfInterest = refl
channel_at-number_of PayloadRequest = refl
channel_at-number_of StaticToken = refl

pub number_below : (c : Channel) → number_of c < channel_count
number_below Reconciliation = omega arith
number_below Data = omega arith
number_below Overlap = omega arith
number_below Capability = omega arith
number_below AreaOfInterest = omega arith
number_below PayloadRequest = omega arith
number_below StaticToken = omega arith

pub some_same : (c d : Channel) → Some c ≡ Some d → c ≡ d
some_same c d e = cc

pub same_from_number : (c d : Channel) → number_of c ≡ number_of d → c ≡ d
same_from_number c d e = some_same c d (sym (channel_at-number_of c) ∙ ap channel_at e ∙ channel_at-number_of d)

-- two channels are the same, or the test tells them apart
pub cases_same : (c d : Channel) → (c ≡ d) ⊎ (is_same c d ≡ false)
cases_same c d = elim (cases_Bool (is_same c d)) [ inl e ↦ inl (same_from_number c d (grind (arith, nat_tests))) | inr e ↦ inr e ]

pub same_is_same : (c : Channel) → is_same c c ≡ true
same_is_same c = grind (arith, nat_tests)
