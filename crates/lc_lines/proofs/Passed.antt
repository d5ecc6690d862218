-- While a channel is passed, another one of which a message is queued finds no slot.
use Rattle.std.proofs.Common.{◌≡◌, ℕ, ◌+◌, ◌≤◌, Bool, true, false, List, [], ◌∷◌, length, refl, arith}
use Rattle.std.specs.Prelude.{◌==◌, ◌&&◌, ◌||◌, not}
use Rattle.std.specs.List.{AllByRecursion}
use Rattle.std.proofs.lemmas.Bool.Decides.{nat_tests}
use Rattle.lc_frame.specs.declared.channel.Channel.{Channel}
use Rattle.lc_frame.specs.declared.frame.Frame.{Frame}
use Rattle.lc_frame.specs.Channel.{is_same}
use Rattle.lc_lines.specs.Permits.{permits_on}
use Rattle.lc_lines.specs.Outbound.{every_channel, queued, fits, is_own_free, has_slot}
use Rattle.lc_lines.specs.Scheduler.{SchedulerState, unwritten, has_guarantees, is_passed, none_passed_among, may_share, has_place, is_able, is_turn, can_proceed}
use Rattle.lc_lines.specs.Passed.{PassedChannelsAreSpared}
use Rattle.lc_lines.proofs.Next.{of_every, first_of_both, second_of_both}

unpassed_all : (s : SchedulerState) (c : Channel) (cs : List Channel) → none_passed_among s c cs ≡ true → AllByRecursion (λ d. (is_same d c || not (is_passed s d)) ≡ true) cs
unpassed_all s c [] e = tt
unpassed_all s c (d ∷ cs) e = (first_of_both (is_same d c || not (is_passed s d)) (none_passed_among s c cs) e, unpassed_all s c cs (second_of_both (is_same d c || not (is_passed s d)) (none_passed_among s c cs) e))

passed_other : (same passed : Bool) → same ≡ false → passed ≡ true → (same || not passed) ≡ true → ⊥
passed_other true passed s p e = cc
passed_other false true s p e = cc
passed_other false false s p e = cc

-- where a message of a channel is queued, some frame is
some_queued : (frames : List Frame) (c : Channel) → 1 ≤ queued c frames → (length frames == 0) ≡ false
some_queued [] c some = absurd (omega (arith, some))
some_queued (f ∷ frames) c some = grind (arith, nat_tests)

not_none : (n m : ℕ) → 1 ≤ n → (n + m == 0) ≡ false
not_none n m some = grind (arith, nat_tests)

left_over : (own empty none : Bool) → own ≡ false → empty ≡ false → (own || (empty || none)) ≡ true → none ≡ true
left_over true empty none o e is = cc
left_over false true none o e is = cc
left_over false false none o e is = is

spared_by : (b : Bool) (s : SchedulerState) (c d : Channel) (len : ℕ) → can_proceed s c len ≡ b → is_same d c ≡ false → is_passed s d ≡ true → 1 ≤ queued c s.peer.waiting → b ≡ false
unfolding may_share
spared_by false s c d len is other passed some = refl
spared_by true s c d len is other passed some =
    let able = first_of_both (is_able s c len) (fits (unwritten s) len && is_turn s c) is in
    let place = second_of_both (has_guarantees s c len) (has_place s c) able in
    let shared = second_of_both (has_slot s.peer s.asides c) (is_own_free s.peer s.asides c || may_share s c) place in
    let own : is_own_free s.peer s.asides c ≡ false = not_none (queued c s.peer.waiting) (permits_on s.asides c) some in
    let none : none_passed_among s c every_channel ≡ true = left_over (is_own_free s.peer s.asides c) (length s.peer.waiting == 0) (none_passed_among s c every_channel) own (some_queued s.peer.waiting c some) shared in
    absurd (passed_other (is_same d c) (is_passed s d) other passed (of_every (λ (x : Channel). (is_same x c || not (is_passed s x)) ≡ true) (unpassed_all s c every_channel none) d))

pub passed_channels_are_spared : PassedChannelsAreSpared
passed_channels_are_spared s c d len other passed some = spared_by (can_proceed s c len) s c d len refl other passed some
