-- Two reports of `finish`.
use Rattle.std.proofs.Common.{◌≡◌, ℕ, zero, suc, ◌+◌, ◌-◌, ◌<◌, ◌≤◌, List, [], ◌∷◌, Option, Some, None, Bool, true, false, refl, sym, ap, subst, arith}
use Rattle.std.specs.Prelude.{All, slice_index, if◌then◌else◌, drop}
use Rattle.std.specs.List.{AllByRecursion}
use Rattle.std.specs.Option.{option_map, option_or}
use Rattle.std.proofs.lemmas.List.Elements.{All-from_recursion}
use Rattle.std.proofs.lemmas.Bool.Decides.{nat_tests}
use Rattle.lc_frame.specs.declared.channel.Channel.{Channel}
use Rattle.lc_frame.specs.Bounds.{is_capacity}
use Rattle.lc_frame.specs.Channel.{channel_count, channel_at}
use Rattle.lc_frame.specs.Kind.{max_amount}
use Rattle.lc_frame.proofs.Channels.{number_below}
use Rattle.lc_peer.specs.declared.config.Config.{Config}
use Rattle.lc_peer.specs.declared.config.PeerFault.{PeerFault}
use Rattle.lc_peer.specs.Config.{bad_from, first_bad, bad_capacity}
use Rattle.lc_queue.specs.Parts.{End, new_ends}
use Rattle.lc_inbox.specs.declared.rule.Key.{Key}
use Rattle.lc_inbox.specs.Sides.{InboxId, InboxSide}
use Rattle.lc_inbox.specs.Inboxes.{AreNew, AreSameSides, origin_of}
use Rattle.lc_session.specs.declared.report.Report.{Report}
use Rattle.lc_session.specs.Played.{WasPlayed}
use Rattle.lc_session.specs.Report.{SessionState, AreOfOneSession, IsReport}
use Rattle.lc_session.specs.Heard.{NewSessionsHeardNothing}
use Rattle.lc_interleaving.specs.Reports.{finished, AreTwoReports, ArePlayedOut}
use Rattle.lc_interleaving.proofs.Sessions.{finished_sessions_keep_promises, reports_are_a_state, next_frames_are_lawful}

pub are_two_reports : (s t : SessionState) (r q : Report) → AreOfOneSession s → AreOfOneSession t → IsReport s r.clients r.servers r.left r.partly → IsReport t q.clients q.servers q.left q.partly → AreTwoReports s t r q
are_two_reports s t r q one_s one_t is_r is_q a_arrived b_arrived heard_s heard_t = record {
  a_finished = record { one = one_s; heard = heard_s; report = is_r };
  b_finished = record { one = one_t; heard = heard_t; report = is_q };
  promises = λ capacity fa fb order w. record {
    channels = finished_sessions_keep_promises capacity (finished s a_arrived r) (finished t b_arrived q) fa fb order w;
    state = reports_are_a_state capacity (finished s a_arrived r) (finished t b_arrived q) fa fb order w;
    lawful = next_frames_are_lawful capacity (finished s a_arrived r) (finished t b_arrived q) fa fb order w;
  };
}

-- ---- no ring of a session that was new is larger than rings may be

no_channel : (number : ℕ) → number < channel_count → channel_at number ≡ None → ⊥
no_channel zero few none = absurd (cc)
no_channel (suc zero) few none = absurd (cc)
no_channel (suc (suc zero)) few none = absurd (cc)
no_channel (suc (suc (suc zero))) few none = absurd (cc)
no_channel (suc (suc (suc (suc zero)))) few none = absurd (cc)
no_channel (suc (suc (suc (suc (suc zero))))) few none = absurd (cc)
no_channel (suc (suc (suc (suc (suc (suc zero)))))) few none = absurd (cc)
no_channel (suc (suc (suc (suc (suc (suc (suc n))))))) few none = absurd (omega (arith, few))

-- where no capacity of a channel is bad, each is at most the greatest
small_at : (ok : Bool) (number n : ℕ) (capacities : List ℕ) → is_capacity n ≡ ok → number < channel_count → (if ok then bad_from (number + 1) capacities else channel_at number) ≡ None → (n ≤ max_amount) × (bad_from (number + 1) capacities ≡ None)
small_at true number n capacities is few none = (grind (arith, nat_tests), none)
small_at false number n capacities is few none = absurd (no_channel number few none)

small : (number k : ℕ) (capacities : List ℕ) → number + k < channel_count → bad_from number capacities ≡ None → slice_index capacities k ≤ max_amount
small number k [] few none = omega arith
small number zero (n ∷ capacities) few none = (small_at (is_capacity n) number n capacities refl (omega (arith, few)) none).0
small number (suc k) (n ∷ capacities) few none = small (number + 1) k capacities (omega (arith, few)) (small_at (is_capacity n) number n capacities refl (omega (arith, few)) none).1

-- what is wrong comes first from the capacities
none_bad : (capacities : List ℕ) (bad : Option Channel) (rest : Option PeerFault) → option_or (option_map (bad_capacity capacities) bad) rest ≡ None → bad ≡ None
none_bad capacities None rest none = refl
none_bad capacities (Some c) rest none = absurd (cc)

new_rings : (capacities : List ℕ) (lanes : List End) (incoming outgoing : List InboxSide) → first_bad capacities ≡ None → AreNew capacities lanes incoming outgoing → AllByRecursion (λ (s : InboxSide). s.key.capacity ≤ max_amount) incoming
new_rings capacities [] [] outgoing none new = tt
new_rings capacities [] (i ∷ incoming) outgoing none new = absurd new
new_rings capacities (l ∷ lanes) [] outgoing none new = absurd new
new_rings capacities (l ∷ lanes) (i ∷ incoming) [] none new = absurd new
new_rings capacities (l ∷ lanes) (i ∷ incoming) (o ∷ outgoing) none new =
    let few : l.lane - channel_count < channel_count = omega (arith, new.0.channel_is, number_below i.key.channel) in
    (subst (λ (n : ℕ). n ≤ max_amount) (sym new.0.capacity_is) (small 0 (l.lane - channel_count) capacities (omega (arith, few)) none), new_rings capacities lanes incoming outgoing none new.1)

rings_stay : (old new : List InboxSide) → AreSameSides old new → AllByRecursion (λ (s : InboxSide). s.key.capacity ≤ max_amount) old → AllByRecursion (λ (s : InboxSide). s.key.capacity ≤ max_amount) new
rings_stay [] [] same all = tt
rings_stay [] (t ∷ new) same all = absurd (cc)
rings_stay (s ∷ old) [] same all = absurd (cc)
rings_stay (s ∷ old) (t ∷ new) same all =
    let both : origin_of s ≡ origin_of t = cc in
    (subst (λ (c : ℕ). c ≤ max_amount) (ap (λ (o : InboxId × Key). o.1.capacity) both) all.0, rings_stay old new (cc) all.1)

rings_are : (config : Config) (s : SessionState) → WasPlayed config s → All (λ (side : InboxSide). side.key.capacity ≤ max_amount) s.reading.side.inboxes
rings_are config s was =
    let began = was.began in
    let none = none_bad config.capacities (first_bad config.capacities) _ was.new.lawful in
    let rings = new_rings config.capacities (drop channel_count (new_ends began.writing.drain.queue config.version)) began.reading.side.inboxes began.receiving none was.new.inboxes_new in
    All-from_recursion (λ (side : InboxSide). side.key.capacity ≤ max_amount) s.reading.side.inboxes (rings_stay began.reading.side.inboxes s.reading.side.inboxes was.played.same.reading.inboxes rings)

-- ---- two sessions that were new and played

pub are_played_out : NewSessionsHeardNothing → (s t : SessionState) (r q : Report) → AreTwoReports s t r q → ArePlayedOut s t r q
are_played_out law s t r q two a_config b_config a b =
    let together = two a.played.heard.frames b.played.heard.frames (a.played.heard.hears [] (law a_config a.began a.new)) (b.played.heard.hears [] (law b_config b.began b.new)) in
    record {
      a_finished = together.a_finished;
      b_finished = together.b_finished;
      promises = λ order interleaving. together.promises max_amount together.a_finished together.b_finished order (record {
        is_capacity = record { at_least = omega arith; at_most = omega arith };
        a_rings = rings_are a_config s a;
        b_rings = rings_are b_config t b;
        interleaving = interleaving;
      });
    }
