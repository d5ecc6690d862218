-- What stands of a frame that broke the rules, and what it exceeds.
use Rattle.std.proofs.Common.{◌≡◌, ℕ, ◌+◌, ◌<◌, Bool, true, false, List, ◌∷◌, length, Option, Some, None, refl, sym, ap, subst, ◌∙◌, arith, inl, inr}
use Rattle.std.specs.Prelude.{◌⊎◌, nat_lt, if◌then◌else◌}
use Rattle.std.proofs.lemmas.Bool.{ltb-true}
use Rattle.std.proofs.lemmas.List.{length-append}
use Rattle.lc_frame.specs.declared.version.Version.{Version}
use Rattle.lc_frame.specs.declared.channel.Channel.{Channel}
use Rattle.lc_frame.specs.declared.kind.Kind.TheVariants as kinds
use Rattle.lc_frame.specs.declared.frame.Frame.{Frame}
use Rattle.lc_frame.specs.declared.frame.Frame.TheVariants.{Send, Issue, Absolve, Plead, LimitSending, LimitReceiving, Finish}
use Rattle.lc_frame.specs.declared.frame_fault.FrameFault.{FrameFault}
use Rattle.lc_frame.specs.declared.frame_fault.FrameFault.TheVariants.{BadTag, ZeroLength, BadNumber, Truncated}
use Rattle.lc_frame.specs.Kind.{header_len, IsInRange, max_amount, max_total}
use Rattle.lc_frame.specs.Frame.{channel_of, field_of}
use Rattle.lc_frame.specs.Encoding.{header, FaultStands}
use Rattle.lc_frame.specs.Stored.{Stored, HasFault, FaultIn}
use Rattle.lc_frame.specs.Begun.{BeginsSend}
use Rattle.lc_frame.proofs.Fronts.{length-header}
use Rattle.lc_frame.proofs.Sends.{begun_whole, begun_valid}
use Rattle.lc_book.specs.declared.fault.Violation.{Violation}
use Rattle.lc_book.specs.declared.fault.Violation.TheVariants.{NotGuaranteed, SentPastLimit, AbsolvedTooMuch, SendLimitRaised, IssuedPastLimit, TooManyGuarantees, ReceiveLimitRaised, TotalPassed, AfterFinish}
use Rattle.lc_book.specs.Limit.{is_past}
use Rattle.lc_book.specs.Finish.{finished_violation_or}
use Rattle.lc_book.specs.Client.{Client, IsClient, held}
use Rattle.lc_book.specs.Server.{Server, outstanding}
use Rattle.lc_peer.specs.declared.skip.Skip.{Skip}
use Rattle.lc_peer.specs.RingIntake.{held_of}
use Rattle.lc_peer.specs.Peer.{PeerState, client, server}
use Rattle.lc_peer.specs.Arrivals.{violation, violation_at}
use Rattle.lc_peer.specs.Offending.{HoldsHead, ShowsHead, allowed, Exceeds}
use Rattle.lc_peer.proofs.Longer.{skip_open}
use Rattle.lc_peer.proofs.Begun.{has_begun_no_fault}

-- ---- a Send whose message is not kept

abbrev begun_of : (s : Skip) → IsInRange s.version kinds.Send s.len → BeginsSend s.version s.channel s.len (held_of s).bytes
begun_of s r = record { in_range = r; rest = s.body.bytes; is = refl }

-- how many bytes of it came
pub came_len : (s : Skip) → length (held_of s).bytes ≡ header_len s.version kinds.Send + length s.body.bytes
came_len s = omega (arith, length-append (header s.version kinds.Send s.channel s.len) s.body.bytes, length-header s.version kinds.Send s.channel s.len)

-- once it is whole, its frame stands
pub shows_skip : (s : Skip) → IsInRange s.version kinds.Send s.len → length s.body.bytes ≡ s.len → ShowsHead (Some (record { kind = kinds.Send; channel = s.channel; number = Some s.len })) (held_of s)
shows_skip s r all =
    let whole : length (held_of s).bytes ≡ header_len s.version kinds.Send + s.len = omega (arith, all, came_len s) in
    inl (record {
      frame = Send s.channel s.body.bytes;
      valid = begun_valid s.version s.channel s.len (held_of s).bytes (begun_of s r) whole;
      whole = begun_whole s.version s.channel s.len (held_of s).bytes (begun_of s r) whole;
      is = ap (λ (n : ℕ). record { kind = kinds.Send; channel = s.channel; number = Some n }) (sym all);
    })

-- no fault stands there
pub skip_no_fault : (s : Skip) (e : FrameFault) → IsInRange s.version kinds.Send s.len → ¬ HasFault e (held_of s)
skip_no_fault s e r = has_begun_no_fault s.channel s.len (held_of s) e (begun_of s r)

-- before, nothing does
pub shows_none : (s : Skip) → IsInRange s.version kinds.Send s.len → length s.body.bytes < s.len → ShowsHead None (held_of s)
shows_none s r few = ((skip_open s r few).no_frame, (skip_no_fault s ZeroLength r, skip_no_fault s BadNumber r))

-- ---- one fault at most

first_same : {x y : ℕ} {xs ys : List ℕ} → x ∷ xs ≡ y ∷ ys → x ≡ y
first_same e = cc

tag_or_number : (v : Version) (bytes : List ℕ) (e : FrameFault) → FaultStands v BadTag bytes → FaultStands v e bytes → e ≡ BadTag
tag_or_number v bytes BadTag t s = refl
tag_or_number v bytes ZeroLength t s = absurd (t.no_tag s.kind s.channel s.known (first_same (sym t.is ∙ s.is)))
tag_or_number v bytes BadNumber t s = absurd (t.no_tag s.kind s.channel s.known (first_same (sym t.is ∙ s.is)))
tag_or_number v bytes Truncated t s = absurd s

tag_or : (o : Option Version) (bytes : List ℕ) (e : FrameFault) → FaultIn o BadTag bytes → FaultIn o e bytes → e ≡ BadTag
tag_or None bytes e t s = s.0
tag_or (Some v) bytes e t s = tag_or_number v bytes e t s

-- where a bad tag stands, no other fault does
pub only_bad_tag : (h : Stored) (e : FrameFault) → HasFault BadTag h → HasFault e h → e ≡ BadTag
only_bad_tag h e t s = tag_or h.version h.bytes e t s

pub not_bad_tag : (e : FrameFault) → (e ≡ ZeroLength) ⊎ ((e ≡ BadNumber) ⊎ (e ≡ Truncated)) → e ≡ BadTag → ⊥
not_bad_tag e (inl is) same = absurd cc
not_bad_tag e (inr (inl is)) same = absurd cc
not_bad_tag e (inr (inr is)) same = absurd cc

-- ---- what is exceeded

some_same : {v w : Violation} → Some v ≡ Some w → v ≡ w
some_same e = cc

unless_finished : (finished : Bool) (o : Option Violation) (v : Violation) (P : Violation → Type 0) → P AfterFinish → (o ≡ Some v → P v) → finished_violation_or finished o ≡ Some v → P v
unless_finished true o v P after other e = subst P (some_same e) after
unless_finished false o v P after other e = other e

unless : (b : Bool) (w v : Violation) (o : Option Violation) (P : Violation → Type 0) → (b ≡ true → P w) → (o ≡ Some v → P v) → (if b then Some w else o) ≡ Some v → P v
unless true w v o P this other e = subst P (some_same e) (this refl)
unless false w v o P this other e = other e

none_wrong : {v : Violation} {P : Type 0} → None ≡ Some v → P
none_wrong e = absurd cc

past_exceeds : (left : Option ℕ) (f : Frame) (v : Violation) → is_past left (field_of f) ≡ true → Exceeds f v left
past_exceeds None f v e = absurd cc
past_exceeds (Some left) f v e = ltb-true left (field_of f) e

exceeds : (c : Client) (s : Server) (f : Frame) (v : Violation) → IsClient c → violation c s f ≡ Some v → Exceeds f v (allowed c s v)
exceeds c s (Send on body) v kept e =
    let P : Violation → Type 0 = λ w. Exceeds (Send on body) w (allowed c s w) in
    unless_finished s.finished _ v P refl (unless (nat_lt (outstanding s) (length body)) NotGuaranteed v _ P (λ more. ltb-true (outstanding s) (length body) more) (unless (is_past s.send_left (length body)) SentPastLimit v None P (past_exceeds s.send_left (Send on body) SentPastLimit) none_wrong)) e
exceeds c s (Issue on n) v kept e =
    let P : Violation → Type 0 = λ w. Exceeds (Issue on n) w (allowed c s w) in
    unless (is_past c.receive_left n) IssuedPastLimit v _ P (past_exceeds c.receive_left (Issue on n) IssuedPastLimit)
    (unless (nat_lt max_amount (held c + n)) TooManyGuarantees v _ P (λ more. omega (arith, ltb-true max_amount (held c + n) more, kept.small))
    (unless (nat_lt max_total (c.received + n)) TotalPassed v None P (λ more. omega (arith, ltb-true max_total (c.received + n) more, kept.total)) none_wrong)) e
exceeds c s (Absolve on n) v kept e =
    let P : Violation → Type 0 = λ w. Exceeds (Absolve on n) w (allowed c s w) in
    unless_finished s.finished _ v P refl (unless (nat_lt (outstanding s) n) AbsolvedTooMuch v None P (λ more. ltb-true (outstanding s) n more) none_wrong) e
exceeds c s (Plead on n) v kept e = none_wrong e
exceeds c s (LimitSending on n) v kept e =
    let P : Violation → Type 0 = λ w. Exceeds (LimitSending on n) w (allowed c s w) in
    unless_finished s.finished _ v P refl (unless (is_past s.send_left n) SendLimitRaised v None P (past_exceeds s.send_left (LimitSending on n) SendLimitRaised) none_wrong) e
exceeds c s (LimitReceiving on n) v kept e =
    let P : Violation → Type 0 = λ w. Exceeds (LimitReceiving on n) w (allowed c s w) in
    unless (is_past c.receive_left n) ReceiveLimitRaised v None P (past_exceeds c.receive_left (LimitReceiving on n) ReceiveLimitRaised) none_wrong e
exceeds c s (Finish on) v kept e = unless_finished s.finished None v (λ w. Exceeds (Finish on) w (allowed c s w)) refl none_wrong e

-- a frame of a channel that violates the rules carries more than is allowed there
pub exceeds_on : (p : PeerState) (c : Channel) (f : Frame) (v : Violation) → IsClient (client p c) → channel_of f ≡ c → violation_at p f ≡ Some v → Exceeds f v (allowed (client p c) (server p c) v)
exceeds_on p c f v kept on e = exceeds (client p c) (server p c) f v kept (subst (λ (x : Channel). violation (client p x) (server p x) f ≡ Some v) on e)
