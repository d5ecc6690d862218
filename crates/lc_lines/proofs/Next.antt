-- The channel whose first call proceeds next.
use Rattle.std.proofs.Common.{◌≡◌, ℕ, Bool, true, false, if◌then◌else◌, List, [], ◌∷◌, Option, Some, None, refl, sym, subst}
use Rattle.std.specs.Prelude.{◌&&◌, ◌||◌, IfSome, IfNone}
use Rattle.std.specs.List.{AllByRecursion}
use Rattle.lc_frame.specs.declared.channel.Channel.{Channel}
use Rattle.lc_frame.specs.declared.channel.Channel.TheVariants.{Reconciliation, Data, Overlap, Capability, AreaOfInterest, PayloadRequest, StaticToken}
use Rattle.lc_lines.specs.Outbound.{every_channel, fits, has_slot, is_own_free}
use Rattle.lc_lines.specs.declared.queue.Call.{Call}
use Rattle.lc_lines.specs.declared.queue.Ask.{Ask}
use Rattle.lc_lines.specs.declared.queue.Ask.TheVariants.{Message, Offer, Permit, End}
use Rattle.lc_lines.specs.Queue.{ask_len, call_len, is_bound}
use Rattle.lc_lines.specs.Scheduler.{SchedulerState, unwritten, has_guarantees, may_share, has_place, is_accepted, is_accepted_call, is_able, is_turn, call_fits, can_proceed, can_ask_proceed, can_call_proceed, is_bound_call, can_front_proceed, next_among, next_channel, IsSettled, is_hopeless, hopeless_among, next_hopeless, NoneIsHopeless}

pub of_every : (P : Channel → Type 0) → AllByRecursion P every_channel → (d : Channel) → P d
of_every P h Reconciliation = h.0
of_every P h Data = h.1.0
of_every P h Overlap = h.1.1.0
of_every P h Capability = h.1.1.1.0
of_every P h AreaOfInterest = h.1.1.1.1.0
of_every P h PayloadRequest = h.1.1.1.1.1.0
of_every P h StaticToken = h.1.1.1.1.1.1.0

none_by : (s : SchedulerState) (c : Channel) (cs : List Channel) (b : Bool) (later : Option Channel) → can_front_proceed s c ≡ b → (if b then Some c else later) ≡ None → (later ≡ None → AllByRecursion (λ d. can_front_proceed s d ≡ false) cs) → AllByRecursion (λ d. can_front_proceed s d ≡ false) (c ∷ cs)
none_by s c cs true later is e h = cc
none_by s c cs false later is e h = (is, h e)

none_among : (s : SchedulerState) (cs : List Channel) → next_among s cs ≡ None → AllByRecursion (λ d. can_front_proceed s d ≡ false) cs
none_among s [] e = tt
none_among s (c ∷ cs) e = none_by s c cs (can_front_proceed s c) (next_among s cs) refl e (none_among s cs)

pub none_is_settled : (s : SchedulerState) → next_channel s ≡ None → IsSettled s
none_is_settled s e = of_every (λ (d : Channel). can_front_proceed s d ≡ false) (none_among s every_channel e)

some_by : (s : SchedulerState) (c d : Channel) (b : Bool) (later : Option Channel) → can_front_proceed s d ≡ b → (if b then Some d else later) ≡ Some c → (later ≡ Some c → can_front_proceed s c ≡ true) → can_front_proceed s c ≡ true
some_by s c d true later is e h = let same : d ≡ c = cc in subst (λ (x : Channel). can_front_proceed s x ≡ true) same is
some_by s c d false later is e h = h e

some_among : (s : SchedulerState) (c : Channel) (cs : List Channel) → next_among s cs ≡ Some c → can_front_proceed s c ≡ true
some_among s c [] e = cc
some_among s c (d ∷ cs) e = some_by s c d (can_front_proceed s d) (next_among s cs) refl e (some_among s c cs)

pub next_can_proceed : (s : SchedulerState) (c : Channel) → next_channel s ≡ Some c → can_front_proceed s c ≡ true
next_can_proceed s c e = some_among s c every_channel e

pub first_of_both : (a b : Bool) → (a && b) ≡ true → a ≡ true
first_of_both true b e = refl
first_of_both false b e = cc

pub second_of_both : (a b : Bool) → (a && b) ≡ true → b ≡ true
second_of_both true b e = e
second_of_both false b e = cc

-- what is able has its guarantees, and a slot is free
both : (a b : Bool) → a ≡ true → b ≡ true → (a && b) ≡ true
both true b e f = f
both false b e f = cc

pub able_parts : (s : SchedulerState) (c : Channel) (len : ℕ) → is_able s c len ≡ true → (has_guarantees s c len ≡ true) × (has_slot s.peer s.asides c ≡ true)
able_parts s c len able =
    let place = second_of_both (has_guarantees s c len) (has_place s c) able in
    (first_of_both (has_guarantees s c len) (has_place s c) able, first_of_both (has_slot s.peer s.asides c) (is_own_free s.peer s.asides c || may_share s c) place)

-- what is true of a first call that can proceed, and asks for no bound
able_ask : (s : SchedulerState) (c : Channel) (ask : Ask) → is_bound ask ≡ false → can_ask_proceed s c ask ≡ true → can_proceed s c (ask_len ask) ≡ true
able_ask s c (Message body) other e = e
able_ask s c (Offer len) other e = e
able_ask s c (Permit len) other e = e
able_ask s c (End bound) other e = cc

pub bytes_by : (s : SchedulerState) (c : Channel) (first : Option Call) → is_bound_call first ≡ false → can_call_proceed s c first ≡ true → call_fits s first ≡ true
bytes_by s c None other e = cc
bytes_by s c (Some call) other e = first_of_both (fits (unwritten s) (call_len call)) (is_turn s c) (second_of_both (is_able s c (call_len call)) (fits (unwritten s) (call_len call) && is_turn s c) (able_ask s c call.ask other e))

pub accepted : (s : SchedulerState) (c : Channel) (len : ℕ) → is_able s c len ≡ true → is_accepted s c len ≡ true
accepted s c len able =
    let parts = able_parts s c len able in
    both (has_guarantees s c len) (has_slot s.peer s.asides c) parts.0 parts.1

pub accepted_by : (s : SchedulerState) (c : Channel) (first : Option Call) → is_bound_call first ≡ false → can_call_proceed s c first ≡ true → is_accepted_call s c first ≡ true
accepted_by s c None other e = cc
accepted_by s c (Some call) other e = accepted s c (call_len call) (first_of_both (is_able s c (call_len call)) (fits (unwritten s) (call_len call) && is_turn s c) (able_ask s c call.ask other e))

pub turn_by : (s : SchedulerState) (c : Channel) (first : Option Call) → is_bound_call first ≡ false → can_call_proceed s c first ≡ true → is_turn s c ≡ true
turn_by s c None other e = cc
turn_by s c (Some call) other e = second_of_both (fits (unwritten s) (call_len call)) (is_turn s c) (second_of_both (is_able s c (call_len call)) (fits (unwritten s) (call_len call) && is_turn s c) (able_ask s c call.ask other e))

pub next_proceeds : (s : SchedulerState) (o : Option Channel) → o ≡ next_channel s → IfSome o (λ c. can_front_proceed s c ≡ true)
next_proceeds s None e = tt
next_proceeds s (Some c) e = next_can_proceed s c (sym e)

pub next_is_settled : (s : SchedulerState) (o : Option Channel) → o ≡ next_channel s → IfNone o (IsSettled s)
next_is_settled s None e = none_is_settled s (sym e)
next_is_settled s (Some c) e = tt

-- the same of the first call that will never proceed
hopeless_none_by : (s : SchedulerState) (c : Channel) (cs : List Channel) (b : Bool) (later : Option Channel) → is_hopeless s c ≡ b → (if b then Some c else later) ≡ None → (later ≡ None → AllByRecursion (λ d. is_hopeless s d ≡ false) cs) → AllByRecursion (λ d. is_hopeless s d ≡ false) (c ∷ cs)
hopeless_none_by s c cs true later is e h = cc
hopeless_none_by s c cs false later is e h = (is, h e)

hopeless_none : (s : SchedulerState) (cs : List Channel) → hopeless_among s cs ≡ None → AllByRecursion (λ d. is_hopeless s d ≡ false) cs
hopeless_none s [] e = tt
hopeless_none s (c ∷ cs) e = hopeless_none_by s c cs (is_hopeless s c) (hopeless_among s cs) refl e (hopeless_none s cs)

hopeless_by : (s : SchedulerState) (c d : Channel) (b : Bool) (later : Option Channel) → is_hopeless s d ≡ b → (if b then Some d else later) ≡ Some c → (later ≡ Some c → is_hopeless s c ≡ true) → is_hopeless s c ≡ true
hopeless_by s c d true later is e h = let same : d ≡ c = cc in subst (λ (x : Channel). is_hopeless s x ≡ true) same is
hopeless_by s c d false later is e h = h e

hopeless_some : (s : SchedulerState) (c : Channel) (cs : List Channel) → hopeless_among s cs ≡ Some c → is_hopeless s c ≡ true
hopeless_some s c [] e = cc
hopeless_some s c (d ∷ cs) e = hopeless_by s c d (is_hopeless s d) (hopeless_among s cs) refl e (hopeless_some s c cs)

pub found_hopeless : (s : SchedulerState) (o : Option Channel) → o ≡ next_hopeless s → IfSome o (λ c. is_hopeless s c ≡ true)
found_hopeless s None e = tt
found_hopeless s (Some c) e = hopeless_some s c every_channel (sym e)

pub found_no_hopeless : (s : SchedulerState) (o : Option Channel) → o ≡ next_hopeless s → IfNone o (NoneIsHopeless s)
found_no_hopeless s None e = of_every (λ (d : Channel). is_hopeless s d ≡ false) (hopeless_none s every_channel (sym e))
found_no_hopeless s (Some c) e = tt
