-- What every legal history keeps of one channel direction: by its client's line and its server's.
use Rattle.std.proofs.Common.{◌≡◌, ℕ, ◌+◌, ◌<◌, ◌≤◌, Bool, false, List, [], ◌∷◌, ◌++◌, length, get_or, take, Option, Some, None, refl, sym, ap, subst, ◌∙◌, inl, inr, arith}
use Rattle.std.specs.Prelude.{◌-◌, sum, sum_by, if◌then◌else◌}
use Rattle.std.specs.List.{filter_map}
use Rattle.std.proofs.lemmas.Bool.Decides.{nat_tests}
use Rattle.std.proofs.lemmas.List.{append_assoc, take-append-le, length-append, length-drop, length-set, get_or-set_same, get_or-set_other}
use Rattle.std.proofs.lemmas.List.Sums.{sum_by-take-le, sum_by_more}
use Rattle.lc_frame.specs.declared.version.Version.{Version}
use Rattle.lc_frame.specs.declared.channel.Channel.{Channel}
use Rattle.lc_frame.specs.declared.channel.Channel.TheVariants.{Reconciliation, Data, Overlap, Capability, AreaOfInterest, PayloadRequest, StaticToken}
use Rattle.lc_frame.specs.declared.frame.Frame.{Frame}
use Rattle.lc_frame.specs.declared.frame.Frame.TheVariants.{Send, Issue, Absolve, Plead, LimitSending, LimitReceiving, Finish}
use Rattle.lc_frame.specs.Channel.{number_of, is_same}
use Rattle.lc_frame.specs.Frame.{channel_of}
use Rattle.lc_frame.specs.Kind.{max_total}
use Rattle.lc_frame.specs.Stream.{absolve_of, messages, cost, issued, absolved}
use Rattle.lc_frame.proofs.Channels.{cases_same, number_below}
use Rattle.lc_frame.proofs.Measures.{on-elsewhere, messages-append, cost-append, issued-append, absolved-append, cost-one, issued-one, absolved-one}
use Rattle.lc_book.specs.Client.{Client, held}
use Rattle.lc_book.specs.Server.{Server}
use Rattle.lc_world.specs.State.{Line, new_line, stream, taken_count, taken_messages, client_book, server_book, put_on, arrive_on, deliver_on, take_on, forget_on, forget_finished}
use Rattle.lc_world.specs.Answers.{waiting, put_any}
use Rattle.lc_world.specs.Sound.{Sound}
use Rattle.lc_world.proofs.Delivers.{deliver_keeps}
use Rattle.lc_world.proofs.Limits.{no_cost_elsewhere, none_issued_elsewhere}
use Rattle.lc_world.proofs.Allowed.{IsAllowed, MayPut, MayPutAny}
use Rattle.lc_world.proofs.Streams.{stream-put}

-- the sums over a stream, by what arrived and what is in flight
pub cost-cut : (c : Channel) (l : Line) → cost c (stream l) ≡ cost c l.arrived + cost c l.in_flight
cost-cut c l = cost-append c l.arrived l.in_flight

pub issued-cut : (c : Channel) (l : Line) → issued c (stream l) ≡ issued c l.arrived + issued c l.in_flight
issued-cut c l = issued-append c l.arrived l.in_flight

pub absolved-cut : (c : Channel) (l : Line) → absolved c (stream l) ≡ absolved c l.arrived + absolved c l.in_flight
absolved-cut c l = absolved-append c l.arrived l.in_flight

-- and after a frame was put
cost-put : (c : Channel) (l : Line) (f : Frame) → cost c (stream (put_on l f)) ≡ cost c (stream l) + cost c (f ∷ [])
cost-put c l f = ap (cost c) (stream-put l f) ∙ cost-append c (stream l) (f ∷ [])

issued-put : (c : Channel) (l : Line) (f : Frame) → issued c (stream (put_on l f)) ≡ issued c (stream l) + issued c (f ∷ [])
issued-put c l f = ap (issued c) (stream-put l f) ∙ issued-append c (stream l) (f ∷ [])

absolved-put : (c : Channel) (l : Line) (f : Frame) → absolved c (stream (put_on l f)) ≡ absolved c (stream l) + absolved c (f ∷ [])
absolved-put c l f = ap (absolved c) (stream-put l f) ∙ absolved-append c (stream l) (f ∷ [])

-- a frame absolves nothing on another channel
none_absolved_elsewhere : (c : Channel) (f : Frame) → is_same c (channel_of f) ≡ false → absolved c (f ∷ []) ≡ 0
none_absolved_elsewhere c f apart = ap (λ (fs : List Frame). sum (filter_map absolve_of fs)) (on-elsewhere c f apart)

-- the taken messages cost no more than those that arrived
pub taken_cost : (c : Channel) (l : Line) → sum_by length (taken_messages c l) ≤ cost c l.arrived
taken_cost c l = sum_by-take-le length (messages c l.arrived) (taken_count c l)

-- what a frame that may be put uses is held
used_is_held : (client : Client) (server : Server) (f : Frame) → IsAllowed client server f → cost (channel_of f) (f ∷ []) + absolved (channel_of f) (f ∷ []) ≤ held client
used_is_held client server (Send c body) h = omega (arith, h.0, cost-one (Send c body), absolved-one (Send c body))
used_is_held client server (Issue c n) h = omega (arith, cost-one (Issue c n), absolved-one (Issue c n))
used_is_held client server (Absolve c n) h = omega (arith, h.0, cost-one (Absolve c n), absolved-one (Absolve c n))
used_is_held client server (Plead c n) h = omega (arith, cost-one (Plead c n), absolved-one (Plead c n))
used_is_held client server (LimitSending c n) h = omega (arith, cost-one (LimitSending c n), absolved-one (LimitSending c n))
used_is_held client server (LimitReceiving c n) h = omega (arith, cost-one (LimitReceiving c n), absolved-one (LimitReceiving c n))
used_is_held client server (Finish c) h = omega (arith, cost-one (Finish c), absolved-one (Finish c))

-- where there was no Finish, nothing is waived
pub none_waived : (finished : Bool) (n : ℕ) → finished ≡ false → (if finished then n else 0) ≡ 0
none_waived finished n e = rw e refl

-- what it issues fits the room, of which nothing is waived, and the total
record FitsRoom (server : Server) (n : ℕ) : Type 0 where
  in_room : n ≤ server.capacity - (server.issued - server.arrived - server.absolved) - (server.arrived - server.taken)
  in_total : server.issued ≤ max_total → server.issued + n ≤ max_total

nothing_fits : (server : Server) (n : ℕ) → n ≡ 0 → FitsRoom server n
nothing_fits server n e = record { in_room = omega (arith, e); in_total = λ le. omega (arith, e) }

issue_fits : (client : Client) (server : Server) (f : Frame) → IsAllowed client server f → FitsRoom server (issued (channel_of f) (f ∷ []))
issue_fits client server (Send c body) h = nothing_fits server _ (issued-one (Send c body))
issue_fits client server (Issue c n) h =
    let e : issued c (Issue c n ∷ []) ≡ n = issued-one (Issue c n) ∙ omega arith in
    record { in_room = omega (arith, h.0, e, none_waived server.finished (server.issued - server.arrived - server.absolved) h.3); in_total = λ le. omega (arith, h.1, e) }
issue_fits client server (Absolve c n) h = nothing_fits server _ (issued-one (Absolve c n))
issue_fits client server (Plead c n) h = nothing_fits server _ (issued-one (Plead c n))
issue_fits client server (LimitSending c n) h = nothing_fits server _ (issued-one (LimitSending c n))
issue_fits client server (LimitReceiving c n) h = nothing_fits server _ (issued-one (LimitReceiving c n))
issue_fits client server (Finish c) h = nothing_fits server _ (issued-one (Finish c))

-- a frame that the client puts
abbrev IsSolvent : Line → Line → Channel → Type 0
IsSolvent mine theirs c = cost c (stream mine) + absolved c (stream mine) ≤ issued c theirs.arrived

put_here : (capacity : ℕ) (mine theirs : Line) (f : Frame) → MayPut capacity mine theirs f → IsSolvent mine theirs (channel_of f) → IsSolvent (put_on mine f) theirs (channel_of f)
put_here capacity mine theirs f may solvent =
    let d : Channel = channel_of f in
    let fits : cost d (f ∷ []) + absolved d (f ∷ []) ≤ held (client_book d mine theirs) = used_is_held (client_book d mine theirs) (server_book capacity d mine theirs) f may in
    omega (arith, solvent, fits, cost-put d mine f, absolved-put d mine f)

put_solvent : (capacity : ℕ) (c : Channel) (mine theirs : Line) (f : Frame) → MayPut capacity mine theirs f → IsSolvent mine theirs c → IsSolvent (put_on mine f) theirs c
put_solvent capacity c mine theirs f may solvent =
    elim (cases_same c (channel_of f)) [
      | inl same ↦ subst (λ (d : Channel). IsSolvent mine theirs d → IsSolvent (put_on mine f) theirs d) (sym same) (put_here capacity mine theirs f may) solvent
      | inr apart ↦ omega (arith, solvent, cost-put c mine f, absolved-put c mine f, no_cost_elsewhere c f apart, none_absolved_elsewhere c f apart)
    ]

pub sound_client_puts : (capacity : ℕ) (c : Channel) (mine theirs : Line) (o : Option Frame) → MayPutAny capacity mine theirs o → Sound capacity c mine theirs → Sound capacity c (put_any mine o) theirs
sound_client_puts capacity c mine theirs None may s = s
sound_client_puts capacity c mine theirs (Some f) may s = record { solvent = put_solvent capacity c mine theirs f may s.solvent; roomy = s.roomy; total = s.total; taken_of_arrived = s.taken_of_arrived; places = s.places }

-- the ring's balance after an issue of n
room_enough : (capacity issued_so_far arrived given_up taken n : ℕ) → arrived + given_up ≤ issued_so_far → taken ≤ arrived → issued_so_far ≤ capacity + taken + given_up → n ≤ capacity - (issued_so_far - arrived - given_up) - (arrived - taken) → issued_so_far + n ≤ capacity + taken + given_up
room_enough capacity issued_so_far arrived given_up taken n paid some roomy fits = omega arith

-- what arrived at the server is covered by what it issued
pub paid : (capacity : ℕ) (c : Channel) (mine theirs : Line) → Sound capacity c mine theirs → cost c mine.arrived + absolved c mine.arrived ≤ issued c (stream theirs)
paid capacity c mine theirs s = omega (arith, s.solvent, cost-cut c mine, absolved-cut c mine, issued-cut c theirs)

-- a frame that the server puts
give_here : (capacity : ℕ) (mine theirs : Line) (f : Frame) → MayPut capacity theirs mine f → Sound capacity (channel_of f) mine theirs → Sound capacity (channel_of f) mine (put_on theirs f)
give_here capacity mine theirs f may s =
    let d : Channel = channel_of f in
    let fits : FitsRoom (server_book capacity d theirs mine) (issued d (f ∷ [])) = issue_fits (client_book d theirs mine) (server_book capacity d theirs mine) f may in
    let roomy : issued d (stream theirs) + issued d (f ∷ []) ≤ capacity + sum_by length (taken_messages d mine) + absolved d mine.arrived = room_enough capacity (issued d (stream theirs)) (cost d mine.arrived) (absolved d mine.arrived) (sum_by length (taken_messages d mine)) (issued d (f ∷ [])) (paid capacity d mine theirs s) (taken_cost d mine) s.roomy fits.in_room in
    let total : issued d (stream theirs) + issued d (f ∷ []) ≤ max_total = fits.in_total s.total in
    record { solvent = s.solvent; roomy = omega (arith, roomy, issued-put d theirs f); total = omega (arith, total, issued-put d theirs f); taken_of_arrived = s.taken_of_arrived; places = s.places }

give_elsewhere : (capacity : ℕ) (c : Channel) (mine theirs : Line) (f : Frame) → is_same c (channel_of f) ≡ false → Sound capacity c mine theirs → Sound capacity c mine (put_on theirs f)
give_elsewhere capacity c mine theirs f apart s =
    let same : issued c (stream (put_on theirs f)) ≡ issued c (stream theirs) = omega (arith, issued-put c theirs f, none_issued_elsewhere c f apart) in
    record { solvent = s.solvent; roomy = omega (arith, s.roomy, same); total = omega (arith, s.total, same); taken_of_arrived = s.taken_of_arrived; places = s.places }

pub sound_server_puts : (capacity : ℕ) (c : Channel) (mine theirs : Line) (o : Option Frame) → MayPutAny capacity theirs mine o → Sound capacity c mine theirs → Sound capacity c mine (put_any theirs o)
sound_server_puts capacity c mine theirs None may s = s
sound_server_puts capacity c mine theirs (Some f) may s =
    elim (cases_same c (channel_of f)) [
      | inl same ↦ subst (λ (d : Channel). Sound capacity d mine theirs → Sound capacity d mine (put_on theirs f)) (sym same) (give_here capacity mine theirs f may) s
      | inr apart ↦ give_elsewhere capacity c mine theirs f apart s
    ]

-- an arrival at the server
pub taken-push : (c : Channel) (arrived : List Frame) (f : Frame) (t : ℕ) → t ≤ length (messages c arrived) → take t (messages c (arrived ++ f ∷ [])) ≡ take t (messages c arrived)
taken-push c arrived f t le = ap (take t) (messages-append c arrived (f ∷ [])) ∙ take-append-le t (messages c arrived) (messages c (f ∷ [])) le

comes : (capacity : ℕ) (c : Channel) (version : Version) (left : ℕ) (arrived in_flight : List Frame) (begun : ℕ) (taken : List ℕ) (asked : List (Option ℕ)) (theirs : Line) → Sound capacity c (record { version = version; greeting_left = left; arrived = arrived; in_flight = in_flight; begun = begun; taken = taken; asked = asked }) theirs → Sound capacity c (arrive_on (record { version = version; greeting_left = left; arrived = arrived; in_flight = in_flight; begun = begun; taken = taken; asked = asked })) theirs
comes capacity c version left arrived [] begun taken asked theirs s = s
comes capacity c version left arrived (f ∷ rest) begun taken asked theirs s =
    let same : (arrived ++ f ∷ []) ++ rest ≡ arrived ++ f ∷ rest = append_assoc arrived (f ∷ []) rest in
    record {
      solvent = subst (λ (fs : List Frame). cost c fs + absolved c fs ≤ issued c theirs.arrived) (sym same) s.solvent;
      roomy = omega (arith, s.roomy, absolved-append c arrived (f ∷ []), ap (sum_by length) (taken-push c arrived f (get_or taken (number_of c) 0) s.taken_of_arrived));
      total = s.total;
      taken_of_arrived = omega (arith, s.taken_of_arrived, ap length (messages-append c arrived (f ∷ [])), length-append (messages c arrived) (messages c (f ∷ [])));
      places = s.places;
    }

pub sound_comes : (capacity : ℕ) (c : Channel) (mine theirs : Line) → Sound capacity c mine theirs → Sound capacity c (arrive_on mine) theirs
sound_comes capacity c mine theirs s = comes capacity c mine.version mine.greeting_left mine.arrived mine.in_flight mine.begun mine.taken mine.asked theirs s

-- an arrival at the client
gets : (capacity : ℕ) (c : Channel) (mine : Line) (version : Version) (left : ℕ) (arrived in_flight : List Frame) (begun : ℕ) (taken : List ℕ) (asked : List (Option ℕ)) → Sound capacity c mine (record { version = version; greeting_left = left; arrived = arrived; in_flight = in_flight; begun = begun; taken = taken; asked = asked }) → Sound capacity c mine (arrive_on (record { version = version; greeting_left = left; arrived = arrived; in_flight = in_flight; begun = begun; taken = taken; asked = asked }))
gets capacity c mine version left arrived [] begun taken asked s = s
gets capacity c mine version left arrived (f ∷ rest) begun taken asked s =
    let same : issued c ((arrived ++ f ∷ []) ++ rest) ≡ issued c (arrived ++ f ∷ rest) = ap (issued c) (append_assoc arrived (f ∷ []) rest) in
    record {
      solvent = omega (arith, s.solvent, issued-append c arrived (f ∷ []));
      roomy = omega (arith, s.roomy, same);
      total = omega (arith, s.total, same);
      taken_of_arrived = s.taken_of_arrived;
      places = s.places;
    }

pub sound_gets : (capacity : ℕ) (c : Channel) (mine theirs : Line) → Sound capacity c mine theirs → Sound capacity c mine (arrive_on theirs)
sound_gets capacity c mine theirs s = gets capacity c mine theirs.version theirs.greeting_left theirs.arrived theirs.in_flight theirs.begun theirs.taken theirs.asked s

-- bytes that have begun to come change nothing, so what an arrival keeps a delivery keeps
pub sound_delivers : (capacity : ℕ) (c : Channel) (count : ℕ) (mine theirs : Line) → Sound capacity c mine theirs → Sound capacity c (deliver_on count mine) theirs
sound_delivers capacity c count mine theirs s =
    deliver_keeps (λ (l : Line). Sound capacity c l theirs) (record {
      begins = λ l m n h. record { solvent = h.solvent; roomy = h.roomy; total = h.total; taken_of_arrived = h.taken_of_arrived; places = h.places };
      arrives = λ l h. sound_comes capacity c l theirs h;
    }) count mine s

pub sound_delivers_theirs : (capacity : ℕ) (c : Channel) (count : ℕ) (mine theirs : Line) → Sound capacity c mine theirs → Sound capacity c mine (deliver_on count theirs)
sound_delivers_theirs capacity c count mine theirs s =
    deliver_keeps (λ (l : Line). Sound capacity c mine l) (record {
      begins = λ l m n h. record { solvent = h.solvent; roomy = h.roomy; total = h.total; taken_of_arrived = h.taken_of_arrived; places = h.places };
      arrives = λ l h. sound_gets capacity c mine l h;
    }) count theirs s

-- a message that waits is not taken yet
pub waits : (c : Channel) (l : Line) (body : List ℕ) (rest : List (List ℕ)) → waiting c l ≡ body ∷ rest → taken_count c l < length (messages c l.arrived)
waits c l body rest e = omega (arith, length-drop (taken_count c l) (messages c l.arrived), ap length e)

-- the counts after a take
pub count-here : (d : Channel) (l : Line) → number_of d < length l.taken → taken_count d (take_on d l) ≡ taken_count d l + 1
count-here d l places = get_or-set_same l.taken (number_of d) (taken_count d l + 1) 0 places

pub count-elsewhere : (c d : Channel) (l : Line) → is_same c d ≡ false → taken_count c (take_on d l) ≡ taken_count c l
count-elsewhere c d l apart = get_or-set_other l.taken (number_of d) (number_of c) (taken_count d l + 1) 0 (grind (arith, nat_tests, apart))

places_stay : (c d : Channel) (l : Line) → number_of c < length l.taken → number_of c < length (take_on d l).taken
places_stay c d l places = omega (arith, places, length-set l.taken (number_of d) (taken_count d l + 1))

-- a take
takes_here : (capacity : ℕ) (d : Channel) (mine theirs : Line) → taken_count d mine < length (messages d mine.arrived) → Sound capacity d mine theirs → Sound capacity d (take_on d mine) theirs
takes_here capacity d mine theirs more s =
    let e : taken_count d (take_on d mine) ≡ taken_count d mine + 1 = count-here d mine s.places in
    record {
      solvent = s.solvent;
      roomy = omega (arith, s.roomy, ap (λ (t : ℕ). sum_by length (take t (messages d mine.arrived))) e, sum_by_more length (messages d mine.arrived) (taken_count d mine) [] more);
      total = s.total;
      taken_of_arrived = omega (arith, e, more);
      places = places_stay d d mine s.places;
    }

takes_elsewhere : (capacity : ℕ) (c d : Channel) (mine theirs : Line) → is_same c d ≡ false → Sound capacity c mine theirs → Sound capacity c (take_on d mine) theirs
takes_elsewhere capacity c d mine theirs apart s =
    let e : taken_count c (take_on d mine) ≡ taken_count c mine = count-elsewhere c d mine apart in
    record {
      solvent = s.solvent;
      roomy = omega (arith, s.roomy, ap (λ (t : ℕ). sum_by length (take t (messages c mine.arrived))) e);
      total = s.total;
      taken_of_arrived = omega (arith, e, s.taken_of_arrived);
      places = places_stay c d mine s.places;
    }

pub sound_takes : (capacity : ℕ) (c d : Channel) (mine theirs : Line) → taken_count d mine < length (messages d mine.arrived) → Sound capacity c mine theirs → Sound capacity c (take_on d mine) theirs
sound_takes capacity c d mine theirs more s =
    elim (cases_same c d) [
      | inl same ↦ subst (λ (e : Channel). Sound capacity e mine theirs → Sound capacity e (take_on d mine) theirs) (sym same) (takes_here capacity d mine theirs more) s
      | inr apart ↦ takes_elsewhere capacity c d mine theirs apart s
    ]

-- what the other direction does with a line changes nothing here
pub sound_takes_theirs : (capacity : ℕ) (c d : Channel) (mine theirs : Line) → Sound capacity c mine theirs → Sound capacity c mine (take_on d theirs)
sound_takes_theirs capacity c d mine theirs s = record { solvent = s.solvent; roomy = s.roomy; total = s.total; taken_of_arrived = s.taken_of_arrived; places = s.places }

pub sound_forgets_theirs : (capacity : ℕ) (c d : Channel) (mine theirs : Line) → Sound capacity c mine theirs → Sound capacity c mine (forget_on d theirs)
sound_forgets_theirs capacity c d mine theirs s = record { solvent = s.solvent; roomy = s.roomy; total = s.total; taken_of_arrived = s.taken_of_arrived; places = s.places }

pub sound_forgets : (capacity : ℕ) (c d : Channel) (mine theirs : Line) → Sound capacity c mine theirs → Sound capacity c (forget_on d mine) theirs
sound_forgets capacity c d mine theirs s = record { solvent = s.solvent; roomy = s.roomy; total = s.total; taken_of_arrived = s.taken_of_arrived; places = s.places }

pub sound_settles : (capacity : ℕ) (c : Channel) (mine theirs a b : Line) → Sound capacity c mine theirs → Sound capacity c (forget_finished a mine) (forget_finished b theirs)
sound_settles capacity c mine theirs a b s = record { solvent = s.solvent; roomy = s.roomy; total = s.total; taken_of_arrived = s.taken_of_arrived; places = s.places }

-- nothing has happened
pub none_taken : (v : Version) (c : Channel) → taken_count c (new_line v) ≡ 0
none_taken v Reconciliation = refl
none_taken v Data = refl
none_taken v Overlap = refl
none_taken v Capability = refl
none_taken v AreaOfInterest = refl
none_taken v PayloadRequest = refl
none_taken v StaticToken = refl

pub sound_opening : (capacity : ℕ) (v w : Version) (c : Channel) → Sound capacity c (new_line v) (new_line w)
sound_opening capacity v w c = record { solvent = omega arith; roomy = omega arith; total = omega arith; taken_of_arrived = omega (arith, none_taken v c); places = number_below c }
