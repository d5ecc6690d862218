-- The book that an inbox's history leaves fits its ring.
use Rattle.std.proofs.Common.{◌≡◌, ℕ, ◌+◌, ◌≤◌, Bool, true, false, List, [], ◌∷◌, ◌++◌, length, Option, Some, None, refl, sym, ap, subst, ◌∙◌, arith}
use Rattle.std.specs.Prelude.{◌==◌, ◌-◌, nat_lt, if◌then◌else◌, sum, sum_by}
use Rattle.std.specs.List.{filter_map, cons_option}
use Rattle.std.proofs.lemmas.Bool.Decides.{nat_tests}
use Rattle.std.proofs.lemmas.List.{append-nil, append_assoc}
use Rattle.std.proofs.lemmas.List.Elements.{filter_map-append}
use Rattle.std.proofs.lemmas.List.Sums.{sum_by-append}
use Rattle.lc_history.specs.History.{IsHistoryAfter, IsHistory}
use Rattle.lc_frame.specs.declared.channel.Channel.{Channel}
use Rattle.lc_frame.specs.declared.frame.Frame.{Frame}
use Rattle.lc_frame.specs.declared.frame.Frame.TheVariants.{Send, Issue, Absolve, Plead, LimitSending, LimitReceiving, Finish}
use Rattle.lc_frame.specs.Channel.{channel_count, number_of}
use Rattle.lc_frame.specs.Frame.{channel_of, lane_of}
use Rattle.lc_frame.specs.Stream.{message_of, issue_of, absolve_of, messages, cost, issued, absolved, finished}
use Rattle.lc_frame.proofs.Channels.{same_from_number, number_below}
use Rattle.lc_frame.proofs.Measures.{cost-append, absolved-append, issued-append, cost-one, absolved-one, issued-one}
use Rattle.lc_book.specs.declared.fault.Refusal.TheVariants.{ZeroAmount, PastReceiveLimit, NoRoom, ChannelFinished}
use Rattle.lc_book.specs.declared.fault.Violation.TheVariants.{NotGuaranteed, AbsolvedTooMuch, AfterFinish}
use Rattle.lc_book.specs.Limit.{is_past, left_of}
use Rattle.lc_book.specs.Server.{Server, outstanding, room, issue_refusal}
use Rattle.lc_inbox.specs.declared.history.Entry.{Entry}
use Rattle.lc_inbox.specs.declared.history.Entry.TheVariants.{Heard, Refused, Put, Took}
use Rattle.lc_inbox.specs.declared.rule.Key.{Key}
use Rattle.lc_book.specs.Sums.{server_of}
use Rattle.lc_inbox.specs.Ends.{violation_of, refusal_of}
use Rattle.lc_inbox.specs.History.{heard_of, put_of, took_of, heard, put, took, book_after, waiting, MayFollow, IsInOrder}
use Rattle.lc_world.specs.Guarantee.{FitsBuffer}
use Rattle.lc_world.proofs.Sound.{none_waived}
use Rattle.lc_world.proofs.Balances.{waives_no_more}

-- where a reason does not hold, the next may; and what the last of them leaves
pub later_reason : {E : Type 0} (b : Bool) (r : E) (x : Option E) → (if b then Some r else x) ≡ None → x ≡ None
later_reason true r x e = absurd (cc)
later_reason false r x e = e

first_reason : {E : Type 0} (b : Bool) (r : E) (x : Option E) → (if b then Some r else x) ≡ None → b ≡ false
first_reason true r x e = absurd (cc)
first_reason false r x e = refl

fits_in : {E : Type 0} (room n : ℕ) (r : E) (x : Option E) → (if nat_lt room n then Some r else x) ≡ None → n ≤ room
fits_in room n r x e = grind (arith, nat_tests, e)

has_room : (b : Server) (n : ℕ) → issue_refusal b n ≡ None → n ≤ room b
has_room b n e = fits_in (room b) n (NoRoom (room b)) _ (later_reason (is_past b.receive_left n) (PastReceiveLimit (left_of b.receive_left)) _ (later_reason (n == 0) ZeroAmount _ (later_reason b.finished ChannelFinished _ e)))

-- one frame more, on its own channel
cost_more : (c : Channel) (f : Frame) (frames : List Frame) → channel_of f ≡ c → cost c (frames ++ f ∷ []) ≡ cost c frames + sum_by length (cons_option (message_of f) [])
cost_more c f frames same = let here : cost c (f ∷ []) ≡ sum_by length (cons_option (message_of f) []) = subst (λ (x : Channel). cost x (f ∷ []) ≡ sum_by length (cons_option (message_of f) [])) same (cost-one f) in omega (arith, cost-append c frames (f ∷ []), here)

absolved_more : (c : Channel) (f : Frame) (frames : List Frame) → channel_of f ≡ c → absolved c (frames ++ f ∷ []) ≡ absolved c frames + sum (cons_option (absolve_of f) [])
absolved_more c f frames same = let here : absolved c (f ∷ []) ≡ sum (cons_option (absolve_of f) []) = subst (λ (x : Channel). absolved x (f ∷ []) ≡ sum (cons_option (absolve_of f) [])) same (absolved-one f) in omega (arith, absolved-append c frames (f ∷ []), here)

issued_more : (c : Channel) (f : Frame) (frames : List Frame) → channel_of f ≡ c → issued c (frames ++ f ∷ []) ≡ issued c frames + sum (cons_option (issue_of f) [])
issued_more c f frames same = let here : issued c (f ∷ []) ≡ sum (cons_option (issue_of f) []) = subst (λ (x : Channel). issued x (f ∷ []) ≡ sum (cons_option (issue_of f) [])) same (issued-one f) in omega (arith, issued-append c frames (f ∷ []), here)

-- nothing that arrived is beyond what was issued, and nothing was issued beyond the ring
record Fits (capacity : ℕ) (c : Channel) (ps hs : List Frame) (taken : ℕ) : Type 0 where
  covered : cost c hs + absolved c hs ≤ issued c ps
  roomy : issued c ps ≤ capacity + taken + absolved c hs

client_lane : {X : Type 0} (c d : Channel) → channel_count + number_of d ≡ number_of c → X
client_lane c d e = absurd (omega (arith, e, number_below c))

server_lane : {X : Type 0} (c d : Channel) → number_of d ≡ channel_count + number_of c → X
server_lane c d e = absurd (omega (arith, e, number_below d))

same_server : (c d : Channel) → channel_count + number_of d ≡ channel_count + number_of c → d ≡ c
same_server c d e = same_from_number d c (omega (arith, e))

module _ (capacity : ℕ) (c : Channel) (ps hs : List Frame) (taken : ℕ) (h : Fits capacity c ps hs taken) where
  heard_fits : (f : Frame) → lane_of f ≡ number_of c → violation_of f (server_of capacity c ps hs taken) ≡ None → Fits capacity c ps (hs ++ f ∷ []) taken
  heard_fits (Send d body) lane none =
      let f : Frame = Send d body in
      let same : d ≡ c = same_from_number d c lane in
      let le : length body ≤ outstanding (server_of capacity c ps hs taken) = fits_in (outstanding (server_of capacity c ps hs taken)) (length body) NotGuaranteed _ (later_reason (finished c hs) AfterFinish _ none) in
      record { covered = omega (arith, le, h.covered, cost_more c f hs same, absolved_more c f hs same); roomy = omega (arith, h.roomy, absolved_more c f hs same) }
  heard_fits (Absolve d n) lane none =
      let f : Frame = Absolve d n in
      let same : d ≡ c = same_from_number d c lane in
      let le : n ≤ outstanding (server_of capacity c ps hs taken) = fits_in (outstanding (server_of capacity c ps hs taken)) n AbsolvedTooMuch _ (later_reason (finished c hs) AfterFinish _ none) in
      record { covered = omega (arith, le, h.covered, cost_more c f hs same, absolved_more c f hs same); roomy = omega (arith, h.roomy, absolved_more c f hs same) }
  heard_fits (LimitSending d n) lane none =
      let f : Frame = LimitSending d n in
      let same : d ≡ c = same_from_number d c lane in
      record { covered = omega (arith, h.covered, cost_more c f hs same, absolved_more c f hs same); roomy = omega (arith, h.roomy, absolved_more c f hs same) }
  heard_fits (Finish d) lane none =
      let f : Frame = Finish d in
      let same : d ≡ c = same_from_number d c lane in
      record { covered = omega (arith, h.covered, cost_more c f hs same, absolved_more c f hs same); roomy = omega (arith, h.roomy, absolved_more c f hs same) }
  heard_fits (Issue d n) lane none = client_lane c d lane
  heard_fits (Plead d n) lane none = client_lane c d lane
  heard_fits (LimitReceiving d n) lane none = client_lane c d lane

  put_fits : (f : Frame) → lane_of f ≡ channel_count + number_of c → refusal_of f (server_of capacity c ps hs taken) ≡ None → Fits capacity c (ps ++ f ∷ []) hs taken
  put_fits (Issue d n) lane none =
      let f : Frame = Issue d n in
      let same : d ≡ c = same_server c d lane in
      let unfinished : finished c hs ≡ false = first_reason (finished c hs) ChannelFinished _ none in
      let some : (n == 0) ≡ false = first_reason (n == 0) ZeroAmount _ (later_reason (finished c hs) ChannelFinished _ none) in
      let le : n ≤ room (server_of capacity c ps hs taken) = has_room (server_of capacity c ps hs taken) n none in
      record { covered = omega (arith, h.covered, issued_more c f ps same); roomy = issues_fit n unfinished le (positive n some) (issued_more c f ps same) }
    where
      positive : (n : ℕ) → (n == 0) ≡ false → 1 ≤ n
      positive n e = grind (arith, nat_tests, e)

      issues_fit : (n : ℕ) → finished c hs ≡ false → n ≤ room (server_of capacity c ps hs taken) → 1 ≤ n → {m : ℕ} → m ≡ issued c ps + (0 + n) → m ≤ capacity + taken + absolved c hs
      issues_fit n unfinished le some e = omega (arith, le, some, e, h.covered, none_waived (finished c hs) (issued c ps - cost c hs - absolved c hs) unfinished)
  put_fits (Plead d n) lane none =
      let f : Frame = Plead d n in
      let same : d ≡ c = same_server c d lane in
      record { covered = omega (arith, h.covered, issued_more c f ps same); roomy = omega (arith, h.roomy, issued_more c f ps same) }
  put_fits (LimitReceiving d n) lane none =
      let f : Frame = LimitReceiving d n in
      let same : d ≡ c = same_server c d lane in
      record { covered = omega (arith, h.covered, issued_more c f ps same); roomy = omega (arith, h.roomy, issued_more c f ps same) }
  put_fits (Send d body) lane none = server_lane c d lane
  put_fits (Absolve d n) lane none = server_lane c d lane
  put_fits (LimitSending d n) lane none = server_lane c d lane
  put_fits (Finish d) lane none = server_lane c d lane

  took_fits : (n : ℕ) → Fits capacity c ps hs (taken + n)
  took_fits n = record { covered = h.covered; roomy = omega (arith, h.roomy) }

-- one entry more, by what it is of a kind
more : {X : Type 0} (of : Entry → Option X) (before : List Entry) (e : Entry) → filter_map of (before ++ e ∷ []) ≡ filter_map of before ++ cons_option (of e) []
more of before e = filter_map-append of before (e ∷ [])

no_more : {X : Type 0} (of : Entry → Option X) (before : List Entry) (e : Entry) → of e ≡ None → filter_map of (before ++ e ∷ []) ≡ filter_map of before
no_more of before e none = more of before e ∙ (ap (λ o. filter_map of before ++ cons_option o []) none ∙ append-nil (filter_map of before))

abbrev FitsAfter : Key → List Entry → Type 0
FitsAfter key before = Fits key.capacity key.channel (put before) (heard before) (sum_by length (took before))

again : (key : Key) (before now : List Entry) (ps hs : List Frame) (taken : ℕ) → put now ≡ ps → heard now ≡ hs → sum_by length (took now) ≡ taken → Fits key.capacity key.channel ps hs taken → FitsAfter key now
again key before now ps hs taken ep eh et h =
    subst (λ (x : List Frame). Fits key.capacity key.channel x (heard now) (sum_by length (took now))) (sym ep)
    (subst (λ (x : List Frame). Fits key.capacity key.channel ps x (sum_by length (took now))) (sym eh)
    (subst (λ (x : ℕ). Fits key.capacity key.channel ps hs x) (sym et) h))

entry_fits : (key : Key) (before : List Entry) (e : Entry) → MayFollow key before e → FitsAfter key before → FitsAfter key (before ++ e ∷ [])
entry_fits key before (Heard f) may h =
    let e : Entry = Heard f in
    again key before (before ++ e ∷ []) (put before) (heard before ++ f ∷ []) (sum_by length (took before)) (no_more put_of before e refl) (more heard_of before e) (ap (sum_by length) (no_more took_of before e refl))
    (heard_fits key.capacity key.channel (put before) (heard before) (sum_by length (took before)) h f may.0 may.1)
entry_fits key before (Refused f) may h =
    let e : Entry = Refused f in
    again key before (before ++ e ∷ []) (put before) (heard before) (sum_by length (took before)) (no_more put_of before e refl) (no_more heard_of before e refl) (ap (sum_by length) (no_more took_of before e refl)) h
entry_fits key before (Put f) may h =
    let e : Entry = Put f in
    again key before (before ++ e ∷ []) (put before ++ f ∷ []) (heard before) (sum_by length (took before)) (more put_of before e) (no_more heard_of before e refl) (ap (sum_by length) (no_more took_of before e refl))
    (put_fits key.capacity key.channel (put before) (heard before) (sum_by length (took before)) h f may.0 may.1)
entry_fits key before (Took body) may h =
    let e : Entry = Took body in
    again key before (before ++ e ∷ []) (put before) (heard before) (sum_by length (took before) + length body) (no_more put_of before e refl) (no_more heard_of before e refl)
    (let sums : sum_by length (took (before ++ e ∷ [])) ≡ sum_by length (took before) + (0 + length body) = ap (sum_by length) (more took_of before e) ∙ sum_by-append length (took before) (body ∷ []) in omega (arith, sums))
    (took_fits key.capacity key.channel (put before) (heard before) (sum_by length (took before)) h (length body))

all_fit : (key : Key) (before later : List Entry) → IsHistoryAfter (MayFollow key) before later → FitsAfter key before → FitsAfter key (before ++ later)
all_fit key before [] h s = subst (FitsAfter key) (sym (append-nil before)) s
all_fit key before (e ∷ later) h s = subst (FitsAfter key) (append_assoc before (e ∷ []) later) (all_fit key (before ++ e ∷ []) later h.1 (entry_fits key before e h.0 s))

pub book_fits : (key : Key) (history : List Entry) → IsHistory (MayFollow key) history → IsInOrder key history → FitsBuffer key.capacity (book_after key history)
book_fits key history legal ordered =
    let s : FitsAfter key history = all_fit key [] history legal (record { covered = omega arith; roomy = omega arith }) in
    let arrived_is : sum_by length (messages key.channel (heard history)) ≡ sum_by length (took history) + sum_by length (waiting key history) = ap (sum_by length) ordered ∙ sum_by-append length (took history) (waiting key history) in
    record {
      not_overdrawn = waives_no_more (finished key.channel (heard history)) (issued key.channel (put history)) (cost key.channel (heard history)) (absolved key.channel (heard history)) s.covered;
      taken_of_arrived = omega (arith, arrived_is);
      fits = omega (arith, s.covered, s.roomy, arrived_is);
    }
