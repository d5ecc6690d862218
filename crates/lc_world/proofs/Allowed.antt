-- What an accepted event says of the frame that it puts.
use Rattle.std.proofs.Common.{◌≡◌, ℕ, ◌+◌, ◌≤◌, Bool, true, false, length, Option, Some, None, refl, inl, inr, arith}
use Rattle.std.specs.Prelude.{◌⊎◌, ◌-◌, ◌==◌, nat_lt, if◌then◌else◌}
use Rattle.std.specs.Option.{option_and_then}
use Rattle.lc_frame.specs.declared.frame.Frame.{Frame}
use Rattle.lc_frame.specs.declared.frame.Frame.TheVariants as frame
use Rattle.lc_frame.specs.Frame.{channel_of}
use Rattle.lc_frame.specs.declared.kind.Kind.TheVariants as kinds
use Rattle.lc_frame.specs.Kind.{has, max_body, max_total}
use Rattle.lc_book.specs.declared.fault.Refusal.{Refusal}
use Rattle.lc_book.specs.declared.fault.Refusal.TheVariants.{OutOfMemory, WrongVersion}
use Rattle.lc_book.specs.Limit.{is_past, limit_refusal}
use Rattle.lc_book.specs.Client.{Client, held, spend_refusal, absolve_refusal, amount_to_absolve, honour_refusal, limit_sending_refusal, finish_refusal}
use Rattle.lc_book.specs.Server.{Server, room, issue_refusal, limit_receiving_refusal}
use Rattle.lc_book.specs.Finish.{finished_refusal_or}
use Rattle.lc_world.specs.declared.event.Act.{Act}
use Rattle.lc_world.specs.declared.event.Act.TheVariants.{Send, Issue, Plead, Absolve, Honour, LimitSending, LimitReceiving, Finish}
use Rattle.lc_world.specs.declared.event.Answer.{Answer}
use Rattle.lc_world.specs.declared.event.Answer.TheVariants.{Accepted, Absolved, Refused}
use Rattle.lc_world.specs.State.{Line, stream, client_book, server_book}
use Rattle.lc_world.specs.Answers.{judged, honour_judged, frame_put, IsAnswerOf}
use Rattle.lc_world.specs.Sound.{FitsAfter}
use Rattle.lc_world.proofs.Limits.{not_above}

-- the frame may be put, by the books of its channel at the side that puts it
abbrev pub IsAllowed : Client → Server → Frame → Type 0
IsAllowed client server (frame.Send c body) = (length body ≤ held client) × (is_past client.send_left (length body) ≡ false) × (client.finished ≡ false)
IsAllowed client server (frame.Issue c amount) = (amount ≤ room server) × (server.issued + amount ≤ max_total) × (is_past server.receive_left amount ≡ false) × (server.finished ≡ false)
IsAllowed client server (frame.Absolve c amount) = (amount ≤ held client) × (client.finished ≡ false)
IsAllowed client server (frame.Plead c target) = Unit {0}
IsAllowed client server (frame.LimitSending c bound) = (is_past client.send_left bound ≡ false) × (client.finished ≡ false)
IsAllowed client server (frame.LimitReceiving c bound) = is_past server.receive_left bound ≡ false
IsAllowed client server (frame.Finish c) = client.finished ≡ false

-- the frame may be put on the first line
abbrev pub MayPut : ℕ → Line → Line → Frame → Type 0
MayPut capacity mine theirs f = IsAllowed (client_book (channel_of f) mine theirs) (server_book capacity (channel_of f) mine theirs) f

abbrev pub MayPutAny : ℕ → Line → Line → Option Frame → Type 0
MayPutAny capacity mine theirs None = Unit {0}
MayPutAny capacity mine theirs (Some f) = MayPut capacity mine theirs f

-- an answer that is not want of memory is the one of the definitions
pub told : (a x : Answer) (M : Type 0) → (a ≡ x) ⊎ (M × (a ≡ Refused OutOfMemory)) → (a ≡ Refused OutOfMemory → ⊥) → a ≡ x
told a x M h apart = elim h [ inl e ↦ e | inr p ↦ absurd (apart p.1) ]

judged_accepted : (refused : Option Refusal) → Accepted ≡ judged refused → refused ≡ None
judged_accepted None e = refl
judged_accepted (Some r) e = cc

honoured_absolved : (refused : Option Refusal) (amount : Option ℕ) (n : ℕ) → Absolved n ≡ honour_judged refused amount → (refused ≡ None) × (amount ≡ Some n)
honoured_absolved (Some r) amount n e = cc
honoured_absolved None None n e = cc
honoured_absolved None (Some m) n e = (refl, cc)

-- where there is no refusal, the first reason for one does not hold, and no later one either
first_passed : (b : Bool) (r : Refusal) (rest : Option Refusal) → (if b then Some r else rest) ≡ None → (b ≡ false) × (rest ≡ None)
first_passed true r rest e = cc
first_passed false r rest e = (refl, e)

spend_allowed : (b : Client) (n : ℕ) → spend_refusal b n ≡ None → (n ≤ held b) × (is_past b.send_left n ≡ false) × (b.finished ≡ false)
spend_allowed b n e =
    let none = first_passed b.finished _ _ e in
    let one = first_passed (n == 0) _ _ none.1 in
    let two = first_passed (nat_lt (max_body b.version) n) _ _ one.1 in
    let three = first_passed (is_past b.send_left n) _ _ two.1 in
    let four = first_passed (nat_lt (held b) n) _ _ three.1 in
    (not_above (held b) n four.0, three.0, none.0)

absolve_allowed : (b : Client) (n : ℕ) → absolve_refusal b n ≡ None → (n ≤ held b) × (b.finished ≡ false)
absolve_allowed b n e =
    let none = first_passed b.finished _ _ e in
    let one = first_passed (n == 0) _ _ none.1 in
    let two = first_passed (nat_lt (held b) n) _ _ one.1 in
    (not_above (held b) n two.0, none.0)

issue_allowed : (b : Server) (n : ℕ) → issue_refusal b n ≡ None → (n ≤ room b) × (b.issued + n ≤ max_total) × (is_past b.receive_left n ≡ false) × (b.finished ≡ false)
issue_allowed b n e =
    let none = first_passed b.finished _ _ e in
    let one = first_passed (n == 0) _ _ none.1 in
    let two = first_passed (is_past b.receive_left n) _ _ one.1 in
    let three = first_passed (nat_lt (room b) n) _ _ two.1 in
    let four = first_passed (nat_lt max_total (b.issued + n)) _ _ three.1 in
    (not_above (room b) n three.0, not_above max_total (b.issued + n) four.0, two.0, none.0)

limit_allowed : (left : Option ℕ) (bound : ℕ) → limit_refusal left bound ≡ None → is_past left bound ≡ false
limit_allowed left bound e =
    let one = first_passed (nat_lt max_total bound) _ _ e in
    let two = first_passed (is_past left bound) _ _ one.1 in
    two.0

limit_sending_allowed : (b : Client) (bound : ℕ) → limit_sending_refusal b bound ≡ None → (is_past b.send_left bound ≡ false) × (b.finished ≡ false)
limit_sending_allowed b bound e =
    let none = first_passed b.finished _ _ e in
    (limit_allowed b.send_left bound none.1, none.0)

limit_receiving_allowed : (b : Server) (bound : ℕ) → limit_receiving_refusal b bound ≡ None → is_past b.receive_left bound ≡ false
limit_receiving_allowed b bound e = limit_allowed b.receive_left bound (first_passed b.finished _ _ e).1

can_finish : (known finished : Bool) → (if known then finished_refusal_or finished None else Some WrongVersion) ≡ None → finished ≡ false
can_finish true finished e = (first_passed finished _ _ e).0
can_finish false finished e = cc

finish_allowed : (b : Client) → finish_refusal b ≡ None → b.finished ≡ false
finish_allowed b e = can_finish (has b.version kinds.Finish) b.finished e

-- an honour absolves no more than is held
at_most_all : (b : Bool) (m n all : ℕ) → m ≤ all → (if b then Some m else None) ≡ Some n → n ≤ all
at_most_all true m n all le e = let same : m ≡ n = cc in omega arith
at_most_all false m n all le e = cc

honour_at_most : (asked : Option ℕ) (all n : ℕ) → option_and_then (λ (target : ℕ). if nat_lt target all then Some (all - target) else None) asked ≡ Some n → n ≤ all
honour_at_most None all n e = cc
honour_at_most (Some target) all n e = at_most_all (nat_lt target all) (all - target) n all (omega arith) e

honour_allowed : (b : Client) (n : ℕ) → (honour_refusal b ≡ None) × (amount_to_absolve b ≡ Some n) → (n ≤ held b) × (b.finished ≡ false)
honour_allowed b n e = (honour_at_most b.asked (held b) n e.1, (first_passed b.finished _ _ e.0).0)

-- the frame of an answered event may be put
pub put_is_allowed : (capacity : ℕ) (mine theirs : Line) (act : Act) (a : Answer) → IsAnswerOf capacity mine theirs act a → MayPutAny capacity mine theirs (frame_put act a)
put_is_allowed capacity mine theirs act (Refused r) h = tt
put_is_allowed capacity mine theirs (Send c body) Accepted h = spend_allowed (client_book c mine theirs) (length body) (judged_accepted _ (told _ _ _ h (λ e. cc)))
put_is_allowed capacity mine theirs (Issue c amount) Accepted h = issue_allowed (server_book capacity c mine theirs) amount (judged_accepted _ (told _ _ _ h (λ e. cc)))
put_is_allowed capacity mine theirs (Plead c target) Accepted h = tt
put_is_allowed capacity mine theirs (Absolve c amount) Accepted h = absolve_allowed (client_book c mine theirs) amount (judged_accepted _ (told _ _ _ h (λ e. cc)))
put_is_allowed capacity mine theirs (Honour c) (Absolved amount) h = honour_allowed (client_book c mine theirs) amount (honoured_absolved _ _ amount (told _ _ _ h (λ e. cc)))
put_is_allowed capacity mine theirs (LimitSending c bound) Accepted h = limit_sending_allowed (client_book c mine theirs) bound (judged_accepted _ (told _ _ _ h (λ e. cc)))
put_is_allowed capacity mine theirs (LimitReceiving c bound) Accepted h = limit_receiving_allowed (server_book capacity c mine theirs) bound (judged_accepted _ (told _ _ _ h (λ e. cc)))
put_is_allowed capacity mine theirs (Finish c) Accepted h = finish_allowed (client_book c mine theirs) (judged_accepted _ (told _ _ _ h (λ e. cc)))
put_is_allowed capacity mine theirs act a h = tt

-- and fits what is left of the limits
pub allowed_fits : (capacity : ℕ) (mine theirs : Line) (f : Frame) → MayPut capacity mine theirs f → FitsAfter (stream mine) f
allowed_fits capacity mine theirs (frame.Send c body) h = (h.1, h.2)
allowed_fits capacity mine theirs (frame.Issue c amount) h = h.2
allowed_fits capacity mine theirs (frame.Absolve c amount) h = h.1
allowed_fits capacity mine theirs (frame.Plead c target) h = tt
allowed_fits capacity mine theirs (frame.LimitSending c bound) h = h
allowed_fits capacity mine theirs (frame.LimitReceiving c bound) h = h
allowed_fits capacity mine theirs (frame.Finish c) h = h
