-- The frames that calls put.
use Rattle.std.proofs.Common.{ℕ, Bool, true, false, if◌then◌else◌, List, [], ◌∷◌, length, refl}
use Rattle.lc_frame.specs.declared.channel.Channel.{Channel}
use Rattle.lc_frame.specs.declared.frame.Frame.{Frame}
use Rattle.lc_frame.specs.declared.frame.Frame.TheVariants.{Send}
use Rattle.lc_lines.specs.declared.queue.Bound.{Bound}
use Rattle.lc_lines.specs.declared.queue.Call.{Call}
use Rattle.lc_lines.specs.declared.queue.Ask.TheVariants.{Message, Permit, End}
use Rattle.lc_lines.specs.Permits.{is_permit}
use Rattle.lc_lines.specs.Bounds.{frame_of_bound}
use Rattle.lc_lines.specs.Scheduler.{SchedulerState, first, aside, goes_at_once, bounds_at_once, can_proceed, is_offer_of, with_notified, start, send, join, proceed, grant, complete, reserve, try_reserve, try_send, send_reserved, release, give_back, cancel, put_frame, start_bound}
use Rattle.lc_mux.specs.Writing.Entry.{puts}
use Rattle.lc_mux.specs.Writing.{Entry}
use Rattle.lc_mux.proofs.Puts.{Puts}

-- frames entered, if any
abbrev pub PutsSome : SchedulerState → SchedulerState → Type 0
PutsSome s s' = (entered : List Entry) × Puts entered s s'

put_if : (b : Bool) (s x y : SchedulerState) → PutsSome s x → PutsSome s y → PutsSome s (if b then x else y)
put_if true s x y h k = h
put_if false s x y h k = k

none_put : (s : SchedulerState) → PutsSome s s
none_put s = ([], record { peer = refl; begun = refl })

send_put : (s : SchedulerState) (c : Channel) (body : List ℕ) → PutsSome s (send s c body)
send_put s c body = (puts (Send c body) ∷ [], record { peer = refl; begun = refl })

grant_put : (s : SchedulerState) (c : Channel) (len : ℕ) → PutsSome s (grant s c len)
grant_put s c len = ([], record { peer = refl; begun = refl })

pub join_put : (s : SchedulerState) (c : Channel) (call : Call) → PutsSome s (join s c call)
join_put s c call = ([], record { peer = refl; begun = refl })

pub put_frame_put : (s : SchedulerState) (f : Frame) → PutsSome s (put_frame s f)
put_frame_put s f = (puts f ∷ [], record { peer = refl; begun = refl })

pub start_put : (s : SchedulerState) (c : Channel) (ticket : ℕ) (body : List ℕ) → PutsSome s (start s c ticket body)
start_put s c ticket body =
    let call : Call = record { ticket = ticket; ask = Message body } in
    put_if (goes_at_once s c (length body)) s (send s c body) (join s c call) (send_put s c body) (join_put s c call)

pub try_send_put : (s : SchedulerState) (c : Channel) (body : List ℕ) → PutsSome s (try_send s c body)
try_send_put s c body = put_if (goes_at_once s c (length body)) s (send s c body) s (send_put s c body) (none_put s)

pub complete_put : (s : SchedulerState) (c : Channel) (ticket : ℕ) (body : List ℕ) → PutsSome s (complete s c ticket body)
complete_put s c ticket body =
    let waits = with_notified s c false in
    let sends : PutsSome s (proceed s c body) = (puts (Send c body) ∷ [], record { peer = refl; begun = refl }) in
    put_if (is_offer_of ticket (first s c)) s (if can_proceed s c (length body) then proceed s c body else waits) s
    (put_if (can_proceed s c (length body)) s (proceed s c body) waits sends ([], record { peer = refl; begun = refl })) (none_put s)

pub reserve_put : (s : SchedulerState) (c : Channel) (ticket len : ℕ) → PutsSome s (reserve s c ticket len)
reserve_put s c ticket len =
    let call : Call = record { ticket = ticket; ask = Permit len } in
    put_if (goes_at_once s c len) s (grant s c len) (join s c call) (grant_put s c len) (join_put s c call)

pub try_reserve_put : (s : SchedulerState) (c : Channel) (len : ℕ) → PutsSome s (try_reserve s c len)
try_reserve_put s c len = put_if (goes_at_once s c len) s (grant s c len) s (grant_put s c len) (none_put s)

pub send_reserved_put : (s : SchedulerState) (c : Channel) (len : ℕ) (body : List ℕ) → PutsSome s (send_reserved s c len body)
send_reserved_put s c len body = (puts (Send c body) ∷ [], record { peer = refl; begun = refl })

pub give_back_put : (s : SchedulerState) (c : Channel) (len : ℕ) → PutsSome s (give_back s c len)
give_back_put s c len = put_if (is_permit (aside s c) len) s (release s c len) s ([], record { peer = refl; begun = refl }) (none_put s)

pub cancel_put : (s : SchedulerState) (c : Channel) (ticket : ℕ) → PutsSome s (cancel s c ticket)
cancel_put s c ticket = ([], record { peer = refl; begun = refl })

pub start_bound_put : (s : SchedulerState) (c : Channel) (ticket : ℕ) (bound : Bound) → PutsSome s (start_bound s c ticket bound)
start_bound_put s c ticket bound =
    let call : Call = record { ticket = ticket; ask = End bound } in
    put_if (bounds_at_once s c bound) s (put_frame s (frame_of_bound c bound)) (join s c call) (put_frame_put s (frame_of_bound c bound)) (join_put s c call)
