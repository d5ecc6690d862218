-- The counts of what is under way, as frames enter and leave the outbound queue, and permits come and go.
use Rattle.std.proofs.Common.{◌≡◌, ◌≢◌, ℕ, zero, suc, ◌+◌, ◌-◌, ◌<◌, ◌≤◌, Bool, true, false, List, [], ◌∷◌, ◌++◌, length, map, get_or, set, Option, Some, None, refl, sym, ap, ◌∙◌, subst, add-one, length-append, arith}
use Rattle.std.specs.Prelude.{slice_get, drop, sum_by}
use Rattle.std.proofs.lemmas.Bool.Decides.{nat_tests}
use Rattle.std.proofs.lemmas.List.{append-nil, get_or-set_same, get_or-set_other}
use Rattle.std.proofs.lemmas.List.Sums.{sum_by-set}
use Rattle.lc_frame.specs.declared.channel.Channel.{Channel}
use Rattle.lc_frame.specs.declared.channel.Channel.TheVariants.{Reconciliation, Data, Overlap, Capability, AreaOfInterest, PayloadRequest, StaticToken}
use Rattle.lc_frame.specs.declared.frame.Frame.{Frame}
use Rattle.lc_frame.specs.declared.frame.Frame.TheVariants.{Send, Issue, Absolve, Plead, LimitSending, LimitReceiving, Finish}
use Rattle.lc_frame.specs.Channel.{channel_count, number_of, is_same}
use Rattle.std.specs.List.{filter_map, cons_option}
use Rattle.lc_frame.specs.Frame.{channel_of}
use Rattle.lc_frame.specs.Stream.{messages, on, message_of}
use Rattle.lc_frame.proofs.Channels.{number_below}
use Rattle.lc_frame.proofs.Measures.{messages-append, messages-one, messages-other, on-elsewhere}
use Rattle.lc_lines.specs.declared.permits.Aside.{Aside}
use Rattle.lc_lines.specs.Permits.{no_permits, aside_on, permits_on, permits_out, with_permit, without_permit}
use Rattle.lc_lines.specs.Outbound.{every_channel, queued, under_way, none, unused, kept, message_len, message_one, message_count, Counts, counts_of, with_message, without_message, without_frame, with_grant, without_grant, without_permits, with_use, IsCounted}
use Rattle.lc_lines.proofs.Bytes.{bytes_push, one_small}

pub none_more : (n : ℕ) → none (n + 1) ≡ 0
none_more n = ap none (add-one n)

none_one : (n : ℕ) → 1 ≤ n → none n ≡ 0
none_one zero le = absurd (omega arith)
none_one (suc n) le = refl

pub none_small : (n : ℕ) → none n ≤ 1
none_small zero = omega arith
none_small (suc n) = omega arith

-- how many messages and permits of each channel are under way
abbrev each : List Frame → List Aside → List ℕ
each frames h = map (λ c. under_way frames h c) every_channel

-- one message more on its channel, and on any other
here : (w : List Frame) (c : Channel) (body : List ℕ) → queued c (w ++ Send c body ∷ []) ≡ queued c w + 1
here w c body = ap length (messages-append c w (Send c body ∷ [])) ∙ (length-append (messages c w) (messages c (Send c body ∷ [])) ∙ ap (λ n. queued c w + n) (ap length (messages-one (Send c body))))

there : (w : List Frame) (c d : Channel) (body : List ℕ) → is_same d c ≡ false → queued d (w ++ Send c body ∷ []) ≡ queued d w
there w c d body e = ap length (messages-other d w (Send c body) e)

more_here : (w : List Frame) (h : List Aside) (c : Channel) (body : List ℕ) → under_way (w ++ Send c body ∷ []) h c ≡ under_way w h c + 1
more_here w h c body = let e = here w c body in omega arith

more_there : (w : List Frame) (h : List Aside) (c d : Channel) (body : List ℕ) → is_same d c ≡ false → under_way (w ++ Send c body ∷ []) h d ≡ under_way w h d
more_there w h c d body e = ap (λ n. n + permits_on h d) (there w c d body e)

pub of_channel : (w : List Frame) (h : List Aside) (c : Channel) → get_or (each w h) (number_of c) 0 ≡ under_way w h c
of_channel w h Reconciliation = refl
of_channel w h Data = refl
of_channel w h Overlap = refl
of_channel w h Capability = refl
of_channel w h AreaOfInterest = refl
of_channel w h PayloadRequest = refl
of_channel w h StaticToken = refl

each_push : (w : List Frame) (h : List Aside) (c : Channel) (body : List ℕ) → each (w ++ Send c body ∷ []) h ≡ set (each w h) (number_of c) (under_way w h c + 1)
each_push w h Reconciliation body = cc (more_here w h Reconciliation body, more_there w h Reconciliation Data body refl, more_there w h Reconciliation Overlap body refl, more_there w h Reconciliation Capability body refl, more_there w h Reconciliation AreaOfInterest body refl, more_there w h Reconciliation PayloadRequest body refl, more_there w h Reconciliation StaticToken body refl)
each_push w h Data body = cc (more_there w h Data Reconciliation body refl, more_here w h Data body, more_there w h Data Overlap body refl, more_there w h Data Capability body refl, more_there w h Data AreaOfInterest body refl, more_there w h Data PayloadRequest body refl, more_there w h Data StaticToken body refl)
each_push w h Overlap body = cc (more_there w h Overlap Reconciliation body refl, more_there w h Overlap Data body refl, more_here w h Overlap body, more_there w h Overlap Capability body refl, more_there w h Overlap AreaOfInterest body refl, more_there w h Overlap PayloadRequest body refl, more_there w h Overlap StaticToken body refl)
each_push w h Capability body = cc (more_there w h Capability Reconciliation body refl, more_there w h Capability Data body refl, more_there w h Capability Overlap body refl, more_here w h Capability body, more_there w h Capability AreaOfInterest body refl, more_there w h Capability PayloadRequest body refl, more_there w h Capability StaticToken body refl)
each_push w h AreaOfInterest body = cc (more_there w h AreaOfInterest Reconciliation body refl, more_there w h AreaOfInterest Data body refl, more_there w h AreaOfInterest Overlap body refl, more_there w h AreaOfInterest Capability body refl, more_here w h AreaOfInterest body, more_there w h AreaOfInterest PayloadRequest body refl, more_there w h AreaOfInterest StaticToken body refl)
each_push w h PayloadRequest body = cc (more_there w h PayloadRequest Reconciliation body refl, more_there w h PayloadRequest Data body refl, more_there w h PayloadRequest Overlap body refl, more_there w h PayloadRequest Capability body refl, more_there w h PayloadRequest AreaOfInterest body refl, more_here w h PayloadRequest body, more_there w h PayloadRequest StaticToken body refl)
each_push w h StaticToken body = cc (more_there w h StaticToken Reconciliation body refl, more_there w h StaticToken Data body refl, more_there w h StaticToken Overlap body refl, more_there w h StaticToken Capability body refl, more_there w h StaticToken AreaOfInterest body refl, more_there w h StaticToken PayloadRequest body refl, more_here w h StaticToken body)

-- a message in front, on its channel and on any other, and a frame in front that is no message
cons_here : (w : List Frame) (c : Channel) (body : List ℕ) → queued c (Send c body ∷ w) ≡ queued c w + 1
cons_here w c body =
    let both : queued c (Send c body ∷ w) ≡ queued c (Send c body ∷ []) + queued c w = ap length (messages-append c (Send c body ∷ []) w) ∙ length-append (messages c (Send c body ∷ [])) (messages c w) in
    let one : queued c (Send c body ∷ []) ≡ 1 = ap length (messages-one (Send c body)) in
    omega arith

cons_there : (w : List Frame) (c d : Channel) (body : List ℕ) → is_same d c ≡ false → queued d (Send c body ∷ w) ≡ queued d w
cons_there w c d body e = ap length (messages-append d (Send c body ∷ []) w ∙ ap (λ (ms : List (List ℕ)). ms ++ messages d w) (ap (filter_map message_of) (on-elsewhere d (Send c body) e)))

silent : (c : Channel) (f : Frame) (b : Bool) → message_of f ≡ None → is_same c (channel_of f) ≡ b → messages c (f ∷ []) ≡ []
silent c f true none e = let whole : on c (f ∷ []) ≡ f ∷ [] = rw e refl in ap (filter_map message_of) whole ∙ ap (λ (o : Option (List ℕ)). cons_option o []) none
silent c f false none e = ap (filter_map message_of) (on-elsewhere c f e)

cons_silent : (w : List Frame) (f : Frame) (c : Channel) → message_of f ≡ None → queued c (f ∷ w) ≡ queued c w
cons_silent w f c none = ap length (messages-append c (f ∷ []) w ∙ ap (λ (ms : List (List ℕ)). ms ++ messages c w) (silent c f (is_same c (channel_of f)) none refl))

next_there : (w : List Frame) (h : List Aside) (c d : Channel) (body : List ℕ) → is_same d c ≡ false → under_way (Send c body ∷ w) h d ≡ under_way w h d
next_there w h c d body e = ap (λ n. n + permits_on h d) (cons_there w c d body e)

next_here : (w : List Frame) (h : List Aside) (c : Channel) (body : List ℕ) → under_way (Send c body ∷ w) h c ≡ under_way w h c + 1
next_here w h c body = let e = cons_here w c body in omega arith

next_silent : (w : List Frame) (h : List Aside) (f : Frame) (c : Channel) → message_of f ≡ None → under_way (f ∷ w) h c ≡ under_way w h c
next_silent w h f c none_in = ap (λ n. n + permits_on h c) (cons_silent w f c none_in)

each_next : (w : List Frame) (h : List Aside) (c : Channel) (body : List ℕ) → each w h ≡ set (each (Send c body ∷ w) h) (number_of c) (under_way w h c)
each_next w h Reconciliation body = cc (next_there w h Reconciliation Data body refl, next_there w h Reconciliation Overlap body refl, next_there w h Reconciliation Capability body refl, next_there w h Reconciliation AreaOfInterest body refl, next_there w h Reconciliation PayloadRequest body refl, next_there w h Reconciliation StaticToken body refl)
each_next w h Data body = cc (next_there w h Data Reconciliation body refl, next_there w h Data Overlap body refl, next_there w h Data Capability body refl, next_there w h Data AreaOfInterest body refl, next_there w h Data PayloadRequest body refl, next_there w h Data StaticToken body refl)
each_next w h Overlap body = cc (next_there w h Overlap Reconciliation body refl, next_there w h Overlap Data body refl, next_there w h Overlap Capability body refl, next_there w h Overlap AreaOfInterest body refl, next_there w h Overlap PayloadRequest body refl, next_there w h Overlap StaticToken body refl)
each_next w h Capability body = cc (next_there w h Capability Reconciliation body refl, next_there w h Capability Data body refl, next_there w h Capability Overlap body refl, next_there w h Capability AreaOfInterest body refl, next_there w h Capability PayloadRequest body refl, next_there w h Capability StaticToken body refl)
each_next w h AreaOfInterest body = cc (next_there w h AreaOfInterest Reconciliation body refl, next_there w h AreaOfInterest Data body refl, next_there w h AreaOfInterest Overlap body refl, next_there w h AreaOfInterest Capability body refl, next_there w h AreaOfInterest PayloadRequest body refl, next_there w h AreaOfInterest StaticToken body refl)
each_next w h PayloadRequest body = cc (next_there w h PayloadRequest Reconciliation body refl, next_there w h PayloadRequest Data body refl, next_there w h PayloadRequest Overlap body refl, next_there w h PayloadRequest Capability body refl, next_there w h PayloadRequest AreaOfInterest body refl, next_there w h PayloadRequest StaticToken body refl)
each_next w h StaticToken body = cc (next_there w h StaticToken Reconciliation body refl, next_there w h StaticToken Data body refl, next_there w h StaticToken Overlap body refl, next_there w h StaticToken Capability body refl, next_there w h StaticToken AreaOfInterest body refl, next_there w h StaticToken PayloadRequest body refl)

-- what a channel's permits hold, where it is changed, and any other's
pub aside_here : (h : List Aside) (c : Channel) (a : Aside) → length h ≡ channel_count → aside_on (set h (number_of c) a) c ≡ a
aside_here h c a places =
    let lt : number_of c < length h = omega (arith, number_below c) in
    get_or-set_same h (number_of c) a no_permits lt

pub aside_there : (h : List Aside) (c d : Channel) (a : Aside) → is_same d c ≡ false → aside_on (set h (number_of c) a) d ≡ aside_on h d
aside_there h c d a e =
    let ne : number_of d ≢ number_of c = grind (arith, nat_tests) in
    get_or-set_other h (number_of c) (number_of d) a no_permits ne

held_here : (w : List Frame) (h : List Aside) (c : Channel) (a : Aside) → length h ≡ channel_count → under_way w (set h (number_of c) a) c ≡ queued c w + a.permits
held_here w h c a places = ap (λ (x : Aside). queued c w + x.permits) (aside_here h c a places)

held_there : (w : List Frame) (h : List Aside) (c d : Channel) (a : Aside) → is_same d c ≡ false → under_way w (set h (number_of c) a) d ≡ under_way w h d
held_there w h c d a e = ap (λ (x : Aside). queued d w + x.permits) (aside_there h c d a e)

each_aside : (w : List Frame) (h : List Aside) (c : Channel) (a : Aside) → length h ≡ channel_count → each w (set h (number_of c) a) ≡ set (each w h) (number_of c) (queued c w + a.permits)
each_aside w h Reconciliation a places = cc (held_here w h Reconciliation a places, held_there w h Reconciliation Data a refl, held_there w h Reconciliation Overlap a refl, held_there w h Reconciliation Capability a refl, held_there w h Reconciliation AreaOfInterest a refl, held_there w h Reconciliation PayloadRequest a refl, held_there w h Reconciliation StaticToken a refl)
each_aside w h Data a places = cc (held_there w h Data Reconciliation a refl, held_here w h Data a places, held_there w h Data Overlap a refl, held_there w h Data Capability a refl, held_there w h Data AreaOfInterest a refl, held_there w h Data PayloadRequest a refl, held_there w h Data StaticToken a refl)
each_aside w h Overlap a places = cc (held_there w h Overlap Reconciliation a refl, held_there w h Overlap Data a refl, held_here w h Overlap a places, held_there w h Overlap Capability a refl, held_there w h Overlap AreaOfInterest a refl, held_there w h Overlap PayloadRequest a refl, held_there w h Overlap StaticToken a refl)
each_aside w h Capability a places = cc (held_there w h Capability Reconciliation a refl, held_there w h Capability Data a refl, held_there w h Capability Overlap a refl, held_here w h Capability a places, held_there w h Capability AreaOfInterest a refl, held_there w h Capability PayloadRequest a refl, held_there w h Capability StaticToken a refl)
each_aside w h AreaOfInterest a places = cc (held_there w h AreaOfInterest Reconciliation a refl, held_there w h AreaOfInterest Data a refl, held_there w h AreaOfInterest Overlap a refl, held_there w h AreaOfInterest Capability a refl, held_here w h AreaOfInterest a places, held_there w h AreaOfInterest PayloadRequest a refl, held_there w h AreaOfInterest StaticToken a refl)
each_aside w h PayloadRequest a places = cc (held_there w h PayloadRequest Reconciliation a refl, held_there w h PayloadRequest Data a refl, held_there w h PayloadRequest Overlap a refl, held_there w h PayloadRequest Capability a refl, held_there w h PayloadRequest AreaOfInterest a refl, held_here w h PayloadRequest a places, held_there w h PayloadRequest StaticToken a refl)
each_aside w h StaticToken a places = cc (held_there w h StaticToken Reconciliation a refl, held_there w h StaticToken Data a refl, held_there w h StaticToken Overlap a refl, held_there w h StaticToken Capability a refl, held_there w h StaticToken AreaOfInterest a refl, held_there w h StaticToken PayloadRequest a refl, held_here w h StaticToken a places)

below : (w : List Frame) (h : List Aside) (c : Channel) → number_of c < length (each w h)
below w h c = omega (arith, number_below c)

-- an own slot more or less is unused where the count of a channel changes
unused_set : (w w' : List Frame) (h h' : List Aside) (c : Channel) (n : ℕ) → each w' h' ≡ set (each w h) (number_of c) n → unused w' h' + none (under_way w h c) ≡ unused w h + none n
unused_set w w' h h' c n e =
    let set_is : sum_by none (set (each w h) (number_of c) n) + none (get_or (each w h) (number_of c) 0) ≡ sum_by none (each w h) + none n = sum_by-set none (each w h) (number_of c) n 0 (below w h c) in
    ap (λ xs. sum_by none xs + none (under_way w h c)) e ∙ (ap (λ m. sum_by none (set (each w h) (number_of c) n) + none m) (sym (of_channel w h c)) ∙ set_is)

pub kept_push : (w : List Frame) (h : List Aside) (c : Channel) (body : List ℕ) → kept (w ++ Send c body ∷ []) h + none (under_way w h c) ≡ kept w h
kept_push w h c body =
    let e = unused_set w (w ++ Send c body ∷ []) h h c (under_way w h c + 1) (each_push w h c body) in
    let zero_is = none_more (under_way w h c) in
    omega arith

kept_next : (w : List Frame) (h : List Aside) (c : Channel) (body : List ℕ) → kept w h ≡ kept (Send c body ∷ w) h + none (under_way w h c)
kept_next w h c body =
    let e = unused_set (Send c body ∷ w) w h h c (under_way w h c) (each_next w h c body) in
    let zero_is : none (under_way (Send c body ∷ w) h c) ≡ 0 = ap none (next_here w h c body) ∙ none_more (under_way w h c) in
    omega arith

-- the permits that are out, where those of a channel change
out_set : (h : List Aside) (c : Channel) (a : Aside) → length h ≡ channel_count → permits_out (set h (number_of c) a) + permits_on h c ≡ permits_out h + a.permits
out_set h c a places =
    let lt : number_of c < length h = omega (arith, number_below c) in
    sum_by-set (λ (x : Aside). x.permits) h (number_of c) a no_permits lt

-- no more permits of a channel than of all
pub permits_few : (h : List Aside) (c : Channel) → length h ≡ channel_count → permits_on h c ≤ permits_out h
permits_few h c places = let gone = out_set h c no_permits places in omega arith

-- a permit more, and one less
abbrev more : List Aside → Channel → ℕ → List Aside
more h c len = set h (number_of c) (with_permit (aside_on h c) len)

abbrev less : List Aside → Channel → ℕ → List Aside
less h c len = set h (number_of c) (without_permit (aside_on h c) len)

pub kept_more : (w : List Frame) (h : List Aside) (c : Channel) (len : ℕ) → length h ≡ channel_count → kept w (more h c len) + none (under_way w h c) ≡ kept w h + 1
kept_more w h c len places =
    let u = unused_set w w h (more h c len) c (queued c w + (permits_on h c + 1)) (each_aside w h c (with_permit (aside_on h c) len) places) in
    let out = out_set h c (with_permit (aside_on h c) len) places in
    let one : none (queued c w + (permits_on h c + 1)) ≡ 0 = none_one (queued c w + (permits_on h c + 1)) (omega arith) in
    omega arith

pub kept_less : (w : List Frame) (h : List Aside) (c : Channel) (len : ℕ) → length h ≡ channel_count → 1 ≤ permits_on h c → kept w (less h c len) + 1 ≡ kept w h + none (under_way w h c - 1)
kept_less w h c len places one =
    let u = unused_set w w h (less h c len) c (queued c w + (permits_on h c - 1)) (each_aside w h c (without_permit (aside_on h c) len) places) in
    let out = out_set h c (without_permit (aside_on h c) len) places in
    let zero_is : none (under_way w h c) ≡ 0 = none_one (under_way w h c) (omega arith) in
    let same : none (queued c w + (permits_on h c - 1)) ≡ none (under_way w h c - 1) = ap none (omega arith) in
    omega arith

-- a permit becomes a message: its slot was one of those that only their owners take
pub kept_used : (w : List Frame) (h : List Aside) (c : Channel) (len : ℕ) (body : List ℕ) → length h ≡ channel_count → 1 ≤ permits_on h c → kept (w ++ Send c body ∷ []) (less h c len) + 1 ≡ kept w h
kept_used w h c len body places one =
    let push = kept_push w (less h c len) c body in
    let gone = kept_less w h c len places one in
    let here_is : under_way w (less h c len) c ≡ under_way w h c - 1 = held_here w h c (without_permit (aside_on h c) len) places ∙ omega arith in
    let same = ap none here_is in
    omega arith

-- a permit that is out is counted
pub counted_permit : (w : List Frame) (h : List Aside) (c : Channel) → length h ≡ channel_count → 1 ≤ permits_on h c → 1 ≤ kept w h
counted_permit w h c places one = omega (arith, permits_few h c places)

same_counts : (s t : Counts) → s.under_way ≡ t.under_way → s.kept ≡ t.kept → s.bytes ≡ t.bytes → s ≡ t
same_counts s t q u b =
    ap (λ (x : List ℕ). record { under_way = x; kept = s.kept; bytes = s.bytes }) q
    ∙ (ap (λ (x : ℕ). record { under_way = t.under_way; kept = x; bytes = s.bytes }) u
    ∙ ap (λ (x : ℕ). record { under_way = t.under_way; kept = t.kept; bytes = x }) b)

pub counts_push : (w : List Frame) (h : List Aside) (c : Channel) (body : List ℕ) → counts_of (w ++ Send c body ∷ []) h ≡ with_message (counts_of w h) c (length body)
counts_push w h c body =
    let u = kept_push w h c body in
    let fewer : kept (w ++ Send c body ∷ []) h ≡ kept w h - none (under_way w h c) = omega arith in
    same_counts (counts_of (w ++ Send c body ∷ []) h) (with_message (counts_of w h) c (length body))
    (each_push w h c body ∙ ap (λ n. set (each w h) (number_of c) (n + 1)) (sym (of_channel w h c)))
    (fewer ∙ ap (λ n. kept w h - none n) (sym (of_channel w h c)))
    (bytes_push w (Send c body))

pub counts_more : (w : List Frame) (h : List Aside) (c : Channel) (len : ℕ) → length h ≡ channel_count → counts_of w (more h c len) ≡ with_grant (counts_of w h) c
counts_more w h c len places =
    let u = kept_more w h c len places in
    let kept_is : kept w (more h c len) ≡ kept w h + 1 - none (under_way w h c) = omega arith in
    let one : queued c w + (permits_on h c + 1) ≡ under_way w h c + 1 = omega arith in
    same_counts (counts_of w (more h c len)) (with_grant (counts_of w h) c)
    (each_aside w h c (with_permit (aside_on h c) len) places ∙ (ap (λ n. set (each w h) (number_of c) n) one ∙ ap (λ n. set (each w h) (number_of c) (n + 1)) (sym (of_channel w h c))))
    (kept_is ∙ ap (λ n. kept w h + 1 - none n) (sym (of_channel w h c)))
    refl

pub counts_less : (w : List Frame) (h : List Aside) (c : Channel) (len : ℕ) → length h ≡ channel_count → 1 ≤ permits_on h c → counts_of w (less h c len) ≡ without_grant (counts_of w h) c
counts_less w h c len places one =
    let u = kept_less w h c len places one in
    let some = counted_permit w h c places one in
    let kept_is : kept w (less h c len) ≡ kept w h - 1 + none (under_way w h c - 1) = omega arith in
    let fewer : queued c w + (permits_on h c - 1) ≡ under_way w h c - 1 = omega arith in
    same_counts (counts_of w (less h c len)) (without_grant (counts_of w h) c)
    (each_aside w h c (without_permit (aside_on h c) len) places ∙ (ap (λ n. set (each w h) (number_of c) n) fewer ∙ ap (λ n. set (each w h) (number_of c) (n - 1)) (sym (of_channel w h c))))
    (kept_is ∙ ap (λ n. kept w h - 1 + none (n - 1)) (sym (of_channel w h c)))
    refl

-- all permits of a channel leave their slots
pub void_kept : (w : List Frame) (h : List Aside) (c : Channel) → length h ≡ channel_count → (kept w (set h (number_of c) no_permits) + none (under_way w h c)) + permits_on h c ≡ kept w h + none (under_way w h c - permits_on h c)
void_kept w h c places =
    let u = unused_set w w h (set h (number_of c) no_permits) c (queued c w + 0) (each_aside w h c no_permits places) in
    let out = out_set h c no_permits places in
    let left : under_way w h c - permits_on h c ≡ queued c w + 0 = omega arith in
    let same = ap none left in
    omega arith

pub counts_void : (w : List Frame) (h : List Aside) (c : Channel) → length h ≡ channel_count → counts_of w (set h (number_of c) no_permits) ≡ without_permits (counts_of w h) c (permits_on h c)
counts_void w h c places =
    let n = permits_on h c in
    let u = void_kept w h c places in
    let left : queued c w + 0 ≡ under_way w h c - n = omega arith in
    let kept_is : kept w (set h (number_of c) no_permits) ≡ kept w h + none (under_way w h c - n) - none (under_way w h c) - n = omega arith in
    same_counts (counts_of w (set h (number_of c) no_permits)) (without_permits (counts_of w h) c n)
    (each_aside w h c no_permits places ∙ (ap (λ m. set (each w h) (number_of c) m) left ∙ ap (λ m. set (each w h) (number_of c) (m - n)) (sym (of_channel w h c))))
    (kept_is ∙ ap (λ m. kept w h + none (m - n) - none m - n) (sym (of_channel w h c)))
    refl

used_here : (w : List Frame) (h : List Aside) (c : Channel) (len : ℕ) (body : List ℕ) → length h ≡ channel_count → 1 ≤ permits_on h c → under_way (w ++ Send c body ∷ []) (less h c len) c ≡ under_way w h c
used_here w h c len body places one =
    let push = more_here w (less h c len) c body in
    let less_is = held_here w h c (without_permit (aside_on h c) len) places in
    omega arith

used_there : (w : List Frame) (h : List Aside) (c d : Channel) (len : ℕ) (body : List ℕ) → is_same d c ≡ false → under_way (w ++ Send c body ∷ []) (less h c len) d ≡ under_way w h d
used_there w h c d len body e = more_there w (less h c len) c d body e ∙ held_there w h c d (without_permit (aside_on h c) len) e

each_used : (w : List Frame) (h : List Aside) (c : Channel) (len : ℕ) (body : List ℕ) → length h ≡ channel_count → 1 ≤ permits_on h c → each (w ++ Send c body ∷ []) (less h c len) ≡ each w h
each_used w h Reconciliation len body places one = cc (used_here w h Reconciliation len body places one, used_there w h Reconciliation Data len body refl, used_there w h Reconciliation Overlap len body refl, used_there w h Reconciliation Capability len body refl, used_there w h Reconciliation AreaOfInterest len body refl, used_there w h Reconciliation PayloadRequest len body refl, used_there w h Reconciliation StaticToken len body refl)
each_used w h Data len body places one = cc (used_there w h Data Reconciliation len body refl, used_here w h Data len body places one, used_there w h Data Overlap len body refl, used_there w h Data Capability len body refl, used_there w h Data AreaOfInterest len body refl, used_there w h Data PayloadRequest len body refl, used_there w h Data StaticToken len body refl)
each_used w h Overlap len body places one = cc (used_there w h Overlap Reconciliation len body refl, used_there w h Overlap Data len body refl, used_here w h Overlap len body places one, used_there w h Overlap Capability len body refl, used_there w h Overlap AreaOfInterest len body refl, used_there w h Overlap PayloadRequest len body refl, used_there w h Overlap StaticToken len body refl)
each_used w h Capability len body places one = cc (used_there w h Capability Reconciliation len body refl, used_there w h Capability Data len body refl, used_there w h Capability Overlap len body refl, used_here w h Capability len body places one, used_there w h Capability AreaOfInterest len body refl, used_there w h Capability PayloadRequest len body refl, used_there w h Capability StaticToken len body refl)
each_used w h AreaOfInterest len body places one = cc (used_there w h AreaOfInterest Reconciliation len body refl, used_there w h AreaOfInterest Data len body refl, used_there w h AreaOfInterest Overlap len body refl, used_there w h AreaOfInterest Capability len body refl, used_here w h AreaOfInterest len body places one, used_there w h AreaOfInterest PayloadRequest len body refl, used_there w h AreaOfInterest StaticToken len body refl)
each_used w h PayloadRequest len body places one = cc (used_there w h PayloadRequest Reconciliation len body refl, used_there w h PayloadRequest Data len body refl, used_there w h PayloadRequest Overlap len body refl, used_there w h PayloadRequest Capability len body refl, used_there w h PayloadRequest AreaOfInterest len body refl, used_here w h PayloadRequest len body places one, used_there w h PayloadRequest StaticToken len body refl)
each_used w h StaticToken len body places one = cc (used_there w h StaticToken Reconciliation len body refl, used_there w h StaticToken Data len body refl, used_there w h StaticToken Overlap len body refl, used_there w h StaticToken Capability len body refl, used_there w h StaticToken AreaOfInterest len body refl, used_there w h StaticToken PayloadRequest len body refl, used_here w h StaticToken len body places one)

pub counts_used : (w : List Frame) (h : List Aside) (c : Channel) (len : ℕ) (body : List ℕ) → length h ≡ channel_count → 1 ≤ permits_on h c → counts_of (w ++ Send c body ∷ []) (less h c len) ≡ with_use (counts_of w h) (length body)
counts_used w h c len body places one =
    let used = kept_used w h c len body places one in
    let kept_is : kept (w ++ Send c body ∷ []) (less h c len) ≡ kept w h - 1 = omega arith in
    same_counts (counts_of (w ++ Send c body ∷ []) (less h c len)) (with_use (counts_of w h) (length body))
    (each_used w h c len body places one) kept_is (bytes_push w (Send c body))

counts_cons : (w : List Frame) (h : List Aside) (c : Channel) (body : List ℕ) → counts_of w h ≡ without_message (counts_of (Send c body ∷ w) h) c (length body)
counts_cons w h c body =
    let more_is = next_here w h c body in
    let fewer : under_way w h c ≡ under_way (Send c body ∷ w) h c - 1 = omega arith in
    let at : under_way w h c ≡ get_or (each (Send c body ∷ w) h) (number_of c) 0 - 1 = fewer ∙ ap (λ n. n - 1) (sym (of_channel (Send c body ∷ w) h c)) in
    same_counts (counts_of w h) (without_message (counts_of (Send c body ∷ w) h) c (length body))
    (each_next w h c body ∙ ap (λ n. set (each (Send c body ∷ w) h) (number_of c) n) at)
    (kept_next w h c body ∙ ap (λ n. kept (Send c body ∷ w) h + none n) at)
    (omega arith)

-- a frame that is no message changes no count
counts_other : (w : List Frame) (h : List Aside) (f : Frame) → message_of f ≡ None → message_len f ≡ 0 → counts_of w h ≡ counts_of (f ∷ w) h
counts_other w h f none_in e =
    let each_is : each w h ≡ each (f ∷ w) h = cc (next_silent w h f Reconciliation none_in, next_silent w h f Data none_in, next_silent w h f Overlap none_in, next_silent w h f Capability none_in, next_silent w h f AreaOfInterest none_in, next_silent w h f PayloadRequest none_in, next_silent w h f StaticToken none_in) in
    same_counts (counts_of w h) (counts_of (f ∷ w) h) each_is (ap (λ xs. sum_by none xs + permits_out h) each_is) (omega arith)

counts_behind : (g : Frame) (w : List Frame) (h : List Aside) → counts_of w h ≡ without_frame (counts_of (g ∷ w) h) g
counts_behind (Send c body) w h = counts_cons w h c body
counts_behind (Issue c n) w h = counts_other w h (Issue c n) refl refl
counts_behind (Absolve c n) w h = counts_other w h (Absolve c n) refl refl
counts_behind (Plead c n) w h = counts_other w h (Plead c n) refl refl
counts_behind (LimitSending c n) w h = counts_other w h (LimitSending c n) refl refl
counts_behind (LimitReceiving c n) w h = counts_other w h (LimitReceiving c n) refl refl
counts_behind (Finish c) w h = counts_other w h (Finish c) refl refl

pub counts_next : (frames : List Frame) (h : List Aside) (f : Frame) → slice_get frames 0 ≡ Some f → counts_of (drop 1 frames) h ≡ without_frame (counts_of frames h) f
counts_next [] h f e = cc
counts_next (g ∷ w) h f e = let same : g ≡ f = cc in subst (λ (x : Frame). counts_of w h ≡ without_frame (counts_of (g ∷ w) h) x) same (counts_behind g w h)

-- a frame in front is counted
counted_cons : (g : Frame) (w : List Frame) (h : List Aside) → IsCounted (counts_of (g ∷ w) h) g
counted_cons (Send c body) w h =
    let more_is = next_here w h c body in
    let at = of_channel (Send c body ∷ w) h c in
    record { under_way = omega arith; bytes = omega arith }
counted_cons (Issue c n) w h = tt
counted_cons (Absolve c n) w h = tt
counted_cons (Plead c n) w h = tt
counted_cons (LimitSending c n) w h = tt
counted_cons (LimitReceiving c n) w h = tt
counted_cons (Finish c) w h = tt

pub counted_next : (frames : List Frame) (h : List Aside) (f : Frame) → slice_get frames 0 ≡ Some f → IsCounted (counts_of frames h) f
counted_next [] h f e = cc
counted_next (g ∷ w) h f e = let same : g ≡ f = cc in subst (λ (x : Frame). IsCounted (counts_of (g ∷ w) h) x) same (counted_cons g w h)

-- an own slot more is unused at most where a frame leaves
kept_cons : (g : Frame) (w : List Frame) (h : List Aside) → kept w h ≤ kept (g ∷ w) h + message_one g
kept_cons (Send c body) w h = let u = kept_next w h c body in let one = none_small (under_way w h c) in omega arith
kept_cons (Issue c n) w h = let e = ap (λ (s : Counts). s.kept) (counts_other w h (Issue c n) refl refl) in omega arith
kept_cons (Absolve c n) w h = let e = ap (λ (s : Counts). s.kept) (counts_other w h (Absolve c n) refl refl) in omega arith
kept_cons (Plead c n) w h = let e = ap (λ (s : Counts). s.kept) (counts_other w h (Plead c n) refl refl) in omega arith
kept_cons (LimitSending c n) w h = let e = ap (λ (s : Counts). s.kept) (counts_other w h (LimitSending c n) refl refl) in omega arith
kept_cons (LimitReceiving c n) w h = let e = ap (λ (s : Counts). s.kept) (counts_other w h (LimitReceiving c n) refl refl) in omega arith
kept_cons (Finish c) w h = let e = ap (λ (s : Counts). s.kept) (counts_other w h (Finish c) refl refl) in omega arith

pub kept_after : (g : Frame) (w : List Frame) (h : List Aside) → kept w h ≤ kept (g ∷ w) h + 1
kept_after g w h = omega (arith, kept_cons g w h, one_small g)

pub kept_drop : (frames : List Frame) (h : List Aside) → kept (drop 1 frames) h + message_count (drop 1 frames) ≤ kept frames h + message_count frames
kept_drop [] h = omega arith
kept_drop (g ∷ w) h = omega (arith, kept_cons g w h)

-- no more messages of a channel than frames
queued_by : (c d : Channel) (body : List ℕ) (b : Bool) → is_same c d ≡ b → queued c (Send d body ∷ []) ≤ 1
queued_by c d body true e = let whole : on c (Send d body ∷ []) ≡ Send d body ∷ [] = rw e refl in let one : queued c (Send d body ∷ []) ≡ 1 = ap (λ (frames : List Frame). length (filter_map message_of frames)) whole in omega arith
queued_by c d body false e = let none_is = cons_there [] d c body e in omega arith

queued_one : (c : Channel) (f : Frame) → queued c (f ∷ []) ≤ 1
queued_one c (Send d body) = queued_by c d body (is_same c d) refl
queued_one c (Issue d n) = let e = cons_silent [] (Issue d n) c refl in omega arith
queued_one c (Absolve d n) = let e = cons_silent [] (Absolve d n) c refl in omega arith
queued_one c (Plead d n) = let e = cons_silent [] (Plead d n) c refl in omega arith
queued_one c (LimitSending d n) = let e = cons_silent [] (LimitSending d n) c refl in omega arith
queued_one c (LimitReceiving d n) = let e = cons_silent [] (LimitReceiving d n) c refl in omega arith
queued_one c (Finish d) = let e = cons_silent [] (Finish d) c refl in omega arith

pub queued_few : (c : Channel) (frames : List Frame) → queued c frames ≤ length frames
queued_few c [] = omega arith
queued_few c (f ∷ w) =
    let both : queued c (f ∷ w) ≡ queued c (f ∷ []) + queued c w = ap length (messages-append c (f ∷ []) w) ∙ length-append (messages c (f ∷ [])) (messages c w) in
    omega (arith, queued_one c f, queued_few c w)

push_silent : (w : List Frame) (h : List Aside) (f : Frame) (c : Channel) → message_of f ≡ None → under_way (w ++ f ∷ []) h c ≡ under_way w h c
push_silent w h f c none_in = ap (λ (ms : List (List ℕ)). length ms + permits_on h c) (messages-append c w (f ∷ []) ∙ (ap (λ (ms : List (List ℕ)). messages c w ++ ms) (silent c f (is_same c (channel_of f)) none_in refl) ∙ append-nil (messages c w)))

-- a frame more that is no message changes no count
pub counts_control : (w : List Frame) (h : List Aside) (f : Frame) → message_of f ≡ None → message_len f ≡ 0 → counts_of w h ≡ counts_of (w ++ f ∷ []) h
counts_control w h f none_in e =
    let each_is : each w h ≡ each (w ++ f ∷ []) h = cc (push_silent w h f Reconciliation none_in, push_silent w h f Data none_in, push_silent w h f Overlap none_in, push_silent w h f Capability none_in, push_silent w h f AreaOfInterest none_in, push_silent w h f PayloadRequest none_in, push_silent w h f StaticToken none_in) in
    let bytes = bytes_push w f in
    same_counts (counts_of w h) (counts_of (w ++ f ∷ []) h) each_is (ap (λ xs. sum_by none xs + permits_out h) each_is) (omega arith)
