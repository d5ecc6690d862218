-- The bytes of a stream that were delivered.
use Rattle.std.proofs.Common.{◌≡◌, ℕ, ◌+◌, ◌<◌, ◌≤◌, Bool, true, false, List, [], ◌∷◌, ◌++◌, length, take, Option, Some, None, refl, sym, ap, ap₂, ◌∙◌, subst, inl, inr, arith}
use Rattle.std.specs.Prelude.{◌⊎◌, ◌↔◌, ◌-◌, min, nat_lt, if◌then◌else◌}
use Rattle.std.proofs.lemmas.Bool.Decides.{nat_tests}
use Rattle.std.proofs.lemmas.List.{length-append, append-nil, take_all, take-append-le}
use Rattle.std.proofs.lemmas.List.Concat.{flat_map-cons}
use Rattle.std.proofs.lemmas.Grind.{flat_map-append}
use Rattle.std.proofs.Math.Seq.{take-append-add}
use Rattle.lc_frame.specs.declared.version.Version.{Version}
use Rattle.lc_frame.specs.declared.frame.Frame.{Frame}
use Rattle.lc_frame.specs.Version.{greeting}
use Rattle.lc_frame.specs.Encoding.{encoding}
use Rattle.lc_world.specs.declared.event.Side.{Side}
use Rattle.lc_world.specs.declared.event.Side.TheVariants.{A, B}
use Rattle.lc_world.specs.declared.event.Act.{Act}
use Rattle.lc_world.specs.declared.event.Act.TheVariants.{Honour, Arrive, Deliver, Take}
use Rattle.lc_world.specs.declared.event.Answer.{Answer}
use Rattle.lc_world.specs.declared.event.Answer.TheVariants.{Absolved, NothingToAbsolve, Arrived, Delivered, Took}
use Rattle.lc_world.specs.State.{State, Versions, opening, Line, new_line, line, stream, size, arrive_first, arrive_on, deliver_over, deliver_on, forget_finished}
use Rattle.lc_world.specs.Answers.{bytes_in_flight, put_any, frame_put, mine_after, theirs_after, state_after, after}
use Rattle.lc_world.specs.Histories.{History, after_all}
use Rattle.lc_world.specs.Guarantee.{state_of}
use Rattle.lc_world.specs.Delivery.{bytes_of, text_of, delivered, HasBegun, IsInOrder, IsCutByBytes, EveryStreamIsCutByBytes, DeliveriesAddUp}

-- the bytes of one frame first, and of one list behind another
pub size-cons : (v : Version) (f : Frame) (rest : List Frame) → length (bytes_of v (f ∷ rest)) ≡ size v f + length (bytes_of v rest)
size-cons v f rest = ap length (flat_map-cons (encoding v) f rest) ∙ length-append (encoding v f) (bytes_of v rest)

pub bytes-append : (v : Version) (xs ys : List Frame) → length (bytes_of v (xs ++ ys)) ≡ length (bytes_of v xs) + length (bytes_of v ys)
bytes-append v xs ys = ap length (flat_map-append (encoding v) xs ys) ∙ length-append (bytes_of v xs) (bytes_of v ys)

pub size-one : (v : Version) (f : Frame) → length (bytes_of v (f ∷ [])) ≡ size v f
size-one v f = size-cons v f [] ∙ omega arith

-- of a stream's text the greeting stands first
pub text-length : (v : Version) (frames : List Frame) → length (text_of v frames) ≡ length (greeting v) + length (bytes_of v frames)
text-length v frames = length-append (greeting v) (bytes_of v frames)

-- every frame has a byte, so none has begun where no byte of it came
pub has_bytes : (v : Version) (f : Frame) → 0 < size v f
has_bytes v f = omega arith

pub none_begun : (v : Version) (frames : List Frame) → HasBegun v frames 0
none_begun v [] = refl
none_begun v (f ∷ rest) = has_bytes v f

-- the tests of a delivery
pub is_below : (m n : ℕ) → m < n → nat_lt m n ≡ true
is_below m n lt = grind (arith, nat_tests)

pub is_not_below : (m n : ℕ) → n ≤ m → nat_lt m n ≡ false
is_not_below m n le = grind (arith, nat_tests)

pub below_or_not : (m n : ℕ) → (m < n) ⊎ (n ≤ m)
below_or_not m n = grind arith

pub none_or_some : (n : ℕ) → (n ≡ 0) ⊎ (0 < n)
none_or_some n = grind arith

-- a delivery that ends within the first frame, and one that goes on behind it
pub within_first : (f : Frame) (rest : List Frame) (n : ℕ) (l : Line) → n < size l.version f → deliver_over (f ∷ rest) n l ≡ record l { begun = n }
within_first f rest n l lt = ap (λ (b : Bool). if b then record l { begun = n } else deliver_over rest (n - size l.version f) (arrive_first l (f ∷ rest))) (is_below n (size l.version f) lt)

pub behind_first : (f : Frame) (rest : List Frame) (n : ℕ) (l : Line) → size l.version f ≤ n → deliver_over (f ∷ rest) n l ≡ deliver_over rest (n - size l.version f) (arrive_first l (f ∷ rest))
behind_first f rest n l le = ap (λ (b : Bool). if b then record l { begun = n } else deliver_over rest (n - size l.version f) (arrive_first l (f ∷ rest))) (is_not_below n (size l.version f) le)

-- where no byte more of the frames is delivered nothing changes
over_nothing : (frames : List Frame) (l : Line) → HasBegun l.version frames l.begun → deliver_over frames l.begun l ≡ l
over_nothing [] l h = refl
over_nothing (f ∷ rest) l h = within_first f rest l.begun l h

-- a delivery within the greeting, and one that goes on behind it
within_greeting : (count : ℕ) (l : Line) → HasBegun l.version l.in_flight l.begun → count ≤ l.greeting_left → deliver_on count l ≡ record l { greeting_left = l.greeting_left - count }
within_greeting count l h le =
    let m : Line = record l { greeting_left = l.greeting_left - count } in
    ap (λ (n : ℕ). deliver_over l.in_flight n m) (omega (arith, le)) ∙ over_nothing l.in_flight m h

behind_greeting : (count : ℕ) (l : Line) → l.greeting_left ≤ count → deliver_on count l ≡ deliver_over l.in_flight (l.begun + (count - l.greeting_left)) (record l { greeting_left = 0 })
behind_greeting count l le = ap (λ (n : ℕ). deliver_over l.in_flight (l.begun + (count - l.greeting_left)) (record l { greeting_left = n })) (omega (arith, le))

-- less than the first frame has begun, after a delivery and after every event
abbrev Begun : Line → Type 0
Begun l = HasBegun l.version l.in_flight l.begun

begun_over : (frames : List Frame) (n : ℕ) (l : Line) → l.in_flight ≡ frames → Begun l → Begun (deliver_over frames n l)
begun_over [] n l e h = h
begun_over (f ∷ rest) n l e h =
    elim (below_or_not n (size l.version f)) [
      | inl lt ↦ subst Begun (sym (within_first f rest n l lt)) (subst (λ (fs : List Frame). HasBegun l.version fs n) (sym e) lt)
      | inr le ↦ subst Begun (sym (behind_first f rest n l le)) (begun_over rest (n - size l.version f) (arrive_first l (f ∷ rest)) refl (none_begun l.version rest))
    ]

gone_over : (frames : List Frame) (n : ℕ) (l : Line) → l.greeting_left ≡ 0 → (deliver_over frames n l).greeting_left ≡ 0
gone_over [] n l e = e
gone_over (f ∷ rest) n l e =
    elim (below_or_not n (size l.version f)) [
      | inl lt ↦ ap (λ (x : Line). x.greeting_left) (within_first f rest n l lt) ∙ e
      | inr le ↦ ap (λ (x : Line). x.greeting_left) (behind_first f rest n l le) ∙ gone_over rest (n - size l.version f) (arrive_first l (f ∷ rest)) refl
    ]

-- where the greeting is gone only the frames are to be in order
pub in_order : (l : Line) → l.greeting_left ≡ 0 → HasBegun l.version l.in_flight l.begun → IsInOrder l
in_order l gone h = record { begun = h; part = omega (arith, gone); first = λ some. absurd (omega (arith, gone, some)) }

pub order_delivers : (count : ℕ) (l : Line) → IsInOrder l → IsInOrder (deliver_on count l)
order_delivers count l h =
    elim (below_or_not count l.greeting_left) [
      | inl lt ↦ subst IsInOrder (sym (within_greeting count l h.begun (omega (arith, lt)))) (record { begun = h.begun; part = omega (arith, h.part); first = λ some. h.first (omega (arith, lt)) })
      | inr le ↦
          let m : Line = record l { greeting_left = 0 } in
          let n : ℕ = l.begun + (count - l.greeting_left) in
          subst IsInOrder (sym (behind_greeting count l le)) (in_order (deliver_over l.in_flight n m) (gone_over l.in_flight n m refl) (begun_over l.in_flight n m refl h.begun))
    ]

order_arrives : (frames : List Frame) (l : Line) → IsInOrder l → IsInOrder (arrive_first l frames)
order_arrives [] l h = h
order_arrives (f ∷ rest) l h = in_order (arrive_first l (f ∷ rest)) refl (none_begun l.version rest)

begun_puts : (v : Version) (frames : List Frame) (n : ℕ) (f : Frame) → HasBegun v frames n → HasBegun v (frames ++ f ∷ []) n
begun_puts v [] n f h = omega (arith, h, has_bytes v f)
begun_puts v (g ∷ rest) n f h = h

pub order_mine : (l : Line) (o : Option Frame) → IsInOrder l → IsInOrder (put_any l o)
order_mine l None h = h
order_mine l (Some f) h = record { begun = begun_puts l.version l.in_flight l.begun f h.begun; part = h.part; first = h.first }

order_theirs : (mine l : Line) (act : Act) (a : Answer) → IsInOrder l → IsInOrder (theirs_after mine l act a)
order_theirs mine l Arrive Arrived h = order_arrives l.in_flight l h
order_theirs mine l (Deliver count) (Delivered bytes frames) h = order_delivers count l h
order_theirs mine l (Take c) (Took body) h = record { begun = h.begun; part = h.part; first = h.first }
order_theirs mine l (Honour c) (Absolved n) h = record { begun = h.begun; part = h.part; first = h.first }
order_theirs mine l (Honour c) NothingToAbsolve h = record { begun = h.begun; part = h.part; first = h.first }
order_theirs mine l act a h = h

order_forgets : (x l : Line) → IsInOrder l → IsInOrder (forget_finished x l)
order_forgets x l h = record { begun = h.begun; part = h.part; first = h.first }

abbrev BothAreInOrder : State → Type 0
BothAreInOrder w = (s : Side) → IsInOrder (line w s)

order_step : (w : State) (side : Side) (act : Act) (a : Answer) → BothAreInOrder w → BothAreInOrder (state_after w side act a)
order_step w A act a h A = order_forgets (theirs_after w.a w.b act a) (mine_after w.a w.b act a) (order_mine w.a (frame_put act a) (h A))
order_step w A act a h B = order_forgets (mine_after w.a w.b act a) (theirs_after w.a w.b act a) (order_theirs w.a w.b act a (h B))
order_step w B act a h A = order_forgets (mine_after w.b w.a act a) (theirs_after w.b w.a act a) (order_theirs w.b w.a act a (h A))
order_step w B act a h B = order_forgets (theirs_after w.b w.a act a) (mine_after w.b w.a act a) (order_mine w.b (frame_put act a) (h B))

order_all : (w : State) (history : History) → BothAreInOrder w → BothAreInOrder (after_all w history)
order_all w [] h = h
order_all w (p ∷ history) h = order_all (after w p.0 p.1) history (order_step w p.0.side p.0.act p.1 h)

pub order_new : (v : Version) → IsInOrder (new_line v)
order_new v = record { begun = refl; part = omega arith; first = λ some. (refl, refl) }

order_opening : (capacity : ℕ) (versions : Versions) → BothAreInOrder (opening capacity versions)
order_opening capacity versions A = order_new (versions A)
order_opening capacity versions B = order_new (versions B)

-- what has begun is within the bytes in flight
pub begun_within : (v : Version) (frames : List Frame) (n : ℕ) → HasBegun v frames n → n ≤ length (bytes_of v frames)
begun_within v [] n h = omega (arith, h)
begun_within v (f ∷ rest) n h = omega (arith, h, size-cons v f rest)

-- where a list is cut in two places
record CutBehind (xs ys before behind : List Frame) (f : Frame) : Type 0 where
  mid : List Frame
  before_is : before ≡ xs ++ mid
  ys_is : ys ≡ mid ++ f ∷ behind

record CutBefore (xs ys before behind : List Frame) (f : Frame) : Type 0 where
  mid : List Frame
  xs_is : xs ≡ before ++ f ∷ mid

cuts : (xs ys before behind : List Frame) (f : Frame) → xs ++ ys ≡ before ++ f ∷ behind → CutBehind xs ys before behind f ⊎ CutBefore xs ys before behind f
cuts [] ys before behind f e = inl (record { mid = before; before_is = refl; ys_is = e })
cuts (x ∷ xs) ys [] behind f e = let same : x ≡ f = cc in inr (record { mid = xs; xs_is = ap (λ (g : Frame). g ∷ xs) same })
cuts (x ∷ xs) ys (b ∷ before) behind f e =
    let same : x ≡ b = cc in
    let rest : xs ++ ys ≡ before ++ f ∷ behind = cc in
    elim (cuts xs ys before behind f rest) [
      | inl c ↦ inl (record { mid = c.mid; before_is = ap (λ (fs : List Frame). b ∷ fs) c.before_is ∙ ap (λ (g : Frame). g ∷ (xs ++ c.mid)) (sym same); ys_is = c.ys_is })
      | inr c ↦ inr (record { mid = c.mid; xs_is = ap (λ (fs : List Frame). x ∷ fs) c.xs_is ∙ ap (λ (g : Frame). g ∷ (before ++ f ∷ c.mid)) same })
    ]

-- a frame in flight has a byte that was not delivered
more_is_missing : (v : Version) (mid behind : List Frame) (f : Frame) (n : ℕ) → HasBegun v (mid ++ f ∷ behind) n → n < length (bytes_of v mid) + size v f
more_is_missing v [] behind f n h = omega (arith, h)
more_is_missing v (g ∷ mid) behind f n h = omega (arith, h, size-cons v g mid)

no_bytes : (v : Version) (frames : List Frame) → frames ≡ [] → length (bytes_of v frames) ≡ 0
no_bytes v frames e = ap (λ (fs : List Frame). length (bytes_of v fs)) e

module _ (l : Line) (h : IsInOrder l) where
  abbrev v : Version
  v = l.version

  -- where some of the greeting is in flight, what was delivered is of it
  pub within_it : 0 < l.greeting_left → delivered l ≡ length (greeting v) - l.greeting_left
  within_it some = let none = h.first some in omega (arith, no_bytes v l.arrived none.0, none.1)

  pub behind_it : l.greeting_left ≡ 0 → delivered l ≡ length (greeting v) + (length (bytes_of v l.arrived) + l.begun)
  behind_it gone = omega (arith, gone)

  pub left_is : length (greeting v) - delivered l ≡ l.greeting_left
  left_is =
      elim (none_or_some l.greeting_left) [
        | inl gone ↦ omega (arith, gone, behind_it gone)
        | inr some ↦ omega (arith, h.part, within_it some)
      ]

  -- of the bytes behind the greeting those of the frames that arrived, and those that have begun to come
  pub front_bytes : take (length (bytes_of v l.arrived) + l.begun) (bytes_of v (stream l)) ≡ bytes_of v l.arrived ++ take l.begun (bytes_of v l.in_flight)
  front_bytes = ap (take (length (bytes_of v l.arrived) + l.begun)) (flat_map-append (encoding v) l.arrived l.in_flight) ∙ take-append-add (bytes_of v l.arrived) (bytes_of v l.in_flight) l.begun

  pub nothing_came : 0 < l.greeting_left → bytes_of v l.arrived ++ take l.begun (bytes_of v l.in_flight) ≡ []
  nothing_came some = let none = h.first some in ap₂ (λ (fs : List Frame) (n : ℕ). bytes_of v fs ++ take n (bytes_of v l.in_flight)) none.0 none.1

  front : take (length (greeting v) - l.greeting_left) (greeting v) ++ (bytes_of v l.arrived ++ take l.begun (bytes_of v l.in_flight)) ≡ take (delivered l) (text_of v (stream l))
  front =
      elim (none_or_some l.greeting_left) [
        | inl gone ↦
            ap (λ (x : List ℕ). x ++ (bytes_of v l.arrived ++ take l.begun (bytes_of v l.in_flight))) (take_all (length (greeting v) - l.greeting_left) (greeting v) (omega (arith, gone)))
            ∙ (ap (λ (x : List ℕ). greeting v ++ x) (sym front_bytes)
            ∙ (sym (take-append-add (greeting v) (bytes_of v (stream l)) (length (bytes_of v l.arrived) + l.begun))
            ∙ ap (λ (n : ℕ). take n (text_of v (stream l))) (sym (behind_it gone))))
        | inr some ↦
            ap (λ (x : List ℕ). take (length (greeting v) - l.greeting_left) (greeting v) ++ x) (nothing_came some)
            ∙ (append-nil (take (length (greeting v) - l.greeting_left) (greeting v))
            ∙ (sym (take-append-le (length (greeting v) - l.greeting_left) (greeting v) (bytes_of v (stream l)) (omega arith))
            ∙ ap (λ (n : ℕ). take n (text_of v (stream l))) (sym (within_it some))))
      ]

  -- a frame that arrived came after all of the greeting
  pub some_arrived : 0 < length l.arrived → l.greeting_left ≡ 0
  some_arrived some =
      elim (none_or_some l.greeting_left) [
        | inl gone ↦ gone
        | inr left ↦ absurd (omega (arith, some, ap length (h.first left).0))
      ]

  whole : (before behind : List Frame) (f : Frame) → stream l ≡ before ++ f ∷ behind → (length before < length l.arrived) ↔ (length (text_of v (before ++ f ∷ [])) ≤ delivered l)
  whole before behind f e =
      let text : length (text_of v (before ++ f ∷ [])) ≡ length (greeting v) + (length (bytes_of v before) + size v f) = text-length v (before ++ f ∷ []) ∙ ap (λ (n : ℕ). length (greeting v) + n) (bytes-append v before (f ∷ []) ∙ ap (λ (n : ℕ). length (bytes_of v before) + n) (size-one v f)) in
      elim (cuts l.arrived l.in_flight before behind f e) [
        | inl c ↦
            let far : length (bytes_of v before) ≡ length (bytes_of v l.arrived) + length (bytes_of v c.mid) = ap (λ (fs : List Frame). length (bytes_of v fs)) c.before_is ∙ bytes-append v l.arrived c.mid in
            let long : length before ≡ length l.arrived + length c.mid = ap length c.before_is ∙ length-append l.arrived c.mid in
            let missing : l.begun < length (bytes_of v c.mid) + size v f = more_is_missing v c.mid behind f l.begun (subst (λ (fs : List Frame). HasBegun v fs l.begun) c.ys_is h.begun) in
            ((λ lt. absurd (omega (arith, lt, long))), (λ le. absurd (omega (arith, le, text, far, missing))))
        | inr c ↦
            let long : length l.arrived ≡ length before + length (f ∷ c.mid) = ap length c.xs_is ∙ length-append before (f ∷ c.mid) in
            let far : length (bytes_of v l.arrived) ≡ length (bytes_of v before) + length (bytes_of v (f ∷ c.mid)) = ap (λ (fs : List Frame). length (bytes_of v fs)) c.xs_is ∙ bytes-append v before (f ∷ c.mid) in
            let gone : l.greeting_left ≡ 0 = some_arrived (omega (arith, long)) in
            ((λ lt. omega (arith, text, far, size-cons v f c.mid, gone)), (λ le. omega (arith, long)))
      ]

pub is_cut : (l : Line) → IsInOrder l → IsCutByBytes l
is_cut l h = record { order = h; front = front l h; whole = whole l h }

pub every_stream_is_cut : EveryStreamIsCutByBytes
every_stream_is_cut capacity versions history h s = is_cut (line (state_of capacity versions history) s) (order_all (opening capacity versions) history (order_opening capacity versions) s)

-- how many bytes were delivered after a delivery, where the greeting is gone
counts_over : (frames : List Frame) (n : ℕ) (l : Line) → l.greeting_left ≡ 0 → l.in_flight ≡ frames → HasBegun l.version frames l.begun → delivered (deliver_over frames n l) ≡ length (greeting l.version) + length (bytes_of l.version l.arrived) + min n (length (bytes_of l.version frames))
counts_over [] n l gone e h = omega (arith, h, gone)
counts_over (f ∷ rest) n l gone e h =
    elim (below_or_not n (size l.version f)) [
      | inl lt ↦ ap delivered (within_first f rest n l lt) ∙ omega (arith, lt, gone, size-cons l.version f rest)
      | inr le ↦
          ap delivered (behind_first f rest n l le)
          ∙ (counts_over rest (n - size l.version f) (arrive_first l (f ∷ rest)) refl refl (none_begun l.version rest)
          ∙ omega (arith, le, size-cons l.version f rest, bytes-append l.version l.arrived (f ∷ []), size-one l.version f))
    ]

counts : (count : ℕ) (l : Line) → IsInOrder l → delivered (deliver_on count l) ≡ delivered l + min count (bytes_in_flight l)
counts count l h =
    elim (below_or_not count l.greeting_left) [
      | inl lt ↦ ap delivered (within_greeting count l h.begun (omega (arith, lt))) ∙ omega (arith, lt, h.part)
      | inr le ↦
          ap delivered (behind_greeting count l le)
          ∙ (counts_over l.in_flight (l.begun + (count - l.greeting_left)) (record l { greeting_left = 0 }) refl refl h.begun
          ∙ omega (arith, le, h.part, begun_within l.version l.in_flight l.begun h.begun))
    ]

-- a delivery begins anew at the first frame in flight, whatever has begun of it
goes_on : (frames : List Frame) (m n : ℕ) (l : Line) → l.greeting_left ≡ 0 → l.in_flight ≡ frames → deliver_on n (deliver_over frames m l) ≡ deliver_over frames (m + n) l
goes_on [] m n l gone e = ap₂ (λ (fs : List Frame) (k : ℕ). deliver_over fs (l.begun + (n - l.greeting_left)) (record l { greeting_left = k })) e (let none : l.greeting_left - n ≡ l.greeting_left = omega (arith, gone) in none)
goes_on (f ∷ rest) m n l gone e =
    elim (below_or_not m (size l.version f)) [
      | inl lt ↦
          ap (deliver_on n) (within_first f rest m l lt)
          ∙ (ap₂ (λ (fs : List Frame) (k : ℕ). deliver_over fs k (record l { greeting_left = l.greeting_left - n; begun = m })) e (let more : m + (n - l.greeting_left) ≡ m + n = omega (arith, gone) in more)
          ∙ ap (λ (k : ℕ). deliver_over (f ∷ rest) (m + n) (record l { greeting_left = k })) (let none : l.greeting_left - n ≡ l.greeting_left = omega (arith, gone) in none))
      | inr le ↦
          ap (deliver_on n) (behind_first f rest m l le)
          ∙ (goes_on rest (m - size l.version f) n (arrive_first l (f ∷ rest)) refl refl
          ∙ (ap (λ (k : ℕ). deliver_over rest k (arrive_first l (f ∷ rest))) (omega (arith, le)) ∙ sym (behind_first f rest (m + n) l (omega (arith, le)))))
    ]

in_pieces : (m n : ℕ) (l : Line) → IsInOrder l → deliver_on n (deliver_on m l) ≡ deliver_on (m + n) l
in_pieces m n l h =
    elim (below_or_not m l.greeting_left) [
      | inl lt ↦
          ap (deliver_on n) (within_greeting m l h.begun (omega (arith, lt)))
          ∙ ap₂ (λ (k left : ℕ). deliver_over l.in_flight k (record l { greeting_left = left })) (let more : l.begun + (n - (l.greeting_left - m)) ≡ l.begun + (m + n - l.greeting_left) = omega (arith, lt) in more) (let left : l.greeting_left - m - n ≡ l.greeting_left - (m + n) = omega arith in left)
      | inr le ↦
          ap (deliver_on n) (behind_greeting m l le)
          ∙ (goes_on l.in_flight (l.begun + (m - l.greeting_left)) n (record l { greeting_left = 0 }) refl refl
          ∙ (ap (λ (k : ℕ). deliver_over l.in_flight k (record l { greeting_left = 0 })) (omega (arith, le)) ∙ sym (behind_greeting (m + n) l (omega (arith, le)))))
    ]

pub arrives_whole : (f : Frame) (rest : List Frame) (l : Line) → l.in_flight ≡ f ∷ rest → l.begun < size l.version f → arrive_on l ≡ deliver_on (l.greeting_left + (size l.version f - l.begun)) l
arrives_whole f rest l e lt =
    let n : ℕ = l.greeting_left + (size l.version f - l.begun) in
    let m : Line = record l { greeting_left = 0 } in
    ap (arrive_first l) e
    ∙ (sym (over_nothing rest (arrive_first l (f ∷ rest)) (none_begun l.version rest))
    ∙ (ap (λ (k : ℕ). deliver_over rest k (arrive_first l (f ∷ rest))) (omega (arith, lt))
    ∙ (sym (behind_first f rest (l.begun + (n - l.greeting_left)) m (omega (arith, lt)))
    ∙ (ap (λ (fs : List Frame). deliver_over fs (l.begun + (n - l.greeting_left)) m) (sym e)
    ∙ sym (behind_greeting n l (omega arith))))))

pub deliveries_add : DeliveriesAddUp
deliveries_add l h = record {
  counts = λ count. counts count l h;
  in_pieces = λ m n. in_pieces m n l h;
  arrives = λ f rest e. arrives_whole f rest l e (subst (λ (fs : List Frame). HasBegun l.version fs l.begun) e h.begun);
}
